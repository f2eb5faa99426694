-- The contract of the loop over assignments determines the answer, but for where in the work area a demanded message waits, and that message; where the
-- line is accepted the variables' image. The other bytes of the work area, those behind the variables' image, and after a refusal those of the variables
-- are left open: the job lends a copy, hands the image and the message over and clears the area.
use Prim.Native.Nat.{ℕ}
use native.Mathlib.Omega.{arith}
use mathlib.Core.Path.{◌≡◌, refl, sym, ap, ◌∙◌}
use mathlib.Core.List.{[]}
use lib.ListN.{length, take, drop}
use Rattle.stages.specs.Bytes.{Text}
use Rattle.stages.specs.Outcome.{Placed, done_at}
use Rattle.stages.specs.Images.{Pairs, is_name, held, flat, image, image_length}
use Rattle.stages.proofs.Images.{Bytes, bytes_take}
use Rattle.stages.proofs.Tables.{vars_of, table_canonical}
use Rattle.expand_add.proofs.Waiting.{waits_length}
use Rattle.table_store.proofs.Holding.{vars_used_is}
use Rattle.assign_line.specs.Answers.{IsLeft, LineDemands, LineStops, LineSays}
use Rattle.std.specs.Prelude.{Result, Ok, Err}
use Rattle.text.proofs.Refusals.{refusal_same}
use Rattle.text.specs.declared.refusal.Refusal.{Refusal}
use Rattle.text.specs.Refusals.{refusal_number}
use Rattle.expand_add.specs.declared.answers.Stop.{Stop}
use Rattle.expand_add.specs.declared.answers.Stop.TheVariants.{Refused, Demanded}
use Rattle.expand_add.specs.declared.answers.LineStop.{LineStop}

-- an answer without where its message waits, and the message
abbrev pub stop_apart : Stop → Stop
stop_apart (Refused e) = Refused e
stop_apart (Demanded from len) = Demanded 0 len

abbrev pub apart : Result ℕ LineStop → Result ℕ LineStop
apart (Ok vars_used) = Ok vars_used
apart (Err e) = Err (record { stop = stop_apart e.stop; place = e.place })

abbrev pub waiting_by : Text → Stop → Text
waiting_by work (Refused e) = []
waiting_by work (Demanded from len) = take len (drop from work)

abbrev pub waiting : Text → Result ℕ LineStop → Text
waiting work (Ok vars_used) = []
waiting work (Err e) = waiting_by work e.stop

-- what an acceptance leaves
abbrev pub Same : Result ℕ LineStop → Text → Text → Type 0
Same (Ok vars_used) vars vars' = take vars_used vars ≡ take vars_used vars'
Same (Err e) vars vars' = Unit {0}

abbrev left : ℕ → Result ℕ LineStop
left vars_used = Ok vars_used

abbrev stop : Stop → ℕ → Result ℕ LineStop
stop why place = Err (record { stop = why; place = place })

module _ (room : ℕ) (o : Placed Pairs) (vars vars' : Text) where
  done_same : (vars_used varsUsed' : ℕ) → Bytes vars → Bytes vars' → IsLeft room o vars vars_used → IsLeft room o vars' varsUsed'
      → (left vars_used ≡ left varsUsed') × (take vars_used vars ≡ take vars_used vars')
  done_same vars_used varsUsed' b b' g h =
      let e = g.is in
      let f = h.is in
      let v : held (take vars_used vars) ≡ held (take varsUsed' vars') = cc in
      let k : vars_used ≡ varsUsed' =
      vars_used_is room vars vars_used g.holds ∙ ap (λ (x : Pairs). image_length (flat x)) v ∙ sym (vars_used_is room vars' varsUsed' h.holds) in (
        ap left k,
        table_canonical is_name (take vars_used vars) (vars_of (take vars_used vars) g.holds.formed) (bytes_take vars_used vars b)
            ∙ ap (λ (x : Pairs). image (flat x)) v
            ∙ sym (table_canonical is_name (take varsUsed' vars') (vars_of (take varsUsed' vars') h.holds.formed) (bytes_take varsUsed' vars' b'))
            ∙ ap (λ (i : ℕ). take i vars') (sym k),
      )

  module _ (work work' : Text) where
    demanded_same : {from len place from' len' place' : ℕ} → LineDemands o work from len place → LineDemands o work' from' len' place'
        → (stop (Demanded 0 len) place ≡ stop (Demanded 0 len') place') × (take len (drop from work) ≡ take len' (drop from' work'))
    demanded_same {from} {len} {place} {from'} {len'} {place'} g h =
        let e = g.is in
        let f = h.is in
        let m : g.message ≡ h.message = cc in
        let n : len ≡ len' = sym (waits_length g.waits) ∙ ap length m ∙ waits_length h.waits in
        let p : place ≡ place' = cc in
        (ap (λ (i : ℕ). stop (Demanded 0 i) place) n ∙ ap (stop (Demanded 0 len')) p, sym g.waits.is ∙ m ∙ h.waits.is)

    stopped_same : (e f : Stop) (place place' : ℕ) → LineStops o work e place → LineStops o work' f place'
        → (stop (stop_apart e) place ≡ stop (stop_apart f) place') × (waiting_by work e ≡ waiting_by work' f)
    stopped_same (Refused e) (Refused f) place place' g h =
        let n : refusal_number e ≡ refusal_number f = cc in
        let p : place ≡ place' = cc in
        (ap (λ (w : Refusal). stop (Refused w) place) (refusal_same e f n) ∙ ap (stop (Refused f)) p, refl)
    stopped_same (Demanded from len) (Demanded from' len') place place' g h = demanded_same g h
    stopped_same (Refused e) (Demanded from len) place place' g h = let f = h.is in absurd (let z : ◌≡◌ {A = ℕ} 0 1 = cc in omega arith)
    stopped_same (Demanded from len) (Refused e) place place' g h = let f = g.is in absurd (let z : ◌≡◌ {A = ℕ} 0 1 = cc in omega arith)

    done_stopped : {A : Type 0} (e : Stop) (place : ℕ) {x : Pairs} → o ≡ done_at x → LineStops o work e place → A
    done_stopped (Refused e) place g h = absurd (let z : ◌≡◌ {A = ℕ} 0 1 = cc in omega arith)
    done_stopped (Demanded from len) place g h = let f = h.is in absurd (let z : ◌≡◌ {A = ℕ} 0 1 = cc in omega arith)

    stopped_done : {A : Type 0} (e : Stop) (place : ℕ) {x : Pairs} → o ≡ done_at x → LineStops o work' e place → A
    stopped_done (Refused e) place g h = absurd (let z : ◌≡◌ {A = ℕ} 0 1 = cc in omega arith)
    stopped_done (Demanded from len) place g h = let f = h.is in absurd (let z : ◌≡◌ {A = ℕ} 0 1 = cc in omega arith)

    pub assign_line_determined : (r s : Result ℕ LineStop) → Bytes vars → Bytes vars' → LineSays room o vars work r → LineSays room o vars' work' s
        → (apart r ≡ apart s) × Same r vars vars' × (waiting work r ≡ waiting work' s)
    assign_line_determined (Ok n) (Ok n') b b' g h = let d = done_same n n' b b' g h in (d.0, d.1, refl)
    assign_line_determined (Err e) (Err f) b b' g h =
        let k = stopped_same e.stop f.stop e.place f.place g h in
        (k.0, tt, k.1)
    assign_line_determined (Ok n) (Err e) b b' g h = stopped_done e.stop e.place g.is h
    assign_line_determined (Err e) (Ok n) b b' g h = done_stopped e.stop e.place h.is g

-- The contract of the loop over words determines the answer, but for where in the work area a demanded message waits, and that message; where the line is
-- accepted the whole output and the variables' image. The other bytes of the work area, those behind the variables' image, and after a refusal those of
-- the variables and the output are left open: the jobs lend copies, hand the message over and clear the area.
use Prim.Native.Nat.{ℕ}
use native.Mathlib.Omega.{arith}
use mathlib.Core.Path.{◌≡◌, refl, sym, ap, ◌∙◌}
use mathlib.Core.List.{[]}
use lib.ListN.{length, take, drop}
use Rattle.stages.specs.Bytes.{Text}
use Rattle.stages.specs.Outcome.{Placed, done_at}
use Rattle.stages.specs.Images.{Pairs, is_name, held, flat, image, image_length}
use Rattle.stages.specs.Line.{Fields}
use Rattle.stages.specs.Call.{over}
use Rattle.stages.proofs.Images.{Bytes, bytes_take}
use Rattle.stages.proofs.Tables.{vars_of, table_canonical}
use Rattle.expand_add.proofs.Waiting.{waits_length}
use Rattle.table_store.proofs.Holding.{vars_used_is}
use Rattle.expand_line.specs.Answers.{IsLine, LineDemands, LineStops, LineSays}
use Rattle.std.specs.Prelude.{Result, Ok, Err}
use Rattle.text.proofs.Refusals.{refusal_same}
use Rattle.text.specs.Refusals.{refusal_number}
use Rattle.text.specs.declared.refusal.Refusal.{Refusal}
use Rattle.expand_add.specs.declared.answers.Stop.{Stop}
use Rattle.expand_add.specs.declared.answers.Stop.TheVariants.{Refused, Demanded}
use Rattle.expand_add.specs.declared.answers.LineStop.{LineStop}
use Rattle.expand_line.specs.declared.LineDone.{LineDone}

-- an answer without where its message waits, and the message
abbrev pub stop_apart : Stop → Stop
stop_apart (Refused e) = Refused e
stop_apart (Demanded from len) = Demanded 0 len

abbrev pub apart : Result LineDone LineStop → Result LineDone LineStop
apart (Ok d) = Ok d
apart (Err e) = Err (record { stop = stop_apart e.stop; place = e.place })

abbrev pub waiting_by : Text → Stop → Text
waiting_by work (Refused e) = []
waiting_by work (Demanded from len) = take len (drop from work)

abbrev pub waiting : Text → Result LineDone LineStop → Text
waiting work (Ok d) = []
waiting work (Err e) = waiting_by work e.stop

-- what an acceptance leaves
abbrev pub Same : Result LineDone LineStop → Text → Text → Text → Text → Type 0
Same (Ok d) vars vars' out out' = (take d.vars_used vars ≡ take d.vars_used vars') × (out ≡ out')
Same (Err e) vars vars' out out' = Unit {0}

abbrev line : ℕ → ℕ → Result LineDone LineStop
line len vars_used = Ok (record { used = len; vars_used = vars_used })

abbrev stop : Stop → ℕ → Result LineDone LineStop
stop why place = Err (record { stop = why; place = place })

module _ (room : ℕ) (o : Placed (Fields × Pairs)) (old vars vars' out out' : Text) where
  done_same : (len vars_used len' varsUsed' : ℕ) → Bytes vars → Bytes vars' → IsLine room o vars old out len vars_used → IsLine room o vars'
      old out' len' varsUsed'
      → (line len vars_used ≡ line len' varsUsed') × (take vars_used vars ≡ take vars_used vars') × (out ≡ out')
  done_same len vars_used len' varsUsed' b b' g h =
      let e = g.is in
      let f = h.is in
      let p : ◌≡◌ {A = Fields × Pairs} (g.fields, held (take vars_used vars)) (h.fields, held (take varsUsed' vars')) = cc in
      let l : g.fields ≡ h.fields = ap (λ (x : Fields × Pairs). x.0) p in
      let v : held (take vars_used vars) ≡ held (take varsUsed' vars') = ap (λ (x : Fields × Pairs). x.1) p in
      let n : len ≡ len' = g.long ∙ ap (λ (x : Fields). length (image x)) l ∙ sym h.long in
      let k : vars_used ≡ varsUsed' =
      vars_used_is room vars vars_used g.holds ∙ ap (λ (x : Pairs). image_length (flat x)) v ∙ sym (vars_used_is room vars' varsUsed' h.holds) in (
        ap (λ (i : ℕ). line i vars_used) n ∙ ap (line len') k,
        table_canonical is_name (take vars_used vars) (vars_of (take vars_used vars) g.holds.formed) (bytes_take vars_used vars b)
            ∙ ap (λ (x : Pairs). image (flat x)) v
            ∙ sym (table_canonical is_name (take varsUsed' vars') (vars_of (take varsUsed' vars') h.holds.formed) (bytes_take varsUsed' vars' b'))
            ∙ ap (λ (i : ℕ). take i vars') (sym k),
        g.stands ∙ ap (λ (x : Fields). over (image x) old) l ∙ sym h.stands,
      )

  module _ (work work' : Text) where
    demanded_same : {from len place from' len' place' : ℕ} → LineDemands o work from len place → LineDemands o work' from' len' place'
        → (stop (Demanded 0 len) place ≡ stop (Demanded 0 len') place') × (take len (drop from work) ≡ take len' (drop from' work'))
    demanded_same {from} {len} {place} {from'} {len'} {place'} g h =
        let e = g.is in
        let f = h.is in
        let m : g.message ≡ h.message = cc in
        let n : len ≡ len' = sym (waits_length g.waits) ∙ ap length m ∙ waits_length h.waits in
        let p : place ≡ place' = cc in
        (ap (λ (i : ℕ). stop (Demanded 0 i) place) n ∙ ap (stop (Demanded 0 len')) p, sym g.waits.is ∙ m ∙ h.waits.is)

    stopped_same : (e f : Stop) (place place' : ℕ) → LineStops o work e place → LineStops o work' f place'
        → (stop (stop_apart e) place ≡ stop (stop_apart f) place') × (waiting_by work e ≡ waiting_by work' f)
    stopped_same (Refused e) (Refused f) place place' g h =
        let n : refusal_number e ≡ refusal_number f = cc in
        let p : place ≡ place' = cc in
        (ap (λ (w : Refusal). stop (Refused w) place) (refusal_same e f n) ∙ ap (stop (Refused f)) p, refl)
    stopped_same (Demanded from len) (Demanded from' len') place place' g h = demanded_same g h
    stopped_same (Refused e) (Demanded from len) place place' g h = let f = h.is in absurd (let z : ◌≡◌ {A = ℕ} 0 1 = cc in omega arith)
    stopped_same (Demanded from len) (Refused e) place place' g h = let f = g.is in absurd (let z : ◌≡◌ {A = ℕ} 0 1 = cc in omega arith)

    done_stopped : {A : Type 0} (e : Stop) (place : ℕ) {x : Fields × Pairs} → o ≡ done_at x → LineStops o work e place → A
    done_stopped (Refused e) place g h = absurd (let z : ◌≡◌ {A = ℕ} 0 1 = cc in omega arith)
    done_stopped (Demanded from len) place g h = let f = h.is in absurd (let z : ◌≡◌ {A = ℕ} 0 1 = cc in omega arith)

    stopped_done : {A : Type 0} (e : Stop) (place : ℕ) {x : Fields × Pairs} → o ≡ done_at x → LineStops o work' e place → A
    stopped_done (Refused e) place g h = absurd (let z : ◌≡◌ {A = ℕ} 0 1 = cc in omega arith)
    stopped_done (Demanded from len) place g h = let f = h.is in absurd (let z : ◌≡◌ {A = ℕ} 0 1 = cc in omega arith)

    pub expand_line_determined : (r s : Result LineDone LineStop) → Bytes vars → Bytes vars' → LineSays room o vars old out work r
        → LineSays room o vars' old out' work' s → (apart r ≡ apart s) × Same r vars vars' out out' × (waiting work r ≡ waiting work' s)
    expand_line_determined (Ok d) (Ok d') b b' g h =
        let k = done_same d.used d.vars_used d'.used d'.vars_used b b' g h in
        (k.0, (k.1, k.2), refl)
    expand_line_determined (Err e) (Err f) b b' g h =
        let k = stopped_same e.stop f.stop e.place f.place g h in
        (k.0, tt, k.1)
    expand_line_determined (Ok d) (Err e) b b' g h = stopped_done e.stop e.place g.is h
    expand_line_determined (Err e) (Ok d) b b' g h = done_stopped e.stop e.place h.is g

-- The ways of what holds a text: a quote, an operand that is units or not, an arithmetic text.
use Prim.Native.Nat.{ℕ, suc, ◌+◌, ◌*◌, ◌≤◌, ◌<◌}
use native.Mathlib.Omega.{arith}
use native.Mathlib.Numerals.{add-one}
use mathlib.Core.Path.{◌≡◌, refl, sym, ap, ◌∙◌, subst}
use mathlib.Core.Bool.{Bool, true, false, ◌&&◌}
use mathlib.Core.List.{[], ◌∷◌, ◌++◌, append_assoc}
use borrow.Author.Tests.{ne_eqb}
use lib.Dec.{eqb}
use lib.ListN.{length, take, drop}
use lib.Seq.{length-take-le}
use Rattle.stages.specs.Numbers.{row_limit}
use Rattle.stages.specs.Bytes.{Text, all, not_zero}
use Rattle.stages.specs.Outcome.{refused, demands, done, ◌>>=◌, pick}
use Rattle.stages.specs.Images.{Pairs, texts, is_name, flat, held, held_texts}
use Rattle.stages.specs.Syntax.{Param, Form, Parts, arith as sums}
use Rattle.stages.specs.Read.{Taken, parts}
use Rattle.stages.specs.Units.{Mark, Q, N, Row, bytes}
use Rattle.stages.specs.Params.{Lent}
use Rattle.stages.specs.Expand.{Made, parameter, in_quotes, expand}
use Rattle.stages.proofs.Texts.{all_drop}
use Rattle.stages.proofs.Images.{image_fine, pairs_of_some}
use Rattle.stages.proofs.Tables.{table_fine, table_length}
use Rattle.stages.proofs.Outcomes.{safe_done}
use Rattle.stages.proofs.Safe.{NoZero, SafeParts, parts_safe}
use Rattle.stages.proofs.SafeRows.{Kept, SafeLent, bytes_safe, expand_safe}
use Rattle.stages.proofs.Rooms.{fit_ok, fit_full}
use Rattle.text.specs.Rows.{row_bytes, row_of}
use Rattle.text.proofs.Rows.{row_of_row_bytes}
use Rattle.row.specs.Stands.{Stands}
use Rattle.read_mode.specs.Modes.{mode_of}
use Rattle.read_mode.specs.declared.Mode.{Mode}
use Rattle.read_mode.specs.declared.Mode.TheVariants.{Arith}
use Rattle.read_line.specs.Says.{ReadTo, ReadSays}
use Rattle.table.specs.Places as places
use Rattle.table.specs.Around.{lent_of}
use Rattle.expand_add.specs.Added.{Adds}
use Rattle.expand_form.specs.Plans.{missing_held, plan_of, operand_mark, settled, finished}
use Rattle.expand_add.specs.Steps.{placed, quoted, summed, summing}
use Rattle.expand_operand.specs.Operands.{IsNamed, Storable}
use Rattle.expand_text.specs.Items.{message_at, behind, units_in_quotes}
use Rattle.table_store.specs.Holding.{Holds}
use Rattle.expand_add.specs.Answers.{Ready, IsRow, IsDemand, Ends, Answers, Says, Finishes}
use Rattle.std.specs.Prelude.{Result, Ok, Err}
use Rattle.text.specs.Refusals.{refusal_number}
use Rattle.text.specs.declared.refusal.Refusal.{Refusal}
use Rattle.text.specs.declared.refusal.Refusal.TheVariants.{TooManyUnits}
use Rattle.expand_add.specs.declared.answers.Row as answer
use Rattle.expand_add.specs.declared.answers.Stop.{Stop}
use Rattle.expand_add.specs.declared.answers.Stop.TheVariants as stop
use Rattle.expand_add.specs.Expanded.{Expanded}
use Rattle.expand_form.specs.declared.Plan.{Plan}
use Rattle.expand_form.specs.declared.Plan.TheVariants as plan
use Rattle.expand_form.specs.declared.Unused.{Unused}
use Rattle.expand_form.specs.declared.Used.{Used}
use Rattle.expand_form.proofs.Forms.{unused_operand, used_operand, refused_operand}
use Rattle.expand_add.proofs.Steps.{placed_refused, placed_demands}
use Rattle.table_store.proofs.Holding.{vars_held}
use Rattle.expand_add.proofs.Holding.{says_known, answers_known, adds_finishes, finishes_same, finishes_answers}
use Rattle.expand_add.proofs.Standing.{front, stands_inside}
use Rattle.expand_add.proofs.Waiting.{waits_nest}

-- the variables that stand in their bytes, as the stages varsUsed them
kept_held : (varsRoom : ℕ) (vars : Text) (vars_used : ℕ) → Holds varsRoom vars vars_used → Kept varsRoom (held (take vars_used vars))
kept_held varsRoom vars vars_used w =
    let t = vars_held varsRoom vars vars_used w in
    let e = table_length is_name (take vars_used vars) t in
    let l = length-take-le vars_used vars w.inside in
    let f = w.fits in
    let s = t.small in
    record { fine = table_fine is_name (take vars_used vars) t; passes = t.passes; rises = t.rises; fits = omega arith; small = omega arith }

-- what is lent to a text: its variables stand in their bytes, and no directory or positional parameter holds a zero byte
pub record Lends (lent : Lent) (vars : Text) (vars_used : ℕ) : Type 0 where
  pub holds : Holds lent.room vars vars_used
  pub safe : SafeLent lent

pub lending : {varsRoom : ℕ} {shouts : Bool} {vars : Text} {vars_used : ℕ} {homes : Text} (params : Text) → Holds varsRoom vars vars_used → places.Table homes
    → places.Listed params → Lends (lent_of varsRoom shouts homes params) vars vars_used
lending {homes = homes} params w h l =
    record {
      holds = w;
      safe = record {
        homes = image_fine homes (flat (held homes)) (pairs_of_some (texts homes) (held homes) h.pairs);
        params = image_fine params (held_texts params) l;
      };
    }

pub row_at_lem : (row : Row) (area : Text) (n : ℕ) → Stands row area → length row ≡ n → row_of (take (2 * n) area) ≡ row
row_at_lem row area n s e = ap row_of (front row area n s e) ∙ row_of_row_bytes row

-- The row of a text: the bytes at the front, none of them zero.
module _ {lent : Lent} {text : Text} {at : ℕ} {mode : Mode} {d units size : ℕ} {vars₀ : Text} {vars_used : ℕ} (y : Ready text at mode d units size)
    (w : Lends lent vars₀ vars_used) where
  tree_safe : SafeParts y.tree
  tree_safe = (safe_done (parts_safe (mode_of mode) d (drop at text) (all_drop not_zero at text y.clean)) y.is).clean

  row_clean : (k : Mark) (row : Row) (u : Pairs) (came : Bool) → expand lent y.tree k 0 (held (take vars_used vars₀)) ≡ done (row, u, came)
      → NoZero (bytes row)
  row_clean k row u came e =
      bytes_safe row (safe_done (expand_safe lent w.safe y.tree tree_safe k 0 (held (take vars_used vars₀))
      (kept_held lent.room vars₀ vars_used w.holds)) e).0

  -- so it may be stored under a name
  pub row_storable : (k : Mark) {area us : Text} {count left : ℕ} {came : Bool}
      → IsRow lent.room 0 (expand lent y.tree k 0 (held (take vars_used vars₀))) area us count left came → (p : Param) → IsNamed p
      → Storable p area count
  row_storable k {area} {us} {count} {left} {came} o p i =
      let e = row_at_lem o.row area count o.stands o.counts in
      record {
        few = omega (arith, o.fits);
        inside = stands_inside o.row area count o.stands o.counts;
        is = ap row_bytes e ∙ sym (front o.row area count o.stands o.counts);
        clean = ap (λ (r : Row). all not_zero (bytes r)) e ∙ row_clean k o.row (held (take left us)) came o.is;
        named = i;
      }

-- what a reader answers, once its case is known
pub reading_known : (text : Text) (at : ℕ) (o : Taken) {r k : Result ℕ Refusal} → ReadSays text at o r → r ≡ k → ReadSays text at o k
reading_known text at o h e = subst (λ (k : Result ℕ Refusal). ReadSays text at o k) e h

-- A quote.

pub taken_back : (came : Bool) (count : ℕ) → came ≡ true → eqb count 0 ≡ true → 0 ≡ units_in_quotes came count
taken_back came count e f = rw (e, f)

pub kept_first : (came : Bool) (count : ℕ) → came ≡ false → count + 1 ≡ units_in_quotes came count
kept_first came count e = rw e (add-one count)

pub kept_second : (came : Bool) (count : ℕ) → eqb count 0 ≡ false → count + 1 ≡ units_in_quotes came count
kept_second true count e = rw e (add-one count)
kept_second false count e = add-one count

quotes_length : (came : Bool) (row : Row) → length (in_quotes came row) ≡ units_in_quotes came (length row)
unfolding in_quotes
quotes_length false row = refl
quotes_length true [] = refl
quotes_length true (c ∷ row) = rw (ne_eqb (suc (length row)) 0 (λ h. absurd (omega arith)))

quotes_short : (came : Bool) (count : ℕ) → units_in_quotes came count ≤ suc count
quotes_short came count = go (came && eqb count 0)
  where
    go : (x : Bool) → pick x 0 (suc count) ≤ suc count
    go true = omega arith
    go false = omega arith

-- the row after an N, and behind it what it is not
after_mark : (row : Row) (ys z : Text) → Stands row ys → Stands (N ∷ row) (0 ∷ 0 ∷ (ys ++ z))
unfolding row_bytes
after_mark row ys z s = record { rest = s.rest ++ z; is = ap (λ (p : Text). 0 ∷ 0 ∷ (p ++ z)) s.is ∙ simp append_assoc }

quotes_stand : (came : Bool) (row : Row) (ys z : Text) → Stands row ys → Stands (in_quotes came row) (0 ∷ 0 ∷ (ys ++ z))
unfolding in_quotes row_bytes
quotes_stand false row ys z s = after_mark row ys z s
quotes_stand true [] ys z s = record { rest = 0 ∷ 0 ∷ (ys ++ z); is = refl }
quotes_stand true (c ∷ row) ys z s = after_mark (c ∷ row) ys z s

module _ {lent : Lent} {text : Text} {at : ℕ} {mode : Mode} {d units size : ℕ} {vars₀ : Text} {vars_used : ℕ} (y : Ready text at mode d units size)
    (w : Lends lent vars₀ vars_used) where
  abbrev Quoted : Text → Text → Expanded → Type 0
  Quoted area vars g =
      Says lent.room text at units (λ q. quoted lent q units (held (take vars_used vars₀))) (parts (mode_of mode) d (drop at text)) area vars g

  pub quote_full : (area vars : Text) → row_limit ≤ units → Quoted area vars (Err (stop.Refused TooManyUnits))
  unfolding quoted
  quote_full area vars l = rw y.is (rw (fit_full units 1 (omega arith)))

  pub quote_inner : units < row_limit → (size' : ℕ) → size' + 2 ≡ size → Ready text at mode d (units + 1) size'
  quote_inner l size' e =
      let b = y.area in
      record { start = y.start; opens = y.opens; few = omega arith; area = omega arith; clean = y.clean; tree = y.tree; rest = y.rest; is = y.is }

-- its text, expanded in what is lent after the N
pub record QuoteExpanded (lent : Lent) (text : Text) (at : ℕ) (mode : Mode) (d units size : ℕ) (vars₀ : Text) (vars_used : ℕ) (ys us : Text)
    (g : Expanded) : Type 0 where
  pub ready : Ready text at mode d units size
  pub lends : Lends lent vars₀ vars_used
  pub room : units < row_limit
  pub says : Says lent.room text at (units + 1) (λ t. expand lent t Q (units + 1) (held (take vars_used vars₀)))
      (parts (mode_of mode) d (drop at text)) ys us g

pub quote_expanded : {lent : Lent} {text : Text} {at : ℕ} {mode : Mode} {d units size : ℕ} {vars₀ : Text} {vars_used : ℕ}
    → Ready text at mode d units size → Lends lent vars₀ vars_used → units < row_limit → (ys us : Text) (g : Expanded)
    → Says lent.room text at (units + 1) (λ t. expand lent t Q (units + 1) (held (take vars_used vars₀))) (parts (mode_of mode) d (drop at text)) ys us g
    → QuoteExpanded lent text at mode d units size vars₀ vars_used ys us g
quote_expanded y w l ys us g s = record { ready = y; lends = w; room = l; says = s }

module _ {lent : Lent} {text : Text} {at : ℕ} {mode : Mode} {d units size : ℕ} {vars₀ : Text} {vars_used : ℕ} {ys us : Text} {g : Expanded}
    (x : QuoteExpanded lent text at mode d units size vars₀ vars_used ys us g) where
  abbrev QuotedIn : Text → Text → Expanded → Type 0
  QuotedIn area vars r = Quoted x.ready x.lends area vars r

  inside : Answers lent.room text at (units + 1) (expand lent x.ready.tree Q (units + 1) (held (take vars_used vars₀))) x.ready.rest ys us g
  inside = says_known lent.room text at (units + 1) (λ t. expand lent t Q (units + 1) (held (take vars_used vars₀))) ys us g x.says x.ready.is

  quote_made : (o : Made) → expand lent x.ready.tree Q (units + 1) (held (take vars_used vars₀)) ≡ o → quoted lent x.ready.tree units
      (held (take vars_used vars₀)) ≡ ◌>>=◌ {B = Row × Pairs × Bool} o (λ r. done (in_quotes r.2 r.0, r.1, false))
  unfolding quoted
  quote_made o e = let l = x.room in rw (fit_ok units 1 (omega arith), e)

  quote_refused : (area : Text) {e : Refusal} → g ≡ Err (stop.Refused e) → QuotedIn area us (Err (stop.Refused e))
  quote_refused area {e} q =
      let b : expand lent x.ready.tree Q (units + 1) (held (take vars_used vars₀)) ≡ refused (refusal_number e) =
      answers_known lent.room text at (units + 1) _ x.ready.rest ys us inside q in
      rw x.ready.is (quote_made (refused (refusal_number e)) b)

  module _ {from len : ℕ} (q : g ≡ Err (stop.Demanded from len)) where
    demand_inside : IsDemand (expand lent x.ready.tree Q (units + 1) (held (take vars_used vars₀))) ys from len
    demand_inside = answers_known lent.room text at (units + 1) _ x.ready.rest ys us inside q

    quote_waits : from + len ≤ length ys
    quote_waits = demand_inside.waits.fits

    quote_demanded : (a z : Text) → 2 ≤ length a → QuotedIn (take 2 a ++ (ys ++ z)) us (Err (stop.Demanded (2 + from) len))
    quote_demanded a z l =
        let i = demand_inside in
        rw x.ready.is
        (record { message = i.message; is = quote_made (demands i.message) i.is; waits = waits_nest (take 2 a) z (length-take-le 2 a l) i.waits })

  pub quote_stopped : (s : Stop) → g ≡ Err s → (a z : Text) → 2 ≤ length a → QuotedIn (take 2 a ++ (ys ++ z)) us (Err (behind 2 s))
  quote_stopped (stop.Refused e) q a z l = quote_refused (take 2 a ++ (ys ++ z)) q
  quote_stopped (stop.Demanded from len) q a z l = quote_demanded q a z l

  pub quote_waiting : (s : Stop) → g ≡ Err s → message_at s ≤ length ys
  quote_waiting (stop.Refused e) q = omega arith
  quote_waiting (stop.Demanded from len) q = omega (arith, quote_waits q)

  module _ {r : answer.Row} (q : g ≡ Ok r) where
    row_inside : IsRow lent.room (units + 1) (expand lent x.ready.tree Q (units + 1) (held (take vars_used vars₀))) ys us r.units r.vars_used r.of_none
        × Ends text at r.next x.ready.rest
    row_inside = answers_known lent.room text at (units + 1) _ x.ready.rest ys us inside q

    pub quote_fits : units + 1 + r.units ≤ row_limit
    quote_fits = row_inside.0.fits

    pub quote_row : {k : ℕ} → k ≡ units_in_quotes r.of_none r.units → (a b z : Text) → a ≡ 0 ∷ 0 ∷ b
        → QuotedIn (take 2 a ++ (ys ++ z)) us (Ok (record { units = k; next = r.next; vars_used = r.vars_used; of_none = false }))
    quote_row {k} o a b z e =
        let i = row_inside.0 in
        let f = i.fits in
        let l = quotes_short r.of_none r.units in
        rw x.ready.is (
          record {
            row = in_quotes r.of_none i.row;
            is = quote_made (done (i.row, held (take r.vars_used us), r.of_none)) i.is;
            counts = quotes_length r.of_none i.row ∙ ap (units_in_quotes r.of_none) i.counts ∙ sym o;
            stands = subst (λ (p : Text). Stands (in_quotes r.of_none i.row) (take 2 p ++ (ys ++ z))) (sym e) (quotes_stand r.of_none i.row ys z i.stands);
            fits = omega arith;
            holds = i.holds;
          },
          row_inside.1,
        )

-- An operand.

module _ {lent : Lent} {text : Text} {at : ℕ} {mode : Mode} {d size : ℕ} {vars₀ : Text} {vars_used : ℕ}
    (units : ℕ) (params : Text) (x : Param) (form : Form) (m : Mark) (y : Ready text at mode d 0 size) (w : Lends lent vars₀ vars_used)
    (l : lent.params ≡ held_texts params) {own : Result Plan Refusal} (e : own ≡ plan_of form (missing_held (take vars_used vars₀) params x) lent.shouts) where
  abbrev v : Pairs
  v = held (take vars_used vars₀)

  abbrev given : Made
  given = placed units (parameter lent (λ k u. expand lent y.tree k 0 u) x form m v)

  abbrev Given : Text → Text → Expanded → Type 0
  Given area vars g =
      Says lent.room text at units (λ q. placed units (parameter lent (λ k u. expand lent q k 0 u) x form m v))
      (parts (mode_of mode) d (drop at text)) area vars g

  -- what the leaf finishes, where the operand ends at `next`
  finished_given : (next : ℕ) → Ends text at next y.rest → {made : Made} → given ≡ made → (area vars : Text) (f : Expanded)
      → Finishes lent.room units made next area vars f → Given area vars f
  finished_given next t q area vars f h =
      rw y.is (finishes_answers lent.room text at units given next y.rest area vars f (finishes_same lent.room units next area vars f (sym q) h) t)

  pub unused_fault : (area vars : Text) {b : ℕ} → parts (mode_of mode) d (drop at text) ≡ refused b → (g : Expanded) → Given area vars g
  unused_fault area vars {b} q g =
      let u : ◌≡◌ {A = Taken} (refused b) (done (y.tree, y.rest)) = sym q ∙ y.is in
      let z : ◌≡◌ {A = ℕ} 0 1 = cc in
      absurd (omega arith)

  -- E14: refused before the operand is looked at
  pub plan_refused : {b : Refusal} → own ≡ Err b → (area vars : Text) → Given area vars (Err (stop.Refused b))
  plan_refused {b} n area vars =
      rw y.is
      (ap (placed units) (refused_operand lent (λ k u. expand lent y.tree k 0 u) x m (take vars_used vars₀) params l form e n)
      ∙ placed_refused units (refused (refusal_number b)) (refusal_number b) refl)

  pub unused_given : {what : Unused} → own ≡ Ok (plan.Unused what) → {next : ℕ} → ReadTo text at (parts (mode_of mode) d (drop at text)) next
      → (area : Text) (g : Expanded) → Adds units (record { next = next; vars_used = vars_used; of_none = false }) (settled what lent x m v) area g
      → Given area vars₀ g
  unused_given {what} n {next} r area g h =
      let u : ◌≡◌ {A = Taken} (done (r.tree, drop next text)) (done (y.tree, y.rest)) = sym r.is ∙ y.is in
      let z : ◌≡◌ {A = Parts × Text} (r.tree, drop next text) (y.tree, y.rest) = cc in
      finished_given next (record { ends = ap (λ (p : Parts × Text). p.1) z; onward = r.onward; within = r.within })
      (ap (placed units) (unused_operand lent (λ k u. expand lent y.tree k 0 u) x m (take vars_used vars₀) params l form e n))
      area vars₀ g
      (adds_finishes lent.room units (record { next = next; vars_used = vars_used; of_none = false }) (settled what lent x m v) area vars₀ g h
      w.holds)

-- an operand that was expanded for a plan that uses it
pub record OperandExpanded (lent : Lent) (text : Text) (at : ℕ) (mode : Mode) (d size : ℕ) (vars₀ : Text) (vars_used : ℕ) (params : Text)
    (x : Param) (units : ℕ) (form : Form) (m : Mark) (what : Used) (ys us : Text) (g : Expanded) : Type 0 where
  pub ready : Ready text at mode d 0 size
  pub lends : Lends lent vars₀ vars_used
  pub listed : lent.params ≡ held_texts params
  pub own : Result Plan Refusal
  pub known : own ≡ Ok (plan.Used what)
  pub planned : own ≡ plan_of form (missing_held (take vars_used vars₀) params x) lent.shouts
  pub mark : Mark
  pub is : mark ≡ operand_mark what m
  pub says : Says lent.room text at 0 (λ p. expand lent p mark 0 (held (take vars_used vars₀))) (parts (mode_of mode) d (drop at text)) ys us g

pub operand_expanded : {lent : Lent} {text : Text} {at : ℕ} {mode : Mode} {d size : ℕ} {vars₀ : Text} {vars_used : ℕ} (params : Text) (x : Param)
    (units : ℕ) (form : Form) (m : Mark) (what : Used) → Ready text at mode d 0 size → Lends lent vars₀ vars_used → lent.params ≡ held_texts params
    → Ok (plan.Used what) ≡ plan_of form (missing_held (take vars_used vars₀) params x) lent.shouts → {mark : Mark} → mark ≡ operand_mark what m
    → (ys us : Text) (g : Expanded)
    → Says lent.room text at 0 (λ p. expand lent p mark 0 (held (take vars_used vars₀))) (parts (mode_of mode) d (drop at text)) ys us g
    → OperandExpanded lent text at mode d size vars₀ vars_used params x units form m what ys us g
operand_expanded params x units form m what y w l e {mark} i ys us g s =
    record { ready = y; lends = w; listed = l; own = Ok (plan.Used what); known = refl; planned = e; mark = mark; is = i; says = s }

module _ {lent : Lent} {text : Text} {at : ℕ} {mode : Mode} {d size : ℕ} {vars₀ : Text} {vars_used : ℕ} {params : Text}
    {p : Param} {units : ℕ} {form : Form} {m : Mark} {what : Used} {ys us : Text} {g : Expanded}
    (x : OperandExpanded lent text at mode d size vars₀ vars_used params p units form m what ys us g) where
  abbrev GivenIn : Text → Text → Expanded → Type 0
  GivenIn area vars r = Given units params p form m x.ready x.lends x.listed x.planned area vars r

  abbrev given_in : Made
  given_in = given units params p form m x.ready x.lends x.listed x.planned

  operand_answer : Answers lent.room text at 0 (expand lent x.ready.tree x.mark 0 (held (take vars_used vars₀))) x.ready.rest ys us g
  operand_answer = says_known lent.room text at 0 (λ p. expand lent p x.mark 0 (held (take vars_used vars₀))) ys us g x.says x.ready.is

  withal : (o : Made) → expand lent x.ready.tree x.mark 0 (held (take vars_used vars₀)) ≡ o
      → given_in ≡ placed units (o >>= λ r. finished what lent p m r)
  withal o h =
      ap (placed units)
      (used_operand lent (λ k u. expand lent x.ready.tree k 0 u) p m (take vars_used vars₀) params x.listed form x.planned
      x.known
      ∙ ap (λ (j : Mark). expand lent x.ready.tree j 0 (held (take vars_used vars₀)) >>= λ r. finished what lent p m r) (sym x.is)
      ∙ ap (λ (o : Made). o >>= λ r. finished what lent p m r) h)

  used_refused : (area : Text) {b : Refusal} → g ≡ Err (stop.Refused b) → GivenIn area us (Err (stop.Refused b))
  used_refused area {b} q =
      let h : expand lent x.ready.tree x.mark 0 (held (take vars_used vars₀)) ≡ refused (refusal_number b) =
      answers_known lent.room text at 0 _ x.ready.rest ys us operand_answer q in
      rw x.ready.is (withal (refused (refusal_number b)) h ∙ placed_refused units (refused (refusal_number b)) (refusal_number b) refl)

  -- an operand that demands a message has it where it stands
  used_demanded : {from len : ℕ} → g ≡ Err (stop.Demanded from len) → GivenIn ys us (Err (stop.Demanded from len))
  used_demanded {from} {len} q =
      let h : IsDemand (expand lent x.ready.tree x.mark 0 (held (take vars_used vars₀))) ys from len =
      answers_known lent.room text at 0 _ x.ready.rest ys us operand_answer q in
      rw x.ready.is
      (record { message = h.message; is = withal (demands h.message) h.is ∙ placed_demands units _ h.message refl; waits = h.waits })

  pub used_stopped : (s : Stop) → g ≡ Err s → GivenIn ys us (Err s)
  used_stopped (stop.Refused b) q = used_refused ys q
  used_stopped (stop.Demanded from len) q = used_demanded q

  module _ {r : answer.Row} (q : g ≡ Ok r) where
    operand_row : IsRow lent.room 0 (expand lent x.ready.tree x.mark 0 (held (take vars_used vars₀))) ys us r.units r.vars_used r.of_none
        × Ends text at r.next x.ready.rest
    operand_row = answers_known lent.room text at 0 _ x.ready.rest ys us operand_answer q

    pub used_holds : Holds lent.room us r.vars_used
    used_holds = operand_row.0.holds

    at_front : row_of (take (2 * r.units) ys) ≡ operand_row.0.row
    at_front = row_at_lem operand_row.0.row ys r.units operand_row.0.stands operand_row.0.counts

    pub used_ready : IsNamed p → Storable p ys r.units
    used_ready i = row_storable x.ready x.lends x.mark operand_row.0 p i

    pub used_given : (area vars : Text) (f : Expanded) → Finishes lent.room units
        (placed units (finished what lent p m (row_of (take (2 * r.units) ys), held (take r.vars_used us), r.of_none))) r.next area vars f
        → GivenIn area vars f
    used_given area vars f h =
        finished_given units params p form m x.ready x.lends x.listed x.planned r.next operand_row.1
        (withal (done (operand_row.0.row, held (take r.vars_used us), r.of_none)) operand_row.0.is
        ∙ ap (λ (k : Row). placed units (finished what lent p m (k, held (take r.vars_used us), r.of_none))) (sym at_front))
        area vars f h

-- An arithmetic text.

-- its text, expanded
pub record SumExpanded (lent : Lent) (text : Text) (at d size : ℕ) (vars₀ : Text) (vars_used units : ℕ) (m : Mark) (ys us : Text) (g : Expanded)
    : Type 0 where
  pub ready : Ready text at (Arith 0) d 0 size
  pub says : Says lent.room text at 0 (λ p. expand lent p Q 0 (held (take vars_used vars₀))) (parts (sums 0) d (drop at text)) ys us g

pub sum_expanded : (lent : Lent) {text : Text} {at d size : ℕ} (vars₀ : Text) (vars_used units : ℕ) (m : Mark) → Ready text at (Arith 0) d 0 size
    → (ys us : Text) (g : Expanded)
    → Says lent.room text at 0 (λ p. expand lent p Q 0 (held (take vars_used vars₀))) (parts (sums 0) d (drop at text)) ys us g
    → SumExpanded lent text at d size vars₀ vars_used units m ys us g
sum_expanded lent vars₀ vars_used units m y ys us g s = record { ready = y; says = s }

module _ {lent : Lent} {text : Text} {at d size : ℕ} {vars₀ : Text} {vars_used units : ℕ} {m : Mark} {ys us : Text} {g : Expanded}
    (x : SumExpanded lent text at d size vars₀ vars_used units m ys us g) where
  abbrev Summed : Text → Text → Expanded → Type 0
  Summed area vars f =
      Says lent.room text at units (λ q. placed units (summing lent q m (held (take vars_used vars₀)))) (parts (sums 0) d (drop at text)) area vars f

  sum_answer : Answers lent.room text at 0 (expand lent x.ready.tree Q 0 (held (take vars_used vars₀))) x.ready.rest ys us g
  sum_answer = says_known lent.room text at 0 (λ p. expand lent p Q 0 (held (take vars_used vars₀))) ys us g x.says x.ready.is

  sum_refused : (area : Text) {b : Refusal} → g ≡ Err (stop.Refused b) → Summed area us (Err (stop.Refused b))
  unfolding summing
  sum_refused area {b} q =
      let h : expand lent x.ready.tree Q 0 (held (take vars_used vars₀)) ≡ refused (refusal_number b) =
      answers_known lent.room text at 0 _ x.ready.rest ys us sum_answer q in
      rw x.ready.is (placed_refused units _ (refusal_number b) (ap (λ (o : Made). o >>= λ u. summed lent m u) h))

  sum_demanded : {from len : ℕ} → g ≡ Err (stop.Demanded from len) → Summed ys us (Err (stop.Demanded from len))
  unfolding summing
  sum_demanded {from} {len} q =
      let h : IsDemand (expand lent x.ready.tree Q 0 (held (take vars_used vars₀))) ys from len =
      answers_known lent.room text at 0 _ x.ready.rest ys us sum_answer q in
      rw x.ready.is
      (record {
        message = h.message;
        is = placed_demands units _ h.message (ap (λ (o : Made). o >>= λ u. summed lent m u) h.is);
        waits = h.waits;
      })

  pub sum_stopped : (s : Stop) → g ≡ Err s → Summed ys us (Err s)
  sum_stopped (stop.Refused b) q = sum_refused ys q
  sum_stopped (stop.Demanded from len) q = sum_demanded q

  module _ {r : answer.Row} (q : g ≡ Ok r) where
    sum_row : IsRow lent.room 0 (expand lent x.ready.tree Q 0 (held (take vars_used vars₀))) ys us r.units r.vars_used r.of_none
        × Ends text at r.next x.ready.rest
    sum_row = answers_known lent.room text at 0 _ x.ready.rest ys us sum_answer q

    pub sum_holds : Holds lent.room us r.vars_used
    sum_holds = sum_row.0.holds

    pub sum_few : r.units ≤ row_limit
    sum_few = omega (arith, sum_row.0.fits)

    pub sum_given : (area vars : Text) (f : Expanded)
        → Finishes lent.room units (placed units (summed lent m (row_of (take (2 * r.units) ys), held (take r.vars_used us), false))) r.next area vars f
        → Summed area vars f
    unfolding summing
    sum_given area vars f h =
        rw x.ready.is
        (finishes_answers lent.room text at units (placed units (summing lent x.ready.tree m (held (take vars_used vars₀)))) r.next
        x.ready.rest area vars f
        (finishes_same lent.room units r.next area vars f (sym (ap (placed units) same)) h) sum_row.1)
      where
        -- whether `$@` of no parameters r.of_none in the text is not asked
        same : (summing lent x.ready.tree m (held (take vars_used vars₀))) ≡ summed lent m (row_of (take (2 * r.units) ys), held (take r.vars_used us), false)
        same =
            unfold summed in
            ap (λ (o : Made). o >>= λ u. summed lent m u) sum_row.0.is
            ∙ ap (λ (k : Row). summed lent m (k, held (take r.vars_used us), r.of_none))
            (sym (row_at_lem sum_row.0.row ys r.units sum_row.0.stands sum_row.0.counts))

-- What the contracts determine: two outcomes for one row or one text are the same answer, with the same row in the area and the same image of variables,
-- or with the same message. Open are the bytes of the area behind the row, those of the variables' buffer behind the image, and both after a refusal; and
-- where in the area a message waits.
use Prim.Native.Nat.{ℕ, ◌*◌}
use native.Mathlib.Omega.{arith}
use mathlib.Core.Path.{◌≡◌, refl, sym, ap, ◌∙◌}
use mathlib.Core.Bool.{Bool}
use mathlib.Core.List.{[]}
use lib.IntN.{ℤ}
use lib.ListN.{length, take, drop, length-drop}
use Rattle.stages.specs.Bytes.{Text}
use Rattle.stages.specs.Outcome.{Outcome, refused, demands, done}
use Rattle.stages.specs.Images.{Pairs, is_name, held, flat, image, image_length}
use Rattle.stages.specs.Syntax.{Parts}
use Rattle.stages.specs.Read.{Taken}
use Rattle.stages.specs.Constants.{signed}
use Rattle.stages.specs.Units.{Row}
use Rattle.stages.specs.Units as unit
use Rattle.stages.specs.Expand.{Made}
use Rattle.stages.proofs.Images.{Bytes}
use Rattle.stages.proofs.Tables.{table_canonical}
use Rattle.stages.proofs.Rooms.{fit_ok}
use Rattle.text.specs.Rows.{row_bytes}
use Rattle.row.specs.declared.Mark.{Mark}
use Rattle.row.specs.declared.RowEnd.{RowEnd}
use Rattle.row.proofs.Determined.{expanded_mark_determined}
use Rattle.table_store.proofs.Holding.{vars_held, vars_used_is}
use Rattle.expand_add.specs.Answers.{IsRow, IsDemand, Ends, Answers, Says, Finishes}
use Rattle.expand_add.specs.declared.answers.Onward.{Onward}
use Rattle.std.specs.Prelude.{Ok, Err}
use Rattle.text.specs.Refusals.{refusal_number}
use Rattle.expand_add.specs.declared.answers.Stop.TheVariants.{Refused, Demanded}
use Rattle.expand_add.specs.Expanded.{Expanded, row_on}
use Rattle.expand_add.specs.declared.answers.Stop.{Stop}
use Rattle.expand_add.specs.declared.answers.Row as answer
use Rattle.text.specs.declared.refusal.Refusal.{Refusal}
use Rattle.text.proofs.Refusals.{refusal_same}
use Rattle.expand_add.proofs.Standing.{front}
use Rattle.expand_add.proofs.Holding.{says_known, answers_known}
use Rattle.expand_add.proofs.Waiting.{waits_length}
use Rattle.text.proofs.Determined.{one_answer}
use Rattle.expand_add.specs.Added.{EndsExpanded, Adds, Fitting, left_with, AddsTo, measured}

-- One answer.

one_answer_row : {n n' next next' u u' : ℕ} {g g' : Bool} → n ≡ n' → next ≡ next' → u ≡ u' → g ≡ g' → ◌≡◌ {A = answer.Row}
    (record { units = n; next = next; vars_used = u; of_none = g }) (record { units = n'; next = next'; vars_used = u'; of_none = g' })
one_answer_row a b c d = rw (a, b, c, d)

pub row_determined : (on : Onward) (n : ℕ) (r s : answer.Row) → r ≡ row_on on n → s ≡ row_on on n → r ≡ s
row_determined on n r s = one_answer

pub from_determined : (why : Refusal) (r s : Stop) → r ≡ Refused why → s ≡ Refused why → r ≡ s
from_determined why r s = one_answer

-- A row that is added.

measured_fits : (units : ℕ) (on : Onward) (o : Outcome Row) (area : Text) (count next vars_used : ℕ) (g : Bool)
    → Fitting units on o area count next vars_used g → {e : ℕ} → measured units o ≡ refused e → ⊥
unfolding measured
measured_fits units on o area count next vars_used of_none f {e} h =
    let c = f.counts in
    let l = f.fits in
    let g : measured units o ≡ done f.row = rw (f.is, fit_ok units (length f.row) (omega arith)) in
    let z : ◌≡◌ {A = ℕ} 0 1 = cc in
    omega arith

module _ (units : ℕ) (on : Onward) (o : Outcome Row) (area area' : Text) where
  one_row : {n next u n' next' u' : ℕ} {g g' : Bool} (f : Fitting units on o area n next u g) (f' : Fitting units on o area' n' next' u' g')
      → f.row ≡ f'.row
  one_row f f' = let a = f.is in let b = f'.is in cc

  pub adds_determined : (r r' : Expanded) → Adds units on o area r → Adds units on o area' r' → r ≡ r'
  adds_determined (Ok r) (Ok r') f f' =
      ap Ok
      (one_answer_row (sym f.counts ∙ ap length (one_row f f') ∙ f'.counts) (one_answer f.onward f'.onward) (one_answer f.keeps f'.keeps)
      (one_answer f.tells f'.tells))
  adds_determined (Ok r) (Err (Refused e')) f h' = absurd (measured_fits units on o area r.units r.next r.vars_used r.of_none f h')
  adds_determined (Err (Refused e)) (Ok r') h f' = absurd (measured_fits units on o area' r'.units r'.next r'.vars_used r'.of_none f' h)
  adds_determined (Ok r) (Err (Demanded at len)) f h' = absurd h'
  adds_determined (Err (Refused e)) (Err (Refused e')) h h' = ap (λ (x : Refusal). Err (Refused x)) (refusal_same e e' (cc))
  adds_determined (Err (Refused e)) (Err (Demanded at len)) h h' = absurd h'
  adds_determined (Err (Demanded at len)) r' h h' = absurd h

  pub adds_determined_row : {n next u n' next' u' : ℕ} {g g' : Bool} → Fitting units on o area n next u g → Fitting units on o area' n' next' u' g'
      → take (2 * n) area ≡ take (2 * n') area'
  adds_determined_row {n} {next} {u} {n'} f f' =
      front f.row area n f.stands f.counts ∙ ap row_bytes (one_row f f') ∙ sym (front f'.row area' n' f'.stands f'.counts)

-- A row that is there whole: the area is determined too.

pub added_determined : (units : ℕ) (on : Onward) (row : Row) (old area area' : Text) (r r' : Expanded) → AddsTo units on row old area r
    → AddsTo units on row old area' r' → (r ≡ r') × (area ≡ area')
added_determined units on row old area area' r r' h h' =
    let e = adds_determined units on (done row) area area' r r' h.adds h'.adds in
    (e, h.leaves ∙ ap (left_with row old) e ∙ sym h'.leaves)

module _ (units : ℕ) (on : Onward) (m : unit.Mark) (old area area' : Text) (r r' : Expanded) where
  pub give_text_determined : (t : Text) → AddsTo units on (unit.marked m t) old area r → AddsTo units on (unit.marked m t) old area' r'
      → (r ≡ r') × (area ≡ area')
  give_text_determined t = added_determined units on (unit.marked m t) old area area' r r'

  pub give_expanded_determined : (t : Text) → AddsTo units on (unit.marked (unit.expanded_mark m) t) old area r
      → AddsTo units on (unit.marked (unit.expanded_mark m) t) old area' r' → (r ≡ r') × (area ≡ area')
  give_expanded_determined t = added_determined units on (unit.marked (unit.expanded_mark m) t) old area area' r r'

  pub give_number_determined : (z : ℤ) → AddsTo units on (unit.marked (unit.expanded_mark m) (signed z)) old area r
      → AddsTo units on (unit.marked (unit.expanded_mark m) (signed z)) old area' r' → (r ≡ r') × (area ≡ area')
  give_number_determined z = added_determined units on (unit.marked (unit.expanded_mark m) (signed z)) old area area' r r'

pub expanded_end_determined : (row r s : RowEnd) → EndsExpanded row r → EndsExpanded row s → r ≡ s
expanded_end_determined row r s p q =
    ap (λ (m : Mark). record { mark = m; units = r.units }) (expanded_mark_determined row.mark r.mark s.mark p.mark q.mark)
    ∙ ap (λ (n : ℕ). record { mark = s.mark; units = n }) (one_answer p.units q.units)

-- A text that is expanded.

-- an answer without where its message waits, and the message
abbrev pub apart : Expanded → Expanded
apart (Ok r) = Ok r
apart (Err (Refused e)) = Err (Refused e)
apart (Err (Demanded at len)) = Err (Demanded 0 len)

abbrev pub waiting : Text → Expanded → Text
waiting area (Ok r) = []
waiting area (Err (Refused e)) = []
waiting area (Err (Demanded at len)) = take len (drop at area)

-- two answers are one, whose message may wait at two places
pub record OneAnswer (area : Text) (r : Expanded) (area' : Text) (r' : Expanded) : Type 0 where
  pub answers : apart r ≡ apart r'
  pub message : waiting area r ≡ waiting area' r'

module _ (varsRoom units : ℕ) (made : Made) (area vars area' vars' : Text) where
  clash : {e : ℕ} {p : Row × Pairs × Bool} → made ≡ refused e → made ≡ done p → ⊥
  clash a b = let z : ◌≡◌ {A = ℕ} 0 1 = cc in omega arith

  clash_demand : {t : Text} {p : Row × Pairs × Bool} → made ≡ demands t → made ≡ done p → ⊥
  clash_demand a b = let z : ◌≡◌ {A = ℕ} 0 1 = cc in omega arith

  clash_both : {t : Text} {e : ℕ} → made ≡ demands t → made ≡ refused e → ⊥
  clash_both a b = let z : ◌≡◌ {A = ℕ} 0 1 = cc in omega arith

  one_number : {e e' : ℕ} → made ≡ refused e → made ≡ refused e' → e ≡ e'
  one_number h h' = cc

  module _ {n vars_used n' varsUsed' : ℕ} {g g' : Bool} (i : IsRow varsRoom units made area vars n vars_used g)
      (i' : IsRow varsRoom units made area' vars' n' varsUsed' g') where
    both : ◌≡◌ {A = Row × Pairs × Bool} (i.row, held (take vars_used vars), g) (i'.row, held (take varsUsed' vars'), g')
    both = let a = i.is in let b = i'.is in cc

    same_row : i.row ≡ i'.row
    same_row = ap (λ (p : Row × Pairs × Bool). p.0) both

    same_held : held (take vars_used vars) ≡ held (take varsUsed' vars')
    same_held = ap (λ (p : Row × Pairs × Bool). p.1) both

    same_tells : g ≡ g'
    same_tells = ap (λ (p : Row × Pairs × Bool). p.2) both

    same_units : n ≡ n'
    same_units = sym i.counts ∙ ap length same_row ∙ i'.counts

    same_vars_used : vars_used ≡ varsUsed'
    same_vars_used =
        vars_used_is varsRoom vars vars_used i.holds ∙ ap (λ (v : Pairs). image_length (flat v)) same_held
        ∙ sym (vars_used_is varsRoom vars' varsUsed' i'.holds)

    pub row_same : take (2 * n) area ≡ take (2 * n') area'
    row_same = front i.row area n i.stands i.counts ∙ ap row_bytes same_row ∙ sym (front i'.row area' n' i'.stands i'.counts)

    pub image_same : Bytes (take vars_used vars) → Bytes (take varsUsed' vars') → take vars_used vars ≡ take varsUsed' vars'
    image_same b b' =
        table_canonical is_name (take vars_used vars) (vars_held varsRoom vars vars_used i.holds) b ∙ ap (λ (v : Pairs). image (flat v)) same_held
        ∙ sym (table_canonical is_name (take varsUsed' vars') (vars_held varsRoom vars' varsUsed' i'.holds) b')

  one_row_answer : {r r' : answer.Row} → r.units ≡ r'.units → r.next ≡ r'.next → r.vars_used ≡ r'.vars_used → r.of_none ≡ r'.of_none
      → OneAnswer area (Ok r) area' (Ok r')
  one_row_answer a b c d = record { answers = ap Ok (one_answer_row a b c d); message = refl }

  one_refusal : {e e' : Refusal} → made ≡ refused (refusal_number e) → made ≡ refused (refusal_number e')
      → OneAnswer area (Err (Refused e)) area' (Err (Refused e'))
  one_refusal {e} {e'} h h' =
      record { answers = ap (λ (x : Refusal). Err (Refused x)) (refusal_same e e' (one_number h h')); message = refl }

  one_message : {at len at' len' : ℕ} → IsDemand made area at len → IsDemand made area' at' len'
      → OneAnswer area (Err (Demanded at len)) area' (Err (Demanded at' len'))
  one_message {at} {len} {at'} {len'} d d' =
      let same : d.message ≡ d'.message = (let a = d.is in let b = d'.is in cc) in
      record {
        answers = ap (λ (n : ℕ). Err (Demanded 0 n)) (sym (waits_length d.waits) ∙ ap length same ∙ waits_length d'.waits);
        message = sym d.waits.is ∙ same ∙ d'.waits.is;
      }

  -- what a leaf hands on; its row and its image are one by `row_same` and `image_same`
  pub finishes_determined : (next : ℕ) (r r' : Expanded) → Finishes varsRoom units made next area vars r → Finishes varsRoom units made next area'
      vars' r' → OneAnswer area r area' r'
  finishes_determined next (Err (Refused e)) (Err (Refused e')) h h' = one_refusal h h'
  finishes_determined next (Err (Refused e)) (Ok r') h h' = absurd (clash h h'.1.is)
  finishes_determined next (Err (Refused e)) (Err (Demanded at' len')) h h' = absurd (clash_both h'.is h)
  finishes_determined next (Ok r) (Err (Refused e')) h h' = absurd (clash h' h.1.is)
  finishes_determined next (Ok r) (Err (Demanded at' len')) h h' = absurd (clash_demand h'.is h.1.is)
  finishes_determined next (Ok r) (Ok r') h h' =
      one_row_answer (same_units h.1 h'.1) (one_answer h.0 h'.0) (same_vars_used h.1 h'.1) (same_tells h.1 h'.1)
  finishes_determined next (Err (Demanded at len)) (Err (Refused e')) h h' = absurd (clash_both h.is h')
  finishes_determined next (Err (Demanded at len)) (Ok r') h h' = absurd (clash_demand h.is h'.1.is)
  finishes_determined next (Err (Demanded at len)) (Err (Demanded at' len')) h h' = one_message h h'

  module _ (text : Text) (at : ℕ) (rest : Text) where
    same_next : {next next' : ℕ} → Ends text at next rest → Ends text at next' rest → next ≡ next'
    same_next {next} {next'} k k' =
        omega (arith, length-drop next text, length-drop next' text, ap length k.ends, ap length k'.ends, k.within, k'.within)

    answers_same : (r r' : Expanded) → Answers varsRoom text at units made rest area vars r → Answers varsRoom text at units made rest area' vars'
        r' → OneAnswer area r area' r'
    answers_same (Err (Refused e)) (Err (Refused e')) h h' = one_refusal h h'
    answers_same (Err (Refused e)) (Ok r') h h' = absurd (clash h h'.0.is)
    answers_same (Err (Refused e)) (Err (Demanded from' len')) h h' = absurd (clash_both h'.is h)
    answers_same (Ok r) (Err (Refused e')) h h' = absurd (clash h' h.0.is)
    answers_same (Ok r) (Err (Demanded from' len')) h h' = absurd (clash_demand h'.is h.0.is)
    answers_same (Ok r) (Ok r') h h' =
        one_row_answer (same_units h.0 h'.0) (same_next h.1 h'.1) (same_vars_used h.0 h'.0) (same_tells h.0 h'.0)
    answers_same (Err (Demanded from len)) (Err (Refused e')) h h' = absurd (clash_both h.is h')
    answers_same (Err (Demanded from len)) (Ok r') h h' = absurd (clash_demand h.is h'.0.is)
    answers_same (Err (Demanded from len)) (Err (Demanded from' len')) h h' = one_message h h'

-- every function that answers for a text
module _ (varsRoom : ℕ) (text : Text) (at units : ℕ) (own : Parts → Made) {o : Taken} {p : Parts × Text} (e : o ≡ done p)
    (area vars area' vars' : Text) (r r' : Expanded)
    (s : Says varsRoom text at units own o area vars r) (s' : Says varsRoom text at units own o area' vars' r') where
  pub determined : OneAnswer area r area' r'
  determined =
      answers_same varsRoom units (own p.0) area vars area' vars' text at p.1 r r'
      (says_known varsRoom text at units own area vars r s e) (says_known varsRoom text at units own area' vars' r' s' e)

  pub determined_row : {a a' : answer.Row} → r ≡ Ok a → r' ≡ Ok a' → take (2 * a.units) area ≡ take (2 * a'.units) area'
  determined_row q q' =
      let h = answers_known varsRoom text at units (own p.0) p.1 area vars (says_known varsRoom text at units own area vars r s e) q in
      let h' = answers_known varsRoom text at units (own p.0) p.1 area' vars'
      (says_known varsRoom text at units own area' vars' r' s' e) q' in
      row_same varsRoom units (own p.0) area vars area' vars' h.0 h'.0

  pub determined_image : {a a' : answer.Row} → r ≡ Ok a → r' ≡ Ok a' → Bytes (take a.vars_used vars)
      → Bytes (take a'.vars_used vars') → take a.vars_used vars ≡ take a'.vars_used vars'
  determined_image q q' b b' =
      let h = answers_known varsRoom text at units (own p.0) p.1 area vars (says_known varsRoom text at units own area vars r s e) q in
      let h' = answers_known varsRoom text at units (own p.0) p.1 area' vars'
      (says_known varsRoom text at units own area' vars' r' s' e) q' in
      image_same varsRoom units (own p.0) area vars area' vars' h.0 h'.0 b b'

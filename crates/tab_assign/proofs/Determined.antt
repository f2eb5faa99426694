-- The contract determines the answer and every byte of every lent buffer: two outcomes that it allows for one input are equal.
use Prim.Native.Nat.{ℕ}
use mathlib.Core.Path.{◌≡◌, sym, ap, ◌∙◌}
use Rattle.stages.specs.Bytes.{Text}
use Rattle.text.proofs.Determined.{one_answer}
use Rattle.tab_assign.specs.Assignings.{Buffers, left_by, Assigning, whole, fault, refused_line, Assigns, passes, stops}
use Rattle.std.specs.Prelude.{Result, Ok, Err}
use Rattle.tab_assign.specs.declared.RefusedLine.{RefusedLine}

-- the answer and the buffers, by what came of the lines
abbrev told : Assigning → Result ℕ RefusedLine
told (whole b) = Ok b.vars_used
told (fault n a) = Err (refused_line n a.number a.place a.message_length)

abbrev kept : Assigning → Buffers
kept (whole b) = b
kept (fault n a) = left_by a

module _ {o : Assigning} where
  answers : {vars work message : Text} {r : Result ℕ RefusedLine} → Assigns o vars work message r
      → (r ≡ told o) × (vars ≡ (kept o).vars) × (work ≡ (kept o).work) × (message ≡ (kept o).message)
  answers (passes e w) = (
    ap told (sym e),
    ap (λ (p : Assigning). (kept p).vars) (sym e),
    ap (λ (p : Assigning). (kept p).work) (sym e),
    ap (λ (p : Assigning). (kept p).message) (sym e),
  )
  answers (stops {line} {number} {place} {len} {a} e t) = (
    ap (λ (n : ℕ). Err (refused_line line n place len)) t.numbered
        ∙ ap (λ (n : ℕ). Err (refused_line line a.number n len)) t.placed
        ∙ ap (λ (n : ℕ). Err (refused_line line a.number a.place n)) t.long
        ∙ ap told (sym e),
    t.variables ∙ ap (λ (p : Assigning). (kept p).vars) (sym e),
    t.clears ∙ ap (λ (p : Assigning). (kept p).work) (sym e),
    t.says ∙ ap (λ (p : Assigning). (kept p).message) (sym e),
  )

  pub assign_lines_determined : {vars vars' work work' message message' : Text} {r s : Result ℕ RefusedLine}
      → Assigns o vars work message r → Assigns o vars' work' message' s
      → (r ≡ s) × (vars ≡ vars') × (work ≡ work') × (message ≡ message')
  assign_lines_determined p q =
      let x = answers p in
      let y = answers q in
      (one_answer x.0 y.0, one_answer x.1 y.1, one_answer x.2 y.2, one_answer x.3 y.3)

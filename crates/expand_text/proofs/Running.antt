-- A run of literal bytes is expanded at once: one unit after the other is refused just where all of them are.
use Prim.Native.Nat.{ℕ, suc, ◌+◌, ◌≤◌, ◌<◌}
use native.Mathlib.Omega.{arith}
use native.Mathlib.Nat.{add-zero}
use mathlib.Core.Path.{◌≡◌, refl, sym, ap, ◌∙◌}
use mathlib.Core.Bool.{Bool, false}
use mathlib.Core.List.{[], ◌∷◌}
use lib.Dec.{leb}
use lib.ListN.{length}
use borrow.Author.Tests.{leb-true, leb-false}
use Rattle.stages.specs.Numbers.{row_limit, too_many_units}
use Rattle.stages.specs.Bytes.{Text}
use Rattle.stages.specs.Outcome.{refused, done}
use Rattle.stages.specs.Images.{Pairs}
use Rattle.stages.specs.Syntax.{unescaped, Parts, lit}
use Rattle.stages.specs.Units.{Mark, cell, Row, marked}
use Rattle.stages.specs.Params.{Lent}
use Rattle.stages.specs.Expand.{Made, onto, expand}
use Rattle.stages.proofs.Bools.{either}
use Rattle.stages.proofs.Rooms.{fit_full}
use Rattle.read_run.specs.Literals.{lits}
use Rattle.expand_add.specs.Steps.{placed}
use Rattle.expand_add.proofs.Steps.{onto_none, onto_onto, expand_lit, followed_row, followed_refused, placed_fits}

placed_full : (n : ℕ) (r : Row) (v : Pairs) (g : Bool) → row_limit < n + length r → placed n (done (r, v, g)) ≡ refused too_many_units
unfolding placed
placed_full n r v g l = rw (fit_full n (length r) l)

module _ (a : Lent) (m : Mark) (v : Pairs) where
  abbrev one : ℕ → Made
  one b = done (cell m b ∷ [], v, false)

  -- one byte, in front of the parts q
  one_fits : (q : Parts) (b n : ℕ) → n + 1 ≤ row_limit → expand a (lit unescaped b q) m n v ≡ onto (cell m b ∷ []) false (expand a q m (n + 1) v)
  one_fits q b n l =
      expand_lit a q m n unescaped b v
      ∙ followed_row a q m n (placed n (one b)) (cell m b ∷ []) v false 1 (placed_fits n (one b) (cell m b ∷ []) v false refl l) refl

  one_full : (q : Parts) (b n : ℕ) → row_limit < n + 1 → expand a (lit unescaped b q) m n v ≡ refused too_many_units
  one_full q b n l =
      expand_lit a q m n unescaped b v
      ∙ followed_refused a q m n (placed n (one b)) too_many_units (placed_full n (cell m b ∷ []) v false l)

  pub lits_fit : (p : Parts) (t : Text) (n : ℕ) → n + length t ≤ row_limit
      → expand a (lits t p) m n v ≡ onto (marked m t) false (expand a p m (n + length t) v)
  unfolding marked
  lits_fit p [] n l = onto_none (expand a p m n v) ∙ ap (λ (i : ℕ). onto [] false (expand a p m i v)) (sym (add-zero n))
  lits_fit p (b ∷ t) n l =
      let e : n + 1 + length t ≡ n + suc (length t) = omega arith in
      one_fits (lits t p) b n (omega arith) ∙ ap (onto (cell m b ∷ []) false) (lits_fit p t (n + 1) (omega arith))
      ∙ onto_onto (cell m b ∷ []) (marked m t) false false (expand a p m (n + 1 + length t) v)
      ∙ ap (λ (i : ℕ). onto (cell m b ∷ marked m t) false (expand a p m i v)) e

  pub lits_full : (p : Parts) (t : Text) (n : ℕ) → n ≤ row_limit → row_limit < n + length t → expand a (lits t p) m n v ≡ refused too_many_units
  lits_full p [] n k l = absurd (omega arith)
  lits_full p (b ∷ t) n k l =
      either (leb (n + 1) row_limit)
      (λ e.
      one_fits (lits t p) b n (leb-true _ _ e)
      ∙ ap (onto (cell m b ∷ []) false) (lits_full p t (n + 1) (leb-true _ _ e) (omega arith)))
      (λ e. one_full (lits t p) b n (leb-false _ _ e))

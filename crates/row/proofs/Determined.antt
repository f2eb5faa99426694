-- The contracts determine every answer and every byte: two outcomes that a contract allows for one input are equal.
use Prim.Native.Nat.{ℕ}
use mathlib.Core.Path.{◌≡◌, refl, ◌∙◌, sym}
use mathlib.Core.List.{[], ◌∷◌}
use Rattle.stages.specs.Bytes.{Text}
use Rattle.stages.specs.Syntax.{Escape}
use Rattle.stages.specs.Units as units
use Rattle.text.specs.Rows.{row_bytes}
use Rattle.text.proofs.Determined.{one_answer}
use Rattle.row.specs.Marks.{mark_of}
use Rattle.row.specs.Stands.{fronted, Stripped}
use Rattle.row.specs.declared.Mark.{Mark}
use Rattle.row.specs.declared.Mark.TheVariants.{L, E, Q}

-- a mark is what it stands for
mark_back : units.Mark → Mark
mark_back units.L = L
mark_back units.E = E
mark_back units.Q = Q

back_of : (m : Mark) → mark_back (mark_of m) ≡ m
unfolding mark_back
back_of L = refl
back_of E = refl
back_of Q = refl

one_mark : {m : units.Mark} (r s : Mark) → mark_of r ≡ m → mark_of s ≡ m → r ≡ s
one_mark r s p q = sym (back_of r) ∙ rw (p, ← q) (back_of s)

pub expanded_mark_determined : (m r s : Mark) → mark_of r ≡ units.expanded_mark (mark_of m) → mark_of s ≡ units.expanded_mark (mark_of m) → r ≡ s
expanded_mark_determined m r s = one_mark r s

pub literal_mark_determined : (q : Escape) (m r s : Mark) → mark_of r ≡ units.lit_mark q (mark_of m) → mark_of s ≡ units.lit_mark q (mark_of m) → r ≡ s
literal_mark_determined q m r s = one_mark r s

put_determined : (row : units.Row) (area r s : Text) → r ≡ fronted (row_bytes row) area → s ≡ fronted (row_bytes row) area → r ≡ s
put_determined row area r s = one_answer

pub put_unit_determined : (b : ℕ) (m : Mark) (area r s : Text) → r ≡ fronted (row_bytes (units.cell (mark_of m) b ∷ [])) area
    → s ≡ fronted (row_bytes (units.cell (mark_of m) b ∷ [])) area → r ≡ s
put_unit_determined b m = put_determined (units.cell (mark_of m) b ∷ [])

pub put_empty_determined : (area r s : Text) → r ≡ fronted (row_bytes (units.N ∷ [])) area → s ≡ fronted (row_bytes (units.N ∷ [])) area → r ≡ s
put_empty_determined = put_determined (units.N ∷ [])

pub put_break_determined : (area r s : Text) → r ≡ fronted (row_bytes (units.B ∷ [])) area → s ≡ fronted (row_bytes (units.B ∷ [])) area → r ≡ s
put_break_determined = put_determined (units.B ∷ [])

pub put_marked_determined : (t : Text) (m : Mark) (area r s : Text) → r ≡ fronted (row_bytes (units.marked (mark_of m) t)) area
    → s ≡ fronted (row_bytes (units.marked (mark_of m) t)) area → r ≡ s
put_marked_determined t m = put_determined (units.marked (mark_of m) t)

pub strip_marks_determined : (row l k : Text) (r s : ℕ) → Stripped row l r → Stripped row k s → (l ≡ k) × (r ≡ s)
strip_marks_determined row l k r s p q = (one_answer p.leaves q.leaves, one_answer p.counts q.counts)

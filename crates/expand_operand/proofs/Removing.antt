-- A removal: the operand's row without its N is the pattern, and what it leaves of the value is given.
use mathlib.Core.Path.{◌≡◌, refl, sym}
use mathlib.Core.Bool.{Bool, true, false}
use mathlib.Core.List.{List}
use Rattle.stages.specs.Numbers.{bracket_class}
use Rattle.stages.specs.Bytes.{Text}
use Rattle.stages.specs.Outcome.{Outcome, refused, demands, done, ◌>>=◌}
use Rattle.stages.specs.Images.{Pairs, held, held_texts, or_empty}
use Rattle.stages.specs.Syntax.{Side, Reach, Param}
use Rattle.stages.specs.Units.{Mark, Row, marked, expanded_mark}
use Rattle.stages.specs.Pattern.{Element, has_class, elements, for_removal, pattern}
use Rattle.stages.specs.Removal.{removed}
use Rattle.stages.specs.Params.{Lent, value}
use Rattle.stages.specs.Expand.{Made, cut_by}
use Rattle.text.specs.Rows.{row_of, signs_of}
use Rattle.row.specs.Marks.{mark_of}
use Rattle.row.specs.declared.RowEnd.{RowEnd}
use Rattle.pattern_row.specs.Kept.{kept, NoEmpty}
use Rattle.pattern_row.proofs.Keeping.{kept_pattern, full_refused, full_done}
use Rattle.expand_add.specs.Added.{EndsExpanded, Adds, measured}
use Rattle.expand_add.specs.Steps.{beside}
use Rattle.expand_add.specs.declared.answers.Onward.{Onward}
use Rattle.expand_add.specs.Expanded.{Expanded}
use Rattle.expand_add.proofs.Fitting.{adds_same, adds_expanded}
use Rattle.expand_param.specs.Holding.{holding_in}
use Rattle.expand_operand.specs.Operands.{cut_of}

-- the units of a pattern without N, by what settling them answers
module _ (side : Side) (reach : Reach) (own : Text) (end : RowEnd) (on : Onward) {units : Text} (f : NoEmpty units) where
  pub cut_class : has_class false 0 (signs_of units) ≡ true
      → measured end.units (cut_of side reach own (mark_of end.mark) (row_of units)) ≡ refused bracket_class
  unfolding measured cut_of
  cut_class y = rw (full_refused for_removal f y)

  cut_done : has_class false 0 (signs_of units) ≡ false → cut_of side reach own (mark_of end.mark) (row_of units)
      ≡ done (marked (expanded_mark (mark_of end.mark)) (removed side reach (elements false 0 (signs_of units)) own))
  unfolding cut_of
  cut_done n = rw (full_done for_removal f n)

  pub cut_given : (area : Text) (r : Expanded) → has_class false 0 (signs_of units) ≡ false
      → {left : Text} → left ≡ removed side reach (elements false 0 (signs_of units)) own → {there : RowEnd} → EndsExpanded end there
      → Adds there.units on (done (marked (mark_of there.mark) left)) area r
      → Adds end.units on (cut_of side reach own (mark_of end.mark) (row_of units)) area r
  cut_given area r n g ends h = adds_same end.units on area r (sym (cut_done n)) (adds_expanded end on area r ends g h)

-- N is no part of a pattern, and what the parameter holds is what is cut
pub cut_left : (side : Side) (reach : Reach) (m : Mark) (row vars params : Text) (x : Param) {units own : Text} → units ≡ kept row
    → own ≡ or_empty (holding_in (held_texts params) (held vars) x) → cut_of side reach own m (row_of units)
    ≡ cut_of side reach (or_empty (holding_in (held_texts params) (held vars) x)) m (row_of row)
unfolding cut_of
cut_left side reach m row vars params x e f = rw (e, f, kept_pattern for_removal row)

-- nothing is stored besides, and no `$@` of no parameters comes of it
pub cut_beside : (a : Lent) (side : Side) (reach : Reach) (x : Param) (m : Mark) (row : Row) (v : Pairs) (g : Bool) {own : Text} → own ≡ value a v x
    → beside v false (cut_of side reach own m row) ≡ cut_by a side reach x m (row, v, g)
unfolding cut_by cut_of
cut_beside a side reach x m row v g e = rw e (go (pattern for_removal row))
  where
    go : (o : Outcome (List Element))
        → ◌≡◌ {A = Made} (beside v false (o >>= λ es. done (marked (expanded_mark m) (removed side reach es (value a v x)))))
        (◌>>=◌ {B = Row × Pairs × Bool} o (λ es. done (marked (expanded_mark m) (removed side reach es (value a v x)), v, false)))
    go (refused e) = refl
    go (demands t) = refl
    go (done es) = refl

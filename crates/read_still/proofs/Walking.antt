-- What the loops over a word hold: the bytes that were passed are said in front of what is said behind them, whatever that is.
use Prim.Native.Nat.{ℕ, suc, ◌+◌, ◌-◌, ◌≤◌, ◌<◌}
use native.Mathlib.Omega.{arith}
use mathlib.Core.Path.{◌≡◌, refl, sym, ap, ◌∙◌, subst}
use mathlib.Core.Bool.{true, false}
use mathlib.Core.List.{[], ◌∷◌, ◌++◌, append_assoc}
use mathlib.Core.Option.{none, some}
use lib.ListN.{length, drop, get_or, length-append, drop_of_length-le}
use lib.Seq.{drop-cons}
use Rattle.stages.specs.Bytes.{Text, part, span, is_bare_byte, is_blank}
use Rattle.text.specs.Classes.{Runs}
use Rattle.text.specs.declared.Class.TheVariants.{BareByte}
use Rattle.text.proofs.Parts.{part_length}
use Rattle.read_still.specs.Walks.{Said, quoted_in, behind, Walk, ends, stops, fails, goes, EnclosedAs, EndsTo}

pub behind_behind : (y z : Text) (o : Said) → behind y (behind z o) ≡ behind (y ++ z) o
behind_behind y z none = refl
behind_behind y z (some p) = ap {A = Text} (λ x. some (x, p.1)) (sym (append_assoc y z p.0))

behind_nothing : (o : Said) → behind [] o ≡ o
behind_nothing none = refl
behind_nothing (some p) = refl

-- the line is walked over from `at` to i, and y is said by it
pub record Walked (line : Text) (at i : ℕ) (y : Text) : Type 0 where
  pub on : {o : Said} → Walk (drop i line) o → Walk (drop at line) (behind y o)
  pub few : length y + at ≤ i
  pub within : i ≤ length line

pub walk_starts : (line : Text) (at : ℕ) → at ≤ length line → Walked line at at []
walk_starts line at h = record {
  on = λ {o} w. subst (λ (p : Said). Walk (drop at line) p) (sym (behind_nothing o)) w;
  few = omega arith;
  within = h;
}

module _ {line : Text} {at i : ℕ} {y : Text} (w : Walked line at i y) {run : ℕ} (r : Runs line i BareByte run) where
  abbrev bytes : Text
  bytes = part line i run

  size : length bytes ≡ run - i
  size = part_length line i run r.onward r.within

  -- behind the run stands the line's end
  rest_none : length line ≤ run → drop run line ≡ []
  rest_none h = drop_of_length-le line h

  pub walk_ends : length line ≤ run → Walk (drop at line) (some (y ++ bytes, drop run line))
  walk_ends h =
      w.on (subst (λ (u : Text). Walk (drop i line) (some (bytes, u))) (sym (rest_none h)) (ends (r.is ∙ ap {A = Text} (λ u. (bytes, u)) (rest_none h))))

  module _ (l : run < length line) where
    rest_some : drop run line ≡ get_or line run 0 ∷ drop (suc run) line
    rest_some = drop-cons line run 0 l

    split_run : span is_bare_byte (drop i line) ≡ (bytes, get_or line run 0 ∷ drop (suc run) line)
    split_run = r.is ∙ ap {A = Text} (λ u. (bytes, u)) rest_some

    pub walk_stops : is_blank (get_or line run 0) ≡ true → Walk (drop at line) (some (y ++ bytes, drop run line))
    walk_stops e = w.on (subst (λ (u : Text). Walk (drop i line) (some (bytes, u))) (sym rest_some) (stops split_run e))

    module _ (e : is_blank (get_or line run 0) ≡ false) where
      pub walk_fails : quoted_in (drop run line) ≡ none → Walk (drop at line) none
      walk_fails q = w.on (fails split_run e (ap quoted_in (sym rest_some) ∙ q))

      pub walk_goes : {from to next : ℕ} → EnclosedAs line (run + 1) (quoted_in (drop run line)) from to next
          → Walked line at next (y ++ (bytes ++ part line from to))
      walk_goes {from} {to} {next} q =
          let z = bytes ++ part line from to in
          let k = part_length line from to q.order (omega (arith, q.closes, q.within)) in
          record {
            on = λ {o} v. subst (λ (p : Said). Walk (drop at line) p) (behind_behind y z o) (w.on (goes split_run e (ap quoted_in (sym rest_some) ∙ q.is) v));
            few = simp length-append (omega (arith, w.few, size, k, r.onward, q.onward, q.order, q.closes));
            within = q.within;
          }

-- where a walk ends

module _ {line : Text} {at i : ℕ} {y : Text} (w : Walked line at i y) {run : ℕ} (r : Runs line i BareByte run) where
  reaches : at ≤ run
  reaches = omega (arith, w.few, r.onward)

  pub end_line : length line ≤ run → EndsTo line at run
  end_line h = record { text = y ++ part line i run; walk = walk_ends w r h; onward = reaches; within = r.within }

  pub end_blank : run < length line → is_blank (get_or line run 0) ≡ true → EndsTo line at run
  end_blank l e = record { text = y ++ part line i run; walk = walk_stops w r l e; onward = reaches; within = r.within }

-- what the loop that seeks the end holds
pub record Passing (line : Text) (at i : ℕ) : Type 0 where
  pub said : Text
  pub walked : Walked line at i said

-- Where a text ends by its next byte, the stage's item is the stop.
use Prim.Native.Nat.{ℕ, ◌+◌, ◌≤◌, ◌<◌}
use native.Mathlib.Omega.{arith}
use mathlib.Core.Path.{◌≡◌, refl, sym, ap, ◌∙◌}
use mathlib.Core.Bool.{Bool, true, false}
use mathlib.Core.List.{[], ◌∷◌}
use lib.ListN.{length, drop, get_or, length-drop, drop_of_length-le}
use lib.Seq.{drop-cons}
use Rattle.stages.specs.Bytes.{Text}
use Rattle.stages.specs.Syntax as syntax
use Rattle.stages.specs.Items.{Sort, stop, fault, item, item_of, sort, is_closer, ended, closer_length}
use Rattle.stages.specs.Items as items
use Rattle.stages.proofs.Bools.{no}
use Rattle.read_mode.specs.Modes.{mode_of, ends_line}
use Rattle.read_mode.specs.declared.Cursor.{Cursor}
use Rattle.read_mode.specs.declared.Mode.{Mode}
use Rattle.read_mode.specs.declared.Mode.TheVariants.{Word, Value, Bare, Single, Double, Operand, Arith}
use Rattle.read_brace.specs.declared.Item.TheVariants.{Stop}
use Rattle.read_brace.proofs.Showing.{shows_stop}
use Rattle.read_item.specs.After.{ItemAt, is_end}

-- At the line's end.

stop_is_no_fault : (k n : ℕ) → stop k ≡ fault n → ⊥
stop_is_no_fault k n e = let z : ◌≡◌ {A = ℕ} 0 1 = cc in omega arith

line_end : (m : Mode) (r : Bool) → ended (mode_of m) ≡ ends_line r → r ≡ is_end m []
unfolding ended
line_end (Word s) true e = refl
line_end (Word s) false e = absurd (stop_is_no_fault _ _ e)
line_end (Value s) true e = refl
line_end (Value s) false e = absurd (stop_is_no_fault _ _ e)
line_end (Bare s l) true e = absurd (stop_is_no_fault _ _ (sym e))
line_end (Bare s l) false e = refl
line_end (Single x) true e = absurd (stop_is_no_fault _ _ (sym e))
line_end (Single x) false e = refl
line_end (Double l) true e = absurd (stop_is_no_fault _ _ (sym e))
line_end (Double l) false e = refl
line_end (Operand l) true e = absurd (stop_is_no_fault _ _ (sym e))
line_end (Operand l) false e = refl
line_end (Arith n) true e = absurd (stop_is_no_fault _ _ (sym e))
line_end (Arith n) false e = refl

pub end_of_line : (text : Text) (at : ℕ) (m : Mode) (r : Bool) → length text ≤ at → ended (mode_of m) ≡ ends_line r → r ≡ is_end m (drop at text)
end_of_line text at m r l e = line_end m r e ∙ ap (is_end m) (sym (drop_of_length-le text l))

-- Before a byte.

pub end_at_byte : (text : Text) (at : ℕ) (m : Mode) {r : Bool} → at < length text → r ≡ is_closer (sort (mode_of m) (get_or text at 0))
    → r ≡ is_end m (drop at text)
end_at_byte text at m l e = e ∙ ap (is_end m) (sym (drop-cons text at 0 l))

-- The item there.

closer_stops : (s : Sort) (m : syntax.Mode) (d b : ℕ) (t : Text) → is_closer s ≡ true → item_of s m d b t ≡ stop (closer_length m)
unfolding is_closer item_of
closer_stops items.backquote m d b t e = absurd (no e)
closer_stops items.closes m d b t e = refl
closer_stops items.operator m d b t e = absurd (no e)
closer_stops items.quotes m d b t e = absurd (no e)
closer_stops items.quotes2 m d b t e = absurd (no e)
closer_stops items.backslash m d b t e = absurd (no e)
closer_stops items.escape m d b t e = absurd (no e)
closer_stops items.dollar m d b t e = absurd (no e)
closer_stops items.bad m d b t e = absurd (no e)
closer_stops items.opening m d b t e = absurd (no e)
closer_stops items.closing m d b t e = absurd (no e)
closer_stops items.tilde m d b t e = absurd (no e)
closer_stops items.literal m d b t e = absurd (no e)

-- the line's end is a stop in a word and in a value
line_stops : (m : Mode) → is_end m [] ≡ true → (ended (mode_of m) ≡ stop (closer_length (mode_of m))) × (closer_length (mode_of m) ≡ 0)
unfolding ended closer_length
line_stops (Word s) e = (refl, refl)
line_stops (Value s) e = (refl, refl)
line_stops (Bare s l) e = absurd (no e)
line_stops (Single x) e = absurd (no e)
line_stops (Double l) e = absurd (no e)
line_stops (Operand l) e = absurd (no e)
line_stops (Arith n) e = absurd (no e)

stops : (m : Mode) (d : ℕ) (t : Text) → is_end m t ≡ true → item (mode_of m) d t ≡ stop (closer_length (mode_of m))
unfolding item
stops m d [] e = (line_stops m e).0
stops m d (b ∷ t) e = closer_stops (sort (mode_of m) b) (mode_of m) d b t e

-- and it lies in the text
closer_short : (m : syntax.Mode) → closer_length m ≤ 1
unfolding closer_length
closer_short (syntax.word s) = omega arith
closer_short (syntax.value s) = omega arith
closer_short (syntax.bare s l) = omega arith
closer_short (syntax.single x) = omega arith
closer_short (syntax.double l) = omega arith
closer_short (syntax.quoted_operand l) = omega arith
closer_short (syntax.arith n) = omega arith

stops_within : (m : Mode) (at : ℕ) (text : Text) → at ≤ length text → is_end m (drop at text) ≡ true → at + closer_length (mode_of m) ≤ length text
stops_within m at text l e = go (drop at text) refl e
  where
    go : (t : Text) → drop at text ≡ t → is_end m t ≡ true → at + closer_length (mode_of m) ≤ length text
    go [] k h = omega (arith, (line_stops m h).1)
    go (b ∷ t) k h = omega (arith, closer_short (mode_of m), length-drop at text, ap length k)

pub end_item : (text : Text) (from : Cursor) → from.at ≤ length text → is_end from.mode (drop from.at text) ≡ true
    → ItemAt text from (Stop (from.at + closer_length (mode_of from.mode)))
end_item text from l e =
    shows_stop text from.at from.depth (from.at + closer_length (mode_of from.mode)) (closer_length (mode_of from.mode)) refl
    (stops_within from.mode from.at text l e) (stops from.mode from.depth (drop from.at text) e)

-- A message that waits in an area: in a part of it that was lent, and by its own length.
use Prim.Native.Nat.{ℕ, ◌+◌, ◌≤◌}
use native.Mathlib.Omega.{arith}
use mathlib.Core.Path.{◌≡◌, sym, ap, ◌∙◌}
use mathlib.Core.List.{◌++◌}
use lib.ListN.{length, take, drop, length-append, length-drop}
use lib.Seq.{length-take-le, take-append-le, drop-append-le, drop-append-add, drop-drop}
use Rattle.stages.specs.Bytes.{Text}
use Rattle.stages.specs.Expand.{Made}
use Rattle.expand_add.specs.Answers.{Waits, IsDemand}

module _ {t area : Text} {at len : ℕ} where
  pub waits_length : Waits t area at len → length t ≡ len
  waits_length w =
      ap length w.is ∙ length-take-le len (drop at area) (omega (arith, length-drop at area, w.fits))

-- behind the first n bytes
pub waits_behind : {t area : Text} {n at len : ℕ} → n ≤ length area → Waits t (drop n area) at len → Waits t area (n + at) len
waits_behind {t} {area} {n} {at} {len} l w =
    record {
      is = w.is ∙ ap (take len) (drop-drop at n area);
      fits = omega (arith, length-drop n area, w.fits);
    }

-- in a part of n bytes behind the front, whatever stands after it
pub waits_nest : {t : Text} (front : Text) {part : Text} (rest : Text) {n at len : ℕ} → length front ≡ n → Waits t part at len
    → Waits t (front ++ (part ++ rest)) (n + at) len
waits_nest {t} front {part} rest {n} {at} {len} e w =
    record {
      is =
          w.is ∙ sym (take-append-le len (drop at part) rest (omega (arith, length-drop at part, w.fits)))
          ∙ ap (take len) (sym (drop-append-le at part rest (omega (arith, w.fits))) ∙ sym (drop-append-add front (part ++ rest) at)
          ∙ ap (λ (k : ℕ). drop (k + at) (front ++ (part ++ rest))) e);
      fits = omega (arith, length-append front (part ++ rest), length-append part rest, w.fits, e);
    }

-- what is demanded of a row that is made the same
pub demand_same : {made made' : Made} {area : Text} {at len : ℕ} → made ≡ made' → IsDemand made area at len → IsDemand made' area at len
demand_same e d = record { message = d.message; is = sym e ∙ d.is; waits = d.waits }

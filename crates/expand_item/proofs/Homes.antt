-- A row of a first unit and of marked bytes behind it, and what a look-up of a login found.
use Prim.Native.Nat.{ℕ, ◌+◌, ◌≤◌, ◌<◌}
use native.Mathlib.Omega.{arith}
use mathlib.Core.Path.{◌≡◌, refl, sym, ap, ◌∙◌, subst}
use mathlib.Core.List.{[], ◌∷◌, ◌++◌, append_assoc}
use mathlib.Core.Option.{Option}
use lib.ListN.{length, take, drop}
use Rattle.stages.specs.Numbers.{row_limit, too_many_units}
use Rattle.stages.specs.Bytes.{Text, text}
use Rattle.stages.specs.Outcome.{refused, done}
use Rattle.stages.specs.Images.{Pairs, held, lookup}
use Rattle.stages.specs.Units.{Mark, Cell, marked}
use Rattle.stages.specs.Expand.{directory, tilde_row}
use Rattle.text.specs.Rows.{row_bytes}
use Rattle.text.proofs.Rows.{row_bytes_append}
use Rattle.row.specs.Stands.{fronted}
use Rattle.table.specs.Places.{Shown, shown, absent}
use Rattle.std.specs.Prelude.{Option as Perhaps, Some}
use Rattle.table.specs.declared.Part.{Part}
use Rattle.expand_add.specs.Added.{Adds, Fitting, measured}
use Rattle.expand_add.specs.declared.answers.Onward.{Onward}
use Rattle.expand_add.specs.Expanded.{Expanded}
use Rattle.expand_add.proofs.Fitting.{measured_full, marked_count, adds_same}
use Rattle.expand_add.proofs.Standing.{front}
use Rattle.expand_item.specs.Homes.{Inside, text_at}

-- A first unit, and the bytes of a text behind it.

module _ (units : ℕ) (on : Onward) (c : Cell) (m : Mark) (t : Text) where
  pub headed_full : row_limit ≤ units + length t → measured units (done (c ∷ marked m t)) ≡ refused too_many_units
  headed_full l = measured_full units (c ∷ marked m t) (omega (arith, marked_count m t))

  pub headed_fits : units + length t < row_limit → (area first z ys rest : Text) → first ≡ fronted (row_bytes (c ∷ [])) area
      → ys ≡ fronted (row_bytes (marked m t)) z
      → Fitting units on (done (c ∷ marked m t)) (take 2 first ++ (ys ++ rest)) (length t + 1) on.next on.vars_used on.of_none
  headed_fits l area first z ys rest e f =
      record {
        row = c ∷ marked m t;
        is = refl;
        counts = omega (arith, marked_count m t);
        stands = record {
          rest = drop (length (row_bytes (marked m t))) z ++ rest;
          is = ap (λ (u : Text). u ++ (ys ++ rest))
              (front (c ∷ []) first 1 (record { rest = drop (length (row_bytes (c ∷ []))) area; is = e }) refl)
              ∙ ap (λ (u : Text). row_bytes (c ∷ []) ++ (u ++ rest)) f ∙ rw (row_bytes_append (c ∷ []) (marked m t)) (simp append_assoc);
        };
        fits = omega arith;
        onward = refl;
        keeps = refl;
        tells = refl;
      }

-- What a look-up found lies inside the image, and is the key's value.

pub found_inside : {t key : Text} {found : Perhaps Part} → Shown t key found → Inside t found
found_inside (shown h) = (h.low, h.high)
found_inside (absent h) = tt

pub found_text : {t key : Text} {found : Perhaps Part} → Shown t key found → lookup key (held t) ≡ text_at t found
found_text (shown h) = h.gets
found_text (absent h) = h

pub inside_known : (t : Text) {found : Perhaps Part} {p : Part} → Inside t found → found ≡ Some p → (p.from ≤ p.to) × (p.to ≤ length t)
inside_known t i e = subst (λ (f : Perhaps Part). Inside t f) e i

pub empty_login : (v homes : Pairs) (t : Text) → length t ≡ 0 → directory v homes t ≡ lookup (text "HOME") v
unfolding directory
empty_login v homes [] e = refl
empty_login v homes (b ∷ t) e = absurd (omega arith)

pub some_login : (v homes : Pairs) (t : Text) → (length t ≡ 0 → ⊥) → directory v homes t ≡ lookup t homes
unfolding directory
some_login v homes [] e = absurd (e refl)
some_login v homes (b ∷ t) e = refl

-- the same directory gives the same row
pub adds_home : (units : ℕ) (on : Onward) (x : Text) (m : Mark) {o p : Option Text} (area : Text) (r : Expanded) → o ≡ p
    → Adds units on (done (tilde_row x m p)) area r → Adds units on (done (tilde_row x m o)) area r
adds_home units on x m area r e h = adds_same units on area r (ap (λ (q : Option Text). done (tilde_row x m q)) (sym e)) h

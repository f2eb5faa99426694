-- What the look-ups in the two images say of a parameter.
use Prim.Native.Nat.{ℕ, ◌≤◌}
use mathlib.Core.Path.{◌≡◌, sym, ap, ◌∙◌}
use mathlib.Core.Bool.{Bool, true, false}
use lib.ListN.{length}
use Rattle.stages.specs.Bytes.{Text}
use Rattle.stages.specs.Images.{held, held_texts, lookup, or_empty}
use Rattle.stages.specs.Items.{number_of}
use Rattle.stages.specs.Syntax.{var, nth}
use Rattle.stages.specs.Params.{numbered}
use Rattle.table.specs.Places as places
use Rattle.table.specs.Places.{Listed, Looked}
use Rattle.table.specs.declared.Part.{Part}
use Rattle.std.specs.Prelude.{Option as Perhaps}
use Rattle.table_find.specs.Numbered as numbers
use Rattle.table_find.specs.Numbered.{Numbers}
use Rattle.read_brace.specs.Shows.{called}
use Rattle.expand_param.specs.Holding.{number_limit, capped, holding_in, place_in, Shown, shown, absent, Finds}
use Rattle.expand_param.proofs.Digits.{numbered_capped, place_capped}

module _ (vars params x : Text) where
  name_shown : {r : Perhaps Part} → places.Shown vars x r → Shown vars params (var x) r
  unfolding holding_in
  name_shown (places.shown h) = shown (record { low = h.low; high = h.high; gets = h.gets })
  name_shown (places.absent h) = absent h

  pub finds_name : {is_number : Bool} {r : Perhaps Part} → is_number ≡ false → Looked vars x r → Finds vars params (called is_number x) r
  unfolding place_in
  finds_name e h = rw e (record { is = h.is; shows = name_shown h.shows })

  pub holds_name : {is_number : Bool} {t : Text} → is_number ≡ false → t ≡ or_empty (lookup x (held vars))
      → t ≡ or_empty (holding_in (held_texts params) (held vars) (called is_number x))
  unfolding holding_in
  holds_name e h = rw e h

module _ (vars params x : Text) {n : ℕ} (l : Listed params) (fits : length params ≤ number_limit) (c : n ≡ capped (number_of 0 x)) where
  same_number : numbered n (held_texts params) ≡ numbered (number_of 0 x) (held_texts params)
  same_number = ap (λ (i : ℕ). numbered i (held_texts params)) c ∙ numbered_capped params (number_of 0 x) l fits

  number_shown : {r : Perhaps Part} → numbers.Shown params n r → Shown vars params (nth (number_of 0 x)) r
  unfolding holding_in
  number_shown (numbers.shown h) = shown (record { low = h.low; high = h.high; gets = sym same_number ∙ h.gets })
  number_shown (numbers.absent h) = absent (sym same_number ∙ h)

  pub finds_number : {is_number : Bool} {r : Perhaps Part} → is_number ≡ true → Numbers params n r → Finds vars params (called is_number x) r
  unfolding place_in
  finds_number e h =
      rw e (record { is = h.is ∙ ap (numbers.numbered_in params) c ∙ place_capped params (number_of 0 x) l fits; shows = number_shown h.shows })

  pub holds_number : {is_number : Bool} {t : Text} → is_number ≡ true → t ≡ or_empty (numbered n (held_texts params))
      → t ≡ or_empty (holding_in (held_texts params) (held vars) (called is_number x))
  unfolding holding_in
  holds_number e h = rw e (h ∙ ap or_empty same_number)

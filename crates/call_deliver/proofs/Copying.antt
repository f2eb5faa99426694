-- The variables' image, copied to the front of an array of 8,192 bytes before a job works on it.
use Prim.Native.Nat.{ℕ, ◌≤◌}
use native.Mathlib.Omega.{arith}
use mathlib.Core.Path.{◌≡◌, ap, ◌∙◌}
use mathlib.Core.Bool.{true}
use mathlib.Core.List.{◌++◌}
use lib.ListN.{length, take, drop, length-append, length-drop}
use lib.Seq.{length-take-le, take_at}
use Rattle.stages.specs.Numbers.{image_limit}
use Rattle.stages.specs.Bytes.{Text}
use Rattle.stages.specs.Images.{is_some, variables_of}
use Rattle.stages.proofs.Tables.{vars_of}

module _ (vars : Text) (used : ℕ) (inside : used ≤ length vars) (formed : is_some (variables_of (take used vars)) ≡ true) where
  used_long : length (take used vars) ≡ used
  used_long = length-take-le used vars inside

  pub used_low : used ≤ image_limit
  used_low = omega (arith, used_long, (vars_of (take used vars) formed).small)

  module _ (copy : Text) (lc : length copy ≡ image_limit) where
    pub copy_fits : length (take used vars) ≤ length copy
    copy_fits = omega (arith, used_long, used_low, lc)

    module _ (left : Text) (d : left ≡ take used vars ++ drop (length (take used vars)) copy) where
      pub copied : take used left ≡ take used vars
      copied = ap (take used) d ∙ take_at (take used vars) (drop (length (take used vars)) copy) used used_long

      pub copy_long : length left ≡ image_limit
      copy_long = ap length d ∙ simp (length-append, length-drop) (omega (arith, used_long, used_low, lc))

-- Two answers that a contract allows for one input are equal.
use Prim.Native.Nat.{ℕ}
use mathlib.Core.Path.{◌≡◌}
use mathlib.Core.Bool.{Bool}
use Rattle.stages.specs.Bytes.{Text}
use Rattle.stages.specs.Read.{read_line}
use Rattle.stages.specs.Images.{held_texts}
use Rattle.text.proofs.Determined.{one_answer}
use Rattle.table.specs.Kinds.{well_formed}
use Rattle.table.specs.declared.Kind.TheVariants.{Paths}
use Rattle.test_measured.specs.Numbers.{number_of}
use Rattle.test_measured.specs.Counts.{matching}

pub paths_formed_determined : (image : Text) (r s : Bool) → r ≡ well_formed Paths image → s ≡ well_formed Paths image → r ≡ s
paths_formed_determined image r s = one_answer

pub matching_determined : (pattern paths : Text) (r s : ℕ) → r ≡ matching pattern (held_texts paths) → s ≡ matching pattern (held_texts paths) → r ≡ s
matching_determined pattern paths r s = one_answer

pub read_determined : (line : Text) (r s : ℕ) → r ≡ number_of (read_line line) → s ≡ number_of (read_line line) → r ≡ s
read_determined line r s = one_answer

use native.Mathlib.Omega.{arith}
use Rattle.split_field.proofs.with_sets.Goals as goal

pub whole_as_slice-put_settled : goal.whole_as_slice-put_settled
whole_as_slice-put_settled g c = omega (arith, c.requires.words)

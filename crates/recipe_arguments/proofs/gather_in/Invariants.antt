-- Each turn packs one argument more.
use Rattle.std.proofs.Common.{◌≡◌, length}
use Rattle.recipe_arguments.proofs.Packing.{Packing}
use Rattle.recipe_arguments.proofs.gather_in.Given as goal

abbrev pub invariant-loop-number : goal.invariant-loop-number
invariant-loop-number l = Packing l.first l.count l.image l.so_far l.number × (length l.buffer ≡ length l.initial.buffer)

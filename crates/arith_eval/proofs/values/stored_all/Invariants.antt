-- What is still to be stored.
use Rattle.arith_eval.specs.Climbs.{lent_in, inside}
use Rattle.arith_eval.proofs.Storing.{Unwinding}
use Rattle.arith_eval.proofs.values.stored_all.Given as goal

abbrev pub invariant-loop-i : goal.invariant-loop-i
invariant-loop-i l =
    Unwinding (lent_in l.scope) l.text l.places l.waiting l.value (inside l.initial.vars l.scope.vars_used) l.i l.all.value l.vars l.all.vars_used

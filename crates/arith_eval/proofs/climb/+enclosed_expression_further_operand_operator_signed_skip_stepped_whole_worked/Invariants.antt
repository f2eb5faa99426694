-- Each member's measure is by what is left of the text: a call stands further on, or at the same place with a smaller last summand.
use Prim.Native.Nat.{◌+◌, ◌-◌, ◌*◌}
use mathlib.Core.Path.{◌≡◌}
use lib.ListN.{length}
use Rattle.table_store.specs.Holding.{Holds}
use Rattle.arith_eval.specs.Climbs.{lent_in, inside}
use Rattle.arith_eval.proofs.Climbing.{Going}
use Rattle.arith_eval.proofs.Reading.{Skipping}
use Rattle.arith_eval.proofs.Working.{Working}
use Rattle.arith_eval.proofs.climb.+enclosed_expression_further_operand_operator_signed_skip_stepped_whole_worked.Given as goal

abbrev pub decreases-enclosed : goal.decreases-enclosed
decreases-enclosed l = 5 * (length l.text.now - l.at) + 4

abbrev pub decreases-expression : goal.decreases-expression
decreases-expression l = 5 * (length l.text.now - l.at) + 1

abbrev pub decreases-further : goal.decreases-further
decreases-further l = 5 * (length l.text.now - l.at) + 1

abbrev pub decreases-operand : goal.decreases-operand
decreases-operand l = 5 * (length l.text.now - l.at)

abbrev pub decreases-operator : goal.decreases-operator
decreases-operator l = 5 * (length l.text.now - l.at)

abbrev pub decreases-signed : goal.decreases-signed
decreases-signed l = 5 * (length l.text.now - l.at) + 1

abbrev pub decreases-skip : goal.decreases-skip
decreases-skip l = 5 * (length l.text.now - l.at) + 2

abbrev pub decreases-stepped : goal.decreases-stepped
decreases-stepped l = 5 * (length l.text.now - l.at) + 2

abbrev pub decreases-whole : goal.decreases-whole
decreases-whole l = 5 * (length l.text.now - l.at) + 3

abbrev pub decreases-worked : goal.decreases-worked
decreases-worked l = 5 * (length l.text.now - l.at) + 2

abbrev pub invariant-further-loop-more : goal.invariant-further-loop-more
invariant-further-loop-more l =
    Going (lent_in l.scope) l.text l.initial.vars l.scope.vars_used l.scope.counts l.at l.scope.room l.least l.left l.so_far.value l.so_far.next
    l.vars l.so_far.vars_used

abbrev pub decreases-further-loop-more : goal.decreases-further-loop-more
decreases-further-loop-more l = length l.text - l.so_far.next

abbrev pub invariant-skip-loop-target : goal.invariant-skip-loop-target
invariant-skip-loop-target l = Skipping l.text l.at l.idle.room l.colons l.begins l.awaited l.i l.first × (l.vars ≡ l.initial.vars)

abbrev pub decreases-skip-loop-target : goal.decreases-skip-loop-target
decreases-skip-loop-target l = length l.text - l.i

abbrev pub invariant-worked-loop-target : goal.invariant-worked-loop-target
invariant-worked-loop-target l =
    Working (lent_in l.scope) l.text (inside l.initial.vars l.scope.vars_used) l.at l.scope.room l.awaited l.i l.first l.waiting l.places
    (inside l.vars l.used)
    × Holds l.scope.vars_room l.vars l.used

abbrev pub decreases-worked-loop-target : goal.decreases-worked-loop-target
decreases-worked-loop-target l = length l.text - l.i

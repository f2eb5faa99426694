-- The value that the look-up shows; where it shows none, 0 or 25.
use mathlib.Core.Path.{◌≡◌, sym, ap, ◌∙◌}
use mathlib.Core.Bool.{Bool, true, false}
use mathlib.Core.Option.{Option, none, some}
use lib.IntN.{pos}
use Rattle.stages.specs.Numbers.{unset_name}
use Rattle.stages.specs.Bytes.{Text}
use Rattle.stages.specs.Outcome.{Outcome, refused, done, ◌>>=◌}
use Rattle.stages.specs.Params.{or_shout}
use Rattle.stages.specs.Constants.{valued}
use Rattle.stages.specs.Arith.{name_number}
use Rattle.stages.proofs.Shouts.{shout_set}
use Rattle.table.proofs.Finds.{is_shown, is_absent}
use Rattle.arith_eval.proofs.values.name_number.Goals as goal

set_number : (s : Bool) {o : Option Text} {t : Text} → o ≡ some t → valued t ≡ name_number s o
unfolding name_number
set_number s {t = t} e = sym (ap (λ (o : Option Text). or_shout s o >>= λ t. valued t) e ∙ ap (λ (o : Outcome Text). o >>= λ t. valued t) (shout_set s t))

unset_refused : {s : Bool} {o : Option Text} → o ≡ none → s ≡ true → refused unset_name ≡ name_number s o
unfolding name_number or_shout
unset_refused {s} e h = sym (ap (name_number s) e ∙ ap (λ (s : Bool). name_number s none) h)

unset_zero : {s : Bool} {o : Option Text} → o ≡ none → s ≡ false → done (pos 0) ≡ name_number s o
unfolding name_number or_shout valued
unset_zero {s} e h = sym (ap (name_number s) e ∙ ap (λ (s : Bool). name_number s none) h)

pub returns-then-shouts : goal.returns-then-shouts
returns-then-shouts c = unset_refused (is_absent c.look_up-found.ensures c.in-None.is) c.if-shouts.true

pub returns-in-Some : goal.returns-in-Some
returns-in-Some c = c.value_of.ensures ∙ set_number _ (is_shown c.look_up-found.ensures _ c.in-Some.is).gets

pub returns-else-shouts : goal.returns-else-shouts
returns-else-shouts c = unset_zero (is_absent c.look_up-found.ensures c.in-None.is) c.if-shouts.false

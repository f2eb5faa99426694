-- The short way where it knows, else the long one, which asks for nothing that is lent but the room and the switch.
use mathlib.Core.Path.{refl}
use Rattle.table.specs.Around.{lent_of}
use Rattle.arith_eval.specs.Climbs.{alone}
use Rattle.arith_eval.proofs.Texts.{lent_alike}
use Rattle.arith_eval.proofs.evaluate_text.Goals as goal

pub returns-in-None : goal.returns-in-None
returns-in-None c =
    let a = c.args in
    λ homes params. lent_alike (alone a.vars_room a.shouts) (lent_of a.vars_room a.shouts homes params) refl refl a.text.now a.vars.now
    a.vars_used _ c.with_places.result c.with_places.ensures

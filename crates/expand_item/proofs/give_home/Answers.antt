-- The login is empty or not.
use Rattle.std.proofs.Common.{◌∙◌}
use Rattle.stages.specs.Images.{held}
use Rattle.row.specs.Marks.{mark_of}
use Rattle.expand_item.proofs.Homes.{found_text, empty_login, some_login, adds_home}
use Rattle.expand_item.proofs.give_home.Goals as goal

pub returns-then-login-eq0 : goal.returns-then-login-eq0
returns-then-login-eq0 c =
    let a = c.args in
    adds_home a.row.units a.on a.login.now (mark_of a.row.mark) c.give_found.new.area c.give_found.result
    (empty_login (held a.vars.now) (held a.homes.now) a.login.now c.if-login-eq0.true ∙ found_text c.look_up_home.ensures.shows)
    c.give_found.ensures

pub returns : goal.returns
returns c =
    let a = c.args in
    adds_home a.row.units a.on a.login.now (mark_of a.row.mark) c.give_found-2.new.area c.give_found-2.result
    (some_login (held a.vars.now) (held a.homes.now) a.login.now c.if-login-eq0.false ∙ found_text c.look_up.ensures.shows)
    c.give_found-2.ensures

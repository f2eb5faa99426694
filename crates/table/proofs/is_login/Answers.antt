-- `table::is_login` meets its contract: a run of login bytes reaches the end just if all are.
use Rattle.std.proofs.Common.{sym, ◌∙◌}
use borrow.Author.Tests.{eqb-true, eqb-false}
use Rattle.table.proofs.Keys.{no_login, login_is}
use Rattle.table.proofs.is_login.Goals as goal

pub returns-then-not-is_empty : goal.returns-then-not-is_empty
returns-then-not-is_empty c = login_is _ _ (eqb-false _ _ (sym c.is_empty.ensures ∙ c.if-not-is_empty.true)) c.run_end.ensures

pub returns-else-not-is_empty : goal.returns-else-not-is_empty
returns-else-not-is_empty c = rw c.if-not-is_empty.false (no_login _ (eqb-true _ _ (sym c.is_empty.ensures ∙ c.if-not-is_empty.false)))

-- The values are those of what quoting says, case by case.
use Rattle.drunquill.proofs.Quoting.{quotes_line, quotes_none}
use Rattle.drunquill.proofs.quote.Goals as goal

pub returns-in-Ok : goal.returns-in-Ok
returns-in-Ok c = quotes_line _ c.in-Ok.out_len c.quote_fields.new.out c.in-Ok.ensures

pub returns-in-Err : goal.returns-in-Err
returns-in-Err c = rw (c.number.ensures, c.from.ensures) (quotes_none _ c.in-Err.error c.quote_fields.new.out c.in-Err.ensures)

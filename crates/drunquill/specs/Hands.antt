-- What the quoter answers, and what the lent output holds then, by document 01's stages: every value and every byte.
use Rattle.std.specs.Prelude.{◌≡◌}
use Rattle.stages.specs.Bytes.{Text}
use Rattle.stages.specs.Call as stage
use Rattle.drunquill.specs.declared.QuoteAnswer.{QuoteAnswer}

-- the quoter's three values, and what the output holds
pub record Quotes (q : stage.Quoting) (r : QuoteAnswer) (out : Text) : Type 0 where
  pub number : r.number ≡ q.number
  pub place : r.place ≡ q.place
  pub out_length : r.out_len ≡ q.out_length
  pub output : out ≡ q.out

-- `quote::put_field` meets its contract: a bare field is copied, one whose bytes stay is copied between quotes, and any other written as its quotes ask.
use Rattle.text.proofs.Filling.{puts_copied}
use Rattle.quote.proofs.Fields.{same_put}
use Rattle.quote.proofs.put_field.Goals as goal

pub returns-in-Bare : goal.returns-in-Bare
returns-in-Bare c =
    same_put _ _ _ _ _ (c.look_at.ensures.leaves c.in-Bare.is) (puts_copied _ _ _ c.copy_in.ensures)

-- The part is the value that the look-up shows; where it shows none, IFS is unset.
use mathlib.Core.Path.{◌∙◌}
use Rattle.split_row.proofs.Words.{ifs_set, ifs_unset}
use Rattle.split_row.proofs.ifs_of.Goals as goal

pub returns-in-Some : goal.returns-in-Some
returns-in-Some c = ifs_set c.look_up_ifs.ensures c.in-Some.value c.in-Some.is

pub returns-in-None : goal.returns-in-None
returns-in-None c = c.requires.unset_value ∙ ifs_unset c.look_up_ifs.ensures c.in-None.is

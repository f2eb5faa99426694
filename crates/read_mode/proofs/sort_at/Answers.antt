-- A byte of a value is what it is in a word.
use Rattle.std.proofs.Common.{inl, inr}
use Rattle.read_mode.proofs.Valued.{word_value}
use Rattle.read_mode.proofs.sort_at.Goals as goal

pub returns-in-Word : goal.returns-in-Word
returns-in-Word c =
    elim c.in-Word.is [
      | inl e ↦ rw e c.sort_word.ensures
      | inr e ↦ rw e (word_value c.sort_word.ensures)
    ]

-- The bytes passed are shown, and those ahead are left.
use Rattle.std.proofs.Common.{drop}
use Rattle.text.proofs.Filling.{Filling}
use Rattle.tab_show.specs.Lines.{shown_text}
use Rattle.tab_show.proofs.put_text.Given as goal

abbrev pub invariant-loop-b : goal.invariant-loop-b
invariant-loop-b l = Filling (shown_text l.text) (shown_text (drop l.b-index l.text)) l.initial.out l.out l.used

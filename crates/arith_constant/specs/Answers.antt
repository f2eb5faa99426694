-- What the readers of constants say in document 01's terms: the number that a case refuses with, or the value that it gives.
use Rattle.std.specs.Prelude.{ℕ, true, false, leb, Result, Ok, Err}
use Rattle.std.proofs.Math.Option.{Option, none, some}
use Rattle.stages.specs.Numbers.{not_number, overflow}
use Rattle.stages.specs.Outcome.{Outcome, refused, done}
use Rattle.text.specs.Refusals.{refusal_number}
use Rattle.text.specs.declared.refusal.Refusal.{Refusal}

abbrev pub counted : Result ℕ Refusal → Outcome ℕ
counted (Ok n) = done n
counted (Err e) = refused (refusal_number e)

-- a constant up to a limit: 15 for its form before 17 for its size
unfoldable pub within : ℕ → Option ℕ → Outcome ℕ
within limit none = refused not_number
within limit (some n) = elim (leb n limit) [ true ↦ done n | false ↦ refused overflow ]

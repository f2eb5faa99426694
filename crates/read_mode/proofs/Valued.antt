-- A byte of a value is what it is in a word, of which the value is the end.
use Prim.Native.Nat.{ℕ}
use native.Mathlib.Omega.{arith}
use mathlib.Core.Path.{◌≡◌}
use Rattle.stages.specs.Syntax.{Start, word, value}
use Rattle.stages.specs.Items.{sort, closer_length}
use Rattle.read_mode.specs.Modes.{Carries, Sorted}
use Rattle.read_mode.specs.declared.Sort.{Sort}
use Rattle.read_mode.specs.declared.Sort.TheVariants.{Backquote, Closes, Operator, Quotes, Quotes2, Backslash, Escape}
use Rattle.read_mode.specs.declared.Sort.TheVariants.{Dollar, Bad, Opening, Closing, Tilde, Literal}

carries_value : (s : Start) (r : Sort) → Carries r (word s) → Carries r (value s)
unfolding closer_length
carries_value s Backquote c = tt
carries_value s (Closes k) c = c
carries_value s Operator c = tt
carries_value s Quotes c = tt
carries_value s Quotes2 c = tt
carries_value s Backslash c = tt
carries_value s Escape c = tt
carries_value s Dollar c = tt
carries_value s Bad c = tt
carries_value s (Opening n) c = absurd (let z : ◌≡◌ {A = ℕ} 0 1 = cc in omega arith)
carries_value s (Closing n) c = absurd (let z : ◌≡◌ {A = ℕ} 0 1 = cc in omega arith)
carries_value s Tilde c = tt
carries_value s Literal c = tt

pub word_value : {s : Start} {b : ℕ} {r : Sort} → Sorted (word s) b r → Sorted (value s) b r
unfolding sort
word_value {s = s} {r = r} h = record { is = h.is; carries = carries_value s r h.carries }

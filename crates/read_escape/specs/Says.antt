-- What the code says of an escape is the stage's, with the place behind it.
use Rattle.std.specs.Prelude.{ℕ, suc, ◌-◌, ◌≤◌, ◌<◌, ◌≡◌, Option, Some, None, Result, Ok, Err, length, take, drop}
use Rattle.stages.specs.Bytes.{Text, part}
use Rattle.stages.specs.Constants.{is_digit_in}
use Rattle.stages.specs.Escapes.{says, unsaid, letters, letter_of}
use Rattle.stages.specs.Escapes as escapes
use Rattle.text.specs.Places.{Behind}
use Rattle.text.specs.Refusals.{refusal_number}
use Rattle.text.specs.declared.refusal.Refusal.{Refusal}
use Rattle.text.specs.Classes.{in_class}
use Rattle.text.specs.declared.Class.{Class}
use Rattle.read_escape.specs.declared.Escaped.{Escaped}

-- the escape whose backslash is at `at`
abbrev pub SaidAt : Text → ℕ → Result Escaped Refusal → escapes.Said → Type 0
SaidAt text at (Ok r) s = (s ≡ says r.byte (r.next - suc at)) × Behind text at r.next
SaidAt text at (Err e) s = s ≡ unsaid (refusal_number e)

-- the byte that a sign says; the stage has 0 for none
abbrev pub LetterAt : ℕ → Option ℕ → Type 0
LetterAt b (Some c) = (c ≡ letter_of b letters) × (0 < c)
LetterAt b None = 0 ≡ letter_of b letters

-- the class is that of the digits of the base
abbrev pub DigitsOf : Class → ℕ → Type 0
DigitsOf class base = (b : ℕ) → in_class class b ≡ is_digit_in base b

-- the part from one place to another has so many bytes at most
pub record AtMost (text : Text) (from most to : ℕ) : Type 0 where
  pub is : part text from to ≡ take most (drop from text)
  pub onward : from ≤ to
  pub within : to ≤ length text

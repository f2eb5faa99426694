-- How a table is shown as text: one record to a line, `name=value`, `login=directory` or the path alone. A newline is shown as `\n`, a backslash as
-- `\\`, any other byte that is not printed as `\xHH`.
use Rattle.std.specs.Prelude.{ℕ, ◌+◌, ◌-◌, ◌/◌, ◌%◌, Bool, true, false, ◌&&◌, not, List, [], ◌∷◌, ◌++◌, eqb, ltb, length, Result, Ok, Err}
use Prim.Native.Char.{code}
use Rattle.std.proofs.Math.Option.{Option, none, some}
use Rattle.stages.specs.Bytes.{Text, between}
use Rattle.stages.specs.Outcome.{pick}
use Rattle.stages.specs.Images.{held_texts}
use Rattle.stages.specs.Call.{over}
use Rattle.table.specs.Kinds.{well_formed, in_twos}
use Rattle.table.specs.declared.Kind.{Kind}
use Rattle.table.specs.declared.Malformed.{Malformed}

-- the digit of a number below 16
abbrev pub hex_digit : ℕ → ℕ
hex_digit n = pick (ltb n 10) (code "0" + n) (code "A" - 10 + n)

-- a byte that stands for itself: from the blank to `~`, but for the backslash
abbrev pub is_plain : ℕ → Bool
is_plain b = between 32 b 126 && not (eqb b (code "\\"))

-- the byte behind a backslash that stands for a newline or a backslash
abbrev pub letter_of : ℕ → Option ℕ
letter_of b = pick (eqb b (code "\n")) (some (code "n")) (pick (eqb b (code "\\")) (some (code "\\")) none)

-- a byte by its escape
abbrev pub escaped : ℕ → Option ℕ → Text
escaped b (some c) = code "\\" ∷ c ∷ []
escaped b none = code "\\" ∷ code "x" ∷ hex_digit (b / 16) ∷ hex_digit (b % 16) ∷ []

unfoldable pub shown_byte : ℕ → Text
shown_byte b = pick (is_plain b) (b ∷ []) (escaped b (letter_of b))

unfoldable pub shown_text : Text → Text
unfolding shown_byte
shown_text [] = []
shown_text (b ∷ t) = shown_byte b ++ shown_text t

-- behind the first of two texts stands `=`, behind the last text of a record a newline
abbrev pub end_of : Bool → ℕ
end_of true = code "="
end_of false = code "\n"

-- whether a text is the first of two, by whether the one before it was
abbrev pub first_next : Bool → Bool → Bool
first_next two first = two && not first

-- the lines of texts that stand one or two to a record, the first of which is the first of two or not
unfoldable pub shown_texts : Bool → Bool → List Text → Text
unfolding shown_text
shown_texts two first [] = []
shown_texts two first (t ∷ l) = shown_text t ++ end_of first ∷ shown_texts two (first_next two first) l

-- the lines of the texts of a table
unfoldable pub shown_of : Kind → List Text → Text
unfolding shown_texts
shown_of kind l = shown_texts (in_twos kind) (in_twos kind) l

-- an answer as a length or none, and the bytes left
abbrev pub showing_of : Result ℕ Malformed → Text → Option ℕ × Text
showing_of (Ok n) left = (some n, left)
showing_of (Err e) left = (none, left)

-- the lines of an image of the kind stand at the front of the old bytes; for what is no such image the old bytes stay
unfoldable pub showing : Kind → Text → Text → Option ℕ × Text
unfolding shown_of over
showing kind t old = pick (well_formed kind t) (some (length (shown_of kind (held_texts t))), over (shown_of kind (held_texts t)) old) (none, old)

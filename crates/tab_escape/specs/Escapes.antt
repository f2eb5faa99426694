-- What a text stands for in which `\n`, `\\` and `\x` with two digits are escapes.
use Rattle.std.specs.Prelude.{ℕ, zero, suc, ◌+◌, ◌-◌, ◌*◌, ◌≡◌, true, [], ◌∷◌, eqb, ltb, length, get_or, Option, Some, None, Result, Ok, Err}
use Rattle.stages.specs.Bytes.{Text, all, between, not_zero}
use Rattle.stages.specs.Outcome.{pick}
use Rattle.stages.specs.Call.{over}
use Rattle.text.specs.Putting.{Puts}
use Rattle.tab_escape.specs.declared.Fault.{Fault}
use Rattle.tab_escape.specs.declared.Fault.TheVariants.{BadEscape, ZeroByte}
use Rattle.tab_escape.specs.declared.Byte.{Byte}

-- the number that a digit stands for, in either case
abbrev pub hex_value : ℕ → Option ℕ
hex_value b =
    pick (between 48 b 57) (Some (b - 48)) (pick (between 65 b 70) (Some (b - 55)) (pick (between 97 b 102) (Some (b - 87)) None))

-- a byte of a text, or why there is none
abbrev pub Got : Type 0
Got = Result Byte Fault

-- this byte, with so many behind its first
abbrev pub taking : ℕ → ℕ → Got
taking b k = Ok (record { b = b; more = k })

-- the byte of two digits, where it is not zero
abbrev pub hex_byte : Option ℕ → Option ℕ → Got
hex_byte (Some h) (Some l) = pick (eqb (h * 16 + l) 0) (Err ZeroByte) (taking (h * 16 + l) 3)
hex_byte (Some h) None = Err BadEscape
hex_byte None l = Err BadEscape

-- what stands behind a backslash, by the bytes that are left with it and the three behind it
abbrev pub escape_of : ℕ → ℕ → ℕ → ℕ → Got
escape_of n c h l =
    pick (ltb n 2) (Err BadEscape)
    (pick (eqb c 110) (taking 10 1)
    (pick (eqb c 92) (taking 92 1)
    (pick (eqb c 120) (pick (ltb n 4) (Err BadEscape) (hex_byte (hex_value h) (hex_value l))) (Err BadEscape))))

-- the byte that stands at a place, and how many bytes behind the first it takes: the byte 92 is a backslash
abbrev pub byte_of : ℕ → ℕ → ℕ → ℕ → ℕ → Got
byte_of n b c h l = pick (eqb b 0) (Err ZeroByte) (pick (eqb b 92) (escape_of n c h l) (taking b 0))

unfoldable pub byte_at : Text → ℕ → Got
byte_at t i = byte_of (length t - i) (get_or t i 0) (get_or t (i + 1) 0) (get_or t (i + 2) 0) (get_or t (i + 3) 0)

-- a text; or why it is none, and the text before the fault
pub data Reading : Type 0 where
  bad : Fault → Text → Reading
  good : Text → Reading

abbrev pub before : ℕ → Reading → Reading
before b (bad f t) = bad f (b ∷ t)
before b (good t) = good (b ∷ t)

abbrev pub read_on : Got → (ℕ → Reading) → Reading
read_on (Err f) on = bad f []
read_on (Ok r) on = before r.b (on r.more)

-- what the bytes behind the first k stand for
unfoldable pub read_from : ℕ → Text → Reading
unfolding byte_at
read_from k [] = good []
read_from (suc k) (b ∷ t) = read_from k t
read_from zero (b ∷ t) = read_on (byte_at (b ∷ t) 0) (λ k. read_from k t)

unfoldable pub read_text : Text → Reading
unfolding read_from
read_text t = read_from 0 t

-- what reading answers: the text that was read stands at the front of a buffer, at a fault the one before it
pub data Reads (o : Reading) (old left : Text) : Result ℕ Fault → Type 0 where
  reads : {t : Text} {n : ℕ} → o ≡ good t → all not_zero t ≡ true → Puts t old left n → Reads o old left (Ok n)
  fails : {f : Fault} {t : Text} → o ≡ bad f t → left ≡ over t old → Reads o old left (Err f)

-- the place of the first such byte, or the end
abbrev pub up_to : ℕ → Text → ℕ
up_to b [] = 0
up_to b (c ∷ t) = pick (eqb c b) 0 (suc (up_to b t))

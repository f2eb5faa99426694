-- The classes of bytes by the stage's tests, and what the end of a longest run says of a text.
use Rattle.std.specs.Prelude.{ℕ, ◌≤◌, ◌≡◌, Bool, true, false, ◌&&◌, not, List, [], ◌∷◌, length, drop}
use Rattle.stages.specs.Bytes.{Text, part, span, not_zero, is_digit, is_name_start, is_name_byte, is_login_byte, is_bare_byte, is_blank, is_operator}
use Rattle.stages.specs.Bytes.{not_control}
use Rattle.stages.specs.Constants.{is_digit_in}
use Rattle.stages.specs.Quote.{is_sign}
use Rattle.text.specs.Bits.{all_bits}
use Rattle.text.specs.declared.Class.{Class}
use Rattle.text.specs.declared.Class.TheVariants.{NotZero, Digit, NameStart, NameByte, LoginByte, BareByte, Blank, Operator, NotControl}
use Rattle.text.specs.declared.Class.TheVariants.{SameByte, OctalDigit, HexDigit}

-- the test that a class stands for
abbrev pub in_class : Class → ℕ → Bool
in_class NotZero b = not_zero b
in_class Digit b = is_digit b
in_class NameStart b = is_name_start b
in_class NameByte b = is_name_byte b
in_class LoginByte b = is_login_byte b
in_class BareByte b = is_bare_byte b
in_class Blank b = is_blank b
in_class Operator b = is_operator b
in_class NotControl b = not_control b
in_class SameByte b = not_control b && not (is_sign b)
in_class OctalDigit b = is_digit_in 8 b
in_class HexDigit b = is_digit_in 16 b

-- the bytes of a class as the bits of two numbers: those below 64, and those from 64 to 127
abbrev pub low_bytes : Class → ℕ
low_bytes NotZero = 18446744073709551614
low_bytes Digit = 287948901175001088
low_bytes NameStart = 0
low_bytes NameByte = 287948901175001088
low_bytes LoginByte = 288054454291267584
low_bytes BareByte = 288195191779622912
low_bytes Blank = 4294968832
low_bytes Operator = 6341071848750448640
low_bytes NotControl = 18446744069414584320
low_bytes SameByte = 18446743519658770432
low_bytes OctalDigit = 71776119061217280
low_bytes HexDigit = 287948901175001088

abbrev pub high_bytes : Class → ℕ
high_bytes NotZero = 18446744073709551615
high_bytes Digit = 0
high_bytes NameStart = 576460745995190270
high_bytes NameByte = 576460745995190270
high_bytes LoginByte = 576460745995190270
high_bytes BareByte = 576460745995190270
high_bytes Blank = 0
high_bytes Operator = 1152921504606846976
high_bytes NotControl = 9223372036854775807
high_bytes SameByte = 9223372036586340351
high_bytes OctalDigit = 0
high_bytes HexDigit = 541165879422

-- whether all bytes from 128 on are in a class, or none
abbrev pub upper_bytes : Class → Bool
upper_bytes NotZero = true
upper_bytes Digit = false
upper_bytes NameStart = false
upper_bytes NameByte = false
upper_bytes LoginByte = false
upper_bytes BareByte = false
upper_bytes Blank = false
upper_bytes Operator = false
upper_bytes NotControl = true
upper_bytes SameByte = true
upper_bytes OctalDigit = false
upper_bytes HexDigit = false

-- all bytes of a class as the bits of four words
abbrev pub upper_word : Bool → ℕ
upper_word true = all_bits
upper_word false = 0

abbrev pub words_of : Class → List ℕ
words_of class = low_bytes class ∷ high_bytes class ∷ upper_word (upper_bytes class) ∷ upper_word (upper_bytes class) ∷ []

-- the longest run of the class from `at` on ends at r
pub record Runs (text : Text) (at : ℕ) (class : Class) (r : ℕ) : Type 0 where
  pub is : span (in_class class) (drop at text) ≡ (part text at r, drop r text)
  pub onward : at ≤ r
  pub within : r ≤ length text

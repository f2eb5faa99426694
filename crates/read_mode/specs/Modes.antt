-- The code's modes, forms and sorts as the stages'.
use Rattle.std.specs.Prelude.{ℕ, ◌≤◌, ◌≡◌, Bool, true, false, eqb}
use Prim.Native.Char.{code}
use Rattle.stages.specs.Numbers.{unended}
use Rattle.stages.specs.Outcome.{pick}
use Rattle.stages.specs.Syntax.{word, value, bare, single, double, quoted_operand, arith}
use Rattle.stages.specs.Syntax as syntax
use Rattle.stages.specs.Items.{Item, fault, stop, operand_mode, closer_length, sort}
use Rattle.stages.specs.Items as items
use Rattle.text.specs.Cases.{colon_of, reach_of, start_of, lists_of, escapes_of}
use Rattle.read_mode.specs.declared.Mode.{Mode}
use Rattle.read_mode.specs.declared.Mode.TheVariants.{Word, Value, Bare, Single, Double, Operand, Arith}
use Rattle.read_mode.specs.declared.Form.{Form}
use Rattle.read_mode.specs.declared.Form.TheVariants.{Minus, Equals, Query, Plus, Suffix, Prefix}
use Rattle.read_mode.specs.declared.Sort.{Sort}
use Rattle.read_mode.specs.declared.Sort.TheVariants.{Backquote, Closes, Operator, Quotes, Quotes2, Backslash, Escape}
use Rattle.read_mode.specs.declared.Sort.TheVariants.{Dollar, Bad, Opening, Closing, Tilde, Literal}

abbrev pub mode_of : Mode → syntax.Mode
mode_of (Word fresh) = word (start_of fresh)
mode_of (Value fresh) = value (start_of fresh)
mode_of (Bare fresh lists) = bare (start_of fresh) (lists_of lists)
mode_of (Single escapes) = single (escapes_of escapes)
mode_of (Double lists) = double (lists_of lists)
mode_of (Operand lists) = quoted_operand (lists_of lists)
mode_of (Arith n) = arith n

-- the open parentheses of a mode
abbrev pub open_in : Mode → ℕ
open_in (Word fresh) = 0
open_in (Value fresh) = 0
open_in (Bare fresh lists) = 0
open_in (Single escapes) = 0
open_in (Double lists) = 0
open_in (Operand lists) = 0
open_in (Arith n) = n

-- the mode in which a text goes on after its first item
abbrev pub mode_onward : Mode → Mode
mode_onward (Word fresh) = Word false
mode_onward (Value fresh) = Value false
mode_onward (Bare fresh lists) = Bare false lists
mode_onward (Single escapes) = Single escapes
mode_onward (Double lists) = Double lists
mode_onward (Operand lists) = Operand lists
mode_onward (Arith n) = Arith n

-- whether a tilde of a value is looked at behind a byte
abbrev pub opens_tilde : Bool → ℕ → Bool
opens_tilde true b = false
opens_tilde false b = eqb b (code ":")

-- the mode in which a text goes on after a byte that stands for itself
abbrev pub mode_behind : Mode → Bool → ℕ → Mode
mode_behind (Word fresh) q b = Word false
mode_behind (Value fresh) q b = Value (opens_tilde q b)
mode_behind (Bare fresh lists) q b = Bare false lists
mode_behind (Single escapes) q b = Single escapes
mode_behind (Double lists) q b = Double lists
mode_behind (Operand lists) q b = Operand lists
mode_behind (Arith n) q b = Arith n

abbrev pub form_of : Form → syntax.Form
form_of (Minus colon) = syntax.minus (colon_of colon)
form_of (Equals colon) = syntax.equals (colon_of colon)
form_of (Query colon) = syntax.query (colon_of colon)
form_of (Plus colon) = syntax.plus (colon_of colon)
form_of (Suffix doubled) = syntax.removal syntax.suffix (reach_of doubled)
form_of (Prefix doubled) = syntax.removal syntax.prefix (reach_of doubled)

abbrev pub sort_of : Sort → items.Sort
sort_of Backquote = items.backquote
sort_of (Closes k) = items.closes
sort_of Operator = items.operator
sort_of Quotes = items.quotes
sort_of Quotes2 = items.quotes2
sort_of Backslash = items.backslash
sort_of Escape = items.escape
sort_of Dollar = items.dollar
sort_of Bad = items.bad
sort_of (Opening n) = items.opening
sort_of (Closing n) = items.closing
sort_of Tilde = items.tilde
sort_of Literal = items.literal

-- what a sort carries is the mode's: how many bytes close its text, how many parentheses are open in it
abbrev pub Carries : Sort → syntax.Mode → Type 0
Carries Backquote m = Unit {0}
Carries (Closes k) m = (closer_length m ≡ k) × (k ≤ 1)
Carries Operator m = Unit {0}
Carries Quotes m = Unit {0}
Carries Quotes2 m = Unit {0}
Carries Backslash m = Unit {0}
Carries Escape m = Unit {0}
Carries Dollar m = Unit {0}
Carries Bad m = Unit {0}
Carries (Opening n) m = m ≡ arith n
Carries (Closing n) m = m ≡ arith n
Carries Tilde m = Unit {0}
Carries Literal m = Unit {0}

-- the code's sort of a byte is the stage's
pub record Sorted (m : syntax.Mode) (b : ℕ) (r : Sort) : Type 0 where
  pub is : sort_of r ≡ sort m b
  pub carries : Carries r m

-- the same for a sort that is shared by modes
pub record Shared (s : items.Sort) (r : Sort) : Type 0 where
  pub is : sort_of r ≡ s
  pub carries : (m : syntax.Mode) → Carries r m

-- the last tests of the modes in which a backslash and a `$` count ..
unfoldable pub plain_sort : ℕ → items.Sort
plain_sort b = pick (eqb b (code "\\")) items.backslash (pick (eqb b (code "$")) items.dollar items.literal)

-- .. and of those in which quotes open
unfoldable pub quotes_sort : ℕ → items.Sort
unfolding plain_sort
quotes_sort b = pick (eqb b (code "'")) items.quotes (pick (eqb b (code "\"")) items.quotes2 (plain_sort b))

-- how an operand is read, by whether its sign lets `$@` and `$*` stand
pub record Operands (m : syntax.Mode) (k : syntax.Lists) (r : Mode) : Type 0 where
  pub is : mode_of r ≡ operand_mode m k
  pub closed : open_in r ≡ 0

-- the item at the line's end
abbrev pub ends_line : Bool → Item
ends_line true = stop 0
ends_line false = fault unended

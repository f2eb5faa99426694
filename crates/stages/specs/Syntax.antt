-- Document 01, "Reading a line", and document 02, E1, E5, E9 and E12: what a word is read as.
use Rattle.std.specs.Prelude.{ℕ}
use Rattle.stages.specs.Bytes.{Text}

-- whether a colon stands before one of `-=?+`
pub data Colon : Type 0 where
  with_colon no_colon : Colon

-- "`%`, `%%`: the shortest, longest matching suffix is dropped; `#`, `##` the same for prefixes": which end of a value a removal drops ..
pub data Side : Type 0 where
  suffix prefix : Side

-- .. and how much of it
pub data Reach : Type 0 where
  shortest longest : Reach

-- what stands behind the name in `${name`
pub data Form : Type 0 where
  plain : Form
  minus equals query plus : Colon → Form
  removal : Side → Reach → Form

-- whether a backslash quotes a byte, or by E12 begins an escape that says it
pub data Escape : Type 0 where
  escaped unescaped : Escape

-- what a parameter is called: a name, or by E5 a number from 1 on
pub data Param : Type 0 where
  var : Text → Param
  nth : ℕ → Param

-- what is counted: the bytes of a parameter's value, or by E5 the positional parameters
pub data Counted : Type 0 where
  bytes_of : Param → Counted
  parameters : Counted

-- E5: how the positional parameters are given, `$@` or `$*`
pub data Spread : Type 0 where
  apart joint : Spread

-- A text is a row of parts; each constructor has the rest of the row last.
pub data Parts : Type 0 where
  end : Parts
  lit : Escape → ℕ → Parts → Parts  -- a byte that stands for itself
  quo : Parts → Parts → Parts  -- '...', "..." or by E12 $'...'
  par : Param → Form → Parts → Parts → Parts  -- $name, ${name}, ${name FORM operand}
  len : Counted → Parts → Parts  -- ${#name}, $#
  lst : Spread → Parts → Parts  -- $@, $*
  ari : Parts → Parts → Parts  -- $((...))
  til : Text → Parts → Parts  -- ~login

-- whether a tilde is looked at: where a text is read from its first byte on, and by E9 behind a `:` of a value
pub data Start : Type 0 where
  fresh begun : Start

-- E5: whether `$@` and `$*` may stand in a text: "At any depth in operands of `=`, `?`, of removals and in arithmetic, `$@` and `$*` stay 10"
pub data Lists : Type 0 where
  served barred : Lists

-- E12: whether a backslash begins an escape in single quotes: not in '...', but in $'...'
pub data Escapes : Type 0 where
  no_escapes with_escapes : Escapes

-- where a text stands: a word of the line, by E9 the value of an assignment, an operand read as bare text, '...' or by E12 $'...', "...", an operand read as
-- double-quoted text, arithmetic with so many open parentheses
pub data Mode : Type 0 where
  word value : Start → Mode
  bare : Start → Lists → Mode
  single : Escapes → Mode
  double quoted_operand : Lists → Mode
  arith : ℕ → Mode

-- a word of the line, and the offset of its first byte
pub record Word : Type 0 where
  pub place : ℕ
  pub parts : Parts

-- E9: a word that is "a name, a bare `=` and a value", the value's parts, and the offset of its first byte
pub record Assignment : Type 0 where
  pub place : ℕ
  pub name : Text
  pub parts : Parts

-- Document 02, E12: lines with `$'...'`, and quoted lines of fields with control bytes, a table for each sentence. Every row computes.
use Prim.Native.Nat.{ℕ}
use Prim.Native.String.{String}
use mathlib.Core.Path.{◌≡◌, refl}
use mathlib.Core.Bool.{Bool, true, ◌&&◌}
use mathlib.Core.List.{List, [], ◌∷◌}
use Rattle.stages.specs.Bytes.{Text, text, eq_text}
use Rattle.stages.specs.Outcome.{refused_at, done_at}
use Rattle.stages.specs.Quote.{quoted_line}
use Rattle.stages.proofs.Recipes.{Case, texts_of, all_pass}

-- a line among no tables, and its fields
abbrev gives : String → List String → Case
gives s fs = record { line = s; vars = []; homes = []; paths = "a*b" ∷ "ab" ∷ []; params = []; answer = done_at (fs, []) }

-- a line that is refused in its first word
abbrev refuses : String → ℕ → Case
refuses s n = record { line = s; vars = []; homes = []; paths = []; params = []; answer = refused_at n 0 }

-- "`\"`, `\'`, `\\`, `\a`, `\b`, `\e`, `\f`, `\n`, `\r`, `\t`, `\v`, `\x` with one or two hexadecimal digits, and one to three octal digits. Digits run as
-- long as they may."
escapes : List Case
escapes =
    gives "$'\\\"\\'\\\\\\a\\b\\e\\f\\n\\r\\t\\v'" ("\"'\\\u{7}\u{8}\u{1b}\u{c}\n\r\t\u{b}" ∷ [])
    ∷ gives "$'\\x4a\\x4A\\x4g\\xff\\x1g'" ("JJ\u{4}gÿ\u{1}g" ∷ [])
    ∷ gives "$'\\1\\12\\123\\1234\\18\\377\\012\\0101'" ("\u{1}\nSS4\u{1}8ÿ\n\u{8}1" ∷ [])
    ∷ gives "$'\\x041\\x4' $'\\7'7" ("\u{4}1\u{4}" ∷ "\u{7}7" ∷ [])
    ∷ []

-- "The text is quoted, begins with an empty mark, and any other byte in it, a backquote too, is itself."; "`\'` does not end the text."; "where 10 was given":
-- in bare text and operands read as bare text, and a `$` before a quote is literal in double quotes
texts : List Case
texts =
    gives "$''" ("" ∷ [])
    ∷ gives "a$''b$' 'c" ("ab c" ∷ [])
    ∷ gives "$'`$x\"*~#;|\n'" ("`$x\"*~#;|\n" ∷ [])
    ∷ gives "$'it\\'s'" ("it's" ∷ [])
    ∷ gives "a$'*'b $'a\\x2ab' a*b" ("a*b" ∷ "a*b" ∷ "a*b" ∷ "ab" ∷ [])
    ∷ gives "${y-$'}'} ${y:-a$'\\t b'}" ("}" ∷ "a\t b" ∷ [])
    ∷ gives "\"$'a'\" \"${y-$'a'}\"" ("$'a'" ∷ "$'a'" ∷ [])
    ∷ gives "'$'a \\$'b c'" ("$a" ∷ "$b c" ∷ [])
    ∷ gives "~$'' $'~'" ("~" ∷ "~" ∷ [])
    ∷ []

-- "A zero byte, an octal value above 255 or another escape is 11."; the line's end within it is 7
faults : List Case
faults =
    refuses "$'" 7
    ∷ refuses "$'a" 7
    ∷ refuses "$'\\" 7
    ∷ refuses "$'\\x" 7
    ∷ refuses "$'\\40" 7
    ∷ refuses "$'\\x4" 7
    ∷ refuses "$'\\'" 7
    ∷ refuses "$'\\0" 11
    ∷ refuses "$'\\0'" 11
    ∷ refuses "$'\\000'" 11
    ∷ refuses "$'\\x0'" 11
    ∷ refuses "$'\\x00'" 11
    ∷ refuses "$'\\xg'" 11
    ∷ refuses "$'\\x'" 11
    ∷ refuses "$'\\X41'" 11
    ∷ refuses "$'\\400" 11
    ∷ refuses "$'\\777'" 11
    ∷ refuses "$'\\8'" 11
    ∷ refuses "$'\\c'" 11
    ∷ refuses "$'\\?'" 11
    ∷ refuses "$'\\\n'" 11
    ∷ refuses "$'\\`'" 11
    ∷ refuses "$(($'1'))" 11
    ∷ refuses "${y+$'\\c'}" 11
    ∷ []

-- "The quoter writes a field that holds a byte below 32 or byte 127 in this form, with `\\`, `\'`, and three octal digits for each such byte; the other fields
-- as E2 left them."
record Line : Type 0 where
  fields : List Text
  line : Text

abbrev quotes : List String → String → Line
quotes l s = record { fields = texts_of l; line = text s }

lines : List Line
lines =
    quotes [] ""
    ∷ quotes ("a\rb" ∷ []) "$'a\\015b'"
    ∷ quotes ("\u{1}" ∷ "\u{1f}" ∷ "\u{7f}" ∷ []) "$'\\001' $'\\037' $'\\177'"
    ∷ quotes ("'\\\n7" ∷ []) "$'\\'\\\\\\0127'"
    ∷ quotes ("a\tb c\u{80}ÿ$`\"" ∷ []) "$'a\\011b c\u{80}ÿ$`\"'"
    ∷ quotes ("" ∷ "it's" ∷ "a/b" ∷ "\\" ∷ "\n" ∷ "\u{80}" ∷ []) "'' 'it'\\''s' a/b '\\' $'\\012' '\u{80}'"
    ∷ []

all_quote : List Line → Bool
all_quote [] = true
all_quote (c ∷ l) = eq_text (quoted_line c.fields) c.line && all_quote l

escapes_hold : all_pass escapes ≡ true
unfolding all_pass escapes
escapes_hold = refl

texts_hold : all_pass texts ≡ true
unfolding all_pass texts
texts_hold = refl

faults_hold : all_pass faults ≡ true
unfolding all_pass faults
faults_hold = refl

lines_hold : all_quote lines ≡ true
unfolding all_quote lines quoted_line
lines_hold = refl

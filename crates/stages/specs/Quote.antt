-- Document 01, "The quoted line", and what E2 and E12 of document 02 make of it: a field is written in one of three ways.
use Rattle.std.specs.Prelude.{ℕ, ◌+◌, ◌/◌, ◌%◌, Bool, ◌&&◌, not, List, [], ◌∷◌, ◌++◌, eqb}
use Prim.Native.Char.{code}
use Rattle.stages.specs.Bytes.{Text, text, is_in, all, is_bare_byte, is_control, not_control}
use Rattle.stages.specs.Outcome.{pick}
use Rattle.stages.specs.Images.{not_empty}

-- the ways of writing a field: as it is, '...' and $'...'
pub data Way : Type 0 where
  bare singled dollared : Way

-- E2: "when it is not empty and holds only letters, digits, `.`, `_`, `-` and `/`"
unfoldable pub is_bare : Text → Bool
unfolding is_bare_byte
is_bare t = not_empty t && all is_bare_byte t

-- E12: "a field that holds a byte below 32 or byte 127"
unfoldable pub has_control : Text → Bool
unfolding is_control
has_control t = not (all not_control t)

-- E2: "The quoter shall write a field bare when ..; all other fields as before." E12: "The quoter writes a field that holds a byte below 32 or byte 127 in this
-- form ..; the other fields as E2 left them."
unfoldable pub way_of : Text → Way
unfolding is_bare has_control
way_of t = pick (is_bare t) bare (pick (has_control t) dollared singled)

-- E12: "with `\\`, `\'` ..
unfoldable pub is_sign : ℕ → Bool
is_sign b = is_in b (text "\\'")

-- .. and three octal digits for each such byte"
abbrev pub octal : ℕ → Text
octal b = (code "0" + b / 64) ∷ (code "0" + b / 8 % 8) ∷ (code "0" + b % 8) ∷ []

-- a byte of a field in its quotes: "each `'` in it written `'\''`", or what E12 says
unfoldable pub quoted_byte : Way → ℕ → Text
unfolding is_control is_sign
quoted_byte bare b = b ∷ []
quoted_byte singled b = pick (eqb b (code "'")) (text "'\\''") (b ∷ [])
quoted_byte dollared b = pick (is_sign b) (code "\\" ∷ b ∷ []) (pick (is_control b) (code "\\" ∷ octal b) (b ∷ []))

unfoldable pub quoted_bytes : Way → Text → Text
unfolding quoted_byte
quoted_bytes way [] = []
quoted_bytes way (b ∷ t) = quoted_byte way b ++ quoted_bytes way t

-- "in single quotes"
unfoldable pub enclosed : Way → Text → Text
unfolding quoted_bytes
enclosed way t = code "'" ∷ quoted_bytes way t ++ (code "'" ∷ [])

-- a field as it is written: E2's "bare", or in quotes, by E12 with a `$` before them
unfoldable pub written : Way → Text → Text
unfolding enclosed
written bare t = t
written singled t = enclosed singled t
written dollared t = code "$" ∷ enclosed dollared t

-- "Each field stands in single quotes"; E2: or bare; E12: or in `$'...'`
unfoldable pub quoted_field : Text → Text
unfolding way_of written
quoted_field t = written (way_of t) t

-- the fields behind the first: "one blank between fields"
unfoldable pub blanked : List Text → Text
unfolding quoted_field
blanked [] = []
blanked (t ∷ l) = code " " ∷ quoted_field t ++ blanked l

-- "no fields, no bytes"
unfoldable pub quoted_line : List Text → Text
unfolding quoted_field blanked
quoted_line [] = []
quoted_line (t ∷ l) = quoted_field t ++ blanked l

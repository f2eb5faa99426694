-- Document 02, E3: "the twelve POSIX classes (alnum, alpha, blank, cntrl, digit, graph, lower, print, punct, space, upper, xdigit)
-- with their members in the POSIX locale over ASCII; bytes from 128 are in none".
use Rattle.std.specs.Prelude.{ℕ, Bool, ◌||◌, List, [], ◌∷◌, ◌++◌, eqb, ltb}
use Prim.Native.Char.{code}
use Rattle.stages.specs.Bytes.{Text, text, between, is_in, is_letter, is_digit}

-- upper: the capital letters; lower: the small ones; alpha: the letters of both kinds, which are document 01's; digit: its digits
unfoldable pub is_upper : ℕ → Bool
is_upper b = between (code "A") b (code "Z")

unfoldable pub is_lower : ℕ → Bool
is_lower b = between (code "a") b (code "z")

-- alnum: alpha and digit
unfoldable pub is_alnum : ℕ → Bool
unfolding is_letter is_digit
is_alnum b = is_letter b || is_digit b

-- xdigit: the digits and the first six letters of either kind
unfoldable pub is_xdigit : ℕ → Bool
unfolding is_digit
is_xdigit b = is_digit b || (between (code "A") b (code "F") || between (code "a") b (code "f"))

-- blank: blank and tab, without the newline that is between document 01's words too
unfoldable pub is_blank_or_tab : ℕ → Bool
is_blank_or_tab b = is_in b (text " \t")

-- space: tab, newline, vertical tab, form feed, carriage return, blank
unfoldable pub is_space : ℕ → Bool
is_space b = is_in b (text "\t\n\u{b}\u{c}\r ")

-- cntrl: the bytes below the blank, and 127
unfoldable pub is_cntrl : ℕ → Bool
is_cntrl b = ltb b (code " ") || eqb b 127

-- punct: the marks of ASCII
unfoldable pub is_punct : ℕ → Bool
is_punct b = is_in b (text "!\"#$%&'()*+,-./:;<=>?@[\\]^_`{|}~")

-- graph: alnum and punct
unfoldable pub is_graph : ℕ → Bool
unfolding is_alnum is_punct
is_graph b = is_alnum b || is_punct b

-- print: graph and the blank
unfoldable pub is_print : ℕ → Bool
unfolding is_graph
is_print b = is_graph b || eqb b (code " ")

-- a class that brackets may name, and the bytes that it holds
pub record NamedClass : Type 0 where
  pub name : Text
  pub holds : ℕ → Bool

unfoldable pub classes : List NamedClass
unfolding is_alnum is_letter is_blank_or_tab is_cntrl is_digit is_graph is_lower is_print is_punct is_space is_upper is_xdigit
classes =
    record { name = text "alnum"; holds = is_alnum }
    ∷ record { name = text "alpha"; holds = is_letter }
    ∷ record { name = text "blank"; holds = is_blank_or_tab }
    ∷ record { name = text "cntrl"; holds = is_cntrl }
    ∷ record { name = text "digit"; holds = is_digit }
    ∷ record { name = text "graph"; holds = is_graph }
    ∷ record { name = text "lower"; holds = is_lower }
    ∷ record { name = text "print"; holds = is_print }
    ∷ record { name = text "punct"; holds = is_punct }
    ∷ record { name = text "space"; holds = is_space }
    ∷ record { name = text "upper"; holds = is_upper }
    ∷ record { name = text "xdigit"; holds = is_xdigit }
    ∷ []

-- "The name is between active `[:` and `:]`": what stands behind the first `[`
abbrev pub written : NamedClass → Text
written c = text ":" ++ (c.name ++ text ":]")

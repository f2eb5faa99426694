-- The code's table of classes, and what its runs of bytes say of a class.
use Rattle.std.specs.Prelude.{ℕ, ◌<◌, ◌≡◌, Bool, ◌||◌, List, [], ◌∷◌, get_or}
use Rattle.stages.specs.Bytes.{Text, text, between}
use Rattle.pattern_class.specs.Rows.{row_class}
use Rattle.pattern_class.specs.declared.Class.{Class}

abbrev classed : Text → ℕ → Text → Class
classed t n r = record { 0 = t; 1 = n; 2 = r }

unfoldable pub table : List Class
table =
    classed (text ":alnum:] ") 8 (text "09AZazaz")
    ∷ classed (text ":alpha:] ") 8 (text "AZazazaz")
    ∷ classed (text ":blank:] ") 8 (text "\t\t      ")
    ∷ classed (text ":cntrl:] ") 8 (text "\0\u{1f}\u{7f}\u{7f}\u{7f}\u{7f}\u{7f}\u{7f}")
    ∷ classed (text ":digit:] ") 8 (text "09090909")
    ∷ classed (text ":graph:] ") 8 (text "!~!~!~!~")
    ∷ classed (text ":lower:] ") 8 (text "azazazaz")
    ∷ classed (text ":print:] ") 8 (text " ~ ~ ~ ~")
    ∷ classed (text ":punct:] ") 8 (text "!/:@[`{~")
    ∷ classed (text ":space:] ") 8 (text "\t\r      ")
    ∷ classed (text ":upper:] ") 8 (text "AZAZAZAZ")
    ∷ classed (text ":xdigit:]") 9 (text "09AFafaf")
    ∷ []

-- the row of the table
abbrev pub entry : ℕ → Class
entry row = get_or table row (classed [] 0 [])

-- a byte is in one of four runs
abbrev pub in_runs : Text → ℕ → Bool
in_runs r b =
    between (get_or r 0 0) b (get_or r 1 0)
    || (between (get_or r 2 0) b (get_or r 3 0) || (between (get_or r 4 0) b (get_or r 5 0) || between (get_or r 6 0) b (get_or r 7 0)))

-- these are the row's runs, and have just the bytes that its class holds
pub record Holds (row : ℕ) (r : Text) : Type 0 where
  pub is : r ≡ (entry row).2
  pub holds : (b : ℕ) → b < 256 → in_runs r b ≡ (row_class row).holds b

-- Each row of the code's table is that of the stage's: the same bytes are written for it, and its runs hold the bytes that the class holds. One test over all
-- rows and all bytes says so.
use Prim.Native.Nat.{ℕ, ◌≤◌, ◌<◌}
use mathlib.Core.Path.{◌≡◌, refl, sym, ◌∙◌, ap}
use mathlib.Core.Bool.{Bool, true, ◌&&◌}
use lib.Dec.{leb}
use lib.ListN.{length, take}
use lib.Seq.{length-take-le}
use borrow.Author.Tests.{leb-true}
use Rattle.stages.specs.Bytes.{is_letter, is_digit, eq_text}
use Rattle.stages.specs.Classes.{classes, written, is_upper, is_lower, is_alnum, is_xdigit, is_blank_or_tab, is_space, is_cntrl, is_punct, is_graph, is_print}
use Rattle.stages.proofs.Bools.{and_left, and_right}
use Rattle.stages.proofs.Texts.{eq_text_same}
use Rattle.text.proofs.Every.{every, every_at}
use Rattle.text.proofs.ClassTable.{same_bool, same_bools}
use Rattle.pattern_class.specs.Rows.{count, row_class}
use Rattle.pattern_class.specs.Table.{table, entry, in_runs, Holds}
use Rattle.pattern_class.specs.declared.Class.{Class}

holds_at : ℕ → ℕ → Bool
unfolding same_bool
holds_at row b = same_bool (in_runs (entry row).2 b) ((row_class row).holds b)

right : ℕ → Bool
unfolding holds_at
right row =
    eq_text (take (entry row).1 (entry row).0) (written (row_class row))
    && (leb (entry row).1 (length (entry row).0) && every (holds_at row) 0 256)

all_right : every right 0 count ≡ true
unfolding right table classes is_letter is_digit is_upper is_lower is_alnum is_xdigit is_blank_or_tab is_space is_cntrl is_punct is_graph is_print
all_right = refl

-- what the test says of a row
module _ (row : ℕ) (h : row < count) where
  same_text : Bool
  same_text = eq_text (take (entry row).1 (entry row).0) (written (row_class row))

  fits : Bool
  fits = leb (entry row).1 (length (entry row).0)

  holds_all : Bool
  holds_all = every (holds_at row) 0 256

  tested : (same_text && (fits && holds_all)) ≡ true
  unfolding same_text fits holds_all right
  tested = every_at right count all_right row h

  -- .. for the entry that was read
  module _ {e : Class} (is : e ≡ entry row) where
    pub row_written : take e.1 e.0 ≡ written (row_class row)
    unfolding same_text
    row_written =
        rw is
        (eq_text_same (take (entry row).1 (entry row).0) (written (row_class row)) (and_left same_text (fits && holds_all) tested))

    pub row_fits : e.1 ≤ length e.0
    unfolding fits
    row_fits =
        rw is
        (leb-true (entry row).1 (length (entry row).0) (and_left fits holds_all (and_right same_text (fits && holds_all) tested)))

    pub row_length : e.1 ≡ length (written (row_class row))
    row_length = sym (length-take-le e.1 e.0 row_fits) ∙ ap length row_written

    pub row_runs : Holds row e.2
    unfolding holds_all holds_at
    row_runs = record {
      is = ap (λ (x : Class). x.2) is;
      holds = λ b g. ap (λ (x : Class). in_runs x.2 b) is
          ∙ same_bools (in_runs (entry row).2 b) ((row_class row).holds b)
          (every_at (holds_at row) 256 (and_right fits holds_all (and_right same_text (fits && holds_all) tested)) b g);
    }

-- what is written for a class is short
short : ℕ → Bool
short row = leb (length (written (row_class row))) 9

all_short : every short 0 count ≡ true
unfolding short classes
all_short = refl

pub row_short : (row : ℕ) → row < count → length (written (row_class row)) ≤ 9
unfolding short
row_short row h = leb-true (length (written (row_class row))) 9 (every_at short count all_short row h)

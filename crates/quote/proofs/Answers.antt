-- The quoter's answers are the stage's: 22 for what is no image of fields, then 21 for a line without room, then the line.
use Prim.Native.Nat.{ℕ, ◌≤◌}
use mathlib.Core.Path.{◌≡◌, sym, ap, ◌∙◌}
use mathlib.Core.Bool.{true, false}
use mathlib.Core.List.{List}
use mathlib.Core.Option.{some}
use lib.Dec.{leb}
use lib.ListN.{length}
use native.Mathlib.Omega.{arith}
use borrow.Author.Tests.{le-leb, leb-true}
use Rattle.stages.specs.Numbers.{line_limit, output_room}
use Rattle.stages.specs.Bytes.{Text}
use Rattle.stages.specs.Outcome.{refused_at, done_at}
use Rattle.stages.specs.Images.{fields_of, held_texts, is_some}
use Rattle.stages.specs.Quote.{quoted_line}
use Rattle.stages.specs.Call.{or_refused, quoted_in, quoting, quoter}
use Rattle.stages.proofs.Bools.{and_both, and_right}
use Rattle.stages.proofs.Tables.{none_of, fields_of_lem, fields_are}
use Rattle.text.specs.Putting.{Puts}
use Rattle.quote.specs.Answers.{has_room, quoting_of}
use Rattle.std.specs.Prelude.{Ok, Err}
use Rattle.quote.specs.declared.QuoteError.TheVariants.{Malformed, NoRoom}

pub fields_here : (t : Text) → is_some (fields_of t) ≡ true → fields_of t ≡ some (held_texts t)
fields_here t e = fields_are t (fields_of_lem t e)

-- `has_room`

module _ (room : ℕ) (l : List Text) where
  -- what is surely as long as the line has room
  pub room_surely : (most : ℕ) → length (quoted_line l) ≤ most → most ≤ line_limit → most ≤ room → true ≡ has_room room l
  room_surely most h k m =
      sym (and_both (le-leb (length (quoted_line l)) line_limit (omega arith)) (le-leb (length (quoted_line l)) room (omega arith)))

  pub room_within : has_room room l ≡ true → length (quoted_line l) ≤ room
  room_within e = leb-true (length (quoted_line l)) room (and_right (leb (length (quoted_line l)) line_limit) (leb (length (quoted_line l)) room) e)

-- the line where it has room, and where it has none
line_fits : (out : ℕ) (l : List Text) → has_room out l ≡ true → quoted_in out l ≡ done_at (quoted_line l)
unfolding quoted_in
line_fits out l e = rw e

line_full : (out : ℕ) (l : List Text) → has_room out l ≡ false → quoted_in out l ≡ refused_at output_room 0
unfolding quoted_in
line_full out l e = rw e

module _ (t out : Text) where
  pub malformed : is_some (fields_of t) ≡ false → quoting_of (Err Malformed) out ≡ quoter t out
  unfolding quoter or_refused quoting
  malformed e = rw (none_of (fields_of t) e)

  module _ (h : fields_of t ≡ some (held_texts t)) where
    by_line : quoter t out ≡ quoting out (quoted_in (length out) (held_texts t))
    unfolding quoter or_refused
    by_line = rw h

    pub no_room : has_room (length out) (held_texts t) ≡ false → quoting_of (Err NoRoom) out ≡ quoter t out
    unfolding quoting
    no_room e = sym (by_line ∙ ap (quoting out) (line_full (length out) (held_texts t) e))

    pub wrote : (left : Text) (n : ℕ) → has_room (length out) (held_texts t) ≡ true → Puts (quoted_line (held_texts t)) out left n
        → quoting_of (Ok n) left ≡ quoter t out
    unfolding quoting
    wrote left n e p = sym (by_line ∙ ap (quoting out) (line_fits (length out) (held_texts t) e) ∙ rw (p.counts, p.leaves))

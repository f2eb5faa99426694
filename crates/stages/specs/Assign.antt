-- Document 02, E9: a line of assignments, from its length on, to the variables behind them.
use Rattle.std.specs.Prelude.{ℕ, Bool, true, false, ◌&&◌, not, List, [], ◌∷◌, eqb, leb, length, drop}
use Prim.Native.Char.{code}
use Rattle.stages.specs.Numbers.{line_too_long, zero_byte, bad_syntax, line_limit, depth_limit}
use Rattle.stages.specs.Bytes.{Text, is_in, span, is_name_byte}
use Rattle.stages.specs.Outcome.{Outcome, refused, done, ◌>>=◌, Placed, done_at, placed_at, ◌then◌, require}
use Rattle.stages.specs.Images.{Pairs, is_name}
use Rattle.stages.specs.Syntax.{Parts, Assignment, fresh, value}
use Rattle.stages.specs.Read.{Piece, parts, pieces}
use Rattle.stages.specs.Units.{L, bytes}
use Rattle.stages.specs.Params.{Lent, store}
use Rattle.stages.specs.Expand.{expand}

-- the bytes at the head of a word that a name may have, and what is behind them
unfoldable pub name_at : Text → Text
unfolding span is_name_byte
name_at t = (span is_name_byte t).0

unfoldable pub behind_name_at : Text → Text
unfolding span is_name_byte
behind_name_at t = (span is_name_byte t).1

-- whether a `=` stands at the head of a text
abbrev pub begins_equals : Text → Bool
begins_equals [] = false
begins_equals (b ∷ t) = eqb b (code "=")

-- whether a word begins with "a name, a bare `=`"
unfoldable pub is_assignment : Text → Bool
unfolding is_name name_at behind_name_at
is_assignment t = is_name (name_at t) && begins_equals (behind_name_at t)

-- "a name, a bare `=` and a value, perhaps empty, else 11, met at the first byte that does not fit, before its other faults": the name and the value's parts
unfoldable pub an_assignment : Piece (Text × Parts)
unfolding is_assignment name_at behind_name_at parts
an_assignment t =
    elim (is_assignment t) [
      | true ↦ parts (value fresh) depth_limit (drop 1 (behind_name_at t)) >>= λ p. done ((name_at t, p.0), p.1)
      | false ↦ refused bad_syntax
    ]

abbrev pub Assignments : Type 0
Assignments = Placed (List Assignment)

abbrev pub assignment_of : ℕ → Text × Parts → Assignment
assignment_of place p = record { place = place; name = p.0; parts = p.1 }

-- the assignments of a text that begins at `place` of the line: "an operator with no word open stays 8"
abbrev pub assignments : ℕ × Text → Assignments
assignments p = pieces an_assignment assignment_of p

-- the whole line is read first
unfoldable pub read_assignments : Text → Assignments
unfolding pieces an_assignment
read_assignments t = assignments (0, t)

-- "Values get tilde expansion .., parameters, arithmetic and quote removal, but no splitting and no paths."; "a store too long is 20"
unfoldable pub assign : Lent → Assignment → Pairs → Outcome Pairs
unfolding expand bytes store
assign a w v = expand a w.parts L 0 v >>= λ r. store a.room w.name (bytes r.0) r.1

-- "Assignments take effect left to right, each seen by the next"
unfoldable pub assign_all : Lent → List Assignment → Pairs → Placed Pairs
unfolding assign
assign_all a [] v = done_at v
assign_all a (w ∷ ws) v = placed_at w.place (assign a w v) then λ u. assign_all a ws u

-- 5 and 6; the whole line is read; then its assignments are worked out
unfoldable pub assign_line : Lent → Text → Pairs → Placed Pairs
unfolding read_assignments assign_all
assign_line a t v =
    require (leb (length t) line_limit) line_too_long 0 then λ _.
    require (not (is_in 0 t)) zero_byte 0 then λ _.
    read_assignments t then λ ws.
    assign_all a ws v

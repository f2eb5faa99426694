-- The two-case types of the stages by the Booleans of the code, and back.
use Rattle.std.specs.Prelude.{Bool, true, false}
use Rattle.stages.specs.Syntax.{Escape, escaped, unescaped, Colon, with_colon, no_colon, Side, suffix, prefix, Reach, shortest, longest, Start, fresh, begun}
use Rattle.stages.specs.Syntax.{Spread, apart, joint, Lists, served, barred, Escapes, no_escapes, with_escapes}
use Rattle.stages.specs.Pattern.{Purpose, for_paths, for_removal}

-- whether a backslash quotes a byte
abbrev pub escape_of : Bool → Escape
escape_of true = escaped
escape_of false = unescaped

abbrev pub is_escaped : Escape → Bool
is_escaped escaped = true
is_escaped unescaped = false

-- whether a colon stands before one of `-=?+`
abbrev pub colon_of : Bool → Colon
colon_of true = with_colon
colon_of false = no_colon

abbrev pub has_colon : Colon → Bool
has_colon with_colon = true
has_colon no_colon = false

-- whether a removal drops a suffix
abbrev pub side_of : Bool → Side
side_of true = suffix
side_of false = prefix

abbrev pub is_suffix : Side → Bool
is_suffix suffix = true
is_suffix prefix = false

-- whether it drops the longest one, its sign being doubled
abbrev pub reach_of : Bool → Reach
reach_of true = longest
reach_of false = shortest

abbrev pub is_longest : Reach → Bool
is_longest longest = true
is_longest shortest = false

-- whether a pattern is for paths
abbrev pub purpose_of : Bool → Purpose
purpose_of true = for_paths
purpose_of false = for_removal

-- whether a text is read from its first byte on
abbrev pub start_of : Bool → Start
start_of true = fresh
start_of false = begun

abbrev pub is_fresh : Start → Bool
is_fresh fresh = true
is_fresh begun = false

-- whether the positional parameters are given by `$@`
abbrev pub spread_of : Bool → Spread
spread_of true = apart
spread_of false = joint

abbrev pub is_apart : Spread → Bool
is_apart apart = true
is_apart joint = false

-- whether `$@` and `$*` may stand in a text
abbrev pub lists_of : Bool → Lists
lists_of true = served
lists_of false = barred

abbrev pub is_served : Lists → Bool
is_served served = true
is_served barred = false

-- whether a backslash begins an escape in single quotes
abbrev pub escapes_of : Bool → Escapes
escapes_of true = with_escapes
escapes_of false = no_escapes

abbrev pub has_escapes : Escapes → Bool
has_escapes with_escapes = true
has_escapes no_escapes = false

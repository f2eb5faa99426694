-- Document 01, the table of numbers: each refusal's number and each limit under one name.
use Rattle.std.specs.Prelude.{ℕ}

-- The numbers of the table, each under its line "Given when"; 0 is an acceptance.

-- "accepted, place 0"
abbrev pub accepted : ℕ
accepted = 0

-- "work area below 65,536 bytes"
abbrev pub work_too_small : ℕ
work_too_small = 1

-- "variables malformed, too long, or used length beyond the buffer"
abbrev pub bad_variables : ℕ
bad_variables = 2

-- "homes malformed or too long"
abbrev pub bad_homes : ℕ
bad_homes = 3

-- "paths malformed or too long"
abbrev pub bad_paths : ℕ
bad_paths = 4

-- "line above 2,048 bytes"
abbrev pub line_too_long : ℕ
line_too_long = 5

-- "zero byte in the line"
abbrev pub zero_byte : ℕ
zero_byte = 6

-- "line ends inside a quote, brace or arithmetic, or after a backslash"
abbrev pub unended : ℕ
unended = 7

-- "bare operator"
abbrev pub bare_operator : ℕ
bare_operator = 8

-- "command substitution"
abbrev pub substitution : ℕ
substitution = 9

-- "parameter not served"
abbrev pub unserved : ℕ
unserved = 10

-- "other bad syntax"
abbrev pub bad_syntax : ℕ
bad_syntax = 11

-- "too deep"
abbrev pub too_deep : ℕ
too_deep = 12

-- "`?` form on a missing value"
abbrev pub demanded : ℕ
demanded = 13

-- "above 2,048 units"
abbrev pub too_many_units : ℕ
too_many_units = 14

-- "not a number"
abbrev pub not_number : ℕ
not_number = 15

-- "arithmetic syntax"
abbrev pub arithmetic_syntax : ℕ
arithmetic_syntax = 16

-- "overflow"
abbrev pub overflow : ℕ
overflow = 17

-- "zero divisor"
abbrev pub zero_divisor : ℕ
zero_divisor = 18

-- "bracket class"
abbrev pub bracket_class : ℕ
bracket_class = 19

-- "no room for a variable"
abbrev pub variable_room : ℕ
variable_room = 20

-- "no room for output"
abbrev pub output_room : ℕ
output_room = 21

-- "fields image malformed or too long"
abbrev pub bad_fields : ℕ
bad_fields = 22

-- E5: "A malformed or too long list is new refusal 23, place 0, checked after 4."
abbrev pub bad_parameters : ℕ
bad_parameters = 23

-- E11: "A path already there, or one not there to delete, is new refusal 24"
abbrev pub bad_path : ℕ
bad_path = 24

-- E14: "refused on an unset parameter with new number 25"
abbrev pub unset_name : ℕ
unset_name = 25

-- "work area below 65,536 bytes"
abbrev pub work_least : ℕ
work_least = 65536

-- "An image has at most 8,192 bytes, that of paths 32,768."
abbrev pub image_limit : ℕ
image_limit = 8192

abbrev pub paths_limit : ℕ
paths_limit = 32768

-- "line above 2,048 bytes", and a quoted line likewise
abbrev pub line_limit : ℕ
line_limit = 2048

-- "A row for a word, an operand or an arithmetic text holds at most 2,048 units"
abbrev pub row_limit : ℕ
row_limit = 2048

-- "At most 8 expansions are open at once"
abbrev pub depth_limit : ℕ
depth_limit = 8

-- the lines of a recipe that the program numbers; those behind them have the last one's number
abbrev pub count_limit : ℕ
count_limit = 999999999

-- "More than 32 open parentheses and unary signs, together, is 12."
abbrev pub open_limit : ℕ
open_limit = 32

-- E13: "more than 64 elements or 256 text bytes is 14"
abbrev pub elements_limit : ℕ
elements_limit = 64

abbrev pub compared_limit : ℕ
compared_limit = 256

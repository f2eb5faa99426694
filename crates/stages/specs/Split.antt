-- Document 01, "Splitting", and document 02, E5: a row to the rows of its fields.
use Rattle.std.specs.Prelude.{true, false, List, [], ◌∷◌, ◌++◌, length}
use Rattle.std.proofs.Math.Option.{Option, none, some}
use Rattle.stages.specs.Recur.{fix}
use Rattle.stages.specs.Bytes.{Text, text, is_in, is_blank, blanks}
use Rattle.stages.specs.Images.{Pairs, lookup}
use Rattle.stages.specs.Units.{L, E, Q, Cell, cell, N, B, Row}

pub data Delimiter : Type 0 where
  white hard other : Delimiter

-- "A delimiter is an E unit whose byte is in IFS: white if space, tab or newline, else hard." Never asked of a break mark, which no part holds
unfoldable pub delimiter : Text → Cell → Delimiter
unfolding is_blank
delimiter ifs (cell L b) = other
delimiter ifs (cell E b) = elim (is_in b ifs) [ true ↦ elim (is_blank b) [ true ↦ white | false ↦ hard ] | false ↦ other ]
delimiter ifs (cell Q b) = other
delimiter ifs N = other
delimiter ifs B = other

-- the row without the white units at its front
unfoldable pub drop_white : Text → Row → Row
unfolding delimiter
drop_white ifs [] = []
drop_white ifs (c ∷ r) = elim (delimiter ifs c) [ white ↦ drop_white ifs r | hard ↦ c ∷ r | other ↦ c ∷ r ]

-- at most one hard unit, "and, if there was one, white ones after it"
unfoldable pub drop_hard : Text → Row → Row
unfolding delimiter drop_white
drop_hard ifs [] = []
drop_hard ifs (c ∷ r) = elim (delimiter ifs c) [ white ↦ c ∷ r | hard ↦ drop_white ifs r | other ↦ c ∷ r ]

abbrev pub longer_run : Cell → Row × Row → Row × Row
longer_run c p = (c ∷ p.0, p.1)

-- "the longest run of other units", and what is behind it
unfoldable pub other_run : Text → Row → Row × Row
unfolding delimiter
other_run ifs [] = ([], [])
other_run ifs (c ∷ r) = elim (delimiter ifs c) [ white ↦ ([], c ∷ r) | hard ↦ ([], c ∷ r) | other ↦ longer_run c (other_run ifs r) ]

-- "While units remain: the longest run of other units is a field, perhaps empty; then drop white ones, at most one hard one"
unfoldable pub fields_step : Text → (Row → List Row) → Row → List Row
unfolding other_run drop_white drop_hard
fields_step ifs rec [] = []
fields_step ifs rec (c ∷ r) = (other_run ifs (c ∷ r)).0 ∷ rec (drop_hard ifs (drop_white ifs (other_run ifs (c ∷ r)).1))

-- never stuck by `fields_from_lem` of proofs/Split
unfoldable pub fields_from : Text → Row → List Row
unfolding fields_step fix
fields_from ifs r = fix length [] (fields_step ifs) r

-- "Skip leading white ones."
unfoldable pub split : Text → Row → List Row
unfolding fields_from drop_white
split ifs r = fields_from ifs (drop_white ifs r)

-- "unset means space, tab, newline"
unfoldable pub ifs_or : Option Text → Text
ifs_or none = blanks
ifs_or (some t) = t

-- IFS as it stands
unfoldable pub ifs_now : Pairs → Text
unfolding ifs_or lookup
ifs_now v = ifs_or (lookup (text "IFS") v)

-- a unit in front of the first part
unfoldable pub longer_part : Cell → List Row → List Row
longer_part c [] = (c ∷ []) ∷ []
longer_part c (r ∷ rs) = (c ∷ r) ∷ rs

-- E5, "break between parameters": the parts of a row between its break marks, at least one
unfoldable pub broken : Row → List Row
unfolding longer_part
broken [] = [] ∷ []
broken (cell m b ∷ r) = longer_part (cell m b) (broken r)
broken (N ∷ r) = longer_part N (broken r)
broken (B ∷ r) = [] ∷ broken r

-- E5: "each part is split by itself, and an empty one gives nothing"
unfoldable pub split_parts : Text → List Row → List Row
unfolding split
split_parts ifs [] = []
split_parts ifs (r ∷ rs) = split ifs r ++ split_parts ifs rs

-- "IFS as it stands after the word's own stores"
unfoldable pub fields_of_row : Pairs → Row → List Row
unfolding ifs_now split_parts broken
fields_of_row v r = split_parts (ifs_now v) (broken r)

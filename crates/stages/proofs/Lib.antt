pub mod Recipes
pub mod Tildes
pub mod ClassLines
pub mod Bools
pub mod Rooms
pub mod Texts
pub mod Images
pub mod Tables
pub mod Stores
pub mod Escapes  -- E12: what escapes say
pub mod Items
pub mod Read
pub mod Pieces
pub mod Words
pub mod Arith
pub mod Outcomes
pub mod Digits
pub mod Split
pub mod Safe
pub mod SafeSums
pub mod SafeRows
pub mod SafePieces
pub mod SafeLines
pub mod Answers
pub mod Program
pub mod Files
pub mod Plain
pub mod Dollared  -- E12: how `$'...'` is read
pub mod Quoted
pub mod Quiet
pub mod RoundTrip
pub mod Demand
pub mod Searches
pub mod Members
pub mod Classes
pub mod Spreads  -- E5: what `"$@"` gives
pub mod SpreadLines  -- E5: lines with positional parameters
pub mod Barred  -- E5: where `$@` and `$*` may stand
pub mod Unbroken  -- E5: where no break mark comes
pub mod Bits  -- E6: the bits of a number
pub mod Storeys  -- E6: the grammar in two storeys
pub mod Ended  -- E10: behind an assignment is nothing more to read
pub mod Targets  -- E10: what arithmetic stores to is a name
pub mod Turns  -- E6 and E10: reading as a loop
pub mod Sums  -- E6 and E10: sums that compute, and sides that are not needed
pub mod Works  -- E6 and E10: what stands around an expression that is worked out
pub mod Messages  -- E7: demanded messages
pub mod ButIFS  -- E8: variables that differ in IFS alone
pub mod Alike  -- E8: one thing worked out twice
pub mod AlikeRows  -- E8: parts expanded twice
pub mod Begun  -- a word of a line has a part
pub mod OneField  -- E8: the one field of a word that stays together
pub mod AlikeLine  -- E8: a line expanded twice
pub mod Together  -- E8: the law over the calls
pub mod TogetherLines  -- E8: words that stay together, and others
pub mod Assignments  -- E9: the assignments of a line
pub mod Assigns  -- E9: the assigner's answer is well formed
pub mod AssignLines  -- E9: lines of assignments
pub mod CountLines  -- E10: lines that count
pub mod Shown  -- E12: a quoted line holds no control byte
pub mod EscapeLines  -- E12: lines with `$'...'`
pub mod PathLists  -- E11: a list of paths with one more, or one less
pub mod PathMatches  -- E11: the matches of a pattern in such a list
pub mod Updates  -- E11: the answers of both jobs
pub mod UpdateCalls  -- E11: which number, and insertion and deletion one behind the other
pub mod Reaching  -- E13: the pairs that are reached
pub mod LastPair  -- E13: a text matches just if the last pair is reached
pub mod CostCalls  -- E13: which number, what every answer has
pub mod Shouts  -- E14: what the switch changes in an expansion
pub mod ShoutCalls  -- E14: the law over the calls
pub mod ShoutLines  -- E14: lines with the switch off and on

-- The stages: what document 01 says, as definitions that compute. In the order in which they are read:
pub mod Numbers  -- each refusal's number and each limit, under one name
pub mod Bytes  -- bytes, texts and the classes of bytes
pub mod Outcome  -- what a stage answers: a result, or the number that refuses it, at a place
pub mod Recur  -- recursion on what is shorter
pub mod Images  -- "Tables": images, their records, look-up and store
pub mod Syntax  -- what a word is read as
pub mod Escapes  -- E12: what an escape of `$'...'` says
pub mod Items  -- "Reading a line": what stands at the head of a text, every rule of reading
pub mod Read  -- "Reading a line": a text's parts item by item, a line's words
pub mod Units  -- "Units and expansion": rows of marked bytes, and decimal texts
pub mod Constants  -- "Arithmetic": constants and the values of names
pub mod Arith  -- "Arithmetic": tokens, the tree of a text, what it comes to
pub mod Classes  -- E3: the twelve classes that brackets may name
pub mod Pattern  -- "Patterns": what a pattern's units are, and what it matches
pub mod Removal  -- the four removals: what remains of a value
pub mod Params  -- what is lent to an expansion, what a parameter holds, stores
pub mod Split  -- "Splitting": a row to the rows of its fields
pub mod Expand  -- "Units and expansion": parts to rows, the tilde, the forms
pub mod Paths  -- "Patterns", for paths: the rows of fields to texts
pub mod Quote  -- "The quoted line"
pub mod Line  -- a line to its fields, from its length on
pub mod Assign  -- E9: a line of assignments to the variables behind them, from its length on
pub mod Call  -- "What a call gives back": the four jobs
pub mod Updates  -- E11: a path inserted, a path deleted
pub mod Cost  -- E13: the pairs that a pattern and a text come to
pub mod Together  -- E8: what stands in quotes stays together, its premise
pub mod Program  -- "The program": what it writes for what it reads

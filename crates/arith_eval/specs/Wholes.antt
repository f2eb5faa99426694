-- What the answers on whole expressions say: what stands at a place, a text that is only read, what is behind a value that counts, and the names that wait
-- for a value.
use Rattle.std.specs.Prelude.{ℕ, suc, ◌≤◌, ◌<◌, ◌≡◌, Bool, true, false, List, [], ◌∷◌, ℤ, length, drop, get_or, Option, Some, None, Result, Ok, Err}
use Rattle.std.proofs.Math.Option as maybe
use Rattle.stages.specs.Bytes.{Text, part}
use Rattle.stages.specs.Outcome.{Outcome, refused, done, ◌>>=◌}
use Rattle.stages.specs.Images.{Pairs, is_name, lookup}
use Rattle.stages.specs.Params.{Lent}
use Rattle.stages.specs.Arith.{Op, whole_level, choice_level, is_true, apply, stop, shuts, colon, Token, ends, num, name, op, opens, query, gets, token}
use Rattle.stages.specs.Arith.{Tree, expression, ended, grow, name_number, keeping, storing}
use Rattle.stages.proofs.Ended.{NoGets, NoTarget}
use Rattle.stages.proofs.Storeys.{upstairs}
use Rattle.stages.proofs.Turns.{rest, other, pending}
use Rattle.stages.proofs.Works.{Waiting, storing_all}
use Rattle.text.specs.Places.{Behind}
use Rattle.table_store.specs.Holding.{Holds}
use Rattle.text.specs.Refusals.{refusal_number}
use Rattle.text.specs.declared.refusal.Refusal.{Refusal}
use Rattle.arith_token.specs.Tokens.{setting_of}
use Rattle.arith_int.specs.declared.Op as code
use Rattle.arith_eval.specs.declared.Worked.{Worked}
use Rattle.arith_eval.specs.declared.answers.Step.{Step}
use Rattle.arith_eval.specs.declared.answers.Step.TheVariants as step
use Rattle.arith_eval.specs.declared.marks.Mark.{Mark}
use Rattle.arith_eval.specs.declared.marks.Mark.TheVariants as mark
use Rattle.arith_eval.specs.declared.marks.Target.{Target}
use Rattle.arith_eval.specs.Climbs.{alone, inside, Ready}

-- WHAT STANDS AT A PLACE

-- the `)` behind a tree, or what refuses it
abbrev pub Closes : Text → ℕ → Result ℕ Refusal → Type 0
Closes text at (Err e) = (l : Tree) → (token (drop at text) >>= λ s. ended shuts l s) ≡ refused (refusal_number e)
Closes text at (Ok next) = Behind text at next × ((l : Tree) → (token (drop at text) >>= λ s. ended shuts l s) ≡ done (l, drop next text))

-- a token that is no part of `?:`
abbrev pub is_aside : Token → Bool
is_aside (ends stop) = true
is_aside (ends shuts) = true
is_aside (ends colon) = false
is_aside (num z) = true
is_aside (name x) = true
is_aside (op o) = true
is_aside opens = true
is_aside query = false
is_aside (gets o) = true

abbrev pub is_query : Token → Bool
is_query (ends e) = false
is_query (num z) = false
is_query (name x) = false
is_query (op o) = false
is_query opens = false
is_query query = true
is_query (gets o) = false

pub record Aside (text : Text) (at : ℕ) : Type 0 where
  pub here : Token × Text
  pub is : token (drop at text) ≡ done here
  pub other : is_aside here.0 ≡ true

-- this token at a place, and the place behind it
pub record Stands (text : Text) (at : ℕ) (k : Token) (next : ℕ) : Type 0 where
  pub is : token (drop at text) ≡ done (k, drop next text)
  pub behind : Behind text at next

abbrev pub Marks : Text → ℕ → Result Mark Refusal → Type 0
Marks text at (Err e) = token (drop at text) ≡ refused (refusal_number e)
Marks text at (Ok (mark.Query next)) = Stands text at query next
Marks text at (Ok (mark.Colon next)) = Stands text at (ends colon) next
Marks text at (Ok mark.Other) = Aside text at

-- the `:` behind a side that is not needed
abbrev pub Beyond : Text → ℕ → Result ℕ Refusal → Type 0
Beyond text at (Err e) = (d : ℕ) → (token (drop at text) >>= λ s. other d s) ≡ refused (refusal_number e)
Beyond text at (Ok next) = Stands text at (ends colon) next

-- E10: a name with its `=`, behind which its right side begins
pub record IsTarget (text : Text) (at from to : ℕ) (setting : Option code.Op) (next : ℕ) : Type 0 where
  pub names : Stands text at (name (part text from to)) to
  pub sets : Stands text to (gets (setting_of setting)) next
  pub named : is_name (part text from to) ≡ true
  pub rising : from ≤ to

-- the `=` behind a name
abbrev pub Sets : Text → ℕ → ℕ → Option Target → Type 0
Sets text from to None = NoGets (drop to text)
Sets text from to (Some t) = (t.from ≡ from) × (t.to ≡ to) × Stands text to (gets (setting_of t.setting)) t.next

abbrev pub Targets : Text → ℕ → Bool → Option Target → Type 0
Targets text at first None = first ≡ true → NoTarget (drop at text)
Targets text at first (Some t) = (first ≡ true) × IsTarget text at t.from t.to t.setting t.next

-- WHAT IS ONLY READ

-- so many colons to come, each `?` being a byte of the text before
pub record Skippable (lent : Lent) (text : Text) (at colons : ℕ) (vars : Text) (used : ℕ) (places : List ℕ) : Type 0 where
  pub ready : Ready lent text at vars used places
  pub few : colons ≤ at

-- a whole expression, or what may stand behind a colon
abbrev pub level_at : Bool → ℕ
level_at true = whole_level
level_at false = choice_level

-- .. and behind it so many times a colon and a conditional
abbrev pub to_read : Text → ℕ → ℕ → ℕ → Bool → Outcome Text
to_read text at d p first = pending d p (rest (expression grow d (level_at first) (drop at text)))

abbrev pub Skips : Text → ℕ → ℕ → ℕ → Bool → Text → Text → Result ℕ Refusal → Type 0
Skips text at d p first vars left (Err e) = to_read text at d p first ≡ refused (refusal_number e)
Skips text at d p first vars left (Ok next) = (to_read text at d p first ≡ done (drop next text)) × Behind text at next × (left ≡ vars)

-- BEHIND A VALUE THAT COUNTS

-- no `?`, all colons that are to come, and their sides
pub record Last (text : Text) (at d p next : ℕ) : Type 0 where
  pub here : Token × Text
  pub is : token (drop at text) ≡ done here
  pub bare : is_query here.0 ≡ false
  pub reads : pending d p (done (drop at text)) ≡ done (drop next text)
  pub onward : at ≤ next
  pub within : next ≤ length text

-- `?`, a side that is not needed, and its `:`
pub record Passes (text : Text) (at d next : ℕ) : Type 0 where
  pub from : ℕ
  pub to : ℕ
  pub asks : token (drop at text) ≡ done (query, drop from text)
  pub side : rest (expression grow d whole_level (drop from text)) ≡ done (drop to text)
  pub shuts : token (drop to text) ≡ done (ends colon, drop next text)
  pub behind : Behind text at next

-- so many colons being still to come
abbrev pub Steps : Text → ℕ → ℕ → ℤ → ℕ → Text → Text → Result Step Refusal → Type 0
Steps text at d z p vars left (Err e) = (l : Tree) → pending d p (rest (upstairs d (l, drop at text))) ≡ refused (refusal_number e)
Steps text at d z p vars left (Ok (step.Last next)) = Last text at d p next × (left ≡ vars)
Steps text at d z p vars left (Ok (step.Middle next)) = (is_true z ≡ true) × Stands text at query next × (left ≡ vars)
Steps text at d z p vars left (Ok (step.Behind next)) = (is_true z ≡ false) × Passes text at d next × (left ≡ vars)

-- THE NAMES THAT WAIT FOR A VALUE

-- a name with its `=` at a place
pub record SetsAt (text : Text) (p : ℕ) (g : maybe.Option Op × Text) : Type 0 where
  pub behind : Text
  pub rest : Text
  pub names : token (drop p text) ≡ done (name g.1, behind)
  pub sets : token behind ≡ done (gets g.0, rest)
  pub within : p ≤ length text

-- the first places are theirs, the last one that of the innermost
pub data Stacked (text : Text) (places : List ℕ) : ℕ → Waiting → Type 0 where
  bottom : Stacked text places 0 []
  above : {k : ℕ} {g : maybe.Option Op × Text} {gs : Waiting} → SetsAt text (get_or places k 0) g → Stacked text places k gs → Stacked text places
      (suc k) (g ∷ gs)

-- places in the text, and variables to store in
pub record Storable (lent : Lent) (text : Text) (waiting : ℕ) (places : List ℕ) (vars : Text) (used : ℕ) : Type 0 where
  pub few : waiting ≤ length places
  pub placed : (j : ℕ) → j < waiting → get_or places j 0 ≤ length text
  pub holds : Holds lent.room vars used

-- what is to be stored
abbrev pub updated_in : Bool → Pairs → maybe.Option Op → Text → ℤ → Outcome ℤ
updated_in shouts v maybe.none x z = done z
updated_in shouts v (maybe.some o) x z = name_number shouts (lookup x v) >>= λ y. apply o y z

-- a store reads no name, so that the switch is not asked; the variables' bytes behind it
abbrev pub Puts : ℕ → Text → ℤ → Pairs → Text → Result ℕ Refusal → Type 0
Puts room x z v left (Err e) = keeping (alone room false) x v z ≡ refused (refusal_number e)
Puts room x z v left (Ok now) = (keeping (alone room false) x v z ≡ done (z, inside left now)) × Holds room left now

-- by the name that stands at a place
abbrev pub Assigns : Lent → Text → ℕ → ℤ → Pairs → Text → Result Worked Refusal → Type 0
Assigns lent text place z v left (Err e) =
    (g : maybe.Option Op × Text) → SetsAt text place g → storing lent g.0 g.1 (z, v) ≡ refused (refusal_number e)
Assigns lent text place z v left (Ok r) =
    ((g : maybe.Option Op × Text) → SetsAt text place g → storing lent g.0 g.1 (z, v) ≡ done (r.value, inside left r.vars_used))
    × Holds lent.room left r.vars_used

-- by all names that wait
abbrev pub Stores : Lent → Text → ℤ → ℕ → List ℕ → Text → ℕ → Text → Result Worked Refusal → Type 0
Stores lent text z waiting places vars used left (Err e) =
    (gs : Waiting) → Stacked text places waiting gs → storing_all lent gs (done (z, inside vars used)) ≡ refused (refusal_number e)
Stores lent text z waiting places vars used left (Ok r) =
    ((gs : Waiting) → Stacked text places waiting gs → storing_all lent gs (done (z, inside vars used)) ≡ done (r.value, inside left r.vars_used))
    × Holds lent.room left r.vars_used

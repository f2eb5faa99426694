-- What the climber's answers say of the tree that the stage reads, and of what it comes to. One statement serves both runs: where a side does not
-- count, a refusal is one of reading, and the variables' bytes stay; where it counts, a refusal is what the tree that was read comes to, and so are a value
-- and the variables behind it.
use Rattle.std.specs.Prelude.{ℕ, suc, ◌+◌, ◌*◌, ◌≤◌, ◌≡◌, Bool, true, false, ◌&&◌, List, [], ℤ, pos, length, take, drop, Option, Some, None, Result, Ok, Err}
use Rattle.std.proofs.Math.Option as maybe
use Rattle.stages.specs.Numbers.{row_limit}
use Rattle.stages.specs.Bytes.{Text}
use Rattle.stages.specs.Outcome.{Outcome, refused, done}
use Rattle.stages.specs.Images.{Pairs, held, lookup}
use Rattle.stages.specs.Params.{Lent}
use Rattle.stages.specs.Arith.{is_sign, early, apply, apply_alone, Tree, Grown, further, sign, grow, name_number, evaluate}
use Rattle.stages.proofs.Storeys.{lowest}
use Rattle.text.specs.Places.{Behind}
use Rattle.table_store.specs.Holding.{Holds}
use Rattle.text.specs.Refusals.{refusal_number}
use Rattle.text.specs.declared.refusal.Refusal.{Refusal}
use Rattle.arith_int.specs.Answers.{numbered, op_of}
use Rattle.arith_int.specs.declared.Op.{Op}
use Rattle.arith_eval.specs.declared.answers.Climbed.{Climbed}
use Rattle.arith_eval.specs.declared.answers.Scope.{Scope}

-- all that is lent to a text: what its variables' image may grow to, and the switch. No name of it asks for homes or parameters.
abbrev pub alone : ℕ → Bool → Lent
alone room shouts = record { room = room; homes = []; params = []; shouts = shouts }

abbrev pub lent_in : Scope → Lent
lent_in scope = alone scope.vars_room scope.shouts

-- the variables whose image is the first bytes of a buffer
abbrev pub inside : Text → ℕ → Pairs
inside vars used = held (take used vars)

-- a place of a text that is no longer than a row, variables to look names up in and to store in, and room for the places that may have to wait
pub record Ready (lent : Lent) (text : Text) (at : ℕ) (vars : Text) (used : ℕ) (places : List ℕ) : Type 0 where
  pub start : at ≤ length text
  pub few : length text ≤ row_limit
  pub holds : Holds lent.room vars used
  pub deep : length text ≤ at + 2 * length places

-- a level of the table
pub record Climbable (lent : Lent) (text : Text) (at least : ℕ) (vars : Text) (used : ℕ) (places : List ℕ) : Type 0 where
  pub ready : Ready lent text at vars used places
  pub between : lowest ≤ least

-- a value, with its place and the variables behind it
abbrev pub climbed : ℤ → ℕ → ℕ → Climbed
climbed z next used = record { value = z; next = next; vars_used = used }

-- the leaves: nothing is worked out where it does not count
abbrev pub Names : Text → Pairs → Bool → Bool → Result ℤ Refusal → Type 0
Names x v shouts true r = numbered r ≡ name_number shouts (lookup x v)
Names x v shouts false r = r ≡ Ok (pos 0)

abbrev pub Turned : Op → ℤ → Bool → Result ℤ Refusal → Type 0
Turned o z true r = numbered r ≡ apply_alone (op_of o) z
Turned o z false r = r ≡ Ok z

-- what the left operand decides, or else what comes of both
abbrev pub unless_decided : maybe.Option ℤ → Outcome ℤ → Outcome ℤ
unless_decided maybe.none o = o
unless_decided (maybe.some z) o = done z

abbrev pub Joins : Op → ℤ → ℤ → Bool → Result ℤ Refusal → Type 0
Joins o x y true r = numbered r ≡ unless_decided (early (op_of o) x) (apply (op_of o) x y)
Joins o x y false r = r ≡ Ok x

abbrev pub is_none : maybe.Option ℤ → Bool
is_none maybe.none = true
is_none (maybe.some z) = false

-- whether a right side counts
abbrev pub is_needed : Op → ℤ → Bool → Bool
is_needed o x counts = counts && is_none (early (op_of o) x)

-- what is read behind an operator where an operand must stand
abbrev pub sign_of : Op → ℕ → Text → Grown
sign_of o d t = sign grow (is_sign (op_of o)) (op_of o) d t

-- a refusal: of reading, or, of a text that reads, of its working out
pub record Fails (lent : Lent) (v : Pairs) (counts : Bool) (o : Grown) (e : ℕ) : Type 0 where
  pub reads : counts ≡ false → o ≡ refused e
  pub works : (p : Tree × Text) → o ≡ done p → evaluate lent v p.0 ≡ refused e

-- what a tree comes to where it counts
abbrev pub Worth : Lent → Pairs → Bool → Tree → ℤ → Pairs → Type 0
Worth lent v counts l z w = counts ≡ true → evaluate lent v l ≡ done (z, w)

-- a tree, what it comes to, and the place behind it
pub record Comes (lent : Lent) (text : Text) (at : ℕ) (v : Pairs) (counts : Bool) (o : Grown) (z : ℤ) (next : ℕ) (w : Pairs) : Type 0 where
  pub tree : Tree
  pub is : o ≡ done (tree, drop next text)
  pub worth : Worth lent v counts tree z w
  pub onward : at ≤ next
  pub within : next ≤ length text

-- the variables' bytes behind a part of the text: they stay where it does not count
pub record Kept (lent : Lent) (vars : Text) (used : ℕ) (counts : Bool) (left : Text) (now : ℕ) : Type 0 where
  pub holds : Holds lent.room left now
  pub bytes : counts ≡ false → left ≡ vars
  pub length : counts ≡ false → now ≡ used

-- the answer of a part whose tree is worked out from the variables v on, of which these bytes are left
abbrev pub Yields : Lent → Text → ℕ → Pairs → Text → ℕ → Bool → Grown → Text → Result Climbed Refusal → Type 0
Yields lent text at v vars used counts o left (Err e) = Fails lent v counts o (refusal_number e)
Yields lent text at v vars used counts o left (Ok r) =
    Comes lent text at v counts o r.value r.next (inside left r.vars_used) × Kept lent vars used counts left r.vars_used

abbrev pub Says : Lent → Text → ℕ → Text → ℕ → Bool → Grown → Text → Result Climbed Refusal → Type 0
Says lent text at vars used counts o left r = Yields lent text (suc at) (inside vars used) vars used counts o left r

-- behind any tree that comes to the left value
abbrev pub Continues : Lent → Text → ℕ → Text → ℕ → Bool → ℕ → ℕ → ℤ → Text → Result Climbed Refusal → Type 0
Continues lent text at vars used counts d k z left r =
    (v : Pairs) (l : Tree) → Worth lent v counts l z (inside vars used)
    → Yields lent text at v vars used counts (grow (further k l, d, drop at text)) left r

-- one operator and its right side make a tree of the left one, behind which it goes on
pub record Grows (lent : Lent) (text : Text) (v : Pairs) (counts : Bool) (d k : ℕ) (o : Grown) (z : ℤ) (next : ℕ) (w : Pairs) : Type 0 where
  pub tree : Tree
  pub is : o ≡ grow (further k tree, d, drop next text)
  pub worth : Worth lent v counts tree z w

-- .. from any variables from which the left one comes to its value
abbrev pub GrowsOn : Lent → Text → ℕ → Pairs → Bool → ℕ → ℕ → ℤ → ℤ → ℕ → Pairs → Type 0
GrowsOn lent text at u counts d k y z next w =
    (v : Pairs) (l : Tree) → Worth lent v counts l y u → Grows lent text v counts d k (grow (further k l, d, drop at text)) z next w

abbrev pub Turns : Lent → Text → ℕ → Text → ℕ → Bool → ℕ → ℕ → ℤ → Text → Result (Option Climbed) Refusal → Type 0
Turns lent text at vars used counts d k y left (Err e) =
    (v : Pairs) (l : Tree) → Worth lent v counts l y (inside vars used) → Fails lent v counts (grow (further k l, d, drop at text)) (refusal_number e)
Turns lent text at vars used counts d k y left (Ok None) = ((l : Tree) → grow (further k l, d, drop at text) ≡ done (l, drop at text)) × (left ≡ vars)
Turns lent text at vars used counts d k y left (Ok (Some r)) =
    Behind text at r.next × Kept lent vars used counts left r.vars_used
    × GrowsOn lent text at (inside vars used) counts d k y r.value r.next (inside left r.vars_used)

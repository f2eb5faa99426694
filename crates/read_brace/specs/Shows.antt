-- What the code's item says of the stage's, with the bounds that callers need.
use Rattle.std.specs.Prelude.{ℕ, suc, ◌+◌, ◌-◌, ◌≤◌, ◌<◌, ◌≡◌, Bool, true, false, [], ◌∷◌, eqb, length, drop, Option, Some, None, Result, Ok, Err}
use Rattle.stages.specs.Numbers.{unserved}
use Rattle.stages.specs.Bytes.{Text, part}
use Rattle.stages.specs.Outcome.{pick}
use Rattle.stages.specs.Syntax.{Side, suffix, prefix, Colon, with_colon, no_colon, Reach, shortest, longest, var, nth, bytes_of, parameters}
use Rattle.stages.specs.Syntax as syntax
use Rattle.stages.specs.Items.{fault, stop, byte, paren, quote, value_of, count, spread, inner, sum, home_of, wrong, name_then, number_of}
use Rattle.stages.specs.Items as items
use Rattle.text.specs.Cases.{escape_of, spread_of as givenAs}
use Rattle.text.specs.Places.{Behind}
use Rattle.text.specs.Refusals.{refusal_number}
use Rattle.text.specs.declared.refusal.Refusal.{Refusal}
use Rattle.read_mode.specs.Modes.{mode_of, open_in, form_of}
use Rattle.read_brace.specs.declared.Param.{Param}
use Rattle.read_brace.specs.declared.Item.{Item}
use Rattle.read_brace.specs.declared.Item.TheVariants.{Stop, Byte, Paren, Quote, Value, Count, Total, Spread, Inner, Sum, Home}

-- the text's first byte is b
abbrev pub is_at : ℕ → Text → Bool
is_at b [] = false
is_at b (c ∷ t) = eqb c b

-- what a removal drops, by whether its sign is `#`
abbrev pub removal_side : Bool → Side
removal_side true = prefix
removal_side false = suffix

-- a parameter by whether it is a number, and its bytes
abbrev pub called : Bool → Text → syntax.Param
called true x = nth (number_of 0 x)
called false x = var x

abbrev pub param_of : Text → Param → syntax.Param
param_of text p = called p.numbered (part text p.from p.to)

-- a parameter is called at a place, and ends there where what is behind a name or a number begins
pub record CalledTo (text : Text) (at : ℕ) (p : Param) : Type 0 where
  pub starts : p.from ≡ at
  pub onward : p.from ≤ p.to
  pub within : p.to ≤ length text
  pub is : (f : syntax.Param → ℕ → Text → items.Item) → name_then f (drop at text) ≡ f (param_of text p) (p.to - at) (drop p.to text)

abbrev pub CalledAt : Text → ℕ → Option Param → Type 0
CalledAt text at (Some p) = CalledTo text at p
CalledAt text at None = (f : syntax.Param → ℕ → Text → items.Item) → name_then f (drop at text) ≡ wrong unserved (drop at text)

-- how many bytes a form's sign has
abbrev pub colon_length : Colon → ℕ
colon_length with_colon = 2
colon_length no_colon = 1

abbrev pub reach_length : Reach → ℕ
reach_length longest = 2
reach_length shortest = 1

abbrev pub sign_length : syntax.Form → ℕ
sign_length syntax.plain = 0
sign_length (syntax.minus c) = colon_length c
sign_length (syntax.equals c) = colon_length c
sign_length (syntax.query c) = colon_length c
sign_length (syntax.plus c) = colon_length c
sign_length (syntax.removal s r) = reach_length r

-- the place of a name or a number
pub record Name (text : Text) (from to : ℕ) : Type 0 where
  pub onward : from ≤ to
  pub within : to ≤ length text

-- the parameter, of which k bytes stand behind the `$`, is in no braces
abbrev pub is_plain : syntax.Param → ℕ → Bool
is_plain (var x) k = eqb k (length x)
is_plain (nth n) k = eqb k 1

-- where it stands, in braces or not
pub record ValueAt (at next : ℕ) (p : Param) (x : syntax.Param) : Type 0 where
  pub starts : p.from ≡ pick (is_plain x (next - suc at)) (at + 1) (at + 2)
  pub ends : next ≡ pick (is_plain x (next - suc at)) p.to (p.to + 1)

-- the code's item at a place is the stage's, and its places lie in the text
abbrev pub Shows : Text → ℕ → ℕ → Item → items.Item → Type 0
Shows text at depth (Stop next) i = (i ≡ stop (next - at)) × (at ≤ next) × (next ≤ length text)
Shows text at depth (Byte q b next) i = (i ≡ byte (escape_of q) b (next - suc at)) × Behind text at next
Shows text at depth (Paren b n) i = (i ≡ paren b n) × (at < length text) × (n ≤ at + 1)
Shows text at depth (Quote m next) i = (i ≡ quote (mode_of m) (next - suc at)) × Behind text at next × (open_in m ≡ 0)
Shows text at depth (Value p next) i =
    (i ≡ value_of (param_of text p) (next - suc at)) × Behind text at next × Name text p.from p.to × ValueAt at next p (param_of text p)
Shows text at depth (Count p next) i =
    (i ≡ count (bytes_of (param_of text p)) (next - suc at)) × Behind text at next × Name text p.from p.to × (p.from ≡ at + 3) ×
    (next ≡ p.to + 1)
Shows text at depth (Total next) i = (i ≡ count parameters (next - suc at)) × Behind text at next
Shows text at depth (Spread a next) i = (i ≡ spread (givenAs a) (next - suc at)) × Behind text at next
Shows text at depth (Inner p f m next) i =
    (i ≡ inner (param_of text p) (form_of f) (mode_of m) (next - suc at)) × Behind text at next × Name text p.from p.to × (0 < depth) ×
    (open_in m ≡ 0) × (p.from ≡ at + 2) × (next ≡ p.to + sign_length (form_of f))
Shows text at depth (Sum next) i = (i ≡ sum) × (next ≡ at + 3) × (next ≤ length text) × (0 < depth)
Shows text at depth (Home to) i = (i ≡ home_of (part text (at + 1) to) (to - suc at)) × Behind text at to

-- what the code finds at a place is the stage's item, or what it is refused with
abbrev pub Finds : Text → ℕ → ℕ → Result Item Refusal → items.Item → Type 0
Finds text at depth (Ok r) i = Shows text at depth r i
Finds text at depth (Err e) i = i ≡ fault (refusal_number e)

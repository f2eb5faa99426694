-- What the code's tokens say of the stage's: the token, and with places what is behind it.
use Rattle.std.specs.Prelude.{ℕ, ◌+◌, ◌≤◌, ◌<◌, ◌≡◌, true, false, [], ◌∷◌, length, get_or, drop}
use Rattle.std.specs.Prelude.{Option, Some, None, Result, Ok, Err}
use Rattle.std.proofs.Math.Option as maybe
use Rattle.text.specs.Refusals.{refusal_number}
use Rattle.text.specs.declared.refusal.Refusal.{Refusal}
use Rattle.stages.specs.Bytes.{Text, part, is_blank, is_digit, is_name_start}
use Rattle.stages.specs.Outcome.{refused, done}
use Rattle.stages.specs.Images.{is_name}
use Rattle.stages.specs.Arith.{Lexed, stop, shuts, colon, ends, num, name, op, opens, query, gets, behind, token}
use Rattle.stages.specs.Arith as stage
use Rattle.text.specs.Places.{Behind}
use Rattle.arith_int.specs.Answers.{op_of}
use Rattle.arith_int.specs.declared.Op.{Op}
use Rattle.arith_int.specs.declared.Op.TheVariants.{Mul, Div, Rem, Add, Sub, Shl, Shr, Lt, Le, Gt, Ge, Eq, Ne, BitAnd, BitXor, BitOr}
use Rattle.arith_int.specs.declared.Op.TheVariants.{LogAnd, LogOr, LogNot, BitNot}
use Rattle.arith_token.specs.declared.Token.{Token}
use Rattle.arith_token.specs.declared.Token.TheVariants as code

-- an operator's level, by the code's operators
abbrev pub level_of : Op → ℕ
level_of Mul = 12
level_of Div = 12
level_of Rem = 12
level_of Add = 11
level_of Sub = 11
level_of Shl = 10
level_of Shr = 10
level_of Lt = 9
level_of Le = 9
level_of Gt = 9
level_of Ge = 9
level_of Eq = 8
level_of Ne = 8
level_of BitAnd = 7
level_of BitXor = 6
level_of BitOr = 5
level_of LogAnd = 4
level_of LogOr = 3
level_of LogNot = 0
level_of BitNot = 0

-- E10: the operator before the `=` of an assignment
abbrev pub setting_of : Option Op → maybe.Option stage.Op
setting_of None = maybe.none
setting_of (Some o) = maybe.some (op_of o)

-- the stage's token, with what is behind it
abbrev pub lexed : Text → Token → Lexed
lexed text code.Stop = done (ends stop, [])
lexed text (code.Number z next) = done (num z, drop next text)
lexed text (code.Name from to) = done (name (part text from to), drop to text)
lexed text (code.Op o next) = done (op (op_of o), drop next text)
lexed text (code.Opens next) = done (opens, drop next text)
lexed text (code.Shuts next) = done (ends shuts, drop next text)
lexed text (code.Query next) = done (query, drop next text)
lexed text (code.Colon next) = done (ends colon, drop next text)
lexed text (code.Gets s next) = done (gets (setting_of s), drop next text)

-- the places of a name, which is one
pub record Named (text : Text) (at from to : ℕ) : Type 0 where
  pub named : is_name (part text from to) ≡ true
  pub behind : Behind text at to
  pub rising : from ≤ to

abbrev pub Ends : Text → ℕ → Token → Type 0
Ends text at code.Stop = Unit {0}
Ends text at (code.Number z next) = Behind text at next
Ends text at (code.Name from to) = Named text at from to
Ends text at (code.Op o next) = Behind text at next
Ends text at (code.Opens next) = Behind text at next
Ends text at (code.Shuts next) = Behind text at next
Ends text at (code.Query next) = Behind text at next
Ends text at (code.Colon next) = Behind text at next
Ends text at (code.Gets s next) = Behind text at next

-- the token at a place is the stage's, and its places lie in the text
pub record TokenAt (text : Text) (at : ℕ) (r : Token) : Type 0 where
  pub is : token (drop at text) ≡ lexed text r
  pub ends : Ends text at r

-- .. or it is refused as the stage refuses it
abbrev pub Lexes : Text → ℕ → Result Token Refusal → Type 0
Lexes text at (Ok r) = TokenAt text at r
Lexes text at (Err e) = token (drop at text) ≡ refused (refusal_number e)

-- one token with the byte c behind its first, another without, before the text behind the first
unfoldable pub paired_by : ℕ → Lexed → stage.Token → Text → Lexed
unfolding behind
paired_by c alone both t = elim (behind (c ∷ []) t) [ maybe.some u ↦ done (both, u) | maybe.none ↦ alone ]

-- a token of one byte, which stands there, and one of two, if there are two
pub record Pairable (text : Text) (at : ℕ) (alone both : Token) : Type 0 where
  pub within : at < length text
  pub one : Ends text at alone
  pub two : at + 2 ≤ length text → Ends text at both

-- the token of two bytes with this one behind its first, or the token without it
pub record Pairs (text : Text) (at second : ℕ) (alone both : Token) (r : Token) : Type 0 where
  pub is : (k : stage.Token) → lexed text both ≡ done (k, drop (at + 2) text) → lexed text r ≡ paired_by second (lexed text alone) k (drop (at + 1) text)
  pub ends : Ends text at r

-- what stands at a place: a constant's first digit; a byte that begins neither a constant nor a name
pub record Digit (text : Text) (at : ℕ) : Type 0 where
  pub within : at < length text
  pub bare : is_blank (get_or text at 0) ≡ false
  pub is : is_digit (get_or text at 0) ≡ true

pub record Symbol (text : Text) (at : ℕ) : Type 0 where
  pub within : at < length text
  pub bare : is_blank (get_or text at 0) ≡ false
  pub digit : is_digit (get_or text at 0) ≡ false
  pub start : is_name_start (get_or text at 0) ≡ false

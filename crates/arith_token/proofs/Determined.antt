-- What the public contracts allow is determined: the stage's token, with the text behind it, tells the code's, places and all.
use Prim.Native.Nat.{ℕ, ◌-◌, ◌≤◌}
use native.Mathlib.Omega.{arith}
use mathlib.Core.Path.{◌≡◌, refl, sym, ap, ◌∙◌}
use mathlib.Core.Option as maybe
use Rattle.std.specs.Prelude.{Option, Some, None, Result, Ok, Err}
use lib.ListN.{length, drop, length-drop}
use Rattle.stages.specs.Bytes.{Text, part}
use Rattle.stages.specs.Outcome.{refused, demands, done}
use Rattle.stages.specs.Arith.{Lexed, stop, shuts, colon, ends, num, name, op, opens, query, gets}
use Rattle.stages.specs.Arith as arith-stage
use Rattle.text.proofs.Parts.{part_length}
use Rattle.arith_int.specs.Answers.{op_of}
use Rattle.arith_int.specs.declared.Op.{Op}
use Rattle.arith_int.specs.declared.Op.TheVariants.{Mul, Div, Rem, Add, Sub, Shl, Shr, Lt, Le, Gt, Ge, Eq, Ne, BitAnd, BitXor, BitOr}
use Rattle.arith_int.specs.declared.Op.TheVariants.{LogAnd, LogOr, LogNot, BitNot}
use Rattle.arith_token.specs.Tokens.{level_of, setting_of, lexed, Ends, Lexes}
use Rattle.text.specs.Refusals.{refusal_number}
use Rattle.text.specs.declared.refusal.Refusal.{Refusal}
use Rattle.stages.proofs.Outcomes.{never}
use Rattle.text.proofs.Refusals.{refusal_same}
use Rattle.arith_token.specs.declared.Token.{Token}
use Rattle.arith_token.specs.declared.Token.TheVariants as code

pub level_determined : (o : Op) (r s : ℕ) → r ≡ level_of o → s ≡ level_of o → r ≡ s
level_determined o r s e f = e ∙ sym f

-- the code's operator of the stage's
abbrev op_back : arith-stage.Op → Op
op_back arith-stage.mul = Mul
op_back arith-stage.div = Div
op_back arith-stage.rem = Rem
op_back arith-stage.add = Add
op_back arith-stage.sub = Sub
op_back arith-stage.shl = Shl
op_back arith-stage.shr = Shr
op_back arith-stage.lt = Lt
op_back arith-stage.le = Le
op_back arith-stage.gt = Gt
op_back arith-stage.ge = Ge
op_back arith-stage.eq = Eq
op_back arith-stage.ne = Ne
op_back arith-stage.bit_and = BitAnd
op_back arith-stage.bit_xor = BitXor
op_back arith-stage.bit_or = BitOr
op_back arith-stage.log_and = LogAnd
op_back arith-stage.log_or = LogOr
op_back arith-stage.log_not = LogNot
op_back arith-stage.bit_not = BitNot

op_back_lem : (o : Op) → op_back (op_of o) ≡ o
op_back_lem Mul = refl
op_back_lem Div = refl
op_back_lem Rem = refl
op_back_lem Add = refl
op_back_lem Sub = refl
op_back_lem Shl = refl
op_back_lem Shr = refl
op_back_lem Lt = refl
op_back_lem Le = refl
op_back_lem Gt = refl
op_back_lem Ge = refl
op_back_lem Eq = refl
op_back_lem Ne = refl
op_back_lem BitAnd = refl
op_back_lem BitXor = refl
op_back_lem BitOr = refl
op_back_lem LogAnd = refl
op_back_lem LogOr = refl
op_back_lem LogNot = refl
op_back_lem BitNot = refl

abbrev setting_back : maybe.Option arith-stage.Op → Option Op
setting_back maybe.none = None
setting_back (maybe.some o) = Some (op_back o)

setting_back_lem : (s : Option Op) → setting_back (setting_of s) ≡ s
setting_back_lem None = refl
setting_back_lem (Some o) = ap Some (op_back_lem o)

-- the code's token of the stage's: a place is where what is behind it begins
abbrev back : Text → Lexed → Token
back text (refused e) = code.Stop
back text (demands t) = code.Stop
back text (done (ends stop, u)) = code.Stop
back text (done (ends shuts, u)) = code.Shuts (length text - length u)
back text (done (ends colon, u)) = code.Colon (length text - length u)
back text (done (num z, u)) = code.Number z (length text - length u)
back text (done (name x, u)) = code.Name (length text - length u - length x) (length text - length u)
back text (done (op o, u)) = code.Op (op_back o) (length text - length u)
back text (done (opens, u)) = code.Opens (length text - length u)
back text (done (query, u)) = code.Query (length text - length u)
back text (done (gets o, u)) = code.Gets (setting_back o) (length text - length u)

module _ (text : Text) where
  place : (next : ℕ) → next ≤ length text → length text - length (drop next text) ≡ next
  place next h = omega (arith, length-drop next text)

  begins : (from to : ℕ) → from ≤ to → to ≤ length text → length text - length (drop to text) - length (part text from to) ≡ from
  begins from to h k = omega (arith, length-drop to text, part_length text from to h k)

  token_back : (at : ℕ) (r : Token) → Ends text at r → back text (lexed text r) ≡ r
  token_back at code.Stop w = refl
  token_back at (code.Number z next) w = ap (code.Number z) (place next w.within)
  token_back at (code.Name from to) w = rw (begins from to w.rising w.behind.within, place to w.behind.within)
  token_back at (code.Op o next) w = rw (op_back_lem o, place next w.within)
  token_back at (code.Opens next) w = ap code.Opens (place next w.within)
  token_back at (code.Shuts next) w = ap code.Shuts (place next w.within)
  token_back at (code.Query next) w = ap code.Query (place next w.within)
  token_back at (code.Colon next) w = ap code.Colon (place next w.within)
  token_back at (code.Gets s next) w = rw (setting_back_lem s, place next w.within)

  not_refused : (r : Token) (e : ℕ) → lexed text r ≡ refused e → ⊥
  not_refused code.Stop e q = never q
  not_refused (code.Number z next) e q = never q
  not_refused (code.Name from to) e q = never q
  not_refused (code.Op o next) e q = never q
  not_refused (code.Opens next) e q = never q
  not_refused (code.Shuts next) e q = never q
  not_refused (code.Query next) e q = never q
  not_refused (code.Colon next) e q = never q
  not_refused (code.Gets s next) e q = never q

  pub token_at_determined : (at : ℕ) (r s : Result Token Refusal) → Lexes text at r → Lexes text at s → r ≡ s
  token_at_determined at (Ok r) (Ok s) h k = ap Ok (sym (token_back at r h.ends) ∙ ap (back text) (sym h.is ∙ k.is) ∙ token_back at s k.ends)
  token_at_determined at (Ok r) (Err e) h k = absurd (not_refused r (refusal_number e) (sym h.is ∙ k))
  token_at_determined at (Err e) (Ok s) h k = absurd (not_refused s (refusal_number e) (sym k.is ∙ h))
  token_at_determined at (Err e) (Err f) h k =
      let q : ◌≡◌ {A = Lexed} (refused (refusal_number e)) (refused (refusal_number f)) = sym h ∙ k in
      ap Err (refusal_same e f (let n : refusal_number e ≡ refusal_number f = cc in n))

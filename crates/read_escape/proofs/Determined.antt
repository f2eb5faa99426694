-- What the public contract allows is determined: one answer for one escape.
use Rattle.std.specs.Prelude.{Result, Ok, Err}
use Prim.Native.Nat.{ℕ, suc, ◌+◌, ◌-◌}
use native.Mathlib.Omega.{arith}
use mathlib.Core.Path.{◌≡◌, sym, ap, ◌∙◌}
use Rattle.stages.specs.Bytes.{Text}
use Rattle.stages.specs.Escapes.{says, unsaid}
use Rattle.stages.specs.Escapes as escapes
use Rattle.text.specs.declared.refusal.Refusal.{Refusal}
use Rattle.text.proofs.Refusals.{refusal_same}
use Rattle.read_escape.specs.Says.{SaidAt}
use Rattle.read_escape.specs.declared.Escaped.{Escaped}

apart : {b k e : ℕ} → says b k ≡ unsaid e → ⊥
apart h = let z : ◌≡◌ {A = ℕ} 0 1 = cc in omega arith

-- what an escape says again, by the stage's
abbrev said_again : ℕ → escapes.Said → Escaped
said_again at (says b k) = record { byte = b; next = suc at + k }
said_again at (unsaid e) = record { byte = 0; next = 0 }

byte_back : (text : Text) (at : ℕ) (s : escapes.Said) (r : Escaped) → SaidAt text at (Ok r) s → r ≡ said_again at s
byte_back text at s r h =
    let e : suc at + (r.next - suc at) ≡ r.next = omega (arith, h.1.onward) in
    ap (λ (n : ℕ). record { byte = r.byte; next = n }) (sym e) ∙ sym (ap (said_again at) h.0)

pub escape_at_determined : (text : Text) (at : ℕ) (s : escapes.Said) (p q : Result Escaped Refusal) → SaidAt text at p s → SaidAt text at q s → p ≡ q
escape_at_determined text at s (Ok r) (Ok t) g h = ap Ok (byte_back text at s r g ∙ sym (byte_back text at s t h))
escape_at_determined text at s (Ok r) (Err e) g h = absurd (apart (sym g.0 ∙ h))
escape_at_determined text at s (Err e) (Ok t) g h = absurd (apart (sym h.0 ∙ g))
escape_at_determined text at s (Err e) (Err f) g h = ap Err (refusal_same e f cc)

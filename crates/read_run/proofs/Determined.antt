-- The contracts determine every answer: two outcomes that a contract allows for one input are equal. No function writes.
use Prim.Native.Nat.{ℕ}
use native.Mathlib.Omega.{arith}
use mathlib.Core.Path.{◌≡◌, sym, ap, ◌∙◌}
use lib.Dec.{eqb}
use lib.ListN.{length, drop, length-drop}
use Rattle.stages.specs.Bytes.{Text}
use Rattle.stages.specs.Outcome.{pick}
use Rattle.stages.specs.Syntax as syntax
use Rattle.read_mode.specs.Modes.{mode_of, mode_onward}
use Rattle.read_mode.specs.declared.Cursor.{Cursor}
use Rattle.read_mode.specs.declared.Mode.{Mode}
use Rattle.read_run.specs.Literals.{Literals, Passed}

-- the rests behind the two ends are the same, so their lengths are
pub literals_end_determined : (text : Text) (at : ℕ) (m : syntax.Mode) (r s : ℕ) → Literals text at m r → Literals text at m s → r ≡ s
literals_end_determined text at m r s p q =
    let e : drop r text ≡ drop s text = ap (λ (x : Text × Text). x.1) (sym p.is ∙ q.is) in
    omega (arith, p.within, q.within, length-drop r text, length-drop s text, ap length e)

cursor_same : (r s : Cursor) → r.at ≡ s.at → r.mode ≡ s.mode → r.depth ≡ s.depth → r ≡ s
cursor_same r s a m d =
    ap (λ (i : ℕ). record { at = i; mode = r.mode; depth = r.depth }) a
    ∙ ap (λ (k : Mode). record { at = s.at; mode = k; depth = r.depth }) m
    ∙ ap (λ (n : ℕ). record { at = s.at; mode = s.mode; depth = n }) d

pub behind_literals_determined : (text : Text) (from r s : Cursor) → Passed text from r → Passed text from s → r ≡ s
behind_literals_determined text from r s p q =
    let e = literals_end_determined text from.at (mode_of from.mode) r.at s.at p.run q.run in
    cursor_same r s e (p.mode ∙ ap (λ (n : ℕ). pick (eqb n from.at) from.mode (mode_onward from.mode)) e ∙ sym q.mode) (p.depth ∙ sym q.depth)

-- The contracts determine every answer: two outcomes that a contract allows for one input are equal.
use Rattle.std.specs.Prelude.{Option, Some, None, Result, Ok, Err}
use Prim.Native.Nat.{ℕ}
use native.Mathlib.Omega.{arith}
use mathlib.Core.Path.{◌≡◌, refl, sym, ap, ◌∙◌}
use lib.ListN.{length, drop, length-drop}
use Rattle.stages.specs.Bytes.{Text}
use Rattle.stages.specs.Outcome.{Placed}
use Rattle.stages.specs.Syntax.{Parts}
use Rattle.stages.specs.Read.{Taken, read_line}
use Rattle.stages.specs.Assign.{read_assignments}
use Rattle.stages.proofs.Bools.{apart}
use Rattle.text.specs.declared.refusal.Refused.{Refused}
use Rattle.text.proofs.Refusals.{refusal_same}
use Rattle.text.specs.Refusals.{refusal_number}
use Rattle.text.specs.declared.refusal.Refusal.{Refusal}
use Rattle.text.proofs.Parts.{part_length}
use Rattle.read_line.specs.Says.{ReadTo, ReadSays, NextSays, AssignmentTo, AssignmentSays, verdict, verdict_of}

-- the rests behind the two ends are the same, so their lengths are
end_determined : (text : Text) (at : ℕ) (o : Taken) (m n : ℕ) → ReadTo text at o m → ReadTo text at o n → m ≡ n
end_determined text at o m n p q =
    let a = p.is in
    let b = q.is in
    let w : ◌≡◌ {A = Parts × Text} (p.tree, drop m text) (q.tree, drop n text) = cc in
    omega (arith, p.within, q.within, length-drop m text, length-drop n text, ap length (ap (λ (x : Parts × Text). x.1) w))

pub read_text_determined : (text : Text) (at : ℕ) (o : Taken) (r s : Result ℕ Refusal) → ReadSays text at o r → ReadSays text at o s → r ≡ s
read_text_determined text at o (Ok m) (Ok n) p q = ap Ok (end_determined text at o m n p q)
read_text_determined text at o (Err m) (Err n) p q = ap Err (refusal_same m n cc)
read_text_determined text at o (Ok m) (Err n) p q = let a = p.is in absurd (let z : ◌≡◌ {A = ℕ} 0 1 = cc in omega arith)
read_text_determined text at o (Err m) (Ok n) p q = let b = q.is in absurd (let z : ◌≡◌ {A = ℕ} 0 1 = cc in omega arith)

pub next_word_determined : (line : Text) (at : ℕ) (r s : Option ℕ) → NextSays line at r → NextSays line at s → r ≡ s
next_word_determined line at (Some m) (Some n) p q = ap Some (p.is ∙ sym q.is)
next_word_determined line at None None p q = refl
next_word_determined line at (Some m) None p q = absurd (omega (arith, p.is, p.within, q.is))
next_word_determined line at None (Some n) p q = absurd (omega (arith, q.is, q.within, p.is))

-- the name's bytes up to either `=` are the same, so their lengths are
equals_determined : (line : Text) (place m n : ℕ) → AssignmentTo line place m → AssignmentTo line place n → m ≡ n
equals_determined line place m n p q =
    let a = p.onward in
    let b = q.onward in
    omega (
      arith,
      part_length line place m (omega arith) (omega (arith, p.within)),
      part_length line place n (omega arith) (omega (arith, q.within)),
      ap length (sym p.name ∙ q.name),
    )

pub assignment_at_determined : (line : Text) (place : ℕ) (r s : Option ℕ) → AssignmentSays line place r → AssignmentSays line place s → r ≡ s
assignment_at_determined line place (Some m) (Some n) p q = ap Some (equals_determined line place m n p q)
assignment_at_determined line place None None p q = refl
assignment_at_determined line place (Some m) None p q = absurd (apart q p.is)
assignment_at_determined line place None (Some n) p q = absurd (apart p q.is)

verdict_determined : (w : Placed (Unit {0})) (r s : Result (Unit {0}) Refused) → w ≡ verdict_of r → w ≡ verdict_of s → r ≡ s
verdict_determined w (Ok u) (Ok v) p q = refl
verdict_determined w (Err r) (Err s) p q =
    let n : refusal_number r.why ≡ refusal_number s.why = cc in
    let i : r.place ≡ s.place = cc in
    ap (λ (x : Refusal). Err (record { why = x; place = r.place })) (refusal_same r.why s.why n)
    ∙ ap (λ (x : ℕ). Err (record { why = s.why; place = x })) i
verdict_determined w (Ok u) (Err s) p q = absurd (let z : ◌≡◌ {A = ℕ} 0 1 = cc in omega arith)
verdict_determined w (Err r) (Ok u) p q = absurd (let z : ◌≡◌ {A = ℕ} 0 1 = cc in omega arith)

pub read_line_determined : (line : Text) (r s : Result (Unit {0}) Refused) → verdict (read_line line) ≡ verdict_of r
    → verdict (read_line line) ≡ verdict_of s → r ≡ s
read_line_determined line r s p q = verdict_determined (verdict (read_line line)) r s p q

pub read_assignments_determined : (line : Text) (r s : Result (Unit {0}) Refused) → verdict (read_assignments line) ≡ verdict_of r →
    verdict (read_assignments line) ≡ verdict_of s
    → r ≡ s
read_assignments_determined line r s p q = verdict_determined (verdict (read_assignments line)) r s p q

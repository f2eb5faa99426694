-- Taking a line from a block, on plain lists: the walk to the newline, the bytes that are kept, the answer.
use Prim.Native.Nat.{ℕ, suc, ◌+◌, ◌-◌, ◌≤◌, ◌<◌, min}
use Rattle.std.proofs.lemmas.Grind.{common_steps}
use native.Mathlib.Omega.{arith}
use mathlib.Core.Path.{◌≡◌, refl, sym, ap, ◌∙◌}
use mathlib.Core.Bool.{Bool, true, false, not}
use mathlib.Core.List.{List, [], ◌∷◌, ◌++◌, append-nil}
use mathlib.Core.Option.{some}
use Rattle.std.proofs.Common.{Option, Some, None, cond}
use Rattle.std.specs.Option.{unwrap_or}
use lib.Dec.{ltb}
use borrow.Author.Tests.{ltb-false}
use lib.ListN.{length, take, drop, length-append, length-drop, take-append-drop, drop_of_length-le}
use lib.Seq.{take-append-add, drop-cons, drop-drop, length-take-le}
use borrow.Rule.Slice.PartMut.{put_mid, mid_of}
use lib.Dec.{eqb}
use borrow.Author.Tests.{eq-eqb, ne_eqb}
use Rattle.stages.specs.Bytes.{Text, part, span}
use Rattle.stages.specs.Program.{lines_of, longer_line}
use Rattle.stages.specs.Call.{over}
use Rattle.stages.proofs.Bools.{either}
use Rattle.std.specs.List.{position_or_len}
use Rattle.std.proofs.lemmas.List.Sums.{prefix_len-le-length}
use Rattle.text.specs.Putting.{Puts}
use Rattle.text.proofs.Filling.{Filling, fill_piece, fill_ends}
use Rattle.recipe_cut.specs.Lines.{not_newline, line_kept, kept_of, came, behind, next_place, LineEnd, Takes, has_line, any_line}
use Rattle.recipe_cut.specs.declared.Taken.TheVariants.{Ended, Open}

abbrev pub newline : ℕ → Bool
newline b = eqb b 10

-- the longest run without a newline ends at the first one
span_first : (t : Text) → span not_newline t ≡ (take (position_or_len newline t) t, drop (position_or_len newline t) t)
unfolding span
span_first [] = refl
span_first (b ∷ t) =
    let k : 1 + position_or_len newline t ≡ suc (position_or_len newline t) = omega arith in
    either (eqb b 10) (λ e. rw (e, span)) (λ e. rw (e, span, span_first t, k))

-- its place, or the length, as `position` tells it
first : (f : ℕ → Bool) (t : Text) → unwrap_or (cond (ltb (position_or_len f t) (length t)) (Some (position_or_len f t)) None) (length t) ≡ position_or_len f t
first f t =
    let p : position_or_len f t ≤ length t = prefix_len-le-length (λ b. not (f b)) t in
    either (ltb (position_or_len f t) (length t)) (λ e. rw e) (λ e. let h : length t ≤ position_or_len f t = ltb-false _ _ e in rw e (omega arith))

-- `line_end`: the place of the first newline behind `from`
first_ends : (block : Text) (from k : ℕ) → from ≤ length block → k ≡ position_or_len newline (drop from block) → LineEnd block from (from + k)
first_ends block from k h e =
    let p : position_or_len newline (drop from block) ≤ length (drop from block) = prefix_len-le-length (λ b. not (newline b)) (drop from block) in
    let back : from + k - from ≡ k = omega arith in
    let on : drop (from + k) block ≡ drop k (drop from block) = sym (drop-drop k from block) in
    record {
      is = rw (back, on, e) (span_first (drop from block));
      onward = omega arith;
      within = omega (arith, length-drop from block);
    }

pub ends_first : (block : Text) (from k : ℕ) (o : Option ℕ) (rest : Text) → from ≤ length block → rest ≡ drop from block
    → o ≡ cond (ltb (position_or_len newline rest) (length rest)) (Some (position_or_len newline rest)) None
    → k ≡ unwrap_or o (length rest) → LineEnd block from (from + k)
ends_first block from k o rest h r e u =
    first_ends block from k h (u ∙ ap (λ (x : Option ℕ). unwrap_or x (length rest)) e ∙ first newline rest ∙ ap (position_or_len newline) r)

-- `keep`: n bytes are copied behind those that are kept
module _ (line bytes : Text) (kept n : ℕ) (h : kept ≤ line_kept) (l : line_kept ≤ length line)
    (least : n ≡ min (length bytes) (line_kept - kept)) where
  copied_length : length (take n bytes) ≡ n
  copied_length = length-take-le n bytes (omega arith)

  front_length : length (take kept line) ≡ kept
  front_length = length-take-le kept line (omega arith)

  copied : take (line_kept - kept) bytes ≡ take n bytes
  copied = grind (arith, common_steps)

  kept_is : kept_of (take kept line ++ bytes) ≡ take kept line ++ take n bytes
  kept_is =
      let k : line_kept ≡ length (take kept line) + (line_kept - kept) = omega (arith, front_length) in
      ap (λ (m : ℕ). take m (take kept line ++ bytes)) k
      ∙ take-append-add (take kept line) bytes (line_kept - kept)
      ∙ ap (λ (u : Text). take kept line ++ u) copied

  keep_filling : Filling (take kept line ++ take n bytes) (take n bytes) line line kept
  unfolding over
  keep_filling = record {
    front = take kept line;
    splits = refl;
    long = sym front_length;
    is = sym (ap (λ (m : ℕ). take kept line ++ drop m line) front_length ∙ take-append-drop kept line);
    fits = omega (arith, length-append (take kept line) (take n bytes), front_length, copied_length);
  }

  pub keep_puts : (ys : Text) → ys ≡ take n bytes ++ drop (length (take n bytes)) (mid_of kept (length line - kept) line)
      → Puts (kept_of (take kept line ++ bytes)) line (put_mid kept (length line - kept) line ys) (kept + n)
  unfolding over
  keep_puts ys e =
      rw kept_is
      (fill_ends (fill_piece keep_filling (take n bytes) [] ys n (kept + n) (sym (append-nil (take n bytes)))
      (record { counts = sym copied_length; leaves = e }) refl) refl)

-- `take_in`
module _ {block : Text} {from end : ℕ} (e : LineEnd block from end) where
  here : came block from ≡ part block from end
  unfolding came
  here = ap (λ (x : Text × Text). x.0) e.is

  there : behind block from ≡ drop end block
  unfolding behind
  there = ap (λ (x : Text × Text). x.1) e.is

module _ {line : Text} {kept : ℕ} {block : Text} {from end : ℕ} {left : Text} {n : ℕ} (e : LineEnd block from end)
    (p : Puts (kept_of (take kept line ++ part block from end)) line left n) where
  pub taken_ended : end < length block → Takes line kept block from left (Ended n (end + 1))
  taken_ended h =
      let k : length block - length (drop (suc end) block) ≡ end + 1 = omega (arith, length-drop (suc end) block) in
      record { puts = rw (here e) p; goes = sym (ap (next_place block) (there e ∙ drop-cons block end 0 h) ∙ ap some k) }

  pub taken_open : length block ≤ end → Takes line kept block from left (Open n)
  taken_open h = record { puts = rw (here e) p; goes = sym (ap (next_place block) (there e ∙ drop_of_length-le block h)) }

any_longer : (b : ℕ) (ls : List Text) → any_line (longer_line b ls) ≡ true
unfolding longer_line
any_longer b [] = refl
any_longer b (l ∷ ls) = refl

some_line : (b : ℕ) (t : Text) → true ≡ has_line (b ∷ t)
unfolding has_line lines_of
some_line b t = either (eqb b 10) (λ e. sym (rw (e, lines_of))) (λ e. sym (rw (e, lines_of) (any_longer b (lines_of t))))

-- `is_last_line`: there is a line unless there are no bytes
pub last_is : (t : Text) → not (eqb (length t) 0) ≡ has_line t
unfolding has_line lines_of
last_is [] = refl
last_is (b ∷ t) = rw (ne_eqb (suc (length t)) 0 (λ e. omega arith)) (some_line b t)

pub last_none : (t : Text) → length t ≡ 0 → has_line t ≡ false
last_none t e = sym (last_is t) ∙ rw (eq-eqb (length t) 0 e)

pub last_some : (t : Text) → (length t ≡ 0 → ⊥) → has_line t ≡ true
last_some t e = sym (last_is t) ∙ rw (ne_eqb (length t) 0 e)

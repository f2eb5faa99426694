-- What a loop over blocks learns. `left` is all that was read of the line that has not ended, however long; the buffer holds its first bytes. Each answer
-- of `take_in` is then one more line of the stage's, or a longer `left`; at the end of the input an unended line is told from none. However what is read
-- comes in blocks, its lines are those of the whole.
use Prim.Native.Nat.{ℕ, zero, suc, ◌-◌, ◌≤◌, ◌<◌}
use native.Mathlib.Omega.{arith}
use mathlib.Core.Path.{◌≡◌, refl, sym, ap, subst, ◌∙◌}
use mathlib.Core.Bool.{true}
use mathlib.Core.List.{List, [], ◌∷◌, ◌++◌, append_assoc, append-nil}
use mathlib.Core.Option.{none, some}
use lib.Dec.{eqb}
use lib.ListN.{length, take, drop, length-append, take-append-drop}
use lib.Seq.{take_at, length-take-le}
use borrow.Author.Tests.{eqb-true, eqb-false, ne_eqb}
use Rattle.stages.specs.Bytes.{Text, all, span}
use Rattle.stages.specs.Program.{lines_of}
use Rattle.text.specs.Putting.{Puts}
use Rattle.text.proofs.Filling.{puts_front}
use Rattle.stages.proofs.Bools.{no, clash, some_same, either}
use Rattle.stages.proofs.Rooms.{over_length}
use Rattle.stages.proofs.Texts.{take_most, Stops, span_join, span_all, span_stops}
use Rattle.stages.proofs.Program.{NoNewline, cut_lines, lines_first, lines_last}
use Rattle.recipe_cut.specs.Lines.{
  not_newline,
  line_kept,
  kept_of,
  came,
  behind,
  next_place,
  kept_in,
  next_in,
  Takes,
  last_line,
  Cuts,
  Holding,
}
use Rattle.recipe_cut.specs.declared.Taken.{Taken}
use Rattle.recipe_cut.specs.declared.Taken.TheVariants.{Ended, Open}
use Rattle.recipe_cut.proofs.Taking.{last_none, last_some}

-- what holds no newline

plain_none : (t : Text) → all not_newline t ≡ true → NoNewline t
plain_none [] e = refl
plain_none (b ∷ t) e = either (eqb b 10) (λ q. absurd (no (rw q at e))) (λ q. rw (ne_eqb 10 b (λ d. eqb-false b 10 q (sym d))) (plain_none t (rw q at e)))

none_append : (t u : Text) → NoNewline t → NoNewline u → NoNewline (t ++ u)
none_append [] u h k = k
none_append (b ∷ t) u h k = either (eqb 10 b) (λ q. absurd (no (sym (rw q at h)))) (λ q. rw q (none_append t u (rw q at h) k))

-- THE BLOCK, from a place on: what came of the line, and what is behind it

came_behind : (block : Text) (from : ℕ) → came block from ++ behind block from ≡ drop from block
unfolding came behind
came_behind block from = span_join not_newline (drop from block)

came_plain : (block : Text) (from : ℕ) → NoNewline (came block from)
unfolding came
came_plain block from = plain_none (span not_newline (drop from block)).0 (span_all not_newline (drop from block))

behind_stops : (block : Text) (from : ℕ) → Stops not_newline (behind block from)
unfolding behind
behind_stops block from = span_stops not_newline (drop from block)

stop_newline : (b : ℕ) (u : Text) → Stops not_newline (b ∷ u) → b ≡ 10
stop_newline b u e = either (eqb b 10) (λ q. eqb-true b 10 q) (λ q. absurd (no (sym e ∙ rw q)))

-- a newline stands behind what came, and the next line begins at `next`
record Newline (block : Text) (from next : ℕ) : Type 0 where
  rest : Text
  is : block ≡ (take from block ++ (came block from ++ 10 ∷ [])) ++ rest
  place : next ≡ length (take from block ++ (came block from ++ 10 ∷ []))

newline_at : (block : Text) (from next : ℕ) → next_place block (behind block from) ≡ some next → Newline block from next
newline_at block from next e = go (behind block from) refl
  where
    split : (b : ℕ) (u : Text) → behind block from ≡ b ∷ u → block ≡ (take from block ++ (came block from ++ b ∷ [])) ++ u
    split b u q =
        sym (take-append-drop from block)
        ∙ ap (λ (x : Text). take from block ++ x)
        (sym (came_behind block from) ∙ ap (λ (x : Text). came block from ++ x) q ∙ sym (append_assoc (came block from) (b ∷ []) u))
        ∙ sym (append_assoc (take from block) (came block from ++ b ∷ []) u)

    go : (u : Text) → behind block from ≡ u → Newline block from next
    go [] q = absurd (clash (sym (ap (next_place block) q) ∙ e))
    go (b ∷ u) q =
        let n : next ≡ length block - length u = sym (some_same (sym (ap (next_place block) q) ∙ e)) in
        let l : b ≡ 10 = stop_newline b u (subst (λ (x : Text). Stops not_newline x) q (behind_stops block from)) in
        let f : block ≡ (take from block ++ (came block from ++ 10 ∷ [])) ++ u =
        split b u q ∙ ap (λ (c : ℕ). (take from block ++ (came block from ++ c ∷ [])) ++ u) l in
        record { rest = u; is = f; place = omega (arith, ap length f, length-append (take from block ++ (came block from ++ 10 ∷ [])) u) }

-- ONE TURN, by the place that the stage's bytes say

module _ (block : Text) (from : ℕ) where
  -- up to the next line stand what was before and the line with its newline
  taken_front : {next : ℕ} → next_place block (behind block from) ≡ some next → take next block ≡ take from block ++ (came block from ++ 10 ∷ [])
  taken_front {next} e =
      let n : Newline block from next = newline_at block from next e in
      ap (take next) n.is ∙ take_at (take from block ++ (came block from ++ 10 ∷ [])) n.rest next (sym n.place)

  -- the block ran out: all that was left of it is of the line
  taken_all : next_place block (behind block from) ≡ none → block ≡ take from block ++ came block from
  taken_all e = go (behind block from) refl
    where
      go : (u : Text) → behind block from ≡ u → block ≡ take from block ++ came block from
      go [] q =
          sym (take-append-drop from block)
          ∙ ap (λ (x : Text). take from block ++ x)
          (sym (came_behind block from) ∙ ap (λ (x : Text). came block from ++ x) q ∙ append-nil (came block from))
      go (b ∷ u) q = absurd (clash (sym e ∙ ap (next_place block) q))

  -- a caller goes on inside the block, and forward
  pub next_turn : (next : ℕ) → next_place block (behind block from) ≡ some next → from ≤ length block → (from < next) × (next ≤ length block)
  next_turn next e f =
      let n : Newline block from next = newline_at block from next e in
      let k : length (take from block) ≡ from = length-take-le from block f in
      let m = length-append (take from block) (came block from ++ 10 ∷ []) in
      let c = length-append (came block from) (10 ∷ []) in
      let w = length-append (take from block ++ (came block from ++ 10 ∷ [])) n.rest in
      (omega (arith, n.place), omega (arith, n.place, ap length n.is))

-- WHAT WAS READ

pub cuts_none : Cuts [] [] []
cuts_none = record { is = λ later. refl; plain = refl }

module _ (read block : Text) (from : ℕ) {left : Text} {ended : List Text} (c : Cuts (read ++ take from block) ended left) where
  longer_plain : NoNewline (left ++ came block from)
  longer_plain = none_append left (came block from) c.plain (came_plain block from)

  -- the block up to its end, or to the end of a line, with what comes later
  gone_on : (t later : Text) → (read ++ (take from block ++ t)) ++ later ≡ (read ++ take from block) ++ (t ++ later)
  gone_on t later = simp append_assoc

  -- a line ended: it is the stage's next line, and nothing is left
  pub cuts_line : {next : ℕ} → next_place block (behind block from) ≡ some next
      → Cuts (read ++ take next block) (ended ++ (left ++ came block from) ∷ []) []
  cuts_line {next} e = record { is = at; plain = refl }
    where
      at : (later : Text) → lines_of ((read ++ take next block) ++ later) ≡ (ended ++ (left ++ came block from) ∷ []) ++ lines_of later
      at later =
          ap (λ (x : Text). lines_of ((read ++ x) ++ later)) (taken_front block from e)
          ∙ ap lines_of (gone_on (came block from ++ 10 ∷ []) later)
          ∙ c.is ((came block from ++ 10 ∷ []) ++ later)
          ∙ ap (λ (x : Text). ended ++ lines_of x)
          (ap (λ (x : Text). left ++ x) (append_assoc (came block from) (10 ∷ []) later) ∙ sym (append_assoc left (came block from) (10 ∷ later)))
          ∙ ap (λ (x : List Text). ended ++ x) (lines_first (left ++ came block from) later longer_plain)
          ∙ sym (append_assoc ended ((left ++ came block from) ∷ []) (lines_of later))

  -- the block ran out: more is left
  pub cuts_more : next_place block (behind block from) ≡ none → Cuts (read ++ block) ended (left ++ came block from)
  cuts_more e = record { is = at; plain = longer_plain }
    where
      at : (later : Text) → lines_of ((read ++ block) ++ later) ≡ ended ++ lines_of ((left ++ came block from) ++ later)
      at later =
          ap (λ (x : Text). lines_of ((read ++ x) ++ later)) (taken_all block from e)
          ∙ ap lines_of (gone_on (came block from) later)
          ∙ c.is (came block from ++ later)
          ∙ ap (λ (x : Text). ended ++ lines_of x) (sym (append_assoc left (came block from) later))

-- the end of the input: what is left is a line more, or none

last_nothing : last_line [] ≡ []
unfolding last_line
last_nothing = rw (last_none [] refl)

last_something : (b : ℕ) (t : Text) → last_line (b ∷ t) ≡ (b ∷ t) ∷ []
unfolding last_line
last_something b t = rw (last_some (b ∷ t) (λ e. omega arith))

last_lines : (left : Text) → NoNewline left → lines_of left ≡ last_line left
last_lines [] h = unfold lines_of in sym last_nothing
last_lines (b ∷ t) h = lines_last b t h ∙ sym (last_something b t)

pub cuts_lines : {read left : Text} {ended : List Text} → Cuts read ended left → lines_of read ≡ ended ++ last_line left
cuts_lines {read} {left} {ended} c =
    ap lines_of (sym (append-nil read)) ∙ c.is [] ∙ ap (λ (x : Text). ended ++ lines_of x) (append-nil left)
    ∙ ap (λ (x : List Text). ended ++ x) (last_lines left c.plain)

-- THE BUFFER

pub holding_none : (line : Text) → Holding [] line 0
holding_none line = record { is = refl; long = refl }

pub kept_most : {left line : Text} {kept : ℕ} → Holding left line kept → kept ≤ line_kept
kept_most {left} h = omega (arith, h.long, take_most line_kept left)

-- a cut before another one changes nothing
cut_twice : (n : ℕ) (t u : Text) → take n (take n t ++ u) ≡ take n (t ++ u)
cut_twice zero t u = refl
cut_twice (suc n) [] u = refl
cut_twice (suc n) (b ∷ t) u = ap (λ (x : Text). b ∷ x) (cut_twice n t u)

module _ {left line : Text} {kept : ℕ} (h : Holding left line kept) where
  -- what the buffer holds of the line with what came
  pub holding_came : (block : Text) (from : ℕ) → kept_of (take kept line ++ came block from) ≡ kept_of (left ++ came block from)
  holding_came block from = ap (λ (x : Text). kept_of (x ++ came block from)) h.is ∙ cut_twice line_kept left (came block from)

  -- the bytes that are kept are the last line, if there is one, as far as it can matter
  pub holding_last : last_line (take kept line) ≡ cut_lines (last_line left)
  holding_last = ap last_line h.is ∙ go left
    where
      go : (t : Text) → last_line (kept_of t) ≡ cut_lines (last_line t)
      go [] = rw last_nothing
      go (b ∷ t) = rw (last_something b (take 2048 t), last_something b t)

-- `take_in`: the answer says which turn it was, and the buffer then holds what was read of the line
module _ {line block line' : Text} {kept from : ℕ} {r : Taken} (w : Takes line kept block from line' r) where
  taken_most : kept_in r ≤ line_kept
  taken_most = omega (arith, w.puts.counts, take_most line_kept (take kept line ++ came block from))

  pub taken_length : line_kept ≤ length line → length line' ≡ length line
  taken_length f =
      let m : length (kept_of (take kept line ++ came block from)) ≤ length line = omega (arith, w.puts.counts, taken_most) in
      ap length w.puts.leaves ∙ over_length (kept_of (take kept line ++ came block from)) line m

  module _ {k next : ℕ} (e : r ≡ Ended k next) where
    pub ended_next : next_place block (behind block from) ≡ some next
    ended_next = sym w.goes ∙ ap next_in e

    pub ended_puts : Puts (kept_of (take kept line ++ came block from)) line line' k
    ended_puts = subst (λ (n : ℕ). Puts (kept_of (take kept line ++ came block from)) line line' n) (ap kept_in e) w.puts

    pub ended_inside : line_kept ≤ length line → k ≤ length line'
    ended_inside f = let q : kept_in r ≡ k = ap kept_in e in omega (arith, taken_length f, taken_most)

  module _ {k : ℕ} (e : r ≡ Open k) where
    pub open_next : next_place block (behind block from) ≡ none
    open_next = sym w.goes ∙ ap next_in e

    pub open_puts : Puts (kept_of (take kept line ++ came block from)) line line' k
    open_puts = subst (λ (n : ℕ). Puts (kept_of (take kept line ++ came block from)) line line' n) (ap kept_in e) w.puts

module _ {left line line' : Text} {kept n : ℕ} (block : Text) (from : ℕ) (h : Holding left line kept)
    (p : Puts (kept_of (take kept line ++ came block from)) line line' n) where
  pub holding_more : Holding (left ++ came block from) line' n
  holding_more = record { is = puts_front p ∙ holding_came h block from; long = p.counts ∙ ap length (holding_came h block from) }

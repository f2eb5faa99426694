-- What the program tells of a line, written piece by piece: `line `, the line's number, `: `, the message, and a newline, the byte 10.
use Prim.Native.Nat.{ℕ, suc, ◌+◌, ◌-◌, ◌≤◌, ◌<◌}
use native.Mathlib.Omega.{arith}
use mathlib.Core.Path.{◌≡◌, refl, sym, ap}
use mathlib.Core.List.{[], ◌++◌}
use lib.Dec.{eqb}
use lib.ListN.{length, take, drop, set, length-append}
use lib.Seq.{take-length}
use borrow.Rule.Slice.PartMut.{put_mid, mid_of}
use borrow.Author.Tests.{eq-eqb, ne_eqb, eqb-true, eqb-false, le-leb, lt-leb}
use Rattle.stages.specs.Numbers.{count_limit, demanded}
use Rattle.stages.specs.Bytes.{Text, text}
use Rattle.stages.specs.Units.{decimal}
use Rattle.stages.specs.Call.{Answer, over}
use Rattle.stages.specs.Program.{told, next_number}
use Rattle.stages.proofs.Bools.{either}
use Rattle.text.specs.Putting.{Puts}
use Rattle.text.proofs.Filling.{Filling, puts_copied, fill_byte, fill_piece}
use Rattle.recipe_cut.specs.Said.{told_by, demand_text, told_room}
use Rattle.recipe_cut.proofs.Saying.{decimal_most, begun}

-- `next_number`
pub next_more : (n : ℕ) → n < count_limit → n + 1 ≡ next_number n
unfolding next_number
next_more n h = let k : n + 1 ≡ suc n = omega arith in sym (rw (le-leb (suc n) count_limit (omega arith)) (sym k))

pub next_same : (n : ℕ) → count_limit ≤ n → n ≡ next_number n
unfolding next_number
next_same n h = sym (rw (lt-leb (suc n) count_limit (omega arith)))

-- the two kinds of answer
pub told_demand : (number line : ℕ) (message : Text) → number ≡ demanded → told_by number line message ≡ demand_text line message
unfolding told_by told
told_demand number line message e =
    rw (eq-eqb number demanded e, told)
    (ap (λ (x : Text). text "line " ++ (decimal line ++ (text ": " ++ (x ++ text "\n")))) (take-length message))

told_nothing : (number line : ℕ) (message : Text) → (number ≡ demanded → ⊥) → told_by number line message ≡ []
unfolding told_by told
told_nothing number line message e = rw (ne_eqb number demanded e, told)

pub tells_nothing : (number line : ℕ) (message out : Text) → (number ≡ demanded → ⊥) → Puts (told_by number line message) out out 0
unfolding over
tells_nothing number line message out e = rw (told_nothing number line message e) (record { counts = refl; leaves = refl })

-- what the stage tells is by the number and what stands in the message's buffer
pub told_is : (line : ℕ) (a : Answer) → told line a ≡ told_by a.number line (take a.message_length a.message)
unfolding told_by told
told_is line a =
    either (eqb a.number demanded)
    (λ e. rw (e, told) (ap (λ (x : Text). text "line " ++ (decimal line ++ (text ": " ++ (x ++ text "\n"))))
    (sym (take-length (take a.message_length a.message)))))
    (λ e. rw (e, told))

-- `put_demand`
demand_small : (line : ℕ) (message : Text) → length (demand_text line message) ≤ length message + told_room
demand_small line message = simp length-append (omega (arith, decimal_most line))

-- all that is told of an answer
pub told_small : (number line : ℕ) (message : Text) → length (told_by number line message) ≤ length message + told_room
told_small number line message =
    either (eqb number demanded)
    (λ e. rw (told_demand number line message (eqb-true number demanded e)) (demand_small line message))
    (λ e. rw (told_nothing number line message (eqb-false number demanded e)) (omega arith))

module _ (line : ℕ) (message out first : Text) (h : length message + told_room ≤ length out) (e : first ≡ text "line " ++ drop 5 out) where
  pub demand_begun : Filling (demand_text line message) (decimal line ++ (text ": " ++ (message ++ text "\n"))) out first 5
  demand_begun = begun (text "line ") (decimal line ++ (text ": " ++ (message ++ text "\n"))) out first (omega (arith, demand_small line message)) e

  module _ (ys : Text) (a : ℕ) (p : Puts (decimal line) (mid_of 5 (length first - 5) first) ys a) where
    abbrev second : Text
    second = put_mid 5 (length first - 5) first ys

    pub demand_number : Filling (demand_text line message) (text ": " ++ (message ++ text "\n")) out second (a + 5)
    demand_number = fill_piece demand_begun (decimal line) (text ": " ++ (message ++ text "\n")) ys a (a + 5) refl p (omega arith)

    module _ (zs : Text) (q : zs ≡ text ": " ++ drop 2 (mid_of (a + 5) (length second - (a + 5)) second)) where
      abbrev third : Text
      third = put_mid (a + 5) (length second - (a + 5)) second zs

      pub demand_colon : Filling (demand_text line message) (message ++ text "\n") out third (a + 5 + 2)
      demand_colon =
          fill_piece demand_number (text ": ") (message ++ text "\n") zs 2 (a + 5 + 2) refl
          (puts_copied (text ": ") (mid_of (a + 5) (length second - (a + 5)) second) zs q) refl

      module _ (us : Text) (r : us ≡ message ++ drop (length message) (mid_of (a + 5 + 2) (length third - (a + 5 + 2)) third)) where
        abbrev fourth : Text
        fourth = put_mid (a + 5 + 2) (length third - (a + 5 + 2)) third us

        pub demand_message : Filling (demand_text line message) (text "\n") out fourth (a + 5 + 2 + length message)
        demand_message =
            fill_piece demand_colon message (text "\n") us (length message) (a + 5 + 2 + length message) refl
            (puts_copied message (mid_of (a + 5 + 2) (length third - (a + 5 + 2)) third) us r) refl

        pub demand_ended : Filling (demand_text line message) [] out (set fourth (a + 5 + 2 + length message) 10) (a + 5 + 2 + length message + 1)
        demand_ended = fill_byte demand_message 10 [] (a + 5 + 2 + length message + 1) refl refl

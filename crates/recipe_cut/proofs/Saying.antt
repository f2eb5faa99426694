-- What the program says of an answer, written piece by piece. The byte 10 is a newline, 32 a blank.
use Prim.Native.Nat.{ℕ, zero, suc, ◌+◌, ◌-◌, ◌/◌, ◌≤◌}
use native.Mathlib.Omega.{arith}
use mathlib.Core.Path.{◌≡◌, refl, sym, ap}
use mathlib.Core.List.{[], ◌++◌}
use lib.Dec.{eqb, ltb}
use lib.ListN.{length, take, drop, set, length-append, length-drop}
use lib.Seq.{take-length, length-take-le}
use borrow.Rule.Slice.PartMut.{put_mid, mid_of}
use borrow.Author.Tests.{eq-eqb, ne_eqb, eqb-true, eqb-false, ltb-true, ltb-false}
use Rattle.stages.specs.Bytes.{Text, text}
use Rattle.stages.specs.Units.{digits, decimal}
use Rattle.stages.specs.Call.{over, Answer}
use Rattle.stages.specs.Program.{said}
use Rattle.stages.proofs.Bools.{either}
use Rattle.stages.proofs.Digits.{digits_one, digits_more}
use Rattle.text.specs.Putting.{Puts}
use Rattle.text.proofs.Filling.{Filling, fill_byte, fill_kept, fill_piece}
use Rattle.recipe_cut.specs.Said.{said_by, ok_text, line_in, no_text, answer_room}

-- the two kinds of answer
pub said_ok : (number place : ℕ) (line : Text) → number ≡ 0 → said_by number place line ≡ ok_text line
unfolding said_by said
said_ok number place line e = rw (eq-eqb number 0 e, said) (ap (λ (x : Text). text "ok " ++ (x ++ text "\n")) (take-length line))

pub said_no : (number place : ℕ) (line : Text) → (number ≡ 0 → ⊥) → said_by number place line ≡ no_text number place
unfolding said_by said
said_no number place line e = rw (ne_eqb number 0 e, said)

-- the stage's words are by number, place and what stands in the output
pub said_is : (a : Answer) → said a ≡ said_by a.number a.place (take a.out_length a.out)
unfolding said_by said
said_is a =
    either (eqb a.number 0)
    (λ e. rw (e, said) (ap (λ (x : Text). text "ok " ++ (x ++ text "\n")) (sym (take-length (take a.out_length a.out)))))
    (λ e. rw (e, said))

-- digits are no more than they may be
digits_most : (k n : ℕ) → length (digits k n) ≤ k
unfolding digits
digits_most zero n = omega arith
digits_most (suc k) n =
    either (ltb n 10)
    (λ e. rw (digits_one k n (ltb-true n 10 e)) (omega arith))
    (λ e. rw (digits_more k n (ltb-false n 10 e), length-append) (omega (arith, digits_most k (n / 10))))

pub decimal_most : (n : ℕ) → length (decimal n) ≤ 20
unfolding decimal
decimal_most n = digits_most 20 n

-- a text that is copied to the front is the first piece
pub begun : (t rest old out : Text) → length (t ++ rest) ≤ length old → out ≡ t ++ drop (length t) old → Filling (t ++ rest) rest old out (length t)
unfolding over
begun t rest old out h e = record { front = t; splits = refl; long = refl; is = e; fits = h }

-- `put_ok`: the line stands already where it is said
module _ (len : ℕ) (out first : Text) (h : len + 4 ≤ length out) (e : first ≡ text "ok " ++ drop 3 out) where
  line_long : length (line_in len out) ≡ len
  line_long = length-take-le len (drop 3 out) (omega (arith, length-drop 3 out))

  ok_begun : Filling (ok_text (line_in len out)) (line_in len out ++ text "\n") out first 3
  ok_begun = begun (text "ok ") (line_in len out ++ text "\n") out first (simp length-append (omega (arith, line_long))) e

  ok_line : Filling (ok_text (line_in len out)) (text "\n") out first (len + 3)
  ok_line = fill_kept ok_begun (line_in len out) (text "\n") (len + 3) refl (ap (λ (n : ℕ). take n (drop 3 out)) line_long) (omega (arith, line_long))

  pub ok_ended : Filling (ok_text (line_in len out)) [] out (set first (len + 3) 10) (len + 3 + 1)
  ok_ended = fill_byte ok_line 10 [] (len + 3 + 1) refl refl

-- `put_no`
no_small : (number place : ℕ) → length (no_text number place) ≤ answer_room
no_small number place = simp length-append (omega (arith, decimal_most number, decimal_most place))

-- all words of an answer
pub said_small : (number place : ℕ) (line : Text) → length (said_by number place line) ≤ length line + answer_room
said_small number place line =
    either (eqb number 0)
    (λ e. rw (said_ok number place line (eqb-true number 0 e)) (simp length-append (omega arith)))
    (λ e. rw (said_no number place line (eqb-false number 0 e)) (omega (arith, no_small number place)))

module _ (number place : ℕ) (out first : Text) (h : answer_room ≤ length out) (e : first ≡ text "no " ++ drop 3 out) where
  pub no_begun : Filling (no_text number place) (decimal number ++ (text " " ++ (decimal place ++ text "\n"))) out first 3
  no_begun = begun (text "no ") (decimal number ++ (text " " ++ (decimal place ++ text "\n"))) out first (omega (arith, no_small number place)) e

  module _ (ys : Text) (a : ℕ) (p : Puts (decimal number) (mid_of 3 (length first - 3) first) ys a) where
    abbrev second : Text
    second = put_mid 3 (length first - 3) first ys

    pub no_number : Filling (no_text number place) (text " " ++ (decimal place ++ text "\n")) out second (a + 3)
    no_number = fill_piece no_begun (decimal number) (text " " ++ (decimal place ++ text "\n")) ys a (a + 3) refl p (omega arith)

    abbrev third : Text
    third = set second (a + 3) 32

    pub no_blank : Filling (no_text number place) (decimal place ++ text "\n") out third (a + 3 + 1)
    no_blank = fill_byte no_number 32 (decimal place ++ text "\n") (a + 3 + 1) refl refl

    module _ (zs : Text) (b : ℕ) (q : Puts (decimal place) (mid_of (a + 3 + 1) (length third - (a + 3 + 1)) third) zs b) where
      abbrev fourth : Text
      fourth = put_mid (a + 3 + 1) (length third - (a + 3 + 1)) third zs

      pub no_place : Filling (no_text number place) (text "\n") out fourth (a + 3 + 1 + b)
      no_place = fill_piece no_blank (decimal place) (text "\n") zs b (a + 3 + 1 + b) refl q refl

      pub no_ended : Filling (no_text number place) [] out (set fourth (a + 3 + 1 + b) 10) (a + 3 + 1 + b + 1)
      no_ended = fill_byte no_place 10 [] (a + 3 + 1 + b + 1) refl refl

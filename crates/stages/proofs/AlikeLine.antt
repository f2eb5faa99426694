-- Document 02, E8: a line that passes the test, expanded twice under variables that differ in IFS alone, and under any paths. It gives one field, the same one
-- wherever there are two.
use Prim.Native.Nat.{ℕ, ◌+◌}
use native.Mathlib.Omega.{arith}
use mathlib.Core.Path.{◌≡◌, refl}
use mathlib.Core.Bool.{Bool, true, false, not}
use mathlib.Core.List.{[], ◌∷◌, ◌++◌}
use lib.Dec.{leb}
use lib.ListN.{length}
use Rattle.stages.specs.Numbers.{line_too_long, zero_byte, output_room, line_limit}
use Rattle.stages.specs.Bytes.{Text, is_in}
use Rattle.stages.specs.Outcome.{Outcome, Placed, refused_at, demands_at, done_at, placed_at, ◌then◌, require}
use Rattle.stages.specs.Images.{Pairs, record_bytes}
use Rattle.stages.specs.Syntax.{Word}
use Rattle.stages.specs.Read.{Words, read_line}
use Rattle.stages.specs.Line.{Around, Fields, out_fits, expand_words, expand_line}
use Rattle.stages.specs.Together.{is_together, one_together, together}
use Rattle.stages.proofs.Bools.{no}
use Rattle.stages.proofs.Begun.{SomePart, some_part}
use Rattle.stages.proofs.ButIFS.{Alike}
use Rattle.stages.proofs.Alike.{Stops, refuses, asks, Both, one_stops, other_stops, both_give, Agree, agrees}
use Rattle.stages.proofs.AlikeRows.{Shared}
use Rattle.stages.proofs.OneField.{One, one, fields_both}

-- PLACED OUTCOMES

pub data StopsAt {A : Type 0} : Placed A → Type 0 where
  refuses_at_lem : {n place : ℕ} → StopsAt (refused_at n place)
  asks_at : {t : Text} {place : ℕ} → StopsAt (demands_at t place)

pub data BothAt {A : Type 0} (P : A → A → Type 0) : Placed A → Placed A → Type 0 where
  one_stops_at : {o u : Placed A} → StopsAt o → BothAt P o u
  other_stops_at : {o u : Placed A} → StopsAt u → BothAt P o u
  both_give_at : {a b : A} → P a b → BothAt P (done_at a) (done_at b)

not_done : {A : Type 0} {o : Placed A} {a : A} → StopsAt o → o ≡ done_at a → ⊥
not_done refuses_at_lem e = let z : ◌≡◌ {A = ℕ} 0 1 = cc in omega arith
not_done asks_at e = let z : ◌≡◌ {A = ℕ} 0 1 = cc in omega arith

pub both_done : {A : Type 0} {P : A → A → Type 0} {o u : Placed A} {a b : A} → BothAt P o u → o ≡ done_at a → u ≡ done_at b → P a b
both_done (one_stops_at s) e d = absurd (not_done s e)
both_done (other_stops_at s) e d = absurd (not_done s d)
both_done {P = P} {a = a} {b = b} (both_give_at {a = c} {b = i} p) e d = let x : c ≡ a = cc in let y : i ≡ b = cc in rw (← x, ← y) p

stops_then : {A B : Type 0} {o : Outcome A} (place : ℕ) (f : A → Placed B) → Stops o → StopsAt (placed_at place o then f)
stops_then place f refuses = refuses_at_lem
stops_then place f asks = asks_at

module _ {B : Type 0} {P : B → B → Type 0} where
  at_both : {A : Type 0} {C : A → Type 0} {o u : Outcome (A × Pairs)} (place : ℕ) (f g : A × Pairs → Placed B) → Both (Agree C) o u
      → ((a : A) (v w : Pairs) → C a → Alike v w → BothAt P (f (a, v)) (g (a, w))) → BothAt P (placed_at place o then f) (placed_at place u then g)
  at_both place f g (one_stops s) h = one_stops_at (stops_then place f s)
  at_both place f g (other_stops s) h = other_stops_at (stops_then place g s)
  at_both place f g (both_give (agrees {a = a} {v = v} {w = w} c k)) h = h a v w c k

  -- what each is required to pass
  pub require_both : (x y : Bool) (n place : ℕ) (f g : Unit {0} → Placed B) → BothAt P (f tt) (g tt)
      → BothAt P (require x n place then f) (require y n place then g)
  require_both false y n place f g h = one_stops_at refuses_at_lem
  require_both true false n place f g h = other_stops_at refuses_at_lem
  require_both true true n place f g h = h

-- THE LINE

-- one word behind an image of n bytes
word_both : (a b : Around) → Shared a.lent b.lent → (u : Word) → SomePart u.parts → is_together u.parts ≡ true → (n : ℕ) (v w : Pairs) → Alike v w
    → BothAt (Agree One) (expand_words a (u ∷ []) n v) (expand_words b (u ∷ []) n w)
unfolding expand_words
word_both a b s u t h n v w k =
    at_both u.place _ _ (fields_both a b s u.parts t h v w k)
    (λ l i j c m. require_both (out_fits a (n + record_bytes l)) (out_fits b (n + record_bytes l)) output_room u.place _ _ (alone l i j c m))
  where
    alone : (l : Fields) (i j : Pairs) → One l → Alike i j → BothAt (Agree One) (done_at (l ++ [], i)) (done_at (l ++ [], j))
    alone [] i j x'' m = elim x'' [ ]
    alone (t ∷ []) i j one m = both_give_at (agrees one m)
    alone (t ∷ (_ ∷ _)) i j x8 m = elim x8 [ ]

-- the word of a line that passes
record OnlyWord (t : Text) : Type 0 where
  only : Word
  reads : read_line t ≡ done_at (only ∷ [])
  passes : is_together only.parts ≡ true

only_word : (t : Text) → together t ≡ true → OnlyWord t
unfolding together
only_word t h = go (read_line t) refl h
  where
    go : (o : Words) → read_line t ≡ o → one_together o ≡ true → OnlyWord t
    go (refused_at n place) e h = absurd (no (unfold one_together in h))
    go (demands_at m place) e h = absurd (no (unfold one_together in h))
    go (done_at []) e h = absurd (no (unfold one_together in h))
    go (done_at (w ∷ [])) e h = record { only = w; reads = e; passes = unfold one_together in h }
    go (done_at (w ∷ u ∷ ws)) e h = absurd (no (unfold one_together in h))

-- THE LAW, of a line
pub line_both : (a b : Around) → Shared a.lent b.lent → (t : Text) → together t ≡ true → (v w : Pairs) → Alike v w
    → BothAt (Agree One) (expand_line a t v) (expand_line b t w)
unfolding expand_line
line_both a b s t h v w k =
    let u : OnlyWord t = only_word t h in
    require_both (leb (length t) line_limit) (leb (length t) line_limit) line_too_long 0 _ _
    (require_both (not (is_in 0 t)) (not (is_in 0 t)) zero_byte 0 _ _
    (rw u.reads
    (require_both (out_fits a 1) (out_fits b 1) output_room 0 _ _
    (word_both a b s u.only (some_part t u.only [] u.reads) u.passes 1 v w k))))

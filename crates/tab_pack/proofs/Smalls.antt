-- What is read from bytes, cut from them into lines or held by an image of them is bytes.
use Prim.Native.Nat.{ℕ, zero, suc, ◌+◌, ◌-◌, ◌*◌, ◌<◌}
use native.Mathlib.Omega.{arith}
use mathlib.Core.Path.{◌≡◌, refl}
use mathlib.Core.Bool.{Bool, true}
use mathlib.Core.List.{List, [], ◌∷◌}
use mathlib.Core.Option.{some}
use lib.Dec.{leb, eqb, ltb}
use lib.ListN.{length, drop, get_or}
use borrow.Author.Tests.{leb-true, ltb-true, lt-ltb}
use Rattle.stages.specs.Bytes.{Text, all, between}
use Rattle.stages.specs.Images.{texts_in, texts}
use Rattle.stages.specs.Program.{longer_line, lines_of}
use Rattle.stages.proofs.Bools.{either, and_left, and_right, and_both}
use Rattle.stages.proofs.Texts.{all_take, all_drop}
use Rattle.stages.proofs.Outcomes.{Each}
use Rattle.stages.proofs.Images.{Bytes, by_texts, texts_inside}
use Rattle.tab_escape.specs.Escapes.{Got, hex_value, hex_byte, escape_of, byte_at, good, read_text}
use Rattle.std.specs.Prelude.{Option, Some, None, Ok, Err}
use Rattle.tab_escape.proofs.Escaping.{by_pick}
use Rattle.tab_escape.proofs.Passing.{from_all}

abbrev pub is_byte : ℕ → Bool
is_byte b = ltb b 256

abbrev pub Small : Text → Type 0
Small t = all is_byte t ≡ true

pub small_of : (t : Text) → Bytes t → Small t
small_of [] h = refl
small_of (b ∷ t) h = and_both (lt-ltb b 256 (h 0)) (small_of t (λ i. h (suc i)))

pub bytes_of : (t : Text) → Small t → Bytes t
bytes_of [] e i = omega arith
bytes_of (b ∷ t) e zero = ltb-true b 256 (and_left (is_byte b) (all is_byte t) e)
bytes_of (b ∷ t) e (suc i) = bytes_of t (and_right (is_byte b) (all is_byte t) e) i

abbrev Lesser : Got → Type 0
Lesser (Err f) = Unit {0}
Lesser (Ok r) = is_byte r.b ≡ true

abbrev Digit : Option ℕ → Type 0
Digit (Some n) = n < 16
Digit None = Unit {0}

digit_small : (b : ℕ) → Digit (hex_value b)
digit_small b =
    by_pick Digit (between 48 b 57) _ _ (λ e. omega (arith, leb-true b 57 (and_right (leb 48 b) (leb b 57) e)))
    (λ _. by_pick Digit (between 65 b 70) _ _ (λ e. omega (arith, leb-true b 70 (and_right (leb 65 b) (leb b 70) e)))
    (λ _. by_pick Digit (between 97 b 102) _ _ (λ e. omega (arith, leb-true b 102 (and_right (leb 97 b) (leb b 102) e))) (λ _. tt)))

hex_lesser : (h l : Option ℕ) → Digit h → Digit l → Lesser (hex_byte h l)
hex_lesser (Some h) (Some l) p q = by_pick Lesser (eqb (h * 16 + l) 0) _ _ (λ _. tt) (λ _. lt-ltb (h * 16 + l) 256 (omega arith))
hex_lesser (Some h) None p q = tt
hex_lesser None l p q = tt

escape_lesser : (n c h l : ℕ) → Lesser (escape_of n c h l)
escape_lesser n c h l =
    by_pick Lesser (ltb n 2) _ _ (λ _. tt)
    (λ _. by_pick Lesser (eqb c 110) _ _ (λ _. refl)
    (λ _. by_pick Lesser (eqb c 92) _ _ (λ _. refl)
    (λ _. by_pick Lesser (eqb c 120) _ _
    (λ _. by_pick Lesser (ltb n 4) _ _ (λ _. tt) (λ _. hex_lesser (hex_value h) (hex_value l) (digit_small h) (digit_small l))) (λ _. tt))))

byte_lesser : (b : ℕ) (t : Text) → is_byte b ≡ true → Lesser (byte_at (b ∷ t) 0)
unfolding byte_at
byte_lesser b t e =
    by_pick Lesser (eqb b 0) _ _ (λ _. tt)
    (λ _. by_pick Lesser (eqb b 92) _ _ (λ _. escape_lesser (length (b ∷ t) - 0) (get_or (b ∷ t) 1 0) (get_or (b ∷ t) 2 0) (get_or (b ∷ t) 3 0)) (λ _. e))

pub read_small : (t u : Text) → Small t → read_text t ≡ good u → Small u
unfolding read_text
read_small t u h e =
    from_all is_byte Small (λ b t d. and_right (is_byte b) (all is_byte t) d)
    (λ b t c k d q. rw q at (byte_lesser b t (and_left (is_byte b) (all is_byte t) d))) 0 t u h e

longer_small : (b : ℕ) (l : List Text) → is_byte b ≡ true → Each Small l → Each Small (longer_line b l)
unfolding longer_line
longer_small b [] h e = (and_both h refl, tt)
longer_small b (t ∷ l) h e = (and_both h e.0, e.1)

pub lines_small : (t : Text) → Small t → Each Small (lines_of t)
unfolding lines_of
lines_small [] h = tt
lines_small (b ∷ t) h =
    either (eqb b 10) (λ e. rw (e, lines_of) (refl, lines_small t (and_right (is_byte b) (all is_byte t) h)))
    (λ e. rw (e, lines_of) (longer_small b (lines_of t) (and_left (is_byte b) (all is_byte t) h) (lines_small t (and_right (is_byte b) (all is_byte t) h))))

-- the texts of an image of bytes
texts_small : (t : Text) (l : List Text) → texts_in t ≡ some l → Small t → Each Small l
texts_small t l e =
    by_texts (λ (t : Text) (l : List Text). Small t → Each Small l) (λ _. tt)
    (λ a b u m w ih h. (all_take is_byte (a * 256 + b) u (inside a b u h), ih (all_drop is_byte (a * 256 + b) u (inside a b u h)))) t l e
  where
    inside : (a b : ℕ) (u : Text) → Small (a ∷ b ∷ u) → Small u
    inside a b u h = and_right (is_byte b) (all is_byte u) (and_right (is_byte a) (all is_byte (b ∷ u)) h)

pub image_small : (t : Text) (l : List Text) → Bytes t → texts t ≡ some l → Each Small l
image_small t l h e = texts_small (drop 1 t) l (texts_inside t l e).1 (all_drop is_byte 1 t (small_of t h))

-- Laws of `pieces`, the words or the assignments of a line. Where each piece takes a byte at least, `pieces` never takes its escape, and unfolds by its own
-- equations; and the pieces of a line from a place on.
use Prim.Native.Nat.{ℕ, suc, ◌+◌, ◌-◌, ◌≤◌, ◌<◌}
use Prim.Native.Char.{code}
use native.Mathlib.Omega.{arith}
use mathlib.Core.Path.{◌≡◌, refl, sym, ap, ◌∙◌}
use mathlib.Core.Bool.{Bool, true, false, ◌||◌}
use mathlib.Core.List.{List, [], ◌∷◌}
use lib.Dec.{eqb}
use lib.ListN.{length, drop, get_or, length-drop, drop_of_length-le}
use lib.Seq.{drop-cons}
use Rattle.stages.specs.Recur.{below, below_ok, fix_eq, by_size}
use Rattle.stages.specs.Numbers.{bare_operator}
use Rattle.stages.specs.Bytes.{Text, between, is_blank, is_operator}
use Rattle.stages.specs.Outcome.{Outcome, refused, demands, done, Placed, refused_at, demands_at, done_at, placed_at, ◌then◌, choose}
use Rattle.stages.specs.Read.{Piece, piece_at, pieces_step, pieces_size, pieces}
use Rattle.stages.proofs.Read.{Good, stays, leaves}

pub choose_true : {A : Type 0} {x : Bool} → x ≡ true → (f g : Unit {0} → A) → choose x f g ≡ f tt
unfolding choose
choose_true e f g = rw e

pub choose_false : {A : Type 0} {x : Bool} → x ≡ false → (f g : Unit {0} → A) → choose x f g ≡ g tt
unfolding choose
choose_false e f g = rw e

-- a piece takes its first byte at least, and its numbers are from 7 to 12
abbrev pub Takes : {A : Type 0} → Piece A → Type 0
Takes one = (b : ℕ) (t : Text) → is_blank b ≡ false → Good (length t) (one (b ∷ t))

-- a number of `pieces` is from 7 to 12 too
pub data Sound {B : Type 0} : Placed (List B) → Type 0 where
  refuses : {n place : ℕ} → between 7 n 12 ≡ true → Sound (refused_at n place)
  accepts : {l : List B} → Sound (done_at l)

-- the piece whose first byte is at `from`, where the pieces from there on are `l`: what it is read as, and the pieces behind it from where it ends
pub record FirstPiece {A B : Type 0} (one : Piece A) (keep : ℕ → A → B) (line : Text) (from : ℕ) (l : List B) : Type 0 where
  pub tree : A
  pub rest : Text
  pub read : one (drop from line) ≡ done (tree, rest)
  pub tail : List B
  pub whole : l ≡ keep from tree ∷ tail
  pub more : (next : ℕ) → drop next line ≡ rest → next ≤ length line → pieces one keep (next, drop next line) ≡ done_at tail

record Tail {B : Type 0} (w : Placed (List B)) (f : List B → List B) (l : List B) : Type 0 where
  left : List B
  is : w ≡ done_at left
  whole : l ≡ f left

tail_of : {B : Type 0} (w : Placed (List B)) (f : List B → List B) (l : List B) → (w then λ m. done_at (f m)) ≡ done_at l → Tail w f l
tail_of (refused_at n k) f l e = absurd (let z : ◌≡◌ {A = ℕ} 0 1 = cc in omega arith)
tail_of (demands_at t k) f l e = absurd (let z : ◌≡◌ {A = ℕ} 0 1 = cc in omega arith)
tail_of (done_at m) f l e = record { left = m; is = refl; whole = cc }

-- where a rest stands in a line
rest_place : (line : Text) (from next : ℕ) (rest : Text) → drop next line ≡ rest → from ≤ length line → next ≤ length line → length
    rest ≤ length (drop from line)
    → from + (length (drop from line) - length rest) ≡ next
rest_place line from next rest e l n g = omega (arith, length-drop from line, length-drop next line, ap length e)

module _ {A B : Type 0} (one : Piece A) (keep : ℕ → A → B) where
  abbrev fewer : ℕ → ℕ × Text → Placed (List B)
  fewer k p = below pieces_size (refused_at 0 0) k (pieces one keep) p

  pieces_eq : (p : ℕ × Text) → pieces one keep p ≡ pieces_step one keep (fewer (length p.1)) p
  unfolding pieces
  pieces_eq p = fix_eq pieces_size (refused_at 0 0) (pieces_step one keep) p

  fewer_ok : (k : ℕ) (p : ℕ × Text) → length p.1 < k → fewer k p ≡ pieces one keep p
  fewer_ok k p h = below_ok pieces_size (refused_at 0 0) k (pieces one keep) p h

  pub pieces_end : (place : ℕ) → pieces one keep (place, []) ≡ done_at []
  unfolding pieces_step
  pieces_end place = pieces_eq (place, [])

  pub pieces_none : (line : Text) (from : ℕ) → length line ≤ from → pieces one keep (from, drop from line) ≡ done_at []
  pieces_none line from l = ap (λ (t : Text). pieces one keep (from, t)) (drop_of_length-le line l) ∙ pieces_end from

  module _ (place b : ℕ) (t : Text) where
    pub pieces_blank : is_blank b ≡ true → pieces one keep (place, b ∷ t) ≡ pieces one keep (suc place, t)
    unfolding pieces_step
    pieces_blank e = pieces_eq (place, b ∷ t) ∙ choose_true e _ _ ∙ fewer_ok _ (suc place, t) (omega arith)

    pub pieces_operator : is_blank b ≡ false → (is_operator b || eqb b (code "#")) ≡ true → pieces one keep (place, b ∷ t) ≡ refused_at bare_operator place
    unfolding pieces_step
    pieces_operator e f = pieces_eq (place, b ∷ t) ∙ choose_false e _ _ ∙ choose_true f _ _

  module _ (place : ℕ) (t : Text) where
    -- what is made of a piece that is read
    abbrev around : (ℕ × Text → Placed (List B)) → A × Text → Placed (List B)
    around rec p = rec (place + (length t - length p.1), p.1) then λ l. done_at (keep place p.0 ∷ l)

    around_ok : {n : ℕ} {r : Outcome (A × Text)} → n < length t → Good n r
        → (placed_at place r then around (fewer (length t))) ≡ (placed_at place r then around (pieces one keep))
    around_ok h (stays g) = refl
    around_ok h (leaves {p = p} l) =
        ap (λ (w : Placed (List B)). w then λ l. done_at (keep place p.0 ∷ l))
        (fewer_ok (length t) (place + (length t - length p.1), p.1) (omega arith))

  module _ (short : Takes one) where
    pub pieces_piece : (place b : ℕ) (t : Text) → is_blank b ≡ false → (is_operator b || eqb b (code "#")) ≡ false
        → pieces one keep (place, b ∷ t) ≡ piece_at one keep (pieces one keep) place (b ∷ t)
    unfolding pieces_step piece_at
    pieces_piece place b t e f =
        pieces_eq (place, b ∷ t) ∙ choose_false e _ _ ∙ choose_false f _ _ ∙ around_ok place (b ∷ t) {n = length t} (omega arith) (short b t e)

    module _ (place b : ℕ) (t : Text) (h : (q : ℕ × Text) → length q.1 < suc (length t) → Sound (pieces one keep q)) where
      then_sound : {w : Placed (List B)} (f : List B → List B) → Sound w → Sound (w then λ l. done_at (f l))
      then_sound f (refuses e) = refuses e
      then_sound f accepts = accepts

      around_sound : {r : Outcome (A × Text)} → Good (length t) r → Sound (placed_at place r then around place (b ∷ t) (pieces one keep))
      around_sound (stays g) = refuses g
      around_sound (leaves {p = p} l) =
          then_sound (λ l. keep place p.0 ∷ l) (h (place + (suc (length t) - length p.1), p.1) (omega arith))

      cons_sound : (x : Bool) → is_blank b ≡ x → (y : Bool) → (is_operator b || eqb b (code "#")) ≡ y → Sound (pieces one keep (place, b ∷ t))
      unfolding piece_at
      cons_sound true e y f = rw (pieces_blank place b t e) (h (suc place, t) (omega arith))
      cons_sound false e true f = rw (pieces_operator place b t e f) (refuses refl)
      cons_sound false e false f = rw (pieces_piece place b t e f) (around_sound (short b t e))

    pub pieces_sound : (p : ℕ × Text) → Sound (pieces one keep p)
    pieces_sound p = by_size pieces_size (λ q. Sound (pieces one keep q)) step p
      where
        step : (q : ℕ × Text) → ((r : ℕ × Text) → pieces_size r < pieces_size q → Sound (pieces one keep r)) → Sound (pieces one keep q)
        step (place, []) h = rw (pieces_end place) accepts
        step (place, b ∷ t) h = cons_sound place b t h (is_blank b) refl (is_operator b || eqb b (code "#")) refl

    -- The pieces of a line from a place on.

    module _ (line : Text) (from : ℕ) (l : from < length line) (e : is_blank (get_or line from 0) ≡ false) (ws : List B) where
      first_of : (r : Outcome (A × Text)) → Good (length (drop (suc from) line)) r → one (drop from line) ≡ r
          → (placed_at from r then around from (drop from line) (pieces one keep)) ≡ done_at ws → FirstPiece one keep line from ws
      first_of (demands _) g h w = elim g [ ]
      first_of (refused n) g h w = absurd (let z : ◌≡◌ {A = ℕ} 0 1 = cc in omega arith)
      first_of (done p) (leaves g) h w =
          let k = tail_of (pieces one keep (from + (length (drop from line) - length p.1), p.1)) (λ us. keep from p.0 ∷ us) ws w in
          let g' : length p.1 ≤ length (drop from line) = omega (arith, length-drop from line, length-drop (suc from) line) in
          record {
            tree = p.0;
            rest = p.1;
            read = h;
            tail = k.left;
            whole = k.whole;
            more = λ next q n. ap (λ (t : Text). pieces one keep (next, t)) q ∙ ap (λ (i : ℕ). pieces one keep (i, p.1))
                (sym (rest_place line from next p.1 q (omega arith) n g')) ∙ k.is;
          }

      starts : (y : Bool) → (is_operator (get_or line from 0) || eqb (get_or line from 0) (code "#")) ≡ y → pieces one keep (from, drop from line) ≡ done_at ws
          → pieces one keep (from, drop from line) ≡ piece_at one keep (pieces one keep) from (drop from line)
      starts true f w =
          absurd
          (let k = pieces_operator from (get_or line from 0) (drop (suc from) line) e f in
          let h = ap (λ (t : Text). pieces one keep (from, t)) (drop-cons line from 0 l) in
          let z : ◌≡◌ {A = ℕ} 0 1 = cc in omega arith)
      starts false f w =
          ap (λ (t : Text). pieces one keep (from, t)) (drop-cons line from 0 l) ∙ pieces_piece from (get_or line from 0) (drop (suc from) line) e f
          ∙ ap (piece_at one keep (pieces one keep) from) (sym (drop-cons line from 0 l))

      pub first_piece : pieces one keep (from, drop from line) ≡ done_at ws → FirstPiece one keep line from ws
      unfolding piece_at
      first_piece w =
          first_of (one (drop from line)) (rw (drop-cons line from 0 l) (short (get_or line from 0) (drop (suc from) line) e)) refl
          (sym (starts (is_operator (get_or line from 0) || eqb (get_or line from 0) (code "#")) refl w) ∙ w)

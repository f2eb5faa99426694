-- The walk that settles a pattern: the cells so far stand for the elements before the place, and the entries beyond it are still the ends.
use Prim.Native.Nat.{ℕ, zero, suc, ◌+◌, ◌*◌, ◌-◌, ◌≤◌, ◌<◌}
use mathlib.Core.Path.{◌≡◌, refl, sym, ◌∙◌, ap, subst}
use mathlib.Core.Bool.{Bool, true, false, ◌||◌, or-true, or-false}
use mathlib.Core.List.{List, [], ◌∷◌, ◌++◌, append_assoc, append-nil}
use native.Mathlib.Omega.{arith}
use lib.ListN.{length, take, drop, set, length-set, length-append, take-append-drop}
use lib.Seq.{get_or-set_other, length-take-le, take_at, drop_at}
use Rattle.stages.specs.Bytes.{Text, part}
use Rattle.stages.specs.Pattern.{Element, Sense, Signs, sense_of, in_set}
use Rattle.stages.specs.Paths.{active}
use Rattle.pattern_unit.specs.Widths.{size, signs_by}
use Rattle.pattern_unit.specs.declared.Width.{Width}
use Rattle.pattern_unit.specs.declared.Width.TheVariants.{Plain, Marked}
use Rattle.pattern_unit.proofs.Units.{scale_zero, scale_add}
use Rattle.pattern_set.specs.Sets.{has, PutsWords}
use Rattle.pattern_element.specs.Ends.{unit_of, Ended}
use Rattle.pattern_element.specs.Pieces.{element_of, is_refusing_piece, sets_in, piece_at, behind_of}
use Rattle.pattern_element.specs.declared.Piece.{Piece}
use Rattle.pattern_element.specs.declared.Piece.TheVariants.{Star, One, Byte, Set}
use Rattle.pattern_element.proofs.Filling.{scale_less, scale_room}
use Rattle.pattern_element.proofs.Reading.{elements_over, class_over}
use Rattle.pattern_cell.specs.Cells.{Holds, Is, Shows, none, more}
use Rattle.pattern_cell.proofs.Showing.{shown_both, shown_grown}
use Rattle.std.specs.Prelude.{Err}
use Rattle.pattern_settle.specs.Celled.{Celled, CellSays, is_special}
use Rattle.pattern_settle.specs.Settled.{Settles, SettleSays}
use Rattle.pattern_settle.specs.declared.SettleError.{SettleError}
use Rattle.pattern_settle.specs.declared.SettleError.TheVariants.{BadClass, NoRoom}
use Rattle.pattern_element.proofs.Standing.{from, class_from, Standing, piece_inside, piece_further, set_inside, parted, class_step, ended_next}
use Rattle.pattern_settle.proofs.Special.{special_step}

-- THE CELL OF AN ELEMENT

-- one that is no set leaves the table as it is
module _ (w : Width) (p : Text) (used : ℕ) (special : Bool) (sets : List ℕ) (room : 4 * used ≤ length sets) where
  abbrev Plainly : Piece → ℕ → Bool → Type 0
  Plainly q cell marked = Celled w p q used special sets sets cell marked used

  plainly : (q : Piece) (cell : ℕ) (marked : Bool) → is_refusing_piece q ≡ false → Is (take (4 * used) sets) cell (element_of w p q)
      → marked ≡ (special || is_special q) → sets_in q ≡ 0 → Plainly q cell marked
  plainly q cell marked s i m n = record {
    served = s;
    is = i;
    marks = m;
    counts = omega (arith, n);
    room = room;
    added = [];
    grown = sym (append-nil (take (4 * used) sets));
  }

  module _ {q : Piece} where
    pub cell_star : q ≡ Star → Plainly q 257 true
    unfolding element_of
    cell_star e = subst (λ (r : Piece). Plainly r 257 true) (sym e) (plainly Star 257 true refl refl (sym (or-true special)) refl)

    pub cell_one : q ≡ One → Plainly q 256 true
    unfolding element_of
    cell_one e = subst (λ (r : Piece). Plainly r 256 true) (sym e) (plainly One 256 true refl refl (sym (or-true special)) refl)

    pub cell_byte : {b : ℕ} → q ≡ Byte b → b < 256 → Plainly q b special
    unfolding element_of
    cell_byte {b} e h = subst (λ (r : Piece). Plainly r b special) (sym e) (plainly (Byte b) b special refl (refl, h) (sym (or-false special)) refl)

-- a set's words are written behind those before it
module _ {words entry exit : List ℕ} (used : ℕ) (h : 4 * used + 4 ≤ length entry) (put : PutsWords words (4 * used) entry exit) where
  front : length (take (4 * used) entry ++ words) ≡ 4 * (used + 1)
  front = length-append (take (4 * used) entry) words ∙ omega (arith, length-take-le (4 * used) entry (omega arith), put.four)

  put_grown : take (4 * (used + 1)) exit ≡ take (4 * used) entry ++ words
  put_grown =
      ap (take (4 * (used + 1))) (put.is ∙ sym (append_assoc (take (4 * used) entry) words (drop (4 * used + 4) entry)))
      ∙ take_at (take (4 * used) entry ++ words) (drop (4 * used + 4) entry) (4 * (used + 1)) front

  put_holds : (sense : Sense) (members : Signs) → ((k : ℕ) → k < 256 → has words k ≡ in_set sense members k)
      → Holds (take (4 * (used + 1)) exit) (258 + used) sense members
  put_holds sense members same =
      let e : 4 * (258 + used - 258) ≡ 4 * used = omega arith in
      rw put_grown (record {
        from = omega arith;
        inside = omega (arith, front);
        same = λ b k.
            ap (λ (n : ℕ). has (drop n (take (4 * used) entry ++ words)) b) e
            ∙ ap (λ (l : List ℕ). has l b) (drop_at (take (4 * used) entry) words (4 * used) (length-take-le (4 * used) entry (omega arith))) ∙ same b k;
      })

pub cell_set : (w : Width) (p : Text) (from to : ℕ) (negative : Bool) (used : ℕ) (special : Bool) {words entry exit : List ℕ}
    → 4 * used + 4 ≤ length entry → length exit ≡ length entry → PutsWords words (4 * used) entry exit
    → ((k : ℕ) → k < 256 → has words k ≡ in_set (sense_of negative) (signs_by w (part p from to)) k)
    → Celled w p (Set negative from to) used special entry exit (258 + used) true (used + 1)
unfolding element_of
cell_set w p from to negative used special {words} h l put same = record {
  served = refl;
  is = put_holds used h put (sense_of negative) (signs_by w (part p from to)) same;
  marks = sym (or-true special);
  counts = refl;
  room = omega (arith, l);
  added = words;
  grown = put_grown used h put;
}

-- THE WALK

-- the element at a place, as the code reads it
pub stood : {w : Width} {path : Bool} {p : Text} {at u n : ℕ} {q : Piece} → at + u ≤ length p → u ≡ size w → q ≡ piece_at w path at (signs_by w (drop at p))
    → n ≡ behind_of w q at → Standing w path p at q n
stood h e is ends = record { there = omega (arith, h, e); is = is; ends = ends }

pub record Settling (w : Width) (path : Bool) (p : Text) (cells sets : List ℕ) (at count used : ℕ) (special : Bool) : Type 0 where
  pub ended : Ended w path p cells at
  pub inside : at ≤ length p
  pub few : count ≤ unit_of w at
  pub before : List Element
  pub whole : from w path p 0 ≡ before ++ from w path p at
  pub shows : Shows (take (4 * used) sets) (take count cells) before
  pub served : class_from w path p 0 ≡ class_from w path p at
  pub marks : active (from w path p 0) ≡ (special || active (from w path p at))
  pub long : 3 * (size w * used) ≤ at
  pub room : 4 * used ≤ length sets

pub settling_start : (w : Width) (path : Bool) (p : Text) (cells sets : List ℕ) → Ended w path p cells 0 → Settling w path p cells sets 0 0 0 false
settling_start w path p cells sets e = record {
  ended = e;
  inside = omega arith;
  few = omega arith;
  before = [];
  whole = refl;
  shows = none;
  served = refl;
  marks = refl;
  long = omega (arith, scale_zero w);
  room = omega arith;
}

-- so many units of a pattern, so many cells
fits : (w : Width) (m n : ℕ) → size w * m ≤ size w * n → m ≤ n
fits Plain m n h = omega arith
fits Marked m n h = omega arith

small : (w : Width) (n k : ℕ) → 3 * (size w * k) ≤ n → n ≤ size w * 2048 → k ≤ 2048
small Plain n k h l = omega arith
small Marked n k h l = omega arith

take_set : (n : ℕ) (l : List ℕ) (x : ℕ) → n < length l → take (suc n) (set l n x) ≡ take n l ++ x ∷ []
take_set n [] x h = absurd (omega arith)
take_set zero (y ∷ l) x h = refl
take_set (suc n) (y ∷ l) x h = ap (λ (r : List ℕ). y ∷ r) (take_set n l x (omega arith))

no_room : (w : Width) (l k at n : ℕ) → l < 4 * k + 4 → 3 * (size w * k) ≤ at → at + 3 * (size w * 1) ≤ n → 3 * (size w * l) < 4 * n
no_room Plain l k at n h i j = omega arith
no_room Marked l k at n h i j = omega arith

or_both : (a b c : Bool) {x : Bool} → x ≡ (a || b) → (a || (b || c)) ≡ (x || c)
or_both true b c e = rw e
or_both false b c e = rw e

module _ {w : Width} {path : Bool} {p : Text} {cells sets : List ℕ} {at count used : ℕ} {special : Bool}
    (s : Settling w path p cells sets at count used special) where
  pub settling_few : count ≤ length cells
  settling_few =
      let e = s.ended.unit in
      let f = fits w (unit_of w at) (length cells) (omega (arith, e, s.inside, s.ended.roomy.room)) in
      omega (arith, f, s.few)

  -- at its end
  pub settling_end : length p < at + size w → Settles w path p cells sets count special
  unfolding active
  settling_end h =
      let all : from w path p 0 ≡ s.before =
      s.whole ∙ ap (λ (l : List Element). s.before ++ l) (elements_over w path p at h) ∙ append-nil s.before in
      record {
        served = s.served ∙ class_over w path p at h;
        inside = settling_few;
        shows = subst (λ (l : List ℕ). Shows l (take count cells) (from w path p 0)) (take-append-drop (4 * used) sets)
            (shown_grown (subst (λ (l : List Element). Shows (take (4 * used) sets) (take count cells) l) (sym all) s.shows) (drop (4 * used) sets));
        active = sym (s.marks ∙ ap (λ (l : List Element). special || active l) (elements_over w path p at h) ∙ or-false special);
      }

  module _ {q : Piece} {n : ℕ} (t : Standing w path p at q n) where
    pub settling_class : is_refusing_piece q ≡ true → class_from w path p 0 ≡ true
    settling_class y = s.served ∙ class_step t ∙ ap (λ (b : Bool). b || class_from w path p n) y

    pub settling_full : (exit : List ℕ) → sets_in q ≡ 1 → length exit < 4 * used + 4 → 3 * (size w * length exit) < 4 * length p
    settling_full exit y h =
        no_room w (length exit) used at (length p) h s.long
        (let i = set_inside t in let e : size w * sets_in q ≡ size w * 1 = ap (λ (k : ℕ). size w * k) y in omega (arith, i, e, piece_inside t))

    -- where an element has no cell
    pub settling_stops : (left exit : List ℕ) (e : SettleError) → CellSays w p q used special sets exit (Err e) → SettleSays w path p left exit (Err e)
    settling_stops left exit BadClass y = settling_class y
    settling_stops left exit NoRoom y = settling_full exit y.0 y.1

    pub settling_there : count < length cells
    settling_there =
        let f = scale_room w (unit_of w at) (length cells) (omega (arith, s.ended.unit, t.there, s.ended.roomy.room)) in
        omega (arith, f, s.few)

    module _ {exit : List ℕ} {cell : ℕ} {marked : Bool} {next : ℕ} (c : Celled w p q used special sets exit cell marked next) where
      -- the entries beyond the place stay
      ended_on_cells : Ended w path p (set cells count cell) n
      ended_on_cells =
          let e = ended_next t s.ended in
          record {
            roomy = record { room = rw (length-set cells count cell) e.roomy.room; few = rw (length-set cells count cell) e.roomy.few };
            unit = e.unit;
            beyond = λ k b h.
                get_or-set_other cells count k cell 0
                (λ i. let l = scale_less w (unit_of w at) k (omega (arith, s.ended.unit, piece_further t, b)) in omega (arith, l, s.few)) ∙ e.beyond k b h;
          }

      pub settling_step : Settling w path p (set cells count cell) exit n (count + 1) next marked
      settling_step = record {
        ended = ended_on_cells;
        inside = piece_inside t;
        few = counted;
        before = s.before ++ element_of w p q ∷ [];
        whole = s.whole ∙ ap (λ (l : List Element). s.before ++ l) (parted t) ∙ sym (append_assoc s.before (element_of w p q ∷ []) (from w path p n));
        shows = shown;
        served = s.served ∙ class_step t ∙ ap (λ (b : Bool). b || class_from w path p n) c.served;
        marks = s.marks ∙ ap (λ (b : Bool). special || b) (special_step t) ∙ or_both special (is_special q) (active (from w path p n)) c.marks;
        long = let e : size w * next ≡ size w * (used + sets_in q) = ap (λ (k : ℕ). size w * k) c.counts in
            omega (arith, e, scale_add w used (sets_in q), s.long, set_inside t);
        room = c.room;
      }
        where
          counted : count + 1 ≤ unit_of w n
          counted =
              let f = scale_room w (unit_of w at) (unit_of w n) (omega (arith, s.ended.unit, ended_on_cells.unit, piece_further t)) in
              omega (arith, f, s.few)

          taken : take (count + 1) (set cells count cell) ≡ take count cells ++ cell ∷ []
          taken = let e : count + 1 ≡ suc count = omega arith in
              ap (λ (k : ℕ). take k (set cells count cell)) e ∙ take_set count cells cell settling_there

          old : Shows (take (4 * next) exit) (take count cells) s.before
          old = subst (λ (l : List ℕ). Shows l (take count cells) s.before) (sym c.grown) (shown_grown s.shows c.added)

          shown : Shows (take (4 * next) exit) (take (count + 1) (set cells count cell)) (s.before ++ element_of w p q ∷ [])
          shown = subst (λ (l : List ℕ). Shows (take (4 * next) exit) l (s.before ++ element_of w p q ∷ [])) (sym taken)
              (shown_both old (more c.is none))

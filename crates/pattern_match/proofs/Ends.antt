-- Behind the pattern's last star: elements without a star take as many bytes as they are, so that one end of the text alone can match them.
use Prim.Native.Nat.{ℕ, zero, suc, ◌+◌, ◌-◌, ◌≤◌, ◌<◌}
use mathlib.Core.Path.{◌≡◌, refl, sym, ◌∙◌, ap}
use mathlib.Core.Bool.{Bool, true, false, ◌&&◌, ◌||◌}
use mathlib.Core.List.{List, [], ◌∷◌}
use native.Mathlib.Numerals.{add-one}
use native.Mathlib.Omega.{arith}
use lib.Dec.{eqb}
use lib.ListN.{length, take, drop, get_or, length-drop, drop_of_length-le}
use lib.Seq.{drop-cons, drop-drop, get_or-drop}
use borrow.Author.Tests.{eqb-true, eqb-false, eq-eqb, ne_eqb}
use Rattle.stages.proofs.Bools.{no, apart, not_passed, either, and_right}
use Rattle.stages.specs.Bytes.{Text}
use Rattle.stages.specs.Pattern.{Element, passes, some_end, matches_from}
use Rattle.pattern_cell.specs.Cells.{Shows, none, more, is_star_cell, Trails}
use Rattle.pattern_cell.proofs.Showing.{shown_drop}
use Rattle.pattern_match.proofs.Stars.{some_last, some_next}
use Rattle.pattern_match.proofs.Matching.{is_star_lem, step, none_left}
use Rattle.pattern_match.specs.Steps.{is_slash, takes_one, behind_star, all_pass, MeetsStar, RunSays}
use Rattle.pattern_match.specs.declared.Run.{Run}
use Rattle.pattern_match.specs.declared.Run.TheVariants.{Whole, Fails, Star}

-- cells without a star
abbrev Plain : List ℕ → Type 0
Plain cs = (i : ℕ) → i < length cs → is_star_cell (get_or cs i 0) ≡ false

trails_plain : (cells : List ℕ) (at : ℕ) → Trails cells at → Plain (drop at cells)
trails_plain cells at t i h =
    ap (λ (c : ℕ). is_star_cell c) (get_or-drop at cells i 0) ∙ t.plain (at + i) (omega arith) (omega (arith, length-drop at cells))

-- they take as many bytes as they are
takes_length : (path : Bool) {sets : List ℕ} (head first : Bool) {cs : List ℕ} {es : List Element} → Shows sets cs es → Plain cs → (t : Text)
    → matches_from path es head first t ≡ true → length t ≡ length cs
unfolding matches_from
takes_length path head first none p [] y = refl
takes_length path head first none p (b ∷ t) y = absurd (no y)
takes_length path {sets} head first (more {c} {e} {es = es} i s) p [] y =
    absurd (apart (none_left path head first es e (sym (is_star_lem sets c e i) ∙ p 0 (omega arith))) y)
takes_length path {sets} head first (more {c} {e} {es = es} i s) p (b ∷ t) y =
    ap suc (takes_length path (is_slash e) (is_slash e) s (λ j h. p (suc j) (omega arith)) t
    (and_right (takes_one path head first e b) _ (sym (step path head first es b t e (sym (is_star_lem sets c e i) ∙ p 0 (omega arith))) ∙ y)))

and_never : (x : Bool) → (x && false) ≡ false
and_never true = refl
and_never false = refl

and_always : (x : Bool) → (x && true) ≡ x
and_always true = refl
and_always false = refl

or_never : (x : Bool) → (x || false) ≡ x
or_never true = refl
or_never false = refl

and_assoc : (x y z : Bool) → (x && (y && z)) ≡ ((x && y) && z)
and_assoc true y z = refl
and_assoc false y z = refl

-- What is asked holds only for texts of m bytes.
module _ (path : Bool) (F : Bool → Text → Bool) (m : ℕ) (only : (f : Bool) (u : Text) → F f u ≡ true → length u ≡ m) where
  other_length : (f : Bool) (u : Text) → (length u ≡ m → ⊥) → F f u ≡ false
  other_length f u n = not_passed (F f u) λ y. n (only f u y)

  too_short : (first : Bool) (t : Text) → length t < m → some_end path F first t ≡ false
  too_short first [] h = some_last path F first ∙ other_length first [] λ e. omega arith
  too_short first (b ∷ t) h =
      some_next path F first b t ∙ rw (other_length first (b ∷ t) λ e. omega arith, too_short false t (omega arith)) (and_never (passes path first b))

  -- one end alone is left, with g bytes before it
  only_end : (first : Bool) (g : ℕ) (t : Text) → length t ≡ g + m → some_end path F first t ≡
      (all_pass path first (take g t) && F (first && eqb g 0) (drop g t))
  unfolding all_pass
  only_end first zero [] h = some_last path F first ∙ ap (λ (x : Bool). F x []) (sym (and_always first))
  only_end first zero (b ∷ t) h =
      some_next path F first b t ∙ ap (λ (x : Bool). F first (b ∷ t) || (passes path first b && x)) (too_short false t (omega arith))
      ∙ ap (λ (x : Bool). F first (b ∷ t) || x) (and_never (passes path first b)) ∙ or_never (F first (b ∷ t))
      ∙ ap (λ (x : Bool). F x (b ∷ t)) (sym (and_always first))
  only_end first (suc g) [] h = absurd (omega arith)
  only_end first (suc g) (b ∷ t) h =
      some_next path F first b t
      ∙ ap (λ (x : Bool). x || (passes path first b && some_end path F false t)) (other_length first (b ∷ t) λ e. omega arith)
      ∙ ap (λ (x : Bool). passes path first b && x) (only_end false g t (omega arith))
      ∙ and_assoc (passes path first b) (all_pass path false (take g t)) (F false (drop g t))
      ∙ ap (λ (x : Bool). (passes path first b && all_pass path false (take g t)) && F x (drop g t))
      (sym (and_never first) ∙ ap (λ (x : Bool). first && x) (sym (ne_eqb (suc g) 0 λ e. omega arith)))

same_place : (k end : ℕ) → k ≤ end → eqb (end - k) 0 ≡ eqb k end
same_place k end h =
    either (eqb k end) (λ y. eq-eqb (end - k) 0 (omega (arith, eqb-true k end y)) ∙ sym y)
    λ n. ne_eqb (end - k) 0 (λ e. eqb-false k end n (omega arith)) ∙ sym n

-- the cells from `at` on, and the text from k on
module _ {sets cells : List ℕ} {es : List Element} (s : Shows sets cells es) (at : ℕ) (p : Trails cells at) (path first : Bool) (t : Text) (k : ℕ) where
  abbrev asked : Bool → Text → Bool
  asked = λ f u. matches_from path (drop at es) false f u

  only_left : (f : Bool) (u : Text) → asked f u ≡ true → length u ≡ length cells - at
  only_left f u y = takes_length path false f (shown_drop s at) (trails_plain cells at p) u y ∙ length-drop at cells

  pub rest_short : length t - k < length cells - at → behind_star path (drop at es) false first (drop k t) ≡ false
  unfolding behind_star
  rest_short h = too_short path asked (length cells - at) only_left first (drop k t) (omega (arith, length-drop k t))

  module _ (end : ℕ) (h : k ≤ end) (e : end + (length cells - at) ≡ length t) where
    to_end : drop (end - k) (drop k t) ≡ drop end t
    to_end =
        let j : k + (end - k) ≡ end = omega arith in
        drop-drop (end - k) k t ∙ ap (λ (i : ℕ). drop i t) j

    rest_ends : behind_star path (drop at es) false first (drop k t) ≡
        (all_pass path first (take (end - k) (drop k t)) && matches_from path (drop at es) false (first && eqb k end) (drop end t))
    unfolding behind_star
    rest_ends =
        only_end path asked (length cells - at) only_left first (end - k) (drop k t) (omega (arith, length-drop k t))
        ∙ ap (λ (x : Bool). all_pass path first (take (end - k) (drop k t)) && asked (first && x) (drop (end - k) (drop k t))) (same_place k end h)
        ∙ ap (λ (u : Text). all_pass path first (take (end - k) (drop k t)) && asked (first && eqb k end) u) to_end

    -- begins: whether a part of a path starts at that end
    module _ {begins : Bool} (b : begins ≡ (first && eqb k end)) where
      pub rest_matches : matches_from path (drop at es) false begins (drop end t) ≡ true
          → behind_star path (drop at es) false first (drop k t) ≡ all_pass path first (take (end - k) (drop k t))
      rest_matches y = rest_ends ∙ rw (rw b at y) (and_always (all_pass path first (take (end - k) (drop k t))))

      pub rest_fails : matches_from path (drop at es) false begins (drop end t) ≡ false → behind_star path (drop at es) false first (drop k t) ≡ false
      rest_fails n = rest_ends ∙ rw (rw b at n) (and_never (all_pass path first (take (end - k) (drop k t))))

-- from there on no star is met
pub none_met : (path : Bool) (sets cells t : List ℕ) (at k : ℕ) (head first : Bool) {next j : ℕ} {starts : Bool} → Trails cells at
    → MeetsStar path sets cells t at k head first next j starts → ⊥
none_met path sets cells t at k head first {next} p m =
    apart (p.plain (next - 1) (omega (arith, m.further)) (omega (arith, m.further, m.inside))) m.there

-- a run over them that did not match all fails
pub rest_missed : (path : Bool) (sets cells t : List ℕ) (at k : ℕ) (head first : Bool) → Trails cells at → {r : Run}
    → RunSays path sets cells t at k head first r → (r ≡ Whole → ⊥) → (es : List Element) → Shows sets cells es
    → matches_from path (drop at es) head first (drop k t) ≡ false
rest_missed path sets cells t at k head first p {r = Whole} m n es s = absurd (n refl)
rest_missed path sets cells t at k head first p {r = Fails} m n es s = m es s
rest_missed path sets cells t at k head first p {r = Star next j starts} m n es s = absurd (none_met path sets cells t at k head first p m)

-- what a star must take before that end, byte for byte
module _ (path first : Bool) (t : Text) (k : ℕ) where
  pub gap_over : length t ≤ k → all_pass path first (drop k t) ≡ true
  unfolding all_pass
  gap_over h = rw (drop_of_length-le t h)

  gap_next : k < length t → all_pass path first (drop k t) ≡ (passes path first (get_or t k 0) && all_pass path false (drop (k + 1) t))
  unfolding all_pass
  gap_next h = rw (add-one k, drop-cons t k 0 h)

  pub gap_bars : k < length t → passes path first (get_or t k 0) ≡ false → all_pass path first (drop k t) ≡ false
  gap_bars h n = gap_next h ∙ rw n

  pub gap_on : k < length t → passes path first (get_or t k 0) ≡ true → all_pass path first (drop k t) ≡ all_pass path false (drop (k + 1) t)
  gap_on h y = gap_next h ∙ rw y

-- outside paths it may take any byte
pub gap_free : (first : Bool) (t : Text) → all_pass false first t ≡ true
unfolding all_pass passes
gap_free first [] = refl
gap_free first (b ∷ t) = gap_free false t

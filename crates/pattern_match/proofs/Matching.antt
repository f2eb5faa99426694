-- Matching by steps: what one element does with one byte of the text, and what a star does with the ends of the text.
use Prim.Native.Nat.{ℕ, suc, ◌+◌, ◌-◌, ◌≤◌, ◌<◌}
use mathlib.Core.Path.{◌≡◌, refl, sym, ◌∙◌, ap}
use mathlib.Core.Bool.{Bool, true, false, ◌&&◌}
use mathlib.Core.List.{List, [], ◌∷◌}
use native.Mathlib.Numerals.{add-one}
use native.Mathlib.Omega.{arith}
use lib.Dec.{eqb}
use lib.ListN.{length, drop, get_or, drop_of_length-le}
use lib.Seq.{drop-cons}
use borrow.Author.Tests.{eqb-true, ne_eqb}
use Rattle.stages.proofs.Bools.{no, either, same_tests, and_left, and_right}
use Rattle.stages.specs.Bytes.{Text}
use Rattle.stages.specs.Pattern.{Sense, Element, star, one, exactly, set, passes, takes, in_set, some_end, matches_from, matches}
use Rattle.text.specs.Cases.{purpose_of}
use Rattle.pattern_set.specs.Sets.{has}
use Rattle.pattern_cell.specs.Cells.{words_at, one_cell, star_cell, first_set, Is, Shows, is_star_cell}
use Rattle.pattern_cell.proofs.Showing.{shown_length, shown_at}
use Rattle.pattern_match.proofs.Stars.{
  some_last,
  some_next,
  some_here,
  passes_inside,
  passes_other,
  passes_slash,
  passes_unless,
  bars,
  star_star,
  absorbs,
  inside_part,
  some_inside,
}
use Rattle.pattern_match.specs.Steps.{is_star, is_slash, takes_one, Lies, behind_star, Skips, MeetsStar}

-- a pattern by whether it is for paths
pub matches_is : (path : Bool) (es : List Element) (t : Text) → matches_from path es true true t ≡ matches (purpose_of path) es t
unfolding matches
matches_is true es t = refl
matches_is false es t = refl

-- an element that is no star, with a byte
module _ (path head first : Bool) (es : List Element) (b : ℕ) (t : Text) where
  one_step : matches_from path (one ∷ es) head first (b ∷ t) ≡ (passes path first b && matches_from path es false false t)
  unfolding matches_from
  one_step = go (passes path first b)
    where
      go : (x : Bool) → elim x [ true ↦ matches_from path es false false t | false ↦ false ] ≡ (x && matches_from path es false false t)
      go true = refl
      go false = refl

  byte_step : (c : ℕ)
      → matches_from path (exactly c ∷ es) head first (b ∷ t) ≡ (takes path head first c b && matches_from path es (eqb c 47) (eqb c 47) t)
  unfolding matches_from
  byte_step c = go (takes path head first c b)
    where
      go : (x : Bool) → elim x [ true ↦ matches_from path es (eqb c 47) (eqb c 47) t | false ↦ false ] ≡
          (x && matches_from path es (eqb c 47) (eqb c 47) t)
      go true = refl
      go false = refl

  set_step : (n : Sense) (m : List _) → matches_from path (set n m ∷ es) head first (b ∷ t) ≡
      ((passes path first b && in_set n m b) && matches_from path es false false t)
  unfolding matches_from
  set_step n m = go (passes path first b && in_set n m b)
    where
      go : (x : Bool) → elim x [ true ↦ matches_from path es false false t | false ↦ false ] ≡ (x && matches_from path es false false t)
      go true = refl
      go false = refl

  pub step : (e : Element) → is_star e ≡ false
      → matches_from path (e ∷ es) head first (b ∷ t) ≡ (takes_one path head first e b && matches_from path es (is_slash e) (is_slash e) t)
  unfolding takes_one
  step star n = absurd (no (sym n))
  step one n = one_step
  step (exactly c) n = byte_step c
  step (set sense members) n = set_step sense members

-- no byte is left for it
pub none_left : (path head first : Bool) (es : List Element) (e : Element) → is_star e ≡ false → matches_from path (e ∷ es) head first [] ≡ false
unfolding matches_from
none_left path head first es star n = absurd (no (sym n))
none_left path head first es one n = refl
none_left path head first es (exactly c) n = refl
none_left path head first es (set sense members) n = refl

-- what it takes a star may take too, but for a slash of the pattern
takes_passes : (path head first : Bool) (b : ℕ) (e : Element) → is_star e ≡ false → is_slash e ≡ false → takes_one path head first e b ≡ true →
    passes path false b ≡ true
unfolding takes_one takes
takes_passes path head first b star n s y = absurd (no (sym n))
takes_passes path head first b one n s y = passes_inside path first b y
takes_passes path head first b (exactly c) n s y = passes_other path b (rw (eqb-true c b (and_left (eqb c b) _ y)) at s)
takes_passes path head first b (set sense members) n s y = passes_inside path first b (and_left (passes path first b) _ y)

-- a slash of the pattern takes a byte that in paths no star takes
slash_bars : (head first : Bool) (b : ℕ) (e : Element) → is_slash e ≡ true → takes_one true head first e b ≡ true → passes true first b ≡ false
unfolding takes_one takes
slash_bars head first b star s y = absurd (no s)
slash_bars head first b one s y = absurd (no s)
slash_bars head first b (exactly c) s y = passes_slash first b (rw (eqb-true c b (and_left (eqb c b) _ y)) at s)
slash_bars head first b (set sense members) s y = absurd (no s)

-- A star before an element that takes the byte here: whatever it reaches with other places, it reaches if it stands behind this byte.
module _ (path head first : Bool) (es : List Element) (b : ℕ) (u : Text) (e : Element) (n : is_star e ≡ false)
    (y : takes_one path head first e b ≡ true) where
  abbrev Before : Bool → Text → Bool
  Before = λ f v. matches_from path (e ∷ es) head f v

  abbrev Behind : Bool → Text → Bool
  Behind = λ f v. matches_from path es (is_slash e) f v

  at_slash : path ≡ true → is_slash e ≡ true → some_end path Before first (b ∷ u) ≡ true → some_end path Behind (is_slash e) u ≡ true
  at_slash p s z =
      some_here path Behind (is_slash e) u
      (and_right (takes_one path head first e b) _ (sym (step path head first es b u e n) ∙
      (bars (Before first (b ∷ u)) (passes path first b) _ (rw p (slash_bars head first b e s (rw p at y))) (sym (some_next path Before first b u) ∙ z))))

  elsewhere : (path && is_slash e) ≡ false → some_end path Before first (b ∷ u) ≡ true → some_end path Behind (is_slash e) u ≡ true
  elsewhere s z = sym (some_inside es u path (is_slash e) s) ∙ absorbs path Before Behind (λ f. none_left path head f es e n) took first b u z
    where
      took : (f : Bool) (c : ℕ) (v : Text) → Before f (c ∷ v) ≡ true → (passes path false c ≡ true) × (Behind false v ≡ true)
      took f c v w =
          let x = sym (step path head f es c v e n) ∙ w in (
            passes_unless path (is_slash e) c s λ m. takes_passes path head f c e n m (and_left (takes_one path head f e c) _ x),
            sym (inside_part es v path (is_slash e) s) ∙ and_right (takes_one path head f e c) _ x,
          )

  pub star_on : some_end path Before first (b ∷ u) ≡ true → some_end path Behind (is_slash e) u ≡ true
  star_on z = either (path && is_slash e) (λ s. at_slash (and_left path (is_slash e) s) (and_right path (is_slash e) s) z) λ s. elsewhere s z

-- a star
met : (path head first : Bool) (es : List Element) (t : Text) (e : Element) → is_star e ≡ true
    → matches_from path (e ∷ es) head first t ≡ behind_star path es false first t
unfolding matches_from behind_star
met path head first es t star y = refl
met path head first es t one y = absurd (no y)
met path head first es t (exactly c) y = absurd (no y)
met path head first es t (set sense members) y = absurd (no y)

again : (path head first : Bool) (es : List Element) (t : Text) (e : Element) → is_star e ≡ true
    → some_end path (λ f u. matches_from path (e ∷ es) head f u) first t ≡ true
    → some_end path (λ f u. some_end path (λ g v. matches_from path es false g v) f u) first t ≡ true
unfolding matches_from
again path head first es t star y z = z
again path head first es t one y z = absurd (no y)
again path head first es t (exactly c) y z = absurd (no y)
again path head first es t (set sense members) y z = absurd (no y)

-- What a cell says of its element: a star, a slash, a set in the table ..
module _ (sets : List ℕ) (c : ℕ) where
  pub is_star_lem : (e : Element) → Is sets c e → is_star_cell c ≡ is_star e
  is_star_lem star i = rw i
  is_star_lem one i = rw i
  is_star_lem (exactly b) i = ne_eqb c star_cell λ h. absurd (omega (arith, i))
  is_star_lem (set sense members) i = ne_eqb c star_cell λ h. absurd (omega (arith, i.from))

  is_slash_lem : (e : Element) → Is sets c e → eqb c 47 ≡ is_slash e
  is_slash_lem star i = rw i
  is_slash_lem one i = rw i
  is_slash_lem (exactly b) i = rw i.0
  is_slash_lem (set sense members) i = ne_eqb c 47 λ h. absurd (omega (arith, i.from))

  is_inside : (e : Element) → Is sets c e → Lies sets c
  is_inside star i h = absurd (omega arith)
  is_inside one i h = absurd (omega arith)
  is_inside (exactly b) i h = absurd (omega (arith, i))
  is_inside (set sense members) i h = i.inside

  -- .. and what it takes
  module _ (path head first : Bool) (b : ℕ) where
    pub byte_takes : c < one_cell → (e : Element) → Is sets c e → takes path head first c b ≡ takes_one path head first e b
    unfolding takes_one
    byte_takes h star i = absurd (omega arith)
    byte_takes h one i = absurd (omega arith)
    byte_takes h (exactly x) i = rw i.0
    byte_takes h (set sense members) i = absurd (omega (arith, i.from))

    pub set_takes : first_set ≤ c → b < 256 → (e : Element) → Is sets c e → (passes path first b && has (drop (words_at c) sets) b) ≡ takes_one path
        head first e b
    unfolding takes_one
    set_takes h l star i = absurd (omega arith)
    set_takes h l one i = absurd (omega arith)
    set_takes h l (exactly x) i = absurd (omega (arith, i))
    set_takes h l (set sense members) i = ap (λ (x : Bool). passes path first b && x) (i.same b l)

    pub star_takes_none : c ≡ star_cell → (e : Element) → Is sets c e → false ≡ takes_one path head first e b
    unfolding takes_one
    star_takes_none h star i = refl
    star_takes_none h one i = absurd (omega arith)
    star_takes_none h (exactly x) i = absurd (omega (arith, i))
    star_takes_none h (set sense members) i = absurd (omega (arith, i.from))

    pub one_takes : one_cell ≤ c → c < first_set → (c ≡ star_cell → ⊥) → (e : Element) → Is sets c e → passes path first b ≡ takes_one path head first e b
    unfolding takes_one
    one_takes l h n star i = absurd (n i)
    one_takes l h n one i = refl
    one_takes l h n (exactly x) i = absurd (omega (arith, i))
    one_takes l h n (set sense members) i = absurd (omega (arith, i.from))

takes_other : (path head first : Bool) (c b : ℕ) → eqb c b ≡ false → takes path head first c b ≡ false
unfolding takes
takes_other path head first c b n = rw n

-- the element at a place
module _ {sets cells : List ℕ} {es : List Element} (s : Shows sets cells es) (at : ℕ) (h : at < length cells) where
  abbrev cell : ℕ
  cell = get_or cells at 0

  abbrev element : Element
  element = (shown_at s at h).element

  abbrev rest : List Element
  rest = drop (at + 1) es

  pub cell_lies : Lies sets cell
  cell_lies = is_inside sets cell element (shown_at s at h).is

  parted : drop at es ≡ element ∷ rest
  parted = rw (add-one at) (shown_at s at h).rest

  star_is : is_star_cell cell ≡ is_star element
  star_is = is_star_lem sets cell element (shown_at s at h).is

  slash_is : eqb cell 47 ≡ is_slash element
  slash_is = is_slash_lem sets cell element (shown_at s at h).is

  -- behind a star it takes no other byte, where it is a byte: so no end of the text that begins with one need be looked at
  pub skip_reach : (path first : Bool) (t : Text) {since k : ℕ} → Skips path first cell t since k
      → behind_star path (drop at es) false first (drop since t) ≡ behind_star path (drop at es) false first (drop k t)
  unfolding behind_star
  skip_reach path first t j = j.reach (λ f u. matches_from path (drop at es) false f u) other
    where
      other : (begins : Bool) (b : ℕ) (u : Text) → cell < one_cell → eqb cell b ≡ false → matches_from path (drop at es) false begins (b ∷ u) ≡ false
      other begins b u l n =
          ap (λ (x : List Element). matches_from path x false begins (b ∷ u)) parted
          ∙ step path false begins rest b u element (sym star_is ∙ ne_eqb cell star_cell λ e. absurd (omega arith))
          ∙ rw (sym (byte_takes sets cell path false begins b l element (shown_at s at h).is) ∙ takes_other path false begins cell b n)

  -- what the run does there with the text from k on
  module _ (path head first : Bool) (t : Text) (k : ℕ) where
    abbrev running : Bool
    running = matches_from path (drop at es) head first (drop k t)

    seen : running ≡ matches_from path (element ∷ rest) head first (drop k t)
    seen = ap (λ (l : List Element). matches_from path l head first (drop k t)) parted

    pub run_star : is_star_cell cell ≡ true → running ≡ behind_star path rest false first (drop k t)
    run_star y = seen ∙ met path head first rest (drop k t) element (sym star_is ∙ y)

    -- and had a star stood there
    star_seen : behind_star path (drop at es) head first (drop k t) ≡ some_end path (λ f u. matches_from path (element ∷ rest) head f u) first (drop k t)
    unfolding behind_star
    star_seen = ap (λ (l : List Element). some_end path (λ f u. matches_from path l head f u) first (drop k t)) parted

    pub star_met : is_star_cell cell ≡ true → behind_star path (drop at es) head first (drop k t) ≡ true → behind_star path rest false first (drop k t) ≡ true
    unfolding behind_star
    star_met y z =
        star_star path (λ f u. matches_from path rest false f u) first (drop k t)
        (again path head first rest (drop k t) element (sym star_is ∙ y) (sym star_seen ∙ z))

    module _ (n : is_star_cell cell ≡ false) where
      pub run_short : length t ≤ k → running ≡ false
      run_short l =
          seen ∙ ap (λ (u : Text). matches_from path (element ∷ rest) head first u) (drop_of_length-le t l)
          ∙ none_left path head first rest element (sym star_is ∙ n)

      -- x is whether it takes the byte at k
      module _ (l : k < length t) {x : Bool} (says : (e : Element) → Is sets cell e → x ≡ takes_one path head first e (get_or t k 0)) where
        taken : x ≡ takes_one path head first element (get_or t k 0)
        taken = says element (shown_at s at h).is

        stepped : running ≡
            (takes_one path head first element (get_or t k 0) && matches_from path rest (is_slash element) (is_slash element) (drop (k + 1) t))
        stepped =
            seen ∙ ap (λ (u : Text). matches_from path (element ∷ rest) head first u) (drop-cons t k 0 l)
            ∙ rw (add-one k) (step path head first rest (get_or t k 0) (drop (suc k) t) element (sym star_is ∙ n))

        pub run_fails : x ≡ false → running ≡ false
        run_fails y = stepped ∙ rw (sym taken ∙ y)

        pub run_takes : x ≡ true → running ≡ matches_from path rest (eqb cell 47) (eqb cell 47) (drop (k + 1) t)
        run_takes y = stepped ∙ rw (sym taken ∙ y, sym slash_is)

        pub star_takes : x ≡ true → behind_star path (drop at es) head first (drop k t) ≡ true → behind_star path rest (eqb cell 47) (eqb cell 47)
            (drop (k + 1) t) ≡ true
        unfolding behind_star
        star_takes y z =
            rw (slash_is, add-one k) (star_on path head first rest (get_or t k 0) (drop (suc k) t) element (sym star_is ∙ n) (sym taken ∙ y)
            (rw (drop-cons t k 0 l) at (sym star_seen ∙ z)))

-- behind the last element
module _ {sets cells : List ℕ} {es : List Element} (s : Shows sets cells es) (at : ℕ) (h : length cells ≤ at) where
  over : drop at es ≡ []
  over = drop_of_length-le es {i = at} (omega (arith, shown_length s))

  module _ (path head first : Bool) (t : Text) (k : ℕ) where
    pub run_left : k < length t → matches_from path (drop at es) head first (drop k t) ≡ false
    unfolding matches_from
    run_left l = rw (over, drop-cons t k 0 l)

    pub run_whole : length t ≤ k → matches_from path (drop at es) head first (drop k t) ≡ true
    unfolding matches_from
    run_whole l = rw (over, drop_of_length-le t l)

-- behind a star the ends of the text, one after the other
module _ (path : Bool) (rest : List Element) (first : Bool) (t : Text) (k : ℕ) where
  abbrev ending : Bool → Text → Bool
  ending = λ f u. matches_from path rest false f u

  abbrev here : Bool
  here = matches_from path rest false first (drop k t)

  pub end_matches : here ≡ true → behind_star path rest false first (drop k t) ≡ true
  unfolding behind_star
  end_matches y = some_here path ending first (drop k t) y

  pub end_last : here ≡ false → length t ≤ k → behind_star path rest false first (drop k t) ≡ false
  unfolding behind_star
  end_last n l = rw (drop_of_length-le t l) (some_last path ending first ∙ rw (drop_of_length-le t l) at n)

  pub end_bars : here ≡ false → k < length t → passes path first (get_or t k 0) ≡ false → behind_star path rest false first (drop k t) ≡ false
  unfolding behind_star
  end_bars n l y = rw (drop-cons t k 0 l) (some_next path ending first (get_or t k 0) (drop (suc k) t) ∙ rw (rw (drop-cons t k 0 l) at n, y))

  pub end_on : here ≡ false → k < length t → passes path first (get_or t k 0) ≡ true
      → behind_star path rest false first (drop k t) ≡ behind_star path rest false false (drop (k + 1) t)
  unfolding behind_star
  end_on n l y = rw (add-one k) (rw (drop-cons t k 0 l) (some_next path ending first (get_or t k 0) (drop (suc k) t) ∙ rw (rw (drop-cons t k 0 l) at n, y)))

-- a byte that differs is skipped
module _ (path first : Bool) (cell : ℕ) (t : Text) (since : ℕ) where
  pub skip_on : {k : ℕ} → Skips path first cell t since k → first ≡ false → cell < one_cell → k < length t → eqb cell (get_or t k 0) ≡ false
      → passes path first (get_or t k 0) ≡ true → Skips path first cell t since (k + 1)
  skip_on {k} j e h l n y = record { reach = reached; beyond = omega (arith, j.beyond); within = omega arith }
    where
      reached : (f : Bool → Text → Bool) → ((begins : Bool) (b : ℕ) (u : Text) → cell < one_cell → eqb cell b ≡ false → f begins (b ∷ u) ≡ false)
          → some_end path f first (drop since t) ≡ some_end path f first (drop (k + 1) t)
      reached f o =
          j.reach f o ∙ ap (λ (u : Text). some_end path f first u) (drop-cons t k 0 l)
          ∙ some_next path f first (get_or t k 0) (drop (suc k) t)
          ∙ rw (o first (get_or t k 0) (drop (suc k) t) h n, y)
          (ap (λ (x : Bool). some_end path f x (drop (suc k) t)) (sym e) ∙ ap (λ (i : ℕ). some_end path f first (drop i t)) (sym (add-one k)))

-- the star that a run meets stands before the place that it gives
pub star_there : (cells : List ℕ) (at : ℕ) → is_star_cell (get_or cells at 0) ≡ true → is_star_cell (get_or cells (at + 1 - 1) 0) ≡ true
star_there cells at y =
    let e : at + 1 - 1 ≡ at = omega arith in
    ap (λ (i : ℕ). is_star_cell (get_or cells i 0)) e ∙ y

-- a star behind a star becomes the last one
pub last_star : (path : Bool) (sets cells t : List ℕ) (at k : ℕ) (first : Bool) {next j : ℕ} {starts : Bool}
    → MeetsStar path sets cells t at k false first next j starts → (es : List Element) → Shows sets cells es
    → behind_star path (drop at es) false first (drop k t) ≡ behind_star path (drop next es) false starts (drop j t)
last_star path sets cells t at k first {next} {j} {starts} m es s =
    same_tests (behind_star path (drop at es) false first (drop k t)) (behind_star path (drop next es) false starts (drop j t)) (m.keeps es s)
    λ z. end_matches path (drop at es) first t k (m.says es s ∙ z)

-- The last star is enough: whatever an earlier star can reach with other places, the later one reaches from where it was met.
use Prim.Native.Nat.{ℕ}
use mathlib.Core.Path.{◌≡◌, refl, sym, ◌∙◌, ap}
use mathlib.Core.Bool.{Bool, true, false, ◌&&◌, ◌||◌, not}
use mathlib.Core.List.{List, [], ◌∷◌}
use lib.Dec.{eqb}
use Rattle.stages.proofs.Bools.{no, apart, and_left, and_right, or_right, and_both}
use Rattle.stages.specs.Bytes.{Text}
use Rattle.stages.specs.Pattern.{Element, star, one, exactly, set, passes, takes, some_end, matches_from}

abbrev Rest : Type 0
Rest = Bool → Text → Bool

ways : {P : Type 0} (x y z : Bool) → (x || (y && z)) ≡ true → (x ≡ true → P) → (y ≡ true → z ≡ true → P) → P
ways true y z e f g = f refl
ways false y z e f g = g (and_left y z e) (and_right y z e)

pub bars : (x y z : Bool) → y ≡ false → (x || (y && z)) ≡ true → x ≡ true
bars true y z n e = refl
bars false y z n e = absurd (apart n (and_left y z e))

-- the ends of a text, one after the other
module _ (path : Bool) (F : Rest) (first : Bool) where
  pub some_last : some_end path F first [] ≡ F first []
  unfolding some_end
  some_last = refl

  pub some_next : (b : ℕ) (t : Text) → some_end path F first (b ∷ t) ≡ (F first (b ∷ t) || (passes path first b && some_end path F false t))
  unfolding some_end
  some_next b t = go (F first (b ∷ t)) (passes path first b)
    where
      go : (x y : Bool) → elim x [ true ↦ true | false ↦ elim y [ true ↦ some_end path F false t | false ↦ false ] ] ≡
          (x || (y && some_end path F false t))
      go true y = refl
      go false true = refl
      go false false = refl

  pub some_here : (t : Text) → F first t ≡ true → some_end path F first t ≡ true
  some_here [] y = some_last ∙ y
  some_here (b ∷ t) y = some_next b t ∙ rw y

  some_later : (b : ℕ) (t : Text) → passes path first b ≡ true → some_end path F false t ≡ true → some_end path F first (b ∷ t) ≡ true
  some_later b t y z = some_next b t ∙ or_right (F first (b ∷ t)) (and_both y z)

  -- the ways to pass
  some_cases : {P : Type 0} (b : ℕ) (t : Text) → some_end path F first (b ∷ t) ≡ true
      → (F first (b ∷ t) ≡ true → P) → (passes path first b ≡ true → some_end path F false t ≡ true → P) → P
  some_cases b t y f g = ways (F first (b ∷ t)) (passes path first b) (some_end path F false t) (sym (some_next b t) ∙ y) f g

-- what a star may take at a part's start it may take anywhere in the part
pub passes_inside : (path first : Bool) (b : ℕ) → passes path first b ≡ true → passes path false b ≡ true
unfolding passes
passes_inside false first b y = refl
passes_inside true first b y = and_both (and_left (not (eqb b 47)) _ y) refl

-- a byte that is no slash
pub passes_other : (path : Bool) (b : ℕ) → eqb b 47 ≡ false → passes path false b ≡ true
unfolding passes
passes_other false b n = refl
passes_other true b n = rw n

pub passes_slash : (first : Bool) (b : ℕ) → eqb b 47 ≡ true → passes true first b ≡ false
unfolding passes
passes_slash first b y = rw y

pub passes_unless : (path x : Bool) (b : ℕ) → (path && x) ≡ false → (x ≡ false → passes path false b ≡ true) → passes path false b ≡ true
unfolding passes
passes_unless false x b n h = refl
passes_unless true x b n h = h n

-- a star right behind a star reaches no more
pub star_star : (path : Bool) (F : Rest) (first : Bool) (t : Text) → some_end path (λ f u. some_end path F f u) first t ≡ true → some_end path F
    first t ≡ true
star_star path F first [] y = sym (some_last path (λ f u. some_end path F f u) first) ∙ y
star_star path F first (b ∷ t) y =
    some_cases path (λ f u. some_end path F f u) first b t y (λ z. z) λ p z. some_later path F first b t p (star_star path F false t z)

-- A star with an element of one byte behind it, and then what F asks: the star may take that byte too.
module _ (path : Bool) (F G : Rest) (ends : (f : Bool) → F f [] ≡ false)
    (taken : (f : Bool) (b : ℕ) (u : Text) → F f (b ∷ u) ≡ true → (passes path false b ≡ true) × (G false u ≡ true)) where
  front_passes : (first : Bool) (b : ℕ) (t : Text) → some_end path F first (b ∷ t) ≡ true → passes path false b ≡ true
  front_passes first b t y = some_cases path F first b t y (λ z. (taken first b t z).0) λ p z. passes_inside path first b p

  pub absorbs : (first : Bool) (b : ℕ) (t : Text) → some_end path F first (b ∷ t) ≡ true → some_end path G false t ≡ true
  absorbs first b [] y =
      some_cases path F first b [] y (λ z. some_here path G false [] (taken first b [] z).1) λ p z. absurd
      (apart (ends false) (sym (some_last path F false) ∙ z))
  absorbs first b (c ∷ t) y =
      some_cases path F first b (c ∷ t) y (λ z. some_here path G false (c ∷ t) (taken first b (c ∷ t) z).1)
      λ p z. some_later path G false c t (front_passes false c t z) (absorbs false c t z)

-- where the text is no path, a part's start is nothing special
some_loose : (F : Rest) → ((f g : Bool) (u : Text) → F f u ≡ F g u) → (f g : Bool) (t : Text) → some_end false F f t ≡ some_end false F g t
unfolding some_end passes
some_loose F h f g [] = h f g []
some_loose F h f g (b ∷ t) =
    some_next false F f b t ∙ ap (λ (x : Bool). x || some_end false F false t) (h f g (b ∷ t)) ∙ sym (some_next false F g b t)

loose : (es : List Element) (head h first f : Bool) (t : Text) → matches_from false es head first t ≡ matches_from false es h f t
unfolding matches_from passes takes
loose [] head h first f [] = refl
loose [] head h first f (b ∷ t) = refl
loose (star ∷ es) head h first f t = some_loose (λ x u. matches_from false es false x u) (λ x y u. loose es false false x y u) first f t
loose (one ∷ es) head h first f [] = refl
loose (one ∷ es) head h first f (b ∷ t) = refl
loose (exactly c ∷ es) head h first f [] = refl
loose (exactly c ∷ es) head h first f (b ∷ t) = refl
loose (set n m ∷ es) head h first f [] = refl
loose (set n m ∷ es) head h first f (b ∷ t) = refl

-- behind an element that is no slash of a path, no part starts
module _ (es : List Element) (t : Text) where
  pub inside_part : (path x : Bool) → (path && x) ≡ false → matches_from path es x x t ≡ matches_from path es x false t
  inside_part false x n = loose es x x x false t
  inside_part true false n = refl
  inside_part true true n = absurd (no (sym n))

  pub some_inside : (path x : Bool) → (path && x) ≡ false
      → some_end path (λ f u. matches_from path es x f u) false t ≡ some_end path (λ f u. matches_from path es x f u) x t
  some_inside false x n = some_loose (λ f u. matches_from false es x f u) (λ f g u. loose es x x f g u) false x t
  some_inside true false n = refl
  some_inside true true n = absurd (no (sym n))

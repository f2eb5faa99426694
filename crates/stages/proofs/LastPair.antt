-- Document 02, E13: a text matches a pattern just if the last pair is reached, of the pattern's end and the text's.
use Prim.Native.Nat.{ℕ, zero, suc, ◌≤◌, ◌<◌}
use native.Mathlib.Omega.{arith}
use mathlib.Core.Path.{◌≡◌, refl, sym, ◌∙◌, ap}
use mathlib.Core.Bool.{Bool, true, false, ◌&&◌, ◌||◌}
use mathlib.Core.List.{List, [], ◌∷◌}
use lib.Dec.{eqb}
use lib.ListN.{length, drop, get_or, length-drop}
use lib.Seq.{drop-cons, drop-length}
use Rattle.stages.proofs.Bools.{no, either, and_left, and_right, and_both, or_left, or_right, same_tests}
use Rattle.stages.specs.Bytes.{Text}
use Rattle.stages.specs.Pattern.{Element, star, one, exactly, set, some_end, for_removal, matches_from, matches, takes, passes, in_set}
use Rattle.stages.specs.Cost.{is_star, matches_byte, At, first, later, start, reaches}
use Rattle.stages.proofs.Reaching.{Closed, along, behind, reached_closed, reaches_sound, reaches_complete}

-- the bytes from a place on
uncons : (t : Text) (k b : ℕ) (u : Text) → drop k t ≡ b ∷ u → (k < length t) × (get_or t k 0 ≡ b) × (drop (suc k) t ≡ u)
uncons [] zero b u e = absurd (let z : ◌≡◌ {A = ℕ} 0 1 = ap length e ∙ cc in omega arith)
uncons [] (suc k) b u e = absurd (let z : ◌≡◌ {A = ℕ} 0 1 = ap length e ∙ cc in omega arith)
uncons (c ∷ t) zero b u e = (omega arith, cc, cc)
uncons (c ∷ t) (suc k) b u e = let r = uncons t k b u e in (omega (arith, r.0), r.1, r.2)

no_bytes : (t : Text) (k : ℕ) → k ≤ length t → drop k t ≡ [] → k ≡ length t
no_bytes t k l e = omega (arith, length-drop k t, ap length e)

-- a star's ends, one after the other
ends_next : (F : Bool → Text → Bool) (f : Bool) (b : ℕ) (u : Text) → some_end false F f (b ∷ u) ≡ (F f (b ∷ u) || some_end false F false u)
unfolding some_end passes
ends_next F f b u = go (F f (b ∷ u))
  where
    go : (x : Bool) → ◌≡◌ {A = Bool} (elim x [ true ↦ true | false ↦ some_end false F false u ]) (x || some_end false F false u)
    go true = refl
    go false = refl

ends_here_lem : (F : Bool → Text → Bool) (f : Bool) (u : Text) → F f u ≡ true → some_end false F f u ≡ true
unfolding some_end
ends_here_lem F f [] m = m
ends_here_lem F f (b ∷ u) m = ends_next F f b u ∙ or_left (some_end false F false u) m

ends_later : (F : Bool → Text → Bool) (f : Bool) (b : ℕ) (u : Text) → some_end false F false u ≡ true → some_end false F f (b ∷ u) ≡ true
ends_later F f b u m = ends_next F f b u ∙ or_right (F f (b ∷ u)) m

ends_cases : (F : Bool → Text → Bool) (f : Bool) (b : ℕ) (u : Text) → some_end false F f (b ∷ u) ≡ true → F f (b ∷ u) ≡ false → some_end false F false u ≡ true
ends_cases F f b u m n = sym (rw n) ∙ sym (ends_next F f b u) ∙ m

-- where no path is meant, neither the pattern's place nor the text's has a say
ends_same : (F G : Bool → Text → Bool) → ((f g : Bool) (u : Text) → F f u ≡ G g u) → (f g : Bool) (u : Text) → some_end false F f u ≡ some_end false G g u
unfolding some_end passes
ends_same F G e f g [] = e f g []
ends_same F G e f g (b ∷ u) =
    ends_next F f b u ∙ ap (λ (x : Bool). x || some_end false F false u) (e f g (b ∷ u)) ∙ ap (λ (y : Bool). G g (b ∷ u) || y) (ends_same F G e false false u)
    ∙ sym (ends_next G g b u)

free : (es : List Element) (h x f y : Bool) (u : Text) → matches_from false es h f u ≡ matches_from false es x y u
unfolding matches_from passes takes
free [] h x f y [] = refl
free [] h x f y (b ∷ u) = refl
free (star ∷ es) h x f y u =
    ends_same (λ f u. matches_from false es false f u) (λ f u. matches_from false es false f u) (λ f g u. free es false false f g u) f y u
free (one ∷ es) h x f y [] = refl
free (one ∷ es) h x f y (b ∷ u) = refl
free (exactly c ∷ es) h x f y [] = refl
free (exactly c ∷ es) h x f y (b ∷ u) = refl
free (set sense members ∷ es) h x f y [] = refl
free (set sense members ∷ es) h x f y (b ∷ u) = refl

abbrev whole : List Element → Text → Bool
whole es u = matches_from false es true true u

-- an element that is no star, with a byte
gate : (x : Bool) (m n : Bool) → m ≡ n → ◌≡◌ {A = Bool} (elim x [ true ↦ m | false ↦ false ]) (x && n)
gate true m n e = e
gate false m n e = refl

and-true : (x : Bool) → (x && true) ≡ x
and-true true = refl
and-true false = refl

element_step : (e : Element) (es : List Element) (b : ℕ) (u : Text) → is_star e ≡ false → whole (e ∷ es) (b ∷ u) ≡ (matches_byte e b && whole es u)
unfolding matches_from matches_byte passes takes
element_step star es b u n = absurd (no (sym n))
element_step one es b u n = free es false true false true u
element_step (exactly c) es b u n =
    gate (eqb c b && true) (matches_from false es (eqb c 47) (eqb c 47) u) (whole es u) (free es (eqb c 47) true (eqb c 47) true u)
    ∙ ap (λ (x : Bool). x && whole es u) (and-true (eqb c b))
element_step (set sense members) es b u n = gate (in_set sense members b) (matches_from false es false false u) (whole es u) (free es false true false true u)

not_star : (e : Element) (b : ℕ) → matches_byte e b ≡ true → is_star e ≡ false
unfolding matches_byte
not_star star b y = absurd (no y)
not_star one b y = refl
not_star (exactly c) b y = refl
not_star (set sense members) b y = refl

by_element : (e : Element) (es : List Element) (b : ℕ) (u : Text) → matches_byte e b ≡ true → whole es u ≡ true → whole (e ∷ es) (b ∷ u) ≡ true
by_element e es b u y m = element_step e es b u (not_star e b y) ∙ and_both y m

of_element : (e : Element) (es : List Element) (b : ℕ) (u : Text) → is_star e ≡ false → whole (e ∷ es) (b ∷ u) ≡ true
    → (matches_byte e b ≡ true) × (whole es u ≡ true)
of_element e es b u n m =
    let x = sym (element_step e es b u n) ∙ m in (and_left (matches_byte e b) (whole es u) x, and_right (matches_byte e b) (whole es u) x)

-- "in the removals' sense": an element matches a byte if as a pattern it matches the text of that byte
pub matches_byte_lem : (e : Element) (b : ℕ) → is_star e ≡ false → matches_byte e b ≡ matches for_removal (e ∷ []) (b ∷ [])
unfolding matches matches_from
matches_byte_lem e b n = sym (element_step e [] b [] n ∙ and-true (matches_byte e b))

no_element : (e : Element) (es : List Element) → is_star e ≡ false → whole (e ∷ es) [] ≡ true → ⊥
unfolding matches_from
no_element star es n m = no (sym n)
no_element one es n m = no m
no_element (exactly c) es n m = no m
no_element (set sense members) es n m = no m

-- a star
abbrev rest : List Element → Bool → Text → Bool
rest es f u = matches_from false es false f u

star_here : (es : List Element) (u : Text) → whole es u ≡ true → whole (star ∷ es) u ≡ true
unfolding matches_from
star_here es u m = ends_here_lem (rest es) true u (free es false true true true u ∙ m)

star_later : (es : List Element) (b : ℕ) (u : Text) → whole (star ∷ es) u ≡ true → whole (star ∷ es) (b ∷ u) ≡ true
unfolding matches_from
star_later es b u m = ends_later (rest es) true b u (free (star ∷ es) true true false true u ∙ m)

star_or : (es : List Element) (b : ℕ) (u : Text) → whole (star ∷ es) (b ∷ u) ≡ true → whole es (b ∷ u) ≡ false → whole (star ∷ es) u ≡ true
unfolding matches_from
star_or es b u m n = free (star ∷ es) true true true false u ∙ ends_cases (rest es) true b u m (free es false true true true (b ∷ u) ∙ n)

star_none : (es : List Element) → whole (star ∷ es) [] ≡ true → whole es [] ≡ true
unfolding matches_from some_end
star_none es m = free es true false true true [] ∙ m

-- a text that matches leads to the last pair
module _ (t : Text) where
  star_leads : {es : List Element} {P : ℕ → ℕ → Type 0} → Closed (star ∷ es) t P → {R : Type 0}
      → ((k : ℕ) → k ≤ length t → P 1 k → whole es (drop k t) ≡ true → R)
      → (u : Text) (k : ℕ) → k ≤ length t → drop k t ≡ u → P 0 k → whole (star ∷ es) u ≡ true → R
  star_leads {es} c r [] k l d p m = r k l (c.goes_past first p) (rw d (star_none es m))
  star_leads {es} c r (b ∷ u) k l d p m =
      let q = uncons t k b u d in
      either (whole es (b ∷ u)) (λ y. r k l (c.goes_past first p) (rw d y))
      λ n. star_leads c r u (suc k) q.0 q.2 (c.goes_over first q.0 p) (star_or es b u m n)

  other_leads : (e : Element) {es : List Element} {P : ℕ → ℕ → Type 0} → Closed (e ∷ es) t P → is_star e ≡ false → {R : Type 0}
      → ((k : ℕ) → k ≤ length t → P 1 k → whole es (drop k t) ≡ true → R)
      → (u : Text) (k : ℕ) → k ≤ length t → drop k t ≡ u → P 0 k → whole (e ∷ es) u ≡ true → R
  other_leads e {es} c n r [] k l d p m = absurd (no_element e es n m)
  other_leads e {es} c n r (b ∷ u) k l d p m =
      let q = uncons t k b u d in
      let x = of_element e es b u n m in
      r (suc k) q.0 (c.goes_both first q.0 (rw q.1 x.0) p) (rw q.2 x.1)

  none_leads : (P : ℕ → ℕ → Type 0) (u : Text) (k : ℕ) → k ≤ length t → drop k t ≡ u → P 0 k → whole [] u ≡ true → P 0 (length t)
  unfolding matches_from
  none_leads P [] k l d p m = rw (no_bytes t k l d) at p
  none_leads P (b ∷ u) k l d p m = absurd (no m)

  leads : (es : List Element) {P : ℕ → ℕ → Type 0} → Closed es t P → (k : ℕ) → k ≤ length t → P 0 k → whole es (drop k t) ≡ true
      → P (length es) (length t)
  leads [] {P} c k l p m = none_leads P (drop k t) k l refl p m
  leads (star ∷ es) {P} c k l p m = star_leads c (λ q b x y. leads es {P = λ i j. P (suc i) j} (behind c) q b x y) (drop k t) k l refl p m
  leads (one ∷ es) {P} c k l p m = other_leads one c refl (λ q b x y. leads es {P = λ i j. P (suc i) j} (behind c) q b x y) (drop k t) k l refl p m
  leads (exactly a ∷ es) {P} c k l p m =
      other_leads (exactly a) c refl (λ q b x y. leads es {P = λ i j. P (suc i) j} (behind c) q b x y) (drop k t) k l refl p m
  leads (set sense members ∷ es) {P} c k l p m =
      other_leads (set sense members) c refl (λ q b x y. leads es {P = λ i j. P (suc i) j} (behind c) q b x y) (drop k t) k l refl p m

-- and the last pair leads to no text that does not match
at_drop : {es : List Element} {i : ℕ} {e : Element} → At es i e → drop i es ≡ e ∷ drop (suc i) es
at_drop first = refl
at_drop (later a) = at_drop a

matching_closed : (es : List Element) (t : Text) → Closed es t (λ i j. whole (drop i es) (drop j t) ≡ true → whole es t ≡ true)
matching_closed es t = record {
  goes_past = λ {i} {j} a k m. k (rw (at_drop a) (star_here (drop (suc i) es) (drop j t) m));
  goes_over = λ {i} {j} a l k m. k (rw (at_drop a, drop-cons t j 0 l) (star_later (drop (suc i) es) (get_or t j 0) (drop (suc j) t) (rw (at_drop a) at m)));
  goes_both = λ {i} {j} {e} a l y k m. k (rw (at_drop a, drop-cons t j 0 l) (by_element e (drop (suc i) es) (get_or t j 0) (drop (suc j) t) y m));
}

ended : (es : List Element) (t : Text) → whole (drop (length es) es) (drop (length t) t) ≡ true
unfolding matches_from
ended es t = rw (drop-length es, drop-length t)

pub matches_reached : (es : List Element) (t : Text) → matches for_removal es t ≡ reaches es t (length es) (length t)
unfolding matches
matches_reached es t =
    same_tests (whole es t) (reaches es t (length es) (length t))
    (λ m. reaches_complete es t (leads t es (reached_closed es t) 0 (omega arith) start m))
    λ m. along (matching_closed es t) (λ k. k) (reaches_sound es t (length es) (length t) (omega arith) m) (ended es t)

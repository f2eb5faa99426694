-- Document 02, E13, by the calls: which number comes, what every answer has, and calls that compute.
use Prim.Native.Nat.{ℕ, ◌+◌, ◌*◌, ◌≤◌}
use Prim.Native.String.{String}
use native.Mathlib.Omega.{arith}
use mathlib.Core.Path.{◌≡◌, refl}
use mathlib.Core.Bool.{Bool, true, false, ◌&&◌}
use mathlib.Core.List.{List, [], ◌∷◌}
use lib.Dec.{eqb, leb}
use lib.ListN.{length, replicate}
use Rattle.stages.specs.Numbers.{accepted, work_too_small, too_many_units, bracket_class, work_least}
use Rattle.stages.specs.Bytes.{text}
use Rattle.stages.specs.Outcome.{refused, done, Placed, refused_at, demands_at, done_at}
use Rattle.stages.specs.Units.{L, Row, marked}
use Rattle.stages.specs.Pattern.{Element, Purpose, is_for_paths, for_removal, signs, elements, has_class, pattern}
use Rattle.stages.specs.Call.{cleared}
use Rattle.stages.specs.Cost.{Costing, Costed, reachable, is_small, pairs_of, costed, coster}
use Rattle.stages.proofs.Bools.{either}
use Rattle.stages.proofs.Reaching.{reachable_most}

-- A PATTERN, by whether it has a class that is not served

pub pattern_refused : (purpose : Purpose) (r : Row) → has_class (is_for_paths purpose) 0 (signs r) ≡ true → pattern purpose r ≡ refused bracket_class
unfolding pattern
pattern_refused purpose r y = rw (y, pattern)

pub pattern_done : (purpose : Purpose) (r : Row) → has_class (is_for_paths purpose) 0 (signs r) ≡ false
    → pattern purpose r ≡ done (elements (is_for_paths purpose) 0 (signs r))
unfolding pattern
pattern_done purpose r n = rw (n, pattern)

-- WHICH NUMBER

module _ (g : Costing) where
  -- the pattern's units, "All bytes of the pattern are active", and its elements
  abbrev units : Row
  units = marked L g.pattern

  abbrev pub elements_of : List Element
  elements_of = elements false 0 (signs units)

  pub work_small : leb work_least (length g.work) ≡ false → pairs_of g ≡ refused_at work_too_small 0
  unfolding pairs_of
  work_small e = rw e

  module _ (w : leb work_least (length g.work) ≡ true) where
    pub class_met : has_class false 0 (signs units) ≡ true → pairs_of g ≡ refused_at bracket_class 0
    unfolding pairs_of
    class_met e = rw (w, pattern_refused for_removal units e)

    module _ (s : has_class false 0 (signs units) ≡ false) where
      pub too_large : is_small elements_of g.text ≡ false → pairs_of g ≡ refused_at too_many_units 0
      unfolding pairs_of
      too_large e = rw (w, pattern_done for_removal units s, e)

      pub pairs_counted : is_small elements_of g.text ≡ true → pairs_of g ≡ done_at (reachable elements_of g.text)
      unfolding pairs_of
      pairs_counted e = rw (w, pattern_done for_removal units s, e)

  -- WHAT EVERY ANSWER HAS

  -- the pairs are what the pattern and the text come to, or nothing
  pub record Ends (a : Costed) : Type 0 where
    pub place : a.place ≡ 0
    pub work : a.work ≡ cleared g.work
    pub none : (a.number ≡ accepted → ⊥) → a.pairs ≡ 0
    pub all : a.number ≡ accepted → a.pairs ≡ reachable elements_of g.text
    pub most : a.pairs ≤ (length elements_of + 1) * (length g.text + 1)

  ends_refused : (n : ℕ) → (n ≡ accepted → ⊥) → pairs_of g ≡ refused_at n 0 → Ends (coster g)
  unfolding coster costed
  ends_refused n h e = rw e record { place = refl; work = refl; none = λ _. refl; all = λ z. absurd (h z); most = omega arith }

  ends_counted : pairs_of g ≡ done_at (reachable elements_of g.text) → Ends (coster g)
  unfolding coster costed
  ends_counted e = rw e record {
    place = refl;
    work = refl;
    none = λ h. absurd (h refl);
    all = λ _. refl;
    most = reachable_most elements_of g.text;
  }

  pub coster_ends : Ends (coster g)
  coster_ends =
      either (leb work_least (length g.work)) served (λ e. ends_refused work_too_small (λ z. omega arith) (work_small e))
    where
      sized : leb work_least (length g.work) ≡ true → has_class false 0 (signs units) ≡ false → Ends (coster g)
      sized w s =
          either (is_small elements_of g.text) (λ e. ends_counted (pairs_counted w s e))
          (λ e. ends_refused too_many_units (λ z. omega arith) (too_large w s e))

      served : leb work_least (length g.work) ≡ true → Ends (coster g)
      served w = either (has_class false 0 (signs units)) (λ e. ends_refused bracket_class (λ z. omega arith) (class_met w e)) (sized w)

-- CALLS THAT COMPUTE

-- a pattern and a text with so many bytes of work area, and the number and the pairs
pub record Called : Type 0 where
  pub pattern : String
  pub text : String
  pub room : ℕ
  pub number : ℕ
  pub pairs : ℕ

abbrev counts : String → String → ℕ → Called
counts p t k = record { pattern = p; text = t; room = work_least; number = accepted; pairs = k }

abbrev refuses : String → String → ℕ → ℕ → Called
refuses p t room n = record { pattern = p; text = t; room = room; number = n; pairs = 0 }

-- the work area's bytes have no say
abbrev given : Called → Costing
given c = record { pattern = text c.pattern; text = text c.text; work = replicate c.room 0 }

abbrev answers : Called → Placed ℕ → Bool
answers c (refused_at n place) = eqb n c.number && (eqb place 0 && eqb 0 c.pairs)
answers c (demands_at t place) = false
answers c (done_at k) = eqb accepted c.number && eqb k c.pairs

all_answer : List Called → Bool
unfolding pairs_of
all_answer [] = true
all_answer (c ∷ l) = answers c (pairs_of (given c)) && all_answer l

-- a star reaches every pair, a byte goes on in both, an unclosed `[` is one element, a class is a set, any byte may stand anywhere
few : List Called
few =
    counts "" "" 1
    ∷ counts "" "ab" 1
    ∷ counts "*" "" 2
    ∷ counts "*" "ab" 6
    ∷ counts "abc" "abd" 3
    ∷ counts "*a*[!b]" "aab" 15
    ∷ counts "\0*" "\0ÿ" 5
    ∷ counts "[[:digit:]" "[7:" 2
    ∷ counts "[[:digit:]][[:alpha:]]" "7b" 3
    ∷ []

-- of the calls on which two independent programs agree
agreed : List Called
agreed =
    counts "*b**b" "aa/" 8
    ∷ counts "*.*" "ba." 10
    ∷ counts "?*?" "." 3
    ∷ counts "??*ba" ".//" 6
    ∷ counts "a*[" "/1/" 1
    ∷ counts "**a" "" 3
    ∷ counts "[]a!-[!b]" "/" 2
    ∷ counts "b*b!aa*-[-" "bb/1ab11ab" 24
    ∷ counts "*.=.]=a:=[" "aa/a/b.//a" 23
    ∷ refuses "aa***[[." "/.../1aaa." work_least bracket_class
    ∷ refuses "--[a=" "aab./.../1" 65535 work_too_small
    ∷ []

few_answer : all_answer few ≡ true
unfolding all_answer few
few_answer = refl

agreed_answer : all_answer agreed ≡ true
unfolding all_answer agreed
agreed_answer = refl

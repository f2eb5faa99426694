-- The walk over the texts of an image: a path that does not match is passed, and what is chosen stays the same.
use Prim.Native.Nat.{ℕ, ◌+◌, ◌-◌, ◌≤◌}
use mathlib.Core.Path.{◌≡◌, refl, sym, ◌∙◌, ap}
use mathlib.Core.Bool.{Bool, true, false}
use mathlib.Core.List.{List, [], ◌∷◌}
use mathlib.Core.Option.{some}
use native.Mathlib.Omega.{arith}
use lib.ListN.{length, drop, length-drop}
use lib.Seq.{length-take-le}
use Rattle.stages.specs.Bytes.{Text, part}
use Rattle.stages.specs.Outcome.{pick}
use Rattle.stages.specs.Images.{texts, held_texts}
use Rattle.stages.specs.Pattern.{Element, for_paths, matches}
use Rattle.stages.specs.Paths.{chosen}
use Rattle.stages.proofs.Tables.{Paths}
use Rattle.table.specs.Pieces.{Piece, malformed, piece_at, texts_from}
use Rattle.std.specs.Prelude.{Some, None, Ok, Err}
use Rattle.table.proofs.Pieces.{Ahead, ahead_from, ahead_first, Next, ahead_end, ahead_bad, ahead_text}
use Rattle.pattern_paths.specs.Chosen.{Walks, next_in, nothing, path, NextSays}

walks_ahead : (t : Text) (at : ℕ) (l : List Text) → Ahead t at l → Walks t at
walks_ahead t at l h = record { within = h.within; reads = h.is ∙ ap (λ (k : List Text). some k) (sym (ahead_from h)) }

-- a whole image of texts is walked from its first record on
pub walks_first : (t : Text) (l : List Text) → texts t ≡ some l → Walks t 1 × (texts_from t 1 ≡ l)
walks_first t l e = let h = ahead_first t l e in (walks_ahead t 1 l h, ahead_from h)

-- and so is one of paths
pub walks_paths : (t : Text) → Paths t → Walks t 1 × (texts_from t 1 ≡ held_texts t)
walks_paths t h = walks_first t (held_texts t) h.table

-- the first text, chosen or not
chosen_first : (p : List Element) (t : Text) (l : List Text) → chosen p (t ∷ l) ≡ pick (matches for_paths p t) (t ∷ chosen p l) (chosen p l)
unfolding chosen
chosen_first p t l = go (matches for_paths p t)
  where
    go : (x : Bool) → elim x [ true ↦ t ∷ chosen p l | false ↦ chosen p l ] ≡ pick x (t ∷ chosen p l) (chosen p l)
    go true = refl
    go false = refl

-- The walk: what is chosen, and the next path, are the same from the place i on as from the place `at`.
pub record Passing (p : List Element) (t : Text) (at i : ℕ) : Type 0 where
  pub order : at ≤ i
  pub walks : Walks t i
  pub next : next_in p at (texts_from t at) ≡ next_in p i (texts_from t i)
  pub chooses : chosen p (texts_from t at) ≡ chosen p (texts_from t i)

pub passing_start : (p : List Element) (t : Text) (at : ℕ) → Walks t at → Passing p t at at
passing_start p t at w = record { order = omega arith; walks = w; next = refl; chooses = refl }

module _ {p : List Element} {t : Text} {at i : ℕ} (g : Passing p t at i) {r : Piece} (s : r ≡ piece_at t i) where
  ahead : Ahead t i (texts_from t i)
  ahead = record { within = g.walks.within; is = g.walks.reads }

  pub passing_end : r ≡ Ok None → NextSays p t at None
  unfolding next_in chosen
  passing_end e =
      let none : texts_from t i ≡ [] = ahead_end ahead s e in
      record {
        is = sym (g.next ∙ ap (λ (l : List Text). next_in p i l) none);
        tells = nothing (g.chooses ∙ ap (λ (l : List Text). chosen p l) none);
      }

  pub passing_bad : r ≡ Err malformed → NextSays p t at None
  passing_bad e = absurd (ahead_bad ahead s e)

  module _ {end : ℕ} (e : r ≡ Ok (Some end)) where
    step : Next t i end (texts_from t i)
    step = ahead_text ahead s e

    pub text_low : i + 2 ≤ end
    text_low = step.low

    pub text_high : end ≤ length t
    text_high = step.ahead.within

    abbrev found : Text
    found = part t (i + 2) end

    -- the place behind the text
    ends : i + 2 + length found ≡ end
    ends =
        let l = step.low in
        let h = step.ahead.within in
        omega (arith, length-take-le (end - (i + 2)) (drop (i + 2) t) (simp length-drop (omega arith)))

    here : texts_from t i ≡ found ∷ texts_from t end
    here = step.is ∙ ap (λ (l : List Text). found ∷ l) (sym (ahead_from step.ahead))

    next_here : next_in p i (texts_from t i) ≡ pick (matches for_paths p found) (Some (record { from = i + 2; to = end }))
        (next_in p end (texts_from t end))
    unfolding next_in
    next_here = ap (λ (l : List Text). next_in p i l) here
        ∙ ap (λ (n : ℕ). pick (matches for_paths p found) (Some (record { from = i + 2; to = n })) (next_in p n (texts_from t end))) ends

    chosen_here : chosen p (texts_from t i)
        ≡ pick (matches for_paths p found) (found ∷ chosen p (texts_from t end)) (chosen p (texts_from t end))
    chosen_here = ap (λ (l : List Text). chosen p l) here ∙ chosen_first p found (texts_from t end)

    pub passing_found : matches for_paths p found ≡ true → NextSays p t at (Some (record { from = i + 2; to = end }))
    passing_found y = record {
      is = sym (g.next ∙ next_here ∙ ap (λ (b : Bool). pick b (Some (record { from = i + 2; to = end })) (next_in p end (texts_from t end))) y);
      tells = path {r = record { from = i + 2; to = end }} (omega (arith, g.order)) step.low step.ahead.within (walks_ahead t end step.more step.ahead)
          (g.chooses ∙ chosen_here ∙ ap
          (λ (b : Bool). pick b (found ∷ chosen p (texts_from t end)) (chosen p (texts_from t end))) y);
    }

    pub passing_on : matches for_paths p found ≡ false → Passing p t at end
    passing_on n = record {
      order = omega (arith, g.order, step.low);
      walks = walks_ahead t end step.more step.ahead;
      next = g.next ∙ next_here ∙ ap (λ (b : Bool). pick b (Some (record { from = i + 2; to = end })) (next_in p end (texts_from t end))) n;
      chooses = g.chooses ∙ chosen_here ∙ ap
          (λ (b : Bool). pick b (found ∷ chosen p (texts_from t end)) (chosen p (texts_from t end))) n;
    }

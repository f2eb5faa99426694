-- What lines say and demand depends on the list that their parameters' image holds, and on nothing else of it: so what was packed of the arguments serves
-- as their image, which is refused where it is too long.
use Prim.Native.Nat.{ℕ, ◌+◌, ◌<◌}
use native.Mathlib.Omega.{arith}
use mathlib.Core.Path.{◌≡◌, refl, sym, ap, ◌∙◌}
use mathlib.Core.List.{List, [], ◌∷◌, ◌++◌}
use mathlib.Core.Option.{Option, none}
use lib.ListN.{length, take}
use lib.Seq.{length-take-le}
use borrow.Author.Tests.{lt-leb}
use Rattle.stages.specs.Numbers.{image_limit}
use Rattle.stages.specs.Bytes.{Text}
use Rattle.stages.specs.Outcome.{Placed, refused_at, demands_at, done_at, ◌then◌}
use Rattle.stages.specs.Images.{Pairs, texts, sized, fields_of, image}
use Rattle.stages.specs.Call.{Given, Answer, expanded, answered, quoted_in, normaliser}
use Rattle.stages.specs.Program.{Variables, given_line, said, told, next_number, after_line, said_of, told_of, after_lines}
use Rattle.stages.proofs.Images.{length_image}
use Rattle.recipe_arguments.specs.Packs.{Packs, whole, full}

sized_none : {A : Type 0} (n : ℕ) (t : Text) (r : Option A) → n < length t → sized n t r ≡ none
unfolding sized
sized_none n t r h = rw (lt-leb (length t) n h, sized)

-- what was packed is read as the image is
pub packs_fields : (l : List Text) (buffer : Text) (used : ℕ) → image_limit + 1 ≡ length buffer → Packs l buffer used
    → fields_of (take used buffer) ≡ fields_of (image l)
unfolding fields_of
packs_fields l buffer used e (whole h i) = ap (λ (t : Text). sized image_limit t (texts t)) i
packs_fields l buffer used e (full h i) =
    let k : length (take used buffer) ≡ used = length-take-le used buffer (omega (arith, h)) in
    sized_none image_limit (take used buffer) (texts (take used buffer)) (omega (arith, e, h, k))
    ∙ sym (sized_none image_limit (image l) (texts (image l)) (omega (arith, e, i, length_image l)))

-- a call with other parameters that hold the same list
module _ (g : Given) (params : Text) (e : fields_of g.params ≡ fields_of params) where
  abbrev other : Given
  other = record {
    work = g.work;
    vars = g.vars;
    vars_used = g.vars_used;
    homes = g.homes;
    paths = g.paths;
    params = params;
    line = g.line;
    out = g.out;
    message = g.message;
    shouts = g.shouts;
  }

  expanded_params : (out : ℕ) → expanded g out ≡ expanded other out
  unfolding expanded
  expanded_params out = rw e

  answered_params : (o : Placed (Text × Pairs)) → answered g o ≡ answered other o
  unfolding answered
  answered_params (refused_at n place) = refl
  answered_params (demands_at t place) = refl
  answered_params (done_at r) = refl

  normaliser_params : normaliser g ≡ normaliser other
  unfolding normaliser
  normaliser_params =
      rw (expanded_params image_limit) (answered_params (expanded other image_limit then λ r. quoted_in (length g.out) r.0 then λ t. done_at (t, r.1)))

module _ (homes paths params params' : Text) (e : fields_of params ≡ fields_of params') where
  answer_params : (l : Text) (v : Variables) → normaliser (given_line homes paths params l v) ≡ normaliser (given_line homes paths params' l v)
  unfolding given_line
  answer_params l v = normaliser_params (given_line homes paths params l v) params' e

  after_params : (v : Variables) (l : Text) → after_line homes paths params v l ≡ after_line homes paths params' v l
  unfolding after_line
  after_params v l = rw (answer_params l v)

  -- the first of lines, and those behind it
  said_next : (v : Variables) (l : Text) (ls : List Text) → said_of homes paths params v (l ∷ ls)
      ≡ said (normaliser (given_line homes paths params l v)) ++ said_of homes paths params (after_line homes paths params v l) ls
  unfolding said_of
  said_next v l ls = refl

  said_next' : (v : Variables) (l : Text) (ls : List Text) → said_of homes paths params' v (l ∷ ls)
      ≡ said (normaliser (given_line homes paths params' l v)) ++ said_of homes paths params' (after_line homes paths params' v l) ls
  unfolding said_of
  said_next' v l ls = refl

  told_next : (v : Variables) (n : ℕ) (l : Text) (ls : List Text) → told_of homes paths params v n (l ∷ ls)
      ≡ told n (normaliser (given_line homes paths params l v)) ++ told_of homes paths params (after_line homes paths params v l) (next_number n) ls
  unfolding told_of
  told_next v n l ls = refl

  told_next' : (v : Variables) (n : ℕ) (l : Text) (ls : List Text) → told_of homes paths params' v n (l ∷ ls)
      ≡ told n (normaliser (given_line homes paths params' l v)) ++ told_of homes paths params' (after_line homes paths params' v l) (next_number n) ls
  unfolding told_of
  told_next' v n l ls = refl

  said_none : (v : Variables) → said_of homes paths params v [] ≡ said_of homes paths params' v []
  unfolding said_of
  said_none v = refl

  told_none : (v : Variables) (n : ℕ) → told_of homes paths params v n [] ≡ told_of homes paths params' v n []
  unfolding told_of
  told_none v n = refl

  pub said_params : (v : Variables) (ls : List Text) → said_of homes paths params v ls ≡ said_of homes paths params' v ls
  said_params v [] = said_none v
  said_params v (l ∷ ls) =
      said_next v l ls
      ∙ ap (λ (a : Answer). said a ++ said_of homes paths params (after_line homes paths params v l) ls) (answer_params l v)
      ∙ ap (λ (w : Variables). said (normaliser (given_line homes paths params' l v)) ++ said_of homes paths params w ls) (after_params v l)
      ∙ ap (λ (s : Text). said (normaliser (given_line homes paths params' l v)) ++ s) (said_params (after_line homes paths params' v l) ls)
      ∙ sym (said_next' v l ls)

  pub told_params : (v : Variables) (n : ℕ) (ls : List Text) → told_of homes paths params v n ls ≡ told_of homes paths params' v n ls
  told_params v n [] = told_none v n
  told_params v n (l ∷ ls) =
      told_next v n l ls
      ∙ ap (λ (a : Answer). told n a ++ told_of homes paths params (after_line homes paths params v l) (next_number n) ls) (answer_params l v)
      ∙ ap (λ (w : Variables). told n (normaliser (given_line homes paths params' l v)) ++ told_of homes paths params w (next_number n) ls) (after_params v l)
      ∙ ap (λ (s : Text). told n (normaliser (given_line homes paths params' l v)) ++ s) (told_params (after_line homes paths params' v l) (next_number n) ls)
      ∙ sym (told_next' v n l ls)

  pub after_lines_params : (v : Variables) (ls : List Text) → after_lines homes paths params v ls ≡ after_lines homes paths params' v ls
  unfolding after_lines
  after_lines_params v [] = refl
  after_lines_params v (l ∷ ls) = rw (after_params v l, after_lines_params (after_line homes paths params' v l) ls)

-- Laws of the program: of a line only 2,049 bytes can matter, and lines are cut from what is read so that joining them gives it back.
use Prim.Native.Nat.{ℕ, suc, ◌≤◌, ◌<◌}
use Prim.Native.Char.{code}
use native.Mathlib.Omega.{arith}
use mathlib.Core.Path.{◌≡◌, refl, sym, ap, ◌∙◌}
use mathlib.Core.Bool.{Bool, true, false, not}
use mathlib.Core.List.{List, [], ◌∷◌, ◌++◌, append_assoc}
use lib.Dec.{eqb, leb}
use lib.ListN.{length, take}
use lib.Seq.{take_all, length-take-le}
use borrow.Author.Tests.{leb-true, leb-false, lt-leb, eqb-true, eqb-false, ne_eqb}
use Rattle.stages.specs.Numbers.{line_limit, image_limit}
use Rattle.stages.specs.Bytes.{Text, is_in}
use Rattle.stages.specs.Outcome.{Placed, refused_at, done_at, ◌then◌, pick, demands_at}
use Rattle.stages.specs.Images.{Pairs, image}
use Rattle.stages.specs.Line.{Around, Fields, expand_line}
use Rattle.stages.specs.Call.{Given, Answer, answered, expanded, expander, quoted_in, normaliser}
use Rattle.stages.specs.Program.{longer_line, lines_of, Variables, given_line, said, after_line, after_lines, said_of, told, next_number, told_of, number_after}
use Rattle.stages.proofs.Bools.{either, or_neither}
use Rattle.stages.proofs.Outcomes.{Each}

-- long lines

-- the bytes of a line that can matter: one more than it may have
abbrev pub cut_line : Text → Text
cut_line t = take (suc line_limit) t

-- a line is too long exactly if it is so when it is cut, and else it is not cut
pub line_cut : (a : Around) (t : Text) (v : Pairs) → expand_line a (cut_line t) v ≡ expand_line a t v
unfolding expand_line
line_cut a t v = either (leb (length t) line_limit) short long
  where
    short : leb (length t) line_limit ≡ true → expand_line a (cut_line t) v ≡ expand_line a t v
    short e = let l : length t ≤ line_limit = leb-true (length t) line_limit e in rw (take_all (suc line_limit) t (omega arith))

    long : leb (length t) line_limit ≡ false → expand_line a (cut_line t) v ≡ expand_line a t v
    long e =
        let l : line_limit < length t = leb-false (length t) line_limit e in
        let n : length (cut_line t) ≡ suc line_limit = length-take-le (suc line_limit) t l in
        rw (e, lt-leb (length (cut_line t)) line_limit (omega arith))

-- what is given, with another line
abbrev pub with_line : Given → Text → Given
with_line g t = record {
  work = g.work;
  vars = g.vars;
  vars_used = g.vars_used;
  homes = g.homes;
  paths = g.paths;
  params = g.params;
  line = t;
  out = g.out;
  message = g.message;
  shouts = g.shouts;
}

module _ (g : Given) (t : Text) where
  expanded_cut : (out : ℕ) → expanded (with_line g (cut_line t)) out ≡ expanded (with_line g t) out
  unfolding expanded
  expanded_cut out = simp line_cut

  -- an answer does not hold the line
  answered_line : (o : Placed (Text × Pairs)) → answered (with_line g (cut_line t)) o ≡ answered (with_line g t) o
  unfolding answered
  answered_line (refused_at n place) = refl
  answered_line (demands_at m place) = refl
  answered_line (done_at r) = refl

  job_cut : (out : ℕ) (f : Fields × Pairs → Placed (Text × Pairs))
      → answered (with_line g (cut_line t)) (expanded (with_line g (cut_line t)) out then f) ≡ answered (with_line g t) (expanded (with_line g t) out then f)
  job_cut out f = rw (expanded_cut out) (answered_line (expanded (with_line g t) out then f))

  pub expander_cut : expander (with_line g (cut_line t)) ≡ expander (with_line g t)
  unfolding expander
  expander_cut = job_cut (length g.out) (λ r. done_at (image r.0, r.1))

  pub normaliser_cut : normaliser (with_line g (cut_line t)) ≡ normaliser (with_line g t)
  unfolding normaliser
  normaliser_cut = job_cut image_limit (λ r. quoted_in (length g.out) r.0 then λ u. done_at (u, r.1))

-- the program may cut each line likewise
abbrev pub cut_lines : List Text → List Text
cut_lines [] = []
cut_lines (l ∷ ls) = cut_line l ∷ cut_lines ls

module _ (homes paths params : Text) where
  pub answer_cut : (l : Text) (v : Variables) → normaliser (given_line homes paths params (cut_line l) v) ≡ normaliser (given_line homes paths params l v)
  unfolding given_line
  answer_cut l v = normaliser_cut (given_line homes paths params l v) l

  after_cut : (v : Variables) (l : Text) → after_line homes paths params v (cut_line l) ≡ after_line homes paths params v l
  unfolding after_line
  after_cut v l = rw (answer_cut l v)

  pub said_none : (v : Variables) → said_of homes paths params v [] ≡ []
  unfolding said_of
  said_none v = refl

  pub said_next : (v : Variables) (l : Text) (ls : List Text)
      → said_of homes paths params v (l ∷ ls)
      ≡ said (normaliser (given_line homes paths params l v)) ++ said_of homes paths params (after_line homes paths params v l) ls
  unfolding said_of
  said_next v l ls = refl

  after_next : (v : Variables) (l : Text) (ls : List Text)
      → after_lines homes paths params v (l ∷ ls) ≡ after_lines homes paths params (after_line homes paths params v l) ls
  unfolding after_lines
  after_next v l ls = refl

  told_next : (v : Variables) (n : ℕ) (l : Text) (ls : List Text)
      → told_of homes paths params v n (l ∷ ls)
      ≡ told n (normaliser (given_line homes paths params l v)) ++ told_of homes paths params (after_line homes paths params v l) (next_number n) ls
  unfolding told_of
  told_next v n l ls = refl

  pub said_cut : (v : Variables) (ls : List Text) → said_of homes paths params v (cut_lines ls) ≡ said_of homes paths params v ls
  said_cut v [] = refl
  said_cut v (l ∷ ls) =
      said_next v (cut_line l) (cut_lines ls)
      ∙ ap (λ (a : Answer). said a ++ said_of homes paths params (after_line homes paths params v (cut_line l)) (cut_lines ls)) (answer_cut l v)
      ∙ ap (λ (w : Variables). said (normaliser (given_line homes paths params l v)) ++ said_of homes paths params w (cut_lines ls)) (after_cut v l)
      ∙ ap (λ (s : Text). said (normaliser (given_line homes paths params l v)) ++ s) (said_cut (after_line homes paths params v l) ls)
      ∙ sym (said_next v l ls)

  pub after_lines_cut : (v : Variables) (ls : List Text) → after_lines homes paths params v (cut_lines ls) ≡ after_lines homes paths params v ls
  after_lines_cut v [] = refl
  after_lines_cut v (l ∷ ls) =
      after_next v (cut_line l) (cut_lines ls)
      ∙ ap (λ (w : Variables). after_lines homes paths params w (cut_lines ls)) (after_cut v l)
      ∙ after_lines_cut (after_line homes paths params v l) ls
      ∙ sym (after_next v l ls)

  pub told_cut : (v : Variables) (n : ℕ) (ls : List Text) → told_of homes paths params v n (cut_lines ls) ≡ told_of homes paths params v n ls
  told_cut v n [] = refl
  told_cut v n (l ∷ ls) =
      told_next v n (cut_line l) (cut_lines ls)
      ∙ ap
      (λ (a : Answer). told n a ++ told_of homes paths params (after_line homes paths params v (cut_line l)) (next_number n) (cut_lines ls))
      (answer_cut l v)
      ∙ ap
      (λ (w : Variables). told n (normaliser (given_line homes paths params l v)) ++ told_of homes paths params w (next_number n) (cut_lines ls))
      (after_cut v l)
      ∙ ap (λ (s : Text). told n (normaliser (given_line homes paths params l v)) ++ s) (told_cut (after_line homes paths params v l) (next_number n) ls)
      ∙ sym (told_next v n l ls)

  -- lines one by one: what is said of some and then of others, and the variables after them
  pub said_append : (v : Variables) (ls ms : List Text)
      → said_of homes paths params v (ls ++ ms) ≡ said_of homes paths params v ls ++ said_of homes paths params (after_lines homes paths params v ls) ms
  unfolding said_of after_lines
  said_append v [] ms = refl
  said_append v (l ∷ ls) ms =
      ap (λ (s : Text). said (normaliser (given_line homes paths params l v)) ++ s) (said_append (after_line homes paths params v l) ls ms)
      ∙ sym (append_assoc (said (normaliser (given_line homes paths params l v))) _ _)

  pub told_append : (v : Variables) (n : ℕ) (ls ms : List Text)
      → told_of homes paths params v n (ls ++ ms)
      ≡ told_of homes paths params v n ls ++ told_of homes paths params (after_lines homes paths params v ls) (number_after n ls) ms
  unfolding told_of after_lines number_after
  told_append v n [] ms = refl
  told_append v n (l ∷ ls) ms =
      ap (λ (s : Text). told n (normaliser (given_line homes paths params l v)) ++ s) (told_append (after_line homes paths params v l) (next_number n) ls ms)
      ∙ sym (append_assoc (told n (normaliser (given_line homes paths params l v))) _ _)

  pub after_append : (v : Variables) (ls ms : List Text) → after_lines homes paths params v (ls ++ ms)
      ≡ after_lines homes paths params (after_lines homes paths params v ls) ms
  unfolding after_lines
  after_append v [] ms = refl
  after_append v (l ∷ ls) ms = after_append (after_line homes paths params v l) ls ms

pub number_append : (n : ℕ) (ls ms : List Text) → number_after n (ls ++ ms) ≡ number_after (number_after n ls) ms
unfolding number_after
number_append n [] ms = refl
number_append n (l ∷ ls) ms = number_append (next_number n) ls ms

pub number_cut : (n : ℕ) (ls : List Text) → number_after n (cut_lines ls) ≡ number_after n ls
unfolding number_after
number_cut n [] = refl
number_cut n (l ∷ ls) = number_cut (next_number n) ls

-- lines

abbrev newline : ℕ
newline = code "\n"

-- lines, each with its newline
abbrev pub with_newlines : List Text → Text
with_newlines [] = []
with_newlines (l ∷ ls) = l ++ newline ∷ with_newlines ls

-- whether a text ends within a line
abbrev pub unfinished : Text → Bool
unfinished [] = false
unfinished (b ∷ []) = not (eqb b newline)
unfinished (b ∷ c ∷ t) = unfinished (c ∷ t)

-- a text in which no line ends
abbrev pub NoNewline : Text → Type 0
NoNewline t = is_in newline t ≡ false

-- each case of the first byte
lines_newline : (b : ℕ) (t : Text) → eqb b newline ≡ true → lines_of (b ∷ t) ≡ [] ∷ lines_of t
unfolding lines_of
lines_newline b t e = rw (e, lines_of)

lines_longer : (b : ℕ) (t : Text) → eqb b newline ≡ false → lines_of (b ∷ t) ≡ longer_line b (lines_of t)
unfolding lines_of
lines_longer b t e = rw (e, lines_of)

longer_none : (b : ℕ) (ls : List Text) → eqb newline b ≡ false → Each NoNewline ls → Each NoNewline (longer_line b ls)
unfolding longer_line
longer_none b [] e h = (rw e, tt)
longer_none b (l ∷ ls) e h = (rw e h.0, h.1)

eqb_sym : (a b : ℕ) → eqb a b ≡ false → eqb b a ≡ false
eqb_sym a b e = ne_eqb b a (λ d. eqb-false a b e (sym d))

-- no line holds a newline
pub lines_none : (t : Text) → Each NoNewline (lines_of t)
unfolding lines_of
lines_none [] = tt
lines_none (b ∷ t) = go (lines_none t) (eqb b newline) refl
  where
    go : Each NoNewline (lines_of t) → (x : Bool) → eqb b newline ≡ x → Each NoNewline (lines_of (b ∷ t))
    go ih true e = rw (lines_newline b t e) (refl, ih)
    go ih false e = rw (lines_longer b t e) (longer_none b (lines_of t) (eqb_sym b newline e) ih)

-- what is read ends like its lines, but for the newline that its last line may lack
joined_longer : (b c : ℕ) (t : Text) → with_newlines (longer_line b (lines_of (c ∷ t))) ≡ b ∷ with_newlines (lines_of (c ∷ t))
joined_longer b c t = go (eqb c newline) refl
  where
    go : (x : Bool) → eqb c newline ≡ x → with_newlines (longer_line b (lines_of (c ∷ t))) ≡ b ∷ with_newlines (lines_of (c ∷ t))
    go true e = rw (lines_newline c t e) (unfold longer_line in refl)
    go false e = rw (lines_longer c t e) (more (lines_of t))
      where
        more : (ls : List Text) → with_newlines (longer_line b (longer_line c ls)) ≡ b ∷ with_newlines (longer_line c ls)
        more [] = unfold longer_line in refl
        more (l ∷ ls) = unfold longer_line in refl

pub lines_joined : (t : Text) → with_newlines (lines_of t) ≡ t ++ pick (unfinished t) (newline ∷ []) []
unfolding lines_of longer_line
lines_joined [] = refl
lines_joined (b ∷ []) = go (eqb b newline) refl
  where
    go : (x : Bool) → eqb b newline ≡ x → with_newlines (lines_of (b ∷ [])) ≡ b ∷ pick (unfinished (b ∷ [])) (newline ∷ []) []
    go true e = rw (lines_newline b [] e, e, eqb-true b newline e)
    go false e = rw (lines_longer b [] e, e)
lines_joined (b ∷ c ∷ t) = go (lines_joined (c ∷ t)) (eqb b newline) refl
  where
    go : with_newlines (lines_of (c ∷ t)) ≡ c ∷ t ++ pick (unfinished (c ∷ t)) (newline ∷ []) [] → (x : Bool) → eqb b newline ≡ x
        → with_newlines (lines_of (b ∷ c ∷ t)) ≡ b ∷ c ∷ t ++ pick (unfinished (c ∷ t)) (newline ∷ []) []
    go ih true e = rw (lines_newline b (c ∷ t) e, ih, eqb-true b newline e)
    go ih false e = rw (lines_longer b (c ∷ t) e, joined_longer b c t, ih)

-- a line and the lines behind its newline; and a last line without one
pub lines_first : (l t : Text) → NoNewline l → lines_of (l ++ newline ∷ t) ≡ l ∷ lines_of t
lines_first [] t h = lines_newline newline t refl
lines_first (b ∷ l) t h =
    let e : (eqb newline b ≡ false) × (is_in newline l ≡ false) = or_neither (eqb newline b) (is_in newline l) h in
    lines_longer b (l ++ newline ∷ t) (eqb_sym newline b e.0) ∙ rw (lines_first l t e.1) (unfold longer_line in refl)

pub lines_last : (b : ℕ) (l : Text) → NoNewline (b ∷ l) → lines_of (b ∷ l) ≡ (b ∷ l) ∷ []
unfolding lines_of longer_line
lines_last b [] h = lines_longer b [] (eqb_sym newline b (or_neither (eqb newline b) false h).0)
lines_last b (c ∷ l) h =
    let e : (eqb newline b ≡ false) × (is_in newline (c ∷ l) ≡ false) = or_neither (eqb newline b) (is_in newline (c ∷ l)) h in
    lines_longer b (c ∷ l) (eqb_sym newline b e.0) ∙ rw (lines_last c l e.1)

-- Of a table's file only so many bytes can matter as its image may have, and one more, which tells that it is too long: the program may cut each file there.
use Prim.Native.Nat.{ℕ, suc, ◌+◌, ◌-◌, ◌≤◌, ◌<◌}
use native.Mathlib.Omega.{arith}
use mathlib.Core.Path.{◌≡◌, refl, sym, ap, ◌∙◌}
use mathlib.Core.Bool.{Bool, true, false}
use mathlib.Core.List.{List, [], ◌∷◌, ◌++◌, append-nil}
use mathlib.Core.Option.{Option, none, some}
use lib.Dec.{leb}
use lib.ListN.{length, take, drop, replicate, length-replicate, replicate-append-replicate}
use lib.Seq.{take_all, take-nil, take-take, take_at, drop_at, take-append-le, take-append-add, length-take-le}
use borrow.Author.Tests.{leb-true, leb-false, le-leb, lt-leb}
use Rattle.stages.specs.Numbers.{bad_variables, work_least, image_limit, paths_limit}
use Rattle.stages.specs.Bytes.{Text}
use Rattle.stages.specs.Outcome.{Placed, refused_at, done_at, ◌then◌, demands_at}
use Rattle.stages.specs.Images.{Pairs, texts, is_login, pairs_of, pairs_checked, paths_checked, sized, homes_of, paths_of, written, image}
use Rattle.stages.specs.Call.{Given, Answer, over, expanded, answered, quoted_in, normaliser}
use Rattle.stages.specs.Program.{lines_of, table_or, buffered, Variables, given_line, said, after_line, said_of, first_variables, program}
use Rattle.stages.proofs.Bools.{either}
use Rattle.stages.proofs.Program.{said_none, said_next}

-- the bytes of a file that can matter
abbrev pub cut_file : ℕ → Option Text → Option Text
cut_file limit none = none
cut_file limit (some t) = some (take (suc limit) t)

sized_none : {A : Type 0} (n : ℕ) (t : Text) (r : Option A) → n < length t → sized n t r ≡ none
unfolding sized
sized_none n t r l = rw (lt-leb (length t) n l, sized)

-- an image is too long exactly if it is so when it is cut, and else it is not cut
sized_cut : {A : Type 0} (n : ℕ) (t : Text) (f : Text → Option A) → sized n (take (suc n) t) (f (take (suc n) t)) ≡ sized n t (f t)
sized_cut n t f = either (leb (length t) n) short long
  where
    short : leb (length t) n ≡ true → sized n (take (suc n) t) (f (take (suc n) t)) ≡ sized n t (f t)
    short e = let l : length t ≤ n = leb-true (length t) n e in rw (take_all (suc n) t (omega arith))

    long : leb (length t) n ≡ false → sized n (take (suc n) t) (f (take (suc n) t)) ≡ sized n t (f t)
    long e =
        let l : n < length t = leb-false (length t) n e in
        let m : length (take (suc n) t) ≡ suc n = length-take-le (suc n) t l in
        sized_none n (take (suc n) t) (f (take (suc n) t)) (omega arith) ∙ sym (sized_none n t (f t) l)

homes_cut : (t : Text) → homes_of (take (suc image_limit) t) ≡ homes_of t
unfolding homes_of
homes_cut t = sized_cut image_limit t (λ u. pairs_checked is_login (pairs_of (texts u)))

paths_cut : (t : Text) → paths_of (take (suc paths_limit) t) ≡ paths_of t
unfolding paths_of
paths_cut t = sized_cut paths_limit t (λ u. paths_checked (texts u))

-- what is given, with other tables
abbrev with_tables : Given → Text → Text → Given
with_tables g homes paths = record {
  work = g.work;
  vars = g.vars;
  vars_used = g.vars_used;
  homes = homes;
  paths = paths;
  params = g.params;
  line = g.line;
  out = g.out;
  message = g.message;
  shouts = g.shouts;
}

module _ (g : Given) (homes paths : Text) where
  abbrev whole : Given
  whole = with_tables g homes paths

  abbrev short : Given
  short = with_tables g (take (suc image_limit) homes) (take (suc paths_limit) paths)

  expanded_tables : (out : ℕ) → expanded short out ≡ expanded whole out
  unfolding expanded
  expanded_tables out = simp (homes_cut, paths_cut)

  -- an answer does not hold the tables
  answered_tables : (o : Placed (Text × Pairs)) → answered short o ≡ answered whole o
  unfolding answered
  answered_tables (refused_at n place) = refl
  answered_tables (demands_at m place) = refl
  answered_tables (done_at r) = refl

  normaliser_tables : normaliser short ≡ normaliser whole
  unfolding normaliser
  normaliser_tables =
      rw (expanded_tables image_limit) (answered_tables (expanded whole image_limit then λ r. quoted_in (length g.out) r.0 then λ t. done_at (t, r.1)))

-- variables beyond their buffer: every line is refused with 2 and leaves them so, whatever their used length
expanded_beyond : (g : Given) (out : ℕ) → work_least ≤ length g.work → length g.vars < g.vars_used → expanded g out ≡ refused_at bad_variables 0
unfolding expanded
expanded_beyond g out w b = rw (le-leb work_least (length g.work) w, lt-leb g.vars_used (length g.vars) b)

normaliser_beyond : (g : Given) → work_least ≤ length g.work → length g.vars < g.vars_used → normaliser g ≡ answered g (refused_at bad_variables 0)
unfolding normaliser
normaliser_beyond g w b = rw (expanded_beyond g image_limit w b)

module _ (homes paths params buffer : Text) (shouts : Bool) where
  abbrev beyond : ℕ → Variables
  beyond used = record { buffer = buffer; vars_used = used; shouts = shouts }

  answer_beyond : (l : Text) (used : ℕ) → length buffer < used
      → normaliser (given_line homes paths params l (beyond used)) ≡ answered (given_line homes paths params l (beyond used)) (refused_at bad_variables 0)
  unfolding given_line
  answer_beyond l used b = normaliser_beyond (given_line homes paths params l (beyond used)) (omega (arith, length-replicate {A = ℕ} work_least 0)) b

  said_beyond : (ls : List Text) (m n : ℕ) → length buffer < m → length buffer < n
      → said_of homes paths params (beyond m) ls ≡ said_of homes paths params (beyond n) ls
  unfolding said_of after_line answered given_line said
  said_beyond [] m n b c = refl
  said_beyond (l ∷ ls) m n b c = rw (answer_beyond l m b, answer_beyond l n c, said_beyond ls m n b c)

-- the program, whose files may be cut

after_tables : (homes paths params : Text) (v : Variables) (l : Text)
    → after_line (take (suc image_limit) homes) (take (suc paths_limit) paths) params v l ≡ after_line homes paths params v l
unfolding after_line given_line
after_tables homes paths params v l = rw (normaliser_tables (given_line homes paths params l v) homes paths)

answer_tables : (homes paths params : Text) (v : Variables) (l : Text)
    → normaliser (given_line (take (suc image_limit) homes) (take (suc paths_limit) paths) params l v) ≡ normaliser (given_line homes paths params l v)
unfolding given_line
answer_tables homes paths params v l = normaliser_tables (given_line homes paths params l v) homes paths

said_tables : (homes paths params : Text) (v : Variables) (ls : List Text)
    → said_of (take (suc image_limit) homes) (take (suc paths_limit) paths) params v ls ≡ said_of homes paths params v ls
said_tables homes paths params v [] = said_none (take (suc image_limit) homes) (take (suc paths_limit) paths) params v ∙ sym (said_none homes paths params v)
said_tables homes paths params v (l ∷ ls) =
    said_next (take (suc image_limit) homes) (take (suc paths_limit) paths) params v l ls
    ∙ ap
    (λ (a : Answer). said a
    ++ said_of (take (suc image_limit) homes) (take (suc paths_limit) paths) params
    (after_line (take (suc image_limit) homes) (take (suc paths_limit) paths) params v l) ls)
    (answer_tables homes paths params v l)
    ∙ ap
    (λ (w : Variables). said (normaliser (given_line homes paths params l v))
    ++ said_of (take (suc image_limit) homes) (take (suc paths_limit) paths) params w ls)
    (after_tables homes paths params v l)
    ∙ ap (λ (s : Text). said (normaliser (given_line homes paths params l v)) ++ s) (said_tables homes paths params (after_line homes paths params v l) ls)
    ∙ sym (said_next homes paths params v l ls)

table_cut : (n : ℕ) (file : Option Text) → table_or (cut_file n file) ≡ take (suc n) (table_or file)
unfolding table_or image written
table_cut n none = rw (take-nil {A = ℕ} n)
table_cut n (some t) = refl

-- a file beyond the variables' buffer fills it
buffered_full : (t : Text) → image_limit ≤ length t → buffered t ≡ take image_limit t
unfolding buffered
buffered_full t h = let z : image_limit - length t ≡ 0 = omega arith in rw (z, append-nil (take image_limit t))

module _ (t : Text) (h : image_limit < length t) where
  cut_length : length (take (suc image_limit) t) ≡ suc image_limit
  cut_length = length-take-le (suc image_limit) t h

  buffered_cut : buffered (take (suc image_limit) t) ≡ buffered t
  buffered_cut =
      buffered_full (take (suc image_limit) t) (omega (arith, cut_length))
      ∙ take-take image_limit (suc image_limit) t (omega arith)
      ∙ sym (buffered_full t (omega arith))

  buffered_short : length (buffered t) ≡ image_limit
  buffered_short = ap length (buffered_full t (omega arith)) ∙ length-take-le image_limit t (omega arith)

-- zeros from a place on, and up to one
pub zeros_behind : (n room : ℕ) → n ≤ room → drop n (replicate {A = ℕ} room 0) ≡ replicate (room - n) 0
zeros_behind n room h =
    let k : n + (room - n) ≡ room = omega arith in
    ap (λ (m : ℕ). drop n (replicate m 0)) (sym k)
    ∙ ap (drop n) (sym (replicate-append-replicate n (room - n) 0))
    ∙ drop_at (replicate n 0) (replicate (room - n) 0) n (length-replicate n 0)

zeros_front : (n room : ℕ) → n ≤ room → take n (replicate {A = ℕ} room 0) ≡ replicate n 0
zeros_front n room h =
    let k : n + (room - n) ≡ room = omega arith in
    ap (λ (m : ℕ). take n (replicate m 0)) (sym k)
    ∙ ap (take n) (sym (replicate-append-replicate n (room - n) 0))
    ∙ take_at (replicate n 0) (replicate (room - n) 0) n (length-replicate n 0)

-- a file at the front of zeros, of which there is a byte more than an image may have, is buffered without that byte
module _ (t : Text) where
  buffered_fits : length t ≤ image_limit → take image_limit (t ++ replicate (suc image_limit - length t) 0) ≡ buffered t
  unfolding buffered
  buffered_fits l =
      let k : length t + (image_limit - length t) ≡ image_limit = omega arith in
      ap (λ (j : ℕ). take j (t ++ replicate (suc image_limit - length t) 0)) (sym k)
      ∙ take-append-add t (replicate (suc image_limit - length t) 0) (image_limit - length t)
      ∙ ap (λ (x : Text). t ++ x) (zeros_front (image_limit - length t) (suc image_limit - length t) (omega arith))
      ∙ ap (λ (x : Text). x ++ replicate (image_limit - length t) 0) (sym (take_all image_limit t l))

  pub buffered_over : length t ≤ suc image_limit → take image_limit (over t (replicate (suc image_limit) 0)) ≡ buffered t
  unfolding over
  buffered_over h =
      ap (λ (x : Text). take image_limit (t ++ x)) (zeros_behind (length t) (suc image_limit) h)
      ∙ either (leb (length t) image_limit) (λ e. buffered_fits (leb-true (length t) image_limit e)) (λ e. full (leb-false (length t) image_limit e))
    where
      full : image_limit < length t → take image_limit (t ++ replicate (suc image_limit - length t) 0) ≡ buffered t
      full l = take-append-le image_limit t (replicate (suc image_limit - length t) 0) (omega arith) ∙ sym (buffered_full t (omega arith))

abbrev begun : Bool → Text → Variables
begun shouts t = record { buffer = buffered t; vars_used = length t; shouts = shouts }

module _ (homes paths params : Text) (shouts : Bool) (ls : List Text) where
  begun_cut : (t : Text) → said_of homes paths params (begun shouts (take (suc image_limit) t)) ls ≡ said_of homes paths params (begun shouts t) ls
  begun_cut t = either (leb (length t) image_limit) short long
    where
      short : leb (length t) image_limit ≡ true → said_of homes paths params (begun shouts (take (suc image_limit) t)) ls
          ≡ said_of homes paths params (begun shouts t) ls
      short e =
          let l : length t ≤ image_limit = leb-true (length t) image_limit e in
          ap (λ (u : Text). said_of homes paths params (begun shouts u) ls) (take_all (suc image_limit) t (omega arith))

      long : leb (length t) image_limit ≡ false → said_of homes paths params (begun shouts (take (suc image_limit) t)) ls
          ≡ said_of homes paths params (begun shouts t) ls
      long e =
          let l : image_limit < length t = leb-false (length t) image_limit e in
          rw (buffered_cut t l, cut_length t l)
          (said_beyond homes paths params (buffered t) shouts ls (suc image_limit) (length t) (omega (arith, buffered_short t l))
          (omega (arith, buffered_short t l)))

  first_cut_lem : (vars : Option Text) → said_of homes paths params (first_variables shouts (cut_file image_limit vars)) ls
      ≡ said_of homes paths params (first_variables shouts vars) ls
  unfolding first_variables
  first_cut_lem vars = rw (table_cut image_limit vars) (begun_cut (table_or vars))

-- the program says the same of files that are cut
pub program_cut : (shouts : Bool) (vars homes paths : Option Text) (arguments : List Text) (input : Text)
    → program shouts (cut_file image_limit vars) (cut_file image_limit homes) (cut_file paths_limit paths) arguments input
    ≡ program shouts vars homes paths arguments input
unfolding program
program_cut shouts vars homes paths arguments input =
    rw (table_cut image_limit homes, table_cut paths_limit paths)
    (said_tables (table_or homes) (table_or paths) (image arguments) (first_variables shouts (cut_file image_limit vars)) (lines_of input)
    ∙ first_cut_lem (table_or homes) (table_or paths) (image arguments) shouts (lines_of input) vars)

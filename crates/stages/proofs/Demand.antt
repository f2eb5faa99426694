-- Demand 3 over the calls: an accepted line's fields, written as a quoted line, come back from any other call, which changes no variable, and quote to the same
-- bytes. The calls do nothing but what the stages do, and a well-formed table is the image of what it holds.
use Prim.Native.Nat.{ℕ, zero, suc, ◌≤◌}
use native.Mathlib.Omega.{arith}
use mathlib.Core.Path.{◌≡◌, refl, sym, ap, ◌∙◌}
use mathlib.Core.Bool.{Bool, true}
use mathlib.Core.List.{[]}
use mathlib.Core.Option.{some}
use lib.ListN.{length, take, replicate, take-append-drop, length-replicate}
use lib.Seq.{length-take-le}
use borrow.Author.Tests.{le-leb}
use Rattle.stages.specs.Numbers.{accepted, work_least, line_limit, image_limit}
use Rattle.stages.specs.Bytes.{Text}
use Rattle.stages.specs.Outcome.{done_at, ◌then◌}
use Rattle.stages.specs.Images.{Pairs, flat, image, written, image_length, variables_of, homes_of, paths_of, fields_of, held, held_texts, is_some}
use Rattle.stages.specs.Line.{Around, Fields, expand_line}
use Rattle.stages.specs.Quote.{quoted_line}
use Rattle.stages.specs.Call.{Given, Answer, over, padded, or_refused, expanded, cleared, answered, expander, quoted_in, normaliser, quoting, quoter}
use Rattle.stages.proofs.Images.{Bytes, bytes_take, Fine, length_image, held_texts_image}
use Rattle.stages.proofs.Tables.{
  table_canonical,
  vars_of,
  variables_are,
  homes_of_lem,
  homes_are_lem,
  paths_of_lem,
  paths_are_lem,
  fields_image,
  fields_are,
  fields_of_lem,
}
use Rattle.stages.proofs.Answers.{fields_fine, FieldsImage, QuotedLine, expander_fits, normaliser_fits}
use Rattle.stages.proofs.RoundTrip.{quoted_image, quoted_expands}
use Rattle.stages.proofs.Rooms.{over_front, padded_same}

-- a call whose tables are well formed and whose work area is large enough; the variables' buffer holds bytes, which is known of a slice
pub record WellFormed (h : Given) : Type 0 where
  pub work : work_least ≤ length h.work
  pub used : h.vars_used ≤ length h.vars
  pub bytes : Bytes h.vars
  pub vars : is_some (variables_of (take h.vars_used h.vars)) ≡ true
  pub homes : is_some (homes_of h.homes) ≡ true
  pub paths : is_some (paths_of h.paths) ≡ true
  pub params : is_some (fields_of h.params) ≡ true

-- the answer that accepts, writes this text to the output and this image to the variables' buffer
abbrev writes : Given → Text → Text → Answer
writes h t w = record {
  number = accepted;
  place = 0;
  out_length = length t;
  vars_used = length w;
  out = over t h.out;
  vars = over (padded h.vars_used w) h.vars;
  work = cleared h.work;
  message_length = 0;
  message = h.message;
}

-- the same, all variables being as they were
abbrev pub unchanged : Given → Text → Answer
unchanged h t = record {
  number = accepted;
  place = 0;
  out_length = length t;
  vars_used = h.vars_used;
  out = over t h.out;
  vars = h.vars;
  work = cleared h.work;
  message_length = 0;
  message = h.message;
}

-- a buffer's own front, put over it, leaves it as it was
over_own : (n : ℕ) (t : Text) → n ≤ length t → over (take n t) t ≡ t
unfolding over
over_own n t h = rw (length-take-le n t h) (take-append-drop n t)

own_length : (n : ℕ) (t : Text) → n ≤ length t → n ≤ length (take n t)
own_length n t h = rw (length-take-le n t h) (omega arith)

-- a quoted line that has room is written
quoted_in_lem : (l : Fields) (out : ℕ) → length (quoted_line l) ≤ line_limit → length (quoted_line l) ≤ out → quoted_in out l ≡ done_at (quoted_line l)
unfolding quoted_in
quoted_in_lem l out short o = rw (le-leb (length (quoted_line l)) line_limit short, le-leb (length (quoted_line l)) out o)

module _ (h : Given) (r : WellFormed h) where
  -- the variables that are given
  abbrev given : Pairs
  given = held (take h.vars_used h.vars)

  given_image : image (flat given) ≡ take h.vars_used h.vars
  given_image =
      sym (table_canonical _ (take h.vars_used h.vars) (vars_of (take h.vars_used h.vars) r.vars)
      (bytes_take h.vars_used h.vars r.bytes))

  -- written again, they leave the buffer as it was
  kept : (t : Text) → answered h (done_at (t, given)) ≡ unchanged h t
  unfolding answered
  kept t =
      ap (writes h t) given_image
      ∙ rw (
        padded_same h.vars_used (take h.vars_used h.vars) (own_length h.vars_used h.vars r.used),
        over_own h.vars_used h.vars r.used,
        length-take-le h.vars_used h.vars r.used,
      )

  -- the quoted line of fields without a zero byte, expanded
  module _ (l : Fields) (f : Fine l) (e : h.line ≡ quoted_line l) (short : length (quoted_line l) ≤ line_limit) where
    -- what the expansion is lent
    abbrev lends : ℕ → Around
    lends out = record {
      lent = record { room = length h.vars; homes = held h.homes; params = held_texts h.params; shouts = h.shouts };
      out = out;
      paths = held_texts h.paths;
    }

    line_returns : (out : ℕ) → image_length l ≤ out → expanded h out ≡ done_at (l, given)
    unfolding expanded or_refused
    line_returns out o =
        rw (
          le-leb work_least (length h.work) r.work,
          le-leb h.vars_used (length h.vars) r.used,
          variables_are (take h.vars_used h.vars) (vars_of (take h.vars_used h.vars) r.vars),
          homes_are_lem h.homes (homes_of_lem h.homes r.homes),
          paths_are_lem h.paths (paths_of_lem h.paths r.paths),
          fields_are h.params (fields_of_lem h.params r.params),
        )
        (ap (λ (t : Text). expand_line (lends out) t given) e ∙ quoted_expands (lends out) l given f short o)

    expander_returns : length (image l) ≤ length h.out → expander h ≡ unchanged h (image l)
    unfolding expander
    expander_returns o =
        ap (λ p. answered h (p then λ r. done_at (image r.0, r.1))) (line_returns (length h.out) (rw (← length_image l) o)) ∙ kept (image l)

    normaliser_returns : length (quoted_line l) ≤ length h.out → normaliser h ≡ unchanged h (quoted_line l)
    unfolding normaliser
    normaliser_returns o =
        ap (λ p. answered h (p then λ r. quoted_in (length h.out) r.0 then λ t. done_at (t, r.1)))
        (line_returns image_limit (omega (arith, quoted_image l)))
        ∙ ap (λ q. answered h (q then λ t. done_at (t, given))) (quoted_in_lem l (length h.out) short o)
        ∙ kept (quoted_line l)

-- the bytes that a call wrote to its output
abbrev pub output : Answer → Text
output a = take a.out_length a.out

-- a fields image of these fields quotes to their line
quoter_returns : (l : Fields) (t out : Text) → fields_of t ≡ some l → length (quoted_line l) ≤ line_limit → length (quoted_line l) ≤ length out
    → quoter t out ≡ quoting out (done_at (quoted_line l))
unfolding quoter or_refused
quoter_returns l t out e short o = rw (e, quoted_in_lem l (length out) short o)

-- and their image is one
image_fields : (l : Fields) → Fine l → length (quoted_line l) ≤ line_limit → fields_of (image l) ≡ some l
image_fields l f short =
    let k : image_length l ≤ image_limit = omega (arith, quoted_image l) in
    fields_are (image l) (fields_image l f k) ∙ ap some (held_texts_image l f)

-- a call on the quoted line of these fields, with room for their image
pub record Asks (h : Given) (l : Fields) : Type 0 where
  pub formed : WellFormed h
  pub line : h.line ≡ quoted_line l
  pub room : length (image l) ≤ length h.out

-- For any fields whose quoted line is short enough there is such a call, with no records in its tables, with the switch of E14 in either position: no law
-- below is empty.
abbrev asking : Bool → Fields → Given
asking shouts l = record {
  work = replicate work_least 0;
  vars = image [];
  vars_used = length (image []);
  homes = image [];
  paths = image [];
  params = image [];
  line = quoted_line l;
  out = replicate image_limit 0;
  message = [];
  shouts = shouts;
}

version_byte : Bytes (image [])
unfolding image written
version_byte zero = omega arith
version_byte (suc i) = omega arith

pub asked : (shouts : Bool) (l : Fields) → length (quoted_line l) ≤ line_limit → Asks (asking shouts l) l
unfolding image written variables_of homes_of paths_of fields_of
asked shouts l short = record {
  formed = record {
    work = omega (arith, length-replicate {A = ℕ} work_least 0);
    used = omega arith;
    bytes = version_byte;
    vars = refl;
    homes = refl;
    paths = refl;
    params = refl;
  };
  line = refl;
  room = omega (arith, length_image l, quoted_image l, length-replicate {A = ℕ} image_limit 0);
}

-- What comes back: from any expander exactly these fields, their image at the output's front and no variable changed; from the quoter, of any
-- image of theirs, their line, and so of what an expander wrote; and from any normaliser that line again.
pub record Returned (l : Fields) : Type 0 where
  pub expands : (h : Given) → Asks h l → expander h ≡ unchanged h (image l)
  pub fields : (h : Given) → Asks h l → fields_of (output (expander h)) ≡ some l
  pub quotes : (t out : Text) → fields_of t ≡ some l → length (quoted_line l) ≤ length out → quoter t out ≡ quoting out (done_at (quoted_line l))
  pub again : (h : Given) → Asks h l → (out : Text) → length (quoted_line l) ≤ length out
      → quoter (output (expander h)) out ≡ quoting out (done_at (quoted_line l))
  pub normalises : (h : Given) → WellFormed h → h.line ≡ quoted_line l → length (quoted_line l) ≤ length h.out → normaliser h ≡
      unchanged h (quoted_line l)

module _ (l : Fields) (f : Fine l) (short : length (quoted_line l) ≤ line_limit) where
  expands_to : (h : Given) → Asks h l → expander h ≡ unchanged h (image l)
  expands_to h a = expander_returns h a.formed l f a.line short a.room

  fields_back : (h : Given) → Asks h l → fields_of (output (expander h)) ≡ some l
  fields_back h a = ap (λ r. fields_of (output r)) (expands_to h a) ∙ ap fields_of (over_front (image l) h.out) ∙ image_fields l f short

  returned : Returned l
  returned = record {
    expands = expands_to;
    fields = fields_back;
    quotes = λ t out e o. quoter_returns l t out e short o;
    again = λ h a out o. quoter_returns l (output (expander h)) out (fields_back h a) short o;
    normalises = λ h r e o. normaliser_returns h r l f e short o;
  }

-- DEMAND 3: "Any accepted line's fields, written as a quoted line of at most 2,048 bytes, expand under any other well-formed tables to exactly those fields,
-- change no variable, and quote to the same bytes."; E14: "with the switch in either position on either controller"
pub demand_3 : (g : Given) → (expander g).number ≡ accepted
    → (l : Fields) × (fields_of (output (expander g)) ≡ some l) × (length (quoted_line l) ≤ line_limit → Returned l)
demand_3 g e =
    let i : FieldsImage (output (expander g)) = ((expander_fits g).accepts e).output in
    (i.fields, i.reads, λ short. returned i.fields (fields_fine (output (expander g)) i.fields i.reads) short)

-- The normaliser's line is such a line already, so that it comes back as it is from any other call.
pub normalised : (g : Given) → (normaliser g).number ≡ accepted → (l : Fields) × (output (normaliser g) ≡ quoted_line l) × Returned l
normalised g e =
    let q : QuotedLine (output (normaliser g)) = ((normaliser_fits g).accepts e).output in
    (q.fields, q.is, returned q.fields q.fine (rw (← q.is) q.short))

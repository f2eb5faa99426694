-- Every call's answer is well formed, whatever is given: a refusal has a number of the table and leaves the buffers alone; an acceptance leaves
-- well-formed images within their room, zeros behind the variables' up to the used length that was given, and what is beyond as it was.
use Prim.Native.Nat.{ℕ, zero, suc, ◌+◌, ◌-◌, ◌≤◌}
use native.Mathlib.Omega.{arith}
use mathlib.Core.Path.{◌≡◌, refl, ap, ◌∙◌}
use mathlib.Core.Bool.{Bool, true, false, ◌&&◌, ◌||◌}
use mathlib.Core.List.{List, [], ◌∷◌, ◌++◌}
use mathlib.Core.Logic.{◌⊎◌, inl, inr}
use mathlib.Core.Option.{Option, none, some}
use lib.Dec.{leb, eqb}
use lib.ListN.{length, take, drop, replicate, length-replicate}
use lib.Seq.{length-take-le}
use borrow.Author.Tests.{leb-true, eqb-true}
use Rattle.stages.specs.Numbers.{accepted, work_too_small, bad_variables, bad_homes, bad_paths, zero_byte, unended, too_deep, demanded, too_many_units}
use Rattle.stages.specs.Numbers.{variable_room, output_room, bad_fields, bad_parameters, unset_name, work_least, line_limit, image_limit}
use Rattle.stages.specs.Bytes.{Text, all, not_zero, between}
use Rattle.stages.specs.Outcome.{Placed, refused_at, demands_at, done_at, ◌then◌}
use Rattle.stages.specs.Images.{Pairs, is_name, is_login, flat, image, image_length, held, held_texts, variables_of, homes_of, paths_of, fields_of}
use Rattle.stages.specs.Line.{Fields}
use Rattle.stages.specs.Quote.{quoted_line}
use Rattle.stages.specs.Call.{Given, Answer, over, padded, or_refused, expanded, cleared, shown, answered, expander, quoted_in, normaliser}
use Rattle.stages.specs.Call.{Quoting, quoting, quoter}
use Rattle.stages.proofs.Bools.{no, and_left, and_right, or_cases, or_left, or_right, between_bounds}
use Rattle.stages.proofs.Rooms.{over_front, over_behind, over_length, padded_front, padded_behind, padded_length}
use Rattle.stages.proofs.Images.{Fine, length_image, held_image, held_texts_image}
use Rattle.stages.proofs.Tables.{Table, table_of, table_fine, table_length, table_image, variables_are, Paths, paths_held, texts_held_fine}
use Rattle.stages.proofs.Tables.{fields_held, fields_image, fields_are}
use Rattle.stages.proofs.Outcomes.{is_fault, is_early, is_late, is_listed, SafeBy, SafeAt, early, refuses_at, asks_at, gives_at, safe_then}
use Rattle.stages.proofs.Outcomes.{safe_weaker_at, safe_require}
use Rattle.stages.proofs.SafeRows.{Kept}
use Rattle.stages.proofs.SafeLines.{Ready, line_safe}

-- what an answer is

-- a refusal: "On refusal the output length is 0, the used length is the one given, and output and variable buffers hold their old bytes."
pub record Refuses (g : Given) (a : Answer) : Type 0 where
  pub listed : is_listed a.number ≡ true
  pub before : is_early a.number ≡ true → a.place ≡ 0  -- 01: "it is 0 for 1 to 6"; E5: 23 has "place 0"
  pub inside : a.place ≤ length g.line - 1  -- else "the offset of the first byte of the word", or of the operator, or 0
  pub nothing : a.out_length ≡ 0
  pub same_used : a.vars_used ≡ g.vars_used
  pub same_out : a.out ≡ g.out
  pub same_vars : a.vars ≡ g.vars

-- an acceptance: the output's new bytes are as P says, and what is behind them is as it was; the variables' new image is well formed, and by E9 and E10 "bytes
-- behind the new image are zero up to the old used length (the one given), and kept beyond it"
pub record Accepts (P : Text → Type 0) (g : Given) (a : Answer) : Type 0 where
  pub place : a.place ≡ 0
  pub output : P (take a.out_length a.out)
  pub out_fits : a.out_length ≤ length g.out
  pub behind_out : drop a.out_length a.out ≡ drop a.out_length g.out
  pub table : Pairs
  pub stored : variables_of (take a.vars_used a.vars) ≡ some table
  pub vars_fit : a.vars_used ≤ length g.vars
  pub small : a.vars_used ≤ image_limit
  pub behind_vars : drop a.vars_used a.vars ≡ replicate (g.vars_used - a.vars_used) 0 ++ drop (a.vars_used + (g.vars_used - a.vars_used)) g.vars

-- E7: "Its bytes without marks are written from the buffer's start, cut to the buffer": some text without a zero byte
pub record Message (g : Given) (a : Answer) : Type 0 where
  pub whole : Text
  pub clean : all not_zero whole ≡ true
  pub written : take a.message_length a.message ≡ shown g whole

-- "On every other answer the message length is 0 and the buffer keeps its bytes; on 13 the bytes behind the message are kept."
pub record Tells (g : Given) (a : Answer) : Type 0 where
  pub kept : length a.message ≡ length g.message
  pub fits : a.message_length ≤ length g.message
  pub behind : drop a.message_length a.message ≡ drop a.message_length g.message
  pub quiet : (a.number ≡ demanded → ⊥) → (a.message_length ≡ 0) × (a.message ≡ g.message)
  pub says : a.number ≡ demanded → Message g a

-- "The work area is zero throughout after every call of expander or normaliser", and no buffer has another length
pub record Fits (P : Text → Type 0) (g : Given) (a : Answer) : Type 0 where
  pub clear : a.work ≡ replicate (length g.work) 0
  pub work_kept : length a.work ≡ length g.work
  pub out_kept : length a.out ≡ length g.out
  pub vars_kept : length a.vars ≡ length g.vars
  pub tells : Tells g a
  pub refuses : (a.number ≡ accepted → ⊥) → Refuses g a
  pub accepts : a.number ≡ accepted → Accepts P g a

-- variables that may be written, where the used length that was given lies in the buffer
pub record Settles (g : Given) (v : Pairs) : Type 0 where
  pub kept : Kept (length g.vars) v
  pub used : g.vars_used ≤ length g.vars

-- what may be written: a text that P holds of, no longer than the output, and such variables
pub record Writes (P : Text → Type 0) (g : Given) (r : Text × Pairs) : Type 0 where
  pub output : P r.0
  pub fits : length r.0 ≤ length g.out
  pub settles : Settles g r.1

-- a number is no other one's
not_demanded : (n : ℕ) → is_early n ≡ true → n ≡ demanded → ⊥
not_demanded n e k = no (rw k at e)

late_not_demanded : (n : ℕ) → is_late n ≡ true → n ≡ demanded → ⊥
late_not_demanded n e k = no (rw k at e)

-- a number that comes of the line is none of those before
late_not_early : (n : ℕ) → is_late n ≡ true → is_early n ≡ true → ⊥
late_not_early n l e = go (or_cases (between work_too_small n zero_byte) (eqb n bad_parameters) e)
  where
    first : (between unended n too_deep ≡ true) ⊎ ((between too_many_units n variable_room || eqb n unset_name) ≡ true) → unended ≤ n
    first (inl h) = (between_bounds unended n too_deep h).0
    first (inr h) = go (or_cases (between too_many_units n variable_room) (eqb n unset_name) h)
      where
        go : (between too_many_units n variable_room ≡ true) ⊎ (eqb n unset_name ≡ true) → unended ≤ n
        go (inl h) = let b = between_bounds too_many_units n variable_room h in omega (arith, b.0)
        go (inr h) = let k = eqb-true n unset_name h in omega arith

    behind : (is_fault n ≡ true) ⊎ (eqb n output_room ≡ true) → unended ≤ n
    behind (inl h) = first (or_cases (between unended n too_deep) (between too_many_units n variable_room || eqb n unset_name) h)
    behind (inr h) = let k = eqb-true n output_room h in omega arith

    go : (between work_too_small n zero_byte ≡ true) ⊎ (eqb n bad_parameters ≡ true) → ⊥
    go (inl h) = let b = between_bounds work_too_small n zero_byte h in omega (arith, b.1, behind (or_cases (is_fault n) (eqb n output_room) l))
    go (inr h) = no (rw (eqb-true n bad_parameters h) at l)

-- a message is cut to the buffer
take_short : (n : ℕ) (t : Text) → length (take n t) ≤ n
take_short zero t = omega arith
take_short (suc n) [] = omega arith
take_short (suc n) (b ∷ t) = omega (arith, take_short n t)

module _ (g : Given) where
  pub cleared_length : length (cleared g.work) ≡ length g.work
  unfolding cleared
  cleared_length = length-replicate (length g.work) 0

  refuses_fits : (P : Text → Type 0) (n place : ℕ) → is_listed n ≡ true → (n ≡ demanded → ⊥) → place ≤ length g.line - 1
      → (is_early n ≡ true → place ≡ 0)
      → Fits P g (answered g (refused_at n place))
  unfolding answered cleared
  refuses_fits P n place m d i h = record {
    clear = refl;
    work_kept = cleared_length;
    out_kept = refl;
    vars_kept = refl;
    tells = record { kept = refl; fits = omega arith; behind = refl; quiet = λ _. (refl, refl); says = λ k. absurd (d k) };
    refuses = λ _. record { listed = m; inside = i; before = h; nothing = refl; same_used = refl; same_out = refl; same_vars = refl };
    accepts = λ e. absurd (no (rw e at m));
  }

  module _ (t : Text) (place : ℕ) (z : all not_zero t ≡ true) (i : place ≤ length g.line - 1) where
    demand_tells : Tells g (answered g (demands_at t place))
    unfolding answered shown
    demand_tells = record {
      kept = over_length (shown g t) g.message (take_short (length g.message) t);
      fits = take_short (length g.message) t;
      behind = over_behind (shown g t) g.message;
      quiet = λ h. absurd (h refl);
      says = λ _. record { whole = t; clean = z; written = over_front (shown g t) g.message };
    }

    demand_refuses : Refuses g (answered g (demands_at t place))
    unfolding answered
    demand_refuses = record {
      listed = refl;
      inside = i;
      before = λ e. absurd (not_demanded demanded e refl);
      nothing = refl;
      same_used = refl;
      same_out = refl;
      same_vars = refl;
    }

    demand_fits : (P : Text → Type 0) → Fits P g (answered g (demands_at t place))
    unfolding answered cleared
    demand_fits P = record {
      clear = refl;
      work_kept = cleared_length;
      out_kept = refl;
      vars_kept = refl;
      tells = demand_tells;
      refuses = λ _. demand_refuses;
      accepts = λ e. absurd (let k : ◌≡◌ {A = ℕ} demanded accepted = e in omega arith);
    }

  module _ (v : Pairs) (k : Kept (length g.vars) v) where
    kept_fits : length (image (flat v)) ≤ length g.vars
    kept_fits = rw (length_image (flat v)) k.fits

    kept_stored : variables_of (take (length (image (flat v))) (over (padded g.vars_used (image (flat v))) g.vars)) ≡ some v
    kept_stored =
        rw (padded_front g.vars_used (image (flat v)) g.vars)
        (variables_are (image (flat v)) (table_image is_name v k.fine k.passes k.rises k.small) ∙ ap some (held_image v k.fine))

  accepts_fits : (P : Text → Type 0) (r : Text × Pairs) → Writes P g r → Fits P g (answered g (done_at r))
  unfolding answered cleared
  accepts_fits P r w = record {
    clear = refl;
    work_kept = cleared_length;
    out_kept = over_length r.0 g.out w.fits;
    vars_kept = padded_length g.vars_used (image (flat r.1)) g.vars (kept_fits r.1 w.settles.kept) w.settles.used;
    tells = record {
      kept = refl;
      fits = omega arith;
      behind = refl;
      quiet = λ _. (refl, refl);
      says = λ k. absurd (let z : ◌≡◌ {A = ℕ} accepted demanded = k in omega arith);
    };
    refuses = λ h. absurd (h refl);
    accepts = λ _. record {
      place = refl;
      output = rw (over_front r.0 g.out) w.output;
      out_fits = w.fits;
      behind_out = over_behind r.0 g.out;
      table = r.1;
      stored = kept_stored r.1 w.settles.kept;
      vars_fit = kept_fits r.1 w.settles.kept;
      small = rw (length_image (flat r.1)) w.settles.kept.small;
      behind_vars = padded_behind g.vars_used (image (flat r.1)) g.vars;
    };
  }

  pub answered_fits : (P : Text → Type 0) {o : Placed (Text × Pairs)} → SafeAt (length g.line) (Writes P g) o → Fits P g (answered g o)
  answered_fits P (early {n = n} e) =
      refuses_fits P n 0 (or_left (is_late n || eqb n demanded) e) (not_demanded n e) (omega arith) (λ _. refl)
  answered_fits P (refuses_at {n = n} {place = place} e l) =
      refuses_fits P n place (or_right (is_early n) (or_left (eqb n demanded) e)) (late_not_demanded n e) l (λ h. absurd (late_not_early n e h))
  answered_fits P (asks_at {t = t} {place = place} z l) = demand_fits t place z l P
  answered_fits P (gives_at {a = r} w) = accepts_fits P r w

-- the tables that are given

pub some_safe : {A : Type 0} {first other : ℕ → Bool} (size n : ℕ) (o : Option A) → first n ≡ true → SafeBy first other size (λ a. o ≡ some a) (or_refused n o)
unfolding or_refused
some_safe size n none e = early e
some_safe size n (some a) e = gives_at refl

pub vars_kept_lem : (vars : Text) (used : ℕ) (v : Pairs) → used ≤ length vars → variables_of (take used vars) ≡ some v → Kept (length vars) v
unfolding variables_of
vars_kept_lem vars used v l e =
    let b : (held (take used vars) ≡ v) × Table is_name (take used vars) = table_of is_name (take used vars) v e in
    let n : length (take used vars) ≡ used = length-take-le used vars l in
    let m : length (take used vars) ≡ image_length (flat (held (take used vars))) = table_length is_name (take used vars) b.1 in
    rw (← b.0) (record {
      fine = table_fine is_name (take used vars) b.1;
      passes = b.1.passes;
      rises = b.1.rises;
      fits = omega arith;
      small = omega (arith, b.1.small);
    })

pub homes_fine : (t : Text) (h : Pairs) → homes_of t ≡ some h → Fine (flat h)
unfolding homes_of
homes_fine t h e = let b : (held t ≡ h) × Table is_login t = table_of is_login t h e in rw (← b.0) (table_fine is_login t b.1)

paths_fine : (t : Text) (l : List Text) → paths_of t ≡ some l → Fine l
paths_fine t l e = let b : (held_texts t ≡ l) × Paths t = paths_held t l e in rw (← b.0) (texts_held_fine t b.1.table)

-- fields of an image hold no zero byte
pub fields_fine : (t : Text) (l : Fields) → fields_of t ≡ some l → Fine l
fields_fine t l e = rw (fields_held t l e).0 at (texts_held_fine t (fields_held t l e).1.table)

-- what a line gives, and that the used length was within the buffer
record ReadyIn (g : Given) (out : ℕ) (r : Fields × Pairs) : Type 0 where
  ready : Ready (length g.vars) out r
  used : g.vars_used ≤ length g.vars

expanded_ready : (g : Given) (out : ℕ) → SafeAt (length g.line) (ReadyIn g out) (expanded g out)
unfolding expanded
expanded_ready g out =
    safe_then _ (safe_require (leb work_least (length g.work)) work_too_small 0 (early refl))
    (λ _ _. safe_then _ (safe_require (leb g.vars_used (length g.vars)) bad_variables 0 (early refl))
    (λ _ l. safe_then _ (some_safe (length g.line) bad_variables (variables_of (take g.vars_used g.vars)) refl)
    (λ v e. safe_then _ (some_safe (length g.line) bad_homes (homes_of g.homes) refl)
    (λ h f. safe_then _ (some_safe (length g.line) bad_paths (paths_of g.paths) refl)
    (λ p i. safe_then _ (some_safe (length g.line) bad_parameters (fields_of g.params) refl)
    (λ ps j. safe_weaker_at (λ r k. record { ready = k; used = leb-true g.vars_used (length g.vars) l })
    (line_safe (record { lent = record { room = length g.vars; homes = h; params = ps; shouts = g.shouts }; out = out; paths = p })
    (record { homes = homes_fine g.homes h f; params = fields_fine g.params ps j })
    (paths_fine g.paths p i) g.line v
    (vars_kept_lem g.vars g.vars_used v (leb-true g.vars_used (length g.vars) l) e))))))))

pub expanded_safe : (g : Given) (out : ℕ) → SafeAt (length g.line) (Ready (length g.vars) out) (expanded g out)
expanded_safe g out = safe_weaker_at (λ r h. h.ready) (expanded_ready g out)

-- the expander

-- a well-formed fields image
pub record FieldsImage (t : Text) : Type 0 where
  pub fields : Fields
  pub reads : fields_of t ≡ some fields
  pub small : length t ≤ image_limit

image_reads : (l : Fields) → Fine l → image_length l ≤ image_limit → FieldsImage (image l)
image_reads l f n = record {
  fields = l;
  reads = fields_are (image l) (fields_image l f n) ∙ ap some (held_texts_image l f);
  small = rw (length_image l) n;
}

pub expander_fits : (g : Given) → Fits FieldsImage g (expander g)
unfolding expander
expander_fits g =
    answered_fits g FieldsImage (safe_then (λ r. done_at (image r.0, r.1)) (expanded_ready g (length g.out))
    (λ r h. gives_at (record {
      output = image_reads r.0 h.ready.fine h.ready.small;
      fits = rw (length_image r.0) h.ready.fits;
      settles = record { kept = h.ready.kept; used = h.used };
    })))

-- the normaliser

-- the quoted line of fields that an image may hold
pub record QuotedLine (t : Text) : Type 0 where
  pub fields : Fields
  pub is : t ≡ quoted_line fields
  pub short : length t ≤ line_limit
  pub fine : Fine fields
  pub small : image_length fields ≤ image_limit

-- a line that passes 21
record Fitting (out : ℕ) (l : Fields) (t : Text) : Type 0 where
  is : t ≡ quoted_line l
  short : length t ≤ line_limit
  fits : length t ≤ out

quoted_safe : (size out : ℕ) (l : Fields) → SafeAt size (Fitting out l) (quoted_in out l)
unfolding quoted_in
quoted_safe size out l =
    let n : ℕ = length (quoted_line l) in
    safe_then _ (safe_require (leb (length (quoted_line l)) line_limit && leb (length (quoted_line l)) out) output_room 0
    (refuses_at {place = 0} refl (omega arith)))
    (λ _ e. gives_at (record {
      is = refl;
      short = leb-true n line_limit (and_left (leb n line_limit) (leb n out) e);
      fits = leb-true n out (and_right (leb n line_limit) (leb n out) e);
    }))

pub normaliser_fits : (g : Given) → Fits QuotedLine g (normaliser g)
unfolding normaliser
normaliser_fits g =
    answered_fits g QuotedLine (safe_then _ (expanded_ready g image_limit)
    (λ r h. safe_then _ (quoted_safe (length g.line) (length g.out) r.0)
    (λ t q. gives_at (record {
      output = record { fields = r.0; is = q.is; short = q.short; fine = h.ready.fine; small = h.ready.small };
      fits = q.fits;
      settles = record { kept = h.ready.kept; used = h.used };
    }))))

-- the quoter

pub record QuoterAccepts (fields out : Text) (q : Quoting) : Type 0 where
  pub list : Fields
  pub reads : fields_of fields ≡ some list
  pub output : take q.out_length q.out ≡ quoted_line list
  pub short : q.out_length ≤ line_limit
  pub out_fits : q.out_length ≤ length out
  pub behind : drop q.out_length q.out ≡ drop q.out_length out

-- "place .. is 0 .. for 22, and for 21 from the quoter": on refusal the number is one of these
pub record QuoterFits (fields out : Text) (q : Quoting) : Type 0 where
  pub place : q.place ≡ 0
  pub out_kept : length q.out ≡ length out
  pub refuses : (q.number ≡ accepted → ⊥) → (output_room ≤ q.number) × (q.number ≤ bad_fields) × (q.out_length ≡ 0) × (q.out ≡ out)
  pub accepts : q.number ≡ accepted → QuoterAccepts fields out q

module _ (fields out : Text) where
  quoter_refuses : (n : ℕ) → output_room ≤ n → n ≤ bad_fields → QuoterFits fields out (quoting out (refused_at n 0))
  unfolding quoting
  quoter_refuses n l m = record { place = refl; out_kept = refl; refuses = λ _. (l, m, refl, refl); accepts = λ e. absurd (omega arith) }

  quoter_quotes : (l : Fields) → fields_of fields ≡ some l → (x : Bool) →
      (leb (length (quoted_line l)) line_limit && leb (length (quoted_line l)) (length out)) ≡ x
      → QuoterFits fields out (quoting out (quoted_in (length out) l))
  unfolding quoted_in quoting
  quoter_quotes l r false e = rw e (quoter_refuses output_room (omega arith) (omega arith))
  quoter_quotes l r true e =
      let n : ℕ = length (quoted_line l) in
      let i : n ≤ line_limit = leb-true n line_limit (and_left (leb n line_limit) (leb n (length out)) e) in
      let j : n ≤ length out = leb-true n (length out) (and_right (leb n line_limit) (leb n (length out)) e) in
      rw e (record {
        place = refl;
        out_kept = over_length (quoted_line l) out j;
        refuses = λ h. absurd (h refl);
        accepts = λ _. record {
          list = l;
          reads = r;
          output = over_front (quoted_line l) out;
          short = i;
          out_fits = j;
          behind =
              over_behind (quoted_line l) out;
        };
      })

  pub quoter_fits : QuoterFits fields out (quoter fields out)
  unfolding quoter or_refused
  quoter_fits = go (fields_of fields) refl
    where
      go : (o : Option Fields) → fields_of fields ≡ o → QuoterFits fields out
          (quoting out (or_refused bad_fields (fields_of fields) then λ l. quoted_in (length out) l))
      go none e = rw e (quoter_refuses bad_fields (omega arith) (omega arith))
      go (some l) e = rw e (quoter_quotes l e (leb (length (quoted_line l)) line_limit && leb (length (quoted_line l)) (length out)) refl)

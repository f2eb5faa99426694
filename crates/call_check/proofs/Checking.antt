-- The order of the checks: each refusal is the stage's where those before it are passed.
use Prim.Native.Nat.{ℕ, ◌+◌, ◌≤◌}
use native.Mathlib.Omega.{arith}
use mathlib.Core.Path.{◌≡◌, refl, sym, ap, ◌∙◌}
use mathlib.Core.Bool.{Bool, true, false, not, ◌&&◌, and-false}
use mathlib.Core.List.{List, [], ◌∷◌, ◌++◌}
use lib.Dec.{leb}
use lib.ListN.{length, take}
use borrow.Author.Tests.{le-leb, lt-leb, leb-true, leb-false}
use Rattle.stages.specs.Numbers.{work_too_small, bad_variables, bad_homes, bad_paths, bad_parameters, output_room}
use Rattle.stages.specs.Numbers.{work_least, line_limit, image_limit}
use Rattle.stages.specs.Bytes.{Text, is_in}
use Rattle.stages.specs.Outcome.{Outcome, refused, demands, done, Placed, refused_at, done_at, placed_at, ◌then◌, require, pick}
use Rattle.stages.specs.Images.{Pairs, is_some, held, variables_of, homes_of, paths_of, fields_of, record_bytes}
use Rattle.stages.specs.Syntax.{Word, Assignment}
use Rattle.stages.specs.Read.{read_line}
use Rattle.stages.specs.Line.{Around, Fields, out_fits, word_fields, expand_words, expand_line}
use Rattle.stages.specs.Params.{Lent}
use Rattle.stages.specs.Assign.{read_assignments, assign_all, assign_line}
use Rattle.stages.specs.Call.{Given, or_refused, expanded, assigned}
use Rattle.stages.proofs.Bools.{no, apart}
use Rattle.stages.proofs.Tables.{none_of, vars_of, variables_are, homes_of_lem, homes_are_lem, paths_of_lem, paths_are_lem, fields_of_lem, fields_are}
use Rattle.stages.proofs.Safe.{NoZero}
use Rattle.stages.proofs.SafeLines.{no_zero}
use Rattle.text.proofs.Zeros.{zero_among}
use Rattle.table.specs.Places.{Listed}
use Rattle.table.specs.Around.{lent_of}
use Rattle.read_line.specs.Says.{verdict, verdict_of}
use Rattle.std.specs.Prelude.{Result, Ok, Err}
use Rattle.text.specs.declared.refusal.Refused.{Refused}
use Rattle.read_line.proofs.Lines.{Accepted, passed, refused_of}
use Rattle.call_check.specs.Calls.{room_of, worked}
use Rattle.call_check.specs.Checks.{room_in, around, Lends, Unlent, small_area, used_beyond, vars_bad, homes_bad}
use Rattle.call_check.specs.Checks.{Plain, Unplain, too_long, has_zero, Tabled, Passed, Stopped}
use Rattle.call_check.specs.Checks.{AssignPassed, AssignStopped, AssignChecks}
use Rattle.call_check.specs.declared.Job.{Job}

-- a line that 6 refuses
zero_in : (t : Text) → is_in 0 t ≡ true → NoZero t → ⊥
zero_in t e z = no (sym (zero_among t ∙ ap not z) ∙ e)

-- what is refused is not read
refused_read : {A : Type 0} {w : Placed A} {n place : ℕ} {a : A} → w ≡ refused_at n place → w ≡ done_at a → ⊥
refused_read h e = let z : ◌≡◌ {A = ℕ} 0 1 = cc in omega arith

-- 1 to 3, whatever is worked out behind them

unlent_lends : {work vars houses : Text} {used n place : ℕ} → Unlent work vars used houses n place → Lends work vars used houses → ⊥
unlent_lends (small_area h) t = omega (arith, h, t.area)
unlent_lends (used_beyond a h) t = omega (arith, h, t.inside)
unlent_lends (vars_bad a i h) t = apart h t.formed
unlent_lends (homes_bad a i v h) t = apart h t.housed

module _ {A : Type 0} (g : Given) (k : Pairs → Pairs → Placed A) where
  abbrev lent_then : Placed A
  lent_then =
      require (leb work_least (length g.work)) work_too_small 0 then λ _.
      require (leb g.vars_used (length g.vars)) bad_variables 0 then λ _.
      or_refused bad_variables (variables_of (take g.vars_used g.vars)) then λ v.
      or_refused bad_homes (homes_of g.homes) then λ h.
      k v h

  lent_refused : {n place : ℕ} → Unlent g.work g.vars g.vars_used g.homes n place → lent_then ≡ refused_at n place
  unfolding or_refused
  lent_refused (small_area h) = rw (lt-leb work_least (length g.work) h)
  lent_refused (used_beyond a h) = rw (le-leb work_least (length g.work) a, lt-leb g.vars_used (length g.vars) h)
  lent_refused (vars_bad a i h) =
      rw (le-leb work_least (length g.work) a, le-leb g.vars_used (length g.vars) i, none_of (variables_of (take g.vars_used g.vars)) h)
  lent_refused (homes_bad a i v h) =
      rw (
        le-leb work_least (length g.work) a,
        le-leb g.vars_used (length g.vars) i,
        variables_are _ (vars_of _ v),
        none_of (homes_of g.homes) h,
      )

  lent_passed : Lends g.work g.vars g.vars_used g.homes → lent_then ≡ k (held (take g.vars_used g.vars)) (held g.homes)
  unfolding or_refused
  lent_passed t =
      rw (
        le-leb work_least (length g.work) t.area,
        le-leb g.vars_used (length g.vars) t.inside,
        variables_are _ (vars_of _ t.formed),
        homes_are_lem _ (homes_of_lem _ t.housed),
      )

-- 1 to 4 and 23 before words

module _ (job : Job) (g : Given) where
  abbrev behind_lent : Pairs → Pairs → Placed (Fields × Pairs)
  behind_lent v h =
      or_refused bad_paths (paths_of g.paths) then λ p.
      or_refused bad_parameters (fields_of g.params) then λ ps.
      expand_line (record {
        lent = record { room = length g.vars; homes = h; params = ps; shouts = g.shouts };
        out = room_of job (length g.out);
        paths = p;
      }) g.line v

  worked_lent : worked job g ≡ lent_then g behind_lent
  unfolding expanded
  worked_lent = refl

  abbrev tables_lend : Tabled g → Lends g.work g.vars g.vars_used g.homes
  tables_lend t = record { area = t.area; inside = t.inside; formed = t.formed; housed = t.housed }

  pub lent_stops : {n place : ℕ} → Unlent g.work g.vars g.vars_used g.homes n place → Stopped job g n place
  lent_stops u = record { is = worked_lent ∙ lent_refused g behind_lent u; early = λ p. unlent_lends u (tables_lend p.tables) }

  module _ (t : Lends g.work g.vars g.vars_used g.homes) where
    pub paths_bad : is_some (paths_of g.paths) ≡ false → Stopped job g bad_paths 0
    unfolding or_refused
    paths_bad h =
        record { is = worked_lent ∙ lent_passed g behind_lent t ∙ rw (none_of (paths_of g.paths) h); early = λ p. apart h p.tables.listed }

    module _ (l : is_some (paths_of g.paths) ≡ true) where
      pub parameters_bad : is_some (fields_of g.params) ≡ false → Stopped job g bad_parameters 0
      unfolding or_refused
      parameters_bad h = record {
        is = worked_lent ∙ lent_passed g behind_lent t ∙ rw (paths_are_lem _ (paths_of_lem _ l), none_of (fields_of g.params) h);
        early = λ p. apart h p.tables.numbered;
      }

      pub tables_fine : is_some (fields_of g.params) ≡ true → Tabled g
      tables_fine n = record { area = t.area; inside = t.inside; formed = t.formed; housed = t.housed; listed = l; numbered = n }

-- E9: 1 to 3 and 23 before assignments

module _ (g : Given) where
  abbrev behind_tables : Pairs → Pairs → Placed Pairs
  behind_tables v h =
      or_refused bad_parameters (fields_of g.params) then λ ps.
      assign_line (record { room = length g.vars; homes = h; params = ps; shouts = g.shouts }) g.line v

  assigned_lent : assigned g ≡ lent_then g behind_tables
  unfolding assigned
  assigned_lent = refl

  pub assign_unlent : {n place : ℕ} → Unlent g.work g.vars g.vars_used g.homes n place → AssignStopped g n place
  assign_unlent u = record { is = assigned_lent ∙ lent_refused g behind_tables u; early = λ p. unlent_lends u p.tables }

  module _ (t : Lends g.work g.vars g.vars_used g.homes) where
    pub assign_unnumbered : is_some (fields_of g.params) ≡ false → AssignStopped g bad_parameters 0
    unfolding or_refused
    assign_unnumbered h =
        record { is = assigned_lent ∙ lent_passed g behind_tables t ∙ rw (none_of (fields_of g.params) h); early = λ p. apart h p.numbered }

    module _ (n : is_some (fields_of g.params) ≡ true) where
      abbrev lent : Lent
      lent = lent_of (length g.vars) g.shouts g.homes g.params

      values_left : assigned g ≡ assign_line lent g.line (held (take g.vars_used g.vars))
      unfolding or_refused
      values_left = assigned_lent ∙ lent_passed g behind_tables t ∙ rw (fields_are _ (fields_of_lem _ n))

      pub assign_unplain : {e place : ℕ} → Unplain g.line e place → AssignStopped g e place
      unfolding assign_line
      assign_unplain (too_long h) = record { is = values_left ∙ rw (lt-leb (length g.line) line_limit h); early = λ p. omega (arith, h, p.short) }
      assign_unplain (has_zero l h) =
          record { is = values_left ∙ rw (le-leb (length g.line) line_limit l, h); early = λ p. zero_in g.line h p.clean }

      module _ (p : Plain g.line) where
        abbrev then_all : Placed (List Assignment) → Placed Pairs
        then_all w = w then λ ws. assign_all lent ws (held (take g.vars_used g.vars))

        values_read : assigned g ≡ then_all (read_assignments g.line)
        unfolding assign_line
        values_read = values_left ∙ rw (le-leb (length g.line) line_limit p.short, p.whole)

        assign_unread : {e place : ℕ} → verdict (read_assignments g.line) ≡ refused_at e place → AssignStopped g e place
        assign_unread {e} {place} h =
            let r = refused_of (read_assignments g.line) e place h in
            record { is = values_read ∙ ap then_all r; early = λ q. refused_read r q.read }

        assign_passed : verdict (read_assignments g.line) ≡ done_at tt → AssignPassed g
        assign_passed h =
            let r = passed (read_assignments g.line) h in
            record {
              tables = t;
              numbered = n;
              short = p.short;
              clean = no_zero g.line (rw p.whole);
              words = r.all;
              read = r.is;
              is = values_read ∙ ap then_all r.is;
            }

        pub assign_read : (r : Result (Unit {0}) Refused) → verdict (read_assignments g.line) ≡ verdict_of r → AssignChecks g r
        assign_read (Ok u) h = assign_passed h
        assign_read (Err e) h = assign_unread h

-- a list that 23 lets pass
module _ {g : Given} (t : Tabled g) where
  pub params_listed : Listed g.params
  params_listed = (fields_of_lem _ t.numbered).table

  pub params_small : length g.params ≤ image_limit
  params_small = (fields_of_lem _ t.numbered).small

-- 5 and 6, reading, the empty image

module _ (job : Job) (g : Given) (t : Tabled g) where
  abbrev v : Pairs
  v = held (take g.vars_used g.vars)

  abbrev out : ℕ
  out = room_of job (length g.out)

  tables_passed : expanded g out ≡ expand_line (around g out) g.line v
  unfolding or_refused
  tables_passed =
      worked_lent job g
      ∙ lent_passed g (behind_lent job g) (tables_lend job g t)
      ∙ rw (paths_are_lem _ (paths_of_lem _ t.listed), fields_are _ (fields_of_lem _ t.numbered))

  pub line_unplain : {n place : ℕ} → Unplain g.line n place → Stopped job g n place
  unfolding expand_line
  line_unplain (too_long h) = record { is = tables_passed ∙ rw (lt-leb (length g.line) line_limit h); early = λ p. omega (arith, h, p.short) }
  line_unplain (has_zero l h) =
      record { is = tables_passed ∙ rw (le-leb (length g.line) line_limit l, h); early = λ p. zero_in g.line h p.clean }

  module _ (l : length g.line ≤ line_limit) where
    module _ (z : is_in 0 g.line ≡ false) where
      pub line_refused : (n place : ℕ) → read_line g.line ≡ refused_at n place → Stopped job g n place
      unfolding expand_line
      line_refused n place h =
          record { is = tables_passed ∙ rw (le-leb (length g.line) line_limit l, z, h); early = λ p. refused_read h p.read }

      module _ (ws : List Word) (r : read_line g.line ≡ done_at ws) where
        line_no_room : out_fits (around g out) 1 ≡ false → expanded g out ≡ refused_at output_room 0
        unfolding expand_line
        line_no_room h = tables_passed ∙ rw (le-leb (length g.line) line_limit l, z, r, h)

        line_passed : out_fits (around g out) 1 ≡ true → expanded g out ≡ expand_words (around g out) ws 1 v
        unfolding expand_line
        line_passed h = tables_passed ∙ rw (le-leb (length g.line) line_limit l, z, r, h)

-- an output of more than 8,192 bytes is as good as one of 8,192

abbrev capped : ℕ → ℕ
capped out = pick (leb out image_limit) out image_limit

capped_by : (n out : ℕ) (x y : Bool) → leb out image_limit ≡ x → leb n image_limit ≡ y → (leb n out && y) ≡ (leb n (pick x out image_limit) && y)
capped_by n out true y d e = refl
capped_by n out false true d e = rw (e, le-leb n out (omega (arith, leb-false out image_limit d, leb-true n image_limit e)))
capped_by n out false false d e = and-false (leb n out) ∙ sym (and-false (leb n image_limit))

module _ (g : Given) (out : ℕ) where
  fits_capped : (n : ℕ) → out_fits (around g out) n ≡ out_fits (around g (capped out)) n
  unfolding out_fits
  fits_capped n = capped_by n out (leb out image_limit) (leb n image_limit) refl refl

  -- the fields of a word in front of those behind it, if they fit
  abbrev joined : ℕ → Fields → Placed (Fields × Pairs) → Bool → Placed (Fields × Pairs)
  joined place l o fits = require fits output_room place then λ _. o then λ s. done_at (l ++ s.0, s.1)

  -- a word's fields, and the words behind it
  abbrev behind : Word → List Word → ℕ → Around → Fields × Pairs → Placed (Fields × Pairs)
  behind w ws n a r = joined w.place r.0 (expand_words a ws (n + record_bytes r.0) r.1) (out_fits a (n + record_bytes r.0))

  behind_capped : (w : Word) (ws : List Word) (n : ℕ) →
      ((m : ℕ) (v : Pairs) → expand_words (around g out) ws m v ≡ expand_words (around g (capped out)) ws m v)
      → (o : Outcome (Fields × Pairs))
      → (placed_at w.place o then behind w ws n (around g out)) ≡ (placed_at w.place o then behind w ws n (around g (capped out)))
  behind_capped w ws n ih (refused k) = refl
  behind_capped w ws n ih (demands t) = refl
  behind_capped w ws n ih (done r) =
      ap (joined w.place r.0 (expand_words (around g out) ws (n + record_bytes r.0) r.1)) (fits_capped (n + record_bytes r.0))
      ∙ ap (λ (o : Placed (Fields × Pairs)). joined w.place r.0 o (out_fits (around g (capped out)) (n + record_bytes r.0)))
      (ih (n + record_bytes r.0) r.1)

  words_capped : (ws : List Word) (n : ℕ) (v : Pairs) → expand_words (around g out) ws n v ≡ expand_words (around g (capped out)) ws n v
  unfolding expand_words word_fields
  words_capped [] n v = refl
  words_capped (w ∷ ws) n v = behind_capped w ws n (words_capped ws) (word_fields (around g out) w.parts v)

-- what is left by the job

module _ (job : Job) (g : Given) (t : Tabled g) (l : length g.line ≤ line_limit) (z : is_in 0 g.line ≡ false) (a : Accepted g.line) where
  pub room_none : room_in job (length g.out) ≡ 0 → Stopped job g output_room 0
  unfolding out_fits
  room_none h = record {
    is = line_no_room job g t l z a.all a.is (fits_capped g (room_of job (length g.out)) 1 ∙ rw h);
    early = λ p. omega (arith, h, p.byte);
  }

  pub room_some : (room_in job (length g.out) ≡ 0 → ⊥) → Passed job g
  unfolding out_fits
  room_some h =
      let b : 1 ≤ room_in job (length g.out) = omega (arith, h) in
      record {
        tables = t;
        short = l;
        clean = no_zero g.line (rw z);
        words = a.all;
        read = a.is;
        byte = b;
        is = line_passed job g t l z a.all a.is
            (fits_capped g (room_of job (length g.out)) 1 ∙ rw (le-leb 1 (capped (room_of job (length g.out))) b)) ∙ words_capped g
            (room_of job (length g.out)) a.all 1 (held (take g.vars_used g.vars));
      }

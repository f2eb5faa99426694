-- The loop over the items of a text: what is expanded stands before what is still to be expanded.
use Prim.Native.Nat.{ℕ, ◌+◌, ◌-◌, ◌*◌, ◌≤◌, ◌<◌}
use native.Mathlib.Omega.{arith}
use native.Mathlib.Nat.{add-zero}
use mathlib.Core.Path.{◌≡◌, refl, sym, ap, ◌∙◌, subst}
use mathlib.Core.Bool.{Bool, true, false, ◌||◌}
use mathlib.Core.List.{[], ◌++◌, append-nil}
use borrow.Author.Tests.{leb-true, leb-false}
use lib.ListN.{length, take, drop, length-append, take-append-drop}
use lib.Seq.{length-take-le}
use borrow.Rule.Slice.PartMut.{put_mid, mid_of, post_of, same_len_mid}
use Rattle.stages.specs.Numbers.{row_limit}
use Rattle.stages.specs.Bytes.{Text, part, all, not_zero}
use Rattle.stages.specs.Outcome.{refused, done}
use Rattle.stages.specs.Images.{Pairs, held}
use Rattle.stages.specs.Syntax.{Parts, end}
use Rattle.stages.specs.Items.{closer_length, item, fault}
use Rattle.stages.specs.Read.{Taken, parts}
use Rattle.stages.specs.Units.{Mark, Row, marked}
use Rattle.stages.specs.Params.{Lent}
use Rattle.stages.specs.Expand.{Made, expand, onto}
use Rattle.text.specs.Rows.{row_bytes}
use Rattle.row.specs.Stands.{Stands, fronted}
use Rattle.read_mode.specs.Modes.{mode_of, open_in}
use Rattle.read_mode.specs.declared.Mode.{Mode}
use Rattle.read_mode.specs.declared.Cursor.{Cursor}
use Rattle.read_brace.specs.declared.Item.{Item}
use Rattle.read_brace.specs.declared.Item.TheVariants.{Stop}
use Rattle.read_item.specs.After.{ItemAt, is_end, is_stop, mode_after}
use Rattle.read_item.proofs.Ending.{end_item}
use Rattle.read_run.specs.Literals.{lits, Passed}
use Rattle.read_run.proofs.Parts.{run_parts, run_open}
use Rattle.table_store.specs.Holding.{Holds}
use Rattle.expand_add.specs.Answers.{Ready, IsDemand, Says}
use Rattle.expand_text.specs.Items.{message_at, behind as move_behind, PutsRun, Moves, Closes, Passes, ItemAnswers, ItemRead}
use Rattle.std.specs.Prelude.{Ok, Err}
use Rattle.text.specs.Refusals.{refusal_number}
use Rattle.text.specs.declared.refusal.Refusal.{Refusal}
use Rattle.text.specs.declared.refusal.Refusal.TheVariants.{TooManyUnits}
use Rattle.expand_add.specs.declared.answers.Row as answer
use Rattle.expand_add.specs.declared.answers.Stop.{Stop as Stopped}
use Rattle.expand_add.specs.declared.answers.Stop.TheVariants as stop
use Rattle.expand_add.specs.Expanded.{Expanded}
use Rattle.stages.proofs.Read.{Behind, behind, at_stop, at_fault}
use Rattle.text.proofs.Parts.{part_length}
use Rattle.expand_add.proofs.Fitting.{marked_count}
use Rattle.expand_add.proofs.Steps.{onto_none, onto_onto}
use Rattle.expand_add.proofs.Standing.{stands_inside, stands_nest, stands_kept}
use Rattle.expand_add.proofs.Waiting.{waits_nest}
use Rattle.expand_text.proofs.Running.{lits_fit, lits_full}

-- a flag that was set before, or is set now

or-false : (g : Bool) → (g || false) ≡ g
or-false true = refl
or-false false = refl

pub came_before : (g h : Bool) {f : Bool} → (g ≡ true) × (f ≡ g) → f ≡ (g || h)
came_before g h w = w.1 ∙ rw w.0

pub came_now : (g h : Bool) {f : Bool} → (g ≡ false) × (f ≡ h) → f ≡ (g || h)
came_now g h w = w.1 ∙ rw w.0

-- a run that was put, where there is room for it and where there is none

module _ {m : Mark} {units : ℕ} {run before area : Text} {r : Bool} (h : PutsRun m units run before area r) where
  pub run_fits : r ≡ true → (units + length run ≤ row_limit) × (area ≡ fronted (row_bytes (marked m run)) before)
  run_fits e = (leb-true _ _ (sym h.fits ∙ e), h.puts ∙ rw e)

  pub run_full : r ≡ false → row_limit < units + length run
  run_full e = leb-false _ _ (sym h.fits ∙ e)

pub read_known : (stops : Bool) (after : Mode) (lent : Lent) (text : Text) (at depth : ℕ) (m : Mark) (units : ℕ) (own : Parts → Made)
    {o : Taken} {p : Parts × Text} (area vars : Text) {r s : Expanded}
    → ItemRead stops after lent text at depth m units own o area vars r → o ≡ done p → r ≡ s
    → ItemAnswers stops after lent text at depth m units (own p.0) p.1 area vars s
read_known stops after lent text at depth m units own {o} {p} area vars {r} {s} h e q =
    subst (λ (x : Expanded). ItemAnswers stops after lent text at depth m units (own p.0) p.1 area vars x) q
    (subst (λ (x : Taken). ItemRead stops after lent text at depth m units own x area vars r) e h)

-- a row that was passed fits, whether the text stops there or not
passed_fits : (stops : Bool) (after : Mode) (lent : Lent) (text : Text) (at depth : ℕ) (m : Mark) (units : ℕ) (made : Made)
    (rest area vars : Text) (count next left : ℕ) (of_none : Bool) → units ≤ row_limit
    → Passes stops after lent text at depth m units made rest area vars count next left of_none → units + count ≤ row_limit
passed_fits true after lent text at depth m units made rest area vars count next left of_none l h = let n = h.none in omega arith
passed_fits false after lent text at depth m units made rest area vars count next left of_none l h = h.fits

-- The loop.

pub record Going (lent : Lent) (text : Text) (at : ℕ) (mode₀ : Mode) (depth : ℕ) (k : Mark) (units : ℕ) (v : Pairs)
    (area₀ vars₀ area vars : Text) (n i : ℕ) (mode : Mode) (vars_used : ℕ) (of_none : Bool) : Type 0 where
  pub tree : Parts
  pub rest : Text
  pub whole : parts (mode_of mode₀) depth (drop at text) ≡ done (tree, rest)
  pub left : Parts
  pub read : parts (mode_of mode) depth (drop i text) ≡ done (left, rest)
  pub opens : open_in mode ≤ i
  pub onward : at ≤ i
  pub within : i ≤ length text
  pub fits : units + n ≤ row_limit
  pub long : length area ≡ length area₀
  pub same : length vars ≡ length vars₀
  pub row : Row
  pub counts : length row ≡ n
  pub stands : Stands row area
  pub holds : Holds lent.room vars vars_used
  pub is : expand lent tree k units v ≡ onto row of_none (expand lent left k (units + n) (held (take vars_used vars)))

module _ {lent : Lent} {text : Text} {at : ℕ} {mode₀ : Mode} {d : ℕ} (k : Mark) {units : ℕ} (area : Text) {vars : Text} {vars_used : ℕ} where
  pub going_start : Ready text at mode₀ d units (length area) → Holds lent.room vars vars_used
      → Going lent text at mode₀ d k units (held (take vars_used vars)) area vars area vars 0 at mode₀ vars_used false
  unfolding row_bytes
  going_start y w =
      let f = y.few in
      record {
        tree = y.tree;
        rest = y.rest;
        whole = y.is;
        left = y.tree;
        read = y.is;
        opens = y.opens;
        onward = omega arith;
        within = y.start;
        fits = omega arith;
        long = refl;
        same = refl;
        row = [];
        counts = refl;
        stands = record { rest = area; is = refl };
        holds = w;
        is = onto_none _ ∙ ap (λ (j : ℕ). onto [] false (expand lent y.tree k j (held (take vars_used vars)))) (sym (add-zero units));
      }

-- What stands so far, and an item that was expanded in what is lent after the row.
pub record Expanding (lent : Lent) (text : Text) (at : ℕ) (mode₀ : Mode) (depth : ℕ) (k : Mark) (units : ℕ) (v : Pairs)
    (area₀ vars₀ area vars : Text) (n i : ℕ) (mode : Mode) (vars_used : ℕ) (of_none stops : Bool) (after : Mode) (ys us : Text) (r : Expanded) : Type 0 where
  pub going : Going lent text at mode₀ depth k units v area₀ vars₀ area vars n i mode vars_used of_none
  pub says : ItemRead stops after lent text i depth k (units + n) (λ p. expand lent p k (units + n) (held (take vars_used vars)))
      (parts (mode_of mode) depth (drop i text)) ys us r

module _ {lent : Lent} {text : Text} {at : ℕ} {mode₀ : Mode} {d : ℕ} {k : Mark} {units : ℕ} {v : Pairs}
    {area₀ vars₀ area vars : Text} {n i : ℕ} {mode : Mode} {vars_used : ℕ} {of_none : Bool} where
  module _ (g : Going lent text at mode₀ d k units v area₀ vars₀ area vars n i mode vars_used of_none) where
    pub going_room : 2 * n ≤ length area
    going_room = stands_inside g.row area n g.stands g.counts

    pub going_ready : all not_zero text ≡ true → (size : ℕ) → 2 * row_limit * (d + 1) ≤ length area₀ + 2 * units → size + 2 * n ≡ length
        area → Ready text i mode d (units + n) size
    going_ready c size e l =
        let a = g.long in
        record { start = g.within; opens = g.opens; few = g.fits; area = omega arith; clean = c; tree = g.left; rest = g.rest; is = g.read }

  -- a run of literal bytes, and behind it the place where the text goes on
  module _ {place : Cursor} (g : Going lent text at mode₀ d k units v area₀ vars₀ area vars n i mode vars_used of_none)
      (p : Passed text (record { at = i; mode = mode; depth = d }) place) where
    abbrev run : Text
    run = part text i place.at

    run_long : length run ≡ place.at - i
    run_long = part_length text i place.at p.run.onward p.run.within

    cut : Behind (lits run) (parts (mode_of place.mode) place.depth (drop place.at text)) g.left g.rest
    cut = behind (lits run) (parts (mode_of place.mode) place.depth (drop place.at text)) g.left g.rest (sym (run_parts p) ∙ g.read)

    abbrev held_now : Pairs
    held_now = held (take vars_used vars)

    pub run_refused : (z : Text) → row_limit < units + n + length run
        → Says lent.room text at units (λ q. expand lent q k units v) (parts (mode_of mode₀) d (drop at text)) z vars (Err (stop.Refused TooManyUnits))
    run_refused z l =
        rw g.whole
        (g.is ∙ ap (onto g.row of_none)
        (ap (λ (q : Parts). expand lent q k (units + n) held_now) cut.whole ∙ lits_full lent k held_now cut.next run (units + n) g.fits l))

    pub going_run : {ys : Text} → units + n + length run ≤ row_limit → (b : Text) → ys ≡ fronted (row_bytes (marked k run)) b → (z : Text)
        → length (take (2 * n) area ++ (ys ++ z)) ≡ length area
        → Going lent text at mode₀ d k units v area₀ vars₀ (take (2 * n) area ++ (ys ++ z)) vars (n + (place.at - i)) place.at place.mode
        vars_used of_none
    going_run {ys} l b e z len =
        let a = g.onward in
        let o = p.run.onward in
        let w = run_long in
        let s : units + n + length run ≡ units + (n + (place.at - i)) = omega arith in
        record {
          tree = g.tree;
          rest = g.rest;
          whole = g.whole;
          left = cut.next;
          read = ap (λ (j : ℕ). parts (mode_of place.mode) j (drop place.at text)) (sym p.depth) ∙ cut.read;
          opens = omega (arith, run_open p, g.opens);
          onward = omega arith;
          within = p.run.within;
          fits = omega arith;
          long = len ∙ g.long;
          same = g.same;
          row = g.row ++ marked k run;
          counts = length-append g.row (marked k run) ∙ rw (g.counts, marked_count k run, run_long);
          stands = stands_nest g.row (marked k run) area ys z n g.stands g.counts
              (record { rest = drop (length (row_bytes (marked k run))) b; is = e });
          holds = g.holds;
          is =
              g.is ∙ ap (onto g.row of_none)
              (ap (λ (q : Parts). expand lent q k (units + n) held_now) cut.whole ∙ lits_fit lent k held_now cut.next run (units + n) l)
              ∙ onto_onto g.row (marked k run) of_none false (expand lent cut.next k (units + n + length run) held_now)
              ∙ ap (λ (f : Bool). onto (g.row ++ marked k run) f (expand lent cut.next k (units + n + length run) held_now)) (or-false of_none)
              ∙ ap (λ (j : ℕ). onto (g.row ++ marked k run) of_none (expand lent cut.next k j held_now)) s;
        }

    -- the same, where it was put in what is lent behind the row
    pub going_put : {ys : Text} {r : Bool} → PutsRun k (units + n) run (mid_of (2 * n) (length area - 2 * n) area) ys r → r ≡ true
        → length ys ≡ length (mid_of (2 * n) (length area - 2 * n) area)
        → Going lent text at mode₀ d k units v area₀ vars₀ (put_mid (2 * n) (length area - 2 * n) area ys) vars (n + (place.at - i)) place.at
        place.mode vars_used of_none
    going_put {ys} h e l =
        let f = run_fits h e in
        going_run f.0 _ f.1 (post_of (2 * n) (length area - 2 * n) area) (same_len_mid (2 * n) (length area - 2 * n) area ys l)

  -- an item, expanded behind the row
  pub expanding_item : (item : Item) (ys us : Text) (r : Expanded)
      → Going lent text at mode₀ d k units v area₀ vars₀ area vars n i mode vars_used of_none
      → ItemRead (is_stop item) (mode_after item mode) lent text i d k (units + n) (λ p. expand lent p k (units + n) (held (take vars_used vars)))
      (parts (mode_of mode) d (drop i text)) ys us r
      → Expanding lent text at mode₀ d k units v area₀ vars₀ area vars n i mode vars_used of_none (is_stop item) (mode_after item mode) ys us r
  expanding_item item ys us r g s = record { going = g; says = s }

  -- no item of a text that has been read is refused
  pub going_fault : (g : Going lent text at mode₀ d k units v area₀ vars₀ area vars n i mode vars_used of_none) (e : Refusal)
      → item (mode_of mode) d (drop i text) ≡ fault (refusal_number e) → (r : Expanded) (z us : Text)
      → Says lent.room text at units (λ p. expand lent p k units v) (parts (mode_of mode₀) d (drop at text)) z us r
  going_fault g e f r z us =
      let q : ◌≡◌ {A = Taken} (refused (refusal_number e)) (done (g.left, g.rest)) = sym (at_fault text i (mode_of mode) d (refusal_number e) f) ∙ g.read in
      let z : ◌≡◌ {A = ℕ} 0 1 = cc in
      absurd (omega arith)

  module _ {stops : Bool} {after : Mode} {ys us : Text} {r : Expanded}
      (x : Expanding lent text at mode₀ d k units v area₀ vars₀ area vars n i mode vars_used of_none stops after ys us r) where
    abbrev g : Going lent text at mode₀ d k units v area₀ vars₀ area vars n i mode vars_used of_none
    g = x.going

    going_refused : (z : Text) {e : Refusal} → r ≡ Err (stop.Refused e)
        → Says lent.room text at units (λ p. expand lent p k units v) (parts (mode_of mode₀) d (drop at text)) z us (Err (stop.Refused e))
    going_refused z {e} q =
        let h : expand lent g.left k (units + n) (held (take vars_used vars)) ≡ refused (refusal_number e) =
        read_known stops after lent text i d k (units + n) _ ys us x.says g.read q in
        rw g.whole (g.is ∙ ap (onto g.row of_none) h)

    module _ {from len : ℕ} (q : r ≡ Err (stop.Demanded from len)) where
      asked : IsDemand (expand lent g.left k (units + n) (held (take vars_used vars))) ys from len
      asked = read_known stops after lent text i d k (units + n) _ ys us x.says g.read q

      going_waits : from + len ≤ length ys
      going_waits = asked.waits.fits

      -- the message waits behind the row
      going_demanded : (z : Text)
          → Says lent.room text at units (λ p. expand lent p k units v) (parts (mode_of mode₀) d (drop at text)) (take (2 * n) area ++ (ys ++ z)) us
          (Err (stop.Demanded (2 * n + from) len))
      going_demanded z =
          rw g.whole
          (record {
            message = asked.message;
            is = g.is ∙ ap (onto g.row of_none) asked.is;
            waits = waits_nest (take (2 * n) area) z (length-take-le (2 * n) area (going_room g)) asked.waits;
          })

    pub going_stopped : (s : Stopped) → r ≡ Err s → (z : Text)
        → Says lent.room text at units (λ p. expand lent p k units v) (parts (mode_of mode₀) d (drop at text)) (take (2 * n) area ++ (ys ++ z)) us
        (Err (move_behind (2 * n) s))
    going_stopped (stop.Refused e) q z = going_refused (take (2 * n) area ++ (ys ++ z)) q
    going_stopped (stop.Demanded from len) q z = going_demanded q z

    pub going_waiting : (s : Stopped) → r ≡ Err s → message_at s ≤ length ys
    going_waiting (stop.Refused e) q = omega arith
    going_waiting (stop.Demanded from len) q = omega (arith, going_waits q)

    module _ {a : answer.Row} (q : r ≡ Ok a) where
      passed : Passes stops after lent text i d k (units + n) (expand lent g.left k (units + n) (held (take vars_used vars))) g.rest ys us
          a.units a.next a.vars_used a.of_none
      passed = read_known stops after lent text i d k (units + n) _ ys us x.says g.read q

      pub going_fits : units + n + a.units ≤ row_limit
      going_fits = passed_fits stops after lent text i d k (units + n) _ g.rest ys us a.units a.next a.vars_used a.of_none g.fits passed

      pub going_end : {flag : Bool} → flag ≡ (of_none || a.of_none) → stops ≡ true → (z : Text)
          → Says lent.room text at units (λ p. expand lent p k units v) (parts (mode_of mode₀) d (drop at text)) (take (2 * n) area ++ z) us
          (Ok (record { units = n + a.units; next = a.next; vars_used = a.vars_used; of_none = flag }))
      going_end o e z =
          let h : Closes lent text i (expand lent g.left k (units + n) (held (take vars_used vars))) g.rest us a.units a.next a.vars_used a.of_none =
          subst (λ (b : Bool). Passes b after lent text i d k (units + n) (expand lent g.left k (units + n) (held (take vars_used vars)))
          g.rest ys us a.units a.next a.vars_used a.of_none) e passed in
          let o₁ = g.onward in
          let b = h.ends.onward in
          let f = g.fits in
          let c = g.counts in
          let j = h.none in
          rw g.whole (
            record {
              row = g.row;
              is =
                  g.is ∙ ap (onto g.row of_none) h.is
                  ∙ ap (λ (p : Row). done (p, held (take a.vars_used us), of_none || a.of_none)) (append-nil g.row)
                  ∙ ap (λ (b : Bool). done (g.row, held (take a.vars_used us), b)) (sym o);
              counts = omega arith;
              stands = stands_kept g.row area z n g.stands g.counts;
              fits = omega arith;
              holds = h.holds;
            },
            record { ends = h.ends.ends; onward = omega arith; within = h.ends.within },
          )

      module _ (e : stops ≡ false) where
        pub moved : Moves lent text i d after k (units + n) (expand lent g.left k (units + n) (held (take vars_used vars))) g.rest ys us
            a.units a.next a.vars_used a.of_none
        moved = subst (λ (b : Bool). Passes b after lent text i d k (units + n)
            (expand lent g.left k (units + n) (held (take vars_used vars))) g.rest ys us a.units a.next a.vars_used a.of_none) e passed

        pub going_row : {flag : Bool} → flag ≡ (of_none || a.of_none) → {next-mode : Mode} → next-mode ≡ after → (z : Text)
            → length (take (2 * n) area ++ (ys ++ z)) ≡ length area → length us ≡ length vars
            → Going lent text at mode₀ d k units v area₀ vars₀ (take (2 * n) area ++ (ys ++ z)) us (n + a.units) a.next next-mode a.vars_used flag
        going_row f o z len wide =
            let h = moved in
            let o₁ = g.onward in
            let b = h.onward in
            let few = h.fits in
            let s : units + n + a.units ≡ units + (n + a.units) = omega arith in
            rw (o, f) (record {
              tree = g.tree;
              rest = g.rest;
              whole = g.whole;
              left = h.more;
              read = h.read;
              opens = h.opens;
              onward = omega arith;
              within = h.within;
              fits = omega arith;
              long = len ∙ g.long;
              same = wide ∙ g.same;
              row = g.row ++ h.row;
              counts = length-append g.row h.row ∙ rw (g.counts, h.counts);
              stands = stands_nest g.row h.row area ys z n g.stands g.counts h.stands;
              holds = h.holds;
              is =
                  g.is ∙ ap (onto g.row of_none) h.is
                  ∙ onto_onto g.row h.row of_none a.of_none (expand lent h.more k (units + n + a.units) (held (take a.vars_used us)))
                  ∙ ap (λ (j : ℕ). onto (g.row ++ h.row) (of_none || a.of_none) (expand lent h.more k j (held (take a.vars_used us)))) s;
            })

-- The next byte, or the line's end, says that the text ends here.

module _ {lent : Lent} {text : Text} {at : ℕ} {mode₀ : Mode} {d : ℕ} {k : Mark} {units : ℕ} {v : Pairs}
    {area₀ vars₀ area vars : Text} {n i : ℕ} {mode : Mode} {vars_used : ℕ} {of_none : Bool}
    (g : Going lent text at mode₀ d k units v area₀ vars₀ area vars n i mode vars_used of_none) (e : is_end mode (drop i text) ≡ true) where
  abbrev behind_end : ℕ
  behind_end = i + closer_length (mode_of mode)

  stop_there : ItemAt text (record { at = i; mode = mode; depth = d }) (Stop behind_end)
  stop_there = end_item text (record { at = i; mode = mode; depth = d }) g.within e

  closing : Expanding lent text at mode₀ d k units v area₀ vars₀ area vars n i mode vars_used of_none true mode area vars
      (Ok (record { units = 0; next = behind_end; vars_used = vars_used; of_none = false }))
  unfolding expand
  closing =
      let s = stop_there in
      let p : parts (mode_of mode) d (drop i text) ≡ done (end, drop behind_end text) = at_stop text i (mode_of mode) d behind_end s.0 s.1 in
      record {
        going = g;
        says = rw p (record { is = refl; none = refl; holds = g.holds; ends = record { ends = refl; onward = s.1; within = s.2 } });
      }

  abbrev Closed : Text → ℕ → ℕ → Type 0
  Closed z count next =
      Says lent.room text at units (λ p. expand lent p k units v) (parts (mode_of mode₀) d (drop at text)) z vars
      (Ok (record { units = count; next = next; vars_used = vars_used; of_none = of_none }))

  pub going_close : {j : ℕ} → j ≡ closer_length (mode_of mode) → Closed area n (i + j)
  going_close {j} q =
      let h : Closed (take (2 * n) area ++ drop (2 * n) area) (n + 0) behind_end =
      going_end closing refl (sym (or-false of_none)) refl (drop (2 * n) area) in
      subst (λ (c : ℕ). Closed area n (i + c)) (sym q)
      (subst (λ (c : ℕ). Closed area c behind_end) (add-zero n) (subst (λ (z : Text). Closed z (n + 0) behind_end) (take-append-drop (2 * n) area) h))

  pub going_close_within : {j : ℕ} → j ≡ closer_length (mode_of mode) → i + j ≤ length text
  going_close_within q = let w = stop_there.2 in omega arith

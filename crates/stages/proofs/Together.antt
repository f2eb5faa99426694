-- Document 02, E8: "What stands in quotes stays together." Over the calls: a line that passes the test gives exactly one field, if it is accepted; and under
-- tables that differ only in the value of IFS and in the list of paths the same field, and variables that are equal but for IFS.
use Prim.Native.Nat.{ℕ, ◌≤◌}
use native.Mathlib.Omega.{arith}
use mathlib.Core.Path.{◌≡◌, refl, sym, ap, subst, ◌∙◌}
use mathlib.Core.Bool.{true, ◌&&◌}
use mathlib.Core.List.{[], ◌∷◌}
use mathlib.Core.Option.{Option, none, some}
use lib.Dec.{leb}
use lib.ListN.{length, take}
use Rattle.stages.specs.Numbers.{accepted, demanded, work_too_small, bad_variables, bad_homes, bad_paths, output_room, bad_parameters, work_least}
use Rattle.stages.specs.Numbers.{line_limit, image_limit}
use Rattle.stages.specs.Bytes.{Text}
use Rattle.stages.specs.Outcome.{Placed, refused_at, demands_at, done_at, ◌then◌}
use Rattle.stages.specs.Images.{Pairs, flat, image, image_length, held, variables_of, homes_of, paths_of, fields_of}
use Rattle.stages.specs.Line.{Fields, expand_line}
use Rattle.stages.specs.Quote.{quoted_line}
use Rattle.stages.specs.Call.{Given, Answer, or_refused, expanded, answered, expander, quoted_in, normaliser}
use Rattle.stages.specs.Together.{together, but_ifs, vars_after, Differ}
use Rattle.stages.proofs.Bools.{no, some_same, either}
use Rattle.stages.proofs.Outcomes.{SafeAt, early, refuses_at, asks_at, gives_at}
use Rattle.stages.proofs.Images.{Fine, held_image, held_texts_image}
use Rattle.stages.proofs.Tables.{variables_held, fields_image, fields_are}
use Rattle.stages.proofs.Rooms.{over_front, padded_front}
use Rattle.stages.proofs.SafeLines.{Ready}
use Rattle.stages.proofs.Answers.{expanded_safe}
use Rattle.stages.proofs.Demand.{output}
use Rattle.stages.proofs.ButIFS.{Alike, but_alike, alike_but}
use Rattle.stages.proofs.Alike.{Agree, agrees}
use Rattle.stages.proofs.AlikeLine.{refuses_at_lem, BothAt, one_stops_at, other_stops_at, both_done, require_both, line_both}
use Rattle.stages.proofs.OneField.{One, one}

-- TWO CALLS

-- a table that each has
table_both : {A B : Type 0} {P : B → B → Type 0} (n : ℕ) (o u : Option A) (f g : A → Placed B) → ((a b : A) → o ≡ some a → u ≡ some b → BothAt P (f a) (g b))
    → BothAt P (or_refused n o then f) (or_refused n u then g)
unfolding or_refused
table_both n none u f g h = one_stops_at refuses_at_lem
table_both n (some a) none f g h = other_stops_at refuses_at_lem
table_both n (some a) (some b) f g h = h a b refl refl

expanded_both : (g h : Given) (m n : ℕ) → together g.line ≡ true → Differ g h → BothAt (Agree One) (expanded g m) (expanded h n)
unfolding expanded
expanded_both g h m n u d =
    require_both (leb work_least (length g.work)) (leb work_least (length h.work)) work_too_small 0 _ _
    (require_both (leb g.vars_used (length g.vars)) (leb h.vars_used (length h.vars)) bad_variables 0 _ _
    (table_both bad_variables (variables_of (take g.vars_used g.vars)) (variables_of (take h.vars_used h.vars)) _ _
    (λ v w e f. table_both bad_homes (homes_of g.homes) (homes_of h.homes) _ _
    (λ a b i j. table_both bad_paths (paths_of g.paths) (paths_of h.paths) _ _
    (λ p q _ _. table_both bad_parameters (fields_of g.params) (fields_of h.params) _ _
    (λ ps qs y z. subst
    (λ (t : Text). BothAt (Agree One)
    (expand_line (record { lent = record { room = length g.vars; homes = a; params = ps; shouts = g.shouts }; out = m; paths = p }) g.line v)
    (expand_line (record { lent = record { room = length h.vars; homes = b; params = qs; shouts = h.shouts }; out = n; paths = q }) t w))
    d.line
    (line_both
    (record { lent = record { room = length g.vars; homes = a; params = ps; shouts = g.shouts }; out = m; paths = p })
    (record { lent = record { room = length h.vars; homes = b; params = qs; shouts = h.shouts }; out = n; paths = q })
    (record { homes = some_same (sym i ∙ ap homes_of d.homes ∙ j); params = some_same (sym y ∙ ap fields_of d.params ∙ z) })
    g.line u v w
    (but_alike v w (rw (← variables_held (take g.vars_used g.vars) v e, ← variables_held (take h.vars_used h.vars) w f) d.vars)))))))))

differ_not : (g : Given) → Differ g g
differ_not g = record { line = refl; homes = refl; params = refl; vars = refl }

-- WHAT ONE CALL CAME TO

-- how a job goes on behind the fields: with these bytes for them, or refused
data Ends (writes : Fields → Text) (r : Fields × Pairs) : Placed (Text × Pairs) → Type 0 where
  fails : {n place : ℕ} → 1 ≤ n → Ends writes r (refused_at n place)
  wrote : Ends writes r (done_at (writes r.0, r.1))

record Came (writes : Fields → Text) (g : Given) (room : ℕ) (a : Answer) : Type 0 where
  result : Fields × Pairs
  is : expanded g room ≡ done_at result
  ready : Ready (length g.vars) room result
  fills : output a ≡ writes result.0
  leaves : vars_after a ≡ result.1

module _ (writes : Fields → Text) (ending : Given → Fields × Pairs → Placed (Text × Pairs))
    (ends : (g : Given) (r : Fields × Pairs) → Ends writes r (ending g r)) (room : Given → ℕ) where
  abbrev job : Given → Answer
  job g = answered g (expanded g (room g) then ending g)

  came_done : (g : Given) (r : Fields × Pairs) → Ready (length g.vars) (room g) r → expanded g (room g) ≡ done_at r
      → {o : Placed (Text × Pairs)} → Ends writes r o → job g ≡ answered g o → (answered g o).number ≡ accepted → Came writes g (room g) (job g)
  unfolding answered
  came_done g r y q (fails l) e a = absurd (omega arith)
  came_done g r y q wrote e a = record {
    result = r;
    is = q;
    ready = y;
    fills = ap output e ∙ over_front (writes r.0) g.out;
    leaves = ap vars_after e ∙ ap held (padded_front g.vars_used (image (flat r.1)) g.vars) ∙ held_image r.1 y.kept.fine;
  }

  came_of : (g : Given) (o : Placed (Fields × Pairs)) → SafeAt (length g.line) (Ready (length g.vars) (room g)) o → expanded g (room g) ≡ o
      → (answered g (o then ending g)).number ≡ accepted → Came writes g (room g) (job g)
  unfolding answered
  came_of g (refused_at n place) (early e) q a = absurd (no (rw a at e))
  came_of g (refused_at n place) (refuses_at e l) q a = absurd (no (rw a at e))
  came_of g (demands_at t place) (asks_at e l) q a = absurd (let k : ◌≡◌ {A = ℕ} demanded accepted = a in omega arith)
  came_of g (done_at r) (gives_at y) q a = came_done g r y q (ends g r) (ap (λ o. answered g (o then ending g)) q) a

  came : (g : Given) → (job g).number ≡ accepted → Came writes g (room g) (job g)
  came g a = came_of g (expanded g (room g)) (expanded_safe g (room g)) refl a

-- WHAT TWO CALLS CAME TO

-- one field, the same in both, shown by the bytes of both outputs, and variables that are equal but for IFS
pub record Stays (Shows : Text → Fields → Type 0) (a b : Answer) : Type 0 where
  pub field : Text
  pub first : Shows (output a) (field ∷ [])
  pub second : Shows (output b) (field ∷ [])
  pub vars : but_ifs (vars_after a) ≡ but_ifs (vars_after b)

abbrev AgreeOne : Fields × Pairs → Fields × Pairs → Type 0
AgreeOne p q = (t : Text) × (p.0 ≡ t ∷ []) × (q.0 ≡ t ∷ []) × Alike p.1 q.1

agree_one : {p q : Fields × Pairs} → Agree One p q → AgreeOne p q
agree_one (agrees (one {t = t}) k) = (t, refl, refl, k)

module _ (writes : Fields → Text) (Shows : Text → Fields → Type 0)
    (shows : (l : Fields) (t : Text) → Fine l → image_length l ≤ image_limit → t ≡ writes l → Shows t l) where
  stays_by : (g h : Given) (m n : ℕ) (a b : Answer) → together g.line ≡ true → Differ g h → Came writes g m a → Came writes h n b → Stays Shows a b
  stays_by g h m n a b u d c e =
      let k : AgreeOne c.result e.result = agree_one (both_done (expanded_both g h m n u d) c.is e.is) in
      record {
        field = k.0;
        first = rw k.1 at (shows c.result.0 (output a) c.ready.fine c.ready.small c.fills);
        second = rw k.2 at (shows e.result.0 (output b) e.ready.fine e.ready.small e.fills);
        vars = rw (c.leaves, e.leaves) (alike_but c.result.1 e.result.1 c.ready.kept.rises e.ready.kept.rises k.3);
      }

-- an image of these fields, and their quoted line
abbrev pub IsImage : Text → Fields → Type 0
IsImage t l = fields_of t ≡ some l

abbrev pub IsLine : Text → Fields → Type 0
IsLine t l = t ≡ quoted_line l

image_shows : (l : Fields) (t : Text) → Fine l → image_length l ≤ image_limit → t ≡ image l → IsImage t l
image_shows l t f n e = ap fields_of e ∙ fields_are (image l) (fields_image l f n) ∙ ap some (held_texts_image l f)

image_ends : (g : Given) (r : Fields × Pairs) → Ends image r (done_at (image r.0, r.1))
image_ends g r = wrote

line_ends : (g : Given) (r : Fields × Pairs) → Ends quoted_line r (quoted_in (length g.out) r.0 then λ t. done_at (t, r.1))
unfolding quoted_in
line_ends g r =
    either (leb (length (quoted_line r.0)) line_limit && leb (length (quoted_line r.0)) (length g.out))
    (λ e. rw e wrote) (λ e. rw e (fails {n = output_room} (omega arith)))

expander_came : (g : Given) → (expander g).number ≡ accepted → Came image g (length g.out) (expander g)
unfolding expander
expander_came g a = came image (λ g r. done_at (image r.0, r.1)) image_ends (λ g. length g.out) g a

normaliser_came : (g : Given) → (normaliser g).number ≡ accepted → Came quoted_line g image_limit (normaliser g)
unfolding normaliser
normaliser_came g a = came quoted_line (λ g r. quoted_in (length g.out) r.0 then λ t. done_at (t, r.1)) line_ends (λ g. image_limit) g a

-- E8. "Under two sets of tables that differ only in the value of IFS and in the list of paths, if both are accepted, the field and the values of all variables
-- but IFS are equal."
pub same_field : (g h : Given) → together g.line ≡ true → Differ g h → (expander g).number ≡ accepted → (expander h).number ≡ accepted
    → Stays IsImage (expander g) (expander h)
same_field g h u d a b =
    stays_by image IsImage image_shows g h (length g.out) (length h.out) (expander g) (expander h) u d (expander_came g a) (expander_came h b)

-- "If a one-word line of it is accepted, it gives exactly one field.": what a call has in common with itself
pub one_field : (g : Given) → together g.line ≡ true → (expander g).number ≡ accepted → (t : Text) × (fields_of (output (expander g)) ≡ some (t ∷ []))
one_field g u a =
    let s : Stays IsImage (expander g) (expander g) = same_field g g u (differ_not g) a a in
    (s.field, s.first)

-- The same of the normaliser, which writes the field as a quoted line.
pub same_field_quoted : (g h : Given) → together g.line ≡ true → Differ g h → (normaliser g).number ≡ accepted → (normaliser h).number ≡ accepted
    → Stays IsLine (normaliser g) (normaliser h)
same_field_quoted g h u d a b =
    stays_by quoted_line IsLine (λ l t _ _ e. e) g h image_limit image_limit (normaliser g) (normaliser h) u d (normaliser_came g a) (normaliser_came h b)

pub one_field_quoted : (g : Given) → together g.line ≡ true → (normaliser g).number ≡ accepted → (t : Text) × (output (normaliser g) ≡ quoted_line (t ∷ []))
one_field_quoted g u a =
    let s : Stays IsLine (normaliser g) (normaliser g) = same_field_quoted g g u (differ_not g) a a in
    (s.field, s.first)

-- Tables as they were loaded: the part that is lent is the table, and the variables' buffer holds it as the stage's does. Arguments as they were packed.
use Prim.Native.Nat.{ℕ, ◌+◌, ◌≤◌}
use native.Mathlib.Omega.{arith}
use mathlib.Core.Path.{◌≡◌, sym, ap, ◌∙◌}
use mathlib.Core.Bool.{Bool, true}
use mathlib.Core.List.{List, [], ◌++◌, append-nil}
use mathlib.Core.Option.{Option}
use lib.ListN.{length, take, drop, replicate, length-append, length-drop}
use lib.Seq.{take_at}
use Rattle.stages.specs.Numbers.{image_limit}
use Rattle.stages.specs.Bytes.{Text}
use Rattle.stages.specs.Images.{fields_of, image}
use Rattle.stages.specs.Call.{over}
use Rattle.stages.specs.Program.{table_or, buffered, Variables, lines_of, said_of, told_of, first_variables, program, demands_of}
use Rattle.stages.proofs.Files.{buffered_over}
use Rattle.stages.proofs.Rooms.{over_front}
use Rattle.recipe_load.specs.Loads.{Held}
use Rattle.recipe_arguments.specs.Options.{Hearing, silent, heard_all}
use Rattle.recipe_arguments.specs.Packs.{Gathers}
use Rattle.recipe_arguments.specs.declared.Heard.{Heard}
use Rattle.recipe_arguments.proofs.Lists.{packs_fields, said_params, told_params, after_lines_params}
use Rattle.recipe_answer.specs.Says.{variables}
use Rattle.recipe_answer.specs.Turns.{Ran}
use Rattle.recipe.specs.Runs.{Answers, Runs}

-- the part of a buffer that is lent as the table
pub held_table : {room n : ℕ} {left : Text} (h : Held room n left) → take n left ≡ table_or h.file
held_table {left = left} h =
    ap (λ (k : ℕ). take k left) h.counts ∙ ap (take (length (table_or h.file))) h.leaves ∙ over_front (table_or h.file) _

pub held_variables : {room n : ℕ} {left : Text} (shouts : Bool) (h : Held room n left) → room ≡ image_limit + 1
    → variables (take image_limit left) n shouts ≡ first_variables shouts h.file
unfolding first_variables
held_variables {room} {n} {left} shouts h e =
    ap (λ (x : Text). variables x n shouts)
    (ap (take image_limit) (h.leaves ∙ ap (λ (m : ℕ). over (table_or h.file) (replicate m 0)) e)
    ∙ buffered_over (table_or h.file) (omega (arith, h.counts, h.within)))
    ∙ ap (λ (k : ℕ). variables (buffered (table_or h.file)) k shouts) h.counts

-- a buffer whose front was lent is as long as it was
pub same_room : (front vars : Text) → length front ≡ image_limit → image_limit ≤ length vars → length (front ++ drop image_limit vars) ≡ length vars
same_room front vars e h = omega (arith, e, h, length-append front (drop image_limit vars), length-drop image_limit vars)

-- what was packed of the arguments serves as their image
ran_packed : {homes paths params params' : Text} {first now : Variables} {input : Text} → fields_of params ≡ fields_of params'
    → Ran homes paths params first input now → Ran homes paths params' first input now
ran_packed {homes} {paths} {params} {params'} {first} e r = record {
  wrote = r.wrote;
  lines = r.lines;
  others = r.others;
  all = r.all;
  words = r.words ∙ said_params homes paths params params' e first r.lines;
  messages = r.messages ∙ told_params homes paths params params' e first 1 r.lines;
  after = r.after ∙ after_lines_params homes paths params params' e first r.lines;
}

-- where all lines are answered, what is said and told is what the stage's program writes
module _ (shouts : Bool) (vars homes paths : Option Text) (arguments : List Text) {input : Text} {now : Variables}
    (r : Ran (table_or homes) (table_or paths) (image arguments) (first_variables shouts vars) input now) (e : r.others ≡ []) where
  all_answered : r.lines ≡ lines_of input
  all_answered = sym (r.all ∙ ap (λ (x : List Text). r.lines ++ x) e ∙ append-nil r.lines)

  ran_whole : r.wrote.words ≡ program shouts vars homes paths arguments input
  unfolding program
  ran_whole = r.words ∙ ap (said_of (table_or homes) (table_or paths) (image arguments) (first_variables shouts vars)) all_answered

  ran_demands : r.wrote.messages ≡ demands_of shouts vars homes paths arguments input
  unfolding demands_of
  ran_demands = r.messages ∙ ap (told_of (table_or homes) (table_or paths) (image arguments) (first_variables shouts vars) 1) all_answered

-- the three tables are loaded, the arguments are heard, and the lines answered among them
module _ {vars homes paths params : Text} {room roomHomes roomPaths n h p : ℕ} {heard : Heard} (v : Held room n vars) (e : room ≡ image_limit + 1)
    (o : Held roomHomes h homes) (f : length homes ≡ roomHomes) (t : Held roomPaths p paths) (g : length paths ≡ roomPaths)
    (q : Gathers params heard) (i : image_limit + 1 ≡ length params) (fine : heard.known ≡ true) where
  pub answers_run : {vars' : Text} {used : ℕ} → Answers (take h homes) (take p paths) (take heard.used params) (take image_limit vars) n
      heard.shouts vars' used
      → length vars' ≡ image_limit → Runs (vars' ++ drop image_limit vars) homes paths params
  answers_run {vars'} {used} a l =
      let asks : Hearing = heard_all silent q.arguments in
      let s : heard.shouts ≡ asks.shouts = q.holds.shouts in
      let b : Ran (table_or o.file) (table_or t.file) (take heard.used params) (first_variables asks.shouts v.file) a.read
      (variables vars' used heard.shouts) =
      rw (← held_table o, ← held_table t, ← s, ← held_variables heard.shouts v e) a.ran in
      let r : Ran (table_or o.file) (table_or t.file) (image asks.params) (first_variables asks.shouts v.file) a.read
      (variables vars' used heard.shouts) =
      ran_packed (packs_fields asks.params params heard.used i q.holds.packs) b in
      record {
        vars_file = v.file;
        homes_file = o.file;
        paths_file = t.file;
        arguments = q.arguments;
        input = a.read;
        now = variables vars' used heard.shouts;
        ran = r;
        known = sym q.holds.known ∙ fine;
        whole = ran_whole asks.shouts v.file o.file t.file asks.params r;
        demands = ran_demands asks.shouts v.file o.file t.file asks.params r;
        vars_are = take_at vars' (drop image_limit vars) image_limit l;
        homes_are = o.leaves ∙ ap (λ (m : ℕ). over (table_or o.file) (replicate m 0)) (sym f);
        paths_are = t.leaves ∙ ap (λ (m : ℕ). over (table_or t.file) (replicate m 0)) (sym g);
        packed = heard.used;
        params_are = q.holds.packs;
      }

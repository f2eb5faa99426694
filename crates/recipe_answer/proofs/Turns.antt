-- One turn, and what turns come to. A line that ended is answered by what is kept of it as the stage answers it, among the variables that the turns
-- before it left and with the number that they counted; so all that is said and told is what the stage says and tells of all that was read, however it came
-- in blocks.
use Prim.Native.Nat.{ℕ, ◌+◌}
use native.Mathlib.Omega.{arith}
use mathlib.Core.Path.{◌≡◌, refl, sym, ap, subst, ◌∙◌}
use mathlib.Core.Bool.{true, false}
use mathlib.Core.List.{List, [], ◌∷◌, ◌++◌, append_assoc, append-nil}
use lib.ListN.{length, take, drop, length-append, take-append-drop}
use lib.Seq.{take_at, drop_at}
use Rattle.stages.specs.Bytes.{Text}
use Rattle.stages.specs.Call.{over, cleared}
use Rattle.stages.specs.Program.{Variables, lines_of, said_of, told_of, next_number, number_after, after_lines}
use Rattle.stages.proofs.Program.{
  cut_lines,
  after_lines_cut,
  said_cut,
  told_cut,
  said_append,
  told_append,
  after_append,
  number_append,
}
use Rattle.system.proofs.Counting.{prefix_len_of_le}
use Rattle.text.proofs.Filling.{puts_front}
use Rattle.recipe_cut.specs.Lines.{came, has_line, last_line, Takes}
use Rattle.recipe_cut.specs.declared.Taken.{Taken}
use Rattle.recipe_cut.specs.declared.Taken.TheVariants.{Ended, Open}
use Rattle.recipe_cut.proofs.Callers.{
  cuts_none,
  cuts_line,
  cuts_more,
  cuts_lines,
  holding_none,
  holding_came,
  holding_more,
  holding_last,
  ended_next,
  ended_puts,
  open_next,
  open_puts,
}
use Rattle.recipe_answer.specs.Says.{variables, Says}
use Rattle.recipe_answer.specs.Turns.{Buffers, buffers, grown, Stays, Tells, area_after_lines, Wrote, Reaches, Ran}
use Rattle.recipe_answer.specs.declared.Said.{Said}
use Rattle.recipe_answer.specs.declared.Carried.{Carried}

-- AN ANSWER

-- the words stand at the front of the buffer, and what is told right behind them
module _ {homes paths params : Text} {v : Variables} {n : ℕ} {lines : List Text} {old left vars : Text} {r : Said}
    (s : Says homes paths params v n lines old left vars r) where
  abbrev words : Text
  words = said_of homes paths params v lines

  abbrev messages : Text
  messages = told_of homes paths params v n lines

  abbrev rest : Text
  rest = drop (length (words ++ messages)) old

  both_stand : left ≡ words ++ (messages ++ rest)
  unfolding over
  both_stand = s.leaves ∙ append_assoc words messages rest

  pub says_front : take r.len left ≡ words
  says_front = ap (take r.len) both_stand ∙ take_at words (messages ++ rest) r.len (sym s.words)

  pub says_behind : take r.told (drop r.len left) ≡ messages
  says_behind =
      ap (λ (x : Text). take r.told (drop r.len x)) both_stand
      ∙ ap (take r.told) (drop_at words (messages ++ rest) r.len (sym s.words))
      ∙ take_at messages rest r.told (sym s.messages)

  pub says_all : take (r.len + r.told) left ≡ words ++ messages
  unfolding over
  says_all =
      ap (take (r.len + r.told)) s.leaves
      ∙ take_at (words ++ messages) rest (r.len + r.told) (omega (arith, length-append words messages, s.words, s.messages))

-- ONE TURN

-- `answer_next`, by the answer of `take_in`
module _ {block line line' : Text} {at : ℕ} (k : Carried) {r : Taken} (w : Takes line k.kept block at line' r) where
  pub turn_open : {n : ℕ} (vars said : Text) → r ≡ Open n → Stays k.kept block at (buffers line vars said) (buffers line' vars said) n
  turn_open vars said e = record { runs_out = open_next w e; keeps = open_puts w e; same_vars = refl; same_said = refl }

  pub turn_ended : {n next : ℕ} (homes paths params vars vars' said said' : Text) (t : Said) → r ≡ Ended n next
      → Says homes paths params (variables vars k.vars_used k.shouts) k.line (take n line' ∷ []) said said' vars' t
      → Tells homes paths params k block at (buffers line vars said) (buffers line' vars' said') t.len t.told t.vars_used next
  turn_ended homes paths params vars vars' said said' t e s = record {
    ends = ended_next w e;
    keeps = (ended_puts w e).leaves;
    says = subst (λ (x : Text). Says homes paths params (variables vars k.vars_used k.shouts) k.line (x ∷ []) said said' vars' t)
        (puts_front (ended_puts w e)) s;
  }

-- `answer_last`
module _ (homes paths params : Text) (v : Variables) (n : ℕ) (line : Text) where
  pub last_said : {old left vars : Text} {r : Said} → has_line line ≡ true → Says homes paths params v n (line ∷ []) old left vars r
      → Says homes paths params v n (last_line line) old left vars r
  unfolding last_line
  last_said e s = rw e s

  pub last_unsaid : (old : Text) → has_line line ≡ false
      → Says homes paths params v n (last_line line) old old v.buffer (record { len = 0; told = 0; vars_used = v.vars_used })
  unfolding last_line said_of told_of after_lines over
  last_unsaid old e =
      rw e (record { words = refl; messages = refl; leaves = refl; after = refl; within = prefix_len_of_le 0 old (omega arith); inside = omega arith })

-- the work area is cleared where there is a line, and else kept
pub last_cleared : (line work : Text) → has_line line ≡ true → cleared work ≡ area_after_lines (last_line line) work
unfolding last_line
last_cleared line work e = rw e

pub last_kept : (line work : Text) → has_line line ≡ false → work ≡ area_after_lines (last_line line) work
unfolding last_line
last_kept line work e = rw e

-- ALL TURNS

-- nothing, and what is written next
abbrev pub nothing : Wrote
nothing = record { words = []; messages = [] }

abbrev pub wrote_more : Wrote → Said → Text → Wrote
wrote_more w s left = record { words = w.words ++ take s.len left; messages = w.messages ++ take s.told (drop s.len left) }

-- before the first one nothing was read, and the first line has the number 1
pub reaches_none : (homes paths params : Text) (first : Variables) (line : Text) → Reaches homes paths params first [] nothing line 0 1 first
unfolding said_of told_of number_after after_lines
reaches_none homes paths params first line = record {
  ended = [];
  left = [];
  cuts = cuts_none;
  holds = holding_none line;
  words = refl;
  messages = refl;
  counts = refl;
  after = refl;
}

module _ (homes paths params : Text) where
  -- lines that are answered by what is kept of them, with the number and among the variables that the turns left, come behind those of the turns
  module _ {first now : Variables} {read line : Text} {w : Wrote} {kept n : ℕ} (r : Reaches homes paths params first read w line kept n now)
      (lines : List Text) {old left vars : Text} {s : Said} (h : Says homes paths params now n (cut_lines lines) old left vars s) where
    more_said : (wrote_more w s left).words ≡ said_of homes paths params first (r.ended ++ lines)
    more_said =
        ap (λ (x : Text). x ++ take s.len left) r.words
        ∙ ap (λ (x : Text). said_of homes paths params first r.ended ++ x)
        (says_front h ∙ said_cut homes paths params now lines ∙ ap (λ (u : Variables). said_of homes paths params u lines) r.after)
        ∙ sym (said_append homes paths params first r.ended lines)

    more_told : (wrote_more w s left).messages ≡ told_of homes paths params first 1 (r.ended ++ lines)
    more_told =
        ap (λ (x : Text). x ++ take s.told (drop s.len left)) r.messages
        ∙ ap (λ (x : Text). told_of homes paths params first 1 r.ended ++ x)
        (says_behind h ∙ told_cut homes paths params now n lines ∙ ap (λ (u : Variables). told_of homes paths params u n lines) r.after
        ∙ ap (λ (k : ℕ). told_of homes paths params (after_lines homes paths params first r.ended) k lines) r.counts)
        ∙ sym (told_append homes paths params first 1 r.ended lines)

    more_after : variables vars s.vars_used now.shouts ≡ after_lines homes paths params first (r.ended ++ lines)
    more_after =
        h.after
        ∙ after_lines_cut homes paths params now lines
        ∙ ap (λ (u : Variables). after_lines homes paths params u lines) r.after
        ∙ sym (after_append homes paths params first r.ended lines)

  module _ {first : Variables} (read block : Text) (w : Wrote) (at : ℕ) {k : Carried} {b c : Buffers}
      (r : Reaches homes paths params first (read ++ take at block) w b.line k.kept k.line (variables b.vars k.vars_used k.shouts)) where
    -- the block ran out
    pub reaches_open : {n : ℕ} → Stays k.kept block at b c n
        → Reaches homes paths params first (read ++ block) w c.line n k.line (variables c.vars k.vars_used k.shouts)
    reaches_open s = record {
      ended = r.ended;
      left = r.left ++ came block at;
      cuts = cuts_more read block at r.cuts s.runs_out;
      holds = holding_more block at r.holds s.keeps;
      words = r.words;
      messages = r.messages;
      counts = r.counts;
      after = ap (λ (x : Text). variables x k.vars_used k.shouts) s.same_vars ∙ r.after;
    }

    -- a line ended, and is counted
    pub reaches_line : {len told used next number : ℕ} → Tells homes paths params k block at b c len told used next → number ≡ next_number k.line
        → Reaches homes paths params first (read ++ take next block) (wrote_more w (record { len = len; told = told; vars_used = used }) c.said)
        c.line 0 number (variables c.vars used k.shouts)
    unfolding number_after
    reaches_line {len} {told} {used} t e =
        let l : Text = r.left ++ came block at in
        let a : Said = record { len = len; told = told; vars_used = used } in
        let g : grown b.line k.kept block at ∷ [] ≡ cut_lines (l ∷ []) = ap (λ (x : Text). x ∷ []) (holding_came r.holds block at) in
        let h : Says homes paths params (variables b.vars k.vars_used k.shouts) k.line (cut_lines (l ∷ [])) b.said c.said c.vars a =
        subst (λ (x : List Text). Says homes paths params (variables b.vars k.vars_used k.shouts) k.line x b.said c.said
        c.vars a) g t.says in
        record {
          ended = r.ended ++ l ∷ [];
          left = [];
          cuts = cuts_line read block at r.cuts t.ends;
          holds = holding_none c.line;
          words = more_said r (l ∷ []) h;
          messages = more_told r (l ∷ []) h;
          counts = e ∙ ap next_number r.counts ∙ sym (number_append 1 r.ended (l ∷ []));
          after = more_after r (l ∷ []) h;
        }

  -- turns that stop within a block leave the lines that are not answered yet
  pub reaches_stopped : {first now : Variables} (read block : Text) (at : ℕ) {w : Wrote} {line : Text} {kept n : ℕ}
      → Reaches homes paths params first (read ++ take at block) w line kept n now → Ran homes paths params first (read ++ block) now
  reaches_stopped read block at {w = w} r = record {
    wrote = w;
    lines = r.ended;
    others = lines_of (r.left ++ drop at block);
    all = ap (λ (x : Text). lines_of (read ++ x)) (sym (take-append-drop at block))
        ∙ ap lines_of (sym (append_assoc read (take at block) (drop at block)))
        ∙ r.cuts.is (drop at block);
    words = r.words;
    messages = r.messages;
    after = r.after;
  }

  module _ {first now : Variables} {read line : Text} {w : Wrote} {kept n : ℕ} (r : Reaches homes paths params first read w line kept n now) where
    -- what was read has these lines, and then what is left
    pub reaches_ran : Ran homes paths params first read now
    reaches_ran = record {
      wrote = w;
      lines = r.ended;
      others = last_line r.left;
      all = cuts_lines r.cuts;
      words = r.words;
      messages = r.messages;
      after = r.after;
    }

    -- the input ended: with the last line, all that is said and told is what the stage says and tells of all that was read
    module _ {old left vars : Text} {s : Said} (h : Says homes paths params now n (last_line (take kept line)) old left vars s) where
      last : Says homes paths params now n (cut_lines (last_line r.left)) old left vars s
      last = subst (λ (x : List Text). Says homes paths params now n x old left vars s) (holding_last r.holds) h

      whole : r.ended ++ last_line r.left ≡ lines_of read
      whole = sym (cuts_lines r.cuts)

      pub run_said : (wrote_more w s left).words ≡ said_of homes paths params first (lines_of read)
      run_said = more_said r (last_line r.left) last ∙ ap (said_of homes paths params first) whole

      pub run_told : (wrote_more w s left).messages ≡ told_of homes paths params first 1 (lines_of read)
      run_told = more_told r (last_line r.left) last ∙ ap (told_of homes paths params first 1) whole

      pub run_after : variables vars s.vars_used now.shouts ≡ after_lines homes paths params first (lines_of read)
      run_after = more_after r (last_line r.left) last ∙ ap (after_lines homes paths params first) whole

      pub run_ran : Ran homes paths params first read (variables vars s.vars_used now.shouts)
      run_ran = record {
        wrote = wrote_more w s left;
        lines = lines_of read;
        others = [];
        all = sym (append-nil (lines_of read));
        words = run_said;
        messages = run_told;
        after = run_after;
      }

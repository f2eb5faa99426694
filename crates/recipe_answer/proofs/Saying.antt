-- What is said and told of a line depends on no byte that stood in the work area, in the output or in the message's buffer before, only on the lengths of
-- the first and the last: an output that the longest quoted line fits is as good as any longer one. So the line is quoted where it is said.
use Prim.Native.Nat.{ℕ, ◌+◌, ◌-◌, ◌≤◌}
use native.Mathlib.Omega.{arith}
use mathlib.Core.Path.{◌≡◌, refl, sym, ap, subst, ◌∙◌}
use mathlib.Core.Bool.{Bool}
use mathlib.Core.List.{List, [], ◌∷◌, ◌++◌, append_assoc, append-nil}
use lib.Dec.{eqb, leb}
use lib.ListN.{length, take, drop, replicate, length-append, length-drop, length-replicate, take-append-drop}
use lib.Seq.{length-take-le, take_at, drop_at, drop-drop, drop-append-le}
use borrow.Author.Tests.{eqb-true, eqb-false, le-leb, leb-true}
use borrow.Rule.Slice.PartMut.{put_mid, mid_of}
use Rattle.stages.specs.Numbers.{work_least, line_limit, image_limit, row_limit}
use Rattle.stages.specs.Bytes.{Text, text}
use Rattle.stages.specs.Images.{Pairs, flat, image}
use Rattle.stages.specs.Outcome.{Placed, refused_at, demands_at, done_at, ◌then◌}
use Rattle.stages.specs.Units.{decimal}
use Rattle.stages.specs.Line.{Fields}
use Rattle.stages.specs.Quote.{quoted_line}
use Rattle.stages.specs.Call.{Given, over, padded, cleared, shown, expanded, answered, quoted_in, normaliser}
use Rattle.stages.specs.Call as stage
use Rattle.stages.specs.Program.{Variables, given_line, said, told, said_of, told_of, after_line, after_lines}
use Rattle.stages.proofs.Bools.{either}
use Rattle.stages.proofs.Answers.{normaliser_fits}
use Rattle.stages.proofs.Rooms.{over_front}
use Rattle.system.proofs.Counting.{prefix_len_of_le}
use Rattle.text.specs.Putting.{Puts}
use Rattle.text.proofs.Filling.{Filling, fill_room, fill_free_length, fill_length, fill_piece, fill_ends}
use Rattle.recipe_cut.specs.Said.{said_by, line_in, answer_room, told_by, told_room, written_room}
use Rattle.recipe_cut.proofs.Saying.{said_ok, said_no, said_is, said_small}
use Rattle.recipe_cut.proofs.Telling.{told_is, told_small}
use Rattle.call_check.specs.Calls.{given}
use Rattle.call_deliver.specs.Hands.{Gives}
use Rattle.call_deliver.specs.declared.Answer.{Answer}
use Rattle.call_deliver.proofs.Awaiting.{answered_clear}
use Rattle.recipe_answer.specs.Says.{variables, Lent, Says}

-- answers to the same outcome that differ in the old bytes of the output and the message's buffer, and in the work area, are said and told alike and leave
-- the same variables
pub record Alike (a b : stage.Answer) : Type 0 where
  pub words : said a ≡ said b
  pub messages : (n : ℕ) → told n a ≡ told n b
  pub variables : a.vars ≡ b.vars
  pub vars_used : a.vars_used ≡ b.vars_used

answered_alike : (g h : Given) (o : Placed (Text × Pairs)) → g.vars ≡ h.vars → g.vars_used ≡ h.vars_used → length g.message ≡ length h.message
    → Alike (answered g o) (answered h o)
unfolding answered said told
answered_alike g h (refused_at n place) v u m = record { words = refl; messages = λ k. refl; variables = v; vars_used = u }
answered_alike g h (demands_at t place) v u m = record {
  words = refl;
  messages = λ k. ap (λ (x : Text). text "line " ++ (decimal k ++ (text ": " ++ (x ++ text "\n"))))
      (over_front (shown g t) g.message ∙ same ∙ sym (over_front (shown h t) h.message));
  variables = v;
  vars_used = u;
}
  where
    same : shown g t ≡ shown h t
    same = unfold shown in ap (λ (n : ℕ). take n t) m
answered_alike g h (done_at r) v u m = record {
  words = ap (λ (x : Text). text "ok " ++ (x ++ text "\n")) (over_front r.0 g.out ∙ sym (over_front r.0 h.out));
  messages = λ k. refl;
  variables =
      ap (λ (n : ℕ). over (padded n (image (flat r.1))) g.vars) u ∙ ap (λ (x : Text). over (padded h.vars_used (image (flat r.1))) x) v;
  vars_used = refl;
}

-- what the normaliser works out, before it is handed over
unfoldable outcome : Given → Placed (Text × Pairs)
unfolding expanded quoted_in
outcome g = expanded g image_limit then λ r. quoted_in (length g.out) r.0 then λ t. done_at (t, r.1)

-- the longest quoted line has room in both
quoted_room : (a b : ℕ) (l : Fields) → line_limit ≤ a → line_limit ≤ b → quoted_in a l ≡ quoted_in b l
unfolding quoted_in
quoted_room a b l h k =
    either (leb (length (quoted_line l)) line_limit)
    (λ e.
    let n : length (quoted_line l) ≤ line_limit = leb-true (length (quoted_line l)) line_limit e in
    rw (le-leb (length (quoted_line l)) a (omega arith), le-leb (length (quoted_line l)) b (omega arith)))
    (λ e. rw e)

then_same : {A B : Type 0} (o : Placed A) (f g : A → Placed B) → ((a : A) → f a ≡ g a) → (o then f) ≡ (o then g)
then_same (refused_at n place) f g h = refl
then_same (demands_at t place) f g h = refl
then_same (done_at a) f g h = h a

module _ (line vars : Text) (used : ℕ) (shouts : Bool) (homes params paths work out message work' out' message' : Text) (w : length work ≡ length work')
    (o : line_limit ≤ length out) (o' : line_limit ≤ length out') (m : length message ≡ length message') where
  abbrev these : Given
  these = given line vars used shouts homes params paths work out message

  abbrev those : Given
  those = given line vars used shouts homes params paths work' out' message'

  same_expanded : expanded these image_limit ≡ expanded those image_limit
  unfolding expanded
  same_expanded = rw w

  same_outcome : outcome these ≡ outcome those
  unfolding outcome
  same_outcome =
      ap (λ (x : Placed (Fields × Pairs)). x then λ r. quoted_in (length out) r.0 then λ t. done_at (t, r.1)) same_expanded
      ∙ then_same (expanded those image_limit) _ _
      (λ r. ap (λ (x : Placed Text). x then λ t. done_at (t, r.1)) (quoted_room (length out) (length out') r.0 o o'))

  same_lengths : Alike (normaliser these) (normaliser those)
  unfolding normaliser outcome
  same_lengths =
      subst (λ (x : Placed (Text × Pairs)). Alike (normaliser these) (answered those x)) same_outcome
      (answered_alike these those (outcome these) refl refl m)

-- the code's answer, said and told

module _ (line vars : Text) (used : ℕ) (shouts : Bool) (homes params paths work out message : Text) (l : Lent work message) (o : line_limit ≤ length out) where
  to_stage : Alike (normaliser (given line vars used shouts homes params paths work out message))
      (normaliser (given_line homes paths params line (variables vars used shouts)))
  unfolding given_line
  to_stage =
      same_lengths line vars used shouts homes params paths work out message (replicate work_least 0) (replicate image_limit 0) (replicate row_limit 0)
      (sym l.area ∙ sym (length-replicate {A = ℕ} work_least 0)) o (omega (arith, length-replicate {A = ℕ} image_limit 0))
      (sym l.row ∙ sym (length-replicate {A = ℕ} row_limit 0))

-- the output is what it was but for the bytes that are counted
answered_over : (g : Given) (o : Placed (Text × Pairs)) → (answered g o).out ≡ over (take (answered g o).out_length (answered g o).out) g.out
unfolding answered over
answered_over g (refused_at n place) = refl
answered_over g (demands_at t place) = refl
answered_over g (done_at r) = ap (λ (x : Text). over x g.out) (sym (over_front r.0 g.out))

-- the output's length is within the output
out_fits_lem : (g : Given) → (normaliser g).out_length ≤ length g.out
out_fits_lem g =
    either (eqb (normaliser g).number 0)
    (λ e. ((normaliser_fits g).accepts (eqb-true (normaliser g).number 0 e)).out_fits)
    (λ e. omega (arith, ((normaliser_fits g).refuses (eqb-false (normaliser g).number 0 e)).nothing))

-- what the code is told by the normaliser
module _ (g : Given) {r : Answer} {vars work out message : Text} (h : Gives (normaliser g) r vars work out message) where
  same_out : length out ≡ length g.out
  same_out = ap length h.hands.output ∙ (normaliser_fits g).out_kept

  same_message : length message ≡ length g.message
  same_message = ap length h.hands.message ∙ (normaliser_fits g).tells.kept

  pub out_inside : r.out_len ≤ length out
  out_inside = omega (arith, h.hands.out_length, out_fits_lem g, same_out)

  pub message_inside : r.message_len ≤ length message
  message_inside = omega (arith, h.hands.message_length, (normaliser_fits g).tells.fits, same_message)

  -- the quoted line and the message as they stand in their buffers
  abbrev pub quoted : Text
  quoted = take r.out_len out

  abbrev pub demanded : Text
  demanded = take r.message_len message

  quoted_most : length quoted ≤ length g.out
  quoted_most = omega (arith, length-take-le r.out_len out out_inside, out_inside, same_out)

  demanded_most : length demanded ≤ length g.message
  demanded_most = omega (arith, length-take-le r.message_len message message_inside, message_inside, same_message)

  pub area_cleared : work ≡ cleared g.work
  unfolding normaliser outcome
  area_cleared = h.clears ∙ answered_clear g (outcome g)

  words_are : said_by r.number r.place quoted ≡ said (normaliser g)
  words_are =
      ap (λ (n : ℕ). said_by n r.place quoted) h.hands.number
      ∙ ap (λ (n : ℕ). said_by (normaliser g).number n quoted) h.hands.place
      ∙ ap (λ (n : ℕ). said_by (normaliser g).number (normaliser g).place (take n out)) h.hands.out_length
      ∙ ap (λ (x : Text). said_by (normaliser g).number (normaliser g).place (take (normaliser g).out_length x)) h.hands.output
      ∙ sym (said_is (normaliser g))

  messages_are : (n : ℕ) → told_by r.number n demanded ≡ told n (normaliser g)
  messages_are n =
      ap (λ (k : ℕ). told_by k n demanded) h.hands.number
      ∙ ap (λ (k : ℕ). told_by (normaliser g).number n (take k message)) h.hands.message_length
      ∙ ap (λ (x : Text). told_by (normaliser g).number n (take (normaliser g).message_length x)) h.hands.message
      ∙ sym (told_is n (normaliser g))

  -- the line is quoted where it is said: the output is a part of the buffer of the words
  module _ (old : Text) (e : g.out ≡ mid_of 3 line_limit old) (f : written_room ≤ length old) where
    pub lent_long : length g.out ≡ line_limit
    lent_long = ap length e ∙ length-take-le line_limit (drop 3 old) (omega (arith, length-drop 3 old))

    -- that buffer when the line stands in it
    abbrev lined : Text
    lined = put_mid 3 line_limit old out

    out_is : out ≡ over quoted g.out
    unfolding normaliser outcome
    out_is =
        h.hands.output
        ∙ answered_over g (outcome g)
        ∙ ap (λ (n : ℕ). over (take n (normaliser g).out) g.out) (sym h.hands.out_length)
        ∙ ap (λ (x : Text). over (take r.out_len x) g.out) (sym h.hands.output)

    quoted_long : length quoted ≡ r.out_len
    quoted_long = length-take-le r.out_len out out_inside

    -- the bytes behind the line are those that were there
    kept_behind : drop (length quoted) g.out ++ drop line_limit (drop 3 old) ≡ drop (length quoted) (drop 3 old)
    kept_behind =
        ap (λ (x : Text). drop (length quoted) x ++ drop line_limit (drop 3 old)) e
        ∙ sym (drop-append-le (length quoted) (mid_of 3 line_limit old) (drop line_limit (drop 3 old)) (omega (arith, quoted_most, ap length e)))
        ∙ ap (drop (length quoted)) (take-append-drop line_limit (drop 3 old))

    from_line : drop 3 lined ≡ quoted ++ drop (length quoted) (drop 3 old)
    unfolding over
    from_line =
        drop_at (take 3 old) (out ++ drop line_limit (drop 3 old)) 3 (length-take-le 3 old (omega arith))
        ∙ ap (λ (x : Text). x ++ drop line_limit (drop 3 old)) out_is
        ∙ append_assoc quoted (drop (length quoted) g.out) (drop line_limit (drop 3 old))
        ∙ ap (λ (x : Text). quoted ++ x) kept_behind

    pub lined_length : length lined ≡ length old
    lined_length =
        simp (length-append, length-drop) (omega (arith, length-take-le 3 old (omega arith), same_out, lent_long))

    line_said : line_in r.out_len lined ≡ quoted
    line_said = ap (take r.out_len) from_line ∙ take_at quoted (drop (length quoted) (drop 3 old)) r.out_len quoted_long

    nothing_quoted : (r.number ≡ 0 → ⊥) → length quoted ≡ 0
    nothing_quoted n =
        omega (arith, quoted_long, h.hands.out_length, ((normaliser_fits g).refuses (λ z. n (h.hands.number ∙ z))).nothing)

    -- the words are longer than the line, and what comes before it
    words_cover : 3 + length quoted ≤ length (said_by r.number r.place quoted)
    words_cover =
        either (eqb r.number 0)
        (λ z. rw (said_ok r.number r.place quoted (eqb-true r.number 0 z)) (simp length-append (omega arith)))
        (λ z. rw (said_no r.number r.place quoted (eqb-false r.number 0 z))
        (simp length-append (omega (arith, nothing_quoted (eqb-false r.number 0 z)))))

    -- so that what stands behind them is what stood there
    over_same : over (said_by r.number r.place quoted) lined ≡ over (said_by r.number r.place quoted) old
    unfolding over
    over_same =
        ap (λ (x : Text). said_by r.number r.place quoted ++ x)
        (cut lined
        ∙ ap (drop more) (ap (drop (length quoted)) from_line ∙ drop_at quoted (drop (length quoted) (drop 3 old)) (length quoted) refl)
        ∙ sym (cut old))
      where
        more : ℕ
        more = length (said_by r.number r.place quoted) - (3 + length quoted)

        cut : (x : Text) → drop (length (said_by r.number r.place quoted)) x ≡ drop more (drop (length quoted) (drop 3 x))
        cut x =
            let n : 3 + length quoted + more ≡ length (said_by r.number r.place quoted) = omega (arith, words_cover) in
            sym (ap (drop more) (drop-drop (length quoted) 3 x) ∙ drop-drop more (3 + length quoted) x ∙ ap (λ (k : ℕ). drop k x) n)

    pub puts_around : {left : Text} {len : ℕ} → Puts (said_by r.number r.place (line_in r.out_len lined)) lined left len
        → Puts (said_by r.number r.place quoted) old left len
    puts_around p = record {
      counts = p.counts ∙ ap (λ (x : Text). length (said_by r.number r.place x)) line_said;
      leaves = p.leaves ∙ ap (λ (x : Text). over (said_by r.number r.place x) lined) line_said ∙ over_same;
    }

  -- the words are written, and what is told is to come; then both stand behind each other
  module _ (n : ℕ) {old left : Text} {len : ℕ} (f : length g.out + answer_room + (length g.message + told_room) ≤ length old)
      (p : Puts (said_by r.number r.place quoted) old left len) where
    abbrev words : Text
    words = said_by r.number r.place quoted

    abbrev messages : Text
    messages = told_by r.number n demanded

    said_first : Filling (words ++ messages) messages old left len
    said_first = record {
      front = words;
      splits = refl;
      long = p.counts;
      is = p.leaves;
      fits = omega (
        arith,
        length-append words messages,
        said_small r.number r.place quoted,
        told_small r.number n demanded,
        quoted_most,
        demanded_most,
      );
    }

    pub said_inside : len ≤ length left
    said_inside = omega (arith, fill_room said_first, fill_length said_first)

    pub told_fits : length demanded + told_room ≤ length (mid_of len (length left - len) left)
    told_fits =
        omega (arith, fill_free_length said_first, p.counts, said_small r.number r.place quoted, quoted_most, demanded_most)

    module _ {ys : Text} {k : ℕ} (q : Puts messages (mid_of len (length left - len) left) ys k) where
      both_filled : Filling (words ++ messages) [] old (put_mid len (length left - len) left ys) (len + k)
      both_filled = fill_piece said_first messages [] ys k (len + k) (sym (append-nil messages)) q refl

      pub both_put : Puts (words ++ messages) old (put_mid len (length left - len) left ys) (len + k)
      both_put = fill_ends both_filled refl

      pub both_same : length (put_mid len (length left - len) left ys) ≡ length old
      both_same = fill_length both_filled

      pub both_inside : len + k ≤ length (put_mid len (length left - len) left ys)
      both_inside = omega (arith, fill_room both_filled, both_same)

-- what is said and told of a line is the stage's
module _ (homes paths params line vars : Text) (used : ℕ) (shouts : Bool) where
  abbrev answer : stage.Answer
  answer = normaliser (given_line homes paths params line (variables vars used shouts))

  one_said : said answer ≡ said_of homes paths params (variables vars used shouts) (line ∷ [])
  unfolding said_of
  one_said = sym (append-nil (said answer))

  one_told : (n : ℕ) → told n answer ≡ told_of homes paths params (variables vars used shouts) n (line ∷ [])
  unfolding told_of
  one_told n = sym (append-nil (told n answer))

  one_after : (buffer : Text) (n : ℕ) → buffer ≡ answer.vars → n ≡ answer.vars_used
      → variables buffer n shouts ≡ after_lines homes paths params (variables vars used shouts) (line ∷ [])
  unfolding after_lines after_line
  one_after buffer n e f = ap (λ (b : Text). variables b n shouts) e ∙ ap (λ (k : ℕ). variables answer.vars k shouts) f

-- texts that stand behind each other at the front of a buffer, where they are what is said and told
module _ (homes paths params : Text) (v : Variables) (n : ℕ) (lines : List Text) {words messages : Text} (e : words ≡ said_of homes paths params v lines)
    (f : messages ≡ told_of homes paths params v n lines) where
  says_both : {old left vars : Text} {len k used : ℕ} → len ≡ length words → k ≡ length messages → Puts (words ++ messages) old left (len + k)
      → len + k ≤ length left → variables vars used v.shouts ≡ after_lines homes paths params v lines
      → Says homes paths params v n lines old left vars (record { len = len; told = k; vars_used = used })
  says_both {old} {left} {len = len} i j p h a = record {
    words = i ∙ ap length e;
    messages = j ∙ ap length f;
    leaves = p.leaves
        ∙ ap (λ (x : Text). over (x ++ messages) old) e
        ∙ ap (λ (x : Text). over (said_of homes paths params v lines ++ x) old) f;
    after = a;
    within = prefix_len_of_le len left (omega (arith, h));
    inside = h;
  }

module _ (line vars : Text) (used : ℕ) (shouts : Bool) (homes params paths work out message : Text) where
  abbrev asked : Given
  asked = given line vars used shouts homes params paths work out message

  pub said_so : (n : ℕ) {r : Answer} {vars' work' out' message' old left ys : Text} {len k : ℕ} → Lent work message → length out ≡ line_limit
      → written_room ≤ length old → (h : Gives (normaliser asked) r vars' work' out' message')
      → Puts (said_by r.number r.place (quoted asked h)) old left len
      → Puts (told_by r.number n (demanded asked h)) (mid_of len (length left - len) left) ys k
      → Says homes paths params (variables vars used shouts) n (line ∷ []) old (put_mid len (length left - len) left ys) vars'
      (record { len = len; told = k; vars_used = r.vars_used })
  said_so n {r} {vars'} {old = old} l o f h p q =
      let a : Alike (normaliser asked) (answer homes paths params line vars used shouts) =
      to_stage line vars used shouts homes params paths work out message l (omega arith) in
      let b : length out + answer_room + (length message + told_room) ≤ length old = omega (arith, l.row) in
      says_both homes paths params (variables vars used shouts) n (line ∷ []) (words_are asked h ∙ a.words ∙ one_said homes paths params line vars used shouts)
      (messages_are asked h n ∙ a.messages n ∙ one_told homes paths params line vars used shouts n) p.counts q.counts (both_put asked h n b p q)
      (both_inside asked h n b p q)
      (one_after homes paths params line vars used shouts vars' r.vars_used (h.hands.variables ∙ a.variables) (h.hands.vars_used ∙ a.vars_used))

-- What an item says of reading, and what the reader's loop holds: what is read so far stands in front of what is read from here on.
use Rattle.std.specs.Prelude.{Result, Ok, Err}
use Prim.Native.Nat.{ℕ, ◌+◌, ◌-◌, ◌≤◌, ◌<◌}
use native.Mathlib.Omega.{arith}
use mathlib.Core.Path.{◌≡◌, refl, sym, ap, ◌∙◌, subst}
use mathlib.Core.Bool.{Bool, true, false}
use lib.ListN.{length, drop}
use Rattle.stages.specs.Bytes.{Text, part}
use Rattle.stages.specs.Outcome.{refused}
use Rattle.stages.specs.Syntax.{unescaped, Parts, plain, end, lit, quo, par, len, lst, ari, til, bytes_of, parameters, arith as sums}
use Rattle.stages.specs.Syntax as syntax
use Rattle.stages.specs.Items.{onward, behind_byte, closer_length}
use Rattle.stages.specs.Read.{Taken, put, nest, parts}
use Rattle.text.specs.Cases.{escape_of, spread_of}
use Rattle.stages.proofs.Read.{at_fault, at_stop, at_byte, at_paren, at_value, at_count, at_spread, at_quote, at_inner, at_sum, at_home}
use Rattle.text.specs.Refusals.{refusal_number}
use Rattle.text.specs.declared.refusal.Refusal.{Refusal}
use Rattle.text.specs.Places.{Behind}
use Rattle.read_mode.specs.Modes.{mode_of, open_in, mode_onward, mode_behind, form_of}
use Rattle.read_mode.specs.declared.Cursor.{Cursor}
use Rattle.read_mode.specs.declared.Mode.{Mode}
use Rattle.read_mode.specs.declared.Form.{Form}
use Rattle.read_mode.proofs.GoingOn.{onward_mode, onward_open, behind_mode, behind_open}
use Rattle.read_brace.specs.Shows.{param_of}
use Rattle.read_brace.specs.declared.Param.{Param}
use Rattle.read_brace.specs.declared.Item.{Item}
use Rattle.read_brace.specs.declared.Item.TheVariants.{Stop, Byte, Paren, Quote, Value, Count, Total, Spread, Inner, Sum, Home}
use Rattle.read_item.specs.After.{ItemAt, FoundAt, mode_after, is_stop, is_end}
use Rattle.read_item.proofs.Ending.{end_item}
use Rattle.read_run.specs.Literals.{lits, Passed}
use Rattle.read_run.proofs.Parts.{put_same, put_put, run_parts, run_open}
use Rattle.read_line.specs.Says.{ReadTo, ReadSays, read_from, Here, ReadMore, ItemSays}

-- An item whose case is known.

pub item_shown : (text : Text) (from : Cursor) {i s : Item} → ItemAt text from i → i ≡ s → ItemAt text from s
item_shown text from h e = subst (λ (x : Item). ItemAt text from x) e h

-- Where no item stands, the text is refused.
pub fault_read : (text : Text) (from : Cursor) (e : Refusal) → FoundAt text from (Err e) → read_from text from ≡ refused (refusal_number e)
fault_read text from e h = at_fault text from.at (mode_of from.mode) from.depth (refusal_number e) h

-- An item, by its case.

module _ (text : Text) (from : Cursor) (few : open_in from.mode ≤ from.at) where
  -- the text goes on in a mode with as many open parentheses
  going : (before : Parts → Parts) (next : ℕ) (m : syntax.Mode) (n : Mode) → read_from text from ≡ put before (parts m from.depth (drop next text))
      → m ≡ mode_of n → open_in n ≡ open_in from.mode → Behind text from.at next → ReadMore text from next n
  going before next m n e same parens b =
      let k = b.onward in
      record {
        before = before;
        is = e ∙ ap (λ (x : syntax.Mode). put before (parts x from.depth (drop next text))) same;
        place = b;
        few = omega (arith, parens);
      }

  -- as it was read
  on : (before : Parts → Parts) (next : ℕ) → read_from text from ≡ put before (parts (onward (mode_of from.mode)) from.depth (drop next text))
      → Behind text from.at next → ReadMore text from next (mode_onward from.mode)
  on before next e b = going before next (onward (mode_of from.mode)) (mode_onward from.mode) e (onward_mode from.mode) (onward_open from.mode) b

  -- after an inner text, which is read from `start` on
  inside : (s : Item) → is_stop s ≡ false → mode_after s from.mode ≡ mode_onward from.mode → (f : Parts → Parts → Parts) (start : ℕ) (r : Taken)
      → from.at < start → read_from text from ≡ nest f r (parts (onward (mode_of from.mode)) from.depth) → (got : Result ℕ Refusal) → ReadSays text start r got
      → ItemSays s text from got
  inside s stays same f start r k e (Err n) q = e ∙ ap (λ (x : Taken). nest f x (parts (onward (mode_of from.mode)) from.depth)) q
  inside s stays same f start r k e (Ok next) q =
      let a = q.onward in
      rw (stays, same)
      (on (f q.tree) next (e ∙ ap (λ (x : Taken). nest f x (parts (onward (mode_of from.mode)) from.depth)) q.is)
      (record { onward = omega arith; within = q.within }))

module _ {text : Text} {from : Cursor} {i : Item} (h : Here text from i) where
  known : {s : Item} → i ≡ s → ItemAt text from s
  known e = item_shown text from h.is e

  told : {s : Item} → i ≡ s → (r : Result ℕ Refusal) → ItemSays s text from r → ItemSays i text from r
  told e r q = subst (λ (x : Item). ItemSays x text from r) (sym e) q

  pub item_stop : {next : ℕ} → i ≡ Stop next → ItemSays i text from (Ok next)
  item_stop {next = next} e =
      let s = known e in
      told e (Ok next)
      (record { tree = end; is = at_stop text from.at (mode_of from.mode) from.depth next s.0 s.1; onward = s.1; within = s.2 })

  pub item_byte : {q : Bool} {b next : ℕ} → i ≡ Byte q b next → ItemSays i text from (Ok next)
  item_byte {q = q} {b = b} {next = next} e =
      let s = known e in
      told e (Ok next)
      (going text from h.few (lit (escape_of q) b) next (behind_byte (mode_of from.mode) (escape_of q) b) (mode_behind from.mode q b)
      (at_byte text from.at (mode_of from.mode) from.depth (escape_of q) b next s.0 s.1.onward) (behind_mode from.mode q b)
      (behind_open from.mode q b) s.1)

  pub item_paren : {b n : ℕ} → i ≡ Paren b n → ItemSays i text from (Ok (from.at + 1))
  item_paren {b = b} {n = n} e =
      let s = known e in
      told e (Ok (from.at + 1))
      (record {
        before = lit unescaped b;
        is = at_paren text from.at (mode_of from.mode) from.depth b n s.0;
        place = record { onward = omega arith; within = omega (arith, s.1) };
        few = s.2;
      })

  pub item_value : {x : Param} {next : ℕ} → i ≡ Value x next → ItemSays i text from (Ok next)
  item_value {x = x} {next = next} e =
      let s = known e in
      told e (Ok next)
      (on text from h.few (par (param_of text x) plain end) next
      (at_value text from.at (mode_of from.mode) from.depth (param_of text x) next s.0 s.1.onward) s.1)

  pub item_count : {x : Param} {next : ℕ} → i ≡ Count x next → ItemSays i text from (Ok next)
  item_count {x = x} {next = next} e =
      let s = known e in
      told e (Ok next)
      (on text from h.few (len (bytes_of (param_of text x))) next
      (at_count text from.at (mode_of from.mode) from.depth (bytes_of (param_of text x)) next s.0 s.1.onward) s.1)

  pub item_total : {next : ℕ} → i ≡ Total next → ItemSays i text from (Ok next)
  item_total {next = next} e =
      let s = known e in
      told e (Ok next)
      (on text from h.few (len parameters) next
      (at_count text from.at (mode_of from.mode) from.depth parameters next s.0 s.1.onward) s.1)

  pub item_spread : {a : Bool} {next : ℕ} → i ≡ Spread a next → ItemSays i text from (Ok next)
  item_spread {a = a} {next = next} e =
      let s = known e in
      told e (Ok next)
      (on text from h.few (lst (spread_of a)) next
      (at_spread text from.at (mode_of from.mode) from.depth (spread_of a) next s.0 s.1.onward) s.1)

  pub item_home : {to : ℕ} → i ≡ Home to → ItemSays i text from (Ok to)
  item_home {to = to} e =
      let s = known e in
      told e (Ok to)
      (on text from h.few (til (part text (from.at + 1) to)) to
      (at_home text from.at (mode_of from.mode) from.depth (part text (from.at + 1) to) to s.0 s.1.onward) s.1)

  pub item_quote : {n : Mode} {start : ℕ} → i ≡ Quote n start → (got : Result ℕ Refusal)
      → ReadSays text start (parts (mode_of n) from.depth (drop start text)) got → ItemSays i text from got
  item_quote {n = n} {start = start} e got g =
      let s = known e in
      told e got
      (inside text from h.few (Quote n start) refl refl quo start _ s.1.onward
      (at_quote text from.at (mode_of from.mode) from.depth (mode_of n) start s.0 s.1.onward) got g)

  pub item_inner : {x : Param} {p : Form} {n : Mode} {start : ℕ} → i ≡ Inner x p n start → (got : Result ℕ Refusal)
      → ReadSays text start (parts (mode_of n) (from.depth - 1) (drop start text)) got → ItemSays i text from got
  item_inner {x = x} {p = p} {n = n} {start = start} e got g =
      let s = known e in
      told e got
      (inside text from h.few (Inner x p n start) refl refl (par (param_of text x) (form_of p)) start _ s.1.onward
      (at_inner text from.at (mode_of from.mode) from.depth (param_of text x) (form_of p) (mode_of n) start s.0 s.1.onward) got g)

  pub item_sum : {start : ℕ} → i ≡ Sum start → (got : Result ℕ Refusal) → ReadSays text start (parts (sums 0) (from.depth - 1) (drop start text)) got
      → ItemSays i text from got
  item_sum {start = start} e got g =
      let s = known e in
      let k : from.at < start = omega (arith, s.1) in
      told e got
      (inside text from h.few (Sum start) refl refl ari start _ k
      (at_sum text from.at (mode_of from.mode) from.depth s.0
      ∙ ap (λ (n : ℕ). nest ari (parts (sums 0) (from.depth - 1) (drop n text)) (parts (onward (mode_of from.mode)) from.depth)) (sym s.1)) got g)

-- After an item: the text ends with it, or goes on.

module _ (i : Item) (text : Text) (from : Cursor) {next : ℕ} (q : ItemSays i text from (Ok next)) where
  pub ends : is_stop i ≡ true → ReadTo text from.at (read_from text from) next
  ends e = rw e at q

  pub goes_on : is_stop i ≡ false → ReadMore text from next (mode_after i from.mode)
  goes_on e = rw e at q

-- The reader's loop: the text that is read from `from` on goes on at `here`.

pub record Reads (text : Text) (from here : Cursor) : Type 0 where
  pub before : Parts → Parts
  pub is : read_from text from ≡ put before (read_from text here)
  pub onward : from.at ≤ here.at
  pub within : here.at ≤ length text
  pub few : open_in here.mode ≤ here.at

pub reads_start : (text : Text) (from : Cursor) → from.at ≤ length text → open_in from.mode ≤ from.at → Reads text from from
reads_start text from l k = record { before = λ p. p; is = put_same (read_from text from); onward = omega arith; within = l; few = k }

module _ {text : Text} {from here : Cursor} (g : Reads text from here) where
  -- behind a run
  pub reads_run : {place : Cursor} → Passed text here place → Reads text from place
  reads_run {place = place} p =
      let a = g.onward in
      let b = p.run.onward in
      record {
        before = λ q. g.before (lits (part text here.at place.at) q);
        is = g.is ∙ ap (put g.before) (run_parts p) ∙ put_put g.before (lits (part text here.at place.at)) (read_from text place);
        onward = omega arith;
        within = p.run.within;
        few = omega (arith, run_open p, g.few);
      }

  pub reads_fault : {e : ℕ} → read_from text here ≡ refused e → read_from text from ≡ refused e
  reads_fault h = g.is ∙ ap (put g.before) h

  pub reads_end : {next : ℕ} → ReadTo text here.at (read_from text here) next → ReadTo text from.at (read_from text from) next
  reads_end h =
      let a = g.onward in
      let b = h.onward in
      record { tree = g.before h.tree; is = g.is ∙ ap (put g.before) h.is; onward = omega arith; within = h.within }

  -- the next byte, or the line's end, says that the text ends here
  pub reads_close : {k : ℕ} → is_end here.mode (drop here.at text) ≡ true → k ≡ closer_length (mode_of here.mode)
      → ReadTo text from.at (read_from text from) (here.at + k)
  reads_close e h =
      let next = here.at + closer_length (mode_of here.mode) in
      let q : Here text here (Stop next) = record { is = end_item text here g.within e; few = g.few } in
      rw h (reads_end (ends (Stop next) text here (item_stop q refl) refl))

  pub reads_next : {next : ℕ} {m n : Mode} → ReadMore text here next n → m ≡ n → Reads text from (record { at = next; mode = m; depth = here.depth })
  reads_next {next = next} {m = m} {n = n} h e =
      let a = g.onward in
      let b = h.place.onward in
      record {
        before = λ p. g.before (h.before p);
        is = g.is ∙ ap (put g.before) h.is ∙ put_put g.before h.before (parts (mode_of n) here.depth (drop next text))
            ∙ ap (λ (x : Mode). put (λ p. g.before (h.before p)) (parts (mode_of x) here.depth (drop next text))) (sym e);
        onward = omega arith;
        within = h.place.within;
        few = subst (λ (x : Mode). open_in x ≤ next) (sym e) h.few;
      }

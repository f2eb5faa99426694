-- What an item says of expanding: the item's own row, and after it what is still to be expanded. One law for the items that are added at once, one for
-- those that hold a text.
use Prim.Native.Nat.{ℕ, suc, ◌+◌, ◌-◌, ◌≤◌, ◌<◌}
use native.Mathlib.Omega.{arith}
use mathlib.Core.Path.{◌≡◌, refl, sym, ap, ◌∙◌, subst}
use mathlib.Core.Bool.{Bool, false}
use mathlib.Core.List.{[], ◌∷◌}
use lib.ListN.{length, take, drop}
use Rattle.stages.specs.Bytes.{Text, part, not_zero}
use Rattle.stages.specs.Outcome.{Outcome, refused, demands, done, ◌>>=◌}
use Rattle.stages.specs.Images.{Pairs, held}
use Rattle.stages.specs.Syntax.{unescaped, Parts, plain, end, lit, quo, par, len, lst, ari, til, bytes_of, parameters, arith as sums}
use Rattle.stages.specs.Syntax as syntax
use Rattle.stages.specs.Items.{item, onward, behind_byte}
use Rattle.stages.specs.Items as items
use Rattle.stages.specs.Read.{parts, nest}
use Rattle.stages.specs.Units.{Mark, cell, Row, marked, expanded_mark, lit_mark, decimal}
use Rattle.stages.specs.Params.{Lent, sought}
use Rattle.stages.specs.Expand.{Made, parameter, amount, list_row, of_none, directory, tilde_row, expand}
use Rattle.text.specs.Cases.{escape_of, spread_of}
use Rattle.stages.proofs.Texts.{all_drop}
use Rattle.stages.proofs.Outcomes.{safe_done}
use Rattle.stages.proofs.Safe.{SafeParts, parts_safe}
use Rattle.stages.proofs.Items.{IsParam}
use Rattle.stages.proofs.Read.{at_stop, at_byte, at_paren, at_value, at_count, at_spread, at_quote, at_inner, at_sum, at_home}
use Rattle.stages.proofs.Read.{behind, Within, within}
use Rattle.read_mode.specs.Modes.{mode_of, open_in, mode_onward, mode_behind, form_of}
use Rattle.read_mode.proofs.GoingOn.{onward_mode, onward_open, behind_mode, behind_open}
use Rattle.read_mode.specs.declared.Mode.{Mode}
use Rattle.read_mode.specs.declared.Mode.TheVariants.{Arith}
use Rattle.read_mode.specs.declared.Form as code-form
use Rattle.text.specs.Places.{Behind}
use Rattle.read_brace.specs.Shows.{Shows, Name, param_of}
use Rattle.read_brace.specs.declared.Param.{Param}
use Rattle.read_brace.specs.declared.Item.{Item}
use Rattle.read_brace.specs.declared.Item.TheVariants.{Stop, Byte, Paren, Quote, Value, Count, Total, Spread, Inner, Sum, Home}
use Rattle.expand_add.specs.Added.{Adds}
use Rattle.expand_add.specs.Steps.{beside, placed, quoted, summing, followed}
use Rattle.read_item.specs.After.{mode_after, is_stop}
use Rattle.expand_operand.specs.Operands.{IsNamed}
use Rattle.expand_text.specs.Items.{ItemAnswers, ItemRead}
use Rattle.expand_add.specs.Answers.{Ready, IsRow, IsDemand, Answers, Says, Finishes}
use Rattle.std.specs.Prelude.{Ok, Err}
use Rattle.text.specs.Refusals.{refusal_number}
use Rattle.text.specs.declared.refusal.Refusal.{Refusal}
use Rattle.expand_add.specs.declared.answers.Row as answer
use Rattle.expand_add.specs.declared.answers.Stop.TheVariants as stop
use Rattle.expand_add.specs.Expanded.{Expanded}
use Rattle.expand_add.proofs.Steps.{expand_lit, expand_par, expand_len, expand_lst, expand_quo, expand_ari, expand_til}
use Rattle.expand_add.proofs.Steps.{followed_refused, followed_demands, followed_row, plainly_beside}
use Rattle.expand_add.proofs.Fitting.{adds_same}
use Rattle.expand_add.proofs.Holding.{says_known, adds_finishes}
use Rattle.expand_param.specs.Holding.{sought_in}
use Rattle.expand_param.proofs.Holding.{sought_held, amount_held, amount_parameters}
use Rattle.expand_text.proofs.Inside.{Lends}

-- an enum's answer, once its case is known
pub shown : (text : Text) (at d : ℕ) {r s : Item} (i : _) → Shows text at d r i → r ≡ s → Shows text at d s i
shown text at d i h e = subst (λ (x : Item). Shows text at d x i) e h

is_named_lem : (x : syntax.Param) → IsParam x → IsNamed x
is_named_lem (syntax.var x) i = i
is_named_lem (syntax.nth k) i = tt

-- The text from `at` on is read (`y`), and this is lent to it (`w`).

module _ {lent : Lent} {text : Text} {at : ℕ} {mode : Mode} {d : ℕ} (m : Mark) {units size : ℕ} {vars₀ : Text} {vars_used : ℕ}
    (y : Ready text at mode d units size) (w : Lends lent vars₀ vars_used) where
  abbrev v : Pairs
  v = held (take vars_used vars₀)

  abbrev Passed : Bool → Mode → Text → Text → Expanded → Type 0
  Passed stops after area vars g =
      ItemRead stops after lent text at d m units (λ t. expand lent t m units v) (parts (mode_of mode) d (drop at text)) area vars g

  -- the text goes on behind its first item
  going : (t : Text) {p : Parts} → parts (onward (mode_of mode)) d t ≡ done (p, y.rest) → parts (mode_of (mode_onward mode)) d t ≡ done (p, y.rest)
  going t e = ap (λ (k : syntax.Mode). parts k d t) (sym (onward_mode mode)) ∙ e

  going_open : (next : ℕ) → at < next → open_in (mode_onward mode) ≤ next
  going_open next l = omega (arith, onward_open mode, y.opens)

  so : (stops : Bool) (after : Mode) (area vars : Text) (g : Expanded)
      → ItemAnswers stops after lent text at d m units (expand lent y.tree m units v) y.rest area vars g → Passed stops after area vars g
  so stops after area vars g h = rw y.is h

  -- an item whose own row is `own`, and after it the parts p
  module _ (p : Parts) (own : Made) (is : expand lent y.tree m units v ≡ followed lent p m units own) where
    own_refused : (after : Mode) (area vars : Text) (e : Refusal) → own ≡ refused (refusal_number e) → Passed false after area vars (Err (stop.Refused e))
    own_refused after area vars e h =
        so false after area vars (Err (stop.Refused e)) (is ∙ followed_refused lent p m units own (refusal_number e) h)

    own_demanded : (after : Mode) (area vars : Text) {from count : ℕ} → IsDemand own area from count
        → Passed false after area vars (Err (stop.Demanded from count))
    own_demanded after area vars {from} {count} h =
        so false after area vars (Err (stop.Demanded from count))
        (record { message = h.message; is = is ∙ followed_demands lent p m units own h.message h.is; waits = h.waits })

    own_row : (after : Mode) (area vars : Text) (g : answer.Row) → IsRow lent.room units own area vars g.units g.vars_used g.of_none
        → parts (mode_of after) d (drop g.next text) ≡ done (p, y.rest) → open_in after ≤ g.next → at < g.next → g.next ≤ length text
        → Passed false after area vars (Ok g)
    own_row after area vars g i read o l k =
        so false after area vars (Ok g)
        (record {
          more = p;
          read = read;
          opens = o;
          row = i.row;
          is = is ∙ followed_row lent p m units own i.row (held (take g.vars_used vars)) g.of_none g.units i.is i.counts;
          counts = i.counts;
          stands = i.stands;
          fits = i.fits;
          holds = i.holds;
          onward = l;
          within = k;
        })

    -- what a leaf finishes, after which the text goes on at `next`
    own_finished : (next : ℕ) (after : Mode) → parts (mode_of after) d (drop next text) ≡ done (p, y.rest) → open_in after ≤ next → at < next
        → next ≤ length text → (area vars : Text) (g : Expanded) → Finishes lent.room units own next area vars g → Passed false after area vars g
    own_finished next after read o l k area vars (Err (stop.Refused e)) h = own_refused after area vars e h
    own_finished next after read o l k area vars (Err (stop.Demanded from count)) h = own_demanded after area vars h
    own_finished next after read o l k area vars (Ok g) h =
        own_row after area vars g h.1 (rw h.0 read) (rw h.0 o) (rw h.0 l) (rw h.0 k)

    -- what holds a text from `from` on, with `mid` after it
    own_text : (from : ℕ) (mid : Text) → parts (onward (mode_of mode)) d mid ≡ done (p, y.rest) → at < from → (area vars : Text) (g : Expanded)
        → Answers lent.room text from units own mid area vars g → Passed false (mode_onward mode) area vars g
    own_text from mid read l area vars (Err (stop.Refused e)) h = own_refused (mode_onward mode) area vars e h
    own_text from mid read l area vars (Err (stop.Demanded from' count)) h = own_demanded (mode_onward mode) area vars h
    own_text from mid read l area vars (Ok g) h =
        let k : at < g.next = omega (arith, h.1.onward) in
        own_row (mode_onward mode) area vars g h.0 (going (drop g.next text) (ap (parts (onward (mode_of mode)) d) h.1.ends ∙ read))
        (going_open g.next k) k h.1.within

  -- a row that is added at once, and whether `$@` of no parameters came in it
  own_added : (p : Parts) (came : Bool) (o : Outcome Row) → expand lent y.tree m units v ≡ followed lent p m units (placed units (beside v came o))
      → (next : ℕ) (after : Mode) → parts (mode_of after) d (drop next text) ≡ done (p, y.rest) → open_in after ≤ next → at < next
      → next ≤ length text → (area : Text) (g : Expanded)
      → Adds units (record { next = next; vars_used = vars_used; of_none = came }) o area g → Passed false after area vars₀ g
  own_added p came o is next after read i l k area g h =
      own_finished p (placed units (beside v came o)) is next after read i l k area vars₀ g
      (adds_finishes lent.room units (record { next = next; vars_used = vars_used; of_none = came }) o area vars₀ g h w.holds)

  -- the same, where the text goes on behind its first item
  own_on : (p : Parts) (came : Bool) (o : Outcome Row) → expand lent y.tree m units v ≡ followed lent p m units (placed units (beside v came o))
      → (next : ℕ) → parts (onward (mode_of mode)) d (drop next text) ≡ done (p, y.rest) → at < next → next ≤ length text
      → (area : Text) (g : Expanded) → Adds units (record { next = next; vars_used = vars_used; of_none = came }) o area g
      → Passed false (mode_onward mode) area vars₀ g
  own_on p came o is next read l k area g h = own_added p came o is next (mode_onward mode) (going (drop next text) read) (going_open next l) l k area g h

  abbrev Turned : Item → Text → Text → Expanded → Type 0
  Turned r area vars g = Passed (is_stop r) (mode_after r mode) area vars g

  known : {r s : Item} → r ≡ s → (area vars : Text) (g : Expanded) → Turned s area vars g → Turned r area vars g
  known c area vars g t = subst (λ (s : Item). Turned s area vars g) (sym c) t

-- The item r stands there.
pub record Here (lent : Lent) (text : Text) (at : ℕ) (mode : Mode) (d : ℕ) (m : Mark) (units size : ℕ) (vars₀ : Text) (vars_used : ℕ) (r : Item)
    : Type 0 where
  pub ready : Ready text at mode d units size
  pub lends : Lends lent vars₀ vars_used
  pub shows : Shows text at d r (item (mode_of mode) d (drop at text))

pub here_at : {lent : Lent} {text : Text} {at : ℕ} {mode : Mode} {d : ℕ} (m : Mark) {units size : ℕ} {vars₀ : Text} {vars_used : ℕ} (r : Item)
    → Ready text at mode d units size → Lends lent vars₀ vars_used → Shows text at d r (item (mode_of mode) d (drop at text))
    → Here lent text at mode d m units size vars₀ vars_used r
here_at m r y w s = record { ready = y; lends = w; shows = s }

module _ {lent : Lent} {text : Text} {at : ℕ} {mode : Mode} {d : ℕ} {m : Mark} {units size : ℕ} {vars₀ : Text} {vars_used : ℕ} {r : Item}
    (x : Here lent text at mode d m units size vars₀ vars_used r) where
  abbrev u : Pairs
  u = held (take vars_used vars₀)

  abbrev Said : Text → Text → Expanded → Type 0
  Said area vars g = Turned m x.ready x.lends r area vars g

  pub item_stop : (area : Text) {next : ℕ} → r ≡ Stop next → Said area vars₀ (Ok (record { units = 0; next = next; vars_used = vars_used; of_none = false }))
  unfolding expand
  item_stop area {next} c =
      let s = shown text at d _ x.shows c in
      let n : parts (mode_of mode) d (drop at text) ≡ done (end, drop next text) = at_stop text at (mode_of mode) d next s.0 s.1 in
      known m x.ready x.lends c area vars₀ (Ok (record { units = 0; next = next; vars_used = vars_used; of_none = false }))
      (rw n (record { is = refl; none = refl; holds = x.lends.holds; ends = record { ends = refl; onward = s.1; within = s.2 } }))

  pub item_byte : {q : Bool} {b next : ℕ} → r ≡ Byte q b next → {k : Mark} → k ≡ lit_mark (escape_of q) m → (area : Text) (g : Expanded)
      → Adds units (record { next = next; vars_used = vars_used; of_none = false }) (done (cell k b ∷ [])) area g → Said area vars₀ g
  item_byte {q} {b} {next} c {k} e area g f =
      let s = shown text at d _ x.shows c in
      let l = s.1.onward in
      let t = behind (lit (escape_of q) b) (parts (behind_byte (mode_of mode) (escape_of q) b) d (drop next text)) x.ready.tree x.ready.rest
      (sym (at_byte text at (mode_of mode) d (escape_of q) b next s.0 l) ∙ x.ready.is) in
      known m x.ready x.lends c area vars₀ g
      (own_added m x.ready x.lends t.next false (done (cell (lit_mark (escape_of q) m) b ∷ []))
      (ap (λ (x : Parts). expand lent x m units u) t.whole ∙ expand_lit lent t.next m units (escape_of q) b u)
      next (mode_behind mode q b) (ap (λ (j : syntax.Mode). parts j d (drop next text)) (sym (behind_mode mode q b)) ∙ t.read)
      (omega (arith, behind_open mode q b, x.ready.opens)) l s.1.within area g
      (adds_same units (record { next = next; vars_used = vars_used; of_none = false }) area g (ap (λ (j : Mark). done (cell j b ∷ [])) e) f))

  pub paren_place : {b n : ℕ} → r ≡ Paren b n → at < length text
  paren_place c = (shown text at d _ x.shows c).1

  pub item_paren : {b n : ℕ} → r ≡ Paren b n → (area : Text) (g : Expanded)
      → Adds units (record { next = at + 1; vars_used = vars_used; of_none = false }) (done (cell m b ∷ [])) area g → Said area vars₀ g
  item_paren {b} {n} c area g f =
      let s = shown text at d _ x.shows c in
      let i = s.1 in
      let t = behind (lit unescaped b) (parts (sums n) d (drop (at + 1) text)) x.ready.tree x.ready.rest
      (sym (at_paren text at (mode_of mode) d b n s.0) ∙ x.ready.is) in
      known m x.ready x.lends c area vars₀ g
      (own_added m x.ready x.lends t.next false (done (cell m b ∷ []))
      (ap (λ (x : Parts). expand lent x m units u) t.whole ∙ expand_lit lent t.next m units unescaped b u)
      (at + 1) (Arith n) t.read s.2 (omega arith) (omega arith) area g f)

  module _ {p : Param} {next : ℕ} (c : r ≡ Value p next) where
    pub value_name : Name text p.from p.to
    value_name = (shown text at d _ x.shows c).2

    pub item_value : (area : Text) (g : Expanded)
        → Adds units (record { next = next; vars_used = vars_used; of_none = false })
        (sought_in lent.shouts lent.params u (param_of text p) >>= λ t. done (marked (expanded_mark m) t)) area g
        → Said area vars₀ g
    unfolding parameter
    item_value area g f =
        let s = shown text at d _ x.shows c in
        let t = behind (par (param_of text p) plain end) (parts (onward (mode_of mode)) d (drop next text)) x.ready.tree x.ready.rest
        (sym (at_value text at (mode_of mode) d (param_of text p) next s.0 s.1.onward) ∙ x.ready.is) in
        known m x.ready x.lends c area vars₀ g
        (own_on m x.ready x.lends t.next false (sought lent u (param_of text p) >>= λ t. done (marked (expanded_mark m) t))
        (ap (λ (x : Parts). expand lent x m units u) t.whole ∙ expand_par lent t.next m units (param_of text p) plain end u
        ∙ ap (λ (o : Made). followed lent t.next m units (placed units o)) (plainly_beside (sought lent u (param_of text p)) m u))
        next t.read s.1.onward s.1.within area g
        (adds_same units (record { next = next; vars_used = vars_used; of_none = false }) area g
        (ap (λ (o : Outcome Text). o >>= λ t. done (marked (expanded_mark m) t)) (sym (sought_held lent lent.params refl u (param_of text p)))) f))

  count_bind : (o : Outcome Text) (m : Mark)
      → ◌≡◌ {A = Outcome Row} (o >>= λ t. done (marked (expanded_mark m) (decimal (length t))))
      ((o >>= λ t. done (length t)) >>= λ n. done (marked (expanded_mark m) (decimal n)))
  count_bind (refused e) m = refl
  count_bind (demands t) m = refl
  count_bind (done t) m = refl

  -- a number that counts
  amounts : (j : syntax.Counted) {o : Outcome ℕ} → o ≡ amount lent j u → {next : ℕ} → item (mode_of mode) d (drop at text) ≡ items.count j (next - suc at)
      → Behind text at next → (area : Text) (g : Expanded)
      → Adds units (record { next = next; vars_used = vars_used; of_none = false }) (o >>= λ n. done (marked (expanded_mark m) (decimal n))) area g
      → Passed m x.ready x.lends false (mode_onward mode) area vars₀ g
  amounts j q {next} e l area g f =
      let t = behind (len j) (parts (onward (mode_of mode)) d (drop next text)) x.ready.tree x.ready.rest
      (sym (at_count text at (mode_of mode) d j next e l.onward) ∙ x.ready.is) in
      own_on m x.ready x.lends t.next false (amount lent j u >>= λ n. done (marked (expanded_mark m) (decimal n)))
      (ap (λ (x : Parts). expand lent x m units u) t.whole ∙ expand_len lent t.next m units j u)
      next t.read l.onward l.within area g
      (adds_same units (record { next = next; vars_used = vars_used; of_none = false }) area g
      (ap (λ (o : Outcome ℕ). o >>= λ n. done (marked (expanded_mark m) (decimal n))) q) f)

  module _ {p : Param} {next : ℕ} (c : r ≡ Count p next) where
    pub count_name : Name text p.from p.to
    count_name = (shown text at d _ x.shows c).2

    pub item_count : (area : Text) (g : Expanded)
        → Adds units (record { next = next; vars_used = vars_used; of_none = false })
        (sought_in lent.shouts lent.params u (param_of text p) >>= λ t. done (marked (expanded_mark m) (decimal (length t)))) area g
        → Said area vars₀ g
    item_count area g f =
        let s = shown text at d _ x.shows c in
        let o = sought_in lent.shouts lent.params u (param_of text p) in
        known m x.ready x.lends c area vars₀ g
        (amounts (bytes_of (param_of text p)) (sym (amount_held lent lent.params refl u (param_of text p))) s.0 s.1 area g
        (adds_same units (record { next = next; vars_used = vars_used; of_none = false }) area g (count_bind o m) f))

  module _ {next : ℕ} (c : r ≡ Total next) where
    pub item_total : (area : Text) (g : Expanded)
        → Adds units (record { next = next; vars_used = vars_used; of_none = false })
        (done (marked (expanded_mark m) (decimal (length lent.params)))) area g
        → Said area vars₀ g
    item_total area g f =
        let s = shown text at d _ x.shows c in
        known m x.ready x.lends c area vars₀ g
        (amounts parameters (sym (amount_parameters lent lent.params refl u)) s.0 s.1 area g f)

  module _ {apart : Bool} {next : ℕ} (c : r ≡ Spread apart next) where
    pub item_spread : {came : Bool} → came ≡ of_none (spread_of apart) lent.params → (area : Text) (g : Expanded)
        → Adds units (record { next = next; vars_used = vars_used; of_none = came })
        (done (list_row (spread_of apart) m lent.params u)) area g
        → Said area vars₀ g
    item_spread {came} e area g f =
        let s = shown text at d _ x.shows c in
        let t = behind (lst (spread_of apart)) (parts (onward (mode_of mode)) d (drop next text)) x.ready.tree x.ready.rest
        (sym (at_spread text at (mode_of mode) d (spread_of apart) next s.0 s.1.onward) ∙ x.ready.is) in
        known m x.ready x.lends c area vars₀ g
        (own_on m x.ready x.lends t.next came (done (list_row (spread_of apart) m lent.params u))
        (ap (λ (x : Parts). expand lent x m units u) t.whole ∙ expand_lst lent t.next m units (spread_of apart) u
        ∙ ap (λ (b : Bool). followed lent t.next m units (placed units (done (list_row (spread_of apart) m lent.params u, u, b)))) (sym e))
        next t.read s.1.onward s.1.within area g f)

  module _ {to : ℕ} (c : r ≡ Home to) where
    pub home_place : Behind text at to
    home_place = (shown text at d _ x.shows c).1

    pub item_home : (area : Text) (g : Expanded)
        → Adds units (record { next = to; vars_used = vars_used; of_none = false })
        (done (tilde_row (part text (at + 1) to) m (directory u lent.homes (part text (at + 1) to)))) area g
        → Said area vars₀ g
    item_home area g f =
        let s = shown text at d _ x.shows c in
        let t = behind (til (part text (at + 1) to)) (parts (onward (mode_of mode)) d (drop to text)) x.ready.tree x.ready.rest
        (sym (at_home text at (mode_of mode) d (part text (at + 1) to) to s.0 s.1.onward) ∙ x.ready.is) in
        known m x.ready x.lends c area vars₀ g
        (own_on m x.ready x.lends t.next false (done (tilde_row (part text (at + 1) to) m (directory u lent.homes (part text (at + 1) to))))
        (ap (λ (x : Parts). expand lent x m units u) t.whole ∙ expand_til lent t.next m units (part text (at + 1) to) u)
        to t.read s.1.onward s.1.within area g f)

  module _ {n : Mode} {next : ℕ} (c : r ≡ Quote n next) where
    quote_parts : Within quo (parts (mode_of n) d (drop next text)) (parts (onward (mode_of mode)) d) x.ready.tree x.ready.rest
    quote_parts =
        let s = shown text at d _ x.shows c in
        within quo _ (parts (onward (mode_of mode)) d) x.ready.tree x.ready.rest
        (sym (at_quote text at (mode_of mode) d (mode_of n) next s.0 s.1.onward) ∙ x.ready.is)

    pub quote_place : Behind text at next
    quote_place = (shown text at d _ x.shows c).1

    pub quote_ready : Ready text next n d units size
    quote_ready =
        let s = shown text at d _ x.shows c in
        let o = s.2 in
        record {
          start = s.1.within;
          opens = omega arith;
          few = x.ready.few;
          area = x.ready.area;
          clean = x.ready.clean;
          tree = quote_parts.inside;
          rest = quote_parts.mid;
          is = quote_parts.first;
        }

    pub item_quote : (area vars : Text) (g : Expanded) → Says lent.room text next units (λ q. quoted lent q units u)
        (parts (mode_of n) d (drop next text)) area vars g
        → Said area vars g
    item_quote area vars g s =
        let t = quote_parts in
        known m x.ready x.lends c area vars g
        (own_text m x.ready x.lends t.next (quoted lent t.inside units u)
        (ap (λ (x : Parts). expand lent x m units u) t.whole ∙ expand_quo lent t.next m units t.inside u)
        next t.mid t.read (shown text at d _ x.shows c).1.onward area vars g
        (says_known lent.room text next units (λ q. quoted lent q units u) area vars g s t.first))

  module _ {p : Param} {f : code-form.Form} {n : Mode} {next : ℕ} (c : r ≡ Inner p f n next) where
    inner_parts : Within (par (param_of text p) (form_of f)) (parts (mode_of n) (d - 1) (drop next text)) (parts (onward (mode_of mode)) d)
        x.ready.tree x.ready.rest
    inner_parts =
        let s = shown text at d _ x.shows c in
        within (par (param_of text p) (form_of f)) _ (parts (onward (mode_of mode)) d) x.ready.tree x.ready.rest
        (sym (at_inner text at (mode_of mode) d (param_of text p) (form_of f) (mode_of n) next s.0 s.1.onward) ∙ x.ready.is)

    pub inner_place : Behind text at next
    inner_place = (shown text at d _ x.shows c).1

    pub inner_places : Name text p.from p.to
    inner_places = (shown text at d _ x.shows c).2

    pub inner_depth : 0 < d
    inner_depth = (shown text at d _ x.shows c).3

    pub inner_name : IsNamed (param_of text p)
    inner_name = is_named_lem (param_of text p) (subst SafeParts inner_parts.whole
        (safe_done (parts_safe (mode_of mode) d (drop at text) (all_drop not_zero at text x.ready.clean)) x.ready.is).clean).0

    pub inner_ready : Ready text next n (d - 1) 0 size
    inner_ready =
        let s = shown text at d _ x.shows c in
        let b = x.ready.area in
        let l = x.ready.few in
        let t = s.3 in
        let o = s.4 in
        record {
          start = s.1.within;
          opens = omega arith;
          few = omega arith;
          area = omega arith;
          clean = x.ready.clean;
          tree = inner_parts.inside;
          rest = inner_parts.mid;
          is = inner_parts.first;
        }

    pub item_inner : (area vars : Text) (g : Expanded)
        → Says lent.room text next units
        (λ q. placed units (parameter lent (λ k u. expand lent q k 0 u) (param_of text p) (form_of f) m u))
        (parts (mode_of n) (d - 1) (drop next text)) area vars g
        → Said area vars g
    item_inner area vars g s =
        let t = inner_parts in
        known m x.ready x.lends c area vars g
        (own_text m x.ready x.lends t.next
        (placed units (parameter lent (λ k u. expand lent t.inside k 0 u) (param_of text p) (form_of f) m u))
        (ap (λ (x : Parts). expand lent x m units u) t.whole
        ∙ expand_par lent t.next m units (param_of text p) (form_of f) t.inside u)
        next t.mid t.read (shown text at d _ x.shows c).1.onward area vars g
        (says_known lent.room text next units
        (λ q. placed units (parameter lent (λ k u. expand lent q k 0 u) (param_of text p) (form_of f) m u)) area vars g s t.first))

  module _ {next : ℕ} (c : r ≡ Sum next) where
    sum_parts : Within ari (parts (sums 0) (d - 1) (drop next text)) (parts (onward (mode_of mode)) d) x.ready.tree x.ready.rest
    sum_parts =
        let s = shown text at d _ x.shows c in
        within ari _ (parts (onward (mode_of mode)) d) x.ready.tree x.ready.rest
        (sym (at_sum text at (mode_of mode) d s.0 ∙ ap (λ (k : ℕ). nest ari (parts (sums 0) (d - 1) (drop k text)) (parts (onward (mode_of mode)) d))
        (sym s.1)) ∙ x.ready.is)

    pub sum_place : next ≡ at + 3
    sum_place = (shown text at d _ x.shows c).1

    pub sum_depth : 0 < d
    sum_depth = (shown text at d _ x.shows c).3

    pub sum_ready : Ready text next (Arith 0) (d - 1) 0 size
    sum_ready =
        let s = shown text at d _ x.shows c in
        let b = x.ready.area in
        let l = x.ready.few in
        let t = s.3 in
        record {
          start = s.2;
          opens = omega arith;
          few = omega arith;
          area = omega arith;
          clean = x.ready.clean;
          tree = sum_parts.inside;
          rest = sum_parts.mid;
          is = sum_parts.first;
        }

    pub item_sum : (area vars : Text) (g : Expanded)
        → Says lent.room text next units (λ q. placed units (summing lent q m u)) (parts (sums 0) (d - 1) (drop next text)) area vars g
        → Said area vars g
    unfolding summing
    item_sum area vars g s =
        let t = sum_parts in
        let e = (shown text at d _ x.shows c).1 in
        known m x.ready x.lends c area vars g
        (own_text m x.ready x.lends t.next (placed units (summing lent t.inside m u))
        (ap (λ (x : Parts). expand lent x m units u) t.whole ∙ expand_ari lent t.next m units t.inside u)
        next t.mid t.read (omega arith) area vars g
        (says_known lent.room text next units (λ q. placed units (summing lent q m u)) area vars g s t.first))

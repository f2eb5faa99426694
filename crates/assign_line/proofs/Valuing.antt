-- One assignment: its value's row, then its store, or the number that refuses one of them.
use Prim.Native.Nat.{ℕ, ◌+◌}
use native.Mathlib.Omega.{arith}
use mathlib.Core.Path.{◌≡◌, sym, ap, ◌∙◌, subst}
use mathlib.Core.Bool.{Bool, false}
use lib.ListN.{take, drop}
use Rattle.stages.specs.Numbers.{depth_limit}
use Rattle.stages.specs.Bytes.{Text, part}
use Rattle.stages.specs.Outcome.{Outcome, refused, demands, done, ◌>>=◌}
use Rattle.stages.specs.Images.{Pairs, is_name, held}
use Rattle.stages.specs.Syntax.{Assignment, var, fresh, value}
use Rattle.stages.specs.Read.{Taken, parts}
use Rattle.stages.specs.Units.{L, Row, bytes}
use Rattle.stages.specs.Params.{Lent, store}
use Rattle.stages.specs.Expand.{expand}
use Rattle.stages.specs.Assign.{name_at, is_assignment, an_assignment, assignment_of, assign}
use Rattle.stages.proofs.Tables.{fields_of_lem}
use Rattle.stages.proofs.Assignments.{not_assignment, assigns_name}
use Rattle.table.specs.Around.{lent_of}
use Rattle.table.proofs.Tables.{homes_table}
use Rattle.std.specs.Prelude.{Result, Ok, Err}
use Rattle.table_store.specs.declared.NoRoom.{NoRoom}
use Rattle.text.specs.declared.refusal.Refusal.TheVariants.{VariableRoom}
use Rattle.read_line.specs.Says.{AssignmentTo}
use Rattle.read_line.proofs.Naming.{named_as, reads_value}
use Rattle.expand_add.specs.Answers.{IsRow, Answers, Says}
use Rattle.expand_add.specs.declared.answers.Stop.{Stop}
use Rattle.expand_add.specs.declared.answers.Stop.TheVariants.{Refused, Demanded}
use Rattle.expand_add.specs.declared.answers.Row as code
use Rattle.expand_add.specs.Expanded.{Expanded}
use Rattle.expand_add.proofs.Holding.{says_known}
use Rattle.table_store.specs.Holding.{StoresIn}
use Rattle.expand_operand.specs.Operands.{Storable, row_at}
use Rattle.expand_text.proofs.Inside.{lending, row_at_lem, row_storable}
use Rattle.assign_line.specs.Answers.{Named, AssignmentReady, ValueReady, AssignmentOf, AssignmentSays}
use Rattle.assign_line.specs.declared.Assigned.{Assigned}

-- READ

-- a text whose parts are an assignment's value, under a name
record Valued (o : Taken) (x : Text) (p : Named) : Type 0 where
  is : o ≡ done (p.0.1, p.1)
  named : x ≡ p.0.0

valued : (o : Taken) (x : Text) (p : Named) → (o >>= λ q. done ((x, q.0), q.1)) ≡ done p → Valued o x p
valued (refused n) x p e = absurd (let z : ◌≡◌ {A = ℕ} 0 1 = cc in omega arith)
valued (demands t) x p e = absurd (let z : ◌≡◌ {A = ℕ} 0 1 = cc in omega arith)
valued (done q) x p e =
    let k : ◌≡◌ {A = Named} ((x, q.0), q.1) p = cc in
    record { is = ap (λ (r : Named). done (r.0.1, r.1)) k; named = ap (λ (r : Named). r.0.0) k }

module _ {line : Text} {place : ℕ} {vars : Text} {vars_used room : ℕ} {houses params work : Text}
    (w : AssignmentReady line place vars vars_used room houses params work) where
  -- a word that is read as an assignment is one
  pub not_bad : is_assignment (drop place line) ≡ false → ⊥
  not_bad e =
      let k = not_assignment (drop place line) e in
      let h = w.is in
      let z : ◌≡◌ {A = ℕ} 0 1 = cc in
      omega arith

  pub value_ready : {equals : ℕ} → AssignmentTo line place equals → ValueReady line place equals vars vars_used room houses params work
  value_ready {equals} n =
      let o = valued (parts (value fresh) depth_limit (drop (equals + 1) line)) (name_at (drop place line)) (w.tree, w.rest)
      (sym (reads_value line place equals n) ∙ w.is) in
      record {
        named = n;
        ready = record {
          start = omega (arith, n.within);
          opens = omega arith;
          few = omega arith;
          area = omega (arith, w.area);
          clean = w.clean;
          tree = w.tree.1;
          rest = w.rest;
          is = o.is;
        };
        holds = w.holds;
        housed = w.housed;
        handed = w.handed;
      }

-- MADE: an assignment's outcome by its value's row and its store

module _ (a : Lent) (w : Assignment) (v : Pairs) where
  outcome_refused : {e : ℕ} → expand a w.parts L 0 v ≡ refused e → assign a w v ≡ refused e
  unfolding assign
  outcome_refused h = rw h

  outcome_demands : {t : Text} → expand a w.parts L 0 v ≡ demands t → assign a w v ≡ demands t
  unfolding assign
  outcome_demands h = rw h

  outcome_stored : {row : Row} {u : Pairs} {came : Bool} {o : Outcome Pairs} → expand a w.parts L 0 v ≡ done (row, u, came)
      → store a.room w.name (bytes row) u ≡ o → assign a w v ≡ o
  unfolding assign
  outcome_stored h k = rw h k

-- SAID: by the answers of the two that were called

module _ {line : Text} {place equals : ℕ} {vars : Text} {vars_used room : ℕ} {houses params work : Text} (shouts : Bool)
    (w : ValueReady line place equals vars vars_used room houses params work) where
  abbrev a : Lent
  a = lent_of room shouts houses params

  abbrev v : Pairs
  v = held (take vars_used vars)

  abbrev name : Text
  name = name_at (drop place line)

  abbrev own : Assignment
  own = assignment_of place (name, w.ready.tree)

  taken : an_assignment (drop place line) ≡ done ((name, w.ready.tree), w.ready.rest)
  taken = reads_value line place equals w.named ∙ ap (named_as line place equals w.named) w.ready.is

  abbrev Says-of : Text → Text → Result Assigned Stop → Type 0
  Says-of vars' work' r = AssignmentSays a (an_assignment (drop place line)) line place v vars' work' r

  said : (vars' work' : Text) (r : Result Assigned Stop) → AssignmentOf room (assign a own v) w.ready.rest line place vars' work' r → Says-of vars' work' r
  said vars' work' r h =
      record {
        says = λ p e.
            let d = taken in
            let k : ◌≡◌ {A = Named} ((name, w.ready.tree), w.ready.rest) p = cc in
            subst (λ (x : Named). AssignmentOf room (assign a (assignment_of place x.0) v) x.1 line place vars' work' r) k h;
      }

  module _ (area vars' : Text) where
    abbrev Gives : Expanded → Type 0
    Gives got =
        Says room line (equals + 1) 0 (λ t. expand a t L 0 v) (parts (value fresh) depth_limit (drop (equals + 1) line)) area vars' got

    row_of_lem : (got : Expanded) → Gives got → Answers room line (equals + 1) 0 (expand a w.ready.tree L 0 v) w.ready.rest area vars' got
    row_of_lem got h = says_known room line (equals + 1) 0 (λ t. expand a t L 0 v) area vars' got h w.ready.is

    stopped : (stop : Stop) → Answers room line (equals + 1) 0 (expand a w.ready.tree L 0 v) w.ready.rest area vars' (Err stop)
        → AssignmentOf room (assign a own v) w.ready.rest line place vars' area (Err stop)
    stopped (Refused e) h = outcome_refused a own v h
    stopped (Demanded from len) d = record { message = d.message; is = outcome_demands a own v d.is; waits = d.waits }

    pub value_stopped : (stop : Stop) → Gives (Err stop) → Says-of vars' area (Err stop)
    value_stopped stop h = said vars' area (Err stop) (stopped stop (row_of_lem (Err stop) h))

    module _ (r : code.Row) (h : Gives (Ok r)) where
      pub there : IsRow room 0 (expand a w.ready.tree L 0 v) area vars' r.units r.vars_used r.of_none
      there = (row_of_lem (Ok r) h).0

      pub value_storable : Storable (var (part line place equals)) area r.units
      value_storable =
          row_storable w.ready (lending params w.holds (homes_table houses w.housed) (fields_of_lem params w.handed).table) L there
          (var (part line place equals)) (ap is_name (sym w.named.name) ∙ assigns_name (drop place line) w.named.is)

      module _ (vars₂ : Text) where
        abbrev Stores : Result ℕ NoRoom → Type 0
        Stores s = StoresIn room (part line place equals) (bytes (row_at area r.units)) (held (take r.vars_used vars')) vars₂ s

        -- the store with the name and the row as the stage has them
        stored_as : (s : Result ℕ NoRoom) → Stores s → StoresIn room name (bytes there.row) (held (take r.vars_used vars')) vars₂ s
        stored_as s p =
            subst (λ (x : Text). StoresIn room x (bytes there.row) (held (take r.vars_used vars')) vars₂ s) (sym w.named.name)
            (subst (λ (x : Row). StoresIn room (part line place equals) (bytes x) (held (take r.vars_used vars')) vars₂ s)
            (row_at_lem there.row area r.units there.stands there.counts) p)

        pub value_full : (e : NoRoom) {work' : Text} → Stores (Err e) → Says-of vars₂ work' (Err (Refused VariableRoom))
        value_full e {work'} p = said vars₂ work' (Err (Refused VariableRoom)) (outcome_stored a own v there.is (stored_as (Err e) p))

        pub value_stored : (n : ℕ) {work' : Text} → Stores (Ok n) → Says-of vars₂ work' (Ok (record { next = r.next; vars_used = n }))
        value_stored n {work'} p =
            let s : StoresIn room name (bytes there.row) (held (take r.vars_used vars')) vars₂ (Ok n) = stored_as (Ok n) p in
            let k = (row_of_lem (Ok r) h).1 in
            said vars₂ work' (Ok (record { next = r.next; vars_used = n }))
            (record {
              is = outcome_stored a own v there.is s.0;
              holds = s.1;
              ends = k.ends;
              onward = omega (arith, w.named.onward, k.onward);
              within = k.within;
            })

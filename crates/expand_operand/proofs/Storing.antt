-- A store: the operand's bytes go into the image as the stage stores them, and the value is given.
use Prim.Native.Nat.{ℕ}
use mathlib.Core.Path.{◌≡◌, refl, sym, ap, ◌∙◌, subst}
use mathlib.Core.Bool.{Bool, true, false}
use lib.ListN.{take}
use Rattle.stages.specs.Numbers.{variable_room, unserved}
use Rattle.stages.specs.Bytes.{Text, all, not_zero}
use Rattle.stages.specs.Outcome.{refused, done}
use Rattle.stages.specs.Images.{Pairs, lookup, held, or_empty}
use Rattle.stages.specs.Syntax.{Param, var, nth}
use Rattle.stages.specs.Units.{Mark, Row, marked, bytes, expanded_mark}
use Rattle.stages.specs.Params.{Lent, value, holding, store, store_in}
use Rattle.stages.specs.Expand.{assigned}
use Rattle.stages.proofs.Items.{IsParam}
use Rattle.read_brace.specs.Shows.{called}
use Rattle.table_store.specs.Holding.{Settable, StoresIn}
use Rattle.std.specs.Prelude.{Result, Ok, Err}
use Rattle.text.specs.declared.refusal.Refusal.TheVariants.{VariableRoom}
use Rattle.table_store.specs.declared.NoRoom.{NoRoom}
use Rattle.expand_add.specs.Added.{Adds}
use Rattle.expand_add.specs.Steps.{placed}
use Rattle.expand_add.specs.Answers.{Finishes}
use Rattle.expand_add.specs.declared.answers.Onward.{Onward}
use Rattle.expand_add.specs.Expanded.{Expanded}
use Rattle.expand_add.specs.declared.answers.Stop.TheVariants as stop
use Rattle.expand_add.proofs.Steps.{placed_refused}
use Rattle.expand_add.proofs.Holding.{adds_finishes, finishes_same}
use Rattle.expand_form.specs.Plans.{finished}
use Rattle.expand_form.specs.declared.Used.TheVariants as used
use Rattle.expand_operand.specs.Operands.{IsNamed, Storable, row_at, storing}

-- the operand's bytes as the code has them
module _ (varsRoom : ℕ) (x area : Text) (units : ℕ) (p : Storable (var x) area units) {t : Text} (e : t ≡ bytes (row_at area units)) where
  pub operand_settable : Settable x t
  operand_settable = record { named = p.named; clean = ap (all not_zero) e ∙ p.clean }

  pub operand_stored : (v : Pairs) (left : Text) (r : Result ℕ NoRoom) → StoresIn varsRoom x t v left r → StoresIn varsRoom x (bytes (row_at area units)) v
      left r
  operand_stored v left r s = subst (λ (u : Text). StoresIn varsRoom x u v left r) e s

-- the value after the store
module _ (varsRoom units : ℕ) (x : Text) (m : Mark) (row : Row) (v : Pairs) where
  pub assign_full : (next : ℕ) (area vars : Text) → store varsRoom x (bytes row) v ≡ refused variable_room
      → Finishes varsRoom units (placed units (storing varsRoom x m row v)) next area vars (Err (stop.Refused VariableRoom))
  unfolding storing
  assign_full next area vars h = placed_refused units _ variable_room (rw h)

  pub assign_given : (on : Onward) → on.of_none ≡ false → (area vars : Text) (r : Expanded)
      → StoresIn varsRoom x (bytes row) v vars (Ok on.vars_used)
      → {t : Text} → t ≡ or_empty (lookup x (held (take on.vars_used vars))) → Adds units on (done (marked (expanded_mark m) t)) area r
      → Finishes varsRoom units (placed units (storing varsRoom x m row v)) on.next area vars r
  unfolding storing
  assign_given on f area vars r h {t} e g =
      finishes_same varsRoom units on.next area vars r (ap (placed units) (sym made)) (adds_finishes varsRoom units on _ area vars r g h.1)
    where
      made : storing varsRoom x m row v ≡ done (marked (expanded_mark m) t, held (take on.vars_used vars), on.of_none)
      made = rw (h.0, e, f)

-- a parameter that is read has a name that is one
pub param_named : (x : Param) → IsParam x → IsNamed x
param_named (var x) h = h
param_named (nth k) h = tt

pub storable_name : {numbered : Bool} {x area : Text} {units : ℕ} → numbered ≡ false → Storable (called numbered x) area units
    → Storable (var x) area units
storable_name {numbered} {x} {area} {units} e h = subst (λ (b : Bool). Storable (called b x) area units) e h

-- a name is stored as its form asks, whatever came in the operand; a number is not
module _ (a : Lent) (units : ℕ) (x : Text) (m : Mark) (row : Row) (v : Pairs) (g : Bool) {numbered : Bool} where
  pub finish_stored : numbered ≡ false → (next : ℕ) (area vars : Text) (r : Expanded)
      → Finishes a.room units (placed units (storing a.room x m row v)) next area vars r
      → Finishes a.room units (placed units (finished used.Stored a (called numbered x) m (row, v, g))) next area vars r
  unfolding storing finished assigned store_in value holding
  finish_stored e next area vars r h = rw e h

  pub finish_number : numbered ≡ true → placed units (finished used.Stored a (called numbered x) m (row, v, g)) ≡ refused unserved
  unfolding finished assigned store_in
  finish_number e = rw e (placed_refused units _ unserved refl)

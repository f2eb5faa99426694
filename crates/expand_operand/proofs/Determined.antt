-- The contracts determine every answer, with the row in the area and the image of variables, or with the message: two outcomes that a contract allows for
-- one input are equal. Open is what crates/expand_add/proofs/Determined.antt names.
use Prim.Native.Nat.{ℕ}
use mathlib.Core.Path.{◌≡◌}
use mathlib.Core.Bool.{Bool, false}
use mathlib.Core.List.{[]}
use Rattle.stages.specs.Bytes.{Text}
use Rattle.stages.specs.Images.{Pairs}
use Rattle.stages.specs.Syntax.{Param}
use Rattle.stages.specs.Units.{Mark, Row}
use Rattle.table.specs.Around.{lent_of}
use Rattle.table_store.specs.Holding.{StoresIn}
use Rattle.std.specs.Prelude.{Result}
use Rattle.table_store.specs.declared.NoRoom.{NoRoom}
use Rattle.table_store.proofs.Determined.{store_within_determined}
use Rattle.expand_add.specs.Added.{Adds}
use Rattle.expand_add.specs.Steps.{placed, summed}
use Rattle.expand_add.specs.Answers.{Finishes}
use Rattle.expand_add.specs.declared.answers.Onward.{Onward}
use Rattle.expand_add.specs.Expanded.{Expanded}
use Rattle.expand_add.proofs.Determined.{OneAnswer, adds_determined, finishes_determined}
use Rattle.expand_form.specs.Plans.{settled, finished}
use Rattle.expand_form.specs.declared.Unused.{Unused}
use Rattle.expand_form.specs.declared.Used.{Used}

module _ (units : ℕ) (on : Onward) (area area' : Text) (r s : Expanded) where
  -- what is promised for every room and all homes is promised for none
  pub settle_determined : (u : Unused) (params : Text) (x : Param) (m : Mark) (v : Pairs)
      → ((room : ℕ) (shouts : Bool) (homes : Text) → Adds units on (settled u (lent_of room shouts homes params) x m v) area r)
      → ((room : ℕ) (shouts : Bool) (homes : Text) → Adds units on (settled u (lent_of room shouts homes params) x m v) area' s) → r ≡ s
  settle_determined u params x m v h k = adds_determined units on (settled u (lent_of 0 false [] params) x m v) area area' r s (h 0 false []) (k 0 false [])

pub sum_up_determined : (varsRoom units : ℕ) (shouts : Bool) (m : Mark) (given : Row × Pairs × Bool) (next : ℕ) (area vars area' vars' : Text) (r s : Expanded)
    → ((homes params : Text) → Finishes varsRoom units (placed units (summed (lent_of varsRoom shouts homes params) m given)) next area vars r)
    → ((homes params : Text) → Finishes varsRoom units (placed units (summed (lent_of varsRoom shouts homes params) m given)) next area' vars' s)
    → OneAnswer area r area' s
sum_up_determined varsRoom units shouts m given next area vars area' vars' r s h k =
    finishes_determined varsRoom units (placed units (summed (lent_of varsRoom shouts [] []) m given)) area vars area' vars' next r s (h [] []) (k [] [])

pub finish_determined : (u : Used) (varsRoom units : ℕ) (shouts : Bool) (params : Text) (x : Param) (m : Mark) (given : Row × Pairs × Bool) (next : ℕ)
    (area vars area' vars' : Text) (r s : Expanded)
    → ((homes : Text) → Finishes varsRoom units (placed units (finished u (lent_of varsRoom shouts homes params) x m given)) next area vars r)
    → ((homes : Text) → Finishes varsRoom units (placed units (finished u (lent_of varsRoom shouts homes params) x m given)) next area' vars' s)
    → OneAnswer area r area' s
finish_determined u varsRoom units shouts params x m given next area vars area' vars' r s h k =
    finishes_determined varsRoom units (placed units (finished u (lent_of varsRoom shouts [] params) x m given)) area vars area' vars' next r s (h []) (k [])

pub store_operand_determined : (varsRoom : ℕ) (x t : Text) (v : Pairs) (vars vars' : Text) (r s : Result ℕ NoRoom) → StoresIn varsRoom x t v vars r
    → StoresIn varsRoom x t v vars' s → r ≡ s
store_operand_determined varsRoom x t v vars vars' = store_within_determined varsRoom x t v vars vars'

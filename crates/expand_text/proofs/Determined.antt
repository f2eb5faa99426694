-- The contract determines the answer, but for where in the work area a demanded message waits, and that message; where there is a row also the row's bytes
-- and the variables' image. Open is what crates/expand_add/proofs/Determined.antt names.
use Prim.Native.Nat.{ℕ, ◌*◌}
use mathlib.Core.Path.{◌≡◌}
use lib.ListN.{take, drop}
use Rattle.stages.specs.Bytes.{Text}
use Rattle.stages.specs.Outcome.{done}
use Rattle.stages.specs.Images.{Pairs}
use Rattle.stages.specs.Params.{Lent}
use Rattle.stages.specs.Syntax.{Mode, Parts}
use Rattle.stages.specs.Read.{parts}
use Rattle.stages.specs.Units.{Mark}
use Rattle.stages.specs.Expand.{expand}
use Rattle.stages.proofs.Images.{Bytes}
use Rattle.expand_add.specs.Answers.{Says}
use Rattle.std.specs.Prelude.{Ok}
use Rattle.expand_add.specs.declared.answers.Row.{Row}
use Rattle.expand_add.specs.Expanded.{Expanded}
use Rattle.expand_add.proofs.Determined.{OneAnswer, determined, determined_row, determined_image}

module _ (a : Lent) (text : Text) (at : ℕ) (mode : Mode) (depth units : ℕ) (m : Mark) (v : Pairs) {p : Parts × Text}
    (e : parts mode depth (drop at text) ≡ done p) (area vars area' vars' : Text) (r r' : Expanded)
    (s : Says a.room text at units (λ t. expand a t m units v) (parts mode depth (drop at text)) area vars r)
    (s' : Says a.room text at units (λ t. expand a t m units v) (parts mode depth (drop at text)) area' vars' r') where
  pub expand_text_determined : OneAnswer area r area' r'
  expand_text_determined = determined a.room text at units (λ t. expand a t m units v) e area vars area' vars' r r' s s'

  pub expand_text_determined_row : {g g' : Row} → r ≡ Ok g → r' ≡ Ok g' → take (2 * g.units) area ≡ take (2 * g'.units) area'
  expand_text_determined_row = determined_row a.room text at units (λ t. expand a t m units v) e area vars area' vars' r r' s s'

  pub expand_text_determined_image : {g g' : Row} → r ≡ Ok g → r' ≡ Ok g' → Bytes (take g.vars_used vars) → Bytes (take g'.vars_used vars')
      → take g.vars_used vars ≡ take g'.vars_used vars'
  expand_text_determined_image = determined_image a.room text at units (λ t. expand a t m units v) e area vars area' vars' r r' s s'

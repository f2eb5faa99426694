-- E14: what is looked up is refused, or given.
use Prim.Native.Nat.{ℕ}
use mathlib.Core.Path.{◌≡◌, ap}
use mathlib.Core.Bool.{Bool, true, false}
use mathlib.Core.List.{List}
use Rattle.stages.specs.Numbers.{unset_name}
use Rattle.stages.specs.Bytes.{Text}
use Rattle.stages.specs.Outcome.{Outcome, refused, done, ◌>>=◌}
use Rattle.stages.specs.Images.{Pairs, or_empty}
use Rattle.stages.specs.Syntax.{Param}
use Rattle.stages.specs.Units.{Row}
use Rattle.expand_param.specs.Holding.{holding_in, sought_in, is_shout}
use Rattle.expand_param.proofs.Holding.{shout_refused, shout_given}
use Rattle.expand_add.specs.Added.{measured}

module _ (shouts : Bool) (l : List Text) (v : Pairs) (x : Param) where
  pub sought_refuses : is_shout shouts (holding_in l v x) ≡ true → sought_in shouts l v x ≡ refused unset_name
  unfolding sought_in
  sought_refuses = shout_refused shouts (holding_in l v x)

  pub sought_gives : is_shout shouts (holding_in l v x) ≡ false → sought_in shouts l v x ≡ done (or_empty (holding_in l v x))
  unfolding sought_in
  sought_gives = shout_given shouts (holding_in l v x)

-- what is refused is not measured
pub refused_measured : (units : ℕ) (f : Text → Outcome Row) {o : Outcome Text} {e : ℕ} → o ≡ refused e → measured units (o >>= f) ≡ refused e
unfolding measured
refused_measured units f q = ap (λ (o : Outcome Text). measured units (o >>= f)) q

-- What a parameter holds is told by the positional parameters alone of what is lent; whether it is missing, by where its value was found.
use Prim.Native.Nat.{ℕ, ◌-◌, ◌≤◌}
use native.Mathlib.Omega.{arith}
use mathlib.Core.Path.{◌≡◌, refl, sym, ap, ◌∙◌}
use mathlib.Core.Bool.{Bool, true, false}
use mathlib.Core.List.{List, [], ◌∷◌}
use mathlib.Core.Option.{Option, none, some}
use borrow.Author.Tests.{eq-eqb, ne_eqb}
use lib.ListN.{length}
use Rattle.stages.specs.Numbers.{unset_name}
use Rattle.stages.specs.Bytes.{Text, part}
use Rattle.stages.specs.Outcome.{Outcome, refused, done, ◌>>=◌}
use Rattle.stages.specs.Images.{Pairs, held, held_texts, or_empty}
use Rattle.stages.specs.Syntax.{Colon, with_colon, no_colon, Param, var, nth, bytes_of, parameters}
use Rattle.stages.specs.Params.{Lent, holding, value, or_shout, sought, missing, numbered}
use Rattle.stages.specs.Params as stage
use Rattle.stages.specs.Expand.{amount}
use Rattle.stages.proofs.Bools.{no}
use Rattle.text.proofs.Parts.{part_length}
use Rattle.table.specs.declared.Part.{Part}
use Rattle.std.specs.Prelude.{Option as Perhaps, Some}
use Rattle.expand_param.specs.Holding.{holding_in, sought_in, is_shout, image_of, Shown, shown, absent, missing_in}

-- the stage's words, by the positional parameters that are lent

module _ (a : Lent) (l : List Text) (e : a.params ≡ l) (v : Pairs) where
  pub holding_held : (x : Param) → holding a v x ≡ holding_in l v x
  unfolding holding holding_in
  holding_held (var x) = refl
  holding_held (nth k) = ap (numbered k) e

  pub value_held : (x : Param) → value a v x ≡ or_empty (holding_in l v x)
  unfolding value
  value_held x = ap or_empty (holding_held x)

  pub sought_held : (x : Param) → sought a v x ≡ sought_in a.shouts l v x
  unfolding sought sought_in
  sought_held x = ap (or_shout a.shouts) (holding_held x)

  pub amount_held : (x : Param) → amount a (bytes_of x) v ≡ (sought_in a.shouts l v x >>= λ t. done (length t))
  unfolding amount
  amount_held x = ap (λ (o : Outcome Text). o >>= λ t. done (length t)) (sought_held x)

  pub amount_parameters : amount a parameters v ≡ done (length l)
  unfolding amount
  amount_parameters = ap (λ (k : List Text). done (length k)) e

-- E14: what is unset is 25 with the switch on, and nothing with it off

pub shout_refused : (s : Bool) (o : Option Text) → is_shout s o ≡ true → or_shout s o ≡ refused unset_name
unfolding or_shout
shout_refused false o e = absurd (no e)
shout_refused true none e = refl
shout_refused true (some t) e = absurd (no e)

pub shout_given : (s : Bool) (o : Option Text) → is_shout s o ≡ false → or_shout s o ≡ done (or_empty o)
unfolding or_shout
shout_given false o e = refl
shout_given true none e = absurd (no (sym e))
shout_given true (some t) e = refl

-- "missing", by where the value was found

missing_part : (u : Text) (c : Colon) (from to : ℕ) → length u ≡ to - from → from ≤ to → missing_in (Some (record { from = from; to = to })) c ≡ stage.absent
    c (some u)
unfolding stage.absent
missing_part [] with_colon from to e l = eq-eqb from to (omega arith)
missing_part [] no_colon from to e l = refl
missing_part (b ∷ u) with_colon from to e l = ne_eqb from to (λ h. absurd (omega arith))
missing_part (b ∷ u) no_colon from to e l = refl

module _ {vars params : Text} {x : Param} (a : Lent) (e : a.params ≡ held_texts params) where
  pub missing_found : {found : Perhaps Part} → Shown vars params x found → (c : Colon) → missing_in found c ≡ missing a c x (held vars)
  unfolding missing stage.absent
  missing_found (absent h) c = ap (stage.absent c) (sym (holding_held a (held_texts params) e (held vars) x ∙ h))
  missing_found (shown {p = p} h) c =
      missing_part (part (image_of vars params x) p.from p.to) c p.from p.to (part_length (image_of vars params x) p.from p.to h.low h.high) h.low
      ∙ ap (stage.absent c) (sym (holding_held a (held_texts params) e (held vars) x ∙ h.gets))

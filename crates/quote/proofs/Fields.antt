-- How a field stands in a line by the code's tests, and what is written in each case. The byte 36 is a `$`.
use Prim.Native.Nat.{ℕ}
use native.Mathlib.Omega.{arith}
use mathlib.Core.Path.{◌≡◌, refl, sym, ap, ◌∙◌}
use mathlib.Core.Bool.{true, false}
use mathlib.Core.List.{[], ◌∷◌}
use lib.Dec.{eqb}
use lib.ListN.{length}
use Rattle.stages.specs.Bytes.{Text, all, is_bare_byte, not_control}
use Rattle.stages.specs.Quote.{Way, bare, singled, dollared, is_bare, has_control, way_of, quoted_bytes, enclosed, written, quoted_field}
use Rattle.stages.proofs.Texts.{all_weaker}
use Rattle.text.specs.Classes.{in_class, Runs}
use Rattle.text.specs.Putting.{Puts}
use Rattle.text.specs.declared.Class.TheVariants.{BareByte, NotControl, SameByte}
use Rattle.text.proofs.Runs.{run_skipped, run_passes, run_fails}
use Rattle.quote.specs.Ways.{way_is, Looks}
use Rattle.quote.specs.declared.ways.Way as code
use Rattle.quote.specs.declared.ways.Way.TheVariants.{Singled, Dollared}
use Rattle.quote.specs.declared.ways.Look.TheVariants.{Bare, Plain, Changed}
use Rattle.quote.proofs.Same.{same_shown, bare_same, same_all}

-- `look_at`

-- a field as its way says
field_way : (t : Text) (way : Way) → way_of t ≡ way → quoted_field t ≡ written way t
unfolding quoted_field
field_way t way e = ap (λ w. written w t) e

pub look_empty : (t : Text) → length t ≡ 0 → Looks t Plain
unfolding quoted_field way_of is_bare written quoted_bytes
look_empty [] e = record { leaves = λ h. cc; encloses = λ h. refl; keeps = λ h. refl; changes = λ h. cc }
look_empty (b ∷ t) e = absurd (omega arith)

pub look_bare : (t : Text) (r : ℕ) → eqb (length t) 0 ≡ false → Runs t 0 BareByte r → r ≡ length t → Looks t Bare
unfolding way_of is_bare written
look_bare [] r n p e = cc
look_bare (b ∷ t) r n p e = record {
  leaves = λ h. field_way (b ∷ t) bare (rw (run_passes (b ∷ t) 0 BareByte r p e));
  encloses = λ h. cc;
  keeps = λ h. cc;
  changes = λ h. cc;
}

module _ (t : Text) (bare same : ℕ) (p : Runs t 0 BareByte bare) (n : bare ≡ length t → ⊥) (q : Runs t bare SameByte same) where
  not_bare_lem : is_bare t ≡ false
  unfolding is_bare
  not_bare_lem = go t (run_fails t 0 BareByte bare p n)
    where
      go : (t : Text) → all is_bare_byte t ≡ false → is_bare t ≡ false
      go [] e = unfold is_bare in refl
      go (b ∷ t) e = unfold is_bare in rw e

  pub look_plain : same ≡ length t → Looks t Plain
  unfolding way_of has_control written
  look_plain e =
      let k : all (in_class SameByte) t ≡ true = run_skipped t 0 BareByte bare p (in_class SameByte) bare_same ∙ run_passes t bare SameByte same q e in
      record {
        leaves = λ h. cc;
        encloses = λ h. field_way t singled (rw (not_bare_lem, all_weaker (in_class SameByte) not_control same_shown t k));
        keeps = λ h. same_all singled t k;
        changes = λ h. cc;
      }

  pub look_changed : Looks t Changed
  look_changed = record { leaves = λ h. cc; encloses = λ h. cc; keeps = λ h. cc; changes = λ h. not_bare_lem }

-- `way_of`

module _ (t : Text) (n : is_bare t ≡ false) (s : ℕ) (u : Runs t 0 NotControl s) where
  pub way_singled : s ≡ length t → way_is Singled ≡ way_of t
  unfolding way_of has_control
  way_singled e = rw (n, run_passes t 0 NotControl s u e)

  pub way_dollared : (s ≡ length t → ⊥) → way_is Dollared ≡ way_of t
  unfolding way_of has_control
  way_dollared e = rw (n, run_fails t 0 NotControl s u e)

pub ruleset looks = (look_empty, look_bare, look_plain, look_changed)

pub ruleset ways_of = (way_singled, way_dollared)

-- a field in its quotes

module _ (t : Text) {r : code.Way} (w : way_is r ≡ way_of t) where
  pub field_singled : r ≡ Singled → quoted_field t ≡ enclosed (way_is r) t
  unfolding written
  field_singled e = field_way t singled (sym w ∙ ap way_is e) ∙ ap (λ way. enclosed (way_is way) t) (sym e)

  pub field_dollared : r ≡ Dollared → quoted_field t ≡ 36 ∷ enclosed (way_is r) t
  unfolding written
  field_dollared e = field_way t dollared (sym w ∙ ap way_is e) ∙ ap (λ way. 36 ∷ enclosed (way_is way) t) (sym e)

-- `put_field`

pub same_put : (t u old left : Text) (n : ℕ) → t ≡ u → Puts u old left n → Puts t old left n
same_put t u old left n e p = rw e p

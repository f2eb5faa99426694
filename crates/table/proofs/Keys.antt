-- Names, logins and the order of keys, as the code tests them.
use Prim.Native.Nat.{ℕ}
use native.Mathlib.Omega.{arith}
use mathlib.Core.Path.{◌≡◌, refl}
use mathlib.Core.Bool.{true, false}
use mathlib.Core.List.{[], ◌∷◌}
use lib.Dec.{eqb}
use lib.ListN.{length, get_or}
use Rattle.stages.specs.Bytes.{Text, is_name_start}
use Rattle.stages.specs.Images.{is_name, is_login}
use Rattle.text.specs.Classes.{Runs}
use Rattle.text.specs.declared.Class.TheVariants.{NameByte, LoginByte}
use Rattle.text.proofs.Runs.{run_all}

pub no_name : (s : Text) → length s ≡ 0 → false ≡ is_name s
unfolding is_name
no_name [] e = refl
no_name (a ∷ s) e = absurd (omega arith)

pub bad_start : (s : Text) → is_name_start (get_or s 0 0) ≡ false → false ≡ is_name s
unfolding is_name
bad_start [] e = refl
bad_start (a ∷ s) e = rw e

pub name_is : (s : Text) (r : ℕ) → (length s ≡ 0 → ⊥) → is_name_start (get_or s 0 0) ≡ true → Runs s 1 NameByte r → eqb r (length s) ≡ is_name s
unfolding is_name
name_is [] r h e p = absurd (h refl)
name_is (a ∷ s) r h e p = rw e (run_all (a ∷ s) 1 NameByte r p)

pub no_login : (s : Text) → length s ≡ 0 → false ≡ is_login s
unfolding is_login
no_login [] e = refl
no_login (a ∷ s) e = absurd (omega arith)

pub login_is : (s : Text) (r : ℕ) → (length s ≡ 0 → ⊥) → Runs s 0 LoginByte r → eqb r (length s) ≡ is_login s
unfolding is_login
login_is [] r h p = absurd (h refl)
login_is (a ∷ s) r h p = run_all (a ∷ s) 0 LoginByte r p

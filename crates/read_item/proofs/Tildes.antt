-- Behind a tilde: the longest run of login bytes is the login, if it ends there.
use Prim.Native.Nat.{ℕ, ◌+◌, ◌-◌, ◌≤◌, ◌<◌}
use native.Mathlib.Omega.{arith}
use mathlib.Core.Path.{◌≡◌, refl, sym, ap, ◌∙◌}
use mathlib.Core.Bool.{Bool, true, false}
use mathlib.Core.List.{[], ◌∷◌}
use lib.ListN.{length, drop, get_or, drop_of_length-le}
use lib.Seq.{drop-cons}
use Rattle.stages.specs.Bytes.{Text, part}
use Rattle.stages.specs.Outcome.{pick}
use Rattle.stages.specs.Syntax.{unescaped, Mode}
use Rattle.stages.specs.Items.{byte, home_of, ends_login, behind_tilde}
use Rattle.text.specs.Classes.{Runs}
use Rattle.text.specs.declared.Class.TheVariants.{LoginByte}
use Rattle.text.proofs.Parts.{part_length}
use Rattle.read_mode.specs.Modes.{mode_of}
use Rattle.read_mode.specs.declared.Cursor.{Cursor}
use Rattle.read_brace.specs.Shows.{Shows}
use Rattle.read_brace.specs.declared.Item as code-item
use Rattle.read_brace.specs.declared.Item.TheVariants.{Byte, Home}
use Rattle.read_brace.proofs.Showing.{shows_byte, shows_home}

-- the item is what a tilde is that begins the text
abbrev pub Looks : Text → Cursor → code-item.Item → Type 0
Looks s from r = Shows s from.at from.depth r (behind_tilde (mode_of from.mode) (get_or s from.at 0) (drop (from.at + 1) s))

-- whether a login ends goes by its next byte alone
pub ends_first : (m : Mode) (b : ℕ) (t : Text) → ends_login m (b ∷ t) ≡ ends_login m (b ∷ [])
unfolding ends_login
ends_first m b t = refl

module _ (s : Text) (from : Cursor) (to : ℕ) (r : Runs s (from.at + 1) LoginByte to) where
  tilde_is : {x : Bool} → ends_login (mode_of from.mode) (drop to s) ≡ x
      → behind_tilde (mode_of from.mode) (get_or s from.at 0) (drop (from.at + 1) s)
      ≡ pick x (home_of (part s (from.at + 1) to) (to - (from.at + 1))) (byte unescaped (get_or s from.at 0) 0)
  unfolding behind_tilde
  tilde_is {x} e =
      ap (λ (p : Text × Text). pick (ends_login (mode_of from.mode) p.1) (home_of p.0 (length p.0)) (byte unescaped (get_or s from.at 0) 0)) r.is
      ∙ ap (λ (y : Bool). pick y (home_of (part s (from.at + 1) to) (length (part s (from.at + 1) to))) (byte unescaped (get_or s from.at 0) 0)) e
      ∙ ap (λ (k : ℕ). pick x (home_of (part s (from.at + 1) to) k) (byte unescaped (get_or s from.at 0) 0))
      (part_length s (from.at + 1) to r.onward r.within)

  home_shown : ends_login (mode_of from.mode) (drop to s) ≡ true → Looks s from (Home to)
  home_shown e =
      shows_home s from.at from.depth to (to - (from.at + 1)) (omega (arith, r.onward)) r.within (tilde_is e)

  pub login_to_end : length s ≤ to → Looks s from (Home to)
  unfolding ends_login
  login_to_end l = home_shown (ap (ends_login (mode_of from.mode)) (drop_of_length-le s l))

  module _ (l : to < length s) {x : Bool} (e : x ≡ ends_login (mode_of from.mode) (get_or s to 0 ∷ [])) where
    next_ends : ends_login (mode_of from.mode) (drop to s) ≡ x
    next_ends = ap (ends_login (mode_of from.mode)) (drop-cons s to 0 l) ∙ ends_first (mode_of from.mode) (get_or s to 0) _ ∙ sym e

    pub login_ends_lem : x ≡ true → Looks s from (Home to)
    login_ends_lem t = home_shown (next_ends ∙ t)

    pub login_breaks : from.at < length s → x ≡ false → Looks s from (Byte false (get_or s from.at 0) (from.at + 1))
    login_breaks w f =
        shows_byte s from.at from.depth (from.at + 1) 0 (omega arith) (omega arith) unescaped (get_or s from.at 0) (tilde_is (next_ends ∙ f))

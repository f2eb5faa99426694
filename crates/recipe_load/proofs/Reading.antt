-- What was fetched lies within the buffer, and settling it leaves the table at the front of zeros.
use Prim.Native.Nat.{ℕ, ◌-◌, ◌≤◌}
use native.Mathlib.Omega.{arith}
use mathlib.Core.Path.{◌≡◌, refl, sym, ap, subst, ◌∙◌}
use mathlib.Core.List.{[], ◌∷◌, ◌++◌}
use mathlib.Core.Option.{Option, none}
use lib.ListN.{length, take, drop, set, replicate, length-replicate}
use lib.Seq.{length-take-le}
use borrow.Rule.Slice.PartMut.{put_mid, mid_of}
use Rattle.std.specs.Prelude.{Result, Ok, Err, Option as Perhaps, Some, None}
use Rattle.stages.specs.Bytes.{Text}
use Rattle.stages.specs.Images.{image, written}
use Rattle.stages.specs.Call.{over}
use Rattle.stages.specs.Program.{table_or}
use Rattle.stages.proofs.Files.{zeros_behind}
use Rattle.text.specs.Putting.{Puts}
use Rattle.text.proofs.Parts.{rest_length, rest_back}
use Rattle.recipe_load.specs.Loads.{Fetched, Fetches, Settles, Stands, Held, Loads}
use Rattle.recipe_load.specs.declared.Unread.{Unread}

-- `put_no_records`: the version byte in front of zeros
no_records : (zeros : Text) → 1 ≤ length zeros → set zeros 0 1 ≡ over (1 ∷ []) zeros
unfolding over
no_records [] h = absurd (omega arith)
no_records (b ∷ t) h = refl

pub no_records_put : (old zeros : Text) → 1 ≤ length old → zeros ≡ replicate (length old) 0
    → Puts (table_or none) (replicate (length old) 0) (set zeros 0 1) 1
unfolding table_or image written
no_records_put old zeros h e = record {
  counts = refl;
  leaves = rw e (no_records (replicate (length old) 0) (omega (arith, length-replicate {A = ℕ} (length old) 0)));
}

-- `clear_behind`: zeros from n on
pub behind_cleared : (old ys : Text) (n : ℕ) → n ≤ length old → ys ≡ replicate (length (mid_of n (length old - n) old)) 0
    → put_mid n (length old - n) old ys ≡ over (take n old) (replicate (length old) 0)
unfolding over
behind_cleared old ys n h e =
    rest_back n old ys
    ∙ ap (λ (x : Text). take n old ++ x)
    (e ∙ ap (λ (m : ℕ). replicate m 0) (rest_length n old) ∙ sym (zeros_behind n (length old) h)
    ∙ ap (λ (m : ℕ). drop m (replicate (length old) 0)) (sym (length-take-le n old h)))

-- `settle`, by what was fetched
pub settled_file : (old left : Text) {f : Fetched} {o : Perhaps ℕ} {n : ℕ} → f ≡ Ok o → o ≡ Some n → Fetches (length old) f
    → left ≡ over (take n old) (replicate (length old) 0) → Settles f old left (Ok n)
unfolding table_or
settled_file old left {f} {o} {n} e d h w =
    let q : f ≡ Ok (Some n) = e ∙ ap Ok d in
    subst (λ (g : Fetched). Settles g old left (Ok n)) (sym q)
    (record { counts = ap Ok (sym (length-take-le n old (subst (Fetches (length old)) q h))); leaves = w })

-- `load`: whatever was fetched, the table of a file or of none stands in the buffer, or it was not read
module _ (room : ℕ) (mid left : Text) (l : length mid ≡ room) where
  stands_loads : {file : Option Text} {r : Result ℕ Unread} → length (table_or file) ≤ room → Stands file (length mid) left r → Loads room left r
  stands_loads {file} h s =
      subst (Loads room left) (sym s.counts) (record {
        file = file;
        counts = refl;
        leaves = s.leaves ∙ ap (λ (n : ℕ). over (table_or file) (replicate n 0)) l;
        within = h;
      })

  pub settles_loads : (f : Fetched) (r : Result ℕ Unread) → 1 ≤ room → Fetches room f → Settles f mid left r → Loads room left r
  unfolding table_or image written
  settles_loads (Ok (Some n)) r o h s = stands_loads (omega (arith, length-take-le n mid (omega arith))) s
  settles_loads (Ok None) r o h s = stands_loads {file = none} o s
  settles_loads (Err e) r o h s = subst (Loads room left) (sym s.0) tt

-- what a caller learns of a table that was loaded
pub loads_held : (room : ℕ) (left : Text) {n : ℕ} {r : Result ℕ Unread} → r ≡ Ok n → Loads room left r → Held room n left
loads_held room left e h = subst (Loads room left) e h

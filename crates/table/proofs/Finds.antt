-- What the place of a key and the finding of it say once their case is known, and how one gives the other.
use Prim.Native.Nat.{ℕ, ◌+◌}
use native.Mathlib.Omega.{arith}
use mathlib.Core.Path.{◌≡◌, refl, sym, ap, ◌∙◌}
use mathlib.Core.Option.{Option, none, some}
use Rattle.std.specs.Prelude.{Option as Perhaps, Some, None, Result, Ok, Err}
use Rattle.std.specs.Result.{result_ok}
use lib.ListN.{length}
use Rattle.stages.specs.Bytes.{Text}
use Rattle.stages.specs.Images.{lookup, held}
use Rattle.table.specs.Places.{place_of, spot_by, spot_in, found_by, found_in, Hole, Holds, Rooms, known, fresh, Placed, Shown, shown, absent, Looked}
use Rattle.table.specs.declared.Record.{Record}
use Rattle.table.specs.declared.Part.{Part}

-- what `ok` tells of a result
pub ok_some : {A B : Type 0} (r : Result A B) (x : A) → result_ok r ≡ Some x → r ≡ Ok x
ok_some (Ok y) x e = ap Ok (cc e)
ok_some (Err b) x e = cc e

pub ok_none : {A B : Type 0} (r : Result A B) → result_ok r ≡ None → (b : B) × (r ≡ Err b)
ok_none (Ok y) e = cc e
ok_none (Err b) e = (b, refl)

known_of : {t key : Text} {p : Record} → Rooms t key (Ok p) → Hole t key p.at p.end × Holds t key (p.mid + 2) p.end
known_of (known h g) = (h, g)

fresh_of : {t key : Text} {at : ℕ} → Rooms t key (Err at) → Hole t key at at × (lookup key (held t) ≡ none)
fresh_of (fresh h g) = (h, g)

shown_of : {t key : Text} {p : Part} → Shown t key (Some p) → Holds t key p.from p.to
shown_of (shown h) = h

absent_of : {t key : Text} → Shown t key None → lookup key (held t) ≡ none
absent_of (absent h) = h

module _ {t key : Text} {r : Result Record ℕ} (s : Placed t key r) where
  pub is_known : (p : Record) → r ≡ Ok p → Hole t key p.at p.end × Holds t key (p.mid + 2) p.end
  is_known p e = known_of (rw e at s.rooms)

  pub is_fresh_lem : (at : ℕ) → r ≡ Err at → Hole t key at at × (lookup key (held t) ≡ none)
  is_fresh_lem at e = fresh_of (rw e at s.rooms)

module _ {t key : Text} {r : Perhaps Part} (s : Looked t key r) where
  pub is_shown : (p : Part) → r ≡ Some p → Holds t key p.from p.to
  is_shown p e = shown_of (rw e at s.shows)

  pub is_absent : r ≡ None → lookup key (held t) ≡ none
  is_absent e = absent_of (rw e at s.shows)

-- the value's part of a record
abbrev pub value_part : Record → Part
value_part p = record { from = p.mid + 2; to = p.end }

spot_found : (key : Text) (at : ℕ) (o : Option Text) (p : Record) → Ok p ≡ spot_by key at o → Some (value_part p) ≡ found_by (at + 4 + length key) o
unfolding spot_by found_by
spot_found key at none p e = cc
spot_found key at (some v) p e =
    let m : p.mid ≡ at + 2 + length key = cc in
    let n : p.end ≡ at + 4 + length key + length v = cc in
    let k : p.mid + 2 ≡ at + 4 + length key = omega arith in
    rw (k, n)

module _ {t key : Text} {r : Result Record ℕ} (s : Placed t key r) where
  pub look_known : (p : Record) → r ≡ Ok p → Looked t key (Some (value_part p))
  unfolding spot_in found_in
  look_known p e = record {
    is = spot_found key (place_of key (held t)) (lookup key (held t)) p (sym e ∙ s.is);
    shows = shown (is_known s p e).1;
  }

  pub look_fresh : (at : ℕ) → r ≡ Err at → Looked t key None
  unfolding found_in found_by
  look_fresh at e = record { is = rw ((is_fresh_lem s at e).1, found_by); shows = absent (is_fresh_lem s at e).1 }

  -- by the record, where there is one
  pub look_some : (p : Record) → result_ok r ≡ Some p → Looked t key (Some (value_part p))
  look_some p e = look_known p (ok_some r p e)

  pub look_none : result_ok r ≡ None → Looked t key None
  look_none e = let k : (at : ℕ) × (r ≡ Err at) = ok_none r e in look_fresh k.0 k.1

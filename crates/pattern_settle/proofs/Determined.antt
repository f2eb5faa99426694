-- Whatever two outcomes the contract of `settle` allows for one input, the answers are equal where the table has room for the sets of any pattern of this
-- length, and the cells of both stand for the same: each that is no set is the same number, and sets hold the same bytes.
use Prim.Native.Nat.{ℕ, ◌*◌, ◌≤◌, ◌<◌}
use mathlib.Core.Path.{◌≡◌, refl, sym, ◌∙◌, ap}
use mathlib.Core.Bool.{Bool}
use mathlib.Core.List.{List}
use native.Mathlib.Omega.{arith}
use lib.ListN.{length, drop}
use lib.Seq.{length-take-le}
use Rattle.stages.specs.Bytes.{Text}
use Rattle.stages.specs.Pattern.{Element, star, one, exactly, set}
use Rattle.stages.proofs.Bools.{apart}
use Rattle.pattern_unit.specs.Widths.{size}
use Rattle.pattern_unit.specs.declared.Width.{Width}
use Rattle.pattern_set.specs.Sets.{has}
use Rattle.pattern_cell.specs.Cells.{words_at, Is}
use Rattle.pattern_cell.proofs.Showing.{shown_length}
use Rattle.pattern_settle.specs.Settled.{Settles, SettleSays}
use Rattle.pattern_settle.specs.declared.Settled.{Settled}
use Rattle.pattern_settle.specs.declared.SettleError.{SettleError}
use Rattle.pattern_settle.specs.declared.SettleError.TheVariants.{BadClass, NoRoom}
use Rattle.std.specs.Prelude.{Result, Ok, Err}

module _ {w : Width} {path : Bool} {p : Text} {cells sets ends more : List ℕ} where
  answers : {r q : Settled} → Settles w path p cells sets r.count r.special → Settles w path p ends more q.count q.special → r ≡ q
  answers {r} {q} s t =
      let c : r.count ≡ q.count =
      sym (length-take-le r.count cells s.inside) ∙ sym (shown_length s.shows) ∙ shown_length t.shows ∙ length-take-le q.count ends t.inside in
      let z : r.special ≡ q.special = s.active ∙ sym t.active in
      ap (λ (n : ℕ). record { count = n; special = r.special }) c ∙ ap (λ (b : Bool). record { count = q.count; special = b }) z

pub settle_determined : (pattern : Text) (path : Bool) (w : Width) (cells sets ends more : List ℕ) → 4 * length pattern ≤ 3 * (size w * length sets)
    → 4 * length pattern ≤ 3 * (size w * length more) → (r q : Result Settled SettleError) → SettleSays w path pattern cells sets r
    → SettleSays w path pattern ends more q → r ≡ q
settle_determined pattern path w cells sets ends more h k (Err NoRoom) q s t = absurd (omega (arith, s))
settle_determined pattern path w cells sets ends more h k (Err BadClass) (Err NoRoom) s t = absurd (omega (arith, t))
settle_determined pattern path w cells sets ends more h k (Ok r) (Err NoRoom) s t = absurd (omega (arith, t))
settle_determined pattern path w cells sets ends more h k (Err BadClass) (Err BadClass) s t = refl
settle_determined pattern path w cells sets ends more h k (Err BadClass) (Ok q) s t = absurd (apart t.served s)
settle_determined pattern path w cells sets ends more h k (Ok r) (Err BadClass) s t = absurd (apart s.served t)
settle_determined pattern path w cells sets ends more h k (Ok r) (Ok q) s t = ap Ok (answers s t)

-- two cells, each with its table, that stand for one element
abbrev Agree : Element → List ℕ → ℕ → List ℕ → ℕ → Type 0
Agree star sets c more d = c ≡ d
Agree one sets c more d = c ≡ d
Agree (exactly b) sets c more d = c ≡ d
Agree (set sense members) sets c more d = (b : ℕ) → b < 256 → has (drop (words_at c) sets) b ≡ has (drop (words_at d) more) b

pub cell_determined : (e : Element) (sets : List ℕ) (c : ℕ) (more : List ℕ) (d : ℕ) → Is sets c e → Is more d e → Agree e sets c more d
cell_determined star sets c more d i j = i ∙ sym j
cell_determined one sets c more d i j = i ∙ sym j
cell_determined (exactly b) sets c more d i j = i.0 ∙ sym j.0
cell_determined (set sense members) sets c more d i j = λ b h. i.same b h ∙ sym (j.same b h)

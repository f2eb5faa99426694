-- The contracts determine every answer, that of `item_at` as that of `braced_at` does.
use Rattle.std.specs.Prelude.{Result}
use Prim.Native.Nat.{ℕ}
use mathlib.Core.Path.{◌≡◌}
use mathlib.Core.Bool.{Bool}
use lib.ListN.{drop}
use Rattle.stages.specs.Bytes.{Text}
use Rattle.stages.specs.Items.{closer_length}
use Rattle.stages.specs.Items as items
use Rattle.text.proofs.Determined.{one_answer}
use Rattle.text.specs.declared.refusal.Refusal.{Refusal}
use Rattle.read_mode.specs.Modes.{mode_of}
use Rattle.read_mode.specs.declared.Mode.{Mode}
use Rattle.read_brace.specs.Shows.{Finds}
use Rattle.read_brace.specs.declared.Item.{Item}
use Rattle.read_brace.proofs.Determined.{braced_at_determined}
use Rattle.read_item.specs.After.{mode_after_read, stops_read, is_end}

pub item_at_determined : (text : Text) (at d : ℕ) (i : items.Item) (r s : Result Item Refusal) → Finds text at d r i → Finds text at d s i → r ≡ s
item_at_determined = braced_at_determined

-- of what is read, by whatever says why it is refused
pub mode_after_determined : {R : Type 0} (i : Result Item R) (m r s : Mode) → r ≡ mode_after_read i m → s ≡ mode_after_read i m → r ≡ s
mode_after_determined i m r s = one_answer

pub is_stop_determined : {R : Type 0} (i : Result Item R) (r s : Bool) → r ≡ stops_read i → s ≡ stops_read i → r ≡ s
is_stop_determined i r s = one_answer

pub is_end_determined : (text : Text) (at : ℕ) (m : Mode) (r s : Bool) → r ≡ is_end m (drop at text) → s ≡ is_end m (drop at text) → r ≡ s
is_end_determined text at m r s = one_answer

pub end_length_determined : (m : Mode) (r s : ℕ) → r ≡ closer_length (mode_of m) → s ≡ closer_length (mode_of m) → r ≡ s
end_length_determined m r s = one_answer

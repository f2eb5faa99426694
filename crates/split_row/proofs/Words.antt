-- The fields of a word: IFS is a part of the variables' image, or the blanks.
use Prim.Native.Nat.{ℕ}
use mathlib.Core.Path.{◌≡◌, refl, sym, ap}
use mathlib.Core.List.{List}
use Rattle.stages.specs.Bytes.{Text, text, part, blanks}
use Rattle.stages.specs.Images.{Pairs, lookup, held}
use Rattle.stages.specs.Units.{Row}
use Rattle.stages.specs.Split.{ifs_or, ifs_now, broken, split_parts, fields_of_row}
use Rattle.stages.specs.Paths.{texts_of_fields}
use Rattle.table.specs.Places.{Looked}
use Rattle.std.specs.Prelude.{Option, Some, None}
use Rattle.table.specs.declared.Part.{Part}
use Rattle.table.proofs.Finds.{is_shown, is_absent}
use Rattle.split_field.specs.Answers.{Says, Puts}
use Rattle.std.specs.Prelude.{Result}
use Rattle.split_field.specs.declared.WriteError.{WriteError}
use Rattle.split_field.proofs.Placing.{puts_says}

module _ {vars : Text} {r : Option Part} (s : Looked vars (text "IFS") r) where
  pub ifs_set : (p : Part) → r ≡ Some p → part vars p.from p.to ≡ ifs_or (lookup (text "IFS") (held vars))
  unfolding ifs_or
  ifs_set p e = sym (ap ifs_or (is_shown s p e).gets)

  pub ifs_unset : r ≡ None → blanks ≡ ifs_or (lookup (text "IFS") (held vars))
  unfolding ifs_or
  ifs_unset e = sym (ap ifs_or (is_absent s e))

fields_are : (v : Pairs) (row : Row) → fields_of_row v row ≡ split_parts (ifs_or (lookup (text "IFS") v)) (broken row)
unfolding fields_of_row ifs_now
fields_are v row = refl

pub word_puts : (v : Pairs) (paths : List Text) (row : Row) {ifs : Text} {used : ℕ} {old left : Text} {w : Result ℕ WriteError}
    → ifs ≡ ifs_or (lookup (text "IFS") v)
    → Says (texts_of_fields paths (split_parts ifs (broken row))) used old left w → Puts (texts_of_fields paths (fields_of_row v row)) used old left w
word_puts v paths row {ifs} {used} {old} {left} {w} e s =
    let t : Says (texts_of_fields paths (fields_of_row v row)) used old left w = rw (fields_are v row, ← e) s in
    puts_says t

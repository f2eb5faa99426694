-- "Text is bytes, ordered by unsigned value, a prefix first": the three ways in which a text can stand to another.
use Rattle.std.specs.Prelude.{Bool, true, false}
use Rattle.stages.specs.Bytes.{Text, eq_text, lt_text}
use Rattle.std.specs.declared.cmp.Ordering.{Ordering}
use Rattle.std.specs.declared.cmp.Ordering.TheVariants.{Less, Equal, Greater}

-- by whether it is below the other, and whether it is the same
abbrev pub pick_order : Bool → Bool → Ordering
pick_order true e = Less
pick_order false true = Equal
pick_order false false = Greater

abbrev pub order_of : Text → Text → Ordering
order_of a b = pick_order (lt_text a b) (eq_text a b)

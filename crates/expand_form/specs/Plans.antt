-- What a form of a parameter asks for, and what each plan gives: document 01's forms with "missing" tested once.
use Rattle.std.specs.Prelude.{Bool, ◌&&◌, [], Result, Ok, Err}
use Rattle.stages.specs.Bytes.{Text}
use Rattle.stages.specs.Outcome.{Outcome, done, pick}
use Rattle.stages.specs.Images.{Pairs, held, held_texts}
use Rattle.stages.specs.Syntax.{Colon, no_colon, Param, Form, plain, minus, equals, query, plus, removal}
use Rattle.stages.specs.Units.{Mark, L, Row, marked, expanded_mark}
use Rattle.stages.specs.Params.{Lent, value, absent}
use Rattle.stages.specs.Expand.{Made, assigned, demand, cut_by}
use Rattle.expand_param.specs.Holding.{holding_in}
use Rattle.text.specs.declared.refusal.Refusal.{Refusal}
use Rattle.text.specs.declared.refusal.Refusal.TheVariants.{UnsetName}
use Rattle.text.specs.Cases.{side_of, is_suffix, reach_of, is_longest}
use Rattle.expand_form.specs.declared.Plan.{Plan}
use Rattle.expand_form.specs.declared.Plan.TheVariants as plan
use Rattle.expand_form.specs.declared.Unused.{Unused}
use Rattle.expand_form.specs.declared.Unused.TheVariants.{Value, Nothing}
use Rattle.expand_form.specs.declared.Used.{Used}
use Rattle.expand_form.specs.declared.Used.TheVariants.{Given, Stored, Removed, Demanded}

-- whether a parameter is missing, with the colon or without, as the images hold it
abbrev pub missing_held : Text → Text → Param → Colon → Bool
missing_held vars params x c = absent c (holding_in (held_texts params) (held vars) x)

-- what a form asks for, or that it is refused, by whether the value is missing, with the colon and without, and whether unset ones shout
abbrev pub plan_of : Form → (Colon → Bool) → Bool → Result Plan Refusal
plan_of plain missing shouts = pick (shouts && missing no_colon) (Err UnsetName) (Ok (plan.Unused Value))
plan_of (minus c) missing shouts = Ok (pick (missing c) (plan.Used Given) (plan.Unused Value))
plan_of (equals c) missing shouts = Ok (pick (missing c) (plan.Used Stored) (plan.Unused Value))
plan_of (query c) missing shouts = Ok (pick (missing c) (plan.Used Demanded) (plan.Unused Value))
plan_of (plus c) missing shouts = Ok (pick (missing c) (plan.Unused Nothing) (plan.Used Given))
plan_of (removal side reach) missing shouts =
    pick (shouts && missing no_colon) (Err UnsetName) (Ok (plan.Used (Removed (is_suffix side) (is_longest reach))))

-- the mark of the literal bytes of an operand that is used
abbrev pub operand_mark : Used → Mark → Mark
operand_mark Given m = expanded_mark m
operand_mark Stored m = m
operand_mark (Removed s long) m = L
operand_mark Demanded m = m

-- what is given where the operand is not used
unfoldable pub settled : Unused → Lent → Param → Mark → Pairs → Outcome Row
unfolding value marked
settled Value a x m v = done (marked (expanded_mark m) (value a v x))
settled Nothing a x m v = done []

-- what is given where it is, by its row, the variables after its stores, and whether `$@` of no parameters came in it: only an operand that is given
-- hands that on
unfoldable pub finished : Used → Lent → Param → Mark → Row × Pairs × Bool → Made
unfolding assigned demand cut_by
finished Given a x m p = done p
finished Stored a x m p = assigned a x m p
finished (Removed s long) a x m p = cut_by a (side_of s) (reach_of long) x m p
finished Demanded a x m p = demand p

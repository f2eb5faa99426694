-- The number of each refusal, as the stages have it in document 01's table.
use Rattle.std.specs.Prelude.{ℕ}
use Rattle.stages.specs.Numbers.{work_too_small, bad_variables, bad_homes, bad_paths, line_too_long, zero_byte, unended, bare_operator, substitution}
use Rattle.stages.specs.Numbers.{unserved, bad_syntax, too_deep, demanded, too_many_units, not_number, arithmetic_syntax, overflow, zero_divisor}
use Rattle.stages.specs.Numbers.{bracket_class, variable_room, output_room, bad_fields, bad_parameters, bad_path, unset_name}
use Rattle.text.specs.declared.refusal.Refusal.{Refusal}
use Rattle.text.specs.declared.refusal.Refusal.TheVariants.{WorkTooSmall, BadVariables, BadHomes, BadPaths, LineTooLong, ZeroByte, Unended, BareOperator}
use Rattle.text.specs.declared.refusal.Refusal.TheVariants.{Substitution, Unserved, BadSyntax, TooDeep, Demanded, TooManyUnits, NotNumber}
use Rattle.text.specs.declared.refusal.Refusal.TheVariants.{ArithmeticSyntax, Overflow, ZeroDivisor, BracketClass, VariableRoom, OutputRoom}
use Rattle.text.specs.declared.refusal.Refusal.TheVariants.{BadFields, BadParameters, BadPath, UnsetName}

abbrev pub refusal_number : Refusal → ℕ
refusal_number WorkTooSmall = work_too_small
refusal_number BadVariables = bad_variables
refusal_number BadHomes = bad_homes
refusal_number BadPaths = bad_paths
refusal_number LineTooLong = line_too_long
refusal_number ZeroByte = zero_byte
refusal_number Unended = unended
refusal_number BareOperator = bare_operator
refusal_number Substitution = substitution
refusal_number Unserved = unserved
refusal_number BadSyntax = bad_syntax
refusal_number TooDeep = too_deep
refusal_number Demanded = demanded
refusal_number TooManyUnits = too_many_units
refusal_number NotNumber = not_number
refusal_number ArithmeticSyntax = arithmetic_syntax
refusal_number Overflow = overflow
refusal_number ZeroDivisor = zero_divisor
refusal_number BracketClass = bracket_class
refusal_number VariableRoom = variable_room
refusal_number OutputRoom = output_room
refusal_number BadFields = bad_fields
refusal_number BadParameters = bad_parameters
refusal_number BadPath = bad_path
refusal_number UnsetName = unset_name

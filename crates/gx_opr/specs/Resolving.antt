-- Which operand a literal is taken for, by the table of operators.
use Rattle.std.specs.Prelude.{Bool, true, false, List, [], ◌∷◌, Option, None, Some, option_and_then, if◌then◌else◌}
use Rattle.std.specs.Option.{option_or}
use Rattle.gx_value.specs.declared.types.ColumnType.{ColumnType}
use Rattle.gx_value.specs.declared.types.ColumnType.TheVariants as column
use Rattle.gx_value.specs.declared.types.OperandType.{OperandType}
use Rattle.gx_value.specs.declared.types.OperandType.TheVariants as operand
use Rattle.gx_value.specs.declared.operators.Operator.{Operator}
use Rattle.gx_value.specs.declared.literal.Form.{Form}
use Rattle.gx_value.specs.declared.literal.Form.TheVariants as form
use Rattle.gx_value.specs.Operators.{operands, is_operand}

-- the type of a range's elements, where they are numbers
abbrev pub element_of : ColumnType → Option OperandType
element_of column.Int4Range = Some operand.Int4
element_of column.Int8Range = Some operand.Int8
element_of _ = None

-- the arrays, which alone a list fits
abbrev pub is_array : OperandType → Bool
is_array operand.Int4Array = true
is_array operand.TextArray = true
is_array operand.LqueryArray = true
is_array _ = false

abbrev pub fits : Form → OperandType → Bool
fits form.List t = is_array t
fits _ t = true

abbrev pub where_listed : ColumnType → Operator → OperandType → Option OperandType
where_listed kind op t = if is_operand kind op t then Some t else None

abbrev pub where_it_fits : Form → OperandType → Option OperandType
where_it_fits f t = if fits f t then Some t else None

abbrev pub first_of : List OperandType → Option OperandType
first_of [] = None
first_of (t ∷ ts) = Some t

-- without a cast: of a range's element, where the table has it, a number is one; else the first type of the table's line
abbrev pub uncast : ColumnType → Operator → Form → Option OperandType
uncast kind op form.Number = option_or (option_and_then (where_listed kind op) (element_of kind)) (first_of (operands kind op))
uncast kind op _ = first_of (operands kind op)

-- with a cast its type, where the table has it
abbrev pub named : ColumnType → Operator → Form → Option OperandType → Option OperandType
named kind op f None = uncast kind op f
named kind op f (Some t) = where_listed kind op t

-- the type that a literal of this form is taken for with the operator and such a column on the left
abbrev pub resolve : ColumnType → Operator → Form → Option OperandType → Option OperandType
resolve kind op f cast = option_and_then (where_it_fits f) (named kind op f cast)

-- The class of an index that is to be made.
use Rattle.std.specs.Prelude.{ℕ, ℤ, pos, negsuc, ◌&&◌, List, [], find, Option, None, Some, option_and_then}
use Rattle.std.specs.Str.{bytes_eq}
use Rattle.std.specs.Str.Parse.{signed_digits_value}
use Rattle.gx_value.specs.declared.types.ColumnType.{ColumnType}
use Rattle.gx_value.specs.declared.classes.Method.{Method}
use Rattle.gx_value.specs.declared.classes.Class.{Class}
use Rattle.gx_value.specs.Classes.{line, is_for, method_named, parameter_for}
use Rattle.gx_parse.specs.declared.statement.Parameter.{Parameter}

-- the classes that an index can be made with: none yet
abbrev pub classes : List Class
classes = []

-- the class of the method for the type: the one of this name, or without a name the default
abbrev pub class_among : List Class → Method → ColumnType → Option (List ℕ) → Option Class
class_among all method kind (Some word) = find (λ class. is_for method kind class && bytes_eq (line class).word word) all
class_among all method kind None = find (λ class. is_for method kind class && (line class).is_default) all

abbrev pub class_chosen : ColumnType → List ℕ → Option (List ℕ) → Option Class
class_chosen kind method word = option_and_then (λ m. class_among classes m kind word) (method_named method)

abbrev pub natural_of : ℤ → Option ℕ
natural_of (pos n) = Some n
natural_of (negsuc n) = None

-- the class's parameter where this is given, its number read by value; none where the class has no such parameter
abbrev pub parameter_chosen : Class → Option Parameter → Option ℕ
parameter_chosen class None = parameter_for class None
parameter_chosen class (Some p) =
    option_and_then (λ n. parameter_for class (Some (p.word, n))) (natural_of (signed_digits_value 10 p.number))

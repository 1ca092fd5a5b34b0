-- The operator classes: PostgreSQL 16, 68.2, 70.2, F.9, F.18, F.20 and F.23.
use Rattle.std.specs.Prelude.{◌≡◌, ℕ, ◌==◌, nat_le, Bool, true, false, not, ◌&&◌, ◌||◌, List, [], ◌∷◌, codes, bytes_eq, find, Option, None, Some, ok_or, Result, if◌then◌else◌}
use Rattle.std.specs.List.{list_any, list_all}
use Rattle.std.specs.Option.{option_map_or}
use Rattle.gx_value.specs.declared.types.ColumnType.{ColumnType}
use Rattle.gx_value.specs.declared.types.ColumnType.TheVariants as column
use Rattle.gx_value.specs.declared.classes.Method.{Method}
use Rattle.gx_value.specs.declared.classes.Method.TheVariants.{Gist, Gin}
use Rattle.gx_value.specs.declared.classes.Parameter.{Parameter}
use Rattle.gx_value.specs.declared.classes.Parameter.TheVariants.{Absent, Siglen, Numranges}
use Rattle.gx_value.specs.declared.classes.Class.{Class}
use Rattle.gx_value.specs.declared.classes.Class.TheVariants.{GistInt4, GistInt8, GistText, GistBytea, GistDate, GistUuid, RangeOps, InetOps, GistLtree, GistHstore, GistInt, GistIntbig, ArrayOps, GinInt, GinHstore, JsonbOps, JsonbPathOps}
use Rattle.gx_value.specs.declared.classes.ClassLine.{ClassLine}
use Rattle.gx_value.specs.declared.classes.ClassFault.{ClassFault}
use Rattle.gx_value.specs.declared.classes.ClassFault.TheVariants.{NoDefault, NotFor}
use Rattle.gx_value.specs.declared.types.OperandType.{OperandType}
use Rattle.gx_value.specs.declared.operators.Operator.{Operator}
use Rattle.gx_value.specs.declared.operators.Operator.TheVariants.{Contains, Within, Formula}
use Rattle.gx_value.specs.Types.{same_type}
use Rattle.gx_value.specs.Operators.{same_operator, is_operand}

-- a line of the table: the index method, the class's name, the column types that it is for, whether it is their default,
-- and its parameter with the number that counts where none is given
pub record Line : Type 0 where
  pub method : Method
  pub word : List ℕ
  pub kinds : List ColumnType
  pub is_default : Bool
  pub parameter : Parameter

abbrev pub gist : List ℕ → List ColumnType → Bool → Parameter → Line
gist word kinds is_default parameter =
    record { method = Gist; word = word; kinds = kinds; is_default = is_default; parameter = parameter }

abbrev pub gin : List ℕ → List ColumnType → Bool → Line
gin word kinds is_default =
    record { method = Gin; word = word; kinds = kinds; is_default = is_default; parameter = Absent }

abbrev pub line : Class → Line
line GistInt4 = gist (codes "gist_int4_ops") (column.Int4 ∷ []) true Absent
line GistInt8 = gist (codes "gist_int8_ops") (column.Int8 ∷ []) true Absent
line GistText = gist (codes "gist_text_ops") (column.Text ∷ []) true Absent
line GistBytea = gist (codes "gist_bytea_ops") (column.Bytea ∷ []) true Absent
line GistDate = gist (codes "gist_date_ops") (column.Date ∷ []) true Absent
line GistUuid = gist (codes "gist_uuid_ops") (column.Uuid ∷ []) true Absent
line RangeOps = gist (codes "range_ops") (column.Int4Range ∷ column.Int8Range ∷ column.DateRange ∷ []) true Absent
line InetOps = gist (codes "inet_ops") (column.Inet ∷ []) false Absent
line GistLtree = gist (codes "gist_ltree_ops") (column.Ltree ∷ []) true (Siglen 8)
line GistHstore = gist (codes "gist_hstore_ops") (column.Hstore ∷ []) true (Siglen 16)
line GistInt = gist (codes "gist__int_ops") (column.Int4Array ∷ []) true (Numranges 100)
line GistIntbig = gist (codes "gist__intbig_ops") (column.Int4Array ∷ []) false (Siglen 252)
line ArrayOps = gin (codes "array_ops") (column.Int4Array ∷ []) true
line GinInt = gin (codes "gin__int_ops") (column.Int4Array ∷ []) false
line GinHstore = gin (codes "gin_hstore_ops") (column.Hstore ∷ []) true
line JsonbOps = gin (codes "jsonb_ops") (column.Jsonb ∷ []) true
line JsonbPathOps = gin (codes "jsonb_path_ops") (column.Jsonb ∷ []) false

-- the code's line says the same
pub record IsLine (found : ClassLine) (line : Line) : Type 0 where
  pub method : found.method ≡ line.method
  pub word : found.word.now ≡ line.word
  pub kinds : found.kinds.now ≡ line.kinds
  pub is_default : found.is_default ≡ line.is_default
  pub parameter : found.parameter ≡ line.parameter

-- the number of a class in the catalog
abbrev pub class_number : Class → ℕ
class_number GistInt4 = 1
class_number GistInt8 = 2
class_number GistText = 3
class_number GistBytea = 4
class_number GistDate = 5
class_number GistUuid = 6
class_number RangeOps = 7
class_number InetOps = 8
class_number GistLtree = 9
class_number GistHstore = 10
class_number GistInt = 11
class_number GistIntbig = 12
class_number ArrayOps = 13
class_number GinInt = 14
class_number GinHstore = 15
class_number JsonbOps = 16
class_number JsonbPathOps = 17

-- the classes in the order of their numbers
abbrev pub all_classes : List Class
all_classes =
    GistInt4 ∷
    GistInt8 ∷
    GistText ∷
    GistBytea ∷
    GistDate ∷
    GistUuid ∷
    RangeOps ∷
    InetOps ∷
    GistLtree ∷
    GistHstore ∷
    GistInt ∷
    GistIntbig ∷
    ArrayOps ∷
    GinInt ∷
    GinHstore ∷
    JsonbOps ∷
    JsonbPathOps ∷
    []

-- the class with this number
abbrev pub class_numbered : ℕ → Option Class
class_numbered n = find (λ class. class_number class == n) all_classes

abbrev pub same_method : Method → Method → Bool
same_method Gist Gist = true
same_method Gin Gin = true
same_method _ _ = false

-- the index method with this name
abbrev pub method_named : List ℕ → Option Method
method_named word =
    if bytes_eq word (codes "gist") then Some Gist else if bytes_eq word (codes "gin") then Some Gin else None

-- the class is for columns of the type
abbrev pub takes : Class → ColumnType → Bool
takes class kind = list_any (same_type kind) (line class).kinds

-- the class is one of the method for columns of the type
abbrev pub is_for : Method → ColumnType → Class → Bool
is_for method kind class = same_method (line class).method method && takes class kind

-- the class of the method for the type that has this name
abbrev pub class_named : Method → ColumnType → List ℕ → Option Class
class_named method kind word = find (λ class. is_for method kind class && bytes_eq (line class).word word) all_classes

-- the one that is the default
abbrev pub default_class : Method → ColumnType → Option Class
default_class method kind = find (λ class. is_for method kind class && (line class).is_default) all_classes

-- the class of the method for the type: the one of this name, or without a name the default
abbrev pub class_for : Method → ColumnType → Option (List ℕ) → Result Class ClassFault
class_for method kind (Some word) = ok_or (class_named method kind word) NotFor
class_for method kind None = ok_or (default_class method kind) NoDefault

-- the class is the one that is found by its method, its name and each of its types, of which there is one
abbrev pub is_found : Class → Bool
is_found class =
    list_any (λ kind. true) (line class).kinds
    && list_all (λ kind. option_map_or (λ found. class_number found == class_number class) (class_named (line class).method kind (line class).word) false) (line class).kinds

-- where the class is a default for the type, it is the one that is found
abbrev pub is_only_default : Class → ColumnType → Bool
is_only_default class kind =
    not (takes class kind && (line class).is_default)
    || option_map_or (λ found. class_number found == class_number class) (default_class (line class).method kind) false

-- the numbers of bytes that a signature may have
abbrev pub siglens : List ℕ
siglens = 4 ∷ 8 ∷ 16 ∷ 28 ∷ 32 ∷ 64 ∷ 128 ∷ 252 ∷ []

abbrev pub allowed : Parameter → ℕ → Bool
allowed Absent n = n == 0
allowed (Siglen _) n = list_any (λ m. m == n) siglens
allowed (Numranges _) n = nat_le 1 n && nat_le n 200

-- the number may be the class's parameter; a class without one has 0
abbrev pub allows : Class → ℕ → Bool
allows class n = allowed (line class).parameter n

abbrev pub IsAllowed : Class → ℕ → Type 0
IsAllowed class n = allows class n ≡ true

abbrev pub parameter_word : Parameter → List ℕ → Bool
parameter_word Absent word = false
parameter_word (Siglen _) word = bytes_eq word (codes "siglen")
parameter_word (Numranges _) word = bytes_eq word (codes "numranges")

abbrev pub default_of : Parameter → ℕ
default_of Absent = 0
default_of (Siglen n) = n
default_of (Numranges n) = n

-- the class's parameter where this is given; none where the class has no such parameter
abbrev pub parameter_for : Class → Option (List ℕ × ℕ) → Option ℕ
parameter_for class None = Some (default_of (line class).parameter)
parameter_for class (Some given) =
    if parameter_word (line class).parameter given.0 && allows class given.1 then Some given.1 else None

-- the operators of its type that a class lacks
abbrev pub lacks : Class → Operator → Bool
lacks GistInt op = same_operator op Within
lacks GistIntbig op = same_operator op Within
lacks ArrayOps op = same_operator op Formula
lacks JsonbPathOps op = not (same_operator op Contains)
lacks _ op = false

-- its type has the operator with an operand of the type
abbrev pub has_operand : Class → Operator → OperandType → Bool
has_operand class op t = list_any (λ kind. is_operand kind op t) (line class).kinds

-- an index of the class answers the operator with an operand of the type
abbrev pub supports : Class → Operator → OperandType → Bool
supports class op t = has_operand class op t && not (lacks class op)

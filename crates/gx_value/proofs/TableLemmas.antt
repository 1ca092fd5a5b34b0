-- The tables: what computes, class by class and type by type.
use Rattle.std.proofs.Common.{◌≡◌, ℕ, Option, Some, find, bytes_eq, List, ap, sym, ◌∙◌, refl}
use Rattle.gx_value.specs.declared.types.ColumnType.{ColumnType}
use Rattle.gx_value.specs.declared.types.ColumnType.TheVariants as column
use Rattle.gx_value.specs.declared.classes.Class.{Class}
use Rattle.gx_value.specs.declared.classes.Class.TheVariants as class
use Rattle.gx_value.specs.Types.{type_number, type_numbered}
use Rattle.gx_value.specs.Classes.{all_classes, class_number, class_numbered, line}

pub type_again : (kind : ColumnType) → type_numbered (type_number kind) ≡ Some kind
type_again column.Int4 = refl
type_again column.Int8 = refl
type_again column.Text = refl
type_again column.Bytea = refl
type_again column.Date = refl
type_again column.Uuid = refl
type_again column.Int4Range = refl
type_again column.Int8Range = refl
type_again column.DateRange = refl
type_again column.Inet = refl
type_again column.Ltree = refl
type_again column.Hstore = refl
type_again column.Jsonb = refl
type_again column.Int4Array = refl

pub class_again : (c : Class) → class_numbered (class_number c) ≡ Some c
class_again class.GistInt4 = refl
class_again class.GistInt8 = refl
class_again class.GistText = refl
class_again class.GistBytea = refl
class_again class.GistDate = refl
class_again class.GistUuid = refl
class_again class.RangeOps = refl
class_again class.InetOps = refl
class_again class.GistLtree = refl
class_again class.GistHstore = refl
class_again class.GistInt = refl
class_again class.GistIntbig = refl
class_again class.ArrayOps = refl
class_again class.GinInt = refl
class_again class.GinHstore = refl
class_again class.JsonbOps = refl
class_again class.JsonbPathOps = refl

-- the first class of this name
abbrev first_named : List ℕ → Option Class
first_named word = find (λ c. bytes_eq (line c).word word) all_classes

named_again : (c : Class) → first_named (line c).word ≡ Some c
named_again class.GistInt4 = refl
named_again class.GistInt8 = refl
named_again class.GistText = refl
named_again class.GistBytea = refl
named_again class.GistDate = refl
named_again class.GistUuid = refl
named_again class.RangeOps = refl
named_again class.InetOps = refl
named_again class.GistLtree = refl
named_again class.GistHstore = refl
named_again class.GistInt = refl
named_again class.GistIntbig = refl
named_again class.ArrayOps = refl
named_again class.GinInt = refl
named_again class.GinHstore = refl
named_again class.JsonbOps = refl
named_again class.JsonbPathOps = refl

pub one_class : (a b : Class) → (line a).word ≡ (line b).word → a ≡ b
one_class a b same =
    let both : Some a ≡ Some b = sym (named_again a) ∙ ap first_named same ∙ named_again b in
    cc

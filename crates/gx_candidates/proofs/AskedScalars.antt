-- The classes of scalars, ranges and addresses have a query for each question that their indexes answer.
use Rattle.std.specs.Prelude.{◌≡◌, Bool, true, false, ◌&&◌, ◌||◌, ◌⊎◌, is_some, refl}
use Rattle.std.proofs.Common.{sym, inl, inr, ⊎_elim, true≢false}
use Rattle.std.specs.List.{list_any}
use Rattle.gx_scalar.specs.declared.scalar.Scalar.TheVariants as scalars
use Rattle.gx_value.specs.declared.types.ColumnType.TheVariants as column
use Rattle.gx_value.specs.declared.types.OperandType.{OperandType}
use Rattle.gx_value.specs.declared.types.OperandType.TheVariants as operand
use Rattle.gx_value.specs.declared.operators.Operator.{Operator}
use Rattle.gx_value.specs.declared.operators.Operator.TheVariants as ops
use Rattle.gx_value.specs.Types.{same_operand}
use Rattle.gx_value.specs.Operators.{operands_among, of_scalars, of_ranges, is_operand}
use Rattle.gx_value.specs.Values.{scalar, range, inet}
use Rattle.gx_opr.specs.Operands.{Right, datum, IsRight}
use Rattle.gx_opr.specs.Operators.{scalar_op, range_op, inet_op}
use Rattle.gx_candidates.specs.Queries.{asks_scalar, asks_range, asks_inet}

pub never : {A : Type 0} → false ≡ true → A
never e = absurd (true≢false (sym e))

pub second : (a b : Bool) → (a && b) ≡ true → b ≡ true
second true b e = e
second false b e = never e

pub one : (b : Bool) → (b || false) ≡ true → b ≡ true
one true e = refl
one false e = never e

either : (a b : Bool) → (a || (b || false)) ≡ true → (a ≡ true) ⊎ (b ≡ true)
either true b e = inl refl
either false b e = inr (one b e)

-- The right sides of a type.

abbrev is_scalar : OperandType → Bool
is_scalar operand.Int4 = true
is_scalar operand.Int8 = true
is_scalar operand.Text = true
is_scalar operand.Bytea = true
is_scalar operand.Date = true
is_scalar operand.Uuid = true
is_scalar _ = false

scalar_right : (t : OperandType) (op : Operator) (q : Right) → is_some (scalar_op op) ≡ true → is_scalar t ≡ true → IsRight t q → asks_scalar op q ≡ true
scalar_right operand.Int4 op (datum (scalar s)) some e r = some
scalar_right operand.Int4 op _ some e r = absurd r
scalar_right operand.Int8 op (datum (scalar s)) some e r = some
scalar_right operand.Int8 op _ some e r = absurd r
scalar_right operand.Text op (datum (scalar s)) some e r = some
scalar_right operand.Text op _ some e r = absurd r
scalar_right operand.Bytea op (datum (scalar s)) some e r = some
scalar_right operand.Bytea op _ some e r = absurd r
scalar_right operand.Date op (datum (scalar s)) some e r = some
scalar_right operand.Date op _ some e r = absurd r
scalar_right operand.Uuid op (datum (scalar s)) some e r = some
scalar_right operand.Uuid op _ some e r = absurd r
scalar_right _ op q some e r = never e

pub int4_is : (t : OperandType) → same_operand t operand.Int4 ≡ true → is_scalar t ≡ true
int4_is operand.Int4 e = refl
int4_is _ e = never e

pub int8_is : (t : OperandType) → same_operand t operand.Int8 ≡ true → is_scalar t ≡ true
int8_is operand.Int8 e = refl
int8_is _ e = never e

pub text_is : (t : OperandType) → same_operand t operand.Text ≡ true → is_scalar t ≡ true
text_is operand.Text e = refl
text_is _ e = never e

pub bytea_is : (t : OperandType) → same_operand t operand.Bytea ≡ true → is_scalar t ≡ true
bytea_is operand.Bytea e = refl
bytea_is _ e = never e

pub date_is : (t : OperandType) → same_operand t operand.Date ≡ true → is_scalar t ≡ true
date_is operand.Date e = refl
date_is _ e = never e

pub uuid_is : (t : OperandType) → same_operand t operand.Uuid ≡ true → is_scalar t ≡ true
uuid_is operand.Uuid e = refl
uuid_is _ e = never e

-- scalars
of_scalar_line : (a t : OperandType) (op : Operator) → list_any (same_operand t) (operands_among (of_scalars a) op) ≡ true → (same_operand t a ≡ true) × (is_some (scalar_op op) ≡ true)
of_scalar_line a t ops.Equal e = (one (same_operand t a) e, refl)
of_scalar_line a t ops.NotEqual e = (one (same_operand t a) e, refl)
of_scalar_line a t ops.Less e = (one (same_operand t a) e, refl)
of_scalar_line a t ops.LessEqual e = (one (same_operand t a) e, refl)
of_scalar_line a t ops.Greater e = (one (same_operand t a) e, refl)
of_scalar_line a t ops.GreaterEqual e = (one (same_operand t a) e, refl)
of_scalar_line a t _ e = never e

pub scalar_asked : (a t : OperandType) (op : Operator) (q : Right) → ((same_operand t a ≡ true) → is_scalar t ≡ true) → list_any (same_operand t) (operands_among (of_scalars a) op) ≡ true → IsRight t q → asks_scalar op q ≡ true
scalar_asked a t op q is e r = let l = of_scalar_line a t op e in scalar_right t op q l.1 (is l.0) r

-- ranges, and their elements
abbrev is_range : OperandType → Bool
is_range operand.Int4Range = true
is_range operand.Int8Range = true
is_range operand.DateRange = true
is_range _ = false

range_right : (t : OperandType) (op : Operator) (q : Right) → is_some (range_op op) ≡ true → is_range t ≡ true → IsRight t q → asks_range op q ≡ true
range_right operand.Int4Range op (datum (range s)) some e r = some
range_right operand.Int4Range op _ some e r = absurd r
range_right operand.Int8Range op (datum (range s)) some e r = some
range_right operand.Int8Range op _ some e r = absurd r
range_right operand.DateRange op (datum (range s)) some e r = some
range_right operand.DateRange op _ some e r = absurd r
range_right _ op q some e r = never e

abbrev is_bound : OperandType → Bool
is_bound operand.Int4 = true
is_bound operand.Int8 = true
is_bound operand.Date = true
is_bound _ = false

element_right : (t : OperandType) (q : Right) → is_bound t ≡ true → IsRight t q → asks_range ops.Contains q ≡ true
element_right operand.Int4 (datum (scalar (scalars.Int4 n))) e r = refl
element_right operand.Int4 (datum (scalar (scalars.Int8 n))) e r = let is = r.0 in cc
element_right operand.Int4 (datum (scalar (scalars.Text n))) e r = let is = r.0 in cc
element_right operand.Int4 (datum (scalar (scalars.Bytea n))) e r = let is = r.0 in cc
element_right operand.Int4 (datum (scalar (scalars.Date n))) e r = let is = r.0 in cc
element_right operand.Int4 (datum (scalar (scalars.Uuid n))) e r = let is = r.0 in cc
element_right operand.Int4 _ e r = absurd r
element_right operand.Int8 (datum (scalar (scalars.Int8 n))) e r = refl
element_right operand.Int8 (datum (scalar (scalars.Int4 n))) e r = let is = r.0 in cc
element_right operand.Int8 (datum (scalar (scalars.Text n))) e r = let is = r.0 in cc
element_right operand.Int8 (datum (scalar (scalars.Bytea n))) e r = let is = r.0 in cc
element_right operand.Int8 (datum (scalar (scalars.Date n))) e r = let is = r.0 in cc
element_right operand.Int8 (datum (scalar (scalars.Uuid n))) e r = let is = r.0 in cc
element_right operand.Int8 _ e r = absurd r
element_right operand.Date (datum (scalar (scalars.Date n))) e r = refl
element_right operand.Date (datum (scalar (scalars.Int4 n))) e r = let is = r.0 in cc
element_right operand.Date (datum (scalar (scalars.Int8 n))) e r = let is = r.0 in cc
element_right operand.Date (datum (scalar (scalars.Text n))) e r = let is = r.0 in cc
element_right operand.Date (datum (scalar (scalars.Bytea n))) e r = let is = r.0 in cc
element_right operand.Date (datum (scalar (scalars.Uuid n))) e r = let is = r.0 in cc
element_right operand.Date _ e r = absurd r
element_right _ q e r = never e

pub int4range_is : (t : OperandType) → same_operand t operand.Int4Range ≡ true → is_range t ≡ true
int4range_is operand.Int4Range e = refl
int4range_is _ e = never e

pub int8range_is : (t : OperandType) → same_operand t operand.Int8Range ≡ true → is_range t ≡ true
int8range_is operand.Int8Range e = refl
int8range_is _ e = never e

pub daterange_is : (t : OperandType) → same_operand t operand.DateRange ≡ true → is_range t ≡ true
daterange_is operand.DateRange e = refl
daterange_is _ e = never e

pub int4_bound : (t : OperandType) → same_operand t operand.Int4 ≡ true → is_bound t ≡ true
int4_bound operand.Int4 e = refl
int4_bound _ e = never e

pub int8_bound : (t : OperandType) → same_operand t operand.Int8 ≡ true → is_bound t ≡ true
int8_bound operand.Int8 e = refl
int8_bound _ e = never e

pub date_bound : (t : OperandType) → same_operand t operand.Date ≡ true → is_bound t ≡ true
date_bound operand.Date e = refl
date_bound _ e = never e

pub range_asked : (a b t : OperandType) (op : Operator) (q : Right) → ((same_operand t a ≡ true) → is_range t ≡ true) → ((same_operand t b ≡ true) → is_bound t ≡ true)
    → list_any (same_operand t) (operands_among (of_ranges a b) op) ≡ true → IsRight t q → asks_range op q ≡ true
range_asked a b t ops.Equal q is el e r = range_right t ops.Equal q refl (is (one (same_operand t a) e)) r
range_asked a b t ops.Overlaps q is el e r = range_right t ops.Overlaps q refl (is (one (same_operand t a) e)) r
range_asked a b t ops.Within q is el e r = range_right t ops.Within q refl (is (one (same_operand t a) e)) r
range_asked a b t ops.Left q is el e r = range_right t ops.Left q refl (is (one (same_operand t a) e)) r
range_asked a b t ops.Right q is el e r = range_right t ops.Right q refl (is (one (same_operand t a) e)) r
range_asked a b t ops.NotRight q is el e r = range_right t ops.NotRight q refl (is (one (same_operand t a) e)) r
range_asked a b t ops.NotLeft q is el e r = range_right t ops.NotLeft q refl (is (one (same_operand t a) e)) r
range_asked a b t ops.Adjacent q is el e r = range_right t ops.Adjacent q refl (is (one (same_operand t a) e)) r
range_asked a b t ops.Contains q is el e r =
    ⊎_elim (λ x. range_right t ops.Contains q refl (is x) r) (λ x. element_right t q (el x) r) (either (same_operand t a) (same_operand t b) e)
range_asked a b t _ q is el e r = never e

-- addresses
inet_right : (t : OperandType) (op : Operator) (q : Right) → is_some (inet_op op) ≡ true → same_operand t operand.Inet ≡ true → IsRight t q → asks_inet op q ≡ true
inet_right operand.Inet op (datum (inet s)) some e r = some
inet_right operand.Inet op _ some e r = absurd r
inet_right _ op q some e r = never e

pub inet_asked : (t : OperandType) (op : Operator) (q : Right) → is_operand column.Inet op t ≡ true → IsRight t q → asks_inet op q ≡ true
inet_asked t ops.Equal q e r = inet_right t ops.Equal q refl (one (same_operand t operand.Inet) e) r
inet_asked t ops.NotEqual q e r = inet_right t ops.NotEqual q refl (one (same_operand t operand.Inet) e) r
inet_asked t ops.Less q e r = inet_right t ops.Less q refl (one (same_operand t operand.Inet) e) r
inet_asked t ops.LessEqual q e r = inet_right t ops.LessEqual q refl (one (same_operand t operand.Inet) e) r
inet_asked t ops.Greater q e r = inet_right t ops.Greater q refl (one (same_operand t operand.Inet) e) r
inet_asked t ops.GreaterEqual q e r = inet_right t ops.GreaterEqual q refl (one (same_operand t operand.Inet) e) r
inet_asked t ops.Left q e r = inet_right t ops.Left q refl (one (same_operand t operand.Inet) e) r
inet_asked t ops.LeftEqual q e r = inet_right t ops.LeftEqual q refl (one (same_operand t operand.Inet) e) r
inet_asked t ops.Right q e r = inet_right t ops.Right q refl (one (same_operand t operand.Inet) e) r
inet_asked t ops.RightEqual q e r = inet_right t ops.RightEqual q refl (one (same_operand t operand.Inet) e) r
inet_asked t ops.Overlaps q e r = inet_right t ops.Overlaps q refl (one (same_operand t operand.Inet) e) r
inet_asked t _ q e r = never e

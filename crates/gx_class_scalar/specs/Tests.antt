-- The tests of keys.
use Rattle.std.specs.Prelude.{◌≡◌, ℕ, Bool, true, nat_le, List, length, if◌then◌else◌}
use Rattle.std.specs.Ordering.{nat_cmp, int_cmp}
use Rattle.std.specs.Cmp.Lexicographic.{slice_cmp}
use Rattle.std.specs.declared.cmp.Ordering.{Ordering}
use Rattle.std.specs.declared.cmp.Ordering.TheVariants as orderings
use Rattle.gx_gist.specs.declared.test.Test.{Test}
use Rattle.gx_gist.specs.declared.test.Test.TheVariants.{No, Maybe, Yes}
use Rattle.gx_scalar.specs.declared.scalar.Scalar.{Scalar}
use Rattle.gx_scalar.specs.declared.scalar.Scalar.TheVariants as scalars
use Rattle.gx_scalar.specs.Operators.{accepts}
use Rattle.gx_class_scalar.specs.declared.key.Part.{Part}
use Rattle.gx_class_scalar.specs.declared.key.ScalarKey.{ScalarKey}
use Rattle.gx_class_scalar.specs.declared.key.ScalarKey.TheVariants.{Int4, Int8, Date, Uuid, Cut}
use Rattle.gx_scalar.specs.declared.operators.ScalarOp.{ScalarOp}
use Rattle.gx_class_scalar.specs.declared.query.ScalarQuery.{ScalarQuery}
use Rattle.gx_class_scalar.specs.Orders.{may_accept, may_accept_cut}
use Rattle.gx_class_scalar.specs.Keys.{front}

-- a value whose place is known is decided
abbrev pub decided : ScalarOp → Ordering → Test
decided op o = if accepts op o then Yes else No

-- a value that was cut is decided where its first 900 bytes differ from the operand's, and is greater
-- where they are the whole operand; else it has to be looked at
abbrev pub cut_place : ScalarOp → Bool → Ordering → Test
cut_place op whole orderings.Less = decided op orderings.Less
cut_place op whole orderings.Greater = decided op orderings.Greater
cut_place op whole orderings.Equal = if whole then decided op orderings.Greater else Maybe

abbrev pub part_test : ScalarOp → Part → List ℕ → Test
part_test op p q =
    if p.more then cut_place op (nat_le (length q) 900) (slice_cmp nat_cmp p.bytes (front q))
    else decided op (slice_cmp nat_cmp p.bytes q)

-- of the key of one value
abbrev pub leaf_answer : ScalarOp → ScalarKey → Scalar → Test
leaf_answer op (Int4 a b) (scalars.Int4 n) = decided op (int_cmp a n)
leaf_answer op (Int8 a b) (scalars.Int8 n) = decided op (int_cmp a n)
leaf_answer op (Date a b) (scalars.Date n) = decided op (int_cmp a n)
leaf_answer op (Uuid a b) (scalars.Uuid n) = decided op (nat_cmp a n)
leaf_answer op (Cut a b) (scalars.Text q) = part_test op a q
leaf_answer op (Cut a b) (scalars.Bytea q) = part_test op a q
leaf_answer op key operand = No

-- of the key of many
abbrev pub may : Bool → Test
may b = if b then Maybe else No

abbrev pub parts_test : ScalarOp → List ℕ → List ℕ → List ℕ → Test
parts_test op low high q = may (may_accept_cut op (slice_cmp nat_cmp low (front q)) (slice_cmp nat_cmp high (front q)))

abbrev pub inner_answer : ScalarOp → ScalarKey → Scalar → Test
inner_answer op (Int4 a b) (scalars.Int4 n) = may (may_accept op (int_cmp a n) (int_cmp b n))
inner_answer op (Int8 a b) (scalars.Int8 n) = may (may_accept op (int_cmp a n) (int_cmp b n))
inner_answer op (Date a b) (scalars.Date n) = may (may_accept op (int_cmp a n) (int_cmp b n))
inner_answer op (Uuid a b) (scalars.Uuid n) = may (may_accept op (nat_cmp a n) (nat_cmp b n))
inner_answer op (Cut a b) (scalars.Text q) = parts_test op a.bytes b.bytes q
inner_answer op (Cut a b) (scalars.Bytea q) = parts_test op a.bytes b.bytes q
inner_answer op key operand = No

abbrev pub key_test : Bool → ScalarOp → ScalarKey → Scalar → Test
key_test at_leaf op key operand = if at_leaf then leaf_answer op key operand else inner_answer op key operand

-- The order of keys that a split may cut: from the least, by the lesser value, then by the greater.
use Rattle.std.specs.Prelude.{ℕ, false, [], ℤ, pos}
use Rattle.std.specs.Ordering.{nat_cmp, int_cmp, then_cmp, on}
use Rattle.std.specs.Cmp.{IsTotalOrder, bool_cmp_total}
use Rattle.std.proofs.lemmas.Cmp.{nat_cmp_total, int_cmp_total, nat_list_cmp_total, then_total, on_total}
use Rattle.std.specs.declared.cmp.Ordering.{Ordering}
use Rattle.gx_class_scalar.specs.declared.key.Part.{Part}
use Rattle.gx_class_scalar.specs.declared.key.ScalarKey.{ScalarKey}
use Rattle.gx_class_scalar.specs.declared.key.ScalarKey.TheVariants.{Int4, Int8, Date, Uuid, Cut}
use Rattle.gx_class_scalar.specs.Keys.{part_cmp}

-- the values of a key, and 0 or nothing where it has none of that sort
abbrev pub int_lo : ScalarKey → ℤ
int_lo (Int4 a b) = a
int_lo (Int8 a b) = a
int_lo (Date a b) = a
int_lo key = pos 0

abbrev pub int_hi : ScalarKey → ℤ
int_hi (Int4 a b) = b
int_hi (Int8 a b) = b
int_hi (Date a b) = b
int_hi key = pos 0

abbrev pub nat_lo : ScalarKey → ℕ
nat_lo (Uuid a b) = a
nat_lo key = 0

abbrev pub nat_hi : ScalarKey → ℕ
nat_hi (Uuid a b) = b
nat_hi key = 0

abbrev pub no_part : Part
no_part = record { bytes = []; more = false }

abbrev pub part_lo : ScalarKey → Part
part_lo (Cut a b) = a
part_lo key = no_part

abbrev pub part_hi : ScalarKey → Part
part_hi (Cut a b) = b
part_hi key = no_part

-- by the lesser value, then by the greater
abbrev pub ints_cmp : ScalarKey → ScalarKey → Ordering
ints_cmp = then_cmp (on int_lo int_cmp) (on int_hi int_cmp)

abbrev pub nats_cmp : ScalarKey → ScalarKey → Ordering
nats_cmp = then_cmp (on nat_lo nat_cmp) (on nat_hi nat_cmp)

abbrev pub parts_cmp : ScalarKey → ScalarKey → Ordering
parts_cmp = then_cmp (on part_lo part_cmp) (on part_hi part_cmp)

abbrev pub key_cmp : ScalarKey → ScalarKey → Ordering
key_cmp = then_cmp ints_cmp (then_cmp nats_cmp parts_cmp)

part_total : IsTotalOrder part_cmp
part_total = then_total (on_total (λ (p : Part). p.bytes) nat_list_cmp_total) (on_total (λ (p : Part). p.more) bool_cmp_total)

pub key_total : IsTotalOrder key_cmp
key_total =
    then_total (then_total (on_total int_lo int_cmp_total) (on_total int_hi int_cmp_total))
    (then_total (then_total (on_total nat_lo nat_cmp_total) (on_total nat_hi nat_cmp_total))
    (then_total (on_total part_lo part_total) (on_total part_hi part_total)))

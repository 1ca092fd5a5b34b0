-- The order of keys that a split may cut: mixed first, then by family, address, mask and bits in common.
use Rattle.std.specs.Prelude.{ℕ, if◌then◌else◌}
use Rattle.std.specs.Ordering.{nat_cmp, then_cmp, on}
use Rattle.std.specs.Cmp.{IsTotalOrder}
use Rattle.std.specs.declared.cmp.Ordering.{Ordering}
use Rattle.std.proofs.lemmas.Cmp.{nat_cmp_total, then_total, on_total}
use Rattle.gx_class_inet.specs.declared.key.InetKey.{InetKey}
use Rattle.gx_class_inet.specs.declared.key.InetKey.TheVariants.{Mixed, Family}

abbrev pub family_of : InetKey → ℕ
family_of Mixed = 0
family_of (Family k) = if k.v6 then 2 else 1

abbrev pub address_of : InetKey → ℕ
address_of Mixed = 0
address_of (Family k) = k.address

abbrev pub mask_of : InetKey → ℕ
mask_of Mixed = 0
mask_of (Family k) = k.mask

abbrev pub bits_of : InetKey → ℕ
bits_of Mixed = 0
bits_of (Family k) = k.common

abbrev pub key_cmp : InetKey → InetKey → Ordering
key_cmp = then_cmp (then_cmp (on family_of nat_cmp) (on address_of nat_cmp)) (then_cmp (on mask_of nat_cmp) (on bits_of nat_cmp))

pub key_total : IsTotalOrder key_cmp
key_total =
    then_total (then_total (on_total family_of nat_cmp_total) (on_total address_of nat_cmp_total))
    (then_total (on_total mask_of nat_cmp_total) (on_total bits_of nat_cmp_total))

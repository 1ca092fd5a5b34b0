-- The order of keys that a split may cut: from the least, by the least part, then by the greatest.
use Rattle.std.specs.Prelude.{ℕ}
use Rattle.std.specs.Ordering.{then_cmp, on}
use Rattle.std.specs.Cmp.{IsTotalOrder, bool_cmp_total}
use Rattle.std.specs.declared.cmp.Ordering.{Ordering}
use Rattle.std.proofs.lemmas.Cmp.{then_total, on_total}
use Rattle.gx_class_ltree.specs.declared.key.Part.{Part}
use Rattle.gx_class_ltree.specs.declared.key.LtreeKey.{LtreeKey}
use Rattle.gx_class_ltree.specs.Keys.{part_cmp}
use Rattle.gx_class_ltree.specs.Orders.{order_total}

abbrev pub key_cmp : {n : ℕ} → LtreeKey n → LtreeKey n → Ordering
key_cmp = then_cmp (on (λ k. k.low) part_cmp) (on (λ k. k.high) part_cmp)

pub part_total : IsTotalOrder part_cmp
part_total = then_total (on_total (λ (p : Part). p.path) order_total) (on_total (λ (p : Part). p.cut) bool_cmp_total)

pub key_total : (n : ℕ) → IsTotalOrder (key_cmp {n = n})
key_total n = then_total (on_total (λ (k : LtreeKey n). k.low) part_total) (on_total (λ (k : LtreeKey n). k.high) part_total)

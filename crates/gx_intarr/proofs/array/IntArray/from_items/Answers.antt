-- The sorted copy has the same elements.
use Rattle.std.proofs.Common.{◌∙◌}
use Rattle.gx_intarr.proofs.ArrayLemmas.{sorted_copy}
use Rattle.gx_intarr.proofs.array.IntArray.from_items.Goals as goal

pub invariant_of-result : goal.invariant_of-result
invariant_of-result c =
    sorted_copy c.args.items.items c.in_ok-sorted.sorted.items c.sort_unstable.new.self.items (c.in_ok-sorted.ensures.items ∙ c.as_slice.ensures.value) c.sort_unstable.ensures.permutation c.sort_unstable.ensures.sorted

-- The elements of the sorted copy, each once.
use Rattle.std.proofs.Common.{◌∙◌}
use Rattle.gx_intarr.proofs.ArrayLemmas.{distinct_copy}
use Rattle.gx_intarr.proofs.array.IntArray.distinct.Goals as goal

pub returns : goal.returns
returns c = distinct_copy c.args.self.now c.self.inside.items.items c.self.inside.sorted.items c.in_ok-items.items.items c.dedup.new.self.items c.self.view_is (c.in_ok-items.ensures.items ∙ c.as_slice.ensures.value) c.self.invariant c.dedup.ensures.filtered

-- The search in the sorted copy.
use Rattle.gx_intarr.proofs.ArrayLemmas.{has_number}
use Rattle.gx_intarr.proofs.array.IntArray.has.Goals as goal

pub returns : goal.returns
returns c =
    has_number c.args.self.now c.self.inside.items.items c.deref.result.now c.self.inside.sorted.items c.args.number.now c.binary_search.result c.is_ok.result c.self.view_is c.deref.ensures.value c.self.invariant c.binary_search.ensures.bound c.binary_search.ensures.position c.is_ok.ensures.value

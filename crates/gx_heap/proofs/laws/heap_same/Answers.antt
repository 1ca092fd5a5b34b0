use Rattle.gx_heap.proofs.Finds as finds
use Rattle.gx_heap.proofs.laws.heap_same.Goals as goal

pub returns : goal.returns
returns g c = λ old new heap rows feet free map count held. finds.heap_same g.P.Pages old new heap rows feet free map count held

use Rattle.gx_heap.proofs.Standing as standing
use Rattle.gx_heap.proofs.laws.heap_stays.Goals as goal

pub returns : goal.returns
returns g c = λ old new heap rows feet free before after rest held kept apart. standing.heap_stays g.P.Pages old new before free after rest kept heap rows feet held apart

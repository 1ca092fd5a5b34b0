use Rattle.gx_heap.proofs.Standing.{first_foot, last_foot}
use Rattle.gx_heap.proofs.laws.heap_ends.Goals as goal

pub returns-clause-first : goal.returns-clause-first
returns-clause-first g c = λ pages heap rows feet free held. first_foot g.P.Pages pages heap rows feet free held

pub returns-clause-last : goal.returns-clause-last
returns-clause-last g c = λ pages heap rows feet free held. last_foot g.P.Pages pages heap rows feet free held

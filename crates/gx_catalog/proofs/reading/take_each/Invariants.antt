use Rattle.gx_catalog.proofs.Fronts.{Taken}
use Rattle.gx_catalog.proofs.reading.take_each.Given as goal

abbrev pub invariant-loop : goal.invariant-loop
invariant-loop l = Taken l.bytes l.columns l.rest l.counter

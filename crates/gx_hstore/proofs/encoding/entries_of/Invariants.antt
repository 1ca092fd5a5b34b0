use Rattle.std.proofs.Common.{length}
use Rattle.gx_hstore.specs.Encoding.{IsEncoded}
use Rattle.gx_hstore.proofs.Progress.{Continues}
use Rattle.gx_hstore.proofs.encoding.entries_of.Given as goal

abbrev pub invariant-entries : goal.invariant-entries
invariant-entries l = Continues IsEncoded l.bytes l.pairs.items l.rest

abbrev pub decreases-entries : goal.decreases-entries
decreases-entries l = length l.rest

use Rattle.std.proofs.Common.{length}
use Rattle.gx_query.proofs.narrow.+narrow.Given as goal

abbrev pub decreases-narrow : goal.decreases-narrow
decreases-narrow l = length l.wanted.now

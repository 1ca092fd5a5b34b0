use Rattle.std.proofs.Common.{take}
use Rattle.gx_hstore.specs.Encoding.{AppendsEncoded}
use Rattle.gx_hstore.proofs.hstore.Hstore.encode.Given as goal

abbrev pub invariant-loop-pair : goal.invariant-loop-pair
invariant-loop-pair l = AppendsEncoded l.initial.to l.to (take l.pair-index l.pair-items)

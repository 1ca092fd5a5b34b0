use Rattle.std.proofs.Common.{take}
use Rattle.gx_catalog.proofs.Placed.{EndsWith}
use Rattle.gx_catalog.proofs.place.page_before.Given as goal

abbrev pub invariant-loop-foot : goal.invariant-loop-foot
invariant-loop-foot l = EndsWith (take l.foot-index l.feet) l.before

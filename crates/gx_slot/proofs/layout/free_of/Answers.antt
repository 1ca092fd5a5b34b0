use Rattle.std.proofs.Common.{arith}
use Rattle.gx_slot.proofs.layout.free_of.Goals as goal

pub returns : goal.returns
returns c = let h = c.requires.spelled.fits.room in let a = c.count_of.ensures in let b = c.start_of-start.ensures in omega arith

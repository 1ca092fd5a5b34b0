use Rattle.gx_pages.proofs.Rising.{rising_take}
use Rattle.gx_pages.proofs.bitmap.Bitmap.truncate.Goals as goal

pub invariant_of-self : goal.invariant_of-self
invariant_of-self c = rw c.truncate.ensures.items (rising_take c.args.len _ c.self.invariant)

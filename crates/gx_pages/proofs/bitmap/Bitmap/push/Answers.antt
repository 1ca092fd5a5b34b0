use Rattle.gx_pages.proofs.Rising.{rising_push}
use Rattle.gx_pages.proofs.bitmap.Bitmap.push.Goals as goal

pub invariant_of-self-2 : goal.invariant_of-self-2
invariant_of-self-2 c = rw c.in_ok-push.ensures.items (rising_push _ _ c.self.invariant (rw c.self.view_is c.requires))

use Rattle.std.proofs.Common.{◌≡◌, ℕ, length}
use Rattle.std.specs.BTreeMap.{get}
use Rattle.std.specs.Ordering.{nat_cmp}
use Rattle.gx_log.specs.Records.{page_in}
use Rattle.gx_pager.specs.Layers.{over, shown}
use Rattle.gx_pager.proofs.open.keep_all.Given as goal

abbrev pub invariant-loop-page : goal.invariant-loop-page
invariant-loop-page l = (n : ℕ) → over (page_in (get nat_cmp l.images n)) (shown (get nat_cmp l.kept n)) ≡ page_in (get nat_cmp l.fn.images n)

abbrev pub decreases-loop-page : goal.decreases-loop-page
decreases-loop-page l = length l.images.entries

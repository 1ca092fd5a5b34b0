use Rattle.std.proofs.Common.{◌≡◌, ℕ, true, is_some, length}
use Rattle.std.specs.BTreeMap.{get}
use Rattle.std.specs.Ordering.{nat_cmp}
use Rattle.gx_log.specs.Records.{page_in}
use Rattle.gx_pager.specs.Layers.{over, shown}
use Rattle.gx_pager.proofs.layers.settle_pages.Given as goal

abbrev pub invariant-loop-page : goal.invariant-loop-page
invariant-loop-page l =
    ((n : ℕ) → is_some (get nat_cmp l.unit n) ≡ true → is_some (get nat_cmp l.kept n) ≡ true)
    × ((n : ℕ) → over (page_in (get nat_cmp l.unit n)) (shown (get nat_cmp l.kept n)) ≡ over (page_in (get nat_cmp l.fn.unit n)) (shown (get nat_cmp l.fn.kept n)))

abbrev pub decreases-loop-page : goal.decreases-loop-page
decreases-loop-page l = length l.unit.entries

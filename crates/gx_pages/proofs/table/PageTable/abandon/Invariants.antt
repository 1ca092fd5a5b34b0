use Rattle.std.proofs.Common.{◌≡◌, length}
use Rattle.gx_pages.specs.Tables.{was_at}
use Rattle.gx_pages.proofs.table.PageTable.abandon.Given as goal

abbrev pub invariant-loop-page : goal.invariant-loop-page
invariant-loop-page l = (was_at l.self ≡ was_at l.fn.self) × (l.self.committed_count ≡ l.fn.self.committed_count)

abbrev pub decreases-loop-page : goal.decreases-loop-page
decreases-loop-page l = length l.self.saved.entries

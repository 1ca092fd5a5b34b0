use Rattle.gx_pages.specs.Tables.{was_at}
use Rattle.gx_pages.proofs.Maps.{counted_same}
use Rattle.gx_pages.proofs.memory.MemoryPagesPages.give.Goals as goal

pub invariant_of-self : goal.invariant_of-self
invariant_of-self c =
    let old = c.args.self.now in
    let new = c.give_page.new.table in
    record {
      counted = c.give_page.ensures.counted;
      committed_counted = counted_same (was_at old.table) (was_at new) old.table.committed_count new.committed_count c.give_page.ensures.was c.give_page.ensures.committed old.committed_counted;
    }

use Rattle.gx_pages.specs.Tables.{now_at, was_at}
use Rattle.gx_pages.proofs.Maps.{counted_same}
use Rattle.gx_pages.proofs.memory.MemoryPagesStore.abandon.Goals as goal

pub invariant_of-self : goal.invariant_of-self
invariant_of-self c =
    let old = c.args.self.now in
    let new = c.abandon.new.self in
    record {
      counted = counted_same (was_at old.table) (now_at new) old.table.committed_count new.count c.abandon.ensures.now c.abandon.ensures.count old.committed_counted;
      committed_counted = counted_same (was_at old.table) (was_at new) old.table.committed_count new.committed_count c.abandon.ensures.was c.abandon.ensures.committed old.committed_counted;
    }

use Rattle.gx_pages.specs.Tables.{now_at, was_at}
use Rattle.gx_pages.proofs.Maps.{counted_same}
use Rattle.gx_pages.proofs.memory.MemoryPagesStore.commit.Goals as goal

pub invariant_of-self : goal.invariant_of-self
invariant_of-self c =
    let old = c.args.self.now in
    let new = c.commit.new.self in
    record {
      counted = counted_same (now_at old.table) (now_at new) old.table.count new.count c.commit.ensures.now c.commit.ensures.count old.counted;
      committed_counted = counted_same (now_at old.table) (was_at new) old.table.count new.committed_count c.commit.ensures.was c.commit.ensures.committed old.counted;
    }

use Rattle.std.proofs.Common.{◌∙◌, ap, arith}
use Rattle.gx_pages.specs.Contents.{Contents, with_bytes}
use Rattle.gx_pages.specs.Tables.{now_at, was_at}
use Rattle.gx_pages.proofs.Maps.{map_one, counted_other, counted_same}
use Rattle.gx_pages.proofs.memory.MemoryPagesPages.put.Goals as goal

pub invariant_of-self : goal.invariant_of-self
invariant_of-self c =
    let old = c.args.self.now in
    let new = c.open.new.self in
    record {
      counted = counted_same (now_at old.table) (now_at new) old.table.count new.count c.open.ensures.now c.open.ensures.count old.counted;
      committed_counted = counted_same (was_at old.table) (was_at new) old.table.committed_count new.committed_count c.open.ensures.was c.open.ensures.committed old.committed_counted;
    }

pub invariant_of-self-2 : goal.invariant_of-self-2
invariant_of-self-2 c =
    let old = c.args.self.now in
    let new = c.write.new.self in
    let now = c.write.ensures.now ∙ ap (λ (contents : Contents). with_bytes contents c.args.page c.args.from.now) c.open.ensures.now in
    record {
      counted = counted_other (now_at old.table) (now_at new) old.table.count new.count c.args.page c.args.from.now now (c.write.ensures.count ∙ c.open.ensures.count) c.requires old.counted;
      committed_counted = counted_same (was_at old.table) (was_at new) old.table.committed_count new.committed_count (c.write.ensures.was ∙ c.open.ensures.was) (c.write.ensures.committed ∙ c.open.ensures.committed) old.committed_counted;
    }

pub returns-clause-map : goal.returns-clause-map
returns-clause-map c = λ told.
    let old = c.args.self.now in
    let new = c.write.new.self in
    let now = c.write.ensures.now ∙ ap (λ (contents : Contents). with_bytes contents c.args.page c.args.from.now) c.open.ensures.now in
    map_one (now_at old.table) (now_at new) old.table.count new.count c.args.page c.args.from.now (c.write.ensures.count ∙ c.open.ensures.count) now (omega arith)

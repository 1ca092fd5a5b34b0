use Rattle.std.proofs.Common.{◌≡◌, ℕ, List, length, replicate, refl, sym, ◌∙◌, ap, subst, arith}
use Rattle.gx_pages.specs.Contents.{IsCounted, given}
use Rattle.gx_pages.specs.Frees.{HasCount}
use Rattle.gx_pages.specs.Tables.{now_at, was_at}
use Rattle.gx_pages.proofs.Giving.{first_given}
use Rattle.gx_pages.proofs.Maps.{counted_same, map_same}
use Rattle.gx_pages.proofs.memory.MemoryPages.with.Goals as goal

pub invariant_of-result : goal.invariant_of-result
invariant_of-result c =
    let table = c.new-table.result in
    let e = c.new-table.ensures in
    let pages = c.args.pages.now in
    let now : now_at table ≡ given pages = λ i n. (e.now n ∙ c.in_ok-laid.ensures n) i in
    let header = subst (λ (h : List ℕ). HasCount h c.args.count) (sym (first_given pages (replicate 8192 0) c.requires.some)) c.requires.header in
    let counted : IsCounted (given pages) c.args.count = record { some = omega (arith, c.requires.some, c.requires.room); bounded = c.requires.most; header = header } in
    record {
      counted = counted_same (given pages) (now_at table) c.args.count table.count now e.count counted;
      committed_counted = counted_same (given pages) (was_at table) c.args.count table.committed_count (e.was ∙ now) e.committed counted;
    }

pub returns : goal.returns
returns c =
    let table = c.new-table.result in
    let e = c.new-table.ensures in
    let pages = c.args.pages.now in
    let now : now_at table ≡ given pages = λ i n. (e.now n ∙ c.in_ok-laid.ensures n) i in
    record {
      now = map_same (given pages) (now_at table) c.args.count table.count now e.count;
      committed = map_same (given pages) (was_at table) c.args.count table.committed_count (e.was ∙ now) e.committed;
      counted = e.count;
      committed_counted = e.committed;
      begun = refl;
      fetches = refl;
      heap_fetches = refl;
      moment = ap length c.new.ensures;
    }

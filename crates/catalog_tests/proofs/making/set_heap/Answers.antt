use Rattle.std.proofs.Common.{sym}
use Rattle.catalog_tests.proofs.making.set_heap.Goals as goal

pub set_heap-requires-clause-there : goal.set_heap-requires-clause-there
set_heap-requires-clause-there c =
    let found = c.found_among.ensures.numbered c.args.table c.args.catalog.now.tables c.in-Some.info.now (sym c.in-Some.ensures) in
    (c.in-Some.info.now, found.0, found.1)

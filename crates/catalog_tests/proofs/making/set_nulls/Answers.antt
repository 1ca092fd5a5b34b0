use Rattle.std.proofs.Common.{sym}
use Rattle.catalog_tests.proofs.making.set_nulls.Goals as goal

pub set_nulls-requires : goal.set_nulls-requires
set_nulls-requires c =
    let found = c.found_among.ensures.index c.args.name.now c.args.catalog.now.indexes c.in-Some._index.now (sym c.in-Some.ensures) in
    (c.in-Some._index.now, found.0, found.1)

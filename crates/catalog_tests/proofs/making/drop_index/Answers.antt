use Rattle.std.proofs.Common.{sym}
use Rattle.catalog_tests.proofs.making.drop_index.Goals as goal

pub drop_index-requires : goal.drop_index-requires
drop_index-requires c =
    let found = c.found_among.ensures.index c.args.name.now c.args.catalog.now.indexes c.in-Some._index.now (sym c.in-Some.ensures) in
    (c.in-Some._index.now, found.0, found.1)

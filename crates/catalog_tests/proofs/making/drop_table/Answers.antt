use Rattle.std.proofs.Common.{◌≡◌, List, sym, ◌∙◌, subst}
use Rattle.gx_catalog.specs.declared.info.IndexInfo.{IndexInfo}
use Rattle.gx_catalog.specs.Validity.{count_on}
use Rattle.catalog_tests.proofs.making.drop_table.Goals as goal

pub drop_table-requires-clause-bare : goal.drop_table-requires-clause-bare
drop_table-requires-clause-bare c =
    c.none_counted.ensures.bare c.args.table c.args.catalog.now.indexes
    (subst (λ (l : List IndexInfo). count_on c.args.table l ≡ 0) c.indexes.ensures.value (sym c.count_on.ensures ∙ c.if-count_on-ne0.false))

pub drop_table-requires-clause-there : goal.drop_table-requires-clause-there
drop_table-requires-clause-there c =
    let found = c.found_among.ensures.numbered c.args.table c.args.catalog.now.tables c.in-Some._table.now (sym c.in-Some.ensures) in
    (c.in-Some._table.now, found.0, found.1)

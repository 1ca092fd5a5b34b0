use Rattle.std.proofs.Common.{◌≡◌, ℕ, List, length, None, sym, ap, subst, arith}
use Rattle.gx_catalog.specs.declared.info.TableInfo.{TableInfo}
use Rattle.gx_catalog.specs.Validity.{table_named}
use Rattle.catalog_tests.proofs.making.add_table.Goals as goal

pub add_table-requires : goal.add_table-requires
add_table-requires c =
    let next = c.in_ok-heap.ensures.next in
    let info : TableInfo = record { name = c.in-Ok.name; number = c.free_number-number.result; columns = c.in-Ok-one_column.columns; heap = c.in_ok-heap.heap } in
    c.one_more_table.ensures c.args.catalog.now.tables c.args.catalog.now.indexes info c.tables.ensures.valid
    (let done = c.if-tables-ge256.false in let same = ap (λ (l : List TableInfo). length l) c.tables.ensures.value in omega (arith, done, same))
    (record {
      name = (let small = c.if-name-gt63.false in let same = ap (λ (l : List ℕ). length l) c.in-Ok.ensures in omega (arith, small, same));
      columns = c.in-Ok-one_column.ensures;
      heap = record { some = omega (arith, next); most = omega (arith, next) };
    })
    (subst (λ (k : List ℕ). table_named k c.args.catalog.now.tables ≡ None) (sym c.in-Ok.ensures) (sym c.in_default.ensures))
    c.free_number-number.ensures.free

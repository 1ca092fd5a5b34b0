use Rattle.std.proofs.Common.{◌≤◌, length, arith}
use Rattle.gx_catalog.proofs.TailFacts.{catalog_new, new_catalog, not_true}
use Rattle.gx_catalog.proofs.validity.are_catalog.Goals as goal

pub returns-then-not-are_tables : goal.returns-then-not-are_tables
returns-then-not-are_tables c = (λ never. cc, λ are. absurd (not_true c.are_tables.result c.if-not-are_tables.true (c.are_tables.ensures.1 (new_catalog c.args.tables.now c.args.indexes.now are).0)))

pub returns : goal.returns
returns c = (
  λ yes. catalog_new c.args.tables.now c.args.indexes.now (let few : length c.args.tables.now ≤ 256 = omega arith in few) (c.are_tables.ensures.0 c.if-not-are_tables.false) (c.are_indexes.ensures.0 yes),
  λ are. c.are_indexes.ensures.1 (new_catalog c.args.tables.now c.args.indexes.now are).1,
)

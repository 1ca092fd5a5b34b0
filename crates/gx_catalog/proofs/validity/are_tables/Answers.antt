use Rattle.std.proofs.Common.{refl}
use Rattle.gx_catalog.specs.Tails.{IsNewTable}
use Rattle.gx_catalog.proofs.TailFacts.{not_true, peel_end, peel_more, peel_stop}
use Rattle.gx_catalog.proofs.validity.are_tables.Goals as goal

pub returns-then-not-is_new_table : goal.returns-then-not-is_new_table
returns-then-not-is_new_table c = (
  λ never. cc,
  λ are. absurd (peel_stop (IsNewTable c.args.indexes.now) c.args.tables.now c.loop-table.rest.now c.in-Some.others.now c.in-Some.table.now c.loop-table.invariant c.in-Some.ensures.cases.0
      (λ holds. not_true c.is_new_table.result c.if-not-is_new_table.true (c.is_new_table.ensures.1 holds)) are),
)

pub loop-table-preserved : goal.loop-table-preserved
loop-table-preserved c =
    peel_more (IsNewTable c.args.indexes.now) c.args.tables.now c.loop-table.rest.now c.in-Some.others.now c.in-Some.table.now c.loop-table.invariant c.in-Some.ensures.cases.0
    (c.is_new_table.ensures.0 c.if-not-is_new_table.false)

pub returns : goal.returns
returns c = (λ always. peel_end (IsNewTable c.args.indexes.now) c.args.tables.now c.loop-table.rest.now c.loop-table.invariant c.in_default.ensures.cases, λ are. refl)

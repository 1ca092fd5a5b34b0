use Rattle.std.proofs.Common.{refl}
use Rattle.gx_catalog.specs.Tails.{IsNewColumn}
use Rattle.gx_catalog.proofs.TailFacts.{not_true, peel_end, peel_more, peel_stop}
use Rattle.gx_catalog.proofs.validity.are_new_columns.Goals as goal

pub returns-then-not-is_new_column : goal.returns-then-not-is_new_column
returns-then-not-is_new_column c = (
  λ never. cc,
  λ are. absurd (peel_stop (IsNewColumn) c.args.columns.now c.loop-column.rest.now c.in-Some.others.now c.in-Some.column.now c.loop-column.invariant c.in-Some.ensures.cases.0
      (λ holds. not_true c.is_new_column.result c.if-not-is_new_column.true (c.is_new_column.ensures.1 holds)) are),
)

pub loop-column-preserved : goal.loop-column-preserved
loop-column-preserved c =
    peel_more (IsNewColumn) c.args.columns.now c.loop-column.rest.now c.in-Some.others.now c.in-Some.column.now c.loop-column.invariant c.in-Some.ensures.cases.0
    (c.is_new_column.ensures.0 c.if-not-is_new_column.false)

pub returns : goal.returns
returns c = (λ always. peel_end (IsNewColumn) c.args.columns.now c.loop-column.rest.now c.loop-column.invariant c.in_default.ensures.cases, λ are. refl)

use Rattle.std.proofs.Common.{refl}
use Rattle.gx_catalog.specs.Tails.{IsNewIndex}
use Rattle.gx_catalog.proofs.TailFacts.{not_true, peel_end, peel_more, peel_stop}
use Rattle.gx_catalog.proofs.validity.are_indexes.Goals as goal

pub returns-then-not-is_new_index : goal.returns-then-not-is_new_index
returns-then-not-is_new_index c = (
  λ never. cc,
  λ are. absurd (peel_stop (IsNewIndex c.args.tables.now) c.args.indexes.now c.loop-index.rest.now c.in-Some.others.now c.in-Some.index.now c.loop-index.invariant c.in-Some.ensures.cases.0
      (λ holds. not_true c.is_new_index.result c.if-not-is_new_index.true (c.is_new_index.ensures.1 holds)) are),
)

pub loop-index-preserved : goal.loop-index-preserved
loop-index-preserved c =
    peel_more (IsNewIndex c.args.tables.now) c.args.indexes.now c.loop-index.rest.now c.in-Some.others.now c.in-Some.index.now c.loop-index.invariant c.in-Some.ensures.cases.0
    (c.is_new_index.ensures.0 c.if-not-is_new_index.false)

pub returns : goal.returns
returns c = (λ always. peel_end (IsNewIndex c.args.tables.now) c.args.indexes.now c.loop-index.rest.now c.loop-index.invariant c.in_default.ensures.cases, λ are. refl)

-- The prefixes are tried one by one.
use Rattle.std.proofs.Common.{arith}
use Rattle.gx_class_ltree.specs.Tests.{between, equal_may}
use Rattle.gx_class_ltree.proofs.PrefixFacts.{found_here, not_here, last_here}
use Rattle.gx_class_ltree.proofs.tests_of_paths.equal_may.Goals as goal

pub returns-then-between : goal.returns-then-between
returns-then-between c =
    found_here (between c.args.low.now c.args.high.now) c.args.path.now c.loop-count.count (equal_may c.args.low.now c.args.high.now c.args.path.now) c.between.result (omega (arith, c.loop-count-test.true)) c.loop-count.invariant
    c.between.ensures c.if-between.true

pub loop-count-preserved : goal.loop-count-preserved
loop-count-preserved c =
    not_here (between c.args.low.now c.args.high.now) c.args.path.now c.loop-count.count (equal_may c.args.low.now c.args.high.now c.args.path.now) c.between.result (omega (arith, c.loop-count-test.true)) c.loop-count.invariant
    c.between.ensures c.if-between.false

pub returns : goal.returns
returns c =
    last_here (between c.args.low.now c.args.high.now) c.args.path.now c.loop-count.count (equal_may c.args.low.now c.args.high.now c.args.path.now) c.between-2.result
    (omega (arith, c.loop-count-test.false, c.loop-count.auto.count-end)) c.loop-count.invariant c.between-2.ensures

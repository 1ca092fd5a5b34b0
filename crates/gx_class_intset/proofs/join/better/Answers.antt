-- By both gaps.
use Rattle.gx_class_intset.specs.Intervals.{gaps}
use Rattle.gx_class_intset.proofs.JoinFacts.{better_behind, better_here}
use Rattle.gx_class_intset.proofs.join.better.Goals as goal

pub returns-then-gap_at-clause-place : goal.returns-then-gap_at-clause-place
returns-then-gap_at-clause-place c =
    better_behind (gaps c.args.intervals.now) c.args.at c.args.best c.gap_at-2.result c.gap_at.result c.gap_at-2.ensures c.gap_at.ensures c.requires.best c.if-gap_at.true

pub returns-else-gap_at-clause-place : goal.returns-else-gap_at-clause-place
returns-else-gap_at-clause-place c =
    better_here (gaps c.args.intervals.now) c.args.at c.args.best c.gap_at-2.result c.gap_at.result c.gap_at-2.ensures c.gap_at.ensures c.requires.best c.if-gap_at.false

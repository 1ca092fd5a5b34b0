use Rattle.std.proofs.Common.{refl, sym, ◌∙◌}
use Rattle.gx_lexer.proofs.FeedFacts.{front_begins, front_here, front_past, front_again, front_whole}
use Rattle.gx_lexer.proofs.cutter.front.Goals as goal

pub loop-i-init : goal.loop-i-init
loop-i-init c = front_begins c.args.mode c.args.bytes.now

pub loop-i-preserved : goal.loop-i-preserved
loop-i-preserved c =
    front_again c.args.mode c.args.bytes.now c.loop-i.i c.loop-i.open c.mode_after-open.result c.loop-i-test.true (sym c.ends.ensures ∙ c.if-ends.false) c.mode_after-open.ensures c.loop-i.invariant

pub returns-then-ends-clause-len : goal.returns-then-ends-clause-len
returns-then-ends-clause-len c = front_here c.args.mode c.args.bytes.now c.loop-i.i c.loop-i.open _ c.loop-i-test.true refl (sym c.ends.ensures ∙ c.if-ends.true) c.loop-i.invariant

pub returns-then-ends-clause-mode : goal.returns-then-ends-clause-mode
returns-then-ends-clause-mode c = c.loop-i.invariant.open_is

pub returns-clause-len : goal.returns-clause-len
returns-clause-len c = front_past c.args.mode c.args.bytes.now c.loop-i.i c.loop-i.open c.loop-i-test.false c.loop-i.auto.i-end c.loop-i.invariant

pub returns-clause-mode : goal.returns-clause-mode
returns-clause-mode c = front_whole c.args.mode c.args.bytes.now c.loop-i.i c.loop-i.open c.loop-i-test.false c.loop-i.invariant

-- Each element is looked up.
use Rattle.std.proofs.Common.{refl, sym, true≢false, pos, get_or}
use Rattle.gx_intarr.proofs.ArrayLemmas.{not_each, one_found, all_found}
use Rattle.gx_intarr.proofs.array.IntArray.contains.Goals as goal

pub returns-then-not-has : goal.returns-then-not-has
returns-then-not-has c = (
  λ wrong. absurd (true≢false (sym wrong)),
  λ each. absurd (not_each c.args.self.now c.args.other.now c.items-number-items.result.now (get_or c.items-number-items.result.now c.loop-number.number-index (pos 0)) c.loop-number.number-index c.has.result c.items-number-items.ensures c.loop-number-test.true refl c.has.ensures c.if-not-has.true each),
)

pub loop-number-preserved : goal.loop-number-preserved
loop-number-preserved c =
    one_found c.args.self.now c.items-number-items.result.now (get_or c.items-number-items.result.now c.loop-number.number-index (pos 0)) c.loop-number.number-index c.has.result c.loop-number.invariant c.loop-number-test.true refl c.has.ensures c.if-not-has.false

pub returns : goal.returns
returns c = (λ _. all_found c.args.self.now c.args.other.now c.items-number-items.result.now c.loop-number.number-index c.loop-number.invariant c.loop-number-test.false c.items-number-items.ensures, λ _. refl)

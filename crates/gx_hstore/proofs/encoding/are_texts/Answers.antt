-- A pair that isn't text, and one more that is.
use Rattle.std.proofs.Common.{refl, sym, subst, true≢false, arith}
use Rattle.std.proofs.lemmas.List.Elements.{AllWithin-more, at_read}
use Rattle.gx_hstore.specs.Map.{IsTextPair}
use Rattle.gx_hstore.proofs.encoding.are_texts.Goals as goal

pub returns-then-not-is_text_pair : goal.returns-then-not-is_text_pair
returns-then-not-is_text_pair c =
    (λ t. absurd (true≢false (sym t)), λ all. c.if-not-is_text_pair.ensures.1 (subst IsTextPair (sym c.pair-item.is) (all c.loop-pair.pair-index c.pair-item.result c.loop-pair-test.true)))

pub loop-pair-preserved : goal.loop-pair-preserved
loop-pair-preserved c =
    AllWithin-more IsTextPair c.args.pairs.now 0 c.loop-pair.pair-index c.loop-pair.invariant
    (at_read c.args.pairs.now IsTextPair c.loop-pair.pair-index c.pair-item.result c.loop-pair-test.true c.pair-item.is (c.is_text_pair.ensures.0 c.if-not-is_text_pair.false))

pub returns : goal.returns
returns c = (λ _ k d within. c.loop-pair.invariant k d (omega arith) (omega arith), λ _. refl)

-- One entry more.
use Rattle.gx_hstore.proofs.EncodingLemmas.{entry_appended_at}
use Rattle.gx_hstore.proofs.hstore.Hstore.encode.Goals as goal

pub loop-pair-preserved : goal.loop-pair-preserved
loop-pair-preserved c =
    entry_appended_at c.args.to.now c.loop-pair.to c.encode_pair.new.to c.pairs-pair-items.result.now c.loop-pair.pair-index c.pair-item.result c.loop-pair-test.true c.pair-item.is c.loop-pair.invariant c.in_ok-encode_pair.ensures

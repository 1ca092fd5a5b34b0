use Rattle.gx_lexer.proofs.ScanFacts.{folded_more}
use Rattle.gx_lexer.proofs.scan.folded_word.Goals as goal

pub loop-i-preserved : goal.loop-i-preserved
loop-i-preserved c = folded_more c.loop-i.word c.args.others.now c.args.first c.loop-i.i c.folded-in-loop-i.result c.requires c.loop-i-test.true c.folded-in-loop-i.ensures c.loop-i.invariant

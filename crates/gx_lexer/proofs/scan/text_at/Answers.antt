use Rattle.gx_lexer.proofs.ScanFacts.{text_plain}
use Rattle.gx_lexer.proofs.scan.text_at.Goals as goal

pub returns-in_ok-text-clause-found : goal.returns-in_ok-text-clause-found
returns-in_ok-text-clause-found c =
    text_plain c.args.after.now c.in_ok-text.text c.unquoted_len-n.result c.begins.result c.unquoted_len-n.ensures.len c.if-n-after.true c.begins.ensures c.if-not-begins.true c.in_ok-text.ensures

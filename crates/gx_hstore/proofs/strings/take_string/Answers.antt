-- A string in quotes, and a word.
use Rattle.std.proofs.lemmas.Result.{IfOk-weaker}
use Rattle.gx_hstore.proofs.Progress.{match_weaker}
use Rattle.gx_hstore.proofs.PairLemmas.{quoted_string, no_quoted, word_string, no_word_string}
use Rattle.gx_hstore.proofs.strings.take_string.Goals as goal

pub returns-in-Some : goal.returns-in-Some
returns-in-Some c =
    IfOk-weaker c.take_quoted.result _ _
    (λ r m. match_weaker r m (no_quoted c.args.text.now c.in-Some.inner.now c.in-Some.ensures) (λ x t. quoted_string c.args.text.now c.in-Some.inner.now x.0.bytes x.1.now x.0.quoted c.in-Some.ensures t))
    c.take_quoted.ensures

pub returns-in-None : goal.returns-in-None
returns-in-None c =
    IfOk-weaker c.take_word.result _ _
    (λ r m. match_weaker r m (no_word_string c.args.text.now c.in-None.ensures) (λ x t. word_string c.args.text.now x.0.bytes x.1.now x.0.quoted t))
    c.take_word.ensures

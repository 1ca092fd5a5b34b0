-- The first element that is refused, one query more, and the end.
use Rattle.std.proofs.Common.{◌≡◌, ◌++◌, ◌∷◌, [], rules}
use Rattle.std.proofs.lemmas.Result.{err_from_is_err_and}
use Rattle.gx_opr.proofs.QueryLemmas.{query_read, query_refused, queries_read, valid_more}
use Rattle.gx_opr.proofs.text.queries_of.Goals as goal

pub returns-in_err-query-clause-answers : goal.returns-in_err-query-clause-answers
returns-in_err-query-clause-answers c =
    let p = err_from_is_err_and c.from_residual.result c.from_residual.ensures.1 in
    rw (p.1, p.2) (query_refused c.args.texts.now c.loop-text.text-index c.text-item.result c.as_slice.result.now c.loop-text.queries c.in_err-query.field-0.0 c.loop-text-test.true c.text-item.is c.as_slice.ensures c.loop-text.invariant.0 c.in_err-query.ensures.answers)

pub loop-text-preserved : goal.loop-text-preserved
loop-text-preserved c =
    let pushed : c.push.new.self ≡ c.loop-text.queries ++ c.in_ok-query.query ∷ [] = search rules in (
      query_read c.args.texts.now c.loop-text.text-index c.text-item.result c.as_slice.result.now c.loop-text.queries c.push.new.self c.in_ok-query.query c.loop-text-test.true c.text-item.is c.as_slice.ensures c.loop-text.invariant.0 c.in_ok-query.ensures.answers pushed,
      valid_more c.loop-text.queries c.push.new.self c.in_ok-query.query pushed c.loop-text.invariant.1 c.in_ok-query.ensures.valid,
    )

pub returns-clause-answers : goal.returns-clause-answers
returns-clause-answers c = queries_read c.args.texts.now c.loop-text.text-index c.loop-text.queries c.loop-text-test.false c.loop-text.invariant.0

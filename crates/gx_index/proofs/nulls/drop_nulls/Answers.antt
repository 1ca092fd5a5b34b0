use Rattle.std.proofs.lemmas.Result.{on_ok_weaker}
use Rattle.gx_index.proofs.NullRows.{broken_weaker, posting_of}
use Rattle.gx_index.proofs.nulls.drop_nulls.Goals as goal

pub returns-clause-dropped : goal.returns-clause-dropped
returns-clause-dropped g c =
    on_ok_weaker c.drop_all.result (λ dropped tells rows feet free held.
    dropped tells rows feet free (posting_of g.P.Pages c.args.pages.now c.at.result.page c.args.nulls rows feet free c.at.ensures c.if-nulls-eq0.false held)) c.drop_all.ensures.dropped

pub returns-clause-cause : goal.returns-clause-cause
returns-clause-cause g c =
    broken_weaker c.drop_all.result _ _ _ _ _ _ (λ at x y none tells rows feet free held.
    none tells rows feet free (posting_of g.P.Pages c.args.pages.now c.at.result.page c.args.nulls rows feet free c.at.ensures c.if-nulls-eq0.false held)) c.drop_all.ensures.cause

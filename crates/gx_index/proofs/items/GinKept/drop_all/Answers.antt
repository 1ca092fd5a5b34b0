use Rattle.std.proofs.lemmas.Result.{on_ok_weaker}
use Rattle.gx_index.proofs.ItemRows.{gin_of}
use Rattle.gx_index.proofs.NullRows.{broken_weaker, never_broken}
use Rattle.gx_index.proofs.items.GinKept.drop_all.Goals as goal

pub returns-clause-dropped : goal.returns-clause-dropped
returns-clause-dropped g c =
    let class = c.args.self.class in
    let root = c.args.self.root in
    let datum = g.C.ItemClass.datum in
    on_ok_weaker c.drop_all.result (λ dropped tells rows feet free b. dropped tells b.held.lists feet free (gin_of g.C.GinClass class datum g.P.Pages root rows feet free c.args.pages.now b)) c.drop_all.ensures.dropped

pub returns-clause-cause : goal.returns-clause-cause
returns-clause-cause g c =
    let class = c.args.self.class in
    let root = c.args.self.root in
    let datum = g.C.ItemClass.datum in
    broken_weaker c.drop_all.result _ _ _ _ _ _ (λ at x y none tells rows feet free b. none tells b.held.lists feet free (gin_of g.C.GinClass class datum g.P.Pages root rows feet free c.args.pages.now b)) c.drop_all.ensures.cause

pub returns-clause-heap : goal.returns-clause-heap
returns-clause-heap g c tells rows feet free b =
    let class = c.args.self.class in
    let root = c.args.self.root in
    let datum = g.C.ItemClass.datum in
    c.drop_all.ensures.heap (never_broken c.drop_all.result _ _ _ _ _ (λ at x y none. none tells b.held.lists feet free (gin_of g.C.GinClass class datum g.P.Pages root rows feet free c.args.pages.now b)) c.drop_all.ensures.cause)

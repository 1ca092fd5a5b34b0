use Rattle.std.proofs.lemmas.Result.{on_ok_weaker}
use Rattle.gx_index.proofs.ItemRows.{gin_of, some_less}
use Rattle.gx_index.proofs.NullRows.{broken_weaker, never_broken}
use Rattle.gx_index.proofs.items.GinKept.remove.Goals as goal

pub returns-clause-removed : goal.returns-clause-removed
returns-clause-removed g c =
    let class = c.args.self.now.class in
    let root = c.args.self.now.root in
    let datum = g.C.ItemClass.datum in
    on_ok_weaker c.remove_rows.result (λ removed tells rows feet free b.
    let done = removed tells b.held.lists feet free (gin_of g.C.GinClass class datum g.P.Pages root rows feet free c.args.pages.now b) b.held.values b.held.index in
    (done.1, done.2, some_less g.C.GinClass class datum g.P.Pages root rows feet free c.args.pages.now c.remove_rows.new.pages b c.args.gone.now done.0 done.1 done.2 done.3 done.5, done.4)) c.remove_rows.ensures.removed

pub returns-clause-cause : goal.returns-clause-cause
returns-clause-cause g c =
    let class = c.args.self.now.class in
    let root = c.args.self.now.root in
    let datum = g.C.ItemClass.datum in
    broken_weaker c.remove_rows.result _ _ _ _ _ _ (λ at x y none tells rows feet free b. none tells b.held.lists feet free (gin_of g.C.GinClass class datum g.P.Pages root rows feet free c.args.pages.now b)) c.remove_rows.ensures.cause

pub returns-clause-heap : goal.returns-clause-heap
returns-clause-heap g c tells rows feet free b =
    let class = c.args.self.now.class in
    let root = c.args.self.now.root in
    let datum = g.C.ItemClass.datum in
    c.remove_rows.ensures.heap (never_broken c.remove_rows.result _ _ _ _ _ (λ at x y none. none tells b.held.lists feet free (gin_of g.C.GinClass class datum g.P.Pages root rows feet free c.args.pages.now b)) c.remove_rows.ensures.cause)

use Rattle.std.proofs.Common.{ap, arith}
use Rattle.std.proofs.lemmas.Result.{on_ok_weaker}
use Rattle.gx_value.specs.Values.{Datum}
use Rattle.gx_candidates.specs.Candidates.{entries_of}
use Rattle.gx_index.proofs.ItemRows.{below_of, gin_of, one_more}
use Rattle.gx_index.proofs.NullRows.{broken_weaker, never_broken}
use Rattle.gx_index.proofs.items.GinKept.put.Goals as goal

pub returns-clause-put : goal.returns-clause-put
returns-clause-put g c =
    let class = c.args.self.now.class in
    let root = c.args.self.now.root in
    let datum = g.C.ItemClass.datum in
    on_ok_weaker c.insert.result (λ put tells rows feet free b below.
    let done = put tells b.held.lists feet free (gin_of g.C.GinClass class datum g.P.Pages root rows feet free c.args.pages.now b) b.held.values b.held.index (below_of g.C.GinClass class datum g.P.Pages root rows feet free c.args.pages.now b c.args.row.number below) in
    (done.1, done.2, one_more g.C.GinClass class datum g.P.Pages root rows feet free c.args.pages.now c.insert.new.pages b c.args.row c.in-Some.found.now _ c.in-Some.ensures.same done.0 done.1 done.2 done.3 done.5, done.4)) c.insert.ensures.inserted

pub returns-clause-few : goal.returns-clause-few
returns-clause-few g c =
    let class = c.args.self.now.class in
    let count = g.met.C.ItemClass.counted class c.in-Some.found.now in
    let same = ap (λ (d : Datum). entries_of (g.C.ItemClass.named class) d) c.in-Some.ensures.same in
    let by = c.insert.ensures.by in
    omega (arith, count, same, by)

pub returns-clause-cause : goal.returns-clause-cause
returns-clause-cause g c =
    let class = c.args.self.now.class in
    let root = c.args.self.now.root in
    let datum = g.C.ItemClass.datum in
    broken_weaker c.insert.result _ _ _ _ _ _ (λ at x y none tells rows feet free b below.
    none tells b.held.lists feet free (gin_of g.C.GinClass class datum g.P.Pages root rows feet free c.args.pages.now b) b.held.values b.held.index (below_of g.C.GinClass class datum g.P.Pages root rows feet free c.args.pages.now b c.args.row.number below)) c.insert.ensures.cause

pub returns-clause-heap : goal.returns-clause-heap
returns-clause-heap g c tells rows feet free b below =
    let class = c.args.self.now.class in
    let root = c.args.self.now.root in
    let datum = g.C.ItemClass.datum in
    c.insert.ensures.heap (never_broken c.insert.result _ _ _ _ _ (λ at x y none.
    none tells b.held.lists feet free (gin_of g.C.GinClass class datum g.P.Pages root rows feet free c.args.pages.now b) b.held.values b.held.index (below_of g.C.GinClass class datum g.P.Pages root rows feet free c.args.pages.now b c.args.row.number below)) c.insert.ensures.cause)

use Rattle.std.proofs.Common.{◌∙◌, arith}
use Rattle.std.proofs.lemmas.Result.{IfOk-weaker, on_ok_weaker}
use Rattle.gx_value.specs.Values.{Datum}
use Rattle.gx_opr.specs.Operands.{right_of}
use Rattle.gx_candidates.specs.Candidates.{candidate}
use Rattle.gx_index.proofs.ItemRows.{found_are}
use Rattle.gx_index.proofs.NullRows.{broken_weaker, never_broken}
use Rattle.gx_index.proofs.items.GinKept.find.Goals as goal

pub returns-clause-found : goal.returns-clause-found
returns-clause-found g c =
    let class = c.args.self.now.class in
    let made = rw c.in-Some.is at c.in-Ok.ensures in
    IfOk-weaker c.search.result _ _ (λ found is tells rows feet h.
    is tells h.lists feet h.held h.values h.index
    ∙ found_are g.C.GinClass class g.C.ItemClass.datum c.in-Some.query (λ (d : Datum). candidate (g.C.ItemClass.named class) 0 c.args.op (right_of c.args.operand.now.part) d) made.1.test rows h.values h.are)
    c.search.ensures.found

pub returns-clause-fetches : goal.returns-clause-fetches
returns-clause-fetches g c =
    let made = rw c.in-Some.is at c.in-Ok.ensures in
    on_ok_weaker c.search.result (λ is tells rows feet most reads.
    let few = is (reads.some c.in-Some.query made.1) tells reads.held.lists feet reads.held.held in
    let least = reads.least c.in-Some.query made.1 in
    omega (arith, few, least)) c.search.ensures.fetches

pub returns-clause-cause : goal.returns-clause-cause
returns-clause-cause g c =
    broken_weaker c.search.result _ _ _ _ _ _ (λ at x y none tells rows feet h. none tells h.lists feet h.held) c.search.ensures.cause

pub returns-clause-heap : goal.returns-clause-heap
returns-clause-heap g c tells rows feet h =
    c.search.ensures.heap (never_broken c.search.result _ _ _ _ _ (λ at x y none. none tells h.lists feet h.held) c.search.ensures.cause)

use Rattle.std.proofs.Common.{List, [], ◌∷◌, ◌++◌, Some, sym, subst}
use Rattle.std.proofs.lemmas.Result.{on_ok_weaker}
use Rattle.gx_value.specs.Values.{datum_of}
use Rattle.gx_index.specs.Beside.{Beside}
use Rattle.gx_index.specs.Indexed.{valued, nulls_of}
use Rattle.gx_index.specs.Kept.{Valued}
use Rattle.gx_index.proofs.IndexFacts.{values_in, values_changed, valued_with, nulls_with, nulls_apart, below_valued}
use Rattle.gx_index.proofs.NullRows.{broken_weaker}
use Rattle.gx_index.proofs.indexed.Indexed.put_value.Goals as goal

pub returns-clause-put : goal.returns-clause-put
returns-clause-put g c =
    let Holds = g.M.Kept.holds c.args.self.now.kept in
    let old = c.args.pages.now in
    let new = c.put.new.pages in
    let value = datum_of c.args.value.now in
    on_ok_weaker c.put.result (λ put tells rows feet free h below.
    let made = put tells (valued rows) h.held.values free (values_in g.P.Pages Holds h) (below_valued rows c.args.row.number below) in
    let next = rows ++ (c.args.row, Some value) ∷ [] in
    values_changed g.P.Pages Holds h new next made.0 made.1
    (subst (λ (l : List Valued). Beside g.P.Pages (Holds l) new made.0 made.1) (sym (valued_with rows c.args.row value)) made.2)
    (nulls_with rows c.args.row value) made.3
    (c.nulls_stay.ensures.stays old new c.args.self.now.nulls (nulls_of rows) h.held.others h.held.values free made.0 made.1 h.held.null made.3 (nulls_apart g.P.Pages Holds h)))
    c.put.ensures.put

pub returns-clause-cause : goal.returns-clause-cause
returns-clause-cause g c =
    broken_weaker c.put.result _ _ _ _ _ _ (λ at x y none tells rows feet free h below.
    none tells (valued rows) h.held.values free (values_in g.P.Pages (g.M.Kept.holds c.args.self.now.kept) h) (below_valued rows c.args.row.number below)) c.put.ensures.cause

pub returns-clause-heap : goal.returns-clause-heap
returns-clause-heap g c tells rows feet free h below =
    c.put.ensures.heap tells (valued rows) h.held.values free (values_in g.P.Pages (g.M.Kept.holds c.args.self.now.kept) h) (below_valued rows c.args.row.number below)

use Rattle.std.proofs.Common.{List, [], ◌∷◌, ◌++◌, None, sym, subst, arith}
use Rattle.gx_pages.specs.declared.row.RowRef.{RowRef}
use Rattle.gx_pages.proofs.Footprints.{cause_weaker}
use Rattle.gx_index.specs.Beside.{Beside}
use Rattle.gx_index.specs.Indexed.{valued, nulls_of}
use Rattle.gx_index.specs.Nulls.{HoldsNulls}
use Rattle.gx_index.proofs.IndexFacts.{values_in, nulls_in, nulls_changed, valued_null, nulls_null, values_apart, nulls_lie, below_nulls}
use Rattle.gx_index.proofs.NullRows.{never_broken}
use Rattle.gx_index.proofs.indexed.Indexed.put_null.Goals as goal

pub returns-in-Ok-clause-put : goal.returns-in-Ok-clause-put
returns-in-Ok-clause-put g c tells rows feet free h below =
    let Holds = g.M.Kept.holds c.args.self.now.kept in
    let old = c.args.pages.now in
    let new = c.put_null.new.pages in
    let next = rows ++ (c.args.row, None) ∷ [] in
    let made = c.in-Ok.ensures.put tells (nulls_of rows) h.held.others free (nulls_in g.P.Pages Holds h) (below_nulls rows c.args.row.number below) in
    let stayed = c.stays.ensures.stays old new (valued rows) h.held.values h.held.others free made.0 made.1 (values_in g.P.Pages Holds h) made.3 (values_apart g.P.Pages Holds h)
    (nulls_lie (g.P.Pages.map old) (g.P.Pages.count old) c.args.self.now.nulls (nulls_of rows) h.held.others h.held.null) in
    nulls_changed g.P.Pages Holds h new c.in-Ok.root next made.0 made.1
    (subst (λ (l : List RowRef). Beside g.P.Pages (λ map count at. HoldsNulls map count c.in-Ok.root l at) new made.0 made.1) (sym (nulls_null rows c.args.row)) made.2)
    (valued_null rows c.args.row) made.3 stayed.held (c.stays.ensures.below (valued rows) (g.P.Pages.map old) (g.P.Pages.count old) h.held.values h.held.kept)

pub returns-in-Err-clause-cause : goal.returns-in-Err-clause-cause
returns-in-Err-clause-cause g c =
    cause_weaker c.in-Err.error _ _ _ _ _ _ _ _ _ _ (omega arith) (omega arith)
    (λ at x y none tells rows feet free h below. none tells (nulls_of rows) h.held.others free (nulls_in g.P.Pages (g.M.Kept.holds c.args.self.now.kept) h) (below_nulls rows c.args.row.number below))
    (λ n s. s) (λ m. m) c.in-Err.ensures.cause

pub returns-in-Err-clause-heap : goal.returns-in-Err-clause-heap
returns-in-Err-clause-heap g c tells rows feet free h below =
    c.put_null.ensures.heap (never_broken c.put_null.result _ _ _ _ _
    (λ at x y none. none tells (nulls_of rows) h.held.others free (nulls_in g.P.Pages (g.M.Kept.holds c.args.self.now.kept) h) (below_nulls rows c.args.row.number below)) c.put_null.ensures.cause)

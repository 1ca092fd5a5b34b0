use Rattle.std.proofs.Common.{[], ◌∙◌, arith}
use Rattle.std.proofs.lemmas.Result.{on_ok_weaker, IfErr-weaker}
use Rattle.gx_pages.proofs.Footprints.{cause_weaker}
use Rattle.gx_index.specs.Indexed.{valued, nulls_of}
use Rattle.gx_index.proofs.IndexFacts.{values_in, nulls_in, values_apart, nulls_lie, both_gone}
use Rattle.gx_index.proofs.NullRows.{never_broken}
use Rattle.gx_index.proofs.indexed.Indexed.drop_all.Goals as goal

pub returns-in-Ok-clause-dropped : goal.returns-in-Ok-clause-dropped
returns-in-Ok-clause-dropped g c =
    let Holds = g.M.Kept.holds c.args.self.kept in
    let old = c.args.pages.now in
    let mid = c.drop_nulls.new.pages in
    on_ok_weaker c.drop_all.result (λ dropped tells rows feet free h.
    let gone = c.in-Ok.ensures.dropped tells (nulls_of rows) h.held.others free (nulls_in g.P.Pages Holds h) in
    let stayed = c.stays.ensures.stays old mid (valued rows) h.held.values h.held.others free [] gone.0 (values_in g.P.Pages Holds h) gone.1 (values_apart g.P.Pages Holds h)
    (nulls_lie (g.P.Pages.map old) (g.P.Pages.count old) c.args.self.nulls (nulls_of rows) h.held.others h.held.null) in
    let last = dropped tells (valued rows) h.held.values gone.0 stayed in
    (last.0, both_gone g.P.Pages Holds h mid c.drop_all.new.pages gone.0 last.0 gone.1 last.1)) c.drop_all.ensures.dropped

pub returns-in-Ok-clause-cause : goal.returns-in-Ok-clause-cause
returns-in-Ok-clause-cause g c =
    let Holds = g.M.Kept.holds c.args.self.kept in
    let old = c.args.pages.now in
    let mid = c.drop_nulls.new.pages in
    let faults = c.drop_nulls.ensures.quiet.faults in
    IfErr-weaker c.drop_all.result _ _ (λ error cause. cause_weaker error (g.P.Pages.faults old) (g.P.Pages.faults mid) (g.P.Pages.faults c.drop_all.new.pages) (g.P.Pages.faults c.drop_all.new.pages) _ _ _ _ _ _
    faults (omega arith)
    (λ at x y none tells rows feet free h.
    let gone = c.in-Ok.ensures.dropped tells (nulls_of rows) h.held.others free (nulls_in g.P.Pages Holds h) in
    none tells (valued rows) h.held.values gone.0
    (c.stays.ensures.stays old mid (valued rows) h.held.values h.held.others free [] gone.0 (values_in g.P.Pages Holds h) gone.1 (values_apart g.P.Pages Holds h)
    (nulls_lie (g.P.Pages.map old) (g.P.Pages.count old) c.args.self.nulls (nulls_of rows) h.held.others h.held.null)))
    (λ n s. s) (λ m. m) cause) c.drop_all.ensures.cause

pub returns-in-Ok-clause-heap : goal.returns-in-Ok-clause-heap
returns-in-Ok-clause-heap g c tells rows feet free h =
    let Holds = g.M.Kept.holds c.args.self.kept in
    let old = c.args.pages.now in
    let mid = c.drop_nulls.new.pages in
    let gone = c.in-Ok.ensures.dropped tells (nulls_of rows) h.held.others free (nulls_in g.P.Pages Holds h) in
    c.drop_all.ensures.heap tells (valued rows) h.held.values gone.0
    (c.stays.ensures.stays old mid (valued rows) h.held.values h.held.others free [] gone.0 (values_in g.P.Pages Holds h) gone.1 (values_apart g.P.Pages Holds h)
    (nulls_lie (g.P.Pages.map old) (g.P.Pages.count old) c.args.self.nulls (nulls_of rows) h.held.others h.held.null))
    ∙ c.drop_nulls.ensures.heap (never_broken c.drop_nulls.result _ _ _ _ _ (λ at x y none. none tells (nulls_of rows) h.held.others free (nulls_in g.P.Pages Holds h)) c.drop_nulls.ensures.cause)

pub returns-in-Err-clause-cause : goal.returns-in-Err-clause-cause
returns-in-Err-clause-cause g c =
    cause_weaker c.in-Err.error _ _ _ _ _ _ _ _ _ _ (omega arith) (omega arith)
    (λ at x y none tells rows feet free h. none tells (nulls_of rows) h.held.others free (nulls_in g.P.Pages (g.M.Kept.holds c.args.self.kept) h))
    (λ n s. s) (λ m. m) c.in-Err.ensures.cause

pub returns-in-Err-clause-heap : goal.returns-in-Err-clause-heap
returns-in-Err-clause-heap g c tells rows feet free h =
    c.drop_nulls.ensures.heap (never_broken c.drop_nulls.result _ _ _ _ _
    (λ at x y none. none tells (nulls_of rows) h.held.others free (nulls_in g.P.Pages (g.M.Kept.holds c.args.self.kept) h)) c.drop_nulls.ensures.cause)

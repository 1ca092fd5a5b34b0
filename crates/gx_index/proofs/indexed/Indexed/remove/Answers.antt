use Rattle.std.proofs.Common.{ℕ, not, ◌∙◌, arith}
use Rattle.gx_pages.proofs.Footprints.{cause_weaker}
use Rattle.gx_gist_tree.specs.OnPages.{is_in}
use Rattle.gx_index.specs.Indexed.{valued, nulls_of}
use Rattle.gx_index.proofs.IndexFacts.{both_changed, half_changed, halfway, nulls_apart, nulls_in, nulls_lie, rest_changed, values_apart, values_in}
use Rattle.gx_index.proofs.NullRows.{never_broken}
use Rattle.gx_index.proofs.indexed.Indexed.remove.Goals as goal

pub returns-in-Ok-remove_nulls-clause-removed : goal.returns-in-Ok-remove_nulls-clause-removed
returns-in-Ok-remove_nulls-clause-removed g c tells rows feet free h =
    let Holds = g.M.Kept.holds c.args.self.now.kept in
    let old = c.args.pages.now in
    let mid = c.remove.new.pages in
    let nulls = c.args.self.now.nulls in
    let stays = λ (n : ℕ). not (is_in c.args.gone.now n) in
    let lost = c.in-Ok.ensures.removed tells (valued rows) h.held.values free (values_in g.P.Pages Holds h) in
    let made = half_changed g.P.Pages Holds h stays mid lost.0 lost.1 lost.2 lost.3
    (c.nulls_stay.ensures.stays old mid nulls (nulls_of rows) h.held.others h.held.values free lost.0 lost.1 h.held.null lost.3 (nulls_apart g.P.Pages Holds h)) in
    let i = made.2 in
    let new = c.remove_nulls.new.pages in
    let less = c.in-Ok-remove_nulls.ensures.removed tells (nulls_of (halfway stays rows)) i.held.others made.1 (nulls_in g.P.Pages Holds i) in
    let stayed = c.stays.ensures.stays mid new (valued (halfway stays rows)) i.held.values i.held.others made.1 less.0 less.1 (values_in g.P.Pages Holds i) less.3 (values_apart g.P.Pages Holds i)
    (nulls_lie (g.P.Pages.map mid) (g.P.Pages.count mid) nulls (nulls_of (halfway stays rows)) i.held.others i.held.null) in
    both_changed g.P.Pages Holds made
    (rest_changed g.P.Pages Holds rows stays i new c.in-Ok-remove_nulls.root less.0 less.1 less.2 less.3 stayed.held
    (c.stays.ensures.below (valued (halfway stays rows)) (g.P.Pages.map mid) (g.P.Pages.count mid) i.held.values i.held.kept))

pub returns-in-Ok-remove_nulls-clause-heap : goal.returns-in-Ok-remove_nulls-clause-heap
returns-in-Ok-remove_nulls-clause-heap g c tells rows feet free h =
    let Holds = g.M.Kept.holds c.args.self.now.kept in
    let old = c.args.pages.now in
    let mid = c.remove.new.pages in
    let nulls = c.args.self.now.nulls in
    let stays = λ (n : ℕ). not (is_in c.args.gone.now n) in
    let lost = c.in-Ok.ensures.removed tells (valued rows) h.held.values free (values_in g.P.Pages Holds h) in
    let made = half_changed g.P.Pages Holds h stays mid lost.0 lost.1 lost.2 lost.3
    (c.nulls_stay.ensures.stays old mid nulls (nulls_of rows) h.held.others h.held.values free lost.0 lost.1 h.held.null lost.3 (nulls_apart g.P.Pages Holds h)) in
    let i = made.2 in
    c.remove_nulls.ensures.heap (never_broken c.remove_nulls.result _ _ _ _ _
    (λ at x y no. no tells (nulls_of (halfway stays rows)) i.held.others made.1 (nulls_in g.P.Pages Holds i)) c.remove_nulls.ensures.cause)
    ∙ c.remove.ensures.heap tells (valued rows) h.held.values free (values_in g.P.Pages Holds h)

pub returns-in-Err-remove_nulls-clause-cause : goal.returns-in-Err-remove_nulls-clause-cause
returns-in-Err-remove_nulls-clause-cause g c =
    cause_weaker c.in-Err-remove_nulls.error (g.P.Pages.faults c.args.pages.now) (g.P.Pages.faults c.remove.new.pages) (g.P.Pages.faults c.remove_nulls.new.pages) (g.P.Pages.faults c.remove_nulls.new.pages)
    _ _ _ _ _ _ c.remove.ensures.quiet.faults (omega arith)
    (λ at x y no tells rows feet free h.
    let Holds = g.M.Kept.holds c.args.self.now.kept in
    let old = c.args.pages.now in
    let mid = c.remove.new.pages in
    let nulls = c.args.self.now.nulls in
    let stays = λ (n : ℕ). not (is_in c.args.gone.now n) in
    let lost = c.in-Ok.ensures.removed tells (valued rows) h.held.values free (values_in g.P.Pages Holds h) in
    let made = half_changed g.P.Pages Holds h stays mid lost.0 lost.1 lost.2 lost.3
    (c.nulls_stay.ensures.stays old mid nulls (nulls_of rows) h.held.others h.held.values free lost.0 lost.1 h.held.null lost.3 (nulls_apart g.P.Pages Holds h)) in
    let i = made.2 in
    no tells (nulls_of (halfway stays rows)) i.held.others made.1 (nulls_in g.P.Pages Holds i))
    (λ n s. s) (λ m. m) c.in-Err-remove_nulls.ensures.cause

pub returns-in-Err-remove_nulls-clause-heap : goal.returns-in-Err-remove_nulls-clause-heap
returns-in-Err-remove_nulls-clause-heap g c tells rows feet free h =
    let Holds = g.M.Kept.holds c.args.self.now.kept in
    let old = c.args.pages.now in
    let mid = c.remove.new.pages in
    let nulls = c.args.self.now.nulls in
    let stays = λ (n : ℕ). not (is_in c.args.gone.now n) in
    let lost = c.in-Ok.ensures.removed tells (valued rows) h.held.values free (values_in g.P.Pages Holds h) in
    let made = half_changed g.P.Pages Holds h stays mid lost.0 lost.1 lost.2 lost.3
    (c.nulls_stay.ensures.stays old mid nulls (nulls_of rows) h.held.others h.held.values free lost.0 lost.1 h.held.null lost.3 (nulls_apart g.P.Pages Holds h)) in
    let i = made.2 in
    c.remove_nulls.ensures.heap (never_broken c.remove_nulls.result _ _ _ _ _
    (λ at x y no. no tells (nulls_of (halfway stays rows)) i.held.others made.1 (nulls_in g.P.Pages Holds i)) c.remove_nulls.ensures.cause)
    ∙ c.remove.ensures.heap tells (valued rows) h.held.values free (values_in g.P.Pages Holds h)

pub returns-in-Err-clause-cause : goal.returns-in-Err-clause-cause
returns-in-Err-clause-cause g c =
    cause_weaker c.in-Err.error _ _ _ _ _ _ _ _ _ _ (omega arith) (omega arith)
    (λ at x y no tells rows feet free h. no tells (valued rows) h.held.values free (values_in g.P.Pages (g.M.Kept.holds c.args.self.now.kept) h))
    (λ n s. s) (λ m. m) c.in-Err.ensures.cause

pub returns-in-Err-clause-heap : goal.returns-in-Err-clause-heap
returns-in-Err-clause-heap g c tells rows feet free h =
    c.remove.ensures.heap tells (valued rows) h.held.values free (values_in g.P.Pages (g.M.Kept.holds c.args.self.now.kept) h)

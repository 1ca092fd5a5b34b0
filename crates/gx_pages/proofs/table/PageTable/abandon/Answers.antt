use Rattle.std.proofs.Common.{◌≡◌, ℕ, [], sym, ◌∙◌}
use Rattle.std.specs.BTreeMap.{get, is_at}
use Rattle.std.specs.Map.{lookup}
use Rattle.std.specs.Ordering.{nat_cmp}
use Rattle.gx_pages.specs.Contents.{saved_or}
use Rattle.gx_pages.specs.Tables.{now_at, was_at}
use Rattle.gx_pages.proofs.Restoring.{put_back, no_entries, none_saved}
use Rattle.gx_pages.proofs.table.PageTable.abandon.Goals as goal

pub loop-page-preserved : goal.loop-page-preserved
loop-page-preserved c =
    let old = c.loop-page.self in
    let step = put_back (λ n. get nat_cmp old.pages n) (λ n. get nat_cmp c.restore.new.pages n) (λ n. get nat_cmp old.saved n) (λ n. get nat_cmp c.pop_first.new.self n)
    c.in-Some.page c.in-Some.old c.restore.ensures c.in-Some.ensures.value c.in-Some.ensures.updates.0 in
    ((λ i n. step n i) ∙ c.loop-page.invariant.0, c.loop-page.invariant.1)

pub returns-clause-now : goal.returns-clause-now
returns-clause-now c =
    let old = c.loop-page.self in
    let none : old.saved.entries ≡ [] = no_entries old.saved.entries c.in_default.ensures.variant.1 in
    let same : (n : ℕ) → was_at old n ≡ now_at old n = λ n. none_saved (now_at old n) (is_at (nat_cmp n)) old.saved.entries none in
    (λ i n. sym (same n) i) ∙ c.loop-page.invariant.0

pub returns-clause-was : goal.returns-clause-was
returns-clause-was c =
    let old = c.loop-page.self in
    let same = c.in_default.ensures.unchanged in
    (λ i n. saved_or (now_at old n) (lookup (is_at (nat_cmp n)) (same i))) ∙ c.loop-page.invariant.0

use Rattle.std.proofs.Common.{◌≡◌, ◌<◌, ◌∙◌, true, ℕ, List, length, get_or, sym, subst, arith}
use Rattle.std.specs.Prelude.{◌↔◌}
use Rattle.std.specs.List.{AllByRecursion}
use Rattle.std.proofs.lemmas.Bool.{false≢true}
use Rattle.std.proofs.lemmas.Result.{err_from_is_err_and}
use Rattle.gx_pages.proofs.Footprints.{cause_weaker, quiet_join}
use Rattle.gx_tree.proofs.Lists.{all_place, at_place}
use Rattle.gx_posting_tree.proofs.Stripped.{leaf, leaf_now, lost_more, part}
use Rattle.gx_posting_tree.proofs.removing.strip_pages.Goals.{then-empty, else-empty}
use Rattle.gx_posting_tree.proofs.removing.strip_pages.Goals as goal

here : (list : List ℕ) (i : ℕ) (below : i < length list) → get_or list i (get_or list i 0) ≡ get_or list i 0
here list i below = (at_place list i below).is (get_or list i 0) ∙ sym ((at_place list i below).is 0)

low : (list : List ℕ) (i count : ℕ) (below : i < length list) → AllByRecursion (λ page. page < count) list → get_or list i 0 < count
low list i count below all = subst (λ (n : ℕ). n < count) (sym ((at_place list i below).is 0)) (all_place (λ (page : ℕ). page < count) list i below all)

pub returns-in_err-none-clause-cause : goal.returns-in_err-none-clause-cause
returns-in_err-none-clause-cause g c =
    let p = err_from_is_err_and c.from_residual.result c.from_residual.ensures.1 in
    let old = g.P.Pages.map c.args.pages.now in
    let now = g.P.Pages.map c.loop-page.pages in
    let list = c.args.list.now in
    let i = c.loop-page.page-index in
    let page = get_or list i 0 in
    rw (p.1, p.2)
    (cause_weaker c.in_err-none.field-0.0 (g.P.Pages.faults c.args.pages.now) (g.P.Pages.faults c.loop-page.pages) (g.P.Pages.faults c.strip_page.new.pages) (g.P.Pages.faults c.strip_page.new.pages)
    _ _ _ _ _ _ (let q = c.loop-page.invariant.quiet.faults in omega arith) (omega arith) (λ at expected found refused tells leaves rows is apart on below spelled.
    let had = c.loop-page.invariant.lost tells leaves is apart on in
    let own = part c.args.gone.now old now list leaves is apart on i page c.loop-page-test.true (here list i c.loop-page-test.true) c.loop-page.empty had rows spelled in
    refused tells (leaf c.args.gone.now old now list leaves is apart on i page c.loop-page-test.true (here list i c.loop-page-test.true) c.loop-page.empty had).1 own.0
    (leaf_now c.args.gone.now old now list leaves is apart on i page c.loop-page-test.true (here list i c.loop-page-test.true) c.loop-page.empty had)
    (let few = low list i (g.P.Pages.count c.args.pages.now) c.loop-page-test.true below in let same = c.loop-page.invariant.count in omega (arith, few, same)) own.1)
    (λ n no. absurd no) (λ m. m) c.in_err-none.ensures.cause)

pub loop-page-preserved : goal.loop-page-preserved
loop-page-preserved g c =
    let old = g.P.Pages.map c.args.pages.now in
    let now = g.P.Pages.map c.loop-page.pages in
    let list = c.args.list.now in
    let i = c.loop-page.page-index in
    let page = get_or list i 0 in
    let ends : c.if-empty.empty ≡ true ↔ (c.loop-page.empty ≡ true) × (c.in_ok-none.none ≡ true) =
    elim c.if-empty.branch [
      | then-empty w ↦ (λ e. (w.if-empty.true, sym w.empty-is ∙ e), λ both. w.empty-is ∙ both.1)
      | else-empty w ↦ (λ e. absurd (false≢true (sym w.if-empty.false ∙ sym w.empty-is ∙ e)), λ both. absurd (false≢true (sym w.if-empty.false ∙ both.0)))
    ] in
    record {
      lost = λ tells leaves is apart on.
          let had = c.loop-page.invariant.lost tells leaves is apart on in
          let own = leaf c.args.gone.now old now list leaves is apart on i page c.loop-page-test.true (here list i c.loop-page-test.true) c.loop-page.empty had in
          lost_more c.args.gone.now old now list leaves is apart on i page c.loop-page-test.true (here list i c.loop-page-test.true) c.loop-page.empty had
          (g.P.Pages.map c.strip_page.new.pages) c.in_ok-none.none c.if-empty.empty (c.in_ok-none.ensures.others tells)
          (c.in_ok-none.ensures.stripped tells own.1
          (leaf_now c.args.gone.now old now list leaves is apart on i page c.loop-page-test.true (here list i c.loop-page-test.true) c.loop-page.empty had)) ends;
      count = c.in_ok-none.ensures.count ∙ c.loop-page.invariant.count;
      heap = c.in_ok-none.ensures.heap tt ∙ c.loop-page.invariant.heap;
      quiet = quiet_join g.P.Pages g.met.P.Pages.follows_on c.args.pages.now c.loop-page.pages c.strip_page.new.pages c.loop-page.invariant.quiet c.in_ok-none.ensures.quiet;
    }

use Rattle.std.proofs.Common.{◌≡◌, ◌+◌, ◌≤◌, ◌<◌, ◌∷◌, [], ◌++◌, ◌∙◌, true, false, ℕ, suc, List, length, take, get_or, sym, ap, subst, refl, append_assoc, length-append, arith}
use Rattle.std.proofs.lemmas.Result.{err_from_is_err_and}
use Rattle.gx_words.specs.PageMap.{PageMap}
use Rattle.gx_pages.specs.Footprints.{StaysQuiet}
use Rattle.gx_pages.proofs.Footprints.{cause_weaker, quiet_join}
use Rattle.gx_tree.specs.Trees.{Node, Row}
use Rattle.gx_tree.proofs.Lists.{at_place}
use Rattle.gx_tree.proofs.Causes.{broken_or}
use Rattle.gx_tree.proofs.Rows.{row_sound, row_found, row_unseen, row_links, row_push}
use Rattle.gx_tree.proofs.walk.row_below.Goals as goal

pub returns-in_err-slots-clause-quiet : goal.returns-in_err-slots-clause-quiet
returns-in_err-slots-clause-quiet g c = quiet_join g.P.Pages g.met.P.Pages.follows_on c.args.pages.now c.loop-page.pages c.fetch_level.new.pages c.loop-page.invariant.quiet c.in_err-slots.ensures.quiet

pub returns-then-is_among-clause-quiet : goal.returns-then-is_among-clause-quiet
returns-then-is_among-clause-quiet g c = quiet_join g.P.Pages g.met.P.Pages.follows_on c.args.pages.now c.loop-page.pages c.fetch_level.new.pages c.loop-page.invariant.quiet c.in_ok-slots.ensures.quiet

pub returns-in_default-clause-quiet : goal.returns-in_default-clause-quiet
returns-in_default-clause-quiet g c = quiet_join g.P.Pages g.met.P.Pages.follows_on c.args.pages.now c.loop-page.pages c.fetch_level.new.pages c.loop-page.invariant.quiet c.in_ok-slots.ensures.quiet

pub returns-in_err-push_children-clause-quiet : goal.returns-in_err-push_children-clause-quiet
returns-in_err-push_children-clause-quiet g c = quiet_join g.P.Pages g.met.P.Pages.follows_on c.args.pages.now c.loop-page.pages c.fetch_level.new.pages c.loop-page.invariant.quiet c.in_ok-slots.ensures.quiet

pub returns-in_err-slots-clause-cause : goal.returns-in_err-slots-clause-cause
returns-in_err-slots-clause-cause g c =
    let p = err_from_is_err_and c.from_residual.result c.from_residual.ensures.1 in
    let now = g.P.Pages.map c.args.pages.now in
    let count = g.P.Pages.count c.args.pages.now in
    rw (p.1, p.2)
    (cause_weaker c.in_err-slots.field-0.0 (g.P.Pages.faults c.args.pages.now) (g.P.Pages.faults c.loop-page.pages) (g.P.Pages.faults c.fetch_level.new.pages) (g.P.Pages.faults c.fetch_level.new.pages)
    _ _ _ _ _ _ (let q = c.loop-page.invariant.quiet.faults in omega arith) (omega arith) (λ at expected found broken tells nodes is_row.
    row_sound now count c.args.kind c.args.level c.args.uppers.now.items c.args.row.now nodes is_row c.loop-page.page-index (get_or c.args.row.now c.loop-page.page-index 0) c.loop-page-test.true
    ((at_place c.args.row.now c.loop-page.page-index c.loop-page-test.true).is (get_or c.args.row.now c.loop-page.page-index 0) ∙ sym ((at_place c.args.row.now c.loop-page.page-index c.loop-page-test.true).is 0))
    (c.args.level + 1) refl
    (λ slots is fits kinds levels some below. broken tells slots (ap (λ (m : PageMap). m (get_or c.args.row.now c.loop-page.page-index 0)) c.loop-page.invariant.map ∙ is) fits kinds levels some (let same = c.loop-page.invariant.count in omega (arith, below, same))))
    (λ n no. absurd no) (λ no. absurd no) c.in_err-slots.ensures.cause)

pub returns-then-is_among-clause-cause : goal.returns-then-is_among-clause-cause
returns-then-is_among-clause-cause g c = (
  λ e. cc,
  λ tells nodes is_row.
      let now = g.P.Pages.map c.args.pages.now in
      let count = g.P.Pages.count c.args.pages.now in
      let unseen = row_unseen now count c.args.kind c.args.level c.args.uppers.now.items c.args.row.now nodes is_row c.loop-page.page-index (get_or c.args.row.now c.loop-page.page-index 0) c.loop-page-test.true
      ((at_place c.args.row.now c.loop-page.page-index c.loop-page-test.true).is (get_or c.args.row.now c.loop-page.page-index 0) ∙ sym ((at_place c.args.row.now c.loop-page.page-index c.loop-page-test.true).is 0))
      c.as_slice.result.now (c.as_slice.ensures.value ∙ c.loop-page.invariant.uppers) in
      let both : true ≡ false = sym c.if-is_among.true ∙ c.is_among.ensures ∙ unseen in
      cc,
)

pub returns-in_err-push_children-clause-cause : goal.returns-in_err-push_children-clause-cause
returns-in_err-push_children-clause-cause g c =
    let p = err_from_is_err_and c.from_residual-in_err-push_children.result c.from_residual-in_err-push_children.ensures.1 in
    let now = g.P.Pages.map c.args.pages.now in
    let count = g.P.Pages.count c.args.pages.now in
    rw (p.1, p.2)
    (broken_or c.in_err-push_children.field-0.0 (get_or c.args.row.now c.loop-page.page-index 0) (g.P.Pages.faults c.args.pages.now) (g.P.Pages.faults c.fetch_level.new.pages) _ _ _ _ c.in_err-push_children.ensures.cause
    (λ refused at expected found tells nodes is_row.
    let place = (at_place c.args.row.now c.loop-page.page-index c.loop-page-test.true).is (get_or c.args.row.now c.loop-page.page-index 0) ∙ sym ((at_place c.args.row.now c.loop-page.page-index c.loop-page-test.true).is 0) in
    row_links now count c.args.kind c.args.level c.args.uppers.now.items c.args.row.now nodes is_row c.loop-page.page-index (get_or c.args.row.now c.loop-page.page-index 0) c.loop-page-test.true place
    c.in_ok-slots.slots
    (row_found now count c.args.kind c.args.level c.args.uppers.now.items c.args.row.now nodes is_row c.loop-page.page-index (get_or c.args.row.now c.loop-page.page-index 0) c.loop-page-test.true place c.in_ok-slots.slots
    (λ s is fits. c.in_ok-slots.ensures.one tells s (ap (λ (m : PageMap). m (get_or c.args.row.now c.loop-page.page-index 0)) c.loop-page.invariant.map ∙ is) fits))
    (g.met.P.Pages.bounded c.args.pages.now) refused)
    tt)

pub loop-page-preserved : goal.loop-page-preserved
loop-page-preserved g c = record {
  next = λ tells nodes is_row.
      let now = g.P.Pages.map c.args.pages.now in
      let count = g.P.Pages.count c.args.pages.now in
      let place = (at_place c.args.row.now c.loop-page.page-index c.loop-page-test.true).is (get_or c.args.row.now c.loop-page.page-index 0) ∙ sym ((at_place c.args.row.now c.loop-page.page-index c.loop-page-test.true).is 0) in
      row_push now count c.args.kind c.args.level c.args.uppers.now.items c.args.row.now nodes is_row c.loop-page.page-index (get_or c.args.row.now c.loop-page.page-index 0) c.loop-page-test.true place
      c.in_ok-slots.slots
      (row_found now count c.args.kind c.args.level c.args.uppers.now.items c.args.row.now nodes is_row c.loop-page.page-index (get_or c.args.row.now c.loop-page.page-index 0) c.loop-page-test.true place c.in_ok-slots.slots
      (λ s is fits. c.in_ok-slots.ensures.one tells s (ap (λ (m : PageMap). m (get_or c.args.row.now c.loop-page.page-index 0)) c.loop-page.invariant.map ∙ is) fits))
      (g.met.P.Pages.bounded c.args.pages.now) c.loop-page.next.items c.push_children.new.to.items c.in_ok-push_children.ensures.ok (c.loop-page.invariant.next tells nodes is_row);
  uppers = c.in-Ok.ensures.items ∙ ap (λ (l : List ℕ). l ++ get_or c.args.row.now c.loop-page.page-index 0 ∷ []) c.loop-page.invariant.uppers
      ∙ append_assoc c.args.uppers.now.items (take c.loop-page.page-index c.args.row.now) (get_or c.args.row.now c.loop-page.page-index 0 ∷ [])
      ∙ ap (λ (l : List ℕ). c.args.uppers.now.items ++ l) (
      ap (λ (n : ℕ). take c.loop-page.page-index c.args.row.now ++ n ∷ []) ((at_place c.args.row.now c.loop-page.page-index c.loop-page-test.true).is 0)
      ∙ sym (at_place c.args.row.now c.loop-page.page-index c.loop-page-test.true).more
      );
  map = c.in_ok-slots.ensures.map ∙ c.loop-page.invariant.map;
  count = c.in_ok-slots.ensures.count ∙ c.loop-page.invariant.count;
  heap = λ other. c.in_ok-slots.ensures.heap other tt ∙ c.loop-page.invariant.heap other;
  fetches = (let before = c.loop-page.invariant.fetches in let here = c.in_ok-slots.ensures.fetches in let more = ap (λ (l : List ℕ). length l) c.in-Ok.ensures.items in
      omega (arith, before, here, more, length-append c.loop-page.uppers.items (get_or c.args.row.now c.loop-page.page-index 0 ∷ [])));
  quiet = quiet_join g.P.Pages g.met.P.Pages.follows_on c.args.pages.now c.loop-page.pages c.fetch_level.new.pages c.loop-page.invariant.quiet c.in_ok-slots.ensures.quiet;
}

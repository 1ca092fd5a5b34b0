use Rattle.std.proofs.Common.{◌≡◌, List, ℕ, Option, ◌∷◌, ◌++◌, sym, ◌∙◌, ap, subst, arith}
use Rattle.std.proofs.lemmas.Result.{err_from_is_err_and}
use Rattle.gx_pages.specs.declared.row.RowRef.{RowRef}
use Rattle.gx_pages.specs.Rows.{IsRising}
use Rattle.gx_pages.proofs.Footprints.{all_right, cause_weaker, keeps_from}
use Rattle.gx_slot.specs.Slots.{Slots}
use Rattle.gx_chain.specs.Chains.{HoldsBeside, first_of, pages_of, slots}
use Rattle.gx_chain.proofs.Links.{broken_cause, held_same}
use Rattle.gx_heap.specs.Heaps.{AreRows, Empties, IsRef, chain_of}
use Rattle.gx_heap.proofs.Removes.{fewer, held_there, none_missed, page_sound, removed, spot}
use Rattle.gx_heap.proofs.Rows.{still_rows}
use Rattle.gx_heap.proofs.Runs.{empties_on, runs_cut}
use Rattle.gx_heap.proofs.removal.remove_run.Goals as goal

pub returns-in_err-slots-clause-cause : goal.returns-in_err-slots-clause-cause
returns-in_err-slots-clause-cause g c =
    let p = err_from_is_err_and c.from_residual.result c.from_residual.ensures.1 in
    rw (p.1, p.2)
    (cause_weaker c.in_err-slots.field-0.0 (g.P.Pages.faults c.args.pages.now) (g.P.Pages.faults c.args.pages.now) (g.P.Pages.faults c.fetch_slots.new.pages) (g.P.Pages.faults c.fetch_slots.new.pages)
    _ _ _ _ _ _ (omega arith) (omega arith)
    (λ at expected found broken tells heap all feet free held rising are.
    page_sound g.P.Pages c.args.pages.now heap all feet free held c.in-Some.first.now (subst (λ (l : List RowRef). AreRows l all) c.in-Some.ensures.cases.0 are).0
    (λ some below bytes eq. broken some below tells bytes eq))
    (λ n none. absurd none) (λ none. absurd none) c.in_err-slots.ensures.cause)

pub returns-in_err-rest-clause-cause : goal.returns-in_err-rest-clause-cause
returns-in_err-rest-clause-cause g c =
    let p = err_from_is_err_and c.from_residual-in_err-rest.result c.from_residual-in_err-rest.ensures.1 in
    let broken = c.in_err-rest.ensures.cause in
    rw (p.1, p.2)
    (broken_cause c.in_err-rest.field-0.0 c.in-Some.first.now.page (g.P.Pages.faults c.args.pages.now) (g.P.Pages.faults c.fetch_slots.new.pages) _ _ _ broken.0
    (λ at expected what tells heap all feet free held rising are.
    let cases = c.in-Some.ensures.cases.0 in
    let is = (subst (λ (l : List RowRef). AreRows l all) cases are).0 in
    let there = spot g.P.Pages c.args.pages.now heap all feet free held c.in-Some.first.now is in
    let found = c.in_ok-slots.ensures.link tells there.front there.back there.items (held_there g.P.Pages c.args.pages.now heap all feet free held c.in-Some.first.now is).held.linked in
    let run = broken.1.0 in
    let next = broken.1.2 in
    let more = broken.1.1 in
    none_missed g.P.Pages c.args.pages.now heap all feet free held c.in-Some.first.now is run more next broken.1.3
    (subst (λ (l : List RowRef). IsRising l) broken.1.4 rising)
    (all_right (λ (r : RowRef). IsRef r all) run (next ∷ more) (subst (λ (l : List RowRef). AreRows l all) broken.1.4 are)) broken.1.5
    (subst (λ (l : List (Option (List ℕ))). Empties c.in-Some.first.now.page run l broken.1.3) (ap (λ (s : Slots). s.items) found) broken.1.6) broken.1.7))

pub returns-clause-fewer : goal.returns-clause-fewer
returns-clause-fewer g c =
    let emptied = c.in_ok-rest.ensures.emptied in
    fewer c.args.rows.now c.in_ok-rest.rest.now emptied.0 c.in-Some.first.now c.in-Some._more.now emptied.1 c.in-Some.ensures.cases.0 c.in_ok-rest.ensures.stops

pub returns-clause-run : goal.returns-clause-run
returns-clause-run g c =
    let emptied = c.in_ok-rest.ensures.emptied in
    runs_cut c.args.rows.now emptied.0 c.in_ok-rest.rest.now c.in-Some.first.now c.in-Some._more.now emptied.1 c.in-Some.ensures.cases.0
    (empties_on c.in-Some.first.now.page emptied.0 _ _ emptied.2) c.in_ok-rest.ensures.stops

pub returns-clause-removed : goal.returns-clause-removed
returns-clause-removed g c = λ tells heap all feet free held rising are.
    let mid = c.fetch_slots.new.pages in
    let new = c.put_slots.new.pages in
    let map = c.in_ok-slots.ensures.map in
    let count = c.in_ok-slots.ensures.count in
    let after = c.empty_slots.new.slots in
    let cases = c.in-Some.ensures.cases.0 in
    let is = (subst (λ (l : List RowRef). AreRows l all) cases are).0 in
    let there = spot g.P.Pages c.args.pages.now heap all feet free held c.in-Some.first.now is in
    let found = c.in_ok-slots.ensures.link tells there.front there.back there.items (held_there g.P.Pages c.args.pages.now heap all feet free held c.in-Some.first.now is).held.linked in
    let page : ℕ = c.in-Some.first.now.page in
    let emptied = c.in_ok-rest.ensures.emptied in
    let shape : after ≡ slots 2 (first_of there.back) after.items = c.in_ok-rest.ensures.rest ∙ ap (λ (s : Slots). record s { items = after.items }) found in
    let kind : after.kind ≡ 2 = ap (λ (s : Slots). s.kind) shape in
    let was = held_same g.P.Pages c.args.pages.now mid 2 (chain_of heap) (there.front ++ (page, there.items) ∷ there.back) free map count (held_there g.P.Pages c.args.pages.now heap all feet free held c.in-Some.first.now is) in
    let put = c.in_ok-put_slots.ensures.held tells (chain_of heap) there.front there.back there.items free
    (subst (λ (k : ℕ). HoldsBeside g.P.Pages mid k (chain_of heap) (there.front ++ (page, there.items) ∷ there.back) free) (sym kind) was)
    (shape ∙ λ i. slots (sym kind i) (first_of there.back) after.items) in
    let done = removed g.P.Pages c.args.pages.now heap all feet free held c.in-Some.first.now is emptied.0 after.items new
    (subst (λ (l : List (Option (List ℕ))). Empties page emptied.0 l after.items) (ap (λ (s : Slots). s.items) found) emptied.2)
    (subst (λ (k : ℕ). HoldsBeside g.P.Pages new k (chain_of heap) (there.front ++ (page, after.items) ∷ there.back) free) kind put.0)
    (keeps_from g.P.Pages c.args.pages.now mid new (pages_of (there.front ++ (page, there.items) ∷ there.back)) free (pages_of (there.front ++ (page, after.items) ∷ there.back)) free map count put.1) in (
      emptied.0,
      emptied.1,
      done.0,
      done.1,
      still_rows emptied.0 c.in_ok-rest.rest.now all (subst (λ (l : List RowRef). IsRising l) emptied.1 rising)
          (all_right (λ (r : RowRef). IsRef r all) emptied.0 c.in_ok-rest.rest.now (subst (λ (l : List RowRef). AreRows l all) emptied.1 are)),
    )

use Rattle.std.proofs.Common.{◌≡◌, ◌≢◌, ◌≤◌, ◌++◌, ◌∷◌, List, ℕ, refl, sym, ◌∙◌, ap, subst, arith}
use Rattle.std.specs.List.{AllByRecursion}
use Rattle.std.proofs.lemmas.Result.{err_from_is_err_and}
use Rattle.gx_pages.proofs.Footprints as feet
use Rattle.gx_chain.specs.declared.entry.Entry.{Entry}
use Rattle.gx_chain.specs.Chains.{IsBehind, Link, entries_of, pages_of}
use Rattle.gx_chain.proofs.Links.{broken_cause, one_list}
use Rattle.gx_catalog.proofs.place.find_place.Goals as goal

pub returns-in_err-_chain-clause-cause : goal.returns-in_err-_chain-clause-cause
returns-in_err-_chain-clause-cause g c =
    let p = err_from_is_err_and c.from_residual.result c.from_residual.ensures.1 in
    rw (p.1, p.2)
    (feet.cause_weaker c.in_err-_chain.field-0.0 (g.P.Pages.faults c.args.pages.now) (g.P.Pages.faults c.args.pages.now) (g.P.Pages.faults c.open.new.pages) (g.P.Pages.faults c.open.new.pages)
    _ _ _ _ _ _ (omega arith) (omega arith)
    (λ at expected found broken tells chain links front back page slot first held same. broken tells chain links first held)
    (λ n no. absurd no) (λ memory. tt) c.in_err-_chain.ensures.cause)

pub returns-in_default-clause-cause : goal.returns-in_default-clause-cause
returns-in_default-clause-cause g c =
    broken_cause c.no_catalog.result 1 (g.P.Pages.faults c.args.pages.now) (g.P.Pages.faults c.open.new.pages) _ _ _ c.no_catalog.ensures
    (λ at expected found tells chain links front back page slot first held same.
    let o = c.in_ok-_chain.ensures.linked tells in
    let links_are : links ≡ o.0 = one_list (g.P.Pages.map c.args.pages.now) 3 links o.0 held.linked o.1.linked (sym held.first ∙ first ∙ sym c.in_ok-_chain.ensures.first ∙ o.1.first) in
    let all : c.as_slice.result.now ≡ front ++ record { page = page; slot = slot; item = c.args.item.now } ∷ back =
    c.as_slice.ensures.value ∙ o.2 ∙ ap (λ (l : List Link). entries_of l) (sym links_are) ∙ same in
    let none = subst (λ (l : List Entry). AllByRecursion (λ (e : Entry). e.item ≢ c.args.item.now) l) all c.in_default.ensures.none in
    (feet.all_right (λ (e : Entry). e.item ≢ c.args.item.now) front (record { page = page; slot = slot; item = c.args.item.now } ∷ back) none).0 refl)

pub returns-clause-found : goal.returns-clause-found
returns-clause-found g c = λ tells chain links first held.
    let o = c.in_ok-_chain.ensures.linked tells in
    let links_are : links ≡ o.0 = one_list (g.P.Pages.map c.args.pages.now) 3 links o.0 held.linked o.1.linked (sym held.first ∙ first ∙ sym c.in_ok-_chain.ensures.first ∙ o.1.first) in
    let some = c.in-Some.ensures.some in
    record {
      front = some.0;
      back = some.1;
      is = ap (λ (l : List Link). entries_of l) links_are ∙ sym o.2 ∙ sym c.as_slice.ensures.value ∙ some.2;
      behind = subst (λ (l : List ℕ). IsBehind c.page_before-before.result c.in-Some.page l)
          (c.as_slice-2.ensures.value ∙ o.4 ∙ ap (λ (l : List Link). pages_of l) (sym links_are)) c.page_before-before.ensures;
    }

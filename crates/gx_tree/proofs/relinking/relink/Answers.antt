use Rattle.std.proofs.Common.{◌≡◌, ◌≢◌, ◌+◌, ◌≤◌, ◌<◌, ◌++◌, ◌∷◌, ℕ, List, Option, Some, None, length, map, refl, sym, ◌∙◌, ap, subst, arith}
use Rattle.std.proofs.lemmas.List.{length-map}
use Rattle.std.proofs.lemmas.Result.{err_from_is_err_and}
use Rattle.gx_pages.proofs.Footprints.{cause_weaker}
use Rattle.gx_tree.specs.Changing.{beside, kept_of, link_bytes}
use Rattle.gx_tree.specs.Paging.{CanSplit}
use Rattle.gx_tree.proofs.Causes.{broken_or}
use Rattle.gx_tree.proofs.Relinks.{left_none, left_some, links_split, place_below, relinked_same}
use Rattle.gx_tree.proofs.relinking.relink.Goals as goal

pub returns-then-same-clause-relinked : goal.returns-then-same-clause-relinked
returns-then-same-clause-relinked g c = λ tells front back item free are place links key.
    let both = c.stays-same.ensures c.if-same.true in
    relinked_same g.P.Pages c.args.pages.now g.C.Seek.order (g.C.Seek.sought c.args.change.now) c.args.kind c.args.level c.args.page front item back c.args.sibling c.args.kept free links both.0 both.1

pub returns-in_err-items-clause-cause : goal.returns-in_err-items-clause-cause
returns-in_err-items-clause-cause g c =
    let p = err_from_is_err_and c.from_residual.result c.from_residual.ensures.1 in
    rw (p.1, p.2)
    (broken_or c.in_err-items.field-0.0 c.args.page (g.P.Pages.faults c.args.pages.now) (g.P.Pages.faults c.args.pages.now) _ _ _ _ c.in_err-items.ensures.cause
    (λ refused at expected found tells front back item free are place links key. refused front back item are place links.are) tt)

pub returns-in_err-right-clause-cause : goal.returns-in_err-right-clause-cause
returns-in_err-right-clause-cause g c =
    let p = err_from_is_err_and c.from_residual-in_err-right.result c.from_residual-in_err-right.ensures.1 in
    rw (p.1, p.2)
    (cause_weaker c.in_err-right.field-0.0 (g.P.Pages.faults c.args.pages.now) (g.P.Pages.faults c.args.pages.now) (g.P.Pages.faults c.write_items.new.pages) (g.P.Pages.faults c.write_items.new.pages)
    _ _ _ _ _ _ (omega arith) (omega arith)
    (λ at expected found refused tells front back item free are place links key.
    refused tells free links.frees links.below
    (subst (λ (l : List (List ℕ)). CanSplit 2 l) (sym (c.in_ok-items.ensures.items front back item are place links.are))
    (links_split g.P.Pages c.args.pages.now g.C.Seek.order g.met.C.Seek.lawful (g.C.Seek.sought c.args.change.now) c.args.kind c.args.level c.args.page front item back c.args.sibling c.args.kept free links key)))
    (λ n space. space) (λ m. m) c.in_err-right.ensures.cause)

pub returns-in-None-clause-relinked : goal.returns-in-None-clause-relinked
returns-in-None-clause-relinked g c = λ tells front back item free are place links key.
    left_none g.P.Pages c.args.pages.now c.write_items.new.pages c.args.kind c.args.level c.args.page front (kept_of c.args.kept item.0 (g.C.Seek.sought c.args.change.now)) item.1 back c.args.sibling free
    c.in_ok-items.items (c.in_ok-items.ensures.items front back item are place links.are) c.in_ok-right.right (c.in_ok-right.ensures.parted tells free links.frees links.outside links.below) c.in-None.is

pub returns-in_err-made-in-Some-clause-cause : goal.returns-in_err-made-in-Some-clause-cause
returns-in_err-made-in-Some-clause-cause g c =
    let p = err_from_is_err_and c.from_residual-in_err-made-in-Some.result c.from_residual-in_err-made-in-Some.ensures.1 in
    rw (p.1, p.2)
    (broken_or c.in_err-made-in-Some.field-0.0 c.args.page (g.P.Pages.faults c.args.pages.now) (g.P.Pages.faults c.write_items.new.pages) _ _ _ _ c.in_err-made-in-Some.ensures.cause
    (λ refused at expected found tells front back item free are place links key.
    let whole = c.in_ok-items.ensures.items front back item are place links.are in
    let below = place_below g.P.Pages c.args.pages.now c.write_items.new.pages c.args.kind c.args.level c.args.page c.in_ok-items.items free c.in_ok-right.right c.in-Some.right c.in-Some.is
    (c.in_ok-right.ensures.parted tells free links.frees links.outside links.below) in
    let size = ap (λ (l : List (List ℕ)). length l) whole in
    let all = front ++ (kept_of c.args.kept item.0 (g.C.Seek.sought c.args.change.now), item.1) ∷ beside c.args.sibling ++ back in
    refused all whole (omega (arith, below, size, length-map all link_bytes)))
    tt)

pub returns-clause-relinked : goal.returns-clause-relinked
returns-clause-relinked g c = λ tells front back item free are place links key.
    let whole = c.in_ok-items.ensures.items front back item are place links.are in
    let left = c.in_ok-right.ensures.parted tells free links.frees links.outside links.below in
    let below = place_below g.P.Pages c.args.pages.now c.write_items.new.pages c.args.kind c.args.level c.args.page c.in_ok-items.items free c.in_ok-right.right c.in-Some.right c.in-Some.is left in
    let size = ap (λ (l : List (List ℕ)). length l) whole in
    let all = front ++ (kept_of c.args.kept item.0 (g.C.Seek.sought c.args.change.now), item.1) ∷ beside c.args.sibling ++ back in
    left_some g.P.Pages c.args.pages.now c.write_items.new.pages c.args.kind c.args.level c.args.page front (kept_of c.args.kept item.0 (g.C.Seek.sought c.args.change.now)) item.1 back c.args.sibling free
    c.in_ok-items.items whole c.in_ok-right.right left c.in-Some.right c.in_ok-made-in-Some.made c.in-Some.is c.in_ok-made-in-Some.ensures.page
    (λ d. c.in_ok-made-in-Some.ensures.key all d whole (omega (arith, below, size, length-map all link_bytes)))

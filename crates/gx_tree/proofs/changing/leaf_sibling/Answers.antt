use Rattle.std.proofs.Common.{◌≡◌, ◌≤◌, ◌<◌, ◌++◌, ◌∷◌, ℕ, List, Option, Some, None, length, take, drop, slice_get, refl, sym, ◌∙◌, ap, subst, take-append-drop, arith}
use Rattle.gx_tree.proofs.Causes.{broken_is}
use Rattle.gx_tree.proofs.Leaves.{option_none, option_some, slice_cut}
use Rattle.gx_tree.proofs.changing.leaf_sibling.Goals as goal

pub returns-in_default-clause-cause : goal.returns-in_default-clause-cause
returns-in_default-clause-cause g c =
    broken_is c.broken.result c.args.page _ c.broken.ensures (λ least end are below. let past = c.in_default.ensures.none in omega (arith, past, below))

pub returns-in_default-found-clause-cause : goal.returns-in_default-found-clause-cause
returns-in_default-found-clause-cause g c =
    broken_is c.broken-in_default-found.result c.args.page _ c.broken-in_default-found.ensures (λ least end are below.
    let cut = slice_cut c.args.items.now c.args.right.place c.in-Some.item.now c.in-Some.ensures.some in
    option_none c.in-Ok.found _ _ c.in_default-found.is c.in-Ok.ensures least end cut.0 cut.1 (subst (λ (l : List (List ℕ)). g.C.Seek.order.AreIn least end l) cut.2 are))

pub returns-clause-key : goal.returns-clause-key
returns-clause-key g c = λ least end are.
    let cut = slice_cut c.args.items.now c.args.right.place c.in-Some.item.now c.in-Some.ensures.some in
    (c.in-Some.item.now, c.in-Some.ensures.some, option_some c.in-Ok.found _ _ c.in-Some-found.key c.in-Some-found.is c.in-Ok.ensures least end cut.0 cut.1 (subst (λ (l : List (List ℕ)). g.C.Seek.order.AreIn least end l) cut.2 are))

use Rattle.std.proofs.Common.{◌≡◌, ℕ, List, [], get_or, None, Some, sym, ◌∙◌, subst}
use Rattle.gx_tree.proofs.Chooses.{link_key, reaches_at, some_same}
use Rattle.gx_tree.proofs.choosing.reached.Goals as goal

pub returns-in_default : goal.returns-in_default
returns-in_default g c = λ items are links below.
    let e : None ≡ Some (get_or items c.args.slot ([], 0)).0 = c.in_default.ensures items ([], 0) are below in cc

pub returns-in_default-reaches : goal.returns-in_default-reaches
returns-in_default-reaches g c = λ items are links below.
    let same = some_same c.in-Some.key.now (get_or items c.args.slot ([], 0)).0 (c.in-Some.ensures items ([], 0) are below) in
    c.in_default-reaches.ensures.none (subst (λ (k : List ℕ). g.S.Seek.order.IsKey k) (sym same) (link_key g.S.Seek.order items c.args.slot ([], 0) links below))

pub returns : goal.returns
returns g c = λ items are below.
    reaches_at g.S.Seek.order (g.S.Seek.sought c.args.seek.now) items c.args.slot c.in-Some.key.now c.in-Some-reaches.yes c.in-Some-reaches.ensures.found
    (λ d. some_same c.in-Some.key.now (get_or items c.args.slot d).0 (c.in-Some.ensures items d are below))

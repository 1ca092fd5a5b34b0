use Rattle.std.proofs.Common.{◌≡◌, ◌==◌, ◌++◌, ◌∷◌, ◌+◌, ◌-◌, ℕ, List, Some, None, length, position, refl, sym, ◌∙◌, ap}
use Rattle.gx_gin_entry.proofs.Nexts.{list_behind, place_is}
use Rattle.gx_gin_entry.proofs.next.pages_behind.Goals as goal

pub returns-in_default : goal.returns-in_default
returns-in_default c = λ front back cut outside.
    let e : None ≡ Some (length front) = c.in_default.ensures.place ∙ place_is c.args.list.now front c.args.page back cut outside in
    cc

pub returns : goal.returns
returns c = λ front back cut outside.
    let e : Some c.in-Some.place ≡ Some (length front) = c.in-Some.ensures.place ∙ place_is c.args.list.now front c.args.page back cut outside in
    let at : c.in-Some.place ≡ length front = cc in
    ap (λ (l : List ℕ). Some l) (list_behind c.args.list.now front c.args.page back c.in-Some.place cut at)

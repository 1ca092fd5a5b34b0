use Rattle.std.proofs.Common.{◌++◌, ◌∷◌, [], ℕ, List, refl, ◌∙◌, ap}
use Rattle.std.proofs.lemmas.Result.{err_from_is_err_and}
use Rattle.gx_gist_tree.specs.Insertion.{items_in}
use Rattle.gx_gist_tree.proofs.LaidFacts.{laid_at, room_one}
use Rattle.gx_gist_tree.proofs.ShareFacts.{cause_at}
use Rattle.gx_gist_tree.proofs.replacing.lay_with.Goals as goal

pub lay_out-requires-clause-room : goal.lay_out-requires-clause-room
lay_out-requires-clause-room g c = room_one c.in_ok-items.items c.push.new.self c.args.item c.in-Ok.ensures.ok c.in_ok-items.ensures.room c.requires.small

pub returns-in_err-arranged-clause-cause : goal.returns-in_err-arranged-clause-cause
returns-in_err-arranged-clause-cause g c =
    let p = err_from_is_err_and c.from_residual-in_err-arranged.result c.from_residual-in_err-arranged.ensures.1 in
    let is = c.in-Ok.ensures.ok ∙ ap (λ (l : List (List ℕ)). l ++ c.args.item ∷ []) c.in_ok-items.ensures.ok in
    rw (p.1, p.2)
    (cause_at (g.C.GistClass.valid_key c.args.class.now) (g.C.GistClass.spelling c.args.class.now) c.in_err-arranged.field-0.0 c.args.page c.args.slots.now.level c.args.slots.now.level c.push.new.self
    (items_in c.args.slots.now.items ++ c.args.item ∷ []) refl is c.in_err-arranged.ensures.cause)

pub returns-clause-laid : goal.returns-clause-laid
returns-clause-laid g c =
    let class = c.args.class.now in
    let is = c.in-Ok.ensures.ok ∙ ap (λ (l : List (List ℕ)). l ++ c.args.item ∷ []) c.in_ok-items.ensures.ok in
    laid_at (g.C.GistClass.valid_key class) (g.C.GistClass.union_of class) (g.C.GistClass.spelling class) c.args.slots.now.level c.push.new.self (items_in c.args.slots.now.items ++ c.args.item ∷ []) c.lay_out.new.slots
    c.in_ok-arranged.arranged is c.in_ok-arranged.ensures.laid

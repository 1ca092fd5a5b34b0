use Rattle.std.proofs.Common.{◌++◌, ◌∷◌, [], ℕ, List, length, refl, ◌∙◌, ap, arith}
use Rattle.std.proofs.lemmas.Result.{err_from_is_err_and}
use Rattle.gx_gist_tree.specs.OnPages.{inner_item}
use Rattle.gx_gist_tree.specs.Insertion.{items_but}
use Rattle.gx_gist_tree.proofs.LaidFacts.{laid_at, room_two, two_more}
use Rattle.gx_gist_tree.proofs.RoomFacts.{inner_room}
use Rattle.gx_gist_tree.proofs.ShareFacts.{cause_at}
use Rattle.gx_gist_tree.proofs.replacing.put_halves.Goals as goal

pub lay_out-requires-clause-room : goal.lay_out-requires-clause-room
lay_out-requires-clause-room g c =
    let class = c.args.class.now in
    let bytes = g.C.GistClass.spelling class in
    let one = inner_room bytes c.args.child c.args.left.now (g.met.C.GistClass.short_spelling class c.args.left.now c.requires.class c.requires.left) in
    let other = inner_room bytes c.args.other c.args.right.now (g.met.C.GistClass.short_spelling class c.args.right.now c.requires.class c.requires.right) in
    let a = ap (λ (i : List ℕ). length i) c.in_ok-first.ensures.ok in
    let b = ap (λ (i : List ℕ). length i) c.in_ok-second.ensures.ok in
    room_two c.in_ok-items.items c.push.new.self c.push-2.new.self c.in_ok-first.first c.in_ok-second.second c.in-Ok.ensures.ok c.in-Ok-push.ensures.ok c.in_ok-items.ensures.room (omega (arith, one, a)) (omega (arith, other, b))

pub returns-in_err-arranged-clause-cause : goal.returns-in_err-arranged-clause-cause
returns-in_err-arranged-clause-cause g c =
    let class = c.args.class.now in
    let bytes = g.C.GistClass.spelling class in
    let p = err_from_is_err_and c.from_residual-in_err-arranged.result c.from_residual-in_err-arranged.ensures.1 in
    let base = items_but c.args.slots.now.items c.args.slot in
    let is = two_more base c.in_ok-items.items c.push.new.self c.push-2.new.self c.in_ok-first.first c.in_ok-second.second c.in_ok-items.ensures.ok c.in-Ok.ensures.ok c.in-Ok-push.ensures.ok
    ∙ ap (λ (i : List ℕ). items_but c.args.slots.now.items c.args.slot ++ i ∷ c.in_ok-second.second ∷ []) c.in_ok-first.ensures.ok
    ∙ ap (λ (i : List ℕ). items_but c.args.slots.now.items c.args.slot ++ inner_item (g.C.GistClass.spelling c.args.class.now) c.args.child c.args.left.now ∷ i ∷ []) c.in_ok-second.ensures.ok in
    rw (p.1, p.2)
    (cause_at (g.C.GistClass.valid_key class) bytes c.in_err-arranged.field-0.0 c.args.page c.args.slots.now.level c.args.slots.now.level c.push-2.new.self
    (items_but c.args.slots.now.items c.args.slot ++ inner_item bytes c.args.child c.args.left.now ∷ inner_item bytes c.args.other c.args.right.now ∷ []) refl is c.in_err-arranged.ensures.cause)

pub returns-clause-laid : goal.returns-clause-laid
returns-clause-laid g c =
    let class = c.args.class.now in
    let bytes = g.C.GistClass.spelling class in
    let base = items_but c.args.slots.now.items c.args.slot in
    let is = two_more base c.in_ok-items.items c.push.new.self c.push-2.new.self c.in_ok-first.first c.in_ok-second.second c.in_ok-items.ensures.ok c.in-Ok.ensures.ok c.in-Ok-push.ensures.ok
    ∙ ap (λ (i : List ℕ). items_but c.args.slots.now.items c.args.slot ++ i ∷ c.in_ok-second.second ∷ []) c.in_ok-first.ensures.ok
    ∙ ap (λ (i : List ℕ). items_but c.args.slots.now.items c.args.slot ++ inner_item (g.C.GistClass.spelling c.args.class.now) c.args.child c.args.left.now ∷ i ∷ []) c.in_ok-second.ensures.ok in
    laid_at (g.C.GistClass.valid_key class) (g.C.GistClass.union_of class) bytes c.args.slots.now.level c.push-2.new.self
    (items_but c.args.slots.now.items c.args.slot ++ inner_item bytes c.args.child c.args.left.now ∷ inner_item bytes c.args.other c.args.right.now ∷ []) c.lay_out.new.slots c.in_ok-arranged.arranged is c.in_ok-arranged.ensures.laid

use Rattle.std.proofs.Common.{◌++◌, ◌∷◌, [], ℕ, List, length, ◌∙◌, ap}
use Rattle.gx_gist_tree.proofs.RoomFacts.{two_room, inner_room}
use Rattle.gx_gist_tree.proofs.putting.two_items.Goals as goal

pub unreachable-requires : goal.unreachable-requires
unreachable-requires g c =
    let class = c.args.class.now in
    let bytes = g.C.GistClass.spelling class in
    let short = λ (k : g.row.C-Key.Denot) (ok : g.C.GistClass.valid_key class k). g.met.C.GistClass.short_spelling class k c.requires.class ok in
    two_room c.in_ok-one.one c.in_ok-other.other c.as_slice.result.now
    (c.as_slice.ensures ∙ c.in-Ok-push.ensures.ok ∙ ap (λ (l : List (List ℕ)). l ++ c.in_ok-other.other ∷ []) (c.in-Ok.ensures.ok ∙ ap (λ (l : List (List ℕ)). l ++ c.in_ok-one.one ∷ []) c.new-items.ensures))
    (ap (λ (l : List ℕ). length l) c.in_ok-one.ensures.ok) (ap (λ (l : List ℕ). length l) c.in_ok-other.ensures.ok)
    (inner_room bytes c.args.first c.args.left.now (short c.args.left.now c.requires.left)) (inner_room bytes c.args.second c.args.right.now (short c.args.right.now c.requires.right))
    c.in_default-page_of.ensures.none

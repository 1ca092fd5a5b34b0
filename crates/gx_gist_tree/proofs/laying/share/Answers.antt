use Rattle.std.proofs.Common.{◌≡◌, ◌<◌, ◌≤◌, ◌++◌, ℕ, List, All, length, sym, ◌∙◌, ap, subst}
use Rattle.std.proofs.lemmas.Result.{err_from_is_err_and}
use Rattle.std.proofs.lemmas.List.Elements.{All-contains}
use Rattle.gx_slot.specs.Slots.{Slots, taken}
use Rattle.gx_gist_tree.specs.Insertion.{AreHalves, IsUnion, page_with, picked}
use Rattle.gx_gist_tree.proofs.Picks.{somes}
use Rattle.gx_gist_tree.proofs.ShareFacts.{are_sizes, cause_at, fits_left, fits_right, halves_are, items_left, items_right, low_left, low_right, small_items, two_left, two_right, valid_list}
use Rattle.gx_gist_tree.proofs.laying.share.Goals as goal

pub returns-in_err-keys-clause-cause : goal.returns-in_err-keys-clause-cause
returns-in_err-keys-clause-cause g c =
    let p = err_from_is_err_and c.from_residual.result c.from_residual.ensures.1 in
    rw (p.1, p.2)
    (cause_at (g.C.GistClass.valid_key c.args.class.now) (g.C.GistClass.spelling c.args.class.now) c.in_err-keys.field-0.0 c.args.page c.level-level.result c.args.slots.now.level c.as_slice-all.result.now c.args.items.now
    c.level-level.ensures c.as_slice-all.ensures c.in_err-keys.ensures.cause)

pub sizes_of-requires : goal.sizes_of-requires
sizes_of-requires g c =
    let class = c.args.class.now in
    small_items (g.C.GistClass.valid_key class) (g.C.GistClass.spelling class) (λ k ok. g.met.C.GistClass.short_spelling class k c.requires.class ok) c.level-level.result c.as_slice-all.result.now c.in_ok-keys.keys c.in_ok-keys.ensures.ok

pub picksplit-requires-clause-keys : goal.picksplit-requires-clause-keys
picksplit-requires-clause-keys g c = λ key has.
    let class = c.args.class.now in
    All-contains (λ k. g.C.GistClass.valid_key class k) c.in_ok-keys.keys key
    (valid_list (g.C.GistClass.valid_key class) (g.C.GistClass.spelling class) (λ k ok. g.met.C.GistClass.short_spelling class k c.requires.class ok) c.level-level.result c.as_slice-all.result.now c.in_ok-keys.keys c.in_ok-keys.ensures.ok)
    has

pub picksplit-requires-clause-sizes : goal.picksplit-requires-clause-sizes
picksplit-requires-clause-sizes g c =
    let class = c.args.class.now in
    let all = c.as_slice-all.result.now in
    let same = c.as_slice-all.ensures in
    are_sizes (g.C.GistClass.valid_key class) (g.C.GistClass.spelling class) (λ k ok. g.met.C.GistClass.short_spelling class k c.requires.class ok) c.level-level.result all c.in_ok-keys.keys c.in_ok-keys.ensures.ok
    (subst (λ (l : List (List ℕ)). 8176 < taken (somes l)) (sym same) c.requires.full) (subst (λ (l : List (List ℕ)). taken (somes l) ≤ 12000) (sym same) c.requires.room) c.in_ok-sizes.sizes c.in_ok-sizes.ensures.ok

pub united_key-requires-clause-keys : goal.united_key-requires-clause-keys
united_key-requires-clause-keys g c =
    let class = c.args.class.now in
    subst (λ (l : List g.row.C-Key.Denot). All (λ k. g.C.GistClass.valid_key class k) l) (sym c.as_slice-list.ensures)
    (valid_list (g.C.GistClass.valid_key class) (g.C.GistClass.spelling class) (λ k ok. g.met.C.GistClass.short_spelling class k c.requires.class ok) c.level-level.result c.as_slice-all.result.now c.in_ok-keys.keys c.in_ok-keys.ensures.ok)

pub united_key-requires-clause-places : goal.united_key-requires-clause-places
united_key-requires-clause-places g c =
    let class = c.args.class.now in
    let all = c.as_slice-all.result.now in
    let same = c.as_slice-all.ensures in
    let V = g.C.GistClass.valid_key class in
    let S = g.C.GistClass.spelling class in
    let short = λ (k : g.row.C-Key.Denot) (ok : g.C.GistClass.valid_key class k). g.met.C.GistClass.short_spelling class k c.requires.class ok in
    let keys = c.in_ok-keys.keys in
    let left = c.in-Ok.sides.left in
    let right = c.in-Ok.sides.right in
    let full = subst (λ (l : List (List ℕ)). 8176 < taken (somes l)) (sym same) c.requires.full in
    let room = subst (λ (l : List (List ℕ)). taken (somes l) ≤ 12000) (sym same) c.requires.room in
    let order = g.met.C.GistClass.order_rearranges class c.in_ok-keys.keys (c.in-Ok.sides.left ++ c.in-Ok.sides.right) c.requires.class c.in-Ok.ensures.order in
    subst (λ (l : List ℕ). All (λ p. p < length c.as_slice-list.result.now) l) (sym c.as_slice-first.ensures)
    (subst (λ (k : List g.row.C-Key.Denot). All (λ p. p < length k) c.in-Ok.sides.left) (sym c.as_slice-list.ensures) (low_left V S short c.level-level.result all keys c.in_ok-keys.ensures.ok full room c.in_ok-sizes.sizes c.in_ok-sizes.ensures.ok left right order c.in-Ok.ensures.fit))

pub united_key-requires-clause-several : goal.united_key-requires-clause-several
united_key-requires-clause-several g c =
    let class = c.args.class.now in
    let all = c.as_slice-all.result.now in
    let same = c.as_slice-all.ensures in
    let V = g.C.GistClass.valid_key class in
    let S = g.C.GistClass.spelling class in
    let short = λ (k : g.row.C-Key.Denot) (ok : g.C.GistClass.valid_key class k). g.met.C.GistClass.short_spelling class k c.requires.class ok in
    let keys = c.in_ok-keys.keys in
    let left = c.in-Ok.sides.left in
    let right = c.in-Ok.sides.right in
    let full = subst (λ (l : List (List ℕ)). 8176 < taken (somes l)) (sym same) c.requires.full in
    let room = subst (λ (l : List (List ℕ)). taken (somes l) ≤ 12000) (sym same) c.requires.room in
    let order = g.met.C.GistClass.order_rearranges class c.in_ok-keys.keys (c.in-Ok.sides.left ++ c.in-Ok.sides.right) c.requires.class c.in-Ok.ensures.order in
    subst (λ (l : List ℕ). 2 ≤ length l) (sym c.as_slice-first.ensures) (two_left V S short c.level-level.result all keys c.in_ok-keys.ensures.ok full room c.in_ok-sizes.sizes c.in_ok-sizes.ensures.ok left right order c.in-Ok.ensures.fit)

pub united_key-requires-2-clause-keys : goal.united_key-requires-2-clause-keys
united_key-requires-2-clause-keys g c =
    let class = c.args.class.now in
    subst (λ (l : List g.row.C-Key.Denot). All (λ k. g.C.GistClass.valid_key class k) l) (sym c.as_slice-list.ensures)
    (valid_list (g.C.GistClass.valid_key class) (g.C.GistClass.spelling class) (λ k ok. g.met.C.GistClass.short_spelling class k c.requires.class ok) c.level-level.result c.as_slice-all.result.now c.in_ok-keys.keys c.in_ok-keys.ensures.ok)

pub united_key-requires-2-clause-places : goal.united_key-requires-2-clause-places
united_key-requires-2-clause-places g c =
    let class = c.args.class.now in
    let all = c.as_slice-all.result.now in
    let same = c.as_slice-all.ensures in
    let V = g.C.GistClass.valid_key class in
    let S = g.C.GistClass.spelling class in
    let short = λ (k : g.row.C-Key.Denot) (ok : g.C.GistClass.valid_key class k). g.met.C.GistClass.short_spelling class k c.requires.class ok in
    let keys = c.in_ok-keys.keys in
    let left = c.in-Ok.sides.left in
    let right = c.in-Ok.sides.right in
    let full = subst (λ (l : List (List ℕ)). 8176 < taken (somes l)) (sym same) c.requires.full in
    let room = subst (λ (l : List (List ℕ)). taken (somes l) ≤ 12000) (sym same) c.requires.room in
    let order = g.met.C.GistClass.order_rearranges class c.in_ok-keys.keys (c.in-Ok.sides.left ++ c.in-Ok.sides.right) c.requires.class c.in-Ok.ensures.order in
    subst (λ (l : List ℕ). All (λ p. p < length c.as_slice-list.result.now) l) (sym c.as_slice-second.ensures)
    (subst (λ (k : List g.row.C-Key.Denot). All (λ p. p < length k) c.in-Ok.sides.right) (sym c.as_slice-list.ensures) (low_right V S short c.level-level.result all keys c.in_ok-keys.ensures.ok full room c.in_ok-sizes.sizes c.in_ok-sizes.ensures.ok left right order c.in-Ok.ensures.fit))

pub united_key-requires-2-clause-several : goal.united_key-requires-2-clause-several
united_key-requires-2-clause-several g c =
    let class = c.args.class.now in
    let all = c.as_slice-all.result.now in
    let same = c.as_slice-all.ensures in
    let V = g.C.GistClass.valid_key class in
    let S = g.C.GistClass.spelling class in
    let short = λ (k : g.row.C-Key.Denot) (ok : g.C.GistClass.valid_key class k). g.met.C.GistClass.short_spelling class k c.requires.class ok in
    let keys = c.in_ok-keys.keys in
    let left = c.in-Ok.sides.left in
    let right = c.in-Ok.sides.right in
    let full = subst (λ (l : List (List ℕ)). 8176 < taken (somes l)) (sym same) c.requires.full in
    let room = subst (λ (l : List (List ℕ)). taken (somes l) ≤ 12000) (sym same) c.requires.room in
    let order = g.met.C.GistClass.order_rearranges class c.in_ok-keys.keys (c.in-Ok.sides.left ++ c.in-Ok.sides.right) c.requires.class c.in-Ok.ensures.order in
    subst (λ (l : List ℕ). 2 ≤ length l) (sym c.as_slice-second.ensures) (two_right V S short c.level-level.result all keys c.in_ok-keys.ensures.ok full room c.in_ok-sizes.sizes c.in_ok-sizes.ensures.ok left right order c.in-Ok.ensures.fit)

pub page_at-requires : goal.page_at-requires
page_at-requires g c =
    let class = c.args.class.now in
    let all = c.as_slice-all.result.now in
    let same = c.as_slice-all.ensures in
    let V = g.C.GistClass.valid_key class in
    let S = g.C.GistClass.spelling class in
    let short = λ (k : g.row.C-Key.Denot) (ok : g.C.GistClass.valid_key class k). g.met.C.GistClass.short_spelling class k c.requires.class ok in
    let keys = c.in_ok-keys.keys in
    let left = c.in-Ok.sides.left in
    let right = c.in-Ok.sides.right in
    let full = subst (λ (l : List (List ℕ)). 8176 < taken (somes l)) (sym same) c.requires.full in
    let room = subst (λ (l : List (List ℕ)). taken (somes l) ≤ 12000) (sym same) c.requires.room in
    let order = g.met.C.GistClass.order_rearranges class c.in_ok-keys.keys (c.in-Ok.sides.left ++ c.in-Ok.sides.right) c.requires.class c.in-Ok.ensures.order in
    subst (λ (l : List ℕ). All (λ p. p < length c.as_slice-all.result.now) l) (sym c.as_slice-first.ensures) (items_left V S short c.level-level.result all keys c.in_ok-keys.ensures.ok full room c.in_ok-sizes.sizes c.in_ok-sizes.ensures.ok left right order c.in-Ok.ensures.fit)

pub unreachable-requires : goal.unreachable-requires
unreachable-requires g c =
    let class = c.args.class.now in
    let all = c.as_slice-all.result.now in
    let same = c.as_slice-all.ensures in
    let V = g.C.GistClass.valid_key class in
    let S = g.C.GistClass.spelling class in
    let short = λ (k : g.row.C-Key.Denot) (ok : g.C.GistClass.valid_key class k). g.met.C.GistClass.short_spelling class k c.requires.class ok in
    let keys = c.in_ok-keys.keys in
    let left = c.in-Ok.sides.left in
    let right = c.in-Ok.sides.right in
    let full = subst (λ (l : List (List ℕ)). 8176 < taken (somes l)) (sym same) c.requires.full in
    let room = subst (λ (l : List (List ℕ)). taken (somes l) ≤ 12000) (sym same) c.requires.room in
    let order = g.met.C.GistClass.order_rearranges class c.in_ok-keys.keys (c.in-Ok.sides.left ++ c.in-Ok.sides.right) c.requires.class c.in-Ok.ensures.order in
    fits_left V S short c.level-level.result all keys c.in_ok-keys.ensures.ok full room c.in_ok-sizes.sizes c.in_ok-sizes.ensures.ok left right order c.in-Ok.ensures.fit
    (subst (λ (l : List ℕ). 8176 < taken (somes (picked c.as_slice-all.result.now l))) c.as_slice-first.ensures c.in_default-page_at.ensures.none)

pub page_at-requires-2 : goal.page_at-requires-2
page_at-requires-2 g c =
    let class = c.args.class.now in
    let all = c.as_slice-all.result.now in
    let same = c.as_slice-all.ensures in
    let V = g.C.GistClass.valid_key class in
    let S = g.C.GistClass.spelling class in
    let short = λ (k : g.row.C-Key.Denot) (ok : g.C.GistClass.valid_key class k). g.met.C.GistClass.short_spelling class k c.requires.class ok in
    let keys = c.in_ok-keys.keys in
    let left = c.in-Ok.sides.left in
    let right = c.in-Ok.sides.right in
    let full = subst (λ (l : List (List ℕ)). 8176 < taken (somes l)) (sym same) c.requires.full in
    let room = subst (λ (l : List (List ℕ)). taken (somes l) ≤ 12000) (sym same) c.requires.room in
    let order = g.met.C.GistClass.order_rearranges class c.in_ok-keys.keys (c.in-Ok.sides.left ++ c.in-Ok.sides.right) c.requires.class c.in-Ok.ensures.order in
    subst (λ (l : List ℕ). All (λ p. p < length c.as_slice-all.result.now) l) (sym c.as_slice-second.ensures) (items_right V S short c.level-level.result all keys c.in_ok-keys.ensures.ok full room c.in_ok-sizes.sizes c.in_ok-sizes.ensures.ok left right order c.in-Ok.ensures.fit)

pub unreachable-requires-in_default-page_at-2 : goal.unreachable-requires-in_default-page_at-2
unreachable-requires-in_default-page_at-2 g c =
    let class = c.args.class.now in
    let all = c.as_slice-all.result.now in
    let same = c.as_slice-all.ensures in
    let V = g.C.GistClass.valid_key class in
    let S = g.C.GistClass.spelling class in
    let short = λ (k : g.row.C-Key.Denot) (ok : g.C.GistClass.valid_key class k). g.met.C.GistClass.short_spelling class k c.requires.class ok in
    let keys = c.in_ok-keys.keys in
    let left = c.in-Ok.sides.left in
    let right = c.in-Ok.sides.right in
    let full = subst (λ (l : List (List ℕ)). 8176 < taken (somes l)) (sym same) c.requires.full in
    let room = subst (λ (l : List (List ℕ)). taken (somes l) ≤ 12000) (sym same) c.requires.room in
    let order = g.met.C.GistClass.order_rearranges class c.in_ok-keys.keys (c.in-Ok.sides.left ++ c.in-Ok.sides.right) c.requires.class c.in-Ok.ensures.order in
    fits_right V S short c.level-level.result all keys c.in_ok-keys.ensures.ok full room c.in_ok-sizes.sizes c.in_ok-sizes.ensures.ok left right order c.in-Ok.ensures.fit
    (subst (λ (l : List ℕ). 8176 < taken (somes (picked c.as_slice-all.result.now l))) c.as_slice-second.ensures c.in_default-page_at-2.ensures.none)

pub returns-clause-laid : goal.returns-clause-laid
returns-clause-laid g c =
    let class = c.args.class.now in
    let all = c.as_slice-all.result.now in
    let same = c.as_slice-all.ensures in
    let V = g.C.GistClass.valid_key class in
    let S = g.C.GistClass.spelling class in
    let short = λ (k : g.row.C-Key.Denot) (ok : g.C.GistClass.valid_key class k). g.met.C.GistClass.short_spelling class k c.requires.class ok in
    let keys = c.in_ok-keys.keys in
    let left = c.in-Ok.sides.left in
    let right = c.in-Ok.sides.right in
    let full = subst (λ (l : List (List ℕ)). 8176 < taken (somes l)) (sym same) c.requires.full in
    let room = subst (λ (l : List (List ℕ)). taken (somes l) ≤ 12000) (sym same) c.requires.room in
    let order = g.met.C.GistClass.order_rearranges class c.in_ok-keys.keys (c.in-Ok.sides.left ++ c.in-Ok.sides.right) c.requires.class c.in-Ok.ensures.order in
    let union = λ (places slice : List ℕ) (k : g.row.C-Key.Denot) (is : slice ≡ places) (has : IsUnion (g.C.GistClass.union_of class) (picked c.as_slice-list.result.now slice) k).
    subst (λ (l : List ℕ). IsUnion (g.C.GistClass.union_of class) (picked c.in_ok-keys.keys l) k) is (subst (λ (m : List g.row.C-Key.Denot). IsUnion (g.C.GistClass.union_of class) (picked m slice) k) c.as_slice-list.ensures has) in
    let page = λ (places slice : List ℕ) (s : Slots) (is : slice ≡ places) (has : s ≡ page_with c.level-level.result (picked c.as_slice-all.result.now slice)).
    has ∙ ap (λ (l : List ℕ). page_with c.level-level.result (picked c.as_slice-all.result.now l)) is in
    let made = halves_are V S short c.level-level.result all keys c.in_ok-keys.ensures.ok full room c.in_ok-sizes.sizes c.in_ok-sizes.ensures.ok left right order c.in-Ok.ensures.fit (g.C.GistClass.union_of class) c.in-Some.here c.in-Some-page_at.other c.in_ok-left.left c.in_ok-right.right
    (page left c.as_slice-first.result.now c.in-Some.here c.as_slice-first.ensures c.in-Some.ensures.some) (page right c.as_slice-second.result.now c.in-Some-page_at.other c.as_slice-second.ensures c.in-Some-page_at.ensures.some)
    (union left c.as_slice-first.result.now c.in_ok-left.left c.as_slice-first.ensures c.in_ok-left.ensures.union) (union right c.as_slice-second.result.now c.in_ok-right.right c.as_slice-second.ensures c.in_ok-right.ensures.union) in
    let valid = g.C.GistClass.valid_key class in
    let union_of = g.C.GistClass.union_of class in
    let bytes = g.C.GistClass.spelling class in
    subst (λ (s : Slots). AreHalves valid union_of bytes c.args.slots.now.level c.args.items.now c.in-Some.here s c.in_ok-left.left c.in_ok-right.right) (sym c.in_ok-page.ensures.ok)
    (subst (λ (n : ℕ). AreHalves (g.C.GistClass.valid_key class) (g.C.GistClass.union_of class) (g.C.GistClass.spelling class) n c.args.items.now c.in-Some.here c.in-Some-page_at.other c.in_ok-left.left c.in_ok-right.right) c.level-level.ensures
    (subst (λ (l : List (List ℕ)). AreHalves (g.C.GistClass.valid_key class) (g.C.GistClass.union_of class) (g.C.GistClass.spelling class) c.level-level.result l c.in-Some.here c.in-Some-page_at.other c.in_ok-left.left c.in_ok-right.right) same made))

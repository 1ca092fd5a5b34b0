-- Pages of a tree, level by level.
use Rattle.std.proofs.Common.{◌≡◌, ◌≢◌, ⊎_elim, ℕ, zero, suc, ◌+◌, ◌*◌, ◌^◌, ◌<◌, ◌≤◌, List, [], ◌∷◌, ◌++◌, length, map, Option, Some, None, refl, sym, ◌∙◌, ap, subst, append_assoc, append-nil, length-append, arith}
use Rattle.std.specs.List.{AllByRecursion, flat_map}
use Rattle.std.proofs.lemmas.List.{map-append, length-map}
use Rattle.std.proofs.lemmas.Bool.{cases_lt}
use Rattle.std.proofs.Math.Nat.{pow-suc, mul-le-mul_left}
use Rattle.std.proofs.Math.Pow.{pow_mono}
use Rattle.gx_words.specs.PageMap.{PageMap}
use Rattle.gx_pages.specs.Frees.{IsApart}
use Rattle.gx_pages.specs.Footprints.{IsOutside}
use Rattle.gx_pages.proofs.Footprints as feet
use Rattle.gx_slot.specs.Slots.{Slots, Fits, spelling}
use Rattle.gx_tree.specs.Trees.{Node, Leaf, IsOn, Stand, HaveTwo, Holds, Tree, children, leaves_of, uppers_of, numbers, page_of, pages_of, slots_of}
use Rattle.gx_tree.proofs.Lists.{flat_map_append}

pub children_append : (level : ℕ) (xs ys : List (Node (suc level))) → children level (xs ++ ys) ≡ children level xs ++ children level ys
children_append level xs ys = flat_map_append (λ (node : Node (suc level)). map (λ (item : List ℕ × Node level). item.1) node.1) xs ys

pub leaves_append : (level : ℕ) (xs ys : List (Node level)) → leaves_of level (xs ++ ys) ≡ leaves_of level xs ++ leaves_of level ys
leaves_append zero xs ys = refl
leaves_append (suc level) xs ys = ap (λ (l : List (Node level)). leaves_of level l) (children_append level xs ys) ∙ leaves_append level (children level xs) (children level ys)

pub times_uppers : (n level : ℕ) (xs ys : List (Node level)) → feet.times n (uppers_of level (xs ++ ys)) ≡ feet.times n (uppers_of level xs) + feet.times n (uppers_of level ys)
times_uppers n zero xs ys = refl
times_uppers n (suc level) xs ys =
    let own : map (λ (node : Node (suc level)). node.0) (xs ++ ys) ≡ map (λ (node : Node (suc level)). node.0) xs ++ map (λ (node : Node (suc level)). node.0) ys = map-append (λ (node : Node (suc level)). node.0) xs ys in
    let below = ap (λ (l : List (Node level)). feet.times n (uppers_of level l)) (children_append level xs ys) ∙ times_uppers n level (children level xs) (children level ys) in
    let first = ap (λ (l : List ℕ). feet.times n l) own in
    omega (
      arith,
      below,
      first,
      feet.times-append n (map (λ (node : Node (suc level)). node.0) (xs ++ ys)) (uppers_of level (children level (xs ++ ys))),
      feet.times-append n (map (λ (node : Node (suc level)). node.0) xs) (map (λ (node : Node (suc level)). node.0) ys),
      feet.times-append n (map (λ (node : Node (suc level)). node.0) xs) (uppers_of level (children level xs)),
      feet.times-append n (map (λ (node : Node (suc level)). node.0) ys) (uppers_of level (children level ys)),
    )

pub times_pages : (n level : ℕ) (xs ys : List (Node level)) → feet.times n (pages_of level (xs ++ ys)) ≡ feet.times n (pages_of level xs) + feet.times n (pages_of level ys)
times_pages n level xs ys =
    let ends : numbers (leaves_of level (xs ++ ys)) ≡ numbers (leaves_of level xs) ++ numbers (leaves_of level ys) =
    ap (λ (l : List Leaf). numbers l) (leaves_append level xs ys) ∙ map-append (λ (leaf : Leaf). leaf.0) (leaves_of level xs) (leaves_of level ys) in
    let last = ap (λ (l : List ℕ). feet.times n l) ends in
    omega (
      arith,
      last,
      times_uppers n level xs ys,
      feet.times-append n (uppers_of level (xs ++ ys)) (numbers (leaves_of level (xs ++ ys))),
      feet.times-append n (numbers (leaves_of level xs)) (numbers (leaves_of level ys)),
      feet.times-append n (uppers_of level xs) (numbers (leaves_of level xs)),
      feet.times-append n (uppers_of level ys) (numbers (leaves_of level ys)),
    )

-- the pages of a row, and what is below them
pub pages_suc : (level : ℕ) (nodes : List (Node (suc level))) → pages_of (suc level) nodes ≡ map (λ node. node.0) nodes ++ pages_of level (children level nodes)
pages_suc level nodes = append_assoc (map (λ (node : Node (suc level)). node.0) nodes) (uppers_of level (children level nodes)) (numbers (leaves_of level (children level nodes)))

-- what holds of all pages holds of those of the row
pub row_all : (Q : ℕ → Type 0) (level : ℕ) (nodes : List (Node level)) → AllByRecursion Q (pages_of level nodes) → AllByRecursion Q (map (page_of level) nodes)
row_all Q zero nodes all = all
row_all Q (suc level) nodes all = feet.all_left Q (map (λ (node : Node (suc level)). node.0) nodes) (pages_of level (children level nodes)) (subst (λ (l : List ℕ). AllByRecursion Q l) (pages_suc level nodes) all)

-- pages above level 0 have twice as many below them
two_each : (level : ℕ) (nodes : List (Node (suc level))) → AllByRecursion (λ node. 2 ≤ length node.1) nodes → 2 * length nodes ≤ length (children level nodes)
two_each level [] two = omega arith
two_each level (node ∷ nodes) two =
    let rest = two_each level nodes two.1 in
    let here = two.0 in
    omega (arith, rest, here, length-append (map (λ (item : List ℕ × Node level). item.1) node.1) (children level nodes), length-map node.1 (λ (item : List ℕ × Node level). item.1))

pub many_leaves : (level : ℕ) (nodes : List (Node level)) → HaveTwo level nodes → 2 ^ level * length nodes ≤ length (leaves_of level nodes)
many_leaves zero nodes two = omega arith
many_leaves (suc level) nodes two =
    let rest = many_leaves level (children level nodes) two.1 in
    let here = two_each level nodes two.0 in
    let power = pow-suc 2 level in
    let more = mul-le-mul_left (2 ^ level) here in
    rw power (omega (arith, rest, more))

pub stand_leaves : (now : PageMap) (kind level : ℕ) (nodes : List (Node level)) → Stand now kind level nodes → AllByRecursion (IsOn now kind 0) (leaves_of level nodes)
stand_leaves now kind zero nodes stand = stand
stand_leaves now kind (suc level) nodes stand = stand_leaves now kind level (children level nodes) stand.1

-- a tree has fewer than 50 levels above level 0
some_upper : (level : ℕ) (node : Node level) → 50 ≤ level → 0 < length (uppers_of level (node ∷ []))
some_upper zero node deep = absurd (omega (arith, deep))
some_upper (suc level) node deep = omega arith

pub level_below : (now : PageMap) (count kind root level : ℕ) (node : Node level) → Holds now count kind root (level, node) → count ≤ 2 ^ 50 → level < 50
level_below now count kind root level node held bound =
    ⊎_elim
    (λ few. few)
    (λ deep. absurd (omega (
      arith,
      bound,
      feet.apart_few count (pages_of level (node ∷ [])) held.apart held.below,
      length-append (uppers_of level (node ∷ [])) (numbers (leaves_of level (node ∷ []))),
      length-map (leaves_of level (node ∷ [])) (λ (leaf : Leaf). leaf.0),
      many_leaves level (node ∷ []) held.two,
      pow_mono deep,
      some_upper level node deep,
    )))
    (cases_lt level 50)

pub slots_level : (kind level : ℕ) (node : Node level) → (slots_of kind level node).level ≡ level
slots_level kind zero node = refl
slots_level kind (suc level) node = refl

pub slots_kind : (kind level : ℕ) (node : Node level) → (slots_of kind level node).kind ≡ kind
slots_kind kind zero node = refl
slots_kind kind (suc level) node = refl

-- the root's page
pub root_on : (now : PageMap) (kind level : ℕ) (node : Node level) → Stand now kind level (node ∷ []) → IsOn now kind level node
root_on now kind zero node stand = stand.0
root_on now kind (suc level) node stand = stand.0.0

pub root_below : (Q : ℕ → Type 0) (level : ℕ) (node : Node level) → AllByRecursion Q (pages_of level (node ∷ [])) → Q (page_of level node)
root_below Q level node all = (row_all Q level (node ∷ []) all).0

-- Pages of a tree that are put one behind another.
use Rattle.std.proofs.Common.{◌≡◌, ◌≢◌, ℕ, zero, suc, ◌+◌, ◌<◌, ◌≤◌, List, [], ◌∷◌, ◌++◌, length, map, refl, sym, ◌∙◌, ap, subst, append_assoc, append-nil, length-append, arith}
use Rattle.std.specs.List.{AllByRecursion, flat_map}
use Rattle.std.proofs.lemmas.List.{map-append}
use Rattle.gx_words.specs.PageMap.{PageMap}
use Rattle.gx_pages.proofs.Footprints as feet
use Rattle.gx_tree.specs.Trees.{HaveTwo, IsOn, Leaf, Node, Stand, children, entries_of, items_of, leaves_of, numbers, page_of, pages_of, uppers_of}
use Rattle.gx_tree.proofs.Lists.{flat_map_append}
use Rattle.gx_tree.proofs.Nodes.{children_append, leaves_append, pages_suc, times_pages}

module _ (now : PageMap) (kind : ℕ) where
  pub stand_append : (level : ℕ) (xs ys : List (Node level)) → Stand now kind level xs → Stand now kind level ys → Stand now kind level (xs ++ ys)
  stand_append zero xs ys a b = feet.all_join (IsOn now kind 0) xs ys a b
  stand_append (suc level) xs ys a b = (
    feet.all_join (IsOn now kind (suc level)) xs ys a.0 b.0,
    subst (λ (l : List (Node level)). Stand now kind level l) (sym (children_append level xs ys)) (stand_append level (children level xs) (children level ys) a.1 b.1),
  )

  pub stand_left : (level : ℕ) (xs ys : List (Node level)) → Stand now kind level (xs ++ ys) → Stand now kind level xs
  stand_left zero xs ys both = feet.all_left (IsOn now kind 0) xs ys both
  stand_left (suc level) xs ys both = (
    feet.all_left (IsOn now kind (suc level)) xs ys both.0,
    stand_left level (children level xs) (children level ys) (subst (λ (l : List (Node level)). Stand now kind level l) (children_append level xs ys) both.1),
  )

  pub stand_right : (level : ℕ) (xs ys : List (Node level)) → Stand now kind level (xs ++ ys) → Stand now kind level ys
  stand_right zero xs ys both = feet.all_right (IsOn now kind 0) xs ys both
  stand_right (suc level) xs ys both = (
    feet.all_right (IsOn now kind (suc level)) xs ys both.0,
    stand_right level (children level xs) (children level ys) (subst (λ (l : List (Node level)). Stand now kind level l) (children_append level xs ys) both.1),
  )

pub two_append : (level : ℕ) (xs ys : List (Node level)) → HaveTwo level xs → HaveTwo level ys → HaveTwo level (xs ++ ys)
two_append zero xs ys a b = tt
two_append (suc level) xs ys a b = (
  feet.all_join (λ (node : Node (suc level)). 2 ≤ length node.1) xs ys a.0 b.0,
  subst (λ (l : List (Node level)). HaveTwo level l) (sym (children_append level xs ys)) (two_append level (children level xs) (children level ys) a.1 b.1),
)

pub two_left : (level : ℕ) (xs ys : List (Node level)) → HaveTwo level (xs ++ ys) → HaveTwo level xs
two_left zero xs ys both = tt
two_left (suc level) xs ys both = (
  feet.all_left (λ (node : Node (suc level)). 2 ≤ length node.1) xs ys both.0,
  two_left level (children level xs) (children level ys) (subst (λ (l : List (Node level)). HaveTwo level l) (children_append level xs ys) both.1),
)

pub two_right : (level : ℕ) (xs ys : List (Node level)) → HaveTwo level (xs ++ ys) → HaveTwo level ys
two_right zero xs ys both = tt
two_right (suc level) xs ys both = (
  feet.all_right (λ (node : Node (suc level)). 2 ≤ length node.1) xs ys both.0,
  two_right level (children level xs) (children level ys) (subst (λ (l : List (Node level)). HaveTwo level l) (children_append level xs ys) both.1),
)

pub entries_append : (level : ℕ) (xs ys : List (Node level)) → entries_of level (xs ++ ys) ≡ entries_of level xs ++ entries_of level ys
entries_append level xs ys =
    ap (λ (l : List Leaf). items_of l) (leaves_append level xs ys) ∙ flat_map_append (λ (leaf : Leaf). leaf.1) (leaves_of level xs) (leaves_of level ys)

-- the pages that items name
abbrev pub kids : (level : ℕ) → List (List ℕ × Node level) → List (Node level)
kids level items = map (λ item. item.1) items

pub kids_append : (level : ℕ) (xs ys : List (List ℕ × Node level)) → kids level (xs ++ ys) ≡ kids level xs ++ kids level ys
kids_append level xs ys = map-append (λ (item : List ℕ × Node level). item.1) xs ys

pub kids_of : (level page : ℕ) (items : List (List ℕ × Node level)) → children level ((page, items) ∷ []) ≡ kids level items
kids_of level page items = append-nil (kids level items)

pub node_times : (n level page : ℕ) (items : List (List ℕ × Node level)) → feet.times n (pages_of (suc level) ((page, items) ∷ [])) ≡ feet.times n (page ∷ []) + feet.times n (pages_of level (kids level items))
node_times n level page items =
    let rows : pages_of (suc level) ((page, items) ∷ []) ≡ (page ∷ []) ++ pages_of level (children level ((page, items) ∷ [])) = pages_suc level ((page, items) ∷ []) in
    ap (λ (l : List ℕ). feet.times n l) rows ∙ feet.times-append n (page ∷ []) (pages_of level (children level ((page, items) ∷ [])))
    ∙ ap (λ (l : List (Node level)). feet.times n (page ∷ []) + feet.times n (pages_of level l)) (kids_of level page items)

pub kids_times : (n level : ℕ) (xs ys : List (List ℕ × Node level)) → feet.times n (pages_of level (kids level (xs ++ ys))) ≡ feet.times n (pages_of level (kids level xs)) + feet.times n (pages_of level (kids level ys))
kids_times n level xs ys = ap (λ (l : List (Node level)). feet.times n (pages_of level l)) (kids_append level xs ys) ∙ times_pages n level (kids level xs) (kids level ys)

-- an item in front of others
pub kid_times : (n level : ℕ) (item : List ℕ × Node level) (items : List (List ℕ × Node level))
    → feet.times n (pages_of level (kids level (item ∷ items))) ≡ feet.times n (pages_of level (item.1 ∷ [])) + feet.times n (pages_of level (kids level items))
kid_times n level item items = times_pages n level (item.1 ∷ []) (kids level items)

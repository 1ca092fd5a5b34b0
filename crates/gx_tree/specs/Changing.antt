-- A tree of rising keys, before and after a change at level 0.
use Rattle.std.specs.Prelude.{◌≡◌, ◌≢◌, ◌⊎◌, ℕ, ◌+◌, ◌^◌, ◌<◌, ◌≤◌, List, [], ◌∷◌, ◌++◌, length, map, get_or, Bool, true, false, Option, Some, None}
use Rattle.std.specs.List.{AllByRecursion}
use Rattle.gx_bytes.specs.Fields.{le64}
use Rattle.gx_words.specs.PageMap.{PageMap}
use Rattle.gx_pages.specs.declared.store.Pages.{Ghosts}
use Rattle.gx_pages.specs.Footprints.{IsOutside, KeepsPages}
use Rattle.gx_pages.specs.Frees.{IsApart, IsFreeList}
use Rattle.gx_tree.specs.declared.changing.Sibling.{Sibling}
use Rattle.gx_tree.specs.Orders.{AtMost, IsFrom, IsKeyed, IsUnder, Keys, Order, next}
use Rattle.gx_tree.specs.Paging.{AreOn, listed}
use Rattle.gx_tree.specs.Trees.{HaveTwo, HoldsBeside, Node, Stand, Tree, entries, entries_of, footprint, named, page_of, pages_of, slots_of}

-- what the item of a new page on the right names
abbrev pub beside : Option Sibling → List (List ℕ × ℕ)
beside None = []
beside (Some sibling) = (sibling.key, sibling.page) ∷ []

-- the bytes of an item that names a page
abbrev pub link_bytes : List ℕ × ℕ → List ℕ
link_bytes named = named.0 ++ le64 named.1

-- The key at a place is at most the one that is sought, or it comes behind it.
abbrev pub Reaches : Order → List ℕ → List (List ℕ × ℕ) → ℕ → Bool → Type 0
Reaches order own items slot true = (d : List ℕ × ℕ) → AtMost order (get_or items slot d).0 own
Reaches order own items slot false = (d : List ℕ × ℕ) → order.Less own (get_or items slot d).0

-- The first slot is 0, or its key is at most the one that is sought; the end is that of the page, or its key comes behind.
pub record IsRange (order : Order) (own : List ℕ) (items : List (List ℕ × ℕ)) (slot end : ℕ) : Type 0 where
  pub low : (slot ≡ 0) ⊎ ((d : List ℕ × ℕ) → AtMost order (get_or items slot d).0 own)
  pub high : (end ≡ length items) ⊎ ((d : List ℕ × ℕ) → order.Less own (get_or items end d).0)
  pub within : end ≤ length items

-- The slot is the last one whose key is at most the one that is sought, or the first one.
pub record Chosen (order : Order) (own : List ℕ) (items : List (List ℕ × ℕ)) (slot : ℕ) : Type 0 where
  pub front : List (List ℕ × ℕ)
  pub item : List ℕ × ℕ
  pub back : List (List ℕ × ℕ)
  pub cut : items ≡ front ++ item ∷ back
  pub place : slot ≡ length front
  pub reaches : (front ≡ []) ⊎ AtMost order item.0 own
  pub before : IsUnder order (next None back) own

-- The key that stands for what is below an item, where this one comes to it: the lesser of both.
abbrev pub IsLesser : Order → List ℕ → List ℕ → List ℕ → Type 0
IsLesser order own old key = (AtMost order old own × (key ≡ old)) ⊎ (order.Less own old × (key ≡ own))

-- the key that is kept, or the one that is put in
abbrev pub kept_of : Bool → List ℕ → List ℕ → List ℕ
kept_of true old own = old
kept_of false old own = own

-- Each item has a key and the number of a page.
abbrev pub AreLinks : Order → List (List ℕ × ℕ) → Type 0
AreLinks order items = AllByRecursion (λ item. order.IsKey item.0 × (item.1 < 2 ^ 64)) items

-- On the right there is no page and no item; or there is one that has these items, two at least, and two are left.
abbrev pub IsBeside : PageMap → ℕ → ℕ → Option Sibling → List (List ℕ × ℕ) → List (List ℕ × ℕ) → Type 0
IsBeside map_of kind level None left right = right ≡ []
IsBeside map_of kind level (Some sibling) left right =
    (child : ℕ) × (more : List (List ℕ × ℕ)) × (right ≡ (sibling.key, child) ∷ more) × AreOn map_of kind level sibling.page (map link_bytes right) × (2 ≤ length left) × (2 ≤ length right)

-- the numbers of new pages
abbrev pub page_beside : Option Sibling → List ℕ
page_beside None = []
page_beside (Some sibling) = sibling.page ∷ []

-- A page that stands, with an item among others, and free pages beside it.
pub record Links {P : Type 0} (g : Ghosts P) (pages : P) (order : Order) (own : List ℕ) (kind level page : ℕ) (front : List (List ℕ × ℕ)) (item : List ℕ × ℕ) (back : List (List ℕ × ℕ)) (free : List ℕ) : Type 0 where
  pub key : order.IsKey own
  pub on : AreOn (g.map pages) kind level page (map link_bytes (front ++ item ∷ back))
  pub are : AreLinks order (front ++ item ∷ back)
  pub frees : IsFreeList (g.map pages) (g.count pages) free
  pub outside : IsOutside page free
  pub below : page < g.count pages

-- The page names what became of a page below it: its item has this key, and behind it stands that of a new page.
pub record Relinked {P : Type 0} (g : Ghosts P) (old new : P) (kind level page : ℕ) (front : List (List ℕ × ℕ)) (key : List ℕ) (child : ℕ) (back : List (List ℕ × ℕ))
    (sibling out : Option Sibling) (free : List ℕ) : Type 0 where
  pub rest : List ℕ
  pub left : List (List ℕ × ℕ)
  pub right : List (List ℕ × ℕ)
  pub cut : front ++ (key, child) ∷ beside sibling ++ back ≡ left ++ right
  pub here : AreOn (g.map new) kind level page (map link_bytes left)
  pub there : IsBeside (g.map new) kind level out left right
  pub below : AllByRecursion (λ n. n < g.count new) (page_beside out)
  pub keeps : KeepsPages g old new (page ∷ []) free (page ∷ page_beside out) rest

-- Some items one behind another were changed so, and no others.
pub record Edited (edits : List (List ℕ) → List (List ℕ) → Type 0) (before after : List (List ℕ)) : Type 0 where
  pub front : List (List ℕ)
  pub was : List (List ℕ)
  pub is : List (List ℕ)
  pub back : List (List ℕ)
  pub old : before ≡ front ++ was ++ back
  pub new : after ≡ front ++ is ++ back
  pub done : edits was is

-- Before the change: a page with all below it, among whose keys this one belongs and whose items allow the change, and free pages beside them.
pub record Begins {P : Type 0} (g : Ghosts P) (pages : P) (order : Order) (own : List ℕ) (allows : List ℕ → Type 0) (kind level page : ℕ) (least end : Option (List ℕ)) (node : Node level) (free : List ℕ) : Type 0 where
  pub begins : page_of level node ≡ page
  pub stand : Stand (g.map pages) kind level (node ∷ [])
  pub two : HaveTwo level (node ∷ [])
  pub keyed : IsKeyed order level least end node
  pub key : order.IsKey own
  pub from : IsFrom order least own
  pub under : IsUnder order end own
  pub allowed : AllByRecursion allows (entries_of level (node ∷ []))
  pub below : AllByRecursion (λ n. n < g.count pages) (pages_of level (node ∷ []))
  pub frees : IsFreeList (g.map pages) (g.count pages) free
  pub apart : IsApart (pages_of level (node ∷ []) ++ free)

-- After it: the page with all below it, and perhaps a new page on its right, each with its keys.
pub record Ends {P : Type 0} (g : Ghosts P) (old new : P) (order : Order) (edits : List (List ℕ) → List (List ℕ) → Type 0) (kind level page : ℕ) (least end : Option (List ℕ)) (node : Node level)
    (free : List ℕ) (sibling : Option Sibling) : Type 0 where
  pub left : Node level
  pub right : List (List ℕ × Node level)
  pub rest : List ℕ
  pub named : named level right ≡ beside sibling
  pub begins : page_of level left ≡ page
  pub stand : Stand (g.map new) kind level (left ∷ map (λ item. item.1) right)
  pub two : HaveTwo level (left ∷ map (λ item. item.1) right)
  pub keyed : IsKeyed order level least (next end right) left
  pub others : Keys order (IsKeyed order level) least end right
  pub strict : (l : List ℕ) → least ≡ Some l → IsUnder order (next None right) l
  pub full : 0 < length right → 0 < length (slots_of kind level left).items
  pub below : AllByRecursion (λ n. n < g.count new) (pages_of level (left ∷ map (λ item. item.1) right))
  pub keeps : KeepsPages g old new (pages_of level (node ∷ [])) free (pages_of level (left ∷ map (λ item. item.1) right)) rest
  pub edited : Edited edits (entries_of level (node ∷ [])) (entries_of level (left ∷ map (λ item. item.1) right))

-- Two pages of a level that nothing names yet: the root page of before, and a new one on its right.
pub record Pair {P : Type 0} (g : Ghosts P) (pages : P) (order : Order) (kind level page : ℕ) (left : Node level) (key : List ℕ) (other : Node level) (second : ℕ) (free : List ℕ) : Type 0 where
  pub begins : page_of level left ≡ page
  pub follows : page_of level other ≡ second
  pub stand : Stand (g.map pages) kind level (left ∷ other ∷ [])
  pub two : HaveTwo level (left ∷ other ∷ [])
  pub keyed : IsKeyed order level None (Some key) left
  pub others : Keys order (IsKeyed order level) None None ((key, other) ∷ [])
  pub below : AllByRecursion (λ n. n < g.count pages) (pages_of level (left ∷ other ∷ []))
  pub frees : IsFreeList (g.map pages) (g.count pages) free
  pub apart : IsApart (pages_of level (left ∷ other ∷ []) ++ free)
  pub some : 0 < length (slots_of kind level left).items

-- A tree with the items of both, with one more level.
pub record Raised {P : Type 0} (g : Ghosts P) (old new : P) (order : Order) (kind level root : ℕ) (left other : Node level) (free : List ℕ) : Type 0 where
  pub later : Tree
  pub rest : List ℕ
  pub held : HoldsBeside g new kind root later rest
  pub keyed : IsKeyed order later.0 None None later.1
  pub keeps : KeepsPages g old new (pages_of level (left ∷ other ∷ [])) free (footprint later) rest
  pub same : entries later ≡ entries_of level (left ∷ other ∷ [])

-- A tree of rising keys with some items of level 0 changed.
pub record Changed {P : Type 0} (g : Ghosts P) (old new : P) (order : Order) (edits : List (List ℕ) → List (List ℕ) → Type 0) (kind root : ℕ) (tree : Tree) (free : List ℕ) : Type 0 where
  pub later : Tree
  pub rest : List ℕ
  pub held : HoldsBeside g new kind root later rest
  pub keyed : IsKeyed order later.0 None None later.1
  pub keeps : KeepsPages g old new (footprint tree) free (footprint later) rest
  pub edited : Edited edits (entries tree) (entries later)

-- The order of the keys in a tree.
use Rattle.std.specs.Prelude.{◌≡◌, ℕ, zero, suc, ◌≤◌, List, [], ◌∷◌, ◌++◌, length, Option, Some, None}
use Rattle.std.specs.List.{AllByRecursion}
use Rattle.gx_tree.specs.Trees.{Node}

-- Which bytes are a key of an item above level 0, which key comes before another, and which one is at most another; when items of level 0 rise, from one key on
-- and below another, where there are such keys; and which key is the least of an item of level 0.
pub record Order : Type 1 where
  pub IsKey : List ℕ → Type 0
  pub Less : List ℕ → List ℕ → Type 0
  pub AtMost : List ℕ → List ℕ → Type 0
  pub AreIn : Option (List ℕ) → Option (List ℕ) → List (List ℕ) → Type 0
  pub IsLeast : List ℕ → List ℕ → Type 0

abbrev pub AtMost : Order → List ℕ → List ℕ → Type 0
AtMost order a b = order.AtMost a b

-- the key isn't before this one
abbrev pub IsFrom : Order → Option (List ℕ) → List ℕ → Type 0
IsFrom order None key = Unit {0}
IsFrom order (Some least) key = AtMost order least key

-- the key comes before this one
abbrev pub IsUnder : Order → Option (List ℕ) → List ℕ → Type 0
IsUnder order None key = Unit {0}
IsUnder order (Some end) key = order.Less key end

-- the key of the first item, or the one that ends them
abbrev pub next : {N : Type 0} → Option (List ℕ) → List (List ℕ × N) → Option (List ℕ)
next end [] = end
next end (item ∷ items) = Some item.0

-- Keys rise, each from the first bound on and below the second one; what is below an item lies between its key and the next one.
abbrev pub Keys : {N : Type 0} → Order → (Option (List ℕ) → Option (List ℕ) → N → Type 0) → Option (List ℕ) → Option (List ℕ) → List (List ℕ × N) → Type 0
Keys order below least end [] = Unit {0}
Keys order below least end (item ∷ items) =
    order.IsKey item.0 × IsFrom order least item.0 × IsUnder order (next end items) item.0 × below (Some item.0) (next end items) item.1 × Keys order below (Some item.0) end items

-- so do the keys of a page and of all pages below it
abbrev pub IsKeyed : Order → (level : ℕ) → Option (List ℕ) → Option (List ℕ) → Node level → Type 0
IsKeyed order zero least end node = order.AreIn least end node.1
IsKeyed order (suc level) least end node = Keys order (IsKeyed order level) least end node.1

-- What an order owes: no key comes before itself; keys and items are short; an item lies between what comes before and behind it; items that rise stay so where the bound before them falls, and where
-- they are cut at the least key of one of them or joined.
pub record IsLawful (order : Order) : Type 0 where
  pub strict : (a : List ℕ) → order.Less a a → ⊥
  pub most_less : (a b c : List ℕ) → order.AtMost a b → order.Less b c → order.Less a c
  pub less_most : (a b c : List ℕ) → order.Less a b → order.AtMost b c → order.Less a c
  pub most_most : (a b c : List ℕ) → order.AtMost a b → order.AtMost b c → order.AtMost a c
  pub less_is_most : (a b : List ℕ) → order.Less a b → order.AtMost a b
  pub itself : (a : List ℕ) → order.AtMost a a
  pub between : (a b item : List ℕ) (items : List (List ℕ)) → order.AreIn (Some a) (Some b) (item ∷ items) → order.Less a b
  pub short : (key : List ℕ) → order.IsKey key → length key ≤ 1903
  pub small : (least end : Option (List ℕ)) (items : List (List ℕ)) → order.AreIn least end items → AllByRecursion (λ item. length item ≤ 2416) items
  pub none : (least end : Option (List ℕ)) → order.AreIn least end []
  pub lower : (least lower end : Option (List ℕ)) (items : List (List ℕ)) → ((key : List ℕ) → IsFrom order least key → IsFrom order lower key) → order.AreIn least end items → order.AreIn lower end items
  pub join : (least end : Option (List ℕ)) (key : List ℕ) (front back : List (List ℕ)) → order.AreIn least (Some key) front → order.AreIn (Some key) end back → IsFrom order least key → IsUnder order end key
      → order.AreIn least end (front ++ back)
  pub cut : (least end : Option (List ℕ)) (key item : List ℕ) (front back : List (List ℕ)) → order.AreIn least end (front ++ item ∷ back) → order.IsLeast item key
      → order.IsKey key × IsFrom order least key × IsUnder order end key × order.AreIn least (Some key) front × order.AreIn (Some key) end (item ∷ back)

-- A page of level 0 whose items change.
use Rattle.std.proofs.Common.{◌≡◌, ◌≢◌, inl, inr, ℕ, zero, suc, ◌+◌, ◌<◌, ◌≤◌, List, [], ◌∷◌, ◌++◌, length, map, get_or, slice_get, Option, Some, None, refl, sym, ◌∙◌, ap, subst, append_assoc, append-nil, length-append, arith}
use Rattle.std.specs.List.{AllByRecursion}
use Rattle.gx_words.specs.PageMap.{PageMap}
use Rattle.gx_pages.specs.declared.store.Pages.{Ghosts}
use Rattle.gx_pages.specs.Footprints.{KeepsPages}
use Rattle.gx_tree.specs.declared.changing.Sibling.{Sibling}
use Rattle.gx_tree.specs.Changing.{Begins, Edited, Ends}
use Rattle.gx_tree.specs.Orders.{IsFrom, IsKeyed, IsLawful, IsUnder, Keys, Order, next}
use Rattle.gx_tree.specs.Paging.{AreOn, Parted, listed}
use Rattle.gx_tree.specs.Trees.{IsOn, Node, Stand, pages_of}

module _ {P : Type 0} (g : Ghosts P) (order : Order) (law : IsLawful order) (own : List ℕ) (allows : List ℕ → Type 0) (edits : List (List ℕ) → List (List ℕ) → Type 0) (kind page : ℕ) (least end : Option (List ℕ))
    (old new : P) (node : Node 0) (free : List ℕ) (begins : Begins g old order own allows kind 0 page least end node free)
    (items : List (List ℕ)) (are : order.AreIn least end items) (done : edits node.1 items) where
  leaf_on : (p : ℕ) (xs : List (List ℕ)) → AreOn (g.map new) kind 0 p xs → IsOn (g.map new) kind 0 (p, xs)
  leaf_on p xs on = record { some = on.some; is = on.is; fits = on.fits }

  page_below : page < g.count old
  page_below = subst (λ (n : ℕ). n < g.count old) begins.begins begins.below.0

  from_page : (after rest : List ℕ) → KeepsPages g old new (page ∷ []) free after rest → KeepsPages g old new (pages_of 0 (node ∷ [])) free after rest
  from_page after rest keeps = subst (λ (n : ℕ). KeepsPages g old new (n ∷ []) free after rest) (sym begins.begins) keeps

  pub leaf_none : (rest : List ℕ) → Parted g old new kind 0 1 page items None free rest → Ends g old new order edits kind 0 page least end node free None
  leaf_none rest parted =
      let all : parted.left ≡ items = sym (append-nil parted.left) ∙ ap (λ (l : List (List ℕ)). parted.left ++ l) (sym parted.there) ∙ sym parted.cut in
      record {
        left = (page, parted.left);
        right = [];
        rest = rest;
        named = refl;
        begins = refl;
        stand = (leaf_on page parted.left parted.here, tt);
        two = tt;
        keyed = subst (λ (l : List (List ℕ)). order.AreIn least end l) (sym all) are;
        others = tt;
        strict = λ l is. tt;
        full = λ some. absurd (omega (arith, some));
        below = ((let grows = parted.keeps.grows in omega (arith, grows, page_below)), tt);
        keeps = from_page (page ∷ []) rest parted.keeps;
        edited = record { front = []; was = node.1; is = items; back = []; old = refl; new = ap (λ (l : List (List ℕ)). l ++ []) all; done = done };
      }

  -- the item at the place where the second page begins
  record First (xs ys : List (List ℕ)) (item : List ℕ) : Type 0 where
    pub more : List (List ℕ)
    pub is : ys ≡ item ∷ more

  first_at : (xs ys : List (List ℕ)) (item : List ℕ) → slice_get (xs ++ ys) (length xs) ≡ Some item → First xs ys item
  first_at [] [] item is = absurd (let e : None ≡ Some item = is in cc)
  first_at [] (y ∷ ys) item is = record { more = ys; is = (let e : Some y ≡ Some item = is in let f : y ≡ item = cc in ap (λ (l : List ℕ). l ∷ ys) f) }
  first_at (x ∷ xs) ys item is = let rest = first_at xs ys item is in record { more = rest.more; is = rest.is }

  leaf_strict : (key : List ℕ) (xs : List (List ℕ)) → 0 < length xs → order.AreIn least (Some key) xs → (l : List ℕ) → least ≡ Some l → order.Less l key
  leaf_strict key [] some inside l is = absurd (omega (arith, some))
  leaf_strict key (x ∷ xs) some inside l is = law.between l key x xs (subst (λ (b : Option (List ℕ)). order.AreIn b (Some key) (x ∷ xs)) is inside)

  map_many : (xs : List (List ℕ)) → 0 < length xs → 0 < length (map (λ (item : List ℕ). Some item) xs)
  map_many [] some = absurd (omega (arith, some))
  map_many (x ∷ xs) some = omega arith

  pub leaf_some : (s : Sibling) (second : ℕ) → s.page ≡ second → (rest : List ℕ) (parted : Parted g old new kind 0 1 page items (Some second) free rest) (item : List ℕ) → slice_get items (length parted.left) ≡ Some item → order.IsLeast item s.key
      → Ends g old new order edits kind 0 page least end node free (Some s)
  leaf_some s second same rest parted item at key =
      let first = first_at parted.left parted.right item (ap (λ (l : List (List ℕ)). slice_get l (length parted.left)) (sym parted.cut) ∙ at) in
      let whole : items ≡ parted.left ++ item ∷ first.more = parted.cut ∙ ap (λ (l : List (List ℕ)). parted.left ++ l) first.is in
      let cut = law.cut least end s.key item parted.left first.more (subst (λ (l : List (List ℕ)). order.AreIn least end l) whole are) key in
      let there = parted.there in
      let some : 0 < length parted.left = (let l = there.1 in omega (arith, l)) in
      record {
        left = (page, parted.left);
        right = (s.key, (s.page, parted.right)) ∷ [];
        rest = rest;
        named = refl;
        begins = refl;
        stand = (leaf_on page parted.left parted.here, (leaf_on s.page parted.right (subst (λ (n : ℕ). AreOn (g.map new) kind 0 n parted.right) (sym same) there.0), tt));
        two = tt;
        keyed = cut.3;
        others = (cut.0, cut.1, cut.2, subst (λ (l : List (List ℕ)). order.AreIn (Some s.key) end l) (sym first.is) cut.4, tt);
        strict = λ l is. leaf_strict s.key parted.left some cut.3 l is;
        full = λ any. map_many parted.left some;
        below = ((let grows = parted.keeps.grows in omega (arith, grows, page_below)), subst (λ (n : ℕ). AllByRecursion (λ (k : ℕ). k < g.count new) (n ∷ [])) (sym same) parted.below);
        keeps = from_page (page ∷ s.page ∷ []) rest (subst (λ (n : ℕ). KeepsPages g old new (page ∷ []) free (page ∷ n ∷ []) rest) (sym same) parted.keeps);
        edited = record {
          front = [];
          was = node.1;
          is = items;
          back = [];
          old = refl;
          new = sym (append_assoc parted.left parted.right []) ∙ ap (λ (l : List (List ℕ)). l ++ []) (sym parted.cut);
          done = done;
        };
      }

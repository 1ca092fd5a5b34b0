-- The items of a page above level 0, with one that has another key and perhaps a new one behind it.
use Rattle.std.proofs.Common.{◌≡◌, ◌≢◌, ⊎_elim, ℕ, zero, suc, ◌+◌, ◌*◌, ◌^◌, ◌<◌, ◌≤◌, Bool, true, false, List, [], ◌∷◌, ◌++◌, length, map, take, drop, get_or, slice_get, Option, Some, None, refl, sym, ◌∙◌, ap, subst, append_assoc, append-nil, length-append, arith}
use Rattle.std.specs.Prelude.{IfSome}
use Rattle.std.specs.List.{AllByRecursion}
use Rattle.std.specs.Option.{option_map}
use Rattle.std.proofs.lemmas.List.{drop_at, drop-map, length-map, length-take-le, map-append, take-append-drop, take-map, take_at}
use Rattle.gx_bytes.specs.Fields.{le64, length-le64}
use Rattle.gx_words.specs.PageMap.{PageMap}
use Rattle.gx_pages.specs.declared.store.Pages.{Ghosts}
use Rattle.gx_pages.specs.Frees.{IsFreeList}
use Rattle.gx_pages.specs.Footprints.{KeepsPages}
use Rattle.gx_pages.proofs.Footprints as feet
use Rattle.gx_slot.specs.Slots.{Fits, Slots, taken}
use Rattle.gx_tree.specs.declared.changing.Sibling.{Sibling}
use Rattle.gx_tree.specs.declared.writing.Right.{Right}
use Rattle.gx_tree.specs.Changing.{AreLinks, IsBeside, Links, Relinked, beside, kept_of, link_bytes, page_beside}
use Rattle.gx_tree.specs.Orders.{IsLawful, Order}
use Rattle.gx_tree.specs.Paging.{AreOn, CanSplit, Parted, listed, replaced, weight}
use Rattle.gx_tree.specs.Trees.{link, slots}
use Rattle.gx_tree.proofs.Upper.{link_map}
use Rattle.gx_tree.proofs.Weights.{taken_weight, weight-append}

pub get_middle : (front : List (List ℕ × ℕ)) (item : List ℕ × ℕ) (back : List (List ℕ × ℕ)) (slot : ℕ) (d : List ℕ × ℕ) → slot ≡ length front → get_or (front ++ item ∷ back) slot d ≡ item
get_middle [] item back slot d is = ap (λ (n : ℕ). get_or (item ∷ back) n d) is
get_middle (x ∷ front) item back slot d is = ap (λ (n : ℕ). get_or (x ∷ (front ++ item ∷ back)) n d) is ∙ get_middle front item back (length front) d refl

pub in_middle : (front : List (List ℕ × ℕ)) (item : List ℕ × ℕ) (back : List (List ℕ × ℕ)) (slot : ℕ) → slot ≡ length front → slot < length (front ++ item ∷ back)
in_middle front item back slot is = omega (arith, is, length-append front (item ∷ back))

listed_beside : (sibling : Option Sibling) → listed (option_map (λ s. link_bytes (s.key, s.page)) sibling) ≡ map link_bytes (beside sibling)
listed_beside None = refl
listed_beside (Some s) = refl

pub linked_items : (front : List (List ℕ × ℕ)) (item : List ℕ × ℕ) (back : List (List ℕ × ℕ)) (slot : ℕ) (key one : List ℕ) (child : ℕ) (sibling : Option Sibling) (other : Option (List ℕ)) → slot ≡ length front
    → child ≡ item.1 → one ≡ link_bytes (key, child) → other ≡ option_map (λ s. link_bytes (s.key, s.page)) sibling
    → replaced (map link_bytes (front ++ item ∷ back)) slot (slot + 1) (one ∷ listed other) ≡ map link_bytes (front ++ (key, item.1) ∷ beside sibling ++ back)
linked_items front item back slot key one child sibling other place child_is one_is other_is =
    let all : map link_bytes (front ++ item ∷ back) ≡ map link_bytes front ++ link_bytes item ∷ map link_bytes back = map-append link_bytes front (item ∷ back) in
    let size : length (map link_bytes front) ≡ slot = length-map front link_bytes ∙ sym place in
    let head : take slot (map link_bytes (front ++ item ∷ back)) ≡ map link_bytes front = ap (λ (l : List (List ℕ)). take slot l) all ∙ take_at (map link_bytes front) (link_bytes item ∷ map link_bytes back) slot size in
    let whole : map link_bytes (front ++ item ∷ back) ≡ (map link_bytes front ++ link_bytes item ∷ []) ++ map link_bytes back = all ∙ sym (append_assoc (map link_bytes front) (link_bytes item ∷ []) (map link_bytes back)) in
    let tail : drop (slot + 1) (map link_bytes (front ++ item ∷ back)) ≡ map link_bytes back =
    ap (λ (l : List (List ℕ)). drop (slot + 1) l) whole ∙ drop_at (map link_bytes front ++ link_bytes item ∷ []) (map link_bytes back) (slot + 1) (omega (arith, size, length-append (map link_bytes front) (link_bytes item ∷ []))) in
    let new : one ∷ listed other ≡ map link_bytes ((key, item.1) ∷ beside sibling) =
    ap (λ (l : List ℕ). l ∷ listed other) (one_is ∙ ap (λ (n : ℕ). link_bytes (key, n)) child_is) ∙ ap (λ (l : List (List ℕ)). link_bytes (key, item.1) ∷ l) (ap (λ (o : Option (List ℕ)). listed o) other_is ∙ listed_beside sibling) in
    ap (λ (l : List (List ℕ)). l ++ (one ∷ listed other) ++ drop (slot + 1) (map link_bytes (front ++ item ∷ back))) head
    ∙ ap (λ (l : List (List ℕ)). map link_bytes front ++ (one ∷ listed other) ++ l) tail
    ∙ ap (λ (l : List (List ℕ)). map link_bytes front ++ l ++ map link_bytes back) new
    ∙ ap (λ (l : List (List ℕ)). l ++ map link_bytes back) (sym (map-append link_bytes front ((key, item.1) ∷ beside sibling)))
    ∙ sym (map-append link_bytes (front ++ (key, item.1) ∷ beside sibling) back)

-- items of links, cut
links_left : (left right : List (List ℕ)) (items : List (List ℕ × ℕ)) → map link_bytes items ≡ left ++ right → map link_bytes (take (length left) items) ≡ left
links_left left right items is = sym (take-map link_bytes (length left) items) ∙ ap (λ (l : List (List ℕ)). take (length left) l) is ∙ take_at left right (length left) refl

links_right : (left right : List (List ℕ)) (items : List (List ℕ × ℕ)) → map link_bytes items ≡ left ++ right → map link_bytes (drop (length left) items) ≡ right
links_right left right items is = sym (drop-map link_bytes (length left) items) ∙ ap (λ (l : List (List ℕ)). drop (length left) l) is ∙ drop_at left right (length left) refl

no_links : (items : List (List ℕ × ℕ)) → map link_bytes items ≡ [] → items ≡ []
no_links [] none = refl
no_links (x ∷ items) none = absurd (let e = ap (λ (l : List (List ℕ)). length l) none in omega (arith, e))

-- the first of the items from a place on
record FirstLink (items : List (List ℕ × ℕ)) (key : List ℕ) : Type 0 where
  pub child : ℕ
  pub more : List (List ℕ × ℕ)
  pub is : items ≡ (key, child) ∷ more

first_link : (items : List (List ℕ × ℕ)) (place : ℕ) (key : List ℕ) → place < length items → ((d : List ℕ × ℕ) → key ≡ (get_or items place d).0) → FirstLink (drop place items) key
first_link [] place key below is = absurd (omega (arith, below))
first_link (x ∷ items) zero key below is = record { child = x.1; more = items; is = ap (λ (k : List ℕ). (k, x.1) ∷ items) (sym (is ([], 0))) }
first_link (x ∷ items) (suc place) key below is = first_link items place key (omega (arith, below)) is

module _ {P : Type 0} (g : Ghosts P) (old new : P) (kind level page : ℕ) (front : List (List ℕ × ℕ)) (key : List ℕ) (child : ℕ) (back : List (List ℕ × ℕ)) (sibling : Option Sibling) (free rest : List ℕ)
    (items : List (List ℕ)) (are : items ≡ map link_bytes (front ++ (key, child) ∷ beside sibling ++ back)) where
  abbrev all : List (List ℕ × ℕ)
  all = front ++ (key, child) ∷ beside sibling ++ back

  on_links : (page : ℕ) (raw : List (List ℕ)) (links : List (List ℕ × ℕ)) → map link_bytes links ≡ raw → AreOn (g.map new) kind level page raw → AreOn (g.map new) kind level page (map link_bytes links)
  on_links page raw links is on = subst (λ (l : List (List ℕ)). AreOn (g.map new) kind level page l) (sym is) on

  pub relinked_none : Parted g old new kind level 2 page items None free rest → Relinked g old new kind level page front key child back sibling None free
  relinked_none parted =
      let cut : map link_bytes all ≡ parted.left ++ parted.right = sym are ∙ parted.cut in
      record {
        rest = rest;
        left = take (length parted.left) all;
        right = drop (length parted.left) all;
        cut = sym (take-append-drop (length parted.left) all);
        here = on_links page parted.left (take (length parted.left) all) (links_left parted.left parted.right all cut) parted.here;
        there = no_links (drop (length parted.left) all) (links_right parted.left parted.right all cut ∙ parted.there);
        below = parted.below;
        keeps = parted.keeps;
      }

  pub relinked_some : (s : Sibling) (second : ℕ) → s.page ≡ second → (parted : Parted g old new kind level 2 page items (Some second) free rest) → ((d : List ℕ × ℕ) → s.key ≡ (get_or all (length parted.left) d).0)
      → Relinked g old new kind level page front key child back sibling (Some s) free
  relinked_some s second same parted named =
      let cut : map link_bytes all ≡ parted.left ++ parted.right = sym are ∙ parted.cut in
      let left_is = links_left parted.left parted.right all cut in
      let right_is = links_right parted.left parted.right all cut in
      let there = parted.there in
      let left_many : 2 ≤ length (take (length parted.left) all) = (let e = sym (length-map (take (length parted.left) all) link_bytes) ∙ ap (λ (l : List (List ℕ)). length l) left_is in let m = there.1 in omega (arith, e, m)) in
      let right_many : 2 ≤ length (drop (length parted.left) all) = (let e = sym (length-map (drop (length parted.left) all) link_bytes) ∙ ap (λ (l : List (List ℕ)). length l) right_is in let m = there.2 in omega (arith, e, m)) in
      let size : length all ≡ length parted.left + length parted.right = sym (length-map all link_bytes) ∙ ap (λ (l : List (List ℕ)). length l) cut ∙ length-append parted.left parted.right in
      let first = first_link all (length parted.left) s.key (let m = there.2 in omega (arith, size, m)) named in
      record {
        rest = rest;
        left = take (length parted.left) all;
        right = drop (length parted.left) all;
        cut = sym (take-append-drop (length parted.left) all);
        here = on_links page parted.left (take (length parted.left) all) left_is parted.here;
        there = (
          first.child,
          first.more,
          first.is,
          subst (λ (n : ℕ). AreOn (g.map new) kind level n (map link_bytes (drop (length parted.left) all))) (sym same) (on_links second parted.right (drop (length parted.left) all) right_is there.0),
          left_many,
          right_many,
        );
        below = subst (λ (n : ℕ). AllByRecursion (λ (k : ℕ). k < g.count new) (n ∷ [])) (sym same) parted.below;
        keeps = subst (λ (n : ℕ). KeepsPages g old new (page ∷ []) free (page ∷ n ∷ []) rest) (sym same) parted.keeps;
      }

-- a page that stays
pub relinked_same : {P : Type 0} (g : Ghosts P) (pages : P) (order : Order) (own : List ℕ) (kind level page : ℕ) (front : List (List ℕ × ℕ)) (item : List ℕ × ℕ) (back : List (List ℕ × ℕ)) (sibling : Option Sibling) (kept : Bool) (free : List ℕ)
    → Links g pages order own kind level page front item back free → kept ≡ true → sibling ≡ None → Relinked g pages pages kind level page front (kept_of kept item.0 own) item.1 back sibling None free
relinked_same g pages order own kind level page front item back sibling kept free links stays none =
    let key : kept_of kept item.0 own ≡ item.0 = ap (λ (b : Bool). kept_of b item.0 own) stays in
    let same : front ++ (kept_of kept item.0 own, item.1) ∷ beside sibling ++ back ≡ front ++ item ∷ back =
    ap (λ (k : List ℕ). front ++ (k, item.1) ∷ beside sibling ++ back) key ∙ ap (λ (s : Option Sibling). front ++ (item.0, item.1) ∷ beside s ++ back) none ∙ append_assoc front (item ∷ []) back in
    record {
      rest = free;
      left = front ++ item ∷ back;
      right = [];
      cut = same ∙ sym (append-nil (front ++ item ∷ back));
      here = links.on;
      there = refl;
      below = tt;
      keeps = feet.keeps_none g pages (page ∷ []) free links.frees;
    }

short_links : (order : Order) (law : IsLawful order) (items : List (List ℕ × ℕ)) → AllByRecursion (λ item. order.IsKey item.0) items → AllByRecursion (λ item. 4 + length item ≤ 1915) (map link_bytes items)
short_links order law [] keys = tt
short_links order law (x ∷ items) keys = ((let few = law.short x.0 keys.0 in omega (arith, few, length-append x.0 (le64 x.1), length-le64 x.1)), short_links order law items keys.1)

beside_keys : (order : Order) (sibling : Option Sibling) → IfSome sibling (λ s. order.IsKey s.key) → AllByRecursion (λ item. order.IsKey item.0) (beside sibling)
beside_keys order None is = tt
beside_keys order (Some s) is = (is, tt)

beside_few : (sibling : Option Sibling) → length (beside sibling) ≤ 1
beside_few None = omega arith
beside_few (Some s) = omega arith

weight_few : (items : List (List ℕ)) → AllByRecursion (λ item. 4 + length item ≤ 1915) items → weight items ≤ 1915 * length items
weight_few [] each = omega arith
weight_few (x ∷ items) each = let rest = weight_few items each.1 in let here = each.0 in omega (arith, rest, here)

kept_key : (order : Order) (kept : Bool) (old own : List ℕ) → order.IsKey old → order.IsKey own → order.IsKey (kept_of kept old own)
kept_key order true old own is mine = is
kept_key order false old own is mine = mine

-- the items of the page can be split
pub links_split : {P : Type 0} (g : Ghosts P) (pages : P) (order : Order) (law : IsLawful order) (own : List ℕ) (kind level page : ℕ) (front : List (List ℕ × ℕ)) (item : List ℕ × ℕ) (back : List (List ℕ × ℕ)) (sibling : Option Sibling) (kept : Bool) (free : List ℕ)
    → Links g pages order own kind level page front item back free → IfSome sibling (λ s. order.IsKey s.key) → CanSplit 2 (map link_bytes (front ++ (kept_of kept item.0 own, item.1) ∷ beside sibling ++ back))
links_split g pages order law own kind level page front item back sibling kept free links is_key =
    let K : List ℕ × ℕ → Type 0 = λ x. order.IsKey x.0 in
    let keys : AllByRecursion (λ (x : List ℕ × ℕ). order.IsKey x.0) (front ++ item ∷ back) = feet.all_weaker (λ (x : List ℕ × ℕ). order.IsKey x.0 × (x.1 < 2 ^ 64)) (λ (x : List ℕ × ℕ). order.IsKey x.0) (front ++ item ∷ back) (λ x both. both.0) links.are in
    let front_keys = feet.all_left (λ (x : List ℕ × ℕ). order.IsKey x.0) front (item ∷ back) keys in
    let rest_keys = feet.all_right (λ (x : List ℕ × ℕ). order.IsKey x.0) front (item ∷ back) keys in
    let new : List (List ℕ × ℕ) = (kept_of kept item.0 own, item.1) ∷ beside sibling in
    let new_keys : AllByRecursion (λ (x : List ℕ × ℕ). order.IsKey x.0) new = (kept_key order kept item.0 own rest_keys.0 links.key, beside_keys order sibling is_key) in
    let all_keys = feet.all_join (λ (x : List ℕ × ℕ). order.IsKey x.0) (front ++ new) back (feet.all_join (λ (x : List ℕ × ℕ). order.IsKey x.0) front new front_keys new_keys) rest_keys.1 in
    let old_weight : weight (map link_bytes (front ++ item ∷ back)) ≤ 8176 = (let room = links.on.fits.room in let e = taken_weight (map link_bytes (front ++ item ∷ back)) in omega (arith, room, e)) in
    let a = ap (λ (l : List (List ℕ)). weight l) (map-append link_bytes front (item ∷ back)) ∙ weight-append (map link_bytes front) (link_bytes item ∷ map link_bytes back) in
    let b = ap (λ (l : List (List ℕ)). weight l) (map-append link_bytes (front ++ new) back) ∙ weight-append (map link_bytes (front ++ new)) (map link_bytes back) in
    let c = ap (λ (l : List (List ℕ)). weight l) (map-append link_bytes front new) ∙ weight-append (map link_bytes front) (map link_bytes new) in
    let d = weight_few (map link_bytes new) (short_links order law new new_keys) in
    let e = length-map new link_bytes in
    let f = beside_few sibling in
    record {
      bound = 1915;
      extra = 3830;
      each = short_links order law (front ++ new ++ back) all_keys;
      room = omega (arith, old_weight, a, b, c, d, e, f);
      narrow = omega arith;
      many = omega arith;
    }

pub get_link : (links : List (List ℕ × ℕ)) (place : ℕ) (d : List ℕ × ℕ) (item : List ℕ) → slice_get (map link_bytes links) place ≡ Some item → item ≡ link_bytes (get_or links place d)
get_link [] zero d item is = absurd (let e : None ≡ Some item = is in cc)
get_link [] (suc place) d item is = absurd (let e : None ≡ Some item = is in cc)
get_link (x ∷ links) zero d item is = let e : Some (link_bytes x) ≡ Some item = is in let f : link_bytes x ≡ item = cc in sym f
get_link (x ∷ links) (suc place) d item is = get_link links place d item is

pub none_kept : (kept : Bool) → (kept ≡ true → ⊥) → (kept ≡ false → ⊥) → ⊥
none_kept true first second = first refl
none_kept false first second = second refl

pub kept_is : (kept : Bool) (key old own : List ℕ) → (kept ≡ true → Some key ≡ Some old) → (kept ≡ false → Some key ≡ Some own) → key ≡ kept_of kept old own
kept_is true key old own first second = let e = first refl in cc
kept_is false key old own first second = let e = second refl in cc

pub links_fit : (order : Order) (items : List (List ℕ × ℕ)) → AreLinks order items → AllByRecursion (λ item. item.1 < 2 ^ 64) items
links_fit order items links = feet.all_weaker (λ (x : List ℕ × ℕ). order.IsKey x.0 × (x.1 < 2 ^ 64)) (λ (x : List ℕ × ℕ). x.1 < 2 ^ 64) items (λ x both. both.1) links

-- what a write leaves, by what it answers
abbrev pub Left : {P : Type 0} → Ghosts P → P → P → ℕ → ℕ → ℕ → ℕ → List (List ℕ) → List ℕ → Option Right → Type 0
Left g old new kind level least page items free right =
    (rest : List ℕ) × (parted : Parted g old new kind level least page items (option_map (λ r. r.page) right) free rest) × IfSome right (λ r. r.place ≡ length parted.left)

pub place_below : {P : Type 0} (g : Ghosts P) (old new : P) (kind level page : ℕ) (items : List (List ℕ)) (free : List ℕ) (right : Option Right) (r : Right) → right ≡ Some r → Left g old new kind level 2 page items free right
    → r.place < length items
place_below g old new kind level page items free right r is left =
    let here = subst (λ (o : Option Right). Left g old new kind level 2 page items free o) is left in
    let size = ap (λ (l : List (List ℕ)). length l) here.1.cut in
    let many = here.1.there.2 in
    let place = here.2 in
    omega (arith, size, many, place, length-append here.1.left here.1.right)

module _ {P : Type 0} (g : Ghosts P) (old new : P) (kind level page : ℕ) (front : List (List ℕ × ℕ)) (key : List ℕ) (child : ℕ) (back : List (List ℕ × ℕ)) (sibling : Option Sibling) (free : List ℕ)
    (items : List (List ℕ)) (are : items ≡ map link_bytes (front ++ (key, child) ∷ beside sibling ++ back)) (right : Option Right) (left : Left g old new kind level 2 page items free right) where
  pub left_none : right ≡ None → Relinked g old new kind level page front key child back sibling None free
  left_none is =
      let here = subst (λ (o : Option Right). Left g old new kind level 2 page items free o) is left in
      relinked_none g old new kind level page front key child back sibling free here.0 items are here.1

  pub left_some : (r : Right) (s : Sibling) → right ≡ Some r → s.page ≡ r.page → ((d : List ℕ × ℕ) → s.key ≡ (get_or (front ++ (key, child) ∷ beside sibling ++ back) r.place d).0)
      → Relinked g old new kind level page front key child back sibling (Some s) free
  left_some r s is same named =
      let here = subst (λ (o : Option Right). Left g old new kind level 2 page items free o) is left in
      relinked_some g old new kind level page front key child back sibling free here.0 items are s r.page same here.1
      (λ d. named d ∙ ap (λ (n : ℕ). (get_or (front ++ (key, child) ∷ beside sibling ++ back) n d).0) here.2)

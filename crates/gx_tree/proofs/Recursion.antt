-- A change below a page, from a change at level 0 or below one of its items.
use Rattle.std.proofs.Common.{◌≡◌, ◌≢◌, ◌⊎◌, inl, inr, ⊎_elim, ℕ, zero, suc, ◌+◌, ◌-◌, ◌^◌, ◌<◌, ◌≤◌, Bool, true, false, List, [], ◌∷◌, ◌++◌, length, map, take, drop, get_or, Option, Some, None, refl, sym, ◌∙◌, ap, subst, append_assoc, append-nil, length-append, arith}
use Rattle.std.specs.Prelude.{IfSome}
use Rattle.std.specs.List.{AllByRecursion}
use Rattle.std.proofs.lemmas.List.{drop_at, length-map, length-take-le, map-append, take_at}
use Rattle.gx_words.specs.PageMap.{PageMap}
use Rattle.gx_pages.specs.declared.store.Pages.{Ghosts}
use Rattle.gx_pages.proofs.Footprints as feet
use Rattle.gx_slot.specs.Slots.{Fits, Slots, spelling}
use Rattle.gx_tree.specs.declared.changing.Sibling.{Sibling}
use Rattle.gx_tree.specs.Changing.{AreLinks, Begins, Chosen, Ends, IsLesser, Links, Reaches, Relinked, beside, kept_of}
use Rattle.gx_tree.specs.Orders.{AtMost, IsFrom, IsKeyed, IsLawful, IsUnder, Keys, Order, next}
use Rattle.gx_tree.specs.Trees.{LacksPage, Node, Stand, link, named, page_of, pages_of, slots_of}
use Rattle.gx_tree.proofs.Lists.{At, all_unmap, at_place}
use Rattle.gx_tree.proofs.Nodes.{root_below, root_on, row_all, slots_kind, slots_level}
use Rattle.gx_tree.proofs.Keyed.{all_keys}
use Rattle.gx_tree.proofs.Kids.{kids, node_times}
use Rattle.gx_tree.proofs.Upper.{child_begins, links, links_all, upper_ends}
use Rattle.gx_tree.proofs.Widening.{all_times, times_all}

module _ {P : Type 0} (g : Ghosts P) (order : Order) (own : List ℕ) (allows : List ℕ → Type 0) (edits : List (List ℕ) → List (List ℕ) → Type 0) (kind page : ℕ) where
  pub begins_same : (old mid : P) (level : ℕ) (least end : Option (List ℕ)) (node : Node level) (free : List ℕ) → g.map mid ≡ g.map old → g.count mid ≡ g.count old
      → Begins g old order own allows kind level page least end node free → Begins g mid order own allows kind level page least end node free
  begins_same old mid level least end node free map count b = record {
    begins = b.begins;
    stand = subst (λ (m : PageMap). Stand m kind level (node ∷ [])) (sym map) b.stand;
    two = b.two;
    keyed = b.keyed;
    key = b.key;
    from = b.from;
    under = b.under;
    allowed = b.allowed;
    below = subst (λ (n : ℕ). AllByRecursion (λ (k : ℕ). k < n) (pages_of level (node ∷ []))) (sym count) b.below;
    frees = feet.free_list_at (g.map mid) (g.map old) (g.count mid) (g.count old) free map count b.frees;
    apart = b.apart;
  }

  pub ends_from : (old mid new : P) (level : ℕ) (least end : Option (List ℕ)) (node : Node level) (free : List ℕ) (sibling : Option Sibling) → g.map mid ≡ g.map old → g.count mid ≡ g.count old
      → Ends g mid new order edits kind level page least end node free sibling → Ends g old new order edits kind level page least end node free sibling
  ends_from old mid new level least end node free sibling map_same count e = record {
    left = e.left;
    right = e.right;
    rest = e.rest;
    named = e.named;
    begins = e.begins;
    stand = e.stand;
    two = e.two;
    keyed = e.keyed;
    others = e.others;
    strict = e.strict;
    full = e.full;
    below = e.below;
    keeps = feet.keeps_from g old mid new (pages_of level (node ∷ [])) free (pages_of level (e.left ∷ map (λ item. item.1) e.right)) e.rest map_same count e.keeps;
    edited = e.edited;
  }

  found_is : (old : P) (level : ℕ) (least end : Option (List ℕ)) (node : Node level) (free : List ℕ) → Begins g old order own allows kind level page least end node free → (found : Slots)
      → ((s : Slots) → g.map old page ≡ Some (spelling s) → Fits s → found ≡ s) → found ≡ slots_of kind level node
  found_is old level least end node free b found one =
      let on = root_on (g.map old) kind level node b.stand in
      one (slots_of kind level node) (ap (λ (n : ℕ). g.map old n) (sym b.begins) ∙ on.is) on.fits

  pub lacks_none : (old : P) (level : ℕ) (least end : Option (List ℕ)) (node : Node level) (free : List ℕ) → Begins g old order own allows kind level page least end node free
      → LacksPage (g.map old) (g.count old) page kind level → ⊥
  lacks_none old level least end node free b lacks =
      let on = root_on (g.map old) kind level node b.stand in
      lacks (slots_of kind level node) (ap (λ (n : ℕ). g.map old n) (sym b.begins) ∙ on.is) on.fits (slots_kind kind level node) (slots_level kind level node) (λ none. on.some (b.begins ∙ none))
      (subst (λ (n : ℕ). n < g.count old) b.begins (root_below (λ (n : ℕ). n < g.count old) level node b.below))

  -- what a change below a page does, and one of a page that is read
  abbrev pub Does : P → P → Option Sibling → ℕ → Type 0
  Does old new sibling level =
      (least end : Option (List ℕ)) (node : Node level) (free : List ℕ) → Begins g old order own allows kind level page least end node free → Ends g old new order edits kind level page least end node free sibling

  abbrev pub DoesAt : P → P → Option Sibling → Slots → ℕ → Type 0
  DoesAt old new sibling found level =
      (least end : Option (List ℕ)) (node : Node level) (free : List ℕ) → Begins g old order own allows kind level page least end node free → found ≡ slots_of kind level node
      → Ends g old new order edits kind level page least end node free sibling

  abbrev pub Refuses : P → ℕ → Type 0
  Refuses old level = (least end : Option (List ℕ)) (node : Node level) (free : List ℕ) → Begins g old order own allows kind level page least end node free → ⊥

  abbrev pub RefusesAt : P → Slots → ℕ → Type 0
  RefusesAt old found level = (least end : Option (List ℕ)) (node : Node level) (free : List ℕ) → Begins g old order own allows kind level page least end node free → found ≡ slots_of kind level node → ⊥

  module _ (old mid : P) (found : Slots) (same : g.map mid ≡ g.map old) (count : g.count mid ≡ g.count old) (one : (s : Slots) → g.map old page ≡ Some (spelling s) → Fits s → found ≡ s) where
    pub does_read : (new : P) (sibling : Option Sibling) (level : ℕ) → DoesAt mid new sibling found level → Does old new sibling level
    does_read new sibling level does least end node free b =
        ends_from old mid new level least end node free sibling same count (does least end node free (begins_same old mid level least end node free same count b) (found_is old level least end node free b found one))

    pub does_leaf : (new : P) (sibling : Option Sibling) (level : ℕ) → level ≡ 0 → DoesAt mid new sibling found 0 → Does old new sibling level
    does_leaf new sibling level is does = does_read new sibling level (subst (λ (k : ℕ). DoesAt mid new sibling found k) (sym is) does)

    pub does_under : (new : P) (sibling : Option Sibling) (level d : ℕ) → suc d ≡ level → DoesAt mid new sibling found (suc d) → Does old new sibling level
    does_under new sibling level d is does = does_read new sibling level (subst (λ (k : ℕ). DoesAt mid new sibling found k) is does)

    refused_read : (level : ℕ) → RefusesAt mid found level → Refuses old level
    refused_read level refused least end node free b =
        refused least end node free (begins_same old mid level least end node free same count b) (found_is old level least end node free b found one)

    pub refused_leaf : (level : ℕ) → level ≡ 0 → RefusesAt mid found 0 → Refuses old level
    refused_leaf level is refused = refused_read level (subst (λ (k : ℕ). RefusesAt mid found k) (sym is) refused)

    pub refused_under : (level d : ℕ) → suc d ≡ level → RefusesAt mid found (suc d) → Refuses old level
    refused_under level d is refused = refused_read level (subst (λ (k : ℕ). RefusesAt mid found k) is refused)

pub level_up : (level : ℕ) → level ≢ 0 → suc (level - 1) ≡ level
level_up zero some = absurd (some refl)
level_up (suc level) some = omega arith

split_same : {X : Type 0} (a b : List X) (x y : X) (c d : List X) → a ++ x ∷ c ≡ b ++ y ∷ d → length a ≡ length b → (a ≡ b) × (x ≡ y) × (c ≡ d)
split_same {X} a b x y c d same len =
    let front : a ≡ b = sym (take_at a (x ∷ c) (length a) refl) ∙ ap (λ (l : List X). take (length a) l) same ∙ take_at b (y ∷ d) (length a) (sym len) in
    let rest : x ∷ c ≡ y ∷ d = sym (drop_at a (x ∷ c) (length a) refl) ∙ ap (λ (l : List X). drop (length a) l) same ∙ drop_at b (y ∷ d) (length a) (sym len) in
    (front, (let e : x ≡ y = cc in e), (let e : c ≡ d = cc in e))

-- the item below which a change is made
pub record Way (order : Order) (own : List ℕ) (level : ℕ) (items : List (List ℕ × Node level)) (slot : ℕ) : Type 0 where
  pub front : List (List ℕ × Node level)
  pub item : List ℕ × Node level
  pub back : List (List ℕ × Node level)
  pub cut : items ≡ front ++ item ∷ back
  pub place : slot ≡ length front
  pub reached : (front ≡ []) ⊎ AtMost order item.0 own
  pub before : IsUnder order (next None back) own
  pub is : (d : List ℕ × ℕ) → get_or (named level items) slot d ≡ (item.0, page_of level item.1)

no_names : (level : ℕ) (xs : List (List ℕ × Node level)) → named level xs ≡ [] → xs ≡ []
no_names level [] none = refl
no_names level (x ∷ xs) none = absurd (let e = ap (λ (l : List (List ℕ × ℕ)). length l) none in omega (arith, e))

next_named : (level : ℕ) (xs : List (List ℕ × Node level)) → next None (named level xs) ≡ next None xs
next_named level [] = refl
next_named level (x ∷ xs) = refl

get_append : (xs : List (List ℕ × ℕ)) (y : List ℕ × ℕ) (ys : List (List ℕ × ℕ)) (d : List ℕ × ℕ) → get_or (xs ++ y ∷ ys) (length xs) d ≡ y
get_append [] y ys d = refl
get_append (x ∷ xs) y ys d = get_append xs y ys d

pub way : (order : Order) (own : List ℕ) (level : ℕ) (items : List (List ℕ × Node level)) (slot : ℕ) → Chosen order own (named level items) slot → Way order own level items slot
way order own level items slot ch =
    let size = ap (λ (l : List (List ℕ × ℕ)). length l) ch.cut in
    let below : slot < length items = (let p = ch.place in omega (arith, p, size, length-append ch.front (ch.item ∷ ch.back), length-map {B = List ℕ × ℕ} items (λ (x : List ℕ × Node level). (x.0, page_of level x.1)))) in
    let place = at_place items slot below in
    let len : length (take slot items) ≡ slot = length-take-le slot items (omega (arith, below)) in
    let whole : named level items ≡ named level (take slot items) ++ (place.item.0, page_of level place.item.1) ∷ named level (drop (slot + 1) items) =
    ap (λ (l : List (List ℕ × Node level)). named level l) place.cut ∙ map-append (λ (x : List ℕ × Node level). (x.0, page_of level x.1)) (take slot items) (place.item ∷ drop (slot + 1) items) in
    let sizes : length (named level (take slot items)) ≡ length ch.front = length-map {B = List ℕ × ℕ} (take slot items) (λ (x : List ℕ × Node level). (x.0, page_of level x.1)) ∙ len ∙ ch.place in
    let parts = split_same (named level (take slot items)) ch.front (place.item.0, page_of level place.item.1) ch.item (named level (drop (slot + 1) items)) ch.back (sym whole ∙ ch.cut) sizes in
    record {
      front = take slot items;
      item = place.item;
      back = drop (slot + 1) items;
      cut = place.cut;
      place = sym len;
      reached = ⊎_elim
          (λ none. inl (no_names level (take slot items) (parts.0 ∙ none)))
          (λ most. inr (subst (λ (x : List ℕ × ℕ). AtMost order x.0 own) (sym parts.1) most))
          ch.reaches;
      before = subst (λ (b : Option (List ℕ)). IsUnder order b own) (ap (λ (l : List (List ℕ × ℕ)). next None l) (sym parts.2) ∙ next_named level (drop (slot + 1) items)) ch.before;
      is = λ d. ap (λ (l : List (List ℕ × ℕ)). get_or l slot d) whole
          ∙ ap (λ (n : ℕ). get_or (named level (take slot items) ++ (place.item.0, page_of level place.item.1) ∷ named level (drop (slot + 1) items)) n d) (ch.place ∙ sym sizes)
          ∙ get_append (named level (take slot items)) (place.item.0, page_of level place.item.1) (named level (drop (slot + 1) items)) d;
    }

lesser_of : (order : Order) (own key : List ℕ) (items : List (List ℕ × ℕ)) (slot : ℕ) (kept : Bool) → Reaches order own items slot kept → ((d : List ℕ × ℕ) → (get_or items slot d).0 ≡ key) → IsLesser order own key (kept_of kept key own)
lesser_of order own key items slot true reaches is = inl (subst (λ (k : List ℕ). AtMost order k own) (is ([], 0)) (reaches ([], 0)), refl)
lesser_of order own key items slot false reaches is = inr (subst (λ (k : List ℕ). order.Less own k) (is ([], 0)) (reaches ([], 0)), refl)

sibling_key : (order : Order) (level : ℕ) (least end : Option (List ℕ)) (right : List (List ℕ × Node level)) (sibling : Option Sibling) → named level right ≡ beside sibling → Keys order (IsKeyed order level) least end right
    → IfSome sibling (λ s. order.IsKey s.key)
sibling_key order level least end right None is keys = tt
sibling_key order level least end [] (Some s) is keys = absurd (let e = ap (λ (l : List (List ℕ × ℕ)). length l) is in omega (arith, e))
sibling_key order level least end (r ∷ right) (Some s) is keys = subst (λ (k : List ℕ). order.IsKey k) (ap (λ (l : List (List ℕ × ℕ)). first_key l) is) keys.0
  where
    first_key : List (List ℕ × ℕ) → List ℕ
    first_key [] = []
    first_key (y ∷ ys) = y.0

module _ {P : Type 0} (g : Ghosts P) (order : Order) (law : IsLawful order) (own : List ℕ) (allows : List ℕ → Type 0) (edits : List (List ℕ) → List (List ℕ) → Type 0) (kind page level : ℕ) (old : P) (bound : g.count old ≤ 2 ^ 50)
    (found : Slots) (slot : ℕ) (least end : Option (List ℕ)) (node : Node (suc level)) (free : List ℕ)
    (begins : Begins g old order own allows kind (suc level) page least end node free) (is : found ≡ slots_of kind (suc level) node) where
  pub items_are : found.items ≡ map link (named level node.1)
  items_are = ap (λ (s : Slots). s.items) is

  -- the items of the page are links
  pub page_links : AreLinks order (named level node.1)
  page_links =
      links_all order level (g.count old) node.1 bound (all_keys order law (IsKeyed order level) least end node.1 begins.keyed)
      (all_unmap (λ (x : List ℕ × Node level). x.1) (λ (x : Node level). page_of level x < g.count old) node.1
      (all_unmap (page_of level) (λ (n : ℕ). n < g.count old) (kids level node.1) (row_all (λ (n : ℕ). n < g.count old) level (kids level node.1)
      (all_times (λ (n : ℕ). n < g.count old) (pages_of level (kids level node.1))
      (λ n some. times_all (λ (m : ℕ). m < g.count old) (pages_of (suc level) (node ∷ [])) begins.below n (let a = node_times n level node.0 node.1 in omega (arith, a, some)))))))

  pub page_fits : AllByRecursion (λ item. item.1 < 2 ^ 64) (named level node.1)
  page_fits = feet.all_weaker (λ (item : List ℕ × ℕ). order.IsKey item.0 × (item.1 < 2 ^ 64)) (λ (item : List ℕ × ℕ). item.1 < 2 ^ 64) (named level node.1) (λ item both. both.1) page_links

  pub page_some : 0 < length (named level node.1)
  page_some = let two = begins.two.0.0 in omega (arith, two, length-map {B = List ℕ × ℕ} node.1 (λ (x : List ℕ × Node level). (x.0, page_of level x.1)))

  module _ (chosen : (items : List (List ℕ × ℕ)) → found.items ≡ map link items → Chosen order own items slot) where
    pub the_way : Way order own level node.1 slot
    the_way = way order own level node.1 slot (chosen (named level node.1) items_are)

    pub slot_below : slot < length (named level node.1)
    slot_below =
        let ch = chosen (named level node.1) items_are in
        let p = ch.place in
        let size = ap (λ (l : List (List ℕ × ℕ)). length l) ch.cut in
        omega (arith, p, size, length-append ch.front (ch.item ∷ ch.back))

    pub child_is : (child : ℕ) → ((items : List (List ℕ × ℕ)) (front : List ℕ) (c : ℕ) → found.items ≡ map link items → AllByRecursion (λ item. item.1 < 2 ^ 64) items → slot < length items → Some child ≡ Some (get_or items slot (front, c)).1)
        → AllByRecursion (λ item. item.1 < 2 ^ 64) (named level node.1) → child ≡ page_of level the_way.item.1
    child_is child reads fit =
        let e = reads (named level node.1) [] 0 items_are fit slot_below in
        let f : child ≡ (get_or (named level node.1) slot ([], 0)).1 = cc in
        f ∙ ap (λ (x : List ℕ × ℕ). x.1) (the_way.is ([], 0))

    module _ (kept : Bool) (reached : Reaches order own (named level node.1) slot kept) where
      key : List ℕ
      key = kept_of kept the_way.item.0 own

      lesser : IsLesser order own the_way.item.0 (kept_of kept the_way.item.0 own)
      lesser = lesser_of order own the_way.item.0 (named level node.1) slot kept reached (λ d. ap (λ (x : List ℕ × ℕ). x.0) (the_way.is d))

      pub begins_child : (child : ℕ) → child ≡ page_of level the_way.item.1
          → Begins g old order own allows kind level child (Some (kept_of kept the_way.item.0 own)) (next end the_way.back) the_way.item.1 free
      begins_child child same =
          subst (λ (n : ℕ). Begins g old order own allows kind level n (Some (kept_of kept the_way.item.0 own)) (next end the_way.back) the_way.item.1 free) (sym same)
          (child_begins g order law own allows edits kind level page least end old node free begins the_way.front the_way.item the_way.back the_way.cut the_way.reached the_way.before (kept_of kept the_way.item.0 own) lesser)

      module _ (mid : P) (sibling : Option Sibling) (child : ℕ) (same : child ≡ page_of level the_way.item.1)
          (ends_here : Ends g old mid order edits kind level child (Some (kept_of kept the_way.item.0 own)) (next end the_way.back) the_way.item.1 free sibling) where
        ends : Ends g old mid order edits kind level (page_of level the_way.item.1) (Some (kept_of kept the_way.item.0 own)) (next end the_way.back) the_way.item.1 free sibling
        ends = subst (λ (n : ℕ). Ends g old mid order edits kind level n (Some (kept_of kept the_way.item.0 own)) (next end the_way.back) the_way.item.1 free sibling) same ends_here

        items_cut : found.items ≡ map link (named level the_way.front ++ (the_way.item.0, page_of level the_way.item.1) ∷ named level the_way.back)
        items_cut = items_are ∙ ap (λ (l : List (List ℕ × ℕ)). map link l) (ap (λ (l : List (List ℕ × Node level)). named level l) the_way.cut
            ∙ map-append (λ (x : List ℕ × Node level). (x.0, page_of level x.1)) the_way.front (the_way.item ∷ the_way.back))

        slot_at : slot ≡ length (named level the_way.front)
        slot_at = the_way.place ∙ sym (length-map {B = List ℕ × ℕ} the_way.front (λ (x : List ℕ × Node level). (x.0, page_of level x.1)))

        mid_links : Links g mid order own kind (suc level) page (named level the_way.front) (the_way.item.0, page_of level the_way.item.1) (named level the_way.back) ends.rest
        mid_links =
            links g order law own allows edits kind level page least end old node free begins the_way.front the_way.item the_way.back the_way.cut the_way.reached the_way.before (kept_of kept the_way.item.0 own) lesser
            mid sibling ends bound

        right_key : IfSome sibling (λ s. order.IsKey s.key)
        right_key = sibling_key order level (Some (kept_of kept the_way.item.0 own)) (next end the_way.back) ends.right sibling ends.named ends.others

        pub item_ends : (new : P) (out : Option Sibling) (up : ℕ) → up ≡ suc level
            → ((front back : List (List ℕ × ℕ)) (item : List ℕ × ℕ) (free : List ℕ) → found.items ≡ map link (front ++ item ∷ back) → slot ≡ length front → Links g mid order own kind up page front item back free
            → IfSome sibling (λ s. order.IsKey s.key) → Relinked g mid new kind up page front (kept_of kept item.0 own) item.1 back sibling out free)
            → Ends g old new order edits kind (suc level) page least end node free out
        item_ends new out up up_is relinked =
            upper_ends g order law own allows edits kind level page least end old node free begins the_way.front the_way.item the_way.back the_way.cut the_way.reached the_way.before (kept_of kept the_way.item.0 own) lesser
            mid sibling ends bound new out
            (subst (λ (n : ℕ). Relinked g mid new kind n page (named level the_way.front) (kept_of kept the_way.item.0 own) (page_of level the_way.item.1) (named level the_way.back) sibling out ends.rest) up_is
            (relinked (named level the_way.front) (named level the_way.back) (the_way.item.0, page_of level the_way.item.1) ends.rest items_cut slot_at
            (subst (λ (n : ℕ). Links g mid order own kind n page (named level the_way.front) (the_way.item.0, page_of level the_way.item.1) (named level the_way.back) ends.rest) (sym up_is) mid_links) right_key))

        pub item_refused : (up : ℕ) → up ≡ suc level
            → ((front back : List (List ℕ × ℕ)) (item : List ℕ × ℕ) (free : List ℕ) → found.items ≡ map link (front ++ item ∷ back) → slot ≡ length front → Links g mid order own kind up page front item back free
            → IfSome sibling (λ s. order.IsKey s.key) → ⊥) → ⊥
        item_refused up up_is refused =
            refused (named level the_way.front) (named level the_way.back) (the_way.item.0, page_of level the_way.item.1) ends.rest items_cut slot_at
            (subst (λ (n : ℕ). Links g mid order own kind n page (named level the_way.front) (the_way.item.0, page_of level the_way.item.1) (named level the_way.back) ends.rest) (sym up_is) mid_links) right_key

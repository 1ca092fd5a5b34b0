-- A change below an item of a page is one below the page.
use Rattle.std.proofs.Common.{◌≡◌, ◌≢◌, ◌⊎◌, inl, inr, ⊎_elim, ℕ, zero, suc, ◌+◌, ◌^◌, ◌<◌, ◌≤◌, List, [], ◌∷◌, ◌++◌, length, map, take, drop, Option, Some, None, refl, sym, ◌∙◌, ap, subst, append_assoc, append-nil, length-append, arith}
use Rattle.std.specs.List.{AllByRecursion}
use Rattle.std.proofs.lemmas.List.{drop_at, drop-map, length-map, map-append, take-append-drop, take-map, take_at}
use Rattle.gx_words.specs.PageMap.{PageMap}
use Rattle.gx_pages.specs.declared.store.Pages.{Ghosts}
use Rattle.gx_pages.specs.Frees.{IsApart}
use Rattle.gx_pages.specs.Footprints.{IsOutside, KeepsPages}
use Rattle.gx_pages.proofs.Footprints as feet
use Rattle.gx_slot.specs.Slots.{Fits, Slots, spelling}
use Rattle.gx_tree.specs.declared.changing.Sibling.{Sibling}
use Rattle.gx_tree.specs.Changing.{AreLinks, Begins, Edited, Ends, IsBeside, IsLesser, Links, Relinked, beside, link_bytes, page_beside}
use Rattle.gx_tree.specs.Orders.{AtMost, IsFrom, IsKeyed, IsLawful, IsUnder, Keys, Order, next}
use Rattle.gx_tree.specs.Paging.{AreOn}
use Rattle.gx_tree.specs.Trees.{HaveTwo, IsOn, Node, Stand, children, entries_of, link, named, page_of, pages_of, slots, slots_of}
use Rattle.gx_tree.proofs.Keyed.{KeysAt, all_keys, keyed_lower, keys_at, keys_changed, keys_strict, lesser_most, lesser_own, most_most, under_end}
use Rattle.gx_tree.proofs.Kids.{entries_append, kid_times, kids, kids_append, kids_of, kids_times, node_times, stand_append, stand_left, stand_right, two_append, two_left, two_right}
use Rattle.gx_tree.proofs.Lists.{all_unmap, map_map}
use Rattle.gx_tree.proofs.Nodes.{row_all, times_pages}
use Rattle.gx_tree.proofs.Widening.{all_times, keeps_wider, kept_below, stand_kept, times_all}

pub link_map : (items : List (List ℕ × ℕ)) → map link items ≡ map (λ item. Some item) (map link_bytes items)
link_map items = sym (map_map link_bytes (λ (item : List ℕ). Some item) items)

under_next : (order : Order) (end : Option (List ℕ)) {N : Type 0} (back : List (List ℕ × N)) (own : List ℕ) → IsUnder order end own → IsUnder order (next None back) own → IsUnder order (next end back) own
under_next order end [] own under before = under
under_next order end (b ∷ back) own under before = before

pub links_all : (order : Order) (level bound : ℕ) (items : List (List ℕ × Node level)) → bound ≤ 2 ^ 50 → AllByRecursion (λ item. order.IsKey item.0) items → AllByRecursion (λ item. page_of level item.1 < bound) items
    → AreLinks order (named level items)
links_all order level bound [] most keys below = tt
links_all order level bound (item ∷ items) most keys below = ((keys.0, let low = below.0 in omega (arith, low, most)), links_all order level bound items most keys.1 below.1)

module _ {P : Type 0} (g : Ghosts P) (order : Order) (law : IsLawful order) (own : List ℕ) (allows : List ℕ → Type 0) (edits : List (List ℕ) → List (List ℕ) → Type 0) (kind level page : ℕ) (least end : Option (List ℕ))
    (old : P) (node : Node (suc level)) (free : List ℕ) (begins : Begins g old order own allows kind (suc level) page least end node free)
    (front : List (List ℕ × Node level)) (item : List ℕ × Node level) (back : List (List ℕ × Node level)) (cut : node.1 ≡ front ++ item ∷ back)
    (reached : (front ≡ []) ⊎ AtMost order item.0 own) (before : IsUnder order (next None back) own) (key : List ℕ) (lesser : IsLesser order own item.0 key) where
  abbrev below : Option (List ℕ) → Option (List ℕ) → Node level → Type 0
  below = IsKeyed order level

  abbrev own_pages : List ℕ
  own_pages = pages_of (suc level) (node ∷ [])

  abbrev front_pages : List ℕ
  front_pages = pages_of level (kids level front)

  abbrev item_pages : List ℕ
  item_pages = pages_of level (item.1 ∷ [])

  abbrev back_pages : List ℕ
  back_pages = pages_of level (kids level back)

  pub at : KeysAt order law below least end front item back
  at = keys_at order law below least end front item back (subst (λ (l : List (List ℕ × Node level)). Keys order below least end l) cut begins.keyed)

  kids_cut : children level (node ∷ []) ≡ kids level front ++ item.1 ∷ kids level back
  kids_cut = kids_of level node.0 node.1 ∙ ap (λ (l : List (List ℕ × Node level)). kids level l) cut ∙ kids_append level front (item ∷ back)

  all_stand : Stand (g.map old) kind level (kids level front ++ item.1 ∷ kids level back)
  all_stand = subst (λ (l : List (Node level)). Stand (g.map old) kind level l) kids_cut begins.stand.1

  front_stand : Stand (g.map old) kind level (kids level front)
  front_stand = stand_left (g.map old) kind level (kids level front) (item.1 ∷ kids level back) all_stand

  rest_stand : Stand (g.map old) kind level (item.1 ∷ kids level back)
  rest_stand = stand_right (g.map old) kind level (kids level front) (item.1 ∷ kids level back) all_stand

  back_stand : Stand (g.map old) kind level (kids level back)
  back_stand = stand_right (g.map old) kind level (item.1 ∷ []) (kids level back) rest_stand

  all_two : HaveTwo level (kids level front ++ item.1 ∷ kids level back)
  all_two = subst (λ (l : List (Node level)). HaveTwo level l) kids_cut begins.two.1

  rest_two : HaveTwo level (item.1 ∷ kids level back)
  rest_two = two_right level (kids level front) (item.1 ∷ kids level back) all_two

  counts : (n : ℕ) → feet.times n own_pages ≡ feet.times n (page ∷ []) + (feet.times n front_pages + (feet.times n item_pages + feet.times n back_pages))
  counts n =
      let a = node_times n level node.0 node.1 in
      let b : feet.times n (node.0 ∷ []) ≡ feet.times n (page ∷ []) = ap (λ (p : ℕ). feet.times n (p ∷ [])) begins.begins in
      let c : feet.times n (pages_of level (kids level node.1)) ≡ feet.times n (pages_of level (kids level (front ++ item ∷ back))) = ap (λ (l : List (List ℕ × Node level)). feet.times n (pages_of level (kids level l))) cut in
      let d = kids_times n level front (item ∷ back) in
      let e = kid_times n level item back in
      a ∙ ap (λ (k : ℕ). k + feet.times n (pages_of level (kids level node.1))) b ∙ ap (λ (k : ℕ). feet.times n (page ∷ []) + k) (c ∙ d ∙ ap (λ (k : ℕ). feet.times n front_pages + k) e)

  once : (n : ℕ) → feet.times n (page ∷ []) + (feet.times n front_pages + (feet.times n item_pages + feet.times n back_pages)) + feet.times n free ≤ 1
  once n =
      let a = counts n in
      let b = feet.times-append n own_pages free in
      let c = feet.apart_once (own_pages ++ free) begins.apart n in
      subst (λ (k : ℕ). k + feet.times n free ≤ 1) a (subst (λ (k : ℕ). k ≤ 1) b c)

  part_below : (n : ℕ) → 0 < feet.times n (page ∷ []) + (feet.times n front_pages + (feet.times n item_pages + feet.times n back_pages)) → n < g.count old
  part_below n some = times_all (λ (m : ℕ). m < g.count old) own_pages begins.below n (subst (λ (k : ℕ). 0 < k) (sym (counts n)) some)

  item_allowed : AllByRecursion allows (entries_of level (item.1 ∷ []))
  item_allowed =
      let all : AllByRecursion allows (entries_of level (kids level front ++ item.1 ∷ kids level back)) = subst (λ (l : List (Node level)). AllByRecursion allows (entries_of level l)) kids_cut begins.allowed in
      let some : AllByRecursion allows (entries_of level (item.1 ∷ kids level back)) =
      feet.all_right allows (entries_of level (kids level front)) (entries_of level (item.1 ∷ kids level back))
      (subst (λ (l : List (List ℕ)). AllByRecursion allows l) (entries_append level (kids level front) (item.1 ∷ kids level back)) all) in
      feet.all_left allows (entries_of level (item.1 ∷ [])) (entries_of level (kids level back))
      (subst (λ (l : List (List ℕ)). AllByRecursion allows l) (entries_append level (item.1 ∷ []) (kids level back)) some)

  pub child_begins : Begins g old order own allows kind level (page_of level item.1) (Some key) (next end back) item.1 free
  child_begins = record {
    begins = refl;
    stand = stand_left (g.map old) kind level (item.1 ∷ []) (kids level back) rest_stand;
    two = two_left level (item.1 ∷ []) (kids level back) rest_two;
    keyed = keyed_lower order law level (Some item.0) (Some key) (next end back) item.1 (λ k from. most_most order law key item.0 k (lesser_most order law own item.0 key lesser) from) at.here;
    key = begins.key;
    from = lesser_own order law own item.0 key lesser;
    under = under_next order end back own begins.under before;
    allowed = item_allowed;
    below = all_times (λ (n : ℕ). n < g.count old) item_pages (λ n some. part_below n (omega (arith, some)));
    frees = begins.frees;
    apart = feet.once_apart (item_pages ++ free) (λ n. let o = once n in omega (arith, o, feet.times-append n item_pages free));
  }

  module _ (mid : P) (sibling : Option Sibling) (ends : Ends g old mid order edits kind level (page_of level item.1) (Some key) (next end back) item.1 free sibling) (bound : g.count old ≤ 2 ^ 50) where
    pub items : List (List ℕ × Node level)
    items = front ++ (key, ends.left) ∷ (ends.right ++ back)

    abbrev child_pages : List ℕ
    child_pages = pages_of level (ends.left ∷ kids level ends.right)

    abbrev mid_pages : List ℕ
    mid_pages = page ∷ pages_of level (kids level items)

    items_times : (n : ℕ) → feet.times n (pages_of level (kids level items)) ≡ feet.times n front_pages + (feet.times n child_pages + feet.times n back_pages)
    unfolding items
    items_times n =
        kids_times n level front ((key, ends.left) ∷ (ends.right ++ back))
        ∙ ap (λ (k : ℕ). feet.times n front_pages + k) (kids_times n level ((key, ends.left) ∷ ends.right) back)

    pub mid_keeps : KeepsPages g old mid own_pages free mid_pages ends.rest
    mid_keeps =
        keeps_wider g old mid item_pages free child_pages ends.rest ends.keeps (page ∷ (front_pages ++ back_pages)) own_pages mid_pages
        (λ n. let a = counts n in omega (arith, a, feet.times-append n front_pages back_pages))
        (λ n. let a = items_times n in omega (arith, a, feet.times-append n front_pages back_pages))

    all_below : AllByRecursion (λ n. n < g.count old) (own_pages ++ free)
    all_below = feet.all_join (λ (n : ℕ). n < g.count old) own_pages free begins.below begins.frees.below

    mid_apart : IsApart (mid_pages ++ ends.rest)
    mid_apart = feet.kept_apart g old mid own_pages free mid_pages ends.rest mid_keeps begins.apart all_below

    mid_below : AllByRecursion (λ n. n < g.count mid) (mid_pages ++ ends.rest)
    mid_below = kept_below g old mid own_pages free mid_pages ends.rest mid_keeps all_below

    page_some : page ≢ 0
    page_some none = begins.stand.0.0.some (begins.begins ∙ none)

    page_below : page < g.count old
    page_below = part_below page (let one = feet.times_one page [] in omega (arith, one))

    page_same : g.map mid page ≡ g.map old page
    page_same =
        ends.keeps.others page page_some page_below
        (feet.none_outside page (item_pages ++ free) (let o = once page in let one = feet.times_one page [] in omega (arith, o, one, feet.times-append page item_pages free)))

    named_cut : named level node.1 ≡ named level front ++ (item.0, page_of level item.1) ∷ named level back
    named_cut = ap (λ (l : List (List ℕ × Node level)). named level l) cut ∙ map-append (λ (x : List ℕ × Node level). (x.0, page_of level x.1)) front (item ∷ back)

    node_links : AreLinks order (named level node.1)
    node_links =
        links_all order level (g.count old) node.1 bound (all_keys order law below least end node.1 begins.keyed)
        (all_unmap (λ (x : List ℕ × Node level). x.1) (λ (x : Node level). page_of level x < g.count old) node.1
        (all_unmap (page_of level) (λ (n : ℕ). n < g.count old) (kids level node.1) (row_all (λ (n : ℕ). n < g.count old) level (kids level node.1)
        (all_times (λ (n : ℕ). n < g.count old) (pages_of level (kids level node.1))
        (λ n some. times_all (λ (m : ℕ). m < g.count old) own_pages begins.below n (let a = node_times n level node.0 node.1 in omega (arith, a, some)))))))

    page_on : AreOn (g.map mid) kind (suc level) page (map link_bytes (named level node.1))
    page_on =
        let on = begins.stand.0.0 in
        let same : slots_of kind (suc level) node ≡ slots kind (suc level) (map (λ i. Some i) (map link_bytes (named level node.1))) = ap (λ (l : List (Option (List ℕ))). slots kind (suc level) l) (link_map (named level node.1)) in
        record {
          some = page_some;
          is = page_same ∙ ap (λ (n : ℕ). g.map old n) (sym begins.begins) ∙ on.is ∙ ap (λ (s : Slots). Some (spelling s)) same;
          fits = subst (λ (s : Slots). Fits s) same on.fits;
        }

    pub links : Links g mid order own kind (suc level) page (named level front) (item.0, page_of level item.1) (named level back) ends.rest
    links = record {
      key = begins.key;
      on = subst (λ (l : List (List ℕ × ℕ)). AreOn (g.map mid) kind (suc level) page (map link_bytes l)) named_cut page_on;
      are = subst (λ (l : List (List ℕ × ℕ)). AreLinks order l) named_cut node_links;
      frees = ends.keeps.frees;
      outside = feet.none_outside page ends.rest (let o = feet.apart_once (mid_pages ++ ends.rest) mid_apart page in let one = feet.times_one page (pages_of level (kids level items)) in
          omega (arith, o, one, feet.times-append page mid_pages ends.rest));
      below = let grows = ends.keeps.grows in let low = page_below in omega (arith, low, grows);
    }

    module _ (new : P) (out : Option Sibling) (re : Relinked g mid new kind (suc level) page (named level front) key (page_of level item.1) (named level back) sibling out ends.rest) where
      named_items : named level items ≡ re.left ++ re.right
      unfolding items
      named_items =
          map-append (λ (x : List ℕ × Node level). (x.0, page_of level x.1)) front ((key, ends.left) ∷ (ends.right ++ back))
          ∙ ap (λ (l : List (List ℕ × ℕ)). named level front ++ (key, page_of level ends.left) ∷ l) (map-append (λ (x : List ℕ × Node level). (x.0, page_of level x.1)) ends.right back)
          ∙ ap (λ (n : ℕ). named level front ++ (key, n) ∷ (named level ends.right ++ named level back)) ends.begins
          ∙ ap (λ (l : List (List ℕ × ℕ)). named level front ++ (key, page_of level item.1) ∷ (l ++ named level back)) ends.named
          ∙ sym (append_assoc (named level front) ((key, page_of level item.1) ∷ beside sibling) (named level back))
          ∙ re.cut

      many : ℕ
      many = length re.left

      pub left : List (List ℕ × Node level)
      left = take many items

      pub right : List (List ℕ × Node level)
      right = drop many items

      both : left ++ right ≡ items
      unfolding left right
      both = take-append-drop many items

      left_is : named level left ≡ re.left
      unfolding left many
      left_is = sym (take-map (λ (x : List ℕ × Node level). (x.0, page_of level x.1)) many items) ∙ ap (λ (l : List (List ℕ × ℕ)). take many l) named_items ∙ take_at re.left re.right many refl

      right_is : named level right ≡ re.right
      unfolding right many
      right_is = sym (drop-map (λ (x : List ℕ × Node level). (x.0, page_of level x.1)) many items) ∙ ap (λ (l : List (List ℕ × ℕ)). drop many l) named_items ∙ drop_at re.left re.right many refl

      item_keys : Keys order below least end (left ++ right)
      unfolding items
      item_keys =
          subst (λ (l : List (List ℕ × Node level)). Keys order below least end l) (sym both)
          (keys_changed order law below least end front item back at own key lesser begins.key begins.from reached ends.left ends.right ends.keyed ends.others (ends.strict key refl))

      kids_items : kids level items ≡ kids level front ++ ((ends.left ∷ kids level ends.right) ++ kids level back)
      unfolding items
      kids_items = kids_append level front ((key, ends.left) ∷ (ends.right ++ back))
          ∙ ap (λ (l : List (Node level)). kids level front ++ ends.left ∷ l) (kids_append level ends.right back)

      kept_at_mid : (nodes : List (Node level)) → Stand (g.map old) kind level nodes → ((n : ℕ) → feet.times n (pages_of level nodes) ≤ feet.times n front_pages + feet.times n back_pages) → Stand (g.map mid) kind level nodes
      kept_at_mid nodes stand few =
          stand_kept g old mid item_pages free child_pages ends.rest ends.keeps kind level nodes stand
          (all_times (λ (n : ℕ). n < g.count old) (pages_of level nodes) (λ n some. part_below n (let f = few n in omega (arith, some, f))))
          (feet.once_apart (item_pages ++ free ++ pages_of level nodes) (λ n. let o = once n in let f = few n in
          omega (arith, o, f, feet.times-append n (item_pages ++ free) (pages_of level nodes), feet.times-append n item_pages free)))

      items_mid : Stand (g.map mid) kind level (kids level items)
      items_mid =
          subst (λ (l : List (Node level)). Stand (g.map mid) kind level l) (sym kids_items)
          (stand_append (g.map mid) kind level (kids level front) ((ends.left ∷ kids level ends.right) ++ kids level back) (kept_at_mid (kids level front) front_stand (λ n. omega arith))
          (stand_append (g.map mid) kind level (ends.left ∷ kids level ends.right) (kids level back) ends.stand (kept_at_mid (kids level back) back_stand (λ n. omega arith))))

      items_new : Stand (g.map new) kind level (kids level items)
      items_new =
          stand_kept g mid new (page ∷ []) ends.rest (page ∷ page_beside out) re.rest re.keeps kind level (kids level items) items_mid
          (feet.all_left (λ (n : ℕ). n < g.count mid) (pages_of level (kids level items)) ends.rest mid_below.1)
          (feet.once_apart ((page ∷ []) ++ ends.rest ++ pages_of level (kids level items)) (λ n. let o = feet.apart_once (mid_pages ++ ends.rest) mid_apart n in
          omega (arith, o, feet.times-append n mid_pages ends.rest, feet.times-append n ((page ∷ []) ++ ends.rest) (pages_of level (kids level items)), feet.times-append n (page ∷ []) ends.rest)))

      items_two : HaveTwo level (kids level items)
      items_two =
          subst (λ (l : List (Node level)). HaveTwo level l) (sym kids_items)
          (two_append level (kids level front) ((ends.left ∷ kids level ends.right) ++ kids level back) (two_left level (kids level front) (item.1 ∷ kids level back) all_two)
          (two_append level (ends.left ∷ kids level ends.right) (kids level back) ends.two (two_right level (item.1 ∷ []) (kids level back) rest_two)))

      kids_both : kids level left ++ kids level right ≡ kids level items
      kids_both = sym (kids_append level left right) ∙ ap (λ (l : List (List ℕ × Node level)). kids level l) both

      later_keeps : (later : List ℕ) → ((n : ℕ) → feet.times n later ≡ feet.times n (page ∷ page_beside out) + feet.times n (pages_of level (kids level items))) → KeepsPages g old new own_pages free later re.rest
      later_keeps later counts_later =
          feet.keeps_join g old mid new own_pages free mid_pages ends.rest later re.rest mid_keeps
          (keeps_wider g mid new (page ∷ []) ends.rest (page ∷ page_beside out) re.rest re.keeps (pages_of level (kids level items)) mid_pages later (λ n. omega arith) counts_later)

      later_below : (later : List ℕ) → KeepsPages g old new own_pages free later re.rest → AllByRecursion (λ n. n < g.count new) later
      later_below later keeps = feet.all_left (λ (n : ℕ). n < g.count new) later re.rest (kept_below g old new own_pages free later re.rest keeps all_below)

      items_edited : (nodes : List (Node level)) → nodes ≡ kids level items → Edited edits (entries_of level (children level (node ∷ []))) (entries_of level nodes)
      items_edited nodes are =
          let e = ends.edited in
          let ef = entries_of level (kids level front) in
          let eb = entries_of level (kids level back) in
          record {
            front = ef ++ e.front;
            was = e.was;
            is = e.is;
            back = e.back ++ eb;
            old = ap (λ (l : List (Node level)). entries_of level l) kids_cut ∙ entries_append level (kids level front) (item.1 ∷ kids level back)
                ∙ ap (λ (l : List (List ℕ)). ef ++ l) (entries_append level (item.1 ∷ []) (kids level back) ∙ ap (λ (l : List (List ℕ)). l ++ eb) e.old) ∙ regroup ef e.front e.was e.back eb;
            new = ap (λ (l : List (Node level)). entries_of level l) (are ∙ kids_items) ∙ entries_append level (kids level front) ((ends.left ∷ kids level ends.right) ++ kids level back)
                ∙ ap (λ (l : List (List ℕ)). ef ++ l) (entries_append level (ends.left ∷ kids level ends.right) (kids level back) ∙ ap (λ (l : List (List ℕ)). l ++ eb) e.new) ∙ regroup ef e.front e.is e.back eb;
            done = e.done;
          }
        where
          regroup : (a b c d e : List (List ℕ)) → a ++ (b ++ c ++ d ++ e) ≡ (a ++ b) ++ c ++ (d ++ e)
          regroup a b c d e = simp append_assoc

    is_on : (new : P) (p : ℕ) (xs : List (List ℕ × Node level)) (links : List (List ℕ × ℕ)) → named level xs ≡ links → AreOn (g.map new) kind (suc level) p (map link_bytes links) → IsOn (g.map new) kind (suc level) (p, xs)
    is_on new p xs links is on =
        let same : slots kind (suc level) (map (λ i. Some i) (map link_bytes links)) ≡ slots kind (suc level) (map link (named level xs)) =
        ap (λ (l : List (Option (List ℕ))). slots kind (suc level) l) (ap (λ (l : List (List ℕ × ℕ)). map (λ (i : List ℕ). Some i) (map link_bytes l)) (sym is) ∙ sym (link_map (named level xs))) in
        record { some = on.some; is = on.is ∙ ap (λ (s : Slots). Some (spelling s)) same; fits = subst (λ (s : Slots). Fits s) same on.fits }

    items_many : 2 ≤ length items
    unfolding items
    items_many =
        let two = begins.two.0.0 in
        let size = ap (λ (l : List (List ℕ × Node level)). length l) cut in
        omega (arith, two, size, length-append front (item ∷ back), length-append front ((key, ends.left) ∷ (ends.right ++ back)), length-append ends.right back)

    no_names : (xs : List (List ℕ × Node level)) → named level xs ≡ [] → xs ≡ []
    no_names [] none = refl
    no_names (x ∷ xs) none = absurd (let e = ap (λ (l : List (List ℕ × ℕ)). length l) none in omega (arith, e))

    ends_none : (new : P) (re : Relinked g mid new kind (suc level) page (named level front) key (page_of level item.1) (named level back) sibling None ends.rest)
        → Ends g old new order edits kind (suc level) page least end node free None
    ends_none new re =
        let xs = left new None re in
        let none : right new None re ≡ [] = no_names (right new None re) (right_is new None re ∙ re.there) in
        let all : xs ≡ items = sym (append-nil xs) ∙ ap (λ (l : List (List ℕ × Node level)). xs ++ l) (sym none) ∙ both new None re in
        let kids_all : kids level xs ≡ kids level items = ap (λ (l : List (List ℕ × Node level)). kids level l) all in
        let nodes : children level ((page, xs) ∷ []) ≡ kids level items = kids_of level page xs ∙ kids_all in
        let later = pages_of (suc level) ((page, xs) ∷ []) in
        let keeps = later_keeps new None re later (λ n. node_times n level page xs ∙ ap (λ (l : List (Node level)). feet.times n (page ∷ []) + feet.times n (pages_of level l)) kids_all) in
        record {
          left = (page, xs);
          right = [];
          rest = re.rest;
          named = refl;
          begins = refl;
          stand = (
            (is_on new page xs re.left (left_is new None re) re.here, tt),
            subst (λ (l : List (Node level)). Stand (g.map new) kind level l) (sym nodes) (items_new new None re),
          );
          two = (
            (subst (λ (l : List (List ℕ × Node level)). 2 ≤ length l) (sym all) items_many, tt),
            subst (λ (l : List (Node level)). HaveTwo level l) (sym nodes) (items_two new None re),
          );
          keyed = subst (λ (l : List (List ℕ × Node level)). Keys order below least end l) (ap (λ (l : List (List ℕ × Node level)). xs ++ l) none ∙ append-nil xs) (item_keys new None re);
          others = tt;
          strict = λ l is. tt;
          full = λ some. absurd (omega (arith, some));
          below = later_below new None re later keeps;
          keeps = keeps;
          edited = items_edited new None re (children level ((page, xs) ∷ [])) nodes;
        }

    slots_many : (xs : List (List ℕ × Node level)) → 0 < length xs → 0 < length (map link (named level xs))
    slots_many [] some = absurd (omega (arith, some))
    slots_many (x ∷ xs) some = omega arith

    -- items of which the first one has this key
    record Headed (xs : List (List ℕ × Node level)) (k : List ℕ) : Type 0 where
      pub head : List ℕ × Node level
      pub tail : List (List ℕ × Node level)
      pub is : xs ≡ head ∷ tail
      pub keyed : head.0 ≡ k

    headed : (xs : List (List ℕ × Node level)) (k : List ℕ) (child : ℕ) (more : List (List ℕ × ℕ)) → named level xs ≡ (k, child) ∷ more → Headed xs k
    headed [] k child more is = absurd (let e = ap (λ (l : List (List ℕ × ℕ)). length l) is in omega (arith, e))
    headed (x ∷ xs) k child more is = record { head = x; tail = xs; is = refl; keyed = ap (λ (l : List (List ℕ × ℕ)). first_key l) is }
      where
        first_key : List (List ℕ × ℕ) → List ℕ
        first_key [] = []
        first_key (y ∷ ys) = y.0

    ends_some : (new : P) (s : Sibling) (re : Relinked g mid new kind (suc level) page (named level front) key (page_of level item.1) (named level back) sibling (Some s) ends.rest)
        → Ends g old new order edits kind (suc level) page least end node free (Some s)
    ends_some new s re =
        let xs = left new (Some s) re in
        let ys = right new (Some s) re in
        let there = re.there in
        let first = headed ys s.key there.0 there.1 (right_is new (Some s) re ∙ there.2) in
        let nodes : children level ((page, xs) ∷ (s.page, ys) ∷ []) ≡ kids level items = ap (λ (l : List (Node level)). kids level xs ++ l) (kids_of level s.page ys) ∙ kids_both new (Some s) re in
        let later = pages_of (suc level) ((page, xs) ∷ (s.page, ys) ∷ []) in
        let pages_times : (n : ℕ) → feet.times n later ≡ feet.times n (page ∷ s.page ∷ []) + feet.times n (pages_of level (kids level items)) = λ n.
        (let a = times_pages n (suc level) ((page, xs) ∷ []) ((s.page, ys) ∷ []) in
        let b = node_times n level page xs in
        let c = node_times n level s.page ys in
        let d = ap (λ (l : List (Node level)). feet.times n (pages_of level l)) (sym (kids_both new (Some s) re)) ∙ times_pages n level (kids level xs) (kids level ys) in
        omega (arith, a, b, c, d)) in
        let keeps = later_keeps new (Some s) re later pages_times in
        let many_left : 2 ≤ length xs = (let e = ap (λ (l : List (List ℕ × ℕ)). length l) (left_is new (Some s) re) in let l = there.4 in omega (arith, e, l, length-map {B = List ℕ × ℕ} xs (λ (x : List ℕ × Node level). (x.0, page_of level x.1)))) in
        let many_right : 2 ≤ length ys = (let e = ap (λ (l : List (List ℕ × ℕ)). length l) (right_is new (Some s) re) in let l = there.5 in omega (arith, e, l, length-map {B = List ℕ × ℕ} ys (λ (x : List ℕ × Node level). (x.0, page_of level x.1)))) in
        let at_head : KeysAt order law below least end xs first.head first.tail =
        keys_at order law below least end xs first.head first.tail (subst (λ (l : List (List ℕ × Node level)). Keys order below least end (xs ++ l)) first.is (item_keys new (Some s) re)) in
        let head_keys : Keys order below (Some first.head.0) end (first.head ∷ first.tail) = (at_head.key, law.itself first.head.0, at_head.under, at_head.here, at_head.behind) in
        let keys_left : Keys order below least (Some s.key) xs = subst (λ (k : List ℕ). Keys order below least (Some k) xs) first.keyed at_head.before in
        record {
          left = (page, xs);
          right = (s.key, (s.page, ys)) ∷ [];
          rest = re.rest;
          named = refl;
          begins = refl;
          stand = (
            (is_on new page xs re.left (left_is new (Some s) re) re.here, (is_on new s.page ys re.right (right_is new (Some s) re) there.3, tt)),
            subst (λ (l : List (Node level)). Stand (g.map new) kind level l) (sym nodes) (items_new new (Some s) re),
          );
          two = ((many_left, (many_right, tt)), subst (λ (l : List (Node level)). HaveTwo level l) (sym nodes) (items_two new (Some s) re));
          keyed = keys_left;
          others = (
            subst (λ (k : List ℕ). order.IsKey k) first.keyed at_head.key,
            subst (λ (k : List ℕ). IsFrom order least k) first.keyed at_head.from,
            subst (λ (k : List ℕ). IsUnder order end k) first.keyed (under_end order law below (Some first.head.0) end first.head first.tail head_keys),
            subst (λ (k : List ℕ). Keys order below (Some k) end ys) first.keyed (subst (λ (l : List (List ℕ × Node level)). Keys order below (Some first.head.0) end l) (sym first.is) head_keys),
            tt,
          );
          strict = λ l is. keys_strict order law below least s.key xs (omega (arith, many_left)) keys_left l is;
          full = λ some. slots_many xs (omega (arith, many_left));
          below = later_below new (Some s) re later keeps;
          keeps = keeps;
          edited = items_edited new (Some s) re (children level ((page, xs) ∷ (s.page, ys) ∷ [])) nodes;
        }

    pub upper_ends : (new : P) (out : Option Sibling) (re : Relinked g mid new kind (suc level) page (named level front) key (page_of level item.1) (named level back) sibling out ends.rest)
        → Ends g old new order edits kind (suc level) page least end node free out
    upper_ends new None re = ends_none new re
    upper_ends new (Some s) re = ends_some new s re

-- The page of level 0 where a key belongs, from a page above it.
use Rattle.std.proofs.Common.{◌≡◌, ◌≢◌, ◌⊎◌, inl, inr, ⊎_elim, ℕ, zero, suc, ◌+◌, ◌<◌, ◌≤◌, List, [], ◌∷◌, ◌++◌, length, map, Option, Some, None, refl, sym, ◌∙◌, ap, subst, append_assoc, append-nil, length-append, arith}
use Rattle.std.specs.List.{AllByRecursion}
use Rattle.std.specs.List.Sorted.{IsPermutation}
use Rattle.std.proofs.lemmas.List.{map-append}
use Rattle.std.proofs.lemmas.List.Sorted.{IsPermutation-refl}
use Rattle.gx_words.specs.PageMap.{PageMap}
use Rattle.gx_pages.specs.declared.store.Pages.{Ghosts}
use Rattle.gx_pages.specs.Footprints.{IsOutside}
use Rattle.gx_pages.specs.Frees.{IsApart}
use Rattle.gx_pages.proofs.Footprints as feet
use Rattle.gx_slot.specs.Slots.{Fits, Slots, spelling}
use Rattle.gx_tree.specs.Finding.{LeafAt, Later, Stands}
use Rattle.gx_tree.specs.Orders.{AtMost, IsFrom, IsKeyed, IsLawful, IsUnder, Keys, Order, next}
use Rattle.gx_tree.specs.Trees.{HaveTwo, IsOn, Leaf, Node, Stand, children, entries_of, items_of, leaves_of, link, named, page_of, pages_of, slots, slots_of}
use Rattle.gx_tree.proofs.Entries.{keyed_entries, kids_entries}
use Rattle.gx_tree.proofs.Keyed.{KeysAt, keys_at, keys_changed, keys_from, under_end}
use Rattle.gx_tree.proofs.Kids.{entries_append, kid_times, kids, kids_append, kids_of, kids_times, node_times, stand_append, stand_left, stand_right, two_append, two_left, two_right}
use Rattle.gx_tree.proofs.Lists.{flat_map_append, permuted}
use Rattle.gx_tree.proofs.Nodes.{leaves_append}
use Rattle.gx_tree.proofs.Staying.{stand_stays}
use Rattle.gx_tree.proofs.Widening.{all_times, times_all}

pub leaf_at : {P : Type 0} (g : Ghosts P) (pages : P) (order : Order) (own : List ℕ) (kind page : ℕ) (least end : Option (List ℕ)) (node : Node 0) (found : Slots) → Stands g pages order kind 0 page least end node
    → found ≡ slots_of kind 0 node → LeafAt g pages order own kind 0 least end node page found
leaf_at g pages order own kind page least end node found stands is = record {
  leaf = node.1;
  from = least;
  to = end;
  front = [];
  back = [];
  is = is;
  on = subst (λ (n : ℕ). IsOn (g.map pages) kind 0 (n, node.1)) stands.begins stands.stand.0;
  are = stands.keyed;
  inside = λ n outside same. outside.0 (same ∙ sym stands.begins);
  cut = refl;
  prior = [];
  others = [];
  row = ap (λ (n : ℕ). (n, node.1) ∷ []) stands.begins;
  front_is = refl;
  back_is = refl;
  before = inl refl;
  behind = inl refl;
  changed = λ items are. record {
    later = (page, items);
    begins = sym stands.begins;
    pages = feet.same_pages (node.0 ∷ []) (page ∷ []) (ap (λ (n : ℕ). n ∷ []) stands.begins);
    two = tt;
    keyed = are;
    has = refl;
    stand = λ after same on. (on, tt);
  };
}

module _ {P : Type 0} (g : Ghosts P) (order : Order) (law : IsLawful order) (own : List ℕ) (kind level page : ℕ) (least end : Option (List ℕ))
    (pages : P) (node : Node (suc level)) (stands : Stands g pages order kind (suc level) page least end node)
    (front : List (List ℕ × Node level)) (item : List ℕ × Node level) (back : List (List ℕ × Node level)) (cut : node.1 ≡ front ++ item ∷ back) where
  abbrev below : Option (List ℕ) → Option (List ℕ) → Node level → Type 0
  below = IsKeyed order level

  at : KeysAt order law below least end front item back
  at = keys_at order law below least end front item back (subst (λ (l : List (List ℕ × Node level)). Keys order below least end l) cut stands.keyed)

  kids_cut : children level (node ∷ []) ≡ kids level front ++ item.1 ∷ kids level back
  kids_cut = kids_of level node.0 node.1 ∙ ap (λ (l : List (List ℕ × Node level)). kids level l) cut ∙ kids_append level front (item ∷ back)

  all_stand : Stand (g.map pages) kind level (kids level front ++ item.1 ∷ kids level back)
  all_stand = subst (λ (l : List (Node level)). Stand (g.map pages) kind level l) kids_cut stands.stand.1

  rest_stand : Stand (g.map pages) kind level (item.1 ∷ kids level back)
  rest_stand = stand_right (g.map pages) kind level (kids level front) (item.1 ∷ kids level back) all_stand

  all_two : HaveTwo level (kids level front ++ item.1 ∷ kids level back)
  all_two = subst (λ (l : List (Node level)). HaveTwo level l) kids_cut stands.two.1

  rest_two : HaveTwo level (item.1 ∷ kids level back)
  rest_two = two_right level (kids level front) (item.1 ∷ kids level back) all_two

  counts : (n : ℕ) → feet.times n (pages_of (suc level) (node ∷ []))
      ≡ feet.times n (node.0 ∷ []) + (feet.times n (pages_of level (kids level front)) + (feet.times n (pages_of level (item.1 ∷ [])) + feet.times n (pages_of level (kids level back))))
  counts n =
      node_times n level node.0 node.1
      ∙ ap (λ (k : ℕ). feet.times n (node.0 ∷ []) + k) (ap (λ (l : List (List ℕ × Node level)). feet.times n (pages_of level (kids level l))) cut ∙ kids_times n level front (item ∷ back)
      ∙ ap (λ (k : ℕ). feet.times n (pages_of level (kids level front)) + k) (kid_times n level item back))

  once : (n : ℕ) → feet.times n (node.0 ∷ []) + (feet.times n (pages_of level (kids level front)) + (feet.times n (pages_of level (item.1 ∷ [])) + feet.times n (pages_of level (kids level back)))) ≤ 1
  once n = subst (λ (k : ℕ). k ≤ 1) (counts n) (feet.apart_once (pages_of (suc level) (node ∷ [])) stands.apart n)

  pub child_stands : Stands g pages order kind level (page_of level item.1) (Some item.0) (next end back) item.1
  child_stands = record {
    begins = refl;
    stand = stand_left (g.map pages) kind level (item.1 ∷ []) (kids level back) rest_stand;
    two = two_left level (item.1 ∷ []) (kids level back) rest_two;
    keyed = at.here;
    below = all_times (λ (n : ℕ). n < g.count pages) (pages_of level (item.1 ∷ [])) (λ n some.
        times_all (λ (m : ℕ). m < g.count pages) (pages_of (suc level) (node ∷ [])) stands.below n (let a = counts n in omega (arith, a, some)));
    apart = feet.once_apart (pages_of level (item.1 ∷ [])) (λ n. let o = once n in omega (arith, o));
  }

  abbrev front_items : List (List ℕ)
  front_items = entries_of level (kids level front)

  abbrev back_items : List (List ℕ)
  back_items = entries_of level (kids level back)

  node_items : entries_of (suc level) (node ∷ []) ≡ front_items ++ (entries_of level (item.1 ∷ []) ++ back_items)
  node_items = ap (λ (l : List (Node level)). entries_of level l) kids_cut ∙ entries_append level (kids level front) (item.1 ∷ kids level back)
      ∙ ap (λ (l : List (List ℕ)). front_items ++ l) (entries_append level (item.1 ∷ []) (kids level back))

  abbrev front_leaves : List Leaf
  front_leaves = leaves_of level (kids level front)

  abbrev back_leaves : List Leaf
  back_leaves = leaves_of level (kids level back)

  node_leaves : leaves_of (suc level) (node ∷ []) ≡ front_leaves ++ (leaves_of level (item.1 ∷ []) ++ back_leaves)
  node_leaves = ap (λ (l : List (Node level)). leaves_of level l) kids_cut ∙ leaves_append level (kids level front) (item.1 ∷ kids level back)
      ∙ ap (λ (l : List Leaf). front_leaves ++ l) (leaves_append level (item.1 ∷ []) (kids level back))

  front_in : order.AreIn least (Some item.0) front_items
  front_in = kids_entries order law level least (Some item.0) front at.before

  module _ (reached : (front ≡ []) ⊎ AtMost order item.0 own) (before : IsUnder order (next None back) own) where
    -- items before the page
    front_only : (inner : List (List ℕ)) → inner ≡ [] → (front_items ++ inner ≡ []) ⊎ ((key : List ℕ) × AtMost order key own × order.AreIn least (Some key) (front_items ++ inner))
    front_only inner none =
        let all : front_items ++ inner ≡ front_items = ap (λ (l : List (List ℕ)). front_items ++ l) none ∙ append-nil front_items in
        ⊎_elim
        (λ empty. inl (all ∙ ap (λ (l : List (List ℕ × Node level)). entries_of level (kids level l)) empty ∙ no_items level))
        (λ most. inr (item.0, most, subst (λ (l : List (List ℕ)). order.AreIn least (Some item.0) l) (sym all) front_in))
        reached
      where
        no_items : (level : ℕ) → entries_of level [] ≡ []
        no_items zero = refl
        no_items (suc level) = no_items level

    before_all : (inner : List (List ℕ)) → (inner ≡ []) ⊎ ((key : List ℕ) × AtMost order key own × order.AreIn (Some item.0) (Some key) inner)
        → (front_items ++ inner ≡ []) ⊎ ((key : List ℕ) × AtMost order key own × order.AreIn least (Some key) (front_items ++ inner))
    before_all [] had = front_only [] refl
    before_all (x ∷ xs) had =
        ⊎_elim
        (λ none. front_only (x ∷ xs) none)
        (λ some. inr (some.0, some.1, law.join least (Some some.0) item.0 front_items (x ∷ xs) front_in some.2 at.from (law.between item.0 some.0 x xs some.2)))
        had

    -- items behind the page
    back_all : (others : List (List ℕ × Node level)) → Keys order below (Some item.0) end others → IsUnder order (next None others) own
        → (inner : List (List ℕ)) → (inner ≡ []) ⊎ ((key : List ℕ) × order.Less own key × order.AreIn (Some key) (next end others) inner)
        → (inner ++ entries_of level (kids level others) ≡ []) ⊎ ((key : List ℕ) × order.Less own key × order.AreIn (Some key) end (inner ++ entries_of level (kids level others)))
    back_all [] keys under inner had =
        let all : inner ++ entries_of level (kids level []) ≡ inner = ap (λ (l : List (List ℕ)). inner ++ l) (no_items level) ∙ append-nil inner in
        ⊎_elim (λ none. inl (all ∙ none)) (λ some. inr (some.0, some.1, subst (λ (l : List (List ℕ)). order.AreIn (Some some.0) end l) (sym all) some.2)) had
      where
        no_items : (level : ℕ) → entries_of level [] ≡ []
        no_items zero = refl
        no_items (suc level) = no_items level
    back_all (b ∷ others) keys under inner had =
        let rest : order.AreIn (Some b.0) end (entries_of level (kids level (b ∷ others))) = kids_entries order law level (Some b.0) end (b ∷ others) (keys_from order law below (Some item.0) (Some b.0) end b others (law.itself b.0) keys) in
        back_some b others keys under rest inner had
      where
        back_some : (b : List ℕ × Node level) (others : List (List ℕ × Node level)) → Keys order below (Some item.0) end (b ∷ others) → order.Less own b.0 → order.AreIn (Some b.0) end (entries_of level (kids level (b ∷ others)))
            → (inner : List (List ℕ)) → (inner ≡ []) ⊎ ((key : List ℕ) × order.Less own key × order.AreIn (Some key) (Some b.0) inner)
            → (inner ++ entries_of level (kids level (b ∷ others)) ≡ []) ⊎ ((key : List ℕ) × order.Less own key × order.AreIn (Some key) end (inner ++ entries_of level (kids level (b ∷ others))))
        back_some b others keys under rest [] had = inr (b.0, under, rest)
        back_some b others keys under rest (x ∷ xs) had =
            ⊎_elim
            (λ none. absurd (let e = ap (λ (l : List (List ℕ)). length l) none in omega (arith, e)))
            (λ some. inr (
              some.0,
              some.1,
              law.join (Some some.0) end b.0 (x ∷ xs) (entries_of level (kids level (b ∷ others))) some.2 rest (law.less_is_most some.0 b.0 (law.between some.0 b.0 x xs some.2))
                  (under_end order law below (Some item.0) end b others keys),
            ))
            had

    module _ (found_page : ℕ) (found : Slots) (leaf : LeafAt g pages order own kind level (Some item.0) (next end back) item.1 found_page found) where
      regroup : (a b c d e : List (List ℕ)) → a ++ ((b ++ c ++ d) ++ e) ≡ (a ++ b) ++ c ++ (d ++ e)
      regroup a b c d e = simp append_assoc

      regroup_leaves : (a b : List Leaf) (c : Leaf) (d e : List Leaf) → a ++ ((b ++ c ∷ d) ++ e) ≡ (a ++ b) ++ c ∷ (d ++ e)
      regroup_leaves a b c d e = simp append_assoc

      item_outside : (n : ℕ) → feet.times n (pages_of level (item.1 ∷ [])) ≡ 0 → n ≢ found_page
      item_outside n none = leaf.inside n (feet.none_outside n (pages_of level (item.1 ∷ [])) none)

      inside_all : (n : ℕ) → IsOutside n (pages_of (suc level) (node ∷ [])) → n ≢ found_page
      inside_all n outside = item_outside n (let none = feet.outside_none n (pages_of (suc level) (node ∷ [])) outside in let a = counts n in omega (arith, none, a))

      module _ (items : List (List ℕ)) (are : order.AreIn leaf.from leaf.to items) where
        inner : Later order (g.map pages) kind level (Some item.0) (next end back) found_page item.1 leaf.front leaf.back items
        inner = leaf.changed items are

        abbrev later_items : List (List ℕ × Node level)
        later_items = front ++ (item.0, (leaf.changed items are).later) ∷ back

        later_keys : Keys order below least end later_items
        later_keys =
            keys_changed order law below least end front item back at item.0 item.0 (inl (law.itself item.0, refl)) at.key at.from (inr (law.itself item.0)) (leaf.changed items are).later [] (leaf.changed items are).keyed tt tt

        later_named : named level later_items ≡ named level node.1
        later_named =
            map-append (λ (x : List ℕ × Node level). (x.0, page_of level x.1)) front ((item.0, (leaf.changed items are).later) ∷ back)
            ∙ ap (λ (n : ℕ). named level front ++ (item.0, n) ∷ named level back) (leaf.changed items are).begins
            ∙ sym (map-append (λ (x : List ℕ × Node level). (x.0, page_of level x.1)) front (item ∷ back)) ∙ ap (λ (l : List (List ℕ × Node level)). named level l) (sym cut)

        later_counts : (n : ℕ) → feet.times n (pages_of (suc level) ((node.0, later_items) ∷ [])) ≡ feet.times n (pages_of (suc level) (node ∷ []))
        later_counts n =
            let a = counts n in
            let b = node_times n level node.0 later_items in
            let c = kids_times n level front ((item.0, (leaf.changed items are).later) ∷ back) in
            let d = kid_times n level (item.0, (leaf.changed items are).later) back in
            let e = feet.times-permutation n (pages_of level (item.1 ∷ [])) (pages_of level ((leaf.changed items are).later ∷ [])) (leaf.changed items are).pages in
            omega (arith, a, b, c, d, e)

        later_kids : kids level later_items ≡ kids level front ++ ((leaf.changed items are).later ∷ kids level back)
        later_kids = kids_append level front ((item.0, (leaf.changed items are).later) ∷ back)

        others_stay : (after : PageMap) → ((n : ℕ) → n ≢ found_page → after n ≡ g.map pages n) → (nodes : List (Node level)) → ((n : ℕ) → feet.times n (pages_of level nodes) + feet.times n (pages_of level (item.1 ∷ [])) ≤ 1)
            → Stand (g.map pages) kind level nodes → Stand after kind level nodes
        others_stay after same nodes few stand =
            stand_stays (g.map pages) after kind level nodes
            (all_times (λ (n : ℕ). after n ≡ g.map pages n) (pages_of level nodes) (λ n some. same n (item_outside n (let f = few n in omega (arith, f, some))))) stand

        later_stand : (after : PageMap) → ((n : ℕ) → n ≢ found_page → after n ≡ g.map pages n) → IsOn after kind 0 (found_page, items) → Stand after kind (suc level) ((node.0, later_items) ∷ [])
        later_stand after same on =
            let was = stands.stand.0.0 in
            let spelled : slots_of kind (suc level) node ≡ slots_of kind (suc level) (node.0, later_items) = ap (λ (l : List (List ℕ × ℕ)). slots kind (suc level) (map link l)) (sym later_named) in
            let here = same node.0 (item_outside node.0 (let o = once node.0 in let one = feet.times_one node.0 [] in omega (arith, o, one))) in (
              (record { some = was.some; is = here ∙ was.is ∙ ap (λ (s : Slots). Some (spelling s)) spelled; fits = subst (λ (s : Slots). Fits s) spelled was.fits }, tt),
              subst (λ (l : List (Node level)). Stand after kind level l) (sym (kids_of level node.0 later_items ∙ later_kids))
                  (stand_append after kind level (kids level front) ((leaf.changed items are).later ∷ kids level back)
                  (others_stay after same (kids level front) (λ n. let o = once n in omega (arith, o)) (stand_left (g.map pages) kind level (kids level front) (item.1 ∷ kids level back) all_stand))
                  (stand_append after kind level ((leaf.changed items are).later ∷ []) (kids level back) ((leaf.changed items are).stand after same on)
                  (others_stay after same (kids level back) (λ n. let o = once n in omega (arith, o)) (stand_right (g.map pages) kind level (item.1 ∷ []) (kids level back) rest_stand)))),
            )

        changed_all : Later order (g.map pages) kind (suc level) least end found_page node (front_items ++ leaf.front) (leaf.back ++ back_items) items
        changed_all = record {
          later = (node.0, later_items);
          begins = refl;
          pages = permuted (pages_of (suc level) (node ∷ [])) (pages_of (suc level) ((node.0, later_items) ∷ [])) (λ n. sym (later_counts n));
          two = (
            (
              let two = stands.two.0.0 in let size = ap (λ (l : List (List ℕ × Node level)). length l) cut in
                  omega (arith, two, size, length-append front (item ∷ back), length-append front ((item.0, (leaf.changed items are).later) ∷ back)),
              tt,
            ),
            subst (λ (l : List (Node level)). HaveTwo level l) (sym (kids_of level node.0 later_items ∙ later_kids))
                (two_append level (kids level front) ((leaf.changed items are).later ∷ kids level back) (two_left level (kids level front) (item.1 ∷ kids level back) all_two)
                (two_append level ((leaf.changed items are).later ∷ []) (kids level back) (leaf.changed items are).two (two_right level (item.1 ∷ []) (kids level back) rest_two))),
          );
          keyed = later_keys;
          has = ap (λ (l : List (Node level)). entries_of level l) (kids_of level node.0 later_items ∙ later_kids) ∙ entries_append level (kids level front) ((leaf.changed items are).later ∷ kids level back)
              ∙ ap (λ (l : List (List ℕ)). front_items ++ l) (entries_append level ((leaf.changed items are).later ∷ []) (kids level back) ∙ ap (λ (l : List (List ℕ)). l ++ back_items) (leaf.changed items are).has)
              ∙ regroup front_items leaf.front items leaf.back back_items;
          stand = later_stand;
        }

      pub leaf_under : LeafAt g pages order own kind (suc level) least end node found_page found
      leaf_under = record {
        leaf = leaf.leaf;
        from = leaf.from;
        to = leaf.to;
        front = front_items ++ leaf.front;
        back = leaf.back ++ back_items;
        is = leaf.is;
        on = leaf.on;
        are = leaf.are;
        inside = inside_all;
        cut = node_items ∙ ap (λ (l : List (List ℕ)). front_items ++ (l ++ back_items)) leaf.cut ∙ regroup front_items leaf.front leaf.leaf leaf.back back_items;
        prior = front_leaves ++ leaf.prior;
        others = leaf.others ++ back_leaves;
        row = node_leaves ∙ ap (λ (l : List Leaf). front_leaves ++ (l ++ back_leaves)) leaf.row ∙ regroup_leaves front_leaves leaf.prior (found_page, leaf.leaf) leaf.others back_leaves;
        front_is = ap (λ (l : List (List ℕ)). front_items ++ l) leaf.front_is ∙ sym (flat_map_append (λ (l : Leaf). l.1) front_leaves leaf.prior);
        back_is = ap (λ (l : List (List ℕ)). l ++ back_items) leaf.back_is ∙ sym (flat_map_append (λ (l : Leaf). l.1) leaf.others back_leaves);
        before = before_all leaf.front leaf.before;
        behind = back_all back at.behind before leaf.back leaf.behind;
        changed = changed_all;
      }

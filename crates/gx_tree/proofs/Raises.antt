-- A root page with two pages below it, which have the items of before.
use Rattle.std.proofs.Common.{◌≡◌, ◌≢◌, inl, inr, ⊎_elim, ℕ, zero, suc, ◌+◌, ◌*◌, ◌^◌, ◌<◌, ◌≤◌, List, [], ◌∷◌, ◌++◌, length, map, Option, Some, None, refl, sym, ◌∙◌, ap, subst, append_assoc, append-nil, length-append, arith}
use Rattle.std.specs.List.{AllByRecursion}
use Rattle.std.specs.List.Sorted.{IsPermutation}
use Rattle.std.proofs.lemmas.Bool.{cases_lt}
use Rattle.std.proofs.lemmas.List.{length-map}
use Rattle.std.proofs.Math.Pow.{pow_mono}
use Rattle.gx_bytes.specs.Fields.{le64}
use Rattle.gx_words.specs.PageMap.{PageMap, with_page}
use Rattle.gx_pages.specs.declared.store.Pages.{Ghosts}
use Rattle.gx_pages.specs.Frees.{IsApart, IsFreeList, KeepsHeader, Taken}
use Rattle.gx_pages.specs.Footprints.{ChangesOnly, IsOutside, KeepsPages, grown}
use Rattle.gx_pages.proofs.Footprints as feet
use Rattle.gx_slot.specs.Slots.{Fits, Slots, spelling}
use Rattle.gx_tree.specs.Changing.{Pair, Raised, link_bytes}
use Rattle.gx_tree.specs.Orders.{IsKeyed, IsLawful, Keys, Order}
use Rattle.gx_tree.specs.Trees.{HaveTwo, Holds, HoldsBeside, IsOn, LacksPage, Leaf, Node, Stand, Tree, children, entries, entries_of, footprint, leaves_of, link, named, numbers, page_of, pages_of, slots, slots_of, uppers_of}
use Rattle.gx_tree.proofs.Keyed.{keys_from, under_end}
use Rattle.gx_tree.proofs.Kids.{entries_append, kids_of, node_times, stand_append, stand_left, stand_right, two_append, two_left, two_right}
use Rattle.gx_tree.specs.Dropping.{IsKind}
use Rattle.gx_tree.proofs.Dropped.{pages_kind}
use Rattle.gx_tree.proofs.Lists.{permuted}
use Rattle.gx_tree.proofs.Nodes.{many_leaves, root_on, row_all, slots_kind, slots_level, times_pages}
use Rattle.gx_tree.proofs.Staying.{stand_stays}
use Rattle.gx_tree.proofs.Widening.{all_times, kept_below, times_all}

-- a page with its items under another number
abbrev pub moved : (level : ℕ) → ℕ → Node level → Node level
moved zero page node = (page, node.1)
moved (suc level) page node = (page, node.1)

pub moved_slots : (kind level page : ℕ) (node : Node level) → slots_of kind level (moved level page node) ≡ slots_of kind level node
moved_slots kind zero page node = refl
moved_slots kind (suc level) page node = refl

moved_page : (level page : ℕ) (node : Node level) → page_of level (moved level page node) ≡ page
moved_page zero page node = refl
moved_page (suc level) page node = refl

moved_keyed : (order : Order) (level page : ℕ) (least end : Option (List ℕ)) (node : Node level) → IsKeyed order level least end node → IsKeyed order level least end (moved level page node)
moved_keyed order zero page least end node keyed = keyed
moved_keyed order (suc level) page least end node keyed = keyed

moved_two : (level page : ℕ) (node : Node level) → HaveTwo level (node ∷ []) → HaveTwo level (moved level page node ∷ [])
moved_two zero page node two = tt
moved_two (suc level) page node two = two

moved_entries : (level page : ℕ) (node : Node level) → entries_of level (moved level page node ∷ []) ≡ entries_of level (node ∷ [])
moved_entries zero page node = refl
moved_entries (suc level) page node = refl

moved_times : (n level page : ℕ) (node : Node level) → feet.times n (pages_of level (moved level page node ∷ [])) + feet.times n (page_of level node ∷ []) ≡ feet.times n (pages_of level (node ∷ [])) + feet.times n (page ∷ [])
moved_times n zero page node = omega arith
moved_times n (suc level) page node =
    let a = node_times n level page node.1 in
    let b = node_times n level node.0 node.1 in
    omega (arith, a, b)

-- at level 0 and above it, a page that moved stands where what is below it stays
moved_stand : (old new : PageMap) (kind level page : ℕ) (node : Node level) → IsOn new kind level (moved level page node)
    → ((n : ℕ) → n ≢ page_of level node → 0 < feet.times n (pages_of level (node ∷ [])) → new n ≡ old n) → IsApart (pages_of level (node ∷ []))
    → Stand old kind level (node ∷ []) → Stand new kind level (moved level page node ∷ [])
moved_stand old new kind zero page node on same apart stand = (on, tt)
moved_stand old new kind (suc level) page node on same apart stand = (
  (on, tt),
  stand_stays old new kind level (children level (node ∷ []))
      (all_times (λ (n : ℕ). new n ≡ old n) (pages_of level (children level (node ∷ []))) (λ n some.
      let a = node_times n level node.0 node.1 in
      let b : feet.times n (pages_of level (children level (node ∷ []))) ≡ feet.times n (pages_of level (map (λ (item : List ℕ × Node level). item.1) node.1)) =
      ap (λ (l : List (Node level)). feet.times n (pages_of level l)) (kids_of level node.0 node.1) in
      let once = feet.apart_once (pages_of (suc level) (node ∷ [])) apart n in
      same n (λ is. absurd (let c : feet.times n (node.0 ∷ []) ≡ 1 = ap (λ (p : ℕ). feet.times n (p ∷ [])) (sym is) ∙ feet.times_one n [] in omega (arith, a, b, c, once, some))) (omega (arith, a, b, some)))) stand.1,
)

-- two pages of a level have fewer than 50 levels with the one above them
some_uppers : (level : ℕ) (left other : Node level) → 1 ≤ level → 0 < length (uppers_of level (left ∷ other ∷ []))
some_uppers zero left other deep = absurd (omega (arith, deep))
some_uppers (suc level) left other deep = omega arith

pub pair_low : {P : Type 0} (g : Ghosts P) (pages : P) (order : Order) (kind level page : ℕ) (left : Node level) (key : List ℕ) (other : Node level) (second : ℕ) (free : List ℕ)
    → Pair g pages order kind level page left key other second free → g.count pages ≤ 2 ^ 50 → level + 1 < 50
pair_low g pages order kind level page left key other second free pair bound =
    ⊎_elim
    (λ few. few)
    (λ deep. absurd (
    let high : 49 ≤ level = omega (arith, deep) in
    let two : 2 ^ 49 ≤ 2 ^ level = pow_mono high in
    omega (
      arith,
      bound,
      feet.apart_few (g.count pages) (pages_of level (left ∷ other ∷ [])) (feet.apart_left (pages_of level (left ∷ other ∷ [])) free pair.apart) pair.below,
      length-append (uppers_of level (left ∷ other ∷ [])) (numbers (leaves_of level (left ∷ other ∷ []))),
      length-map (leaves_of level (left ∷ other ∷ [])) (λ (leaf : Leaf). leaf.0),
      many_leaves level (left ∷ other ∷ []) pair.two,
      two,
      some_uppers level left other (omega (arith, high)),
    )))
    (cases_lt (level + 1) 50)

-- the key of a first item
pub FirstKey : Order → (level : ℕ) → Node level → List ℕ → Type 0
FirstKey order zero node key = (item : List ℕ) × (items : List (List ℕ)) × (node.1 ≡ item ∷ items) × order.IsLeast item key
FirstKey order (suc level) node key = (item : List ℕ × Node level) × (items : List (List ℕ × Node level)) × (node.1 ≡ item ∷ items) × (key ≡ item.0)

pub record Firsts (order : Order) (level : ℕ) (left : Node level) (key skey : List ℕ) : Type 0 where
  pub is_key : order.IsKey key
  pub less : order.Less key skey
  pub keyed : IsKeyed order level (Some key) (Some skey) left

pub firsts : (order : Order) (law : IsLawful order) (level : ℕ) (left : Node level) (key skey : List ℕ) → IsKeyed order level None (Some skey) left → FirstKey order level left key → Firsts order level left key skey
unfolding FirstKey
firsts order law zero left key skey keyed first =
    let cut = law.cut None (Some skey) key first.0 [] first.1 (subst (λ (l : List (List ℕ)). order.AreIn None (Some skey) l) first.2 keyed) first.3 in
    record { is_key = cut.0; less = cut.2; keyed = subst (λ (l : List (List ℕ)). order.AreIn (Some key) (Some skey) l) (sym first.2) cut.4 }
firsts order law (suc level) left key skey keyed first =
    let keys : Keys order (IsKeyed order level) None (Some skey) (first.0 ∷ first.1) = subst (λ (l : List (List ℕ × Node level)). Keys order (IsKeyed order level) None (Some skey) l) first.2 keyed in
    record {
      is_key = subst (λ (k : List ℕ). order.IsKey k) (sym first.3) keys.0;
      less = subst (λ (k : List ℕ). order.Less k skey) (sym first.3) (under_end order law (IsKeyed order level) None (Some skey) first.0 first.1 keys);
      keyed = subst (λ (l : List (List ℕ × Node level)). Keys order (IsKeyed order level) (Some key) (Some skey) l) (sym first.2)
          (keys_from order law (IsKeyed order level) None (Some key) (Some skey) first.0 first.1 (subst (λ (k : List ℕ). order.AtMost key k) first.3 (law.itself key)) keys);
    }

module _ {P : Type 0} (g : Ghosts P) (order : Order) (law : IsLawful order) (kind root level : ℕ) (old new : P) (left other : Node level) (key skey : List ℕ) (second : ℕ) (free : List ℕ)
    (pair : Pair g old order kind level root left skey other second free) (first : Firsts order level left key skey)
    (page : ℕ) (middle : PageMap) (low_bytes top_bytes : List ℕ)
    (low_is : low_bytes ≡ spelling (slots_of kind level left)) (low_fits : Fits (slots_of kind level left))
    (top_is : top_bytes ≡ spelling (slots kind (suc level) (Some (link_bytes (key, page)) ∷ Some (link_bytes (skey, second)) ∷ [])))
    (top_fits : Fits (slots kind (suc level) (Some (link_bytes (key, page)) ∷ Some (link_bytes (skey, second)) ∷ [])))
    (header : KeepsHeader (g.map old) middle) (grows : g.count old ≤ g.count new)
    (put : g.map new ≡ with_page (with_page middle page low_bytes) root top_bytes)
    (rest : List ℕ) (taken : Taken (g.map old) middle (g.count old) (g.count new) page free rest) where
  pair_pages : List ℕ
  pair_pages = pages_of level (left ∷ other ∷ [])

  low : Node level
  low = moved level page left

  pub top : Node (suc level)
  top = (root, (key, moved level page left) ∷ (skey, other) ∷ [])

  all_below : AllByRecursion (λ n. n < g.count old) (pages_of level (left ∷ other ∷ []) ++ free)
  all_below = feet.all_join (λ (n : ℕ). n < g.count old) (pages_of level (left ∷ other ∷ [])) free pair.below pair.frees.below

  fresh : IsApart (pages_of level (left ∷ other ∷ []) ++ page ∷ rest)
  fresh = feet.taken_apart (g.map old) middle (g.count old) (g.count new) page free rest (pages_of level (left ∷ other ∷ [])) taken pair.apart all_below

  once : (n : ℕ) → feet.times n (pages_of level (left ∷ other ∷ [])) + (feet.times n (page ∷ []) + feet.times n rest) ≤ 1
  once n = omega (arith, feet.apart_once (pages_of level (left ∷ other ∷ []) ++ page ∷ rest) fresh n, feet.times-append n (pages_of level (left ∷ other ∷ [])) (page ∷ rest))

  left_root : 0 < feet.times root (pages_of level (left ∷ []))
  left_root = root_in level left pair.begins
    where
      root_in : (level : ℕ) (left : Node level) → page_of level left ≡ root → 0 < feet.times root (pages_of level (left ∷ []))
      root_in zero left is = let a = ap (λ (p : ℕ). feet.times root (p ∷ [])) is in let one = feet.times_one root [] in omega (arith, a, one)
      root_in (suc level) left is =
          let a = ap (λ (p : ℕ). feet.times root (p ∷ [])) is in
          let one = feet.times_one root [] in
          let b = node_times root level left.0 left.1 in
          omega (arith, a, one, b)

  root_some : root ≢ 0
  root_some none = root_on level left other pair.stand (pair.begins ∙ none)
    where
      root_on : (level : ℕ) (left other : Node level) → Stand (g.map old) kind level (left ∷ other ∷ []) → page_of level left ≢ 0
      root_on zero left other stand = stand.0.some
      root_on (suc level) left other stand = stand.0.0.some

  page_root : page ≢ root
  page_root is =
      let o = once root in
      let a = times_pages root level (left ∷ []) (other ∷ []) in
      let b : feet.times root (page ∷ []) ≡ 1 = ap (λ (p : ℕ). feet.times root (p ∷ [])) is ∙ feet.times_one root [] in
      omega (arith, o, a, b, left_root)

  same_at : (n : ℕ) → n ≢ 0 → n ≢ root → n ≢ page → g.map new n ≡ g.map old n
  same_at n some other_root other_page =
      ap (λ (m : PageMap). m n) put ∙ feet.with_other (with_page middle page low_bytes) root top_bytes n other_root ∙ feet.with_other middle page low_bytes n other_page ∙ taken.others n some other_page

  at_root : g.map new root ≡ Some top_bytes
  at_root = ap (λ (m : PageMap). m root) put ∙ feet.with_same (with_page middle page low_bytes) root top_bytes

  at_page : g.map new page ≡ Some low_bytes
  at_page = ap (λ (m : PageMap). m page) put ∙ feet.with_other (with_page middle page low_bytes) root top_bytes page page_root ∙ feet.with_same middle page low_bytes

  low_on : IsOn (g.map new) kind level (moved level page left)
  low_on = record {
    some = λ none. taken.nonzero (sym (moved_page level page left) ∙ none);
    is = ap (λ (n : ℕ). g.map new n) (moved_page level page left) ∙ at_page ∙ ap (λ (l : List ℕ). Some l) low_is ∙ ap (λ (s : Slots). Some (spelling s)) (sym (moved_slots kind level page left));
    fits = subst (λ (s : Slots). Fits s) (sym (moved_slots kind level page left)) low_fits;
  }

  -- pages of both halves aren't page 0
  pages_some : (n : ℕ) → 0 < feet.times n (pages_of level (left ∷ other ∷ [])) → n ≢ 0
  pages_some n some = nonzero n (feet_kind n some)
    where
      feet_kind : (n : ℕ) → 0 < feet.times n (pages_of level (left ∷ other ∷ [])) → IsKind (g.map old) (g.count old) kind n
      feet_kind n some = times_all (IsKind (g.map old) (g.count old) kind) (pages_of level (left ∷ other ∷ [])) (pages_kind (g.map old) (g.count old) kind level (left ∷ other ∷ []) pair.stand pair.below) n some

      nonzero : (n : ℕ) → IsKind (g.map old) (g.count old) kind n → n ≢ 0
      nonzero n is = is.some

  not_page : (n : ℕ) → 0 < feet.times n (pages_of level (left ∷ other ∷ [])) → n ≢ page
  not_page n some is =
      let o = once n in
      let b : feet.times n (page ∷ []) ≡ 1 = ap (λ (p : ℕ). feet.times n (p ∷ [])) (sym is) ∙ feet.times_one n [] in
      omega (arith, o, b, some)

  both_times : (n : ℕ) → feet.times n (pages_of level (left ∷ other ∷ [])) ≡ feet.times n (pages_of level (left ∷ [])) + feet.times n (pages_of level (other ∷ []))
  both_times n = times_pages n level (left ∷ []) (other ∷ [])

  low_stand : Stand (g.map new) kind level (moved level page left ∷ [])
  low_stand =
      moved_stand (g.map old) (g.map new) kind level page left low_on
      (λ n differ some.
      let there : 0 < feet.times n (pages_of level (left ∷ other ∷ [])) = (let a = both_times n in omega (arith, a, some)) in
      same_at n (pages_some n there) (λ is. differ (is ∙ sym pair.begins)) (not_page n there))
      (feet.once_apart (pages_of level (left ∷ [])) (λ n. let o = once n in let a = both_times n in omega (arith, o, a)))
      (stand_left (g.map old) kind level (left ∷ []) (other ∷ []) pair.stand)

  other_stand : Stand (g.map new) kind level (other ∷ [])
  other_stand =
      stand_stays (g.map old) (g.map new) kind level (other ∷ [])
      (all_times (λ (n : ℕ). g.map new n ≡ g.map old n) (pages_of level (other ∷ [])) (λ n some.
      let a = both_times n in
      let there : 0 < feet.times n (pages_of level (left ∷ other ∷ [])) = omega (arith, a, some) in
      same_at n (pages_some n there)
      (λ is. absurd (let o = once root in let b = both_times root in
      let c : feet.times n (pages_of level (other ∷ [])) ≡ feet.times root (pages_of level (other ∷ [])) = ap (λ (m : ℕ). feet.times m (pages_of level (other ∷ []))) is in
      omega (arith, o, b, c, some, left_root)))
      (not_page n there)))
      (stand_right (g.map old) kind level (left ∷ []) (other ∷ []) pair.stand)

  top_on : IsOn (g.map new) kind (suc level) (root, (key, moved level page left) ∷ (skey, other) ∷ [])
  top_on =
      let same : slots kind (suc level) (Some (link_bytes (key, page)) ∷ Some (link_bytes (skey, second)) ∷ []) ≡ slots_of kind (suc level) (root, (key, moved level page left) ∷ (skey, other) ∷ []) =
      ap (λ (n : ℕ). slots kind (suc level) (Some (link_bytes (key, n)) ∷ Some (link_bytes (skey, second)) ∷ [])) (sym (moved_page level page left))
      ∙ ap (λ (n : ℕ). slots kind (suc level) (Some (link_bytes (key, page_of level (moved level page left))) ∷ Some (link_bytes (skey, n)) ∷ [])) (sym pair.follows) in
      record { some = root_some; is = at_root ∙ ap (λ (l : List ℕ). Some l) top_is ∙ ap (λ (s : Slots). Some (spelling s)) same; fits = subst (λ (s : Slots). Fits s) same top_fits }

  later_times : (n : ℕ) → feet.times n (pages_of (suc level) ((root, (key, moved level page left) ∷ (skey, other) ∷ []) ∷ [])) ≡ feet.times n (pages_of level (left ∷ other ∷ [])) + feet.times n (page ∷ [])
  later_times n =
      let a = node_times n level root ((key, moved level page left) ∷ (skey, other) ∷ []) in
      let b : feet.times n (pages_of level (moved level page left ∷ other ∷ [])) ≡ feet.times n (pages_of level (moved level page left ∷ [])) + feet.times n (pages_of level (other ∷ [])) = times_pages n level (moved level page left ∷ []) (other ∷ []) in
      let c = moved_times n level page left in
      let d = both_times n in
      let e : feet.times n (page_of level left ∷ []) ≡ feet.times n (root ∷ []) = ap (λ (p : ℕ). feet.times n (p ∷ [])) pair.begins in
      omega (arith, a, b, c, d, e)

  frees : IsFreeList (g.map new) (g.count new) rest
  frees = subst (λ (m : PageMap). IsFreeList m (g.count new) rest) (sym put)
      (feet.free_list_put (with_page middle page low_bytes) (g.count new) root top_bytes rest root_some
      (feet.none_outside root rest (let o = once root in let a = both_times root in omega (arith, o, a, left_root)))
      (feet.free_list_put middle (g.count new) page low_bytes rest taken.nonzero (feet.none_outside page rest (let o = once page in let one = feet.times_one page [] in omega (arith, o, one))) taken.frees))

  later_pages : List ℕ
  later_pages = pages_of (suc level) ((root, (key, moved level page left) ∷ (skey, other) ∷ []) ∷ [])

  keeps : KeepsPages g old new (pages_of level (left ∷ other ∷ [])) free (pages_of (suc level) ((root, (key, moved level page left) ∷ (skey, other) ∷ []) ∷ [])) rest
  keeps =
      feet.keeps_of g old new (pages_of level (left ∷ other ∷ [])) free (pages_of (suc level) ((root, (key, moved level page left) ∷ (skey, other) ∷ []) ∷ [])) rest grows
      (λ n some outside.
      let none = feet.outside_none n (pages_of level (left ∷ other ∷ []) ++ pages_of (suc level) ((root, (key, moved level page left) ∷ (skey, other) ∷ []) ∷ [])) outside in
      let cut = feet.times-append n (pages_of level (left ∷ other ∷ [])) (pages_of (suc level) ((root, (key, moved level page left) ∷ (skey, other) ∷ []) ∷ [])) in
      let a = later_times n in
      let b = both_times n in
      same_at n some
      (λ is. absurd (let c : feet.times n (pages_of level (left ∷ [])) ≡ feet.times root (pages_of level (left ∷ [])) = ap (λ (m : ℕ). feet.times m (pages_of level (left ∷ []))) is in omega (arith, none, cut, b, c, left_root)))
      (λ is. absurd (let c : feet.times n (page ∷ []) ≡ 1 = ap (λ (p : ℕ). feet.times n (p ∷ [])) (sym is) ∙ feet.times_one n [] in omega (arith, none, cut, a, c))))
      (feet.header_same (g.map old) middle (g.map new) header
      (ap (λ (m : PageMap). m 0) put ∙ feet.with_other (with_page middle page low_bytes) root top_bytes 0 (λ is. root_some (sym is)) ∙ feet.with_other middle page low_bytes 0 (λ is. taken.nonzero (sym is))))
      frees
      (subst (λ (l : List ℕ). IsPermutation l (pages_of (suc level) ((root, (key, moved level page left) ∷ (skey, other) ∷ []) ∷ []) ++ rest))
      (sym (feet.taken_pages (g.map old) middle (g.count old) (g.count new) page free rest (pages_of level (left ∷ other ∷ [])) taken))
      (permuted (pages_of level (left ∷ other ∷ []) ++ page ∷ rest) (pages_of (suc level) ((root, (key, moved level page left) ∷ (skey, other) ∷ []) ∷ []) ++ rest)
      (λ n. let a = later_times n in
      omega (arith, a, feet.times-append n (pages_of level (left ∷ other ∷ [])) (page ∷ rest), feet.times-append n (pages_of (suc level) ((root, (key, moved level page left) ∷ (skey, other) ∷ []) ∷ [])) rest))))

  later_below : AllByRecursion (λ n. n < g.count new) (pages_of (suc level) ((root, (key, moved level page left) ∷ (skey, other) ∷ []) ∷ []) ++ rest)
  later_below = kept_below g old new (pages_of level (left ∷ other ∷ [])) free (pages_of (suc level) ((root, (key, moved level page left) ∷ (skey, other) ∷ []) ∷ [])) rest keeps all_below

  later_apart : IsApart (pages_of (suc level) ((root, (key, moved level page left) ∷ (skey, other) ∷ []) ∷ []) ++ rest)
  later_apart = feet.kept_apart g old new (pages_of level (left ∷ other ∷ [])) free (pages_of (suc level) ((root, (key, moved level page left) ∷ (skey, other) ∷ []) ∷ [])) rest keeps pair.apart all_below

  pub raised : Raised g old new order kind level root left other free
  raised =
      let later : List ℕ = pages_of (suc level) ((root, (key, moved level page left) ∷ (skey, other) ∷ []) ∷ []) in
      record {
        later = (suc level, (root, (key, moved level page left) ∷ (skey, other) ∷ []));
        rest = rest;
        held = record {
          held = record {
            stand = ((top_on, tt), stand_append (g.map new) kind level (moved level page left ∷ []) (other ∷ []) low_stand other_stand);
            begins = refl;
            apart = feet.apart_left later rest later_apart;
            below = feet.all_left (λ (n : ℕ). n < g.count new) later rest later_below;
            two = (
              (omega arith, tt),
              two_append level (moved level page left ∷ []) (other ∷ []) (moved_two level page left (two_left level (left ∷ []) (other ∷ []) pair.two)) (two_right level (left ∷ []) (other ∷ []) pair.two),
            );
          };
          frees = frees;
          apart = later_apart;
        };
        keyed = (first.is_key, tt, first.less, moved_keyed order level page (Some key) (Some skey) left first.keyed, (pair.others.0, law.less_is_most key skey first.less, tt, pair.others.3, tt));
        keeps = keeps;
        same = entries_append level (moved level page left ∷ []) (other ∷ []) ∙ ap (λ (l : List (List ℕ)). l ++ entries_of level (other ∷ [])) (moved_entries level page left)
            ∙ sym (entries_append level (left ∷ []) (other ∷ []));
      }

-- the first key of the page that is moved
pub first_of : (order : Order) (kind level : ℕ) (left : Node level) (skey key : List ℕ) (found : Slots) → found ≡ slots_of kind level left → 0 < length (slots_of kind level left).items → IsKeyed order level None (Some skey) left
    → (found.level ≡ 0 → (least end : Option (List ℕ)) (item : List ℕ) (items : List (List ℕ)) → found.items ≡ map (λ item. Some item) (item ∷ items) → order.AreIn least end (item ∷ items) → order.IsLeast item key)
    → (found.level ≢ 0 → (item : List ℕ × ℕ) (items : List (List ℕ × ℕ)) → found.items ≡ map link (item ∷ items) → key ≡ item.0) → FirstKey order level left key
unfolding FirstKey
first_of order kind zero (page, []) skey key found is some keyed leaf upper = absurd (omega (arith, some))
first_of order kind zero (page, (item ∷ items)) skey key found is some keyed leaf upper =
    (item, items, refl, leaf (ap (λ (s : Slots). s.level) is) None (Some skey) item items (ap (λ (s : Slots). s.items) is) keyed)
first_of order kind (suc level) (page, []) skey key found is some keyed leaf upper = absurd (omega (arith, some))
first_of order kind (suc level) (page, (item ∷ items)) skey key found is some keyed leaf upper =
    (item, items, refl, upper (λ none. let e = ap (λ (s : Slots). s.level) is in omega (arith, e, none)) (item.0, page_of level item.1) (named level items) (ap (λ (s : Slots). s.items) is))

pub first_refused : (order : Order) (kind level : ℕ) (left : Node level) (skey : List ℕ) (found : Slots) → found ≡ slots_of kind level left → 0 < length (slots_of kind level left).items → IsKeyed order level None (Some skey) left
    → (found.level ≡ 0 → (least end : Option (List ℕ)) (item : List ℕ) (items : List (List ℕ)) → found.items ≡ map (λ item. Some item) (item ∷ items) → order.AreIn least end (item ∷ items) → ⊥)
    → (found.level ≢ 0 → (item : List ℕ × ℕ) (items : List (List ℕ × ℕ)) → found.items ≡ map link (item ∷ items) → ⊥) → ⊥
first_refused order kind zero (page, []) skey found is some keyed leaf upper = omega (arith, some)
first_refused order kind zero (page, (item ∷ items)) skey found is some keyed leaf upper = leaf (ap (λ (s : Slots). s.level) is) None (Some skey) item items (ap (λ (s : Slots). s.items) is) keyed
first_refused order kind (suc level) (page, []) skey found is some keyed leaf upper = omega (arith, some)
first_refused order kind (suc level) (page, (item ∷ items)) skey found is some keyed leaf upper =
    upper (λ none. let e = ap (λ (s : Slots). s.level) is in omega (arith, e, none)) (item.0, page_of level item.1) (named level items) (ap (λ (s : Slots). s.items) is)

module _ {P : Type 0} (g : Ghosts P) (pages : P) (order : Order) (kind level root : ℕ) (left : Node level) (skey : List ℕ) (other : Node level) (second : ℕ) (free : List ℕ) (pair : Pair g pages order kind level root left skey other second free) where
  left_on : IsOn (g.map pages) kind level left
  left_on = root_on (g.map pages) kind level left (stand_left (g.map pages) kind level (left ∷ []) (other ∷ []) pair.stand)

  pub pair_found : (found : Slots) → ((s : Slots) → g.map pages root ≡ Some (spelling s) → Fits s → found ≡ s) → found ≡ slots_of kind level left
  pair_found found one = one (slots_of kind level left) (ap (λ (n : ℕ). g.map pages n) (sym pair.begins) ∙ left_on.is) left_on.fits

  pub pair_below : root < g.count pages
  pair_below = subst (λ (n : ℕ). n < g.count pages) pair.begins (row_all (λ (n : ℕ). n < g.count pages) level (left ∷ other ∷ []) pair.below).0

  pub pair_lacks : LacksPage (g.map pages) (g.count pages) root kind level → ⊥
  pair_lacks lacks =
      lacks (slots_of kind level left) (ap (λ (n : ℕ). g.map pages n) (sym pair.begins) ∙ left_on.is) left_on.fits (slots_kind kind level left) (slots_level kind level left) (λ none. left_on.some (pair.begins ∙ none)) pair_below

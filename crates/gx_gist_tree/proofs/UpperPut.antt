-- A page above level 0, after an insert below it.
use Rattle.std.proofs.Common.{◌≡◌, ◌≢◌, ◌⊎◌, inl, inr, ⊎_elim, ℕ, suc, ◌+◌, ◌<◌, ◌≤◌, List, [], ◌∷◌, ◌++◌, length, map, take, slice_set, Option, Some, All, refl, sym, ◌∙◌, ap, subst, append_assoc, append-nil, length-append, arith}
use Rattle.std.specs.List.{AllByRecursion, flat_map}
use Rattle.std.specs.List.Sorted.{IsPermutation}
use Rattle.std.proofs.lemmas.Grind.{flat_map-append}
use Rattle.std.proofs.lemmas.List.{map-append}
use Rattle.std.proofs.lemmas.List.Elements.{All-head, All-tail, All-nil, All-cons, All-append, All-weaker}
use Rattle.std.proofs.lemmas.List.Sorted.{IsPermutation-refl, IsPermutation-trans, IsPermutation-cons, IsPermutation-append_right, IsPermutation-append_comm, All-permutation, length_permutation}
use Rattle.gx_pages.specs.declared.row.RowRef.{RowRef}
use Rattle.gx_pages.specs.declared.store.Pages.{Ghosts as PageGhosts}
use Rattle.gx_pages.specs.Frees.{IsApart}
use Rattle.gx_pages.specs.Footprints.{IsOutside, KeepsPages}
use Rattle.gx_pages.proofs.Footprints as feet
use Rattle.gx_slot.specs.Slots.{Slots, Fits, spelling, with_slot, item_at}
use Rattle.gx_gist.specs.declared.class.GistClass.{Ghosts}
use Rattle.gx_gist_tree.specs.declared.change.Change.{Change}
use Rattle.gx_gist_tree.specs.declared.change.Change.TheVariants.{Within, Split}
use Rattle.gx_gist_tree.specs.declared.change.Arranged.{Arranged}
use Rattle.gx_gist_tree.specs.declared.change.Arranged.TheVariants.{Same, Here, Halves}
use Rattle.gx_gist_tree.specs.Trees.{Node, page_of, pages_of, items_above, HasTwoItems, IsKept, AreKept}
use Rattle.gx_gist_tree.specs.OnPages.{IsOn, IsSound, Stands, inner_item, slots_of}
use Rattle.gx_gist_tree.specs.Insertion.{AreKeys, IsInserted, IsLaid, IsPut, IsReady, IsReplaced, IsWritten, HasValidKeys, head_len, inner_items, items_but, page_with, pages_now}
use Rattle.gx_gist_tree.proofs.Places.{At, all_at, flat_split, set_mid}
use Rattle.gx_gist_tree.proofs.Picks.{somes}
use Rattle.gx_gist_tree.proofs.Permuted.{permuted, flat_moved}
use Rattle.gx_gist_tree.proofs.Cuts.{IsCut, cut_of, items_but_map, somes_items}
use Rattle.gx_gist_tree.proofs.KeyFacts.{Spells, keys_there, length_map}
use Rattle.gx_gist_tree.proofs.Moves.{keeps_beside, keeps_moved, put_behind, stay_behind, beside_same}
use Rattle.gx_gist_tree.proofs.StayFacts.{sound_stands}
use Rattle.gx_gist_tree.proofs.Entered.{stay_kept}
use Rattle.gx_gist_tree.proofs.UpperItems.{IsPlaced, item_bytes, item_pages, items_some, items_spelled, page_items, placed, stand_items}

all_first : {X : Type 0} (F : X → Type 0) (xs ys : List X) → All F (xs ++ ys) → All F xs
all_first F [] ys all = All-nil F
all_first F (x ∷ xs) ys all = All-cons F x xs (All-head F x (xs ++ ys) all) (all_first F xs ys (All-tail F x (xs ++ ys) all))

all_last : {X : Type 0} (F : X → Type 0) (xs ys : List X) → All F (xs ++ ys) → All F ys
all_last F [] ys all = all
all_last F (x ∷ xs) ys all = all_last F xs ys (All-tail F x (xs ++ ys) all)

-- one item taken out, and others put in its place
put_in : {X : Type 0} (F : X → Type 0) (front : List X) (item : X) (back list : List X) → All F (front ++ item ∷ back) → All F list → All F ((front ++ list) ++ back)
put_in F front item back list all more = All-append F (front ++ list) back (All-append F front list (all_first F front (item ∷ back) all) more) (All-tail F item back (all_last F front (item ∷ back) all))

module _ {P C V Q K : Type 0} (p : PageGhosts P) (g : Ghosts C V Q K) (class : C) (old : P) (below : ℕ) (node : Node K (suc below)) (free : List ℕ) (before : Slots) (page : ℕ)
    (ready : IsReady p g class old (suc below) node before page free) (k : ℕ) (a : At node.1 k) where
  abbrev pages_in : K × Node K below → List ℕ
  pages_in = item_pages (g.spelling class) below

  abbrev front : List (K × Node K below)
  front = take k node.1

  abbrev F : List ℕ
  F = flat_map pages_in (take k node.1)

  abbrev I : List ℕ
  I = pages_of K below a.item.1

  abbrev B : List ℕ
  B = flat_map pages_in a.back

  cut : flat_map pages_in node.1 ≡ F ++ (I ++ B)
  cut = flat_split pages_in node.1 k a

  once : (n : ℕ) → feet.times n (node.0 ∷ (F ++ (I ++ B))) + feet.times n free ≤ 1
  once n =
      let all = feet.apart_once (pages_of K (suc below) node ++ free) ready.apart n in
      let e = feet.times-append n (pages_of K (suc below) node) free in
      let c : feet.times n (pages_of K (suc below) node) ≡ feet.times n (node.0 ∷ (F ++ (I ++ B))) = ap (λ (l : List ℕ). feet.times n (node.0 ∷ l)) cut in
      omega (arith, all, e, c)

  apart_child : IsApart (I ++ free)
  apart_child = feet.once_apart (I ++ free) (λ n. omega (arith, once n, feet.times-append n I free, feet.times-append n F (I ++ B), feet.times-append n I B))

  low : AllByRecursion (λ n. n < p.count old) (F ++ (I ++ B))
  low = subst (λ (l : List ℕ). AllByRecursion (λ (n : ℕ). n < p.count old) l) cut ready.below.1

  -- the page below the item is ready
  pub child_ready : IsReady p g class old below a.item.1 (slots_of (g.spelling class) below a.item.1) (page_of K below a.item.1) free
  child_ready =
      let sound = all_at (λ (i : K × Node K below). g.valid_key class i.0 × (page_of K below i.1 < p.count old) × IsSound g class (p.map old) (p.count old) below i.1) node.1 (take k node.1) a.item a.back a.split ready.read.sound.1 in
      record {
        read = record { sound = sound.2; is = refl; at = refl };
        two = all_at (λ (i : K × Node K below). HasTwoItems K below i.1) node.1 (take k node.1) a.item a.back a.split ready.two.1;
        below = feet.all_left (λ (n : ℕ). n < p.count old) I B (feet.all_right (λ (n : ℕ). n < p.count old) F (I ++ B) low);
        frees = ready.frees;
        apart = apart_child;
      }

  pub item_valid : g.valid_key class a.item.0
  item_valid = (all_at (λ (i : K × Node K below). g.valid_key class i.0 × (page_of K below i.1 < p.count old) × IsSound g class (p.map old) (p.count old) below i.1) node.1 (take k node.1) a.item a.back a.split ready.read.sound.1).0

  pub item_low : page_of K below a.item.1 < p.count old
  item_low = (all_at (λ (i : K × Node K below). g.valid_key class i.0 × (page_of K below i.1 < p.count old) × IsSound g class (p.map old) (p.count old) below i.1) node.1 (take k node.1) a.item a.back a.split ready.read.sound.1).1

  pub items_are : before.items ≡ map (λ item. Some (item_bytes (g.spelling class) below item)) node.1
  items_are = ap (λ (s : Slots). s.items) ready.read.is

  pub level_is : before.level ≡ suc below
  level_is = ap (λ (s : Slots). s.level) ready.read.is

  pub item_is : item_at before.items k ≡ Some (inner_item (g.spelling class) (page_of K below a.item.1) a.item.0)
  item_is = ap (λ (l : List (Option (List ℕ))). item_at l k) items_are ∙ a.mapped (λ (item : K × Node K below). Some (item_bytes (g.spelling class) below item))

  module _ (one : (x y : K) → g.valid_key class x → g.valid_key class y → g.spelling class x ≡ g.spelling class y → x ≡ y) (mid : P) (row : RowRef) (key : K) (cslots : Slots) (change : Change K)
      (ins : IsInserted p g class old mid row key below a.item.1 free cslots change) (wide : g.valid_key class (g.union_of class a.item.0 key)) (keys : HasValidKeys (g.valid_key class) change) where
    abbrev bytes : K → List ℕ
    bytes = g.spelling class

    abbrev left : List ℕ
    left = ins.rest

    place : IsPlaced (g.valid_key class) (g.union_of class) bytes (p.map mid) row key below node a.item ins.out change
    place = placed (g.valid_key class) (g.union_of class) bytes (p.map mid) row key below node a.item (take k node.1) a.back a.split wide ins.out change ins.inserts ins.stands ins.two ins.kept ins.stays ins.describes keys

    abbrev list : List (K × Node K below)
    list = place.list

    abbrev all : List (K × Node K below)
    all = (take k node.1 ++ list) ++ a.back

    -- the same items, the new ones behind
    abbrev xs : List (K × Node K below)
    xs = (take k node.1 ++ a.back) ++ list

    all_moved : IsPermutation all xs
    all_moved =
        let f = take k node.1 in
        subst (λ (l : List (K × Node K below)). IsPermutation l xs) (sym (append_assoc f list a.back))
        (subst (λ (l : List (K × Node K below)). IsPermutation (f ++ (list ++ a.back)) l) (sym (append_assoc f a.back list))
        (IsPermutation-append_right f (list ++ a.back) (a.back ++ list) (IsPermutation-append_comm list a.back)))

    N : List ℕ
    N = pages_now K below ins.out

    flat_all : flat_map pages_in all ≡ (F ++ pages_now K below ins.out) ++ B
    flat_all =
        flat_map-append pages_in (take k node.1 ++ list) a.back
        ∙ ap (λ (l : List ℕ). l ++ B) (flat_map-append pages_in (take k node.1) list ∙ ap (λ (l : List ℕ). F ++ l) place.pages)

    -- pages beside those below the item stay
    sides_same : AllByRecursion (λ n. p.map mid n ≡ p.map old n) (F ++ B)
    sides_same =
        beside_same p old mid I free (pages_now K below ins.out) left (F ++ B) ins.pages
        (feet.once_apart ((I ++ (F ++ B)) ++ free) (λ n. omega (
          arith,
          once n,
          feet.times-append n (I ++ (F ++ B)) free,
          feet.times-append n I (F ++ B),
          feet.times-append n F B,
          feet.times-append n F (I ++ B),
          feet.times-append n I B,
        )))
        (feet.all_join (λ (n : ℕ). n ≢ 0) F B (items_some bytes below (p.map old) (take k node.1) (all_first (λ (i : K × Node K below). Stands (p.map old) bytes below i.1) (take k node.1) (a.item ∷ a.back) stood))
        (items_some bytes below (p.map old) a.back (All-tail (λ (i : K × Node K below). Stands (p.map old) bytes below i.1) a.item a.back (all_last (λ (i : K × Node K below). Stands (p.map old) bytes below i.1) (take k node.1) (a.item ∷ a.back) stood))))
        (feet.all_join (λ (n : ℕ). n < p.count old) F B (feet.all_left (λ (n : ℕ). n < p.count old) F (I ++ B) low) (feet.all_right (λ (n : ℕ). n < p.count old) I B (feet.all_right (λ (n : ℕ). n < p.count old) F (I ++ B) low)))
      where
        stood : All (λ i. Stands (p.map old) bytes below i.1) (take k node.1 ++ a.item ∷ a.back)
        stood = subst (λ (l : List (K × Node K below)). All (λ i. Stands (p.map old) bytes below i.1) l) a.split (sound_stands g class (p.count old) (p.map old) (suc below) node ready.read.sound).1

    stand_mid : All (λ i. Stands (p.map mid) bytes below i.1) all
    stand_mid =
        let S : K × Node K below → Type 0 = λ i. Stands (p.map old) bytes below i.1 in
        let T : K × Node K below → Type 0 = λ i. Stands (p.map mid) bytes below i.1 in
        let stood = subst (λ (l : List (K × Node K below)). All S l) a.split (sound_stands g class (p.count old) (p.map old) (suc below) node ready.read.sound).1 in
        let first = stand_items bytes below (p.map old) (p.map mid) (take k node.1) (all_first S (take k node.1) (a.item ∷ a.back) stood) (feet.all_left (λ (n : ℕ). p.map mid n ≡ p.map old n) F B sides_same) in
        let last = stand_items bytes below (p.map old) (p.map mid) a.back (All-tail S a.item a.back (all_last S (take k node.1) (a.item ∷ a.back) stood)) (feet.all_right (λ (n : ℕ). p.map mid n ≡ p.map old n) F B sides_same) in
        All-append T (take k node.1 ++ list) a.back (All-append T (take k node.1) list first place.stands) last

    two_all : All (λ i. HasTwoItems K below i.1) all
    two_all = put_in (λ (i : K × Node K below). HasTwoItems K below i.1) (take k node.1) a.item a.back list (subst (λ (l : List (K × Node K below)). All (λ i. HasTwoItems K below i.1) l) a.split ready.two.1) place.two

    abbrev Kept : K × Node K below → Type 0
    Kept i = IsKept (g.union_of class) (items_above K (suc below) node) row key below i × AreKept (g.union_of class) (items_above K (suc below) node) row key below i.1

    kept_all : All Kept all
    kept_all = All-append Kept (take k node.1 ++ list) a.back (All-append Kept (take k node.1) list
        (stay_kept (g.union_of class) row key below node [] (take k node.1) (a.item ∷ a.back) a.split) place.kept)
        (stay_kept (g.union_of class) row key below node (take k node.1 ++ a.item ∷ []) a.back [] (a.split ∙ sym (append_assoc (take k node.1) (a.item ∷ []) a.back) ∙ ap (λ (l : List (K × Node K below)). (take k node.1 ++ a.item ∷ []) ++ l) (sym (append-nil a.back))))

    valid_all : All (λ i. g.valid_key class i.0) ((take k node.1 ++ a.back) ++ list)
    valid_all =
        let G : K × Node K below → Type 0 = λ i. g.valid_key class i.0 in
        let was : All G (take k node.1 ++ a.item ∷ a.back) = subst (λ (l : List (K × Node K below)). All G l) a.split
        (All-weaker (λ (i : K × Node K below). g.valid_key class i.0 × (page_of K below i.1 < p.count old) × IsSound g class (p.map old) (p.count old) below i.1) G (λ i has. has.0) node.1 ready.read.sound.1) in
        All-append G (take k node.1 ++ a.back) list (All-append G (take k node.1) a.back (all_first G (take k node.1) (a.item ∷ a.back) was) (All-tail G a.item a.back (all_last G (take k node.1) (a.item ∷ a.back) was))) place.valid_keys

    size_all : 2 ≤ length all
    size_all =
        let two = ready.two.0 in
        let some = place.some in
        omega (
          arith,
          two,
          some,
          ap (λ (l : List (K × Node K below)). length l) a.split,
          length-append (take k node.1) (a.item ∷ a.back),
          length-append (take k node.1 ++ list) a.back,
          length-append (take k node.1) list,
        )

    -- the pages of before and those below the new items, while the page itself wasn't written yet
    first_keeps : KeepsPages p old mid (node.0 ∷ flat_map pages_in node.1) free (node.0 ∷ flat_map pages_in all) left
    first_keeps =
        let N = pages_now K below ins.out in
        keeps_moved p old mid (I ++ (node.0 ∷ (F ++ B))) free (N ++ (node.0 ∷ (F ++ B))) left (node.0 ∷ flat_map pages_in node.1) (node.0 ∷ flat_map pages_in all)
        (keeps_beside p old mid I free N left (node.0 ∷ (F ++ B)) ins.pages)
        (permuted (I ++ (node.0 ∷ (F ++ B))) (node.0 ∷ flat_map pages_in node.1) (λ n. omega (
          arith,
          feet.times-append n I (node.0 ∷ (F ++ B)),
          feet.times-append n F B,
          ap (λ (l : List ℕ). feet.times n l) cut,
          feet.times-append n F (I ++ B),
          feet.times-append n I B,
        )))
        (permuted (N ++ (node.0 ∷ (F ++ B))) (node.0 ∷ flat_map pages_in all) (λ n. omega (
          arith,
          feet.times-append n N (node.0 ∷ (F ++ B)),
          feet.times-append n F B,
          ap (λ (l : List ℕ). feet.times n l) flat_all,
          feet.times-append n (F ++ N) B,
          feet.times-append n F N,
        )))

    low_all : AllByRecursion (λ n. n < p.count old) ((node.0 ∷ flat_map pages_in node.1) ++ free)
    low_all = feet.all_join (λ (n : ℕ). n < p.count old) (node.0 ∷ flat_map pages_in node.1) free ready.below ready.frees.below

    -- the page lies apart from the free pages then
    pub page_apart : IsOutside page left
    page_apart =
        let apart = feet.kept_apart p old mid (node.0 ∷ flat_map pages_in node.1) free (node.0 ∷ flat_map pages_in all) left first_keeps ready.apart low_all in
        subst (λ (n : ℕ). IsOutside n left) (sym ready.read.at) (feet.all_right (λ (n : ℕ). node.0 ≢ n) (flat_map pages_in all) left apart.0)

    -- the page is as it was read, until it is put
    pub page_same : p.map mid page ≡ Some (spelling before)
    page_same =
        let on = ready.read.sound.0 in
        let out : IsOutside node.0 (I ++ free) = feet.none_outside node.0 (I ++ free) (omega (
          arith,
          once node.0,
          feet.times_one node.0 (F ++ (I ++ B)),
          feet.times-append node.0 I free,
          feet.times-append node.0 F (I ++ B),
          feet.times-append node.0 I B,
        )) in
        ap (λ (n : ℕ). p.map mid n) ready.read.at ∙ ins.pages.others node.0 on.some ready.below.0 out ∙ on.is ∙ ap (λ (s : Slots). Some (spelling s)) (sym ready.read.is)

    items_all : items_but before.items k ++ inner_items bytes (page_of K below a.item.1) (g.union_of class a.item.0 key) change ≡ map (item_bytes bytes below) xs
    items_all =
        ap (λ (l : List (Option (List ℕ))). items_but l k ++ inner_items bytes (page_of K below a.item.1) (g.union_of class a.item.0 key) change) items_are
        ∙ ap (λ (l : List (List ℕ)). l ++ inner_items bytes (page_of K below a.item.1) (g.union_of class a.item.0 key) change) (items_but_map (item_bytes bytes below) node.1 k)
        ∙ ap (λ (l : List (K × Node K below)). map (item_bytes bytes below) (take k node.1 ++ l) ++ inner_items bytes (page_of K below a.item.1) (g.union_of class a.item.0 key) change) a.next
        ∙ ap (λ (l : List (List ℕ)). map (item_bytes bytes below) (take k node.1 ++ a.back) ++ l) place.raw
        ∙ sym (map-append (item_bytes bytes below) (take k node.1 ++ a.back) list)

    spelled : All (Spells (g.valid_key class) bytes 8 (item_bytes bytes below) (λ item. item.0)) xs
    spelled = items_spelled bytes below (g.valid_key class) xs valid_all

    -- no keys are refused
    pub upper_keys : ((keys : List K) → AreKeys (g.valid_key class) bytes (head_len before.level) (items_but before.items k ++ inner_items bytes (page_of K below a.item.1) (g.union_of class a.item.0 key) change) keys → ⊥) → ⊥
    upper_keys none = none (map (λ (x : K × Node K below). x.0) xs)
        (subst (λ (n : ℕ). AreKeys (g.valid_key class) bytes (head_len n) (items_but before.items k ++ inner_items bytes (page_of K below a.item.1) (g.union_of class a.item.0 key) change) (map (λ (x : K × Node K below). x.0) xs)) (sym level_is)
        (subst (λ (l : List (List ℕ)). AreKeys (g.valid_key class) bytes 8 l (map (λ (x : K × Node K below). x.0) xs)) (sym items_all)
        (keys_there (g.valid_key class) bytes 8 (item_bytes bytes below) (λ x. x.0) xs spelled)))

    module _ (new : P) (slots : Slots) where
      on_page : (n : ℕ) (s : Slots) (ys : List (K × Node K below)) → IsWritten (p.map new) n s → s ≡ slots_of bytes (suc below) (n, ys) → IsOn (p.map new) bytes (suc below) (n, ys)
      on_page n s ys written is = record {
        some = written.some;
        is = written.is ∙ ap (λ (s : Slots). Some (spelling s)) is;
        fits = subst (λ (s : Slots). Fits s) is written.fits;
      }

      stand_new : (now rest : List ℕ) → KeepsPages p mid new (node.0 ∷ []) left now rest → All (λ i. Stands (p.map new) bytes below i.1) all
      stand_new now rest second =
          stand_items bytes below (p.map mid) (p.map new) all stand_mid
          (stay_behind p old mid new node.0 (flat_map pages_in node.1) (flat_map pages_in all) now free left rest first_keeps second ready.apart low_all (items_some bytes below (p.map mid) all stand_mid))

      upper_one : (ys : List (K × Node K below)) → slots ≡ slots_of bytes (suc below) (node.0, ys) → IsPermutation all ys → IsWritten (p.map new) node.0 slots → KeepsPages p mid new (node.0 ∷ []) left (node.0 ∷ []) left
          → IsInserted p g class old new row key (suc below) node free slots Within
      upper_one ys is moved written second =
          let size = length_permutation all ys moved in
          let many = size_all in
          record {
            out = inl (node.0, ys);
            rest = left;
            inserts = (take k node.1, a.item, a.back, ins.out, list, a.split, ins.inserts, place.replaces, moved);
            stands = (on_page node.0 slots ys written is, All-permutation (λ i. Stands (p.map new) bytes below i.1) all ys moved (stand_new (node.0 ∷ []) left second));
            two = (omega (arith, size, many), All-permutation (λ i. HasTwoItems K below i.1) all ys moved two_all);
            kept = All-permutation Kept all ys moved kept_all;
            stays = refl;
            is = is;
            describes = tt;
            pages = keeps_moved p old new (node.0 ∷ flat_map pages_in node.1) free (node.0 ∷ flat_map pages_in all) left (node.0 ∷ flat_map pages_in node.1) (node.0 ∷ flat_map pages_in ys)
                (put_behind p old mid new node.0 (flat_map pages_in node.1) (flat_map pages_in all) (node.0 ∷ []) free left left first_keeps second)
                (IsPermutation-refl (node.0 ∷ flat_map pages_in node.1)) (IsPermutation-cons node.0 (flat_map pages_in all) (flat_map pages_in ys) (flat_moved pages_in all ys moved));
          }

      upper_two : (l r : K) (taken : ℕ) (other : Slots) → IsCut (g.union_of class) (item_bytes bytes below) (λ item. item.0) (suc below) xs slots other l r → IsWritten (p.map new) node.0 slots → IsWritten (p.map new) taken other
          → (rest : List ℕ) → KeepsPages p mid new (node.0 ∷ []) left (node.0 ∷ taken ∷ []) rest → IsInserted p g class old new row key (suc below) node free slots (Split l taken r)
      upper_two l r taken other c written beside rest second =
          let ys = c.ys in
          let zs = c.zs in
          let moved : IsPermutation all (c.ys ++ c.zs) = IsPermutation-trans all xs (c.ys ++ c.zs) all_moved c.moved in
          let here = c.here ∙ page_items bytes below node.0 c.ys in
          let there = c.there ∙ page_items bytes below taken c.zs in
          let T : K × Node K below → Type 0 = λ i. Stands (p.map new) bytes below i.1 in
          let H : K × Node K below → Type 0 = λ i. HasTwoItems K below i.1 in
          let stand : All T (c.ys ++ c.zs) = All-permutation T all (c.ys ++ c.zs) moved (stand_new (node.0 ∷ taken ∷ []) rest second) in
          let two : All H (c.ys ++ c.zs) = All-permutation H all (c.ys ++ c.zs) moved two_all in
          let kept : All Kept (c.ys ++ c.zs) = All-permutation Kept all (c.ys ++ c.zs) moved kept_all in
          record {
            out = inr ((node.0, c.ys), (taken, c.zs));
            rest = rest;
            inserts = (take k node.1, a.item, a.back, ins.out, list, a.split, ins.inserts, place.replaces, moved);
            stands = ((on_page node.0 slots c.ys written here, all_first T c.ys c.zs stand), (on_page taken other c.zs beside there, all_last T c.ys c.zs stand));
            two = ((c.two_left, all_first H c.ys c.zs two), (c.two_right, all_last H c.ys c.zs two));
            kept = (all_first Kept c.ys c.zs kept, all_last Kept c.ys c.zs kept);
            stays = refl;
            is = here;
            describes = (refl, c.left_union, c.right_union);
            pages = keeps_moved p old new (node.0 ∷ flat_map pages_in node.1) free ((node.0 ∷ taken ∷ []) ++ flat_map pages_in all) rest (node.0 ∷ flat_map pages_in node.1)
                ((node.0 ∷ flat_map pages_in c.ys) ++ (taken ∷ flat_map pages_in c.zs))
                (put_behind p old mid new node.0 (flat_map pages_in node.1) (flat_map pages_in all) (node.0 ∷ taken ∷ []) free left rest first_keeps second)
                (IsPermutation-refl (node.0 ∷ flat_map pages_in node.1))
                (permuted ((node.0 ∷ taken ∷ []) ++ flat_map pages_in all) ((node.0 ∷ flat_map pages_in c.ys) ++ (taken ∷ flat_map pages_in c.zs)) (λ n. omega (
                  arith,
                  feet.times-append n (node.0 ∷ flat_map pages_in c.ys) (taken ∷ flat_map pages_in c.zs),
                  feet.times-permutation n (flat_map pages_in all) (flat_map pages_in (c.ys ++ c.zs)) (flat_moved pages_in all (c.ys ++ c.zs) moved),
                  ap (λ (l : List ℕ). feet.times n l) (flat_map-append pages_in c.ys c.zs),
                  feet.times-append n (flat_map pages_in c.ys) (flat_map pages_in c.zs),
                )));
          }

      -- the bytes of the items, the new ones in place
      abbrev w : List ℕ
      w = inner_item bytes (page_of K below a.item.1) (g.union_of class a.item.0 key)

      in_place : change ≡ Within → map (item_bytes bytes below) all ≡ map (item_bytes bytes below) (take k node.1) ++ w ∷ map (item_bytes bytes below) a.back
      in_place none =
          let f = item_bytes bytes below in
          map-append f (take k node.1 ++ list) a.back
          ∙ ap (λ (l : List (List ℕ)). l ++ map f a.back) (map-append f (take k node.1) list)
          ∙ ap (λ (l : List (List ℕ)). (map f (take k node.1) ++ l) ++ map f a.back) (sym place.raw ∙ ap (λ (c : Change K). inner_items bytes (page_of K below a.item.1) (g.union_of class a.item.0 key) c) none)
          ∙ append_assoc (map f (take k node.1)) (w ∷ []) (map f a.back)

      were : map (item_bytes bytes below) node.1 ≡ map (item_bytes bytes below) (take k node.1) ++ item_bytes bytes below a.item ∷ map (item_bytes bytes below) a.back
      were = ap (λ (l : List (K × Node K below)). map (item_bytes bytes below) l) a.split ∙ map-append (item_bytes bytes below) (take k node.1) (a.item ∷ a.back)

      upper_same : change ≡ Within → a.item.0 ≡ g.union_of class a.item.0 key → slots ≡ before → slots ≡ slots_of bytes (suc below) (node.0, all)
      upper_same none is stays =
          let f = item_bytes bytes below in
          stays ∙ ready.read.is ∙ sym (page_items bytes below node.0 node.1)
          ∙ ap (λ (l : List (List ℕ)). page_with (suc below) l) (were ∙ ap (λ (x : K). map f (take k node.1) ++ inner_item bytes (page_of K below a.item.1) x ∷ map f a.back) is ∙ sym (in_place none))
          ∙ page_items bytes below node.0 all

      upper_set : change ≡ Within → slots ≡ with_slot before k (Some w) → slots ≡ slots_of bytes (suc below) (node.0, all)
      upper_set none is =
          let f = item_bytes bytes below in
          let h : K × Node K below → Option (List ℕ) = λ item. Some (item_bytes bytes below item) in
          let len : length (map h (take k node.1)) ≡ k = length_map h (take k node.1) ∙ a.len in
          let cut_at : map h node.1 ≡ map h (take k node.1) ++ h a.item ∷ map h a.back = ap (λ (l : List (K × Node K below)). map h l) a.split ∙ map-append h (take k node.1) (a.item ∷ a.back) in
          let back_again : map h (take k node.1) ++ Some w ∷ map h a.back ≡ somes (map f (take k node.1) ++ w ∷ map f a.back) =
          ap (λ (l : List (Option (List ℕ))). l ++ Some w ∷ map h a.back) (sym (somes_items f (take k node.1)))
          ∙ ap (λ (l : List (Option (List ℕ))). somes (map f (take k node.1)) ++ Some w ∷ l) (sym (somes_items f a.back))
          ∙ sym (map-append (λ (i : List ℕ). Some i) (map f (take k node.1)) (w ∷ map f a.back)) in
          is ∙ ap (λ (s : Slots). with_slot s k (Some w)) ready.read.is
          ∙ ap (λ (l : List (Option (List ℕ))). record { kind = 4; level = suc below; next = 0; items = l })
          (ap (λ (l : List (Option (List ℕ))). slice_set l k (Some w)) cut_at ∙ set_mid (map h (take k node.1)) (h a.item) (Some w) (map h a.back) k len ∙ back_again ∙ ap (λ (l : List (List ℕ)). somes l) (sym (in_place none)))
          ∙ page_items bytes below node.0 all

      Laid : Arranged K → Type 0
      Laid now = IsLaid (g.valid_key class) (g.union_of class) bytes before.level (items_but before.items k ++ inner_items bytes (page_of K below a.item.1) (g.union_of class a.item.0 key) change) slots now

      upper_laid : (now : Arranged K) (after : Change K)
          → IsLaid (g.valid_key class) (g.union_of class) bytes (suc below) (items_but before.items k ++ inner_items bytes (page_of K below a.item.1) (g.union_of class a.item.0 key) change) slots now
          → IsPut p mid new node.0 slots left now after → IsInserted p g class old new row key (suc below) node free slots after
      upper_laid Same Within laid put = absurd laid
      upper_laid Same (Split l taken r) laid put = absurd laid
      upper_laid Here Within laid put = upper_one xs (laid ∙ ap (λ (l : List (List ℕ)). page_with (suc below) l) items_all ∙ page_items bytes below node.0 xs) all_moved put.0 put.1
      upper_laid Here (Split l taken r) laid put = absurd put
      upper_laid (Halves l other r) Within laid put = absurd put
      upper_laid (Halves l other r) (Split x taken y) laid put =
          let c = cut_of (g.valid_key class) (g.union_of class) bytes one (suc below) (item_bytes bytes below) (λ (item : K × Node K below). item.0) xs spelled
          (items_but before.items k ++ inner_items bytes (page_of K below a.item.1) (g.union_of class a.item.0 key) change) items_all slots other.value l r laid in
          subst (λ (m : K). IsInserted p g class old new row key (suc below) node free slots (Split m taken y)) (sym put.0)
          (subst (λ (m : K). IsInserted p g class old new row key (suc below) node free slots (Split l taken m)) (sym put.1)
          (upper_two l r taken other.value c put.2 put.3 put.4.0 put.4.1))

      upper_stays : (now : Arranged K) (after : Change K) → ((now ≡ Same) ⊎ (now ≡ Here)) → slots ≡ slots_of bytes (suc below) (node.0, all) → IsPut p mid new node.0 slots left now after
          → IsInserted p g class old new row key (suc below) node free slots after
      upper_stays Same Within which is put = upper_one all is (IsPermutation-refl all) put.0 put.1
      upper_stays Same (Split l taken r) which is put = absurd put
      upper_stays Here Within which is put = upper_one all is (IsPermutation-refl all) put.0 put.1
      upper_stays Here (Split l taken r) which is put = absurd put
      upper_stays (Halves l other r) after which is put = ⊎_elim (λ (e : Halves l other r ≡ Same). cc) (λ (e : Halves l other r ≡ Here). cc) which

      upper_replaced : (c : Change K) → change ≡ c → (now : Arranged K) (after : Change K)
          → IsReplaced (g.valid_key class) (g.union_of class) bytes before k (page_of K below a.item.1) a.item.0 (g.union_of class a.item.0 key) c slots now → IsPut p mid new node.0 slots left now after
          → IsInserted p g class old new row key (suc below) node free slots after
      upper_replaced Within is now after replaced put =
          ⊎_elim
          (λ same. upper_stays now after (inl same.0) (upper_same is same.1 same.2) put)
          (λ more. ⊎_elim
          (λ here. upper_stays now after (inr here.0) (upper_set is here.1) put)
          (λ laid. upper_laid now after (at_level Within is laid) put)
          more)
          replaced
        where
          at_level : (c : Change K) → change ≡ c → IsLaid (g.valid_key class) (g.union_of class) bytes before.level (items_but before.items k ++ inner_items bytes (page_of K below a.item.1) (g.union_of class a.item.0 key) c) slots now
              → IsLaid (g.valid_key class) (g.union_of class) bytes (suc below) (items_but before.items k ++ inner_items bytes (page_of K below a.item.1) (g.union_of class a.item.0 key) change) slots now
          at_level c same laid =
              subst (λ (n : ℕ). IsLaid (g.valid_key class) (g.union_of class) bytes n (items_but before.items k ++ inner_items bytes (page_of K below a.item.1) (g.union_of class a.item.0 key) change) slots now) level_is
              (subst (λ (d : Change K). IsLaid (g.valid_key class) (g.union_of class) bytes before.level (items_but before.items k ++ inner_items bytes (page_of K below a.item.1) (g.union_of class a.item.0 key) d) slots now) (sym same) laid)
      upper_replaced (Split l other r) is now after laid put =
          upper_laid now after
          (subst (λ (n : ℕ). IsLaid (g.valid_key class) (g.union_of class) bytes n (items_but before.items k ++ inner_items bytes (page_of K below a.item.1) (g.union_of class a.item.0 key) change) slots now) level_is
          (subst (λ (d : Change K). IsLaid (g.valid_key class) (g.union_of class) bytes before.level (items_but before.items k ++ inner_items bytes (page_of K below a.item.1) (g.union_of class a.item.0 key) d) slots now) (sym is) laid))
          put

      -- the page with what an insert below it left
      pub upper_inserted : (now : Arranged K) (after : Change K) (child : ℕ) (at : K) → child ≡ page_of K below a.item.1 → at ≡ a.item.0
          → IsReplaced (g.valid_key class) (g.union_of class) bytes before k child at (g.union_of class at key) change slots now → IsPut p mid new page slots left now after
          → IsInserted p g class old new row key (suc below) node free slots after
      upper_inserted now after child at same_child same_key replaced put =
          upper_replaced change refl now after
          (subst (λ (x : K). IsReplaced (g.valid_key class) (g.union_of class) bytes before k (page_of K below a.item.1) x (g.union_of class x key) change slots now) same_key
          (subst (λ (n : ℕ). IsReplaced (g.valid_key class) (g.union_of class) bytes before k n at (g.union_of class at key) change slots now) same_child replaced))
          (subst (λ (n : ℕ). IsPut p mid new n slots left now after) ready.read.at put)

-- The tree without the rows that were taken out.
use Rattle.std.proofs.Common.{◌≡◌, ◌≢◌, ℕ, zero, suc, ◌<◌, ◌≤◌, Bool, true, false, List, [], ◌∷◌, ◌++◌, length, map, filter, Option, Some, None, All, if◌then◌else◌, refl, sym, ◌∙◌, ap, subst, append-nil, arith}
use Rattle.std.specs.Prelude.{not}
use Rattle.std.specs.List.{AllByRecursion, flat_map, filter_map}
use Rattle.std.proofs.lemmas.List.Elements.{All-head, All-tail, All-nil, All-cons, filter-append}
use Rattle.gx_words.specs.PageMap.{PageMap}
use Rattle.gx_pages.specs.declared.row.RowRef.{RowRef}
use Rattle.gx_pages.specs.declared.store.Pages.{Ghosts as PageGhosts}
use Rattle.gx_pages.specs.Frees.{IsApart, IsFreeChain}
use Rattle.gx_pages.specs.Footprints.{ChangesOnly, KeepsPages, grown}
use Rattle.gx_pages.proofs.Footprints as feet
use Rattle.gx_gist.specs.declared.class.GistClass.{Ghosts}
use Rattle.gx_gist_tree.specs.Trees.{Node, Entry, entries, items_above, kept_slot, page_of, stripped, IsAbove, IsLeafKey, IsTree, HasTwoItems}
use Rattle.gx_gist_tree.specs.OnPages.{Whole, Stands, Holds, HoldsBeside, FitsFields, entries_of, footprint, is_in}
use Rattle.gx_gist_tree.proofs.StripWalk.{page_stripped, pages_stripped}

all_filter : {X : Type 0} (P : X → Type 0) (p : X → Bool) (xs : List X) → All P xs → All P (filter p xs)
all_filter P p [] all = All-nil P
all_filter {X} P p (x ∷ xs) all =
    let rest = all_filter P p xs (All-tail P x xs all) in
    elim (p x) as (λ b. All P (if b then x ∷ filter p xs else filter p xs)) [ true ↦ All-cons P x (filter p xs) (All-head P x xs all) rest | false ↦ rest ]

slots_stripped : {K : Type 0} (gone : Entry K → Bool) (slots : List (Option (Entry K))) → filter_map (λ slot. slot) (map (kept_slot gone) slots) ≡ filter (λ e. not (gone e)) (filter_map (λ slot. slot) slots)
slots_stripped gone [] = refl
slots_stripped gone (None ∷ slots) = slots_stripped gone slots
slots_stripped {K} gone (Some e ∷ slots) =
    let rest = slots_stripped gone slots in
    elim (gone e) as (λ b. filter_map (λ (slot : Option (Entry K)). slot) ((if b then None else Some e) ∷ map (kept_slot gone) slots)
    ≡ (if not b then e ∷ filter (λ x. not (gone x)) (filter_map (λ slot. slot) slots) else filter (λ x. not (gone x)) (filter_map (λ slot. slot) slots)))
    [ true ↦ rest | false ↦ ap (λ (l : List (Entry K)). e ∷ l) rest ]

entries_items : {K : Type 0} (gone : Entry K → Bool) (level : ℕ) → ((node : Node K level) → entries level (stripped gone level node) ≡ filter (λ e. not (gone e)) (entries level node)) → (items : List (K × Node K level))
    → flat_map (λ (item : K × Node K level). entries level item.1) (map (λ (item : K × Node K level). (item.0, stripped gone level item.1)) items)
    ≡ filter (λ e. not (gone e)) (flat_map (λ (item : K × Node K level). entries level item.1) items)
entries_items gone level step [] = refl
entries_items {K} gone level step (item ∷ items) =
    ap (λ (l : List (Entry K)). l ++ flat_map (λ (i : K × Node K level). entries level i.1) (map (λ (i : K × Node K level). (i.0, stripped gone level i.1)) items)) (step item.1)
    ∙ ap (λ (l : List (Entry K)). filter (λ e. not (gone e)) (entries level item.1) ++ l) (entries_items gone level step items)
    ∙ sym (filter-append (λ (e : Entry K). not (gone e)) (entries level item.1) (flat_map (λ (i : K × Node K level). entries level i.1) items))

pub entries_stripped : {K : Type 0} (gone : Entry K → Bool) (level : ℕ) (node : Node K level) → entries level (stripped gone level node) ≡ filter (λ e. not (gone e)) (entries level node)
entries_stripped gone zero node = slots_stripped gone node.1
entries_stripped gone (suc level) node = entries_items gone level (entries_stripped gone level) node.1

abbrev head_of : (K : Type 0) (level : ℕ) → K × Node K level → ℕ × K
head_of K level item = (page_of K level item.1, item.0)

heads_same : {K : Type 0} (gone : Entry K → Bool) (level : ℕ) (items : List (K × Node K level))
    → map (head_of K level) (map (λ (item : K × Node K level). (item.0, stripped gone level item.1)) items) ≡ map (head_of K level) items
heads_same gone level [] = refl
heads_same {K} gone level (item ∷ items) =
    let key : ℕ → ℕ × K = λ n. (n, item.0) in
    ap (λ (n : ℕ). key n ∷ map (head_of K level) (map (λ (i : K × Node K level). (i.0, stripped gone level i.1)) items)) (page_stripped gone level item.1)
    ∙ ap (λ (l : List (ℕ × K)). head_of K level item ∷ l) (heads_same gone level items)

above_items : {K : Type 0} (gone : Entry K → Bool) (level : ℕ) → ((node : Node K level) → items_above K level (stripped gone level node) ≡ items_above K level node) → (items : List (K × Node K level))
    → flat_map (λ (item : K × Node K level). items_above K level item.1) (map (λ (item : K × Node K level). (item.0, stripped gone level item.1)) items) ≡ flat_map (λ (item : K × Node K level). items_above K level item.1) items
above_items gone level step [] = refl
above_items {K} gone level step (item ∷ items) =
    ap (λ (l : List (ℕ × K)). l ++ flat_map (λ (i : K × Node K level). items_above K level i.1) (map (λ (i : K × Node K level). (i.0, stripped gone level i.1)) items)) (step item.1)
    ∙ ap (λ (l : List (ℕ × K)). items_above K level item.1 ++ l) (above_items gone level step items)

pub above_stripped : {K : Type 0} (gone : Entry K → Bool) (level : ℕ) (node : Node K level) → items_above K level (stripped gone level node) ≡ items_above K level node
above_stripped gone zero node = refl
above_stripped {K} gone (suc level) node =
    ap (λ (l : List (ℕ × K)). l ++ flat_map (λ (i : K × Node K level). items_above K level i.1) (map (λ (i : K × Node K level). (i.0, stripped gone level i.1)) node.1)) (heads_same gone level node.1)
    ∙ ap (λ (l : List (ℕ × K)). map (head_of K level) node.1 ++ l) (above_items gone level (above_stripped gone level) node.1)

two_items : (K : Type 0) (gone : Entry K → Bool) (level : ℕ) → ((node : Node K level) → HasTwoItems K level node → HasTwoItems K level (stripped gone level node)) → (items : List (K × Node K level))
    → All (λ item. HasTwoItems K level item.1) items → All (λ (item : K × Node K level). HasTwoItems K level item.1) (map (λ (item : K × Node K level). (item.0, stripped gone level item.1)) items)
two_items K gone level step [] all = All-nil (λ (item : K × Node K level). HasTwoItems K level item.1)
two_items K gone level step (item ∷ items) all =
    All-cons (λ (i : K × Node K level). HasTwoItems K level i.1) (item.0, stripped gone level item.1) (map (λ (i : K × Node K level). (i.0, stripped gone level i.1)) items)
    (step item.1 (All-head (λ (i : K × Node K level). HasTwoItems K level i.1) item items all)) (two_items K gone level step items (All-tail (λ (i : K × Node K level). HasTwoItems K level i.1) item items all))

length_mapped : {X Y : Type 0} (f : X → Y) (xs : List X) → length (map f xs) ≡ length xs
length_mapped f [] = refl
length_mapped f (x ∷ xs) = let rest = length_mapped f xs in omega arith

two_stripped : (K : Type 0) (gone : Entry K → Bool) (level : ℕ) (node : Node K level) → HasTwoItems K level node → HasTwoItems K level (stripped gone level node)
two_stripped K gone zero node two = two
two_stripped K gone (suc level) node two =
    let len = length_mapped {Y = K × Node K level} (λ (i : K × Node K level). (i.0, stripped gone level i.1)) node.1 in
    let some = two.0 in
    (omega (arith, len, some), two_items K gone level (two_stripped K gone level) node.1 two.1)

module _ {V K : Type 0} (valid : V → Type 0) (valid_key : K → Type 0) (leaf : V → K) (over : K → K → Type 0) (gone : Entry K → Bool) where
  abbrev Kept : (level : ℕ) → K × Node K level → Type 0
  Kept level item = valid_key item.0 × IsAbove over item.0 level item.1 × IsTree valid valid_key leaf over level item.1

  tree_items : (level : ℕ) → ((node : Node K level) → IsTree valid valid_key leaf over level node → IsTree valid valid_key leaf over level (stripped gone level node)) → (items : List (K × Node K level))
      → All (Kept level) items → All (Kept level) (map (λ (item : K × Node K level). (item.0, stripped gone level item.1)) items)
  tree_items level step [] all = All-nil (Kept level)
  tree_items level step (item ∷ items) all =
      let first = All-head (Kept level) item items all in
      All-cons (Kept level) (item.0, stripped gone level item.1) (map (λ (i : K × Node K level). (i.0, stripped gone level i.1)) items) (
        first.0,
        subst (λ (l : List (Entry K)). All (λ e. over item.0 e.1) l) (sym (entries_stripped gone level item.1)) (all_filter (λ (e : Entry K). over item.0 e.1) (λ e. not (gone e)) (entries level item.1) first.1),
        step item.1 first.2,
      )
      (tree_items level step items (All-tail (Kept level) item items all))

  tree_stripped : (level : ℕ) (node : Node K level) → IsTree valid valid_key leaf over level node → IsTree valid valid_key leaf over level (stripped gone level node)
  tree_stripped zero node tree =
      subst (λ (l : List (Entry K)). All (λ e. IsLeafKey valid leaf e.1) l) (sym (entries_stripped gone zero node)) (all_filter (λ (e : Entry K). IsLeafKey valid leaf e.1) (λ e. not (gone e)) (entries zero node) tree)
  tree_stripped (suc level) node tree = tree_items level (tree_stripped level) node.1 tree

numbers_once : {K : Type 0} (n : ℕ) (p : Entry K → Bool) (es : List (Entry K)) → feet.times n (map (λ e. e.0.number) (filter p es)) ≤ feet.times n (map (λ e. e.0.number) es)
numbers_once n p [] = omega arith
numbers_once {K} n p (e ∷ es) =
    let rest = numbers_once n p es in
    elim (p e) as (λ b. feet.times n (map (λ (x : Entry K). x.0.number) (if b then e ∷ filter p es else filter p es)) ≤ feet.times n (map (λ (x : Entry K). x.0.number) (e ∷ es)))
    [ true ↦ omega (arith, rest) | false ↦ omega (arith, rest) ]

free_some : (map : PageMap) (first : ℕ) (pages : List ℕ) → IsFreeChain map first pages → AllByRecursion (λ page. page ≢ 0) pages
free_some map first [] chain = tt
free_some map first (page ∷ pages) chain = (chain.1, free_some map chain.2.0 pages chain.2.3)

module _ {P C V Q K : Type 0} (p : PageGhosts P) (g : Ghosts C V Q K) (class : C) (old new : P) (root : ℕ) (before : Whole K) (rows : List RowRef)
    (zero_same : p.map new 0 ≡ p.map old 0) (count : p.count new ≡ p.count old)
    (made : Stands (p.map new) (g.spelling class) before.0 (stripped (λ e. is_in rows e.0.number) before.0 before.1) × ChangesOnly (p.map old) (p.map new) (footprint before)) where
  abbrev gone : Entry K → Bool
  gone e = is_in rows e.0.number

  abbrev later : Whole K
  later = (before.0, stripped gone before.0 before.1)

  same_feet : footprint later ≡ footprint before
  same_feet = pages_stripped gone before.0 before.1

  kept_entries : entries_of later ≡ filter (λ e. not (gone e)) (entries_of before)
  kept_entries = entries_stripped gone before.0 before.1

  holds : Holds g class (p.map old) (p.count old) root before → Holds g class (p.map new) (p.count new) root later
  holds held = record {
    stands = made.0;
    begins = page_stripped gone before.0 before.1 ∙ held.begins;
    apart = subst (λ (l : List ℕ). IsApart l) (sym same_feet) held.apart;
    below = subst (λ (n : ℕ). AllByRecursion (λ (page : ℕ). page < n) (footprint later)) (sym count) (subst (λ (l : List ℕ). AllByRecursion (λ (page : ℕ). page < p.count old) l) (sym same_feet) held.below);
    keys = tree_stripped (g.valid_value class) (g.valid_key class) (g.leaf_of class) (g.over class) gone before.0 before.1 held.keys;
    two = two_stripped K gone before.0 before.1 held.two;
    rows = subst (λ (l : List (Entry K)). All (λ e. FitsFields e.0) l) (sym kept_entries) (all_filter (λ (e : Entry K). FitsFields e.0) (λ e. not (gone e)) (entries_of before) held.rows);
    once = subst (λ (l : List (Entry K)). IsApart (map (λ e. e.0.number) l)) (sym kept_entries) (feet.once_apart (map (λ (e : Entry K). e.0.number) (filter (λ e. not (gone e)) (entries_of before)))
        (λ n. omega (arith, numbers_once n (λ (e : Entry K). not (gone e)) (entries_of before), feet.apart_once (map (λ (e : Entry K). e.0.number) (entries_of before)) held.once n)));
  }

  pub removed : (free : List ℕ) → HoldsBeside p g class old root before free
      → (after : Whole K) × HoldsBeside p g class new root after free × (entries_of after ≡ filter (λ e. not (is_in rows e.0.number)) (entries_of before))
      × (items_above K after.0 after.1 ≡ items_above K before.0 before.1) × (footprint after ≡ footprint before) × KeepsPages p old new (footprint before) free (footprint before) free
  removed free held =
      let frees = feet.free_list_same (p.map old) (p.map new) (p.count old) (p.count new) free zero_same
      (feet.all_same (p.map old) (p.map new) (footprint before) free made.1 (free_some (p.map old) held.frees.first free held.frees.chain) (feet.apart_each (footprint before) free held.apart))
      (omega (arith, count)) held.frees in (
        later,
        record { held = holds held.held; frees = frees; apart = subst (λ (l : List ℕ). IsApart (l ++ free)) (sym same_feet) held.apart },
        kept_entries,
        above_stripped gone before.0 before.1,
        same_feet,
        feet.keeps_of p old new (footprint before) free (footprint before) free (omega (arith, count))
            (λ n some outside. made.1 n some (feet.all_left (λ (m : ℕ). n ≢ m) (footprint before) (footprint before) outside))
            (feet.header_same (p.map old) (p.map old) (p.map new) (feet.header_none (p.map old)) zero_same)
            frees
            (feet.same_pages (footprint before ++ free ++ grown (p.count old) (p.count new)) (footprint before ++ free)
            (ap (λ (l : List ℕ). footprint before ++ free ++ l) (feet.same_count (p.count old) (p.count new) (sym count)) ∙ append-nil (footprint before ++ free))),
      )

-- A row on a page of level 0.
use Rattle.std.proofs.Common.{◌≡◌, inl, inr, ⊎_elim, ℕ, List, [], ◌∷◌, ◌++◌, map, Option, Some, None, All, refl, sym, ◌∙◌, ap, subst}
use Rattle.std.specs.Prelude.{IfSome}
use Rattle.std.specs.List.{filter_map}
use Rattle.std.specs.Option.{option_map}
use Rattle.std.specs.List.Sorted.{IsPermutation}
use Rattle.std.proofs.lemmas.List.{map-append}
use Rattle.std.proofs.lemmas.List.Elements.{All-head, All-tail, All-nil, All-cons, All-append, filter_map-append}
use Rattle.std.proofs.lemmas.List.Sorted.{IsPermutation-sym, IsPermutation-trans, IsPermutation-to_front}
use Rattle.gx_pages.specs.declared.row.RowRef.{RowRef}
use Rattle.gx_pages.specs.declared.store.Pages.{Ghosts as PageGhosts}
use Rattle.gx_pages.specs.Footprints.{IsOutside, KeepsPages}
use Rattle.gx_slot.specs.Slots.{Slots, Fits, spelling, with_item}
use Rattle.gx_gist.specs.declared.class.GistClass.{Ghosts}
use Rattle.gx_gist_tree.specs.declared.change.Change.{Change}
use Rattle.gx_gist_tree.specs.declared.change.Change.TheVariants.{Within, Split}
use Rattle.gx_gist_tree.specs.declared.change.Arranged.{Arranged}
use Rattle.gx_gist_tree.specs.declared.change.Arranged.TheVariants.{Same, Here, Halves}
use Rattle.gx_gist_tree.specs.Trees.{Node, Entry}
use Rattle.gx_gist_tree.specs.OnPages.{FitsFields, IsOn, leaf_item, slots_of}
use Rattle.gx_gist_tree.specs.Insertion.{AreKeys, IsAdded, IsInserted, IsLaid, IsPut, IsReady, IsUnion, IsWritten, head_len, items_in, page_with}
use Rattle.gx_gist_tree.proofs.Cuts.{IsCut, cut_of, items_in_map, somes_map, all_somes}
use Rattle.gx_gist_tree.proofs.ItemFacts.{leaf_long, leaf_key}
use Rattle.gx_gist_tree.proofs.KeyFacts.{Spells, keys_there}

module _ {K : Type 0} (bytes : K → List ℕ) (valid : K → Type 0) where
  abbrev pub leaf_spells : Entry K → Type 0
  leaf_spells e = Spells valid bytes 18 (leaf_item bytes) (λ x. x.1) e

  leaf_spelled : (e : Entry K) → valid e.1 → Spells valid bytes 18 (leaf_item bytes) (λ x. x.1) e
  leaf_spelled e ok = (ok, leaf_long bytes e, leaf_key bytes e)

  pub slots_spelled : (slots : List (Option (Entry K))) → All (λ slot. IfSome slot (λ e. valid e.1 × FitsFields e.0)) slots → All (Spells valid bytes 18 (leaf_item bytes) (λ x. x.1)) (filter_map (λ slot. slot) slots)
  slots_spelled [] all = All-nil (Spells valid bytes 18 (leaf_item bytes) (λ (x : Entry K). x.1))
  slots_spelled (None ∷ slots) all = slots_spelled slots (All-tail (λ (slot : Option (Entry K)). IfSome slot (λ e. valid e.1 × FitsFields e.0)) None slots all)
  slots_spelled (Some e ∷ slots) all =
      let here = All-head (λ (slot : Option (Entry K)). IfSome slot (λ x. valid x.1 × FitsFields x.0)) (Some e) slots all in
      All-cons (Spells valid bytes 18 (leaf_item bytes) (λ (x : Entry K). x.1)) e (filter_map (λ slot. slot) slots) (leaf_spelled e here.0)
      (slots_spelled slots (All-tail (λ (slot : Option (Entry K)). IfSome slot (λ x. valid x.1 × FitsFields x.0)) (Some e) slots all))

  -- the rows of a page with a new one
  abbrev pub rows_with : List (Option (Entry K)) → Entry K → List (Entry K)
  rows_with slots e = filter_map (λ slot. slot) slots ++ e ∷ []

  pub rows_spelled : (slots : List (Option (Entry K))) (e : Entry K) → valid e.1 → All (λ slot. IfSome slot (λ x. valid x.1 × FitsFields x.0)) slots → All (Spells valid bytes 18 (leaf_item bytes) (λ x. x.1)) (rows_with slots e)
  rows_spelled slots e ok all =
      All-append (Spells valid bytes 18 (leaf_item bytes) (λ (x : Entry K). x.1)) (filter_map (λ slot. slot) slots) (e ∷ []) (slots_spelled slots all)
      (All-cons (Spells valid bytes 18 (leaf_item bytes) (λ (x : Entry K). x.1)) e [] (leaf_spelled e ok) (All-nil (Spells valid bytes 18 (leaf_item bytes) (λ (x : Entry K). x.1))))

  pub items_rows : (slots : List (Option (Entry K))) (e : Entry K) → items_in (map (option_map (leaf_item bytes)) slots) ++ leaf_item bytes e ∷ [] ≡ map (leaf_item bytes) (rows_with slots e)
  items_rows slots e =
      ap (λ (l : List (List ℕ)). l ++ leaf_item bytes e ∷ []) (items_in_map (leaf_item bytes) slots)
      ∙ sym (map-append (leaf_item bytes) (filter_map (λ slot. slot) slots) (e ∷ []))

  -- a page of rows without empty slots
  pub page_rows : (n : ℕ) (es : List (Entry K)) → page_with 0 (map (leaf_item bytes) es) ≡ slots_of bytes 0 (n, map (λ e. Some e) es)
  page_rows n es = ap (λ (l : List (Option (List ℕ))). record { kind = 4; level = 0; next = 0; items = l }) (somes_map (leaf_item bytes) es)

module _ {P C V Q K : Type 0} (p : PageGhosts P) (g : Ghosts C V Q K) (class : C) (one : (a b : K) → g.valid_key class a → g.valid_key class b → g.spelling class a ≡ g.spelling class b → a ≡ b)
    (old new : P) (row : RowRef) (key : K) (valid : g.valid_key class key) (node : Node K 0) (free : List ℕ) (before : Slots) (page : ℕ)
    (ready : IsReady p g class old 0 node before page free) where
  abbrev e : Entry K
  e = (row, key)

  abbrev bytes : K → List ℕ
  bytes = g.spelling class

  items_are : before.items ≡ map (option_map (leaf_item bytes)) node.1
  items_are = ap (λ (s : Slots). s.items) ready.read.is

  level_is : before.level ≡ 0
  level_is = ap (λ (s : Slots). s.level) ready.read.is

  abbrev rows : List (Entry K)
  rows = filter_map (λ slot. slot) node.1

  abbrev all : List (Entry K)
  all = rows_with bytes (g.valid_key class) node.1 e

  spelled : All (Spells (g.valid_key class) bytes 18 (leaf_item bytes) (λ x. x.1)) all
  spelled = rows_spelled bytes (g.valid_key class) node.1 e valid ready.read.sound.1

  items_all : items_in before.items ++ leaf_item bytes e ∷ [] ≡ map (leaf_item bytes) all
  items_all = ap (λ (l : List (Option (List ℕ))). items_in l ++ leaf_item bytes e ∷ []) items_are ∙ items_rows bytes (g.valid_key class) node.1 e

  -- no keys are refused
  pub leaf_keys : ((keys : List K) → AreKeys (g.valid_key class) bytes (head_len before.level) (items_in before.items ++ leaf_item bytes e ∷ []) keys → ⊥) → ⊥
  leaf_keys none = none (map (λ (x : Entry K). x.1) all)
      (subst (λ (n : ℕ). AreKeys (g.valid_key class) bytes (head_len n) (items_in before.items ++ leaf_item bytes e ∷ []) (map (λ (x : Entry K). x.1) all)) (sym level_is)
      (subst (λ (l : List (List ℕ)). AreKeys (g.valid_key class) bytes 18 l (map (λ (x : Entry K). x.1) all)) (sym items_all)
      (keys_there (g.valid_key class) bytes 18 (leaf_item bytes) (λ x. x.1) all spelled)))

  moved_first : IsPermutation (e ∷ rows) all
  moved_first = IsPermutation-sym all (e ∷ rows) (IsPermutation-to_front rows e)

  on_page : (n : ℕ) (slots : Slots) (ys : List (Option (Entry K))) → IsWritten (p.map new) n slots → slots ≡ slots_of bytes 0 (n, ys) → IsOn (p.map new) bytes 0 (n, ys)
  on_page n slots ys written is = record {
    some = written.some;
    is = written.is ∙ ap (λ (s : Slots). Some (spelling s)) is;
    fits = subst (λ (s : Slots). Fits s) is written.fits;
  }

  module _ (slots : Slots) where
    leaf_one : (ys : List (Option (Entry K))) → slots ≡ slots_of bytes 0 (node.0, ys) → IsPermutation (e ∷ rows) (filter_map (λ slot. slot) ys) → IsWritten (p.map new) node.0 slots
        → KeepsPages p old new (node.0 ∷ []) free (node.0 ∷ []) free → IsInserted p g class old new row key 0 node free slots Within
    leaf_one ys is moved written keeps = record {
      out = inl (node.0, ys);
      rest = free;
      inserts = moved;
      stands = on_page node.0 slots ys written is;
      two = tt;
      kept = tt;
      stays = refl;
      is = is;
      describes = tt;
      pages = keeps;
    }

    leaf_two : (l r : K) (taken : ℕ) (other : Slots) (cut : IsCut (g.union_of class) (leaf_item bytes) (λ x. x.1) 0 all slots other l r) → IsWritten (p.map new) node.0 slots → IsWritten (p.map new) taken other
        → (rest : List ℕ) → KeepsPages p old new (node.0 ∷ []) free (node.0 ∷ taken ∷ []) rest → IsInserted p g class old new row key 0 node free slots (Split l taken r)
    leaf_two l r taken other cut written beside rest keeps =
        let same : (es : List (Entry K)) → filter_map (λ slot. slot) (map (λ (x : Entry K). Some x) es) ≡ es = λ es. all_somes es in
        let here = cut.here ∙ page_rows bytes (g.valid_key class) node.0 cut.ys in
        let there = cut.there ∙ page_rows bytes (g.valid_key class) taken cut.zs in
        let united : (es : List (Entry K)) (k : K) → IsUnion (g.union_of class) (map (λ (x : Entry K). x.1) es) k → IsUnion (g.union_of class) (map (λ (x : Entry K). x.1) (filter_map (λ slot. slot) (map (λ (x : Entry K). Some x) es))) k =
        λ es k has. subst (λ (m : List (Entry K)). IsUnion (g.union_of class) (map (λ (x : Entry K). x.1) m) k) (sym (all_somes es)) has in
        let moved : IsPermutation (e ∷ rows) (filter_map (λ slot. slot) (map (λ (x : Entry K). Some x) cut.ys) ++ filter_map (λ slot. slot) (map (λ (x : Entry K). Some x) cut.zs)) =
        subst (λ (m : List (Entry K)). IsPermutation (e ∷ rows) (m ++ filter_map (λ slot. slot) (map (λ (x : Entry K). Some x) cut.zs))) (sym (all_somes cut.ys))
        (subst (λ (m : List (Entry K)). IsPermutation (e ∷ rows) (cut.ys ++ m)) (sym (all_somes cut.zs)) (IsPermutation-trans (e ∷ rows) all (cut.ys ++ cut.zs) moved_first cut.moved)) in
        record {
          out = inr ((node.0, map (λ (x : Entry K). Some x) cut.ys), (taken, map (λ (x : Entry K). Some x) cut.zs));
          rest = rest;
          inserts = moved;
          stands = (on_page node.0 slots (map (λ (x : Entry K). Some x) cut.ys) written here, on_page taken other (map (λ (x : Entry K). Some x) cut.zs) beside there);
          two = (tt, tt);
          kept = (tt, tt);
          stays = refl;
          is = here;
          describes = (refl, united cut.ys l cut.left_union, united cut.zs r cut.right_union);
          pages = keeps;
        }

    leaf_added : slots ≡ with_item before (Some (leaf_item bytes e)) → slots ≡ slots_of bytes 0 (node.0, node.1 ++ Some e ∷ [])
    leaf_added is =
        is ∙ ap (λ (s : Slots). with_item s (Some (leaf_item bytes e))) ready.read.is
        ∙ ap (λ (l : List (Option (List ℕ))). record { kind = 4; level = 0; next = 0; items = l }) (sym (map-append (option_map (leaf_item bytes)) node.1 (Some e ∷ [])))

    added_rows : filter_map (λ slot. slot) (node.1 ++ Some e ∷ []) ≡ all
    added_rows = filter_map-append (λ (slot : Option (Entry K)). slot) node.1 (Some e ∷ [])

    -- the page was laid out anew
    leaf_laid : (a : Arranged K) (change : Change K) → IsLaid (g.valid_key class) (g.union_of class) bytes 0 (items_in before.items ++ leaf_item bytes e ∷ []) slots a → IsPut p old new node.0 slots free a change
        → IsInserted p g class old new row key 0 node free slots change
    leaf_laid Same Within laid put = absurd laid
    leaf_laid Same (Split l taken r) laid put = absurd laid
    leaf_laid Here Within laid put =
        leaf_one (map (λ (x : Entry K). Some x) all) (laid ∙ ap (λ (l : List (List ℕ)). page_with 0 l) items_all ∙ page_rows bytes (g.valid_key class) node.0 all)
        (subst (λ (m : List (Entry K)). IsPermutation (e ∷ rows) m) (sym (all_somes all)) moved_first) put.0 put.1
    leaf_laid Here (Split l taken r) laid put = absurd put
    leaf_laid (Halves l other r) Within laid put = absurd put
    leaf_laid (Halves l other r) (Split k taken m) laid put =
        let cut = cut_of (g.valid_key class) (g.union_of class) bytes one 0 (leaf_item bytes) (λ (x : Entry K). x.1) all spelled (items_in before.items ++ leaf_item bytes e ∷ []) items_all slots other.value l r laid in
        subst (λ (a : K). IsInserted p g class old new row key 0 node free slots (Split a taken m)) (sym put.0)
        (subst (λ (b : K). IsInserted p g class old new row key 0 node free slots (Split l taken b)) (sym put.1)
        (leaf_two l r taken other.value cut put.2 put.3 put.4.0 put.4.1))

    leaf_here : (a : Arranged K) (change : Change K) → a ≡ Here → slots ≡ with_item before (Some (leaf_item bytes e)) → IsPut p old new node.0 slots free a change → IsInserted p g class old new row key 0 node free slots change
    leaf_here a change is added put = at change (subst (λ (x : Arranged K). IsPut p old new node.0 slots free x change) is put)
      where
        at : (c : Change K) → IsPut p old new node.0 slots free Here c → IsInserted p g class old new row key 0 node free slots c
        at Within has = leaf_one (node.1 ++ Some e ∷ []) (leaf_added added) (subst (λ (m : List (Entry K)). IsPermutation (e ∷ rows) m) (sym added_rows) moved_first) has.0 has.1
        at (Split l taken r) has = absurd has

    pub leaf_inserted : (a : Arranged K) (change : Change K) → IsAdded (g.valid_key class) (g.union_of class) bytes before (leaf_item bytes e) slots a → IsPut p old new page slots free a change
        → IsInserted p g class old new row key 0 node free slots change
    leaf_inserted a change added put =
        let there : IsPut p old new node.0 slots free a change = subst (λ (n : ℕ). IsPut p old new n slots free a change) ready.read.at put in
        ⊎_elim
        (λ here. leaf_here a change here.0 here.1 there)
        (λ laid. leaf_laid a change (subst (λ (n : ℕ). IsLaid (g.valid_key class) (g.union_of class) bytes n (items_in before.items ++ leaf_item bytes e ∷ []) slots a) level_is laid) there)
        added

module _ {P C V Q K : Type 0} (p : PageGhosts P) (g : Ghosts C V Q K) (class : C) (old : P) (node : Node K 0) (free : List ℕ) (before : Slots) (page : ℕ) (ready : IsReady p g class old 0 node before page free) where
  -- The page is no free one.
  pub leaf_apart : IsOutside page free
  leaf_apart = subst (λ (n : ℕ). IsOutside n free) (sym ready.read.at) ready.apart.0

  -- A page with a new row isn't the same.
  pub leaf_same : (row : RowRef) (key : K) (slots : Slots) (a : Arranged K) → IsAdded (g.valid_key class) (g.union_of class) (g.spelling class) before (leaf_item (g.spelling class) (row, key)) slots a → a ≡ Same → ⊥
  leaf_same row key slots a added is =
      ⊎_elim
      (λ here. (let e = here.0 in cc))
      (λ laid. subst (λ (x : Arranged K). IsLaid (g.valid_key class) (g.union_of class) (g.spelling class) before.level (items_in before.items ++ leaf_item (g.spelling class) (row, key) ∷ []) slots x) is laid)
      added

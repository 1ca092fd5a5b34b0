-- An index of which rows are taken out.
use Rattle.std.proofs.Common.{◌≡◌, ◌≢◌, inl, inr, ⊎_elim, ℕ, zero, suc, ◌+◌, ◌<◌, ◌≤◌, ◌^◌, Bool, true, false, ◌||◌, not, cond, List, [], ◌∷◌, ◌++◌, length, map, filter, take, drop, get_or, Option, Some, None, refl, sym, ◌∙◌, ap, subst, append_assoc, append-nil, arith}
use Rattle.std.specs.List.{AllByRecursion}
use Rattle.std.specs.Str.{bytes_eq}
use Rattle.std.proofs.lemmas.Bool.{false≢true}
use Rattle.std.proofs.lemmas.List.Folds.{list_any-append}
use Rattle.gx_bytes.specs.Fields.{le64}
use Rattle.gx_words.specs.PageMap.{PageMap}
use Rattle.gx_pages.specs.declared.row.RowRef.{RowRef}
use Rattle.gx_pages.specs.declared.store.Pages.{Ghosts}
use Rattle.gx_pages.specs.Footprints.{KeepsPages}
use Rattle.gx_pages.specs.Frees.{IsApart}
use Rattle.gx_pages.specs.Rows.{IsRising}
use Rattle.gx_pages.proofs.Footprints.{all_join, all_right, apart_once, keeps_join, keeps_none, kept_beside, once_apart, times-append}
use Rattle.gx_posting.specs.Postings.{Spells, entries_bytes}
use Rattle.gx_posting.proofs.PostingFacts.{one_spelled}
use Rattle.gx_posting_tree.specs.PostingTrees.{HoldsRows, without}
use Rattle.gx_posting_tree.proofs.Lengths.{filter_shorter}
use Rattle.gx_gin.specs.Reach.{is_among}
use Rattle.gx_gin_entry.specs.EntryTrees.{AreRising, AreShorter, Entry, HoldsEntries, IsBefore, IsFound, IsPut, IsRemoved}
use Rattle.gx_gin_entry.specs.Keys.{rising_across}
use Rattle.gx_gin_entry.specs.Listed.{entries_of}
use Rattle.gx_gin_entry.specs.declared.listing.EntryBytes.{EntryBytes}
use Rattle.gx_gin_scan.specs.Gins.{HoldsGin, IsPosting}
use Rattle.gx_gin_scan.specs.Lists.{IsIndexOf, Lists, keys_of, rows_under}
use Rattle.gx_gin_scan.specs.Removing.{LosesAll, LosesRows}
use Rattle.gx_gin_scan.specs.Searches.{has}
use Rattle.gx_gin_scan.proofs.Frames.{map_stays}
use Rattle.gx_gin_scan.proofs.Grows.{IsFlat, held_rising, held_some, one_posting, same_cut}
use Rattle.gx_gin_scan.proofs.Held.{before_differs, bytes_tell, key_none, not_both, of_list}
use Rattle.gx_gin_scan.proofs.Puts.{Changed, Open, beside_own, entries_mid, entry_removed, its_rows, its_tree, list_changed, open_at, posting_changed}

-- a key that is there has no other entry
key_there : (front back f b : List Entry) (key was : List ℕ) → front ++ (key, was) ∷ back ≡ f ++ b → AllByRecursion (λ e. e.0 ≢ key) (f ++ b) → ⊥
key_there front back f b key was is none =
    (all_right (λ (e : Entry). e.0 ≢ key) front ((key, was) ∷ back) (subst (λ (l : List Entry). AllByRecursion (λ (e : Entry). e.0 ≢ key) l) (sym is) none)).0 refl

-- what is put at a key that is there
pub put_there : (key posting was : List ℕ) (front back entries later : List Entry) → entries ≡ front ++ (key, was) ∷ back → AreRising entries → AreRising later → IsPut key posting entries later → later ≡ front ++ (key, posting) ∷ back
put_there key posting was front back entries later is rising up put =
    at put.front put.was put.back put.old put.new
  where
    differ_left : (es : List Entry) → AllByRecursion (λ e. IsBefore e.0 key) es → AllByRecursion (λ e. e.0 ≢ key) es
    differ_left [] all = tt
    differ_left (e ∷ es) all = (before_differs e.0 key all.0, differ_left es all.1)

    differ_right : (es : List Entry) → AllByRecursion (λ e. IsBefore key e.0) es → AllByRecursion (λ e. e.0 ≢ key) es
    differ_right [] all = tt
    differ_right (e ∷ es) all = ((λ same. before_differs key e.0 all.0 (sym same)), differ_right es all.1)

    behind : (f b : List Entry) → AreRising (f ++ (key, posting) ∷ b) → AllByRecursion (λ e. IsBefore key e.0) b
    behind [] b up_ = up_.0
    behind (e ∷ f) b up_ = behind f b up_.1

    at : (f : List Entry) (o : Option (List ℕ)) (b : List Entry) → entries ≡ f ++ Rattle.gx_gin_entry.specs.EntryTrees.entry_of key o ++ b → later ≡ f ++ (key, posting) ∷ b → later ≡ front ++ (key, posting) ∷ back
    at f None b old new =
        let up_ = subst (λ (l : List Entry). AreRising l) new up in
        absurd (key_there front back f b key was (sym is ∙ old ∙ ap (λ (l : List Entry). l ++ b) (append-nil f))
        (all_join (λ (e : Entry). e.0 ≢ key) f b (differ_left f (rising_across f (key, posting) b up_)) (differ_right b (behind f b up_))))
    at f (Some other) b old new =
        let cut = same_cut key was other front f back b (subst (λ (l : List Entry). AreRising l) is rising) (sym is ∙ old ∙ append_assoc f ((key, other) ∷ []) b) in
        new ∙ ap (λ (l : List Entry). l ++ (key, posting) ∷ b) (sym cut.0) ∙ ap (λ (l : List Entry). front ++ (key, posting) ∷ l) (sym cut.1)

-- what is left when it is taken out
pub removed_there : (key was : List ℕ) (front back entries later : List Entry) → entries ≡ front ++ (key, was) ∷ back → AreRising entries → IsRemoved key entries later → later ≡ front ++ back
removed_there key was front back entries later is rising gone =
    at gone.front gone.was gone.back gone.old gone.new
  where
    at : (f : List Entry) (o : Option (List ℕ)) (b : List Entry) → entries ≡ f ++ Rattle.gx_gin_entry.specs.EntryTrees.entry_of key o ++ b → later ≡ f ++ b → later ≡ front ++ back
    at f None b old new =
        absurd (key_there front back f b key was (sym is ∙ old ∙ ap (λ (l : List Entry). l ++ b) (append-nil f)) (subst (λ (l : List Entry). AllByRecursion (λ (e : Entry). e.0 ≢ key) l) new gone.gone))
    at f (Some other) b old new =
        let cut = same_cut key was other front f back b (subst (λ (l : List Entry). AreRising l) is rising) (sym is ∙ old ∙ append_assoc f ((key, other) ∷ []) b) in
        new ∙ ap (λ (l : List Entry). l ++ b) (sym cut.0) ∙ ap (λ (l : List Entry). front ++ l) (sym cut.1)

-- no bytes spell some rows
none_there : (rows : List RowRef) → Spells [] rows → rows ≡ []
none_there rows spells = one_spelled [] rows [] spells (record { fit = tt; rise = tt; are = refl })

-- a list on no pages of its own
no_feet : (now : PageMap) (count : ℕ) (list : List ℕ) (rows : List RowRef) (own : List ℕ) → IsPosting now count (0 ∷ list) rows own → own ≡ []
no_feet now count list rows own stands = ⊎_elim (λ short. short.stand) (λ tree. absurd (not_both list (le64 tree.root) tree.is)) stands

short_list : (now : PageMap) (count : ℕ) (list : List ℕ) (rows : List RowRef) (own : List ℕ) → IsPosting now count (0 ∷ list) rows own → length list ≤ 512
short_list now count list rows own stands =
    ⊎_elim
    (λ short. let e : 0 ∷ short.list ≡ 0 ∷ list = sym short.is in let same : short.list ≡ list = cc in subst (λ (l : List ℕ). length l ≤ 512) same short.short)
    (λ tree. absurd (not_both list (le64 tree.root) tree.is))
    stands

-- some of the rows of a list take no more bytes
kept_few : (list kept : List ℕ) (rows gone : List RowRef) → Spells list rows → Spells kept (without gone rows) → length kept ≤ length list
kept_few list kept rows gone all some =
    let p : RowRef → Bool = λ row. not (has gone row.number) in
    let few = filter_shorter p 0 rows (from_none rows) all.rise in
    let a = ap (λ (l : List ℕ). length l) all.are in
    let b = ap (λ (l : List ℕ). length l) some.are in
    omega (arith, few, a, b)
  where
    from_none : (rows : List RowRef) → AllByRecursion (λ row. 0 ≤ row.number) rows
    from_none [] = tt
    from_none (row ∷ rows) = (omega arith, from_none rows)

module _ {P : Type 0} (g : Ghosts P) where
  lost_of : (old new : P) (root : ℕ) (lists : Lists) (feet free : List ℕ) (front : List Entry) (key : List ℕ) (back : List Entry) (gone : List RowRef) (entries middle : List Entry) (rows : List RowRef)
      → Changed g old new root lists feet free entries key rows → entries ≡ front ++ middle ++ back → rows ≡ without gone (rows_under lists key) → LosesRows g old new root lists feet free front key back gone
  lost_of old new root lists feet free front key back gone entries middle rows changed are is = record {
    after = changed.after;
    later = changed.later;
    rest = changed.rest;
    gin = changed.gin;
    middle = middle;
    entries = changed.same ∙ are;
    keeps = changed.keeps;
    under = λ k.
        changed.under k
        ∙ ⊎_elim
        (λ same. ap (λ (l : List RowRef). cond (bytes_eq key k) l (rows_under lists k)) (is ∙ ap (λ (l : List ℕ). without gone (rows_under lists l)) same.1))
        (λ differ.
        ap (λ (b : Bool). cond b rows (rows_under lists k)) differ.0
        ∙ sym (ap (λ (b : Bool). cond b (without gone (rows_under lists k)) (rows_under lists k)) differ.0))
        (bytes_tell key k);
  }

  module _ (old : P) (root : ℕ) (lists : Lists) (feet free : List ℕ) (gin : HoldsGin g old root lists feet free) (front : List Entry) (key : List ℕ) (back : List Entry) (gone : List RowRef) where
    -- nothing was written
    pub lost_none : (posting : List ℕ) → gin.held.entries ≡ front ++ (key, posting) ∷ back → rows_under lists key ≡ without gone (rows_under lists key) → LosesRows g old old root lists feet free front key back gone
    lost_none posting cut same = record {
      after = lists;
      later = feet;
      rest = free;
      gin = gin;
      middle = (key, posting) ∷ [];
      entries = cut ∙ sym (append_assoc front ((key, posting) ∷ []) back);
      keeps = keeps_none g old feet free gin.frees;
      under = λ k.
          ⊎_elim
          (λ here.
          sym (ap (λ (l : List ℕ). rows_under lists l) here.1) ∙ same ∙ ap (λ (l : List ℕ). without gone (rows_under lists l)) here.1
          ∙ sym (ap (λ (b : Bool). cond b (without gone (rows_under lists k)) (rows_under lists k)) here.0))
          (λ differ. sym (ap (λ (b : Bool). cond b (without gone (rows_under lists k)) (rows_under lists k)) differ.0))
          (bytes_tell key k);
    }

    -- an entry with a list
    module _ (list : List ℕ) (cut : gin.held.entries ≡ front ++ (key, 0 ∷ list) ∷ back) where
      abbrev o : Open g old root gin.held.keys lists feet free front key (0 ∷ list) back
      o = open_at g old root lists feet free gin front key (0 ∷ list) back cut

      its_list : Spells list o.rows
      its_list = of_list (g.map old) (g.count old) (0 ∷ list) list o.rows o.own refl o.stands

      rows_are : rows_under lists key ≡ o.rows
      rows_are = its_rows g old root gin.held.keys lists feet free front key (0 ∷ list) back o

      pub list_spelled : Spells list (rows_under lists key)
      list_spelled = subst (λ (l : List RowRef). Spells list l) (sym rows_are) its_list

      pub list_short : length list ≤ 512
      list_short = short_list (g.map old) (g.count old) list o.rows o.own o.stands

      module _ (kept : List ℕ) (stays : (rows : List RowRef) → Spells list rows → Spells kept (without gone rows)) where
        pub kept_short : length kept ≤ length list
        kept_short = kept_few list kept (rows_under lists key) gone list_spelled (stays (rows_under lists key) list_spelled)

        pub lost_same : kept ≡ list → LosesRows g old old root lists feet free front key back gone
        lost_same same =
            lost_none (0 ∷ list) cut (one_spelled list (rows_under lists key) (without gone (rows_under lists key)) list_spelled (subst (λ (l : List ℕ). Spells l (without gone (rows_under lists key))) same (stays (rows_under lists key) list_spelled)))

        pub old_entries : HoldsEntries g old root gin.held.entries gin.held.keys free
        old_entries = entries_mid g old old old root lists feet free gin key (0 ∷ kept) [] free (keeps_none g old [] free gin.frees)

        pub lost_entry : kept ≡ [] → (new : P) (later : List Entry) (stand : List ℕ) → HoldsEntries g new root later stand free → KeepsPages g old new gin.held.keys free stand free → IsRemoved key gin.held.entries later
            → LosesRows g old new root lists feet free front key back gone
        lost_entry empty new later stand held out removed =
            let none = no_feet (g.map old) (g.count old) list o.rows o.own o.stands in
            let is = removed_there key (0 ∷ list) front back gin.held.entries later cut gin.held.held.rising removed in
            let nothing = subst (λ (l : List ℕ). KeepsPages g old old o.own free l free) none (keeps_none g old o.own free gin.frees) in
            let changed = entry_removed g old root gin.held.keys lists feet free front key (0 ∷ list) back o old new free nothing stand (subst (λ (l : List Entry). HoldsEntries g new root l stand free) is held) out in
            lost_of old new root lists feet free front key back gone (front ++ back) [] [] changed (ap (λ (l : List Entry). l ++ back) (sym (append-nil front)))
            (sym (none_there (without gone (rows_under lists key)) (subst (λ (l : List ℕ). Spells l (without gone (rows_under lists key))) empty (stays (rows_under lists key) list_spelled))))

        pub lost_rows : (kept ≡ [] → ⊥) → length kept ≤ 512 → (new : P) (later : List Entry) (stand : List ℕ) → HoldsEntries g new root later stand free → KeepsPages g old new gin.held.keys free stand free → IsPut key (0 ∷ kept) gin.held.entries later
            → LosesRows g old new root lists feet free front key back gone
        lost_rows some short new later stand held out put =
            let rows = without gone (rows_under lists key) in
            let spells = stays (rows_under lists key) list_spelled in
            let is = put_there key (0 ∷ kept) (0 ∷ list) front back gin.held.entries later cut gin.held.held.rising held.held.rising put in
            let flat : IsFlat gin.held.entries key = λ f b posting other. (list, sym (let e = one_posting gin.held.entries key (Some (0 ∷ list)) gin.held.held.rising (front, back, cut) f b posting other in some_same (0 ∷ list) posting e)) in
            let changed = list_changed g old old new root lists feet free gin key (0 ∷ kept) [] free (keeps_none g old [] free gin.frees) rows
            (λ none. some (spells.are ∙ ap (λ (l : List RowRef). entries_bytes 0 l) none))
            (inl (record { list = kept; is = refl; short = short; spells = spells; stand = refl })) flat later stand free held out put in
            lost_of old new root lists feet free front key back gone later ((key, 0 ∷ kept) ∷ []) rows changed (is ∙ sym (append_assoc front ((key, 0 ∷ kept) ∷ []) back)) refl
          where
            some_same : (a b : List ℕ) → Some a ≡ Some b → a ≡ b
            some_same a b e = cc

        pub never_shorter : AreShorter gin.held.entries key (0 ∷ kept) → ⊥
        never_shorter shorter =
            let less = (all_right (λ (e : Entry). e.0 ≡ key → length e.1 < length (0 ∷ kept)) front ((key, 0 ∷ list) ∷ back)
            (subst (λ (l : List Entry). AllByRecursion (λ (e : Entry). e.0 ≡ key → length e.1 < length (0 ∷ kept)) l) cut shorter)).0 refl in
            omega (arith, less, kept_short)

    -- an entry with a posting tree
    module _ (tree : ℕ) (few : g.count old ≤ 2 ^ 50) (fits : tree < 2 ^ 64) (cut : gin.held.entries ≡ front ++ (key, 1 ∷ le64 tree) ∷ back) where
      abbrev pub t : Open g old root gin.held.keys lists feet free front key (1 ∷ le64 tree) back
      t = open_at g old root lists feet free gin front key (1 ∷ le64 tree) back cut

      pub tree_rows : HoldsRows g old tree t.rows t.own free
      tree_rows = its_tree g old root gin.held.keys lists feet free front key (1 ∷ le64 tree) back t tree few fits refl

      under_are : rows_under lists key ≡ t.rows
      under_are = its_rows g old root gin.held.keys lists feet free front key (1 ∷ le64 tree) back t

      pub lost_in_tree : (new : P) → (without gone t.rows ≡ [] → ⊥) → HoldsRows g new tree (without gone t.rows) t.own free → KeepsPages g old new t.own free t.own free → LosesRows g old new root lists feet free front key back gone
      lost_in_tree new some held keeps =
          let changed = posting_changed g old root gin.held.keys lists feet free front key (1 ∷ le64 tree) back t new (without gone t.rows) some t.own free (inr (record { root = tree; is = refl; held = held.held })) keeps in
          lost_of old new root lists feet free front key back gone (front ++ (key, 1 ∷ le64 tree) ∷ back) ((key, 1 ∷ le64 tree) ∷ []) (without gone t.rows) changed (sym (append_assoc front ((key, 1 ∷ le64 tree) ∷ []) back))
          (ap (λ (l : List RowRef). without gone l) (sym under_are))

      module _ (mid : P) (rest : List ℕ) (keeps : KeepsPages g old mid t.own free [] rest) where
        keys_beside : IsApart (t.own ++ free ++ gin.held.keys)
        keys_beside =
            beside_own g old root gin.held.keys lists feet free front key (1 ∷ le64 tree) back t gin.held.keys (λ n. omega (arith, t.counts n))

        keys_below : AllByRecursion (λ page. page < g.count old) (t.own ++ free ++ gin.held.keys)
        keys_below =
            all_join (λ (page : ℕ). page < g.count old) (t.own ++ free) gin.held.keys
            (all_join (λ (page : ℕ). page < g.count old) t.own free (subst (λ (l : List ℕ). AllByRecursion (λ (page : ℕ). page < g.count old) l) (sym tree_rows.held.stand) tree_rows.held.held.below) gin.frees.below)
            (subst (λ (l : List ℕ). AllByRecursion (λ (page : ℕ). page < g.count old) l) (sym gin.held.held.stand) gin.held.held.held.below)

        pub entries_left : HoldsEntries g mid root gin.held.entries gin.held.keys rest
        entries_left = record {
          held = map_stays g old mid t.own free [] rest keeps root gin.held.entries gin.held.keys gin.held.held keys_beside;
          frees = keeps.frees;
          apart =
              (let beside = kept_beside g old mid t.own free [] rest gin.held.keys keeps keys_beside keys_below in
              once_apart (gin.held.keys ++ rest) (λ n. omega (arith, apart_once ([] ++ rest ++ gin.held.keys) beside n, times-append n rest gin.held.keys, times-append n gin.held.keys rest)));
        }

        pub lost_tree : without gone t.rows ≡ [] → (new : P) (later : List Entry) (stand : List ℕ) → HoldsEntries g new root later stand rest → KeepsPages g mid new gin.held.keys rest stand rest → IsRemoved key gin.held.entries later
            → LosesRows g old new root lists feet free front key back gone
        lost_tree none new later stand held out removed =
            let is = removed_there key (1 ∷ le64 tree) front back gin.held.entries later cut gin.held.held.rising removed in
            let changed = entry_removed g old root gin.held.keys lists feet free front key (1 ∷ le64 tree) back t mid new rest keeps stand (subst (λ (l : List Entry). HoldsEntries g new root l stand rest) is held) out in
            lost_of old new root lists feet free front key back gone (front ++ back) [] [] changed (ap (λ (l : List Entry). l ++ back) (sym (append-nil front)))
            (sym none ∙ ap (λ (l : List RowRef). without gone l) (sym under_are))

-- rows are taken out once
without_twice : (gone rows : List RowRef) → without gone (without gone rows) ≡ without gone rows
without_twice gone [] = refl
without_twice gone (row ∷ rows) = pick (not (has gone row.number)) refl (without_twice gone rows)
  where
    pick : (b : Bool) → not (has gone row.number) ≡ b → without gone (without gone rows) ≡ without gone rows → without gone (without gone (row ∷ rows)) ≡ without gone (row ∷ rows)
    pick true is rest = rw is (rw is (ap (λ (l : List RowRef). row ∷ l) rest))
    pick false is rest = rw is rest

-- the keys of the first entries
abbrev pub first_keys : List EntryBytes → ℕ → List (List ℕ)
first_keys entries i = map (λ e. e.0) (take i (entries_of entries))

pub entries_cut : (entries : List EntryBytes) (i : ℕ) (d : EntryBytes) → i < length entries → drop i (entries_of entries) ≡ ((get_or entries i d).key, (get_or entries i d).posting) ∷ drop (i + 1) (entries_of entries)
entries_cut [] i d below = absurd (omega (arith, below))
entries_cut (entry ∷ entries) zero d below = refl
entries_cut (entry ∷ entries) (suc i) d below = let e : suc i + 1 ≡ suc (i + 1) = omega arith in rw e (entries_cut entries i d (omega (arith, below)))

keys_next : (entries : List EntryBytes) (i : ℕ) (d : EntryBytes) → i < length entries → first_keys entries (i + 1) ≡ first_keys entries i ++ (get_or entries i d).key ∷ []
keys_next [] i d below = absurd (omega (arith, below))
keys_next (entry ∷ entries) zero d below = refl
keys_next (entry ∷ entries) (suc i) d below = let e : suc i + 1 ≡ suc (i + 1) = omega arith in rw e (ap (λ (l : List (List ℕ)). entry.key ∷ l) (keys_next entries i d (omega (arith, below))))

among_key : (key k : List ℕ) → is_among (key ∷ []) k ≡ bytes_eq key k
among_key key k = ⊎_elim (λ same. same_one same.0) (λ differ. other_one differ.0) (bytes_tell key k)
  where
    same_one : bytes_eq key k ≡ true → is_among (key ∷ []) k ≡ bytes_eq key k
    same_one is = rw is refl

    other_one : bytes_eq key k ≡ false → is_among (key ∷ []) k ≡ bytes_eq key k
    other_one is = rw is refl

lost_more : (gone rows : List RowRef) (a b : Bool) → cond b (without gone (cond a (without gone rows) rows)) (cond a (without gone rows) rows) ≡ cond (a || b) (without gone rows) rows
lost_more gone rows true true = without_twice gone rows
lost_more gone rows true false = refl
lost_more gone rows false true = refl
lost_more gone rows false false = refl

-- a walk over the entries
module _ {P : Type 0} (g : Ghosts P) (old : P) (root : ℕ) (lists : Lists) (feet free : List ℕ) (entries : List EntryBytes) (gone : List RowRef) where
  pub record Walks (now : P) (i : ℕ) : Type 0 where
    pub after : Lists
    pub later : List ℕ
    pub rest : List ℕ
    pub gin : HoldsGin g now root after later rest
    pub done : List Entry
    pub are : gin.held.entries ≡ done ++ drop i (entries_of entries)
    pub keeps : KeepsPages g old now feet free later rest
    pub under : (k : List ℕ) → rows_under after k ≡ cond (is_among (first_keys entries i) k) (without gone (rows_under lists k)) (rows_under lists k)

  pub walks_none : (gin : HoldsGin g old root lists feet free) → gin.held.entries ≡ entries_of entries → Walks old 0
  walks_none gin are = record { after = lists; later = feet; rest = free; gin = gin; done = []; are = are; keeps = keeps_none g old feet free gin.frees; under = λ k. refl }

  pub walks_next : (now new : P) (i : ℕ) (d : EntryBytes) → i < length entries → (w : Walks now i) → LosesRows g now new root w.after w.later w.rest w.done (get_or entries i d).key (drop (i + 1) (entries_of entries)) gone → Walks new (i + 1)
  walks_next now new i d below w lost =
      let key = (get_or entries i d).key in
      record {
        after = lost.after;
        later = lost.later;
        rest = lost.rest;
        gin = lost.gin;
        done = w.done ++ lost.middle;
        are = lost.entries;
        keeps = keeps_join g old now new feet free w.later w.rest lost.later lost.rest w.keeps lost.keeps;
        under = λ k.
            let rows = rows_under lists k in
            let before = is_among (first_keys entries i) k in
            lost.under k ∙ ap (λ (l : List RowRef). cond (bytes_eq key k) (without gone l) l) (w.under k)
            ∙ lost_more gone rows before (bytes_eq key k)
            ∙ ap (λ (b : Bool). cond (before || b) (without gone rows) rows) (sym (among_key key k))
            ∙ ap (λ (b : Bool). cond b (without gone rows) rows)
            (sym (list_any-append (λ (other : List ℕ). bytes_eq other k) (first_keys entries i) (key ∷ [])) ∙ ap (λ (l : List (List ℕ)). is_among l k) (sym (keys_next entries i d below)));
      }

  none_among : (es : List Entry) (k : List ℕ) → is_among (map (λ e. e.0) es) k ≡ false → AllByRecursion (λ e. e.0 ≢ k) es
  none_among [] k none = tt
  none_among (e ∷ es) k none =
      ⊎_elim
      (λ same. absurd (false≢true (sym none ∙ ap (λ (b : Bool). b || is_among (map (λ (e : Entry). e.0) es) k) same.0)))
      (λ differ. (differ.1, none_among es k (sym (ap (λ (b : Bool). b || is_among (map (λ (e : Entry). e.0) es) k) differ.0) ∙ none)))
      (bytes_tell e.0 k)

  take_all_of : (i : ℕ) → length entries ≤ i → take i (entries_of entries) ≡ entries_of entries
  take_all_of i past = whole entries i past
    where
      whole : (es : List EntryBytes) (i : ℕ) → length es ≤ i → take i (entries_of es) ≡ entries_of es
      whole [] zero past_ = refl
      whole [] (suc i) past_ = refl
      whole (e ∷ es) zero past_ = absurd (omega (arith, past_))
      whole (e ∷ es) (suc i) past_ = ap (λ (l : List Entry). (e.key, e.posting) ∷ l) (whole es i (omega (arith, past_)))

  pub walks_all : (gin : HoldsGin g old root lists feet free) → gin.held.entries ≡ entries_of entries → (now : P) (i : ℕ) → length entries ≤ i → Walks now i → LosesAll g old now root lists feet free gone
  walks_all gin are now i past w = record {
    after = w.after;
    later = w.later;
    rest = w.rest;
    gin = w.gin;
    keeps = w.keeps;
    under = λ k. w.under k ∙ ends k (is_among (first_keys entries i) k) refl;
  }
    where
      ends : (k : List ℕ) (b : Bool) → is_among (first_keys entries i) k ≡ b → cond b (without gone (rows_under lists k)) (rows_under lists k) ≡ without gone (rows_under lists k)
      ends k true is = refl
      ends k false is =
          let none = none_among (entries_of entries) k (ap (λ (l : List Entry). is_among (map (λ (e : Entry). e.0) l) k) (sym (take_all_of i past)) ∙ is) in
          let nothing = key_none (g.map old) (g.count old) root lists feet k gin.held (subst (λ (l : List Entry). AllByRecursion (λ (e : Entry). e.0 ≢ k) l) (sym are) none) in
          nothing ∙ sym (ap (λ (l : List RowRef). without gone l) nothing)

-- rows with their values without some
abbrev pub stay : {V : Type 0} → List RowRef → List (RowRef × V) → List (RowRef × V)
stay gone all = filter (λ row. not (has gone row.0.number)) all

-- two choices in either order
module _ {V : Type 0} (gone : List RowRef) (p : (RowRef × V) → Bool) where
  refs : List (RowRef × V) → List RowRef
  refs all = map (λ (row : RowRef × V). row.0) all

  abbrev kept : List (RowRef × V) → List (RowRef × V)
  kept all = stay gone all

  pub picked_without : (all : List (RowRef × V)) → without gone (map (λ row. row.0) (filter p all)) ≡ map (λ row. row.0) (filter p (stay gone all))
  picked_without [] = refl
  picked_without (x ∷ all) = pick (p x) (not (has gone x.0.number)) refl refl (picked_without all)
    where
      pick : (a b : Bool) → p x ≡ a → not (has gone x.0.number) ≡ b → without gone (map (λ (row : RowRef × V). row.0) (filter p all)) ≡ map (λ (row : RowRef × V). row.0) (filter p (stay gone all))
          → without gone (map (λ (row : RowRef × V). row.0) (filter p (x ∷ all))) ≡ map (λ (row : RowRef × V). row.0) (filter p (stay gone (x ∷ all)))
      pick true true here stays_ rest = rw here (rw stays_ (rw here (ap (λ (l : List RowRef). x.0 ∷ l) rest)))
      pick true false here stays_ rest = rw here (rw stays_ rest)
      pick false true here stays_ rest = rw here (rw stays_ (rw here rest))
      pick false false here stays_ rest = rw here (rw stays_ rest)

rising_stay : {V : Type 0} (gone : List RowRef) (all : List (RowRef × V)) → IsRising (map (λ row. row.0) all) → IsRising (map (λ row. row.0) (stay gone all))
rising_stay gone [] rising = tt
rising_stay {V} gone (x ∷ all) rising = pick (not (has gone x.0.number)) refl (rising_stay gone all rising.1) (above all rising.0)
  where
    above : (rows : List (RowRef × V)) → AllByRecursion (λ (other : RowRef). x.0.number < other.number) (map (λ row. row.0) rows) → AllByRecursion (λ (other : RowRef). x.0.number < other.number) (map (λ row. row.0) (stay gone rows))
    above [] low = tt
    above (y ∷ rows) low = keep (not (has gone y.0.number)) refl (above rows low.1)
      where
        keep : (b : Bool) → not (has gone y.0.number) ≡ b → AllByRecursion (λ (other : RowRef). x.0.number < other.number) (map (λ row. row.0) (stay gone rows)) → AllByRecursion (λ (other : RowRef). x.0.number < other.number) (map (λ row. row.0) (stay gone (y ∷ rows)))
        keep true is rest = rw is (low.0, rest)
        keep false is rest = rw is rest

    pick : (b : Bool) → not (has gone x.0.number) ≡ b → IsRising (map (λ (row : RowRef × V). row.0) (stay gone all)) → AllByRecursion (λ (other : RowRef). x.0.number < other.number) (map (λ (row : RowRef × V). row.0) (stay gone all)) → IsRising (map (λ (row : RowRef × V). row.0) (stay gone (x ∷ all)))
    pick true is rest low = rw is (low, rest)
    pick false is rest low = rw is rest

-- the index without them
pub index_stays : {V : Type 0} (items_of : V → List (List ℕ)) {P : Type 0} (g : Ghosts P) (new : P) (root : ℕ) (lists after : Lists) (later rest : List ℕ) (gone : List RowRef) (all : List (RowRef × V)) → IsIndexOf items_of lists all
    → HoldsGin g new root after later rest → ((k : List ℕ) → rows_under after k ≡ without gone (rows_under lists k)) → IsIndexOf items_of after (stay gone all)
index_stays items_of g new root lists after later rest gone all index gin under = record {
  keys = held_rising (g.map new) (g.count new) gin.held.entries after gin.held.trees gin.held.are gin.held.held.rising;
  some = held_some (g.map new) (g.count new) gin.held.entries after gin.held.trees gin.held.are;
  rising = rising_stay gone all index.rising;
  under = λ key. under key ∙ ap (λ (l : List RowRef). without gone l) (index.under key) ∙ picked_without gone (λ row. is_among (keys_of (items_of row.1)) key) all;
}

-- An index with a row more under a key.
use Rattle.std.proofs.Common.{◌≡◌, ◌≢◌, ⊎_elim, ℕ, ◌+◌, ◌<◌, ◌≤◌, ◌^◌, Bool, true, false, cond, List, [], ◌∷◌, ◌++◌, length, Some, None, refl, sym, ◌∙◌, ap, subst, append-nil, arith}
use Rattle.std.specs.List.{AllByRecursion}
use Rattle.std.specs.Str.{bytes_eq}
use Rattle.gx_bytes.specs.Fields.{le64}
use Rattle.gx_words.specs.PageMap.{PageMap}
use Rattle.gx_pages.specs.declared.row.RowRef.{RowRef}
use Rattle.gx_pages.specs.declared.store.Pages.{Ghosts}
use Rattle.gx_pages.specs.Footprints.{KeepsPages, grown}
use Rattle.gx_pages.specs.Frees.{IsApart, IsFreeList}
use Rattle.gx_pages.proofs.Footprints.{all_join, all_left, apart_once, free_list_at, keeps_join, kept_apart, kept_beside, none_outside, once_apart, outside_none, times, times-append, times-permutation}
use Rattle.gx_posting.specs.Postings.{Spells}
use Rattle.gx_posting_tree.specs.PostingTrees.{HoldsRows}
use Rattle.gx_gin.specs.Reach.{is_among}
use Rattle.gx_gin_entry.specs.EntryTrees.{AreRising, Entry, HoldsEntries, HoldsMap, IsBefore, IsPut}
use Rattle.gx_gin_entry.specs.Keys.{rising_across}
use Rattle.gx_gin_scan.specs.Gins.{AreHeld, HasList, HoldsGin, HoldsLists, IsPosting}
use Rattle.gx_gin_scan.specs.Lists.{Grows, Lists, rows_under}
use Rattle.gx_gin_scan.proofs.Frames.{held_below, held_stays, keeps_within, map_stays, posting_below, posting_stays, same_counts}
use Rattle.gx_gin_scan.proofs.Grows.{IsFlat, held_join, held_keys, held_split, one_posting, set_put, under_added, under_here, under_nowhere, under_replaced}
use Rattle.gx_gin_scan.proofs.Held.{before_differs, bytes_tell, key_none, key_some, not_both, of_list, of_tree}

-- the list of a key
pub record Listed (entries : List Entry) (lists : Lists) (key list : List ℕ) : Type 0 where
  pub short : length list ≤ 512
  pub spells : Spells list (rows_under lists key)
  pub flat : IsFlat entries key

pub listed : (now : PageMap) (count root : ℕ) (lists : Lists) (feet key list : List ℕ) (held : HoldsLists now count root lists feet) → HasList held.entries key list → Listed held.entries lists key list
listed now count root lists feet key list held has =
    ⊎_elim
    (λ there.
    let posts = key_some now count root lists feet key (0 ∷ list) held there in
    record {
      short = short_list posts.own posts.stands;
      spells = of_list now count (0 ∷ list) list (rows_under lists key) posts.own refl posts.stands;
      flat = λ front back posting cut. (list, sym (some_same (0 ∷ list) posting (one_posting held.entries key (Some (0 ∷ list)) held.held.rising there front back posting cut)));
    })
    (λ none. record {
      short = subst (λ (l : List ℕ). length l ≤ 512) (sym none.1) (omega arith);
      spells = subst (λ (l : List ℕ). Spells l (rows_under lists key)) (sym none.1) (subst (λ (l : List RowRef). Spells [] l) (sym (key_none now count root lists feet key held none.0)) (record { fit = tt; rise = tt; are = refl }));
      flat = λ front back posting cut. absurd (not_some posting (one_posting held.entries key None held.held.rising none.0 front back posting cut));
    })
    has
  where
    short_list : (own : List ℕ) → IsPosting now count (0 ∷ list) (rows_under lists key) own → length list ≤ 512
    short_list own stands =
        ⊎_elim
        (λ short. let e : 0 ∷ short.list ≡ 0 ∷ list = sym short.is in let same : short.list ≡ list = cc in subst (λ (l : List ℕ). length l ≤ 512) same short.short)
        (λ tree. absurd (not_both list (le64 tree.root) tree.is))
        stands

    some_same : (a b : List ℕ) → Some a ≡ Some b → a ≡ b
    some_same a b e = cc

    not_some : (a : List ℕ) → None ≡ Some a → ⊥
    not_some a e = cc

pub not_none : (rows : List RowRef) (row : RowRef) → rows ++ row ∷ [] ≢ []
not_none [] row e = cc
not_none (first ∷ rows) row e = cc

among_is : (key k : List ℕ) (b : Bool) → bytes_eq key k ≡ b → is_among (key ∷ []) k ≡ b
among_is key k true same = rw same refl
among_is key k false other = rw other refl

-- the key's rows are these, and those of the others as before
pub one_grows : (key : List ℕ) (row : RowRef) (lists after : Lists) → ((k : List ℕ) → rows_under after k ≡ cond (bytes_eq key k) (rows_under lists key ++ row ∷ []) (rows_under lists k)) → Grows (key ∷ []) row lists after
one_grows key row lists after under k =
    ⊎_elim
    (λ same.
    under k ∙ ap (λ (b : Bool). cond b (rows_under lists key ++ row ∷ []) (rows_under lists k)) same.0
    ∙ ap (λ (l : List ℕ). rows_under lists l ++ row ∷ []) same.1
    ∙ sym (ap (λ (b : Bool). rows_under lists k ++ cond b (row ∷ []) []) (among_is key k true same.0)))
    (λ differ.
    under k ∙ ap (λ (b : Bool). cond b (rows_under lists key ++ row ∷ []) (rows_under lists k)) differ.0
    ∙ sym (append-nil (rows_under lists k))
    ∙ sym (ap (λ (b : Bool). rows_under lists k ++ cond b (row ∷ []) []) (among_is key k false differ.0)))
    (bytes_tell key k)

module _ {P : Type 0} (g : Ghosts P) where
  -- the same pages in another order
  pub keeps_counted : (old new : P) (before free after rest was is : List ℕ) → KeepsPages g old new before free after rest → ((n : ℕ) → times n was ≡ times n before) → ((n : ℕ) → times n is ≡ times n after) → KeepsPages g old new was free is rest
  keeps_counted old new before free after rest was is keeps first last =
      let more = grown (g.count old) (g.count new) in
      record {
        grows = keeps.grows;
        others = λ page some below out.
            keeps.others page some below (none_outside page (before ++ free) (omega (
              arith,
              outside_none page (was ++ free) out,
              times-append page was free,
              times-append page before free,
              first page,
            )));
        header = keeps.header;
        frees = keeps.frees;
        kept = same_counts (was ++ free ++ more) (is ++ rest) (λ n.
            omega (
              arith,
              first n,
              last n,
              times-permutation n (before ++ free ++ more) (after ++ rest) keeps.kept,
              times-append n (before ++ free) more,
              times-append n before free,
              times-append n after rest,
              times-append n (was ++ free) more,
              times-append n was free,
              times-append n is rest,
            ));
      }

  gin_below : (old : P) (root : ℕ) (lists : Lists) (feet free : List ℕ) (gin : HoldsGin g old root lists feet free) → AllByRecursion (λ page. page < g.count old) (gin.held.keys ++ gin.held.trees ++ free)
  gin_below old root lists feet free gin =
      all_join (λ (page : ℕ). page < g.count old) (gin.held.keys ++ gin.held.trees) free
      (all_join (λ (page : ℕ). page < g.count old) gin.held.keys gin.held.trees
      (subst (λ (l : List ℕ). AllByRecursion (λ (page : ℕ). page < g.count old) l) (sym gin.held.held.stand) gin.held.held.held.below)
      (held_below (g.map old) (g.count old) gin.held.entries lists gin.held.trees gin.held.are))
      gin.frees.below

  gin_apart : (old : P) (root : ℕ) (lists : Lists) (feet free : List ℕ) (gin : HoldsGin g old root lists feet free) → IsApart (gin.held.keys ++ gin.held.trees ++ free)
  gin_apart old root lists feet free gin = subst (λ (l : List ℕ). IsApart (l ++ free)) gin.held.stand gin.apart

  -- The index has these entries later, and these rows under the key; all else stays.
  pub record Changed (old new : P) (root : ℕ) (lists : Lists) (feet free : List ℕ) (entries : List Entry) (key : List ℕ) (rows : List RowRef) : Type 0 where
    pub after : Lists
    pub later : List ℕ
    pub rest : List ℕ
    pub gin : HoldsGin g new root after later rest
    pub same : gin.held.entries ≡ entries
    pub keeps : KeepsPages g old new feet free later rest
    pub under : (k : List ℕ) → rows_under after k ≡ cond (bytes_eq key k) rows (rows_under lists k)

  -- a list that grew, and then its entry
  module _ (old mid new : P) (root : ℕ) (lists : Lists) (feet free : List ℕ) (gin : HoldsGin g old root lists feet free) (key posting : List ℕ) (own rest : List ℕ)
      (keeps : KeepsPages g old mid [] free own rest) where
    abbrev keys : List ℕ
    keys = gin.held.keys

    abbrev trees : List ℕ
    trees = gin.held.trees

    keys_apart : IsApart ([] ++ free ++ keys)
    keys_apart =
        once_apart ([] ++ free ++ keys) (λ n. omega (
          arith,
          apart_once (keys ++ trees ++ free) (gin_apart old root lists feet free gin) n,
          times-append n (keys ++ trees) free,
          times-append n keys trees,
          times-append n free keys,
        ))

    trees_apart : IsApart ([] ++ free ++ trees)
    trees_apart =
        once_apart ([] ++ free ++ trees) (λ n. omega (
          arith,
          apart_once (keys ++ trees ++ free) (gin_apart old root lists feet free gin) n,
          times-append n (keys ++ trees) free,
          times-append n keys trees,
          times-append n free trees,
        ))

    keys_below : AllByRecursion (λ page. page < g.count old) keys
    keys_below = all_left (λ (page : ℕ). page < g.count old) keys trees (all_left (λ (page : ℕ). page < g.count old) (keys ++ trees) free (gin_below old root lists feet free gin))

    pub entries_mid : HoldsEntries g mid root gin.held.entries keys rest
    entries_mid = record {
      held = map_stays g old mid [] free own rest keeps root gin.held.entries keys gin.held.held keys_apart;
      frees = keeps.frees;
      apart =
          (let beside = kept_beside g old mid [] free own rest keys keeps keys_apart (all_join (λ (page : ℕ). page < g.count old) free keys gin.frees.below keys_below) in
          once_apart (keys ++ rest) (λ n. omega (
            arith,
            apart_once (own ++ rest ++ keys) beside n,
            times-append n (own ++ rest) keys,
            times-append n own rest,
            times-append n keys rest,
          )));
    }

    -- all pages at that time
    mid_apart : IsApart (keys ++ trees ++ own ++ rest)
    mid_apart =
        let all : IsApart ([] ++ free ++ (keys ++ trees)) = once_apart ([] ++ free ++ (keys ++ trees)) (λ n. omega (
          arith,
          apart_once (keys ++ trees ++ free) (gin_apart old root lists feet free gin) n,
          times-append n (keys ++ trees) free,
          times-append n free (keys ++ trees),
        )) in
        let low = all_join (λ (page : ℕ). page < g.count old) free (keys ++ trees) gin.frees.below (all_left (λ (page : ℕ). page < g.count old) (keys ++ trees) free (gin_below old root lists feet free gin)) in
        let beside = kept_beside g old mid [] free own rest (keys ++ trees) keeps all low in
        once_apart (keys ++ trees ++ own ++ rest) (λ n. omega (
          arith,
          apart_once (own ++ rest ++ (keys ++ trees)) beside n,
          times-append n (own ++ rest) (keys ++ trees),
          times-append n own rest,
          times-append n (keys ++ trees ++ own) rest,
          times-append n (keys ++ trees) own,
        ))

    module _ (rows : List RowRef) (some : rows ≢ []) (stands : IsPosting (g.map mid) (g.count mid) posting rows own) (flat : IsFlat gin.held.entries key) (later : List Entry) (stand last : List ℕ) (held : HoldsEntries g new root later stand last)
        (puts : KeepsPages g mid new keys rest stand last) (put : IsPut key posting gin.held.entries later) where
      own_new : IsPosting (g.map new) (g.count new) posting rows own
      own_new =
          posting_stays g mid new keys rest stand last puts posting rows own stands
          (once_apart (keys ++ rest ++ own) (λ n. omega (
            arith,
            apart_once (keys ++ trees ++ own ++ rest) mid_apart n,
            times-append n (keys ++ trees ++ own) rest,
            times-append n (keys ++ trees) own,
            times-append n keys trees,
            times-append n (keys ++ rest) own,
            times-append n keys rest,
          )))

      trees_new : AreHeld (g.map new) (g.count new) gin.held.entries lists trees
      trees_new =
          held_stays g mid new keys rest stand last puts gin.held.entries lists trees (held_stays g old mid [] free own rest keeps gin.held.entries lists trees gin.held.are trees_apart)
          (once_apart (keys ++ rest ++ trees) (λ n. omega (
            arith,
            apart_once (keys ++ trees ++ own ++ rest) mid_apart n,
            times-append n (keys ++ trees ++ own) rest,
            times-append n (keys ++ trees) own,
            times-append n keys trees,
            times-append n (keys ++ rest) trees,
            times-append n keys rest,
          )))

      pub list_changed : Changed old new root lists feet free later key rows
      list_changed =
          let set = set_put (g.map new) (g.count new) gin.held.entries later key posting lists trees rows own some own_new held.held.rising trees_new flat put in
          let first = keeps_within g old mid feet [] [] free own rest keeps in
          let second = keeps_within g mid new [] keys (trees ++ own) rest stand last puts in
          let feet_counts : (n : ℕ) → times n feet ≡ times n keys + times n trees = λ n. omega (arith, ap (λ (l : List ℕ). times n l) gin.held.stand, times-append n keys trees) in
          let one = keeps_counted old mid (feet ++ [] ++ []) free (feet ++ own ++ []) rest feet (keys ++ trees ++ own) first
          (λ n. omega (arith, times-append n (feet ++ []) [], times-append n feet []))
          (λ n. omega (arith, feet_counts n, times-append n (feet ++ own) [], times-append n feet own, times-append n (keys ++ trees) own, times-append n keys trees)) in
          let two = keeps_counted mid new ([] ++ keys ++ (trees ++ own)) rest ([] ++ stand ++ (trees ++ own)) last (keys ++ trees ++ own) (stand ++ set.stand) second
          (λ n. omega (arith, times-append n keys (trees ++ own), times-append n trees own, times-append n (keys ++ trees) own, times-append n keys trees))
          (λ n. omega (arith, set.counts n, times-append n stand (trees ++ own), times-append n trees own, times-append n stand set.stand)) in
          let whole = keeps_join g old mid new feet free (keys ++ trees ++ own) rest (stand ++ set.stand) last one two in
          record {
            after = set.after;
            later = stand ++ set.stand;
            rest = last;
            gin = record {
              held = record { entries = later; keys = stand; trees = set.stand; held = held.held; are = set.held; stand = refl };
              frees = held.frees;
              apart = kept_apart g old new feet free (stand ++ set.stand) last whole gin.apart (subst (λ (l : List ℕ). AllByRecursion (λ (page : ℕ). page < g.count old) (l ++ free)) (sym gin.held.stand) (gin_below old root lists feet free gin));
            };
            same = refl;
            keeps = whole;
            under = set.under;
          }

  -- the same at an equal map and count
  abbrev pub gin_at : (old mid : P) (root : ℕ) (lists : Lists) (feet free : List ℕ) → g.map mid ≡ g.map old → g.count mid ≡ g.count old → HoldsGin g old root lists feet free → HoldsGin g mid root lists feet free
  gin_at old mid root lists feet free map count gin = record {
    held = record {
      entries = gin.held.entries;
      keys = gin.held.keys;
      trees = gin.held.trees;
      held =
          subst (λ (p : PageMap). HoldsMap p (g.count mid) root gin.held.entries gin.held.keys) (sym map)
          (subst (λ (k : ℕ). HoldsMap (g.map old) k root gin.held.entries gin.held.keys) (sym count) gin.held.held);
      are =
          subst (λ (p : PageMap). AreHeld p (g.count mid) gin.held.entries lists gin.held.trees) (sym map)
          (subst (λ (k : ℕ). AreHeld (g.map old) k gin.held.entries lists gin.held.trees) (sym count) gin.held.are);
      stand = gin.held.stand;
    };
    frees = free_list_at (g.map mid) (g.map old) (g.count mid) (g.count old) free map count gin.frees;
    apart = gin.apart;
  }

  -- the entry of a key, and what stands beside it
  pub record Open (pages : P) (root : ℕ) (keys : List ℕ) (lists : Lists) (feet free : List ℕ) (front : List Entry) (key posting : List ℕ) (back : List Entry) : Type 0 where
    pub left : Lists
    pub right : Lists
    pub before : List ℕ
    pub behind : List ℕ
    pub own : List ℕ
    pub rows : List RowRef
    pub lists_cut : lists ≡ left ++ (key, rows) ∷ right
    pub counts : (n : ℕ) → times n feet ≡ times n keys + times n before + times n own + times n behind
    pub held : HoldsMap (g.map pages) (g.count pages) root (front ++ (key, posting) ∷ back) keys
    pub first : AreHeld (g.map pages) (g.count pages) front left before
    pub last : AreHeld (g.map pages) (g.count pages) back right behind
    pub some : rows ≢ []
    pub stands : IsPosting (g.map pages) (g.count pages) posting rows own
    pub frees : IsFreeList (g.map pages) (g.count pages) free
    pub apart : IsApart (feet ++ free)
    pub below : AllByRecursion (λ page. page < g.count pages) (feet ++ free)

  none_before : (front back : List Entry) (key posting : List ℕ) → AreRising (front ++ (key, posting) ∷ back) → AllByRecursion (λ e. e.0 ≢ key) front
  none_before front back key posting rising = each front (rising_across front (key, posting) back rising)
    where
      each : (es : List Entry) → AllByRecursion (λ e. IsBefore e.0 key) es → AllByRecursion (λ e. e.0 ≢ key) es
      each [] all = tt
      each (e ∷ es) all = (before_differs e.0 key all.0, each es all.1)

  open_of : (pages : P) (root : ℕ) (lists : Lists) (feet free : List ℕ) (gin : HoldsGin g pages root lists feet free) (front : List Entry) (key posting : List ℕ) (back : List Entry)
      → gin.held.entries ≡ front ++ (key, posting) ∷ back → (left right : Lists) (before others : List ℕ) → lists ≡ left ++ right → gin.held.trees ≡ before ++ others
      → AreHeld (g.map pages) (g.count pages) front left before → AreHeld (g.map pages) (g.count pages) ((key, posting) ∷ back) right others → Open pages root gin.held.keys lists feet free front key posting back
  open_of pages root lists feet free gin front key posting back cut left [] before others lists_cut trees_cut first last = absurd last
  open_of pages root lists feet free gin front key posting back cut left (list ∷ right) before others lists_cut trees_cut first last =
      record {
        left = left;
        right = right;
        before = before;
        behind = last.1;
        own = last.0;
        rows = list.1;
        lists_cut = lists_cut ∙ ap (λ (k : List ℕ). left ++ (k, list.1) ∷ right) (sym last.3);
        counts = λ n. omega (
          arith,
          ap (λ (l : List ℕ). times n l) gin.held.stand,
          times-append n gin.held.keys gin.held.trees,
          ap (λ (l : List ℕ). times n l) trees_cut,
          times-append n before others,
          ap (λ (l : List ℕ). times n l) last.2,
          times-append n last.0 last.1,
        );
        held = subst (λ (l : List Entry). HoldsMap (g.map pages) (g.count pages) root l gin.held.keys) cut gin.held.held;
        first = first;
        last = last.6;
        some = last.4;
        stands = last.5;
        frees = gin.frees;
        apart = gin.apart;
        below = subst (λ (l : List ℕ). AllByRecursion (λ (page : ℕ). page < g.count pages) (l ++ free)) (sym gin.held.stand) (gin_below pages root lists feet free gin);
      }

  pub open_at : (pages : P) (root : ℕ) (lists : Lists) (feet free : List ℕ) (gin : HoldsGin g pages root lists feet free) (front : List Entry) (key posting : List ℕ) (back : List Entry)
      → gin.held.entries ≡ front ++ (key, posting) ∷ back → Open pages root gin.held.keys lists feet free front key posting back
  open_at pages root lists feet free gin front key posting back cut =
      let halves = held_split (g.map pages) (g.count pages) front ((key, posting) ∷ back) lists gin.held.trees (subst (λ (l : List Entry). AreHeld (g.map pages) (g.count pages) l lists gin.held.trees) cut gin.held.are) in
      open_of pages root lists feet free gin front key posting back cut halves.left halves.right halves.own halves.others halves.cut halves.stand halves.before halves.behind

  module _ (old : P) (root : ℕ) (keys : List ℕ) (lists : Lists) (feet free : List ℕ) (front : List Entry) (key posting : List ℕ) (back : List Entry) (o : Open old root keys lists feet free front key posting back) where
    here : (rows : List RowRef) → rows_under (o.left ++ (key, rows) ∷ o.right) key ≡ rows
    here rows = under_here o.left key rows o.right (held_keys (g.map old) (g.count old) (λ (k : List ℕ). k ≢ key) front o.left o.before o.first (none_before front back key posting o.held.rising))

    pub its_rows : rows_under lists key ≡ o.rows
    its_rows = ap (λ (l : Lists). rows_under l key) o.lists_cut ∙ here o.rows

    -- the key's posting tree
    pub its_tree : (tree : ℕ) → g.count old ≤ 2 ^ 50 → tree < 2 ^ 64 → posting ≡ 1 ∷ le64 tree → HoldsRows g old tree o.rows o.own free
    its_tree tree few fits is = record {
      held = of_tree (g.map old) (g.count old) posting tree o.rows o.own few fits is o.stands;
      frees = o.frees;
      apart = once_apart (o.own ++ free) (λ n. omega (arith, apart_once (feet ++ free) o.apart n, times-append n feet free, o.counts n, times-append n o.own free));
    }

    pub beside_own : (others : List ℕ) → ((n : ℕ) → times n others + times n o.own ≤ times n feet) → IsApart (o.own ++ free ++ others)
    beside_own others part =
        once_apart (o.own ++ free ++ others) (λ n. omega (
          arith,
          part n,
          apart_once (feet ++ free) o.apart n,
          times-append n feet free,
          times-append n (o.own ++ free) others,
          times-append n o.own free,
        ))

    -- another posting on pages of its own, at the same entry
    module _ (new : P) (rows : List RowRef) (some : rows ≢ []) (later rest : List ℕ) (stands : IsPosting (g.map new) (g.count new) posting rows later) (keeps : KeepsPages g old new o.own free later rest) where
      abbrev after : Lists
      after = o.left ++ (key, rows) ∷ o.right

      abbrev stand_later : List ℕ
      stand_later = o.before ++ (later ++ o.behind)

      trees_later : AreHeld (g.map new) (g.count new) (front ++ (key, posting) ∷ back) after stand_later
      trees_later =
          held_join (g.map new) (g.count new) front ((key, posting) ∷ back) o.left ((key, rows) ∷ o.right) o.before (later ++ o.behind)
          (held_stays g old new o.own free later rest keeps front o.left o.before o.first (beside_own o.before (λ n. omega (arith, o.counts n)))) (
            later,
            o.behind,
            refl,
            refl,
            some,
            stands,
            held_stays g old new o.own free later rest keeps back o.right o.behind o.last (beside_own o.behind (λ n. omega (arith, o.counts n))),
          )

      pub posting_changed : Changed old new root lists feet free (front ++ (key, posting) ∷ back) key rows
      posting_changed =
          let wide = keeps_within g old new (keys ++ o.before) o.own o.behind free later rest keeps in
          let whole = keeps_counted old new (keys ++ o.before ++ o.own ++ o.behind) free (keys ++ o.before ++ later ++ o.behind) rest feet (keys ++ stand_later) wide
          (λ n. omega (arith, o.counts n, times-append n (keys ++ o.before ++ o.own) o.behind, times-append n (keys ++ o.before) o.own, times-append n keys o.before))
          (λ n. omega (
            arith,
            times-append n (keys ++ o.before ++ later) o.behind,
            times-append n (keys ++ o.before) later,
            times-append n keys o.before,
            times-append n keys stand_later,
            times-append n o.before (later ++ o.behind),
            times-append n later o.behind,
          )) in
          record {
            after = after;
            later = keys ++ stand_later;
            rest = rest;
            gin = record {
              held = record {
                entries = front ++ (key, posting) ∷ back;
                keys = keys;
                trees = stand_later;
                held = map_stays g old new o.own free later rest keeps root (front ++ (key, posting) ∷ back) keys o.held (beside_own keys (λ n. omega (arith, o.counts n)));
                are = trees_later;
                stand = refl;
              };
              frees = keeps.frees;
              apart = kept_apart g old new feet free (keys ++ stand_later) rest whole o.apart o.below;
            };
            same = refl;
            keeps = whole;
            under = λ k.
                ⊎_elim
                (λ same.
                ap (λ (l : List ℕ). rows_under after l) (sym same.1) ∙ here rows
                ∙ sym (ap (λ (b : Bool). cond b rows (rows_under lists k)) same.0))
                (λ differ.
                under_replaced o.left key o.rows rows o.right k differ.1 ∙ ap (λ (l : Lists). rows_under l k) (sym o.lists_cut)
                ∙ sym (ap (λ (b : Bool). cond b rows (rows_under lists k)) differ.0))
                (bytes_tell key k);
          }

    -- the entry is taken out once its posting stands on no pages
    module _ (mid new : P) (rest : List ℕ) (gone : KeepsPages g old mid o.own free [] rest) (stand : List ℕ) (held : HoldsEntries g new root (front ++ back) stand rest) (out : KeepsPages g mid new keys rest stand rest) where
      left_apart : IsApart (keys ++ rest ++ (o.before ++ o.behind))
      left_apart =
          let all : IsApart (o.own ++ free ++ (keys ++ (o.before ++ o.behind))) = beside_own (keys ++ (o.before ++ o.behind)) (λ n. omega (arith, o.counts n, times-append n keys (o.before ++ o.behind), times-append n o.before o.behind)) in
          let beside = kept_beside g old mid o.own free [] rest (keys ++ (o.before ++ o.behind)) gone all others_below in
          once_apart (keys ++ rest ++ (o.before ++ o.behind)) (λ n. omega (
            arith,
            apart_once ([] ++ rest ++ (keys ++ (o.before ++ o.behind))) beside n,
            times-append n rest (keys ++ (o.before ++ o.behind)),
            times-append n keys (o.before ++ o.behind),
            times-append n (keys ++ rest) (o.before ++ o.behind),
            times-append n keys rest,
          ))
        where
          others_below : AllByRecursion (λ page. page < g.count old) (o.own ++ free ++ (keys ++ (o.before ++ o.behind)))
          others_below =
              all_join (λ (page : ℕ). page < g.count old) (o.own ++ free) (keys ++ (o.before ++ o.behind))
              (all_join (λ (page : ℕ). page < g.count old) o.own free (posting_below (g.map old) (g.count old) posting o.rows o.own o.stands) o.frees.below)
              (all_join (λ (page : ℕ). page < g.count old) keys (o.before ++ o.behind)
              (subst (λ (l : List ℕ). AllByRecursion (λ (page : ℕ). page < g.count old) l) (sym o.held.stand) o.held.held.below)
              (all_join (λ (page : ℕ). page < g.count old) o.before o.behind (held_below (g.map old) (g.count old) front o.left o.before o.first) (held_below (g.map old) (g.count old) back o.right o.behind o.last)))

      part_apart : (part : List ℕ) → ((n : ℕ) → times n part ≤ times n o.before + times n o.behind) → IsApart (keys ++ rest ++ part)
      part_apart part less =
          once_apart (keys ++ rest ++ part) (λ n. omega (
            arith,
            less n,
            apart_once (keys ++ rest ++ (o.before ++ o.behind)) left_apart n,
            times-append n (keys ++ rest) (o.before ++ o.behind),
            times-append n o.before o.behind,
            times-append n (keys ++ rest) part,
          ))

      pub entry_removed : Changed old new root lists feet free (front ++ back) key []
      entry_removed =
          let first = held_stays g mid new keys rest stand rest out front o.left o.before
          (held_stays g old mid o.own free [] rest gone front o.left o.before o.first (beside_own o.before (λ n. omega (arith, o.counts n)))) (part_apart o.before (λ n. omega arith)) in
          let last = held_stays g mid new keys rest stand rest out back o.right o.behind
          (held_stays g old mid o.own free [] rest gone back o.right o.behind o.last (beside_own o.behind (λ n. omega (arith, o.counts n)))) (part_apart o.behind (λ n. omega arith)) in
          let trees = o.before ++ o.behind in
          let one = keeps_counted old mid (keys ++ o.before ++ o.own ++ o.behind) free (keys ++ o.before ++ [] ++ o.behind) rest feet (keys ++ trees) (keeps_within g old mid (keys ++ o.before) o.own o.behind free [] rest gone)
          (λ n. omega (arith, o.counts n, times-append n (keys ++ o.before ++ o.own) o.behind, times-append n (keys ++ o.before) o.own, times-append n keys o.before))
          (λ n. omega (arith, times-append n (keys ++ o.before ++ []) o.behind, times-append n (keys ++ o.before) [], times-append n keys o.before, times-append n keys trees, times-append n o.before o.behind)) in
          let two = keeps_counted mid new ([] ++ keys ++ trees) rest ([] ++ stand ++ trees) rest (keys ++ trees) (stand ++ trees) (keeps_within g mid new [] keys trees rest stand rest out) (λ n. refl) (λ n. refl) in
          let whole = keeps_join g old mid new feet free (keys ++ trees) rest (stand ++ trees) rest one two in
          record {
            after = o.left ++ o.right;
            later = stand ++ trees;
            rest = rest;
            gin = record {
              held = record {
                entries = front ++ back;
                keys = stand;
                trees = trees;
                held = held.held;
                are = held_join (g.map new) (g.count new) front back o.left o.right o.before o.behind first last;
                stand = refl;
              };
              frees = held.frees;
              apart = kept_apart g old new feet free (stand ++ trees) rest whole o.apart o.below;
            };
            same = refl;
            keeps = whole;
            under = λ k.
                ⊎_elim
                (λ same.
                ap (λ (l : List ℕ). rows_under (o.left ++ o.right) l) (sym same.1) ∙ nowhere
                ∙ sym (ap (λ (b : Bool). cond b [] (rows_under lists k)) same.0))
                (λ differ.
                sym (under_added o.left key o.rows o.right k differ.1) ∙ ap (λ (l : Lists). rows_under l k) (sym o.lists_cut)
                ∙ sym (ap (λ (b : Bool). cond b [] (rows_under lists k)) differ.0))
                (bytes_tell key k);
          }
        where
          behind_differ : (es : List Entry) → AllByRecursion (λ e. IsBefore key e.0) es → AllByRecursion (λ e. e.0 ≢ key) es
          behind_differ [] all = tt
          behind_differ (e ∷ es) all = ((λ same. before_differs key e.0 all.0 (sym same)), behind_differ es all.1)

          tail_before : (es : List Entry) → AreRising (es ++ (key, posting) ∷ back) → AllByRecursion (λ e. IsBefore key e.0) back
          tail_before [] rising = rising.0
          tail_before (e ∷ es) rising = tail_before es rising.1

          nowhere : rows_under (o.left ++ o.right) key ≡ []
          nowhere =
              under_nowhere (o.left ++ o.right) key
              (all_join (λ (list : List ℕ × List RowRef). list.0 ≢ key) o.left o.right
              (held_keys (g.map old) (g.count old) (λ (k : List ℕ). k ≢ key) front o.left o.before o.first (none_before front back key posting o.held.rising))
              (held_keys (g.map old) (g.count old) (λ (k : List ℕ). k ≢ key) back o.right o.behind o.last (behind_differ back (tail_before front o.held.rising))))

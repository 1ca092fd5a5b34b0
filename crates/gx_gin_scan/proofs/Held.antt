-- The rows of a key, as pages hold them.
use Rattle.std.proofs.Common.{◌≡◌, ◌≢◌, ◌⊎◌, inl, inr, ⊎_elim, ℕ, zero, suc, ◌^◌, ◌<◌, ◌≤◌, Bool, true, false, List, [], ◌∷◌, ◌++◌, Some, None, refl, sym, ◌∙◌, subst, arith}
use Rattle.std.specs.List.{AllByRecursion}
use Rattle.std.specs.Str.{bytes_eq}
use Rattle.std.proofs.lemmas.Slice.Eq.{bytes_eq-Decides}
use Rattle.gx_bytes.specs.Fields.{le64, le64-same}
use Rattle.gx_words.specs.PageMap.{PageMap}
use Rattle.gx_pages.specs.declared.row.RowRef.{RowRef}
use Rattle.gx_pages.proofs.Footprints.{all_right}
use Rattle.gx_posting.specs.Postings.{Spells}
use Rattle.gx_posting_tree.specs.PostingTrees.{HoldsList}
use Rattle.gx_tree.specs.Trees.{Holds, Node}
use Rattle.gx_gin_entry.specs.EntryTrees.{AreRising, Entry, IsBefore, IsFound}
use Rattle.gx_gin_entry.specs.Keys.{not_itself}
use Rattle.gx_gin_scan.specs.Gins.{AreHeld, HoldsLists, IsPosting, pages_under}
use Rattle.gx_gin_scan.specs.Lists.{Lists, rows_under}

-- whether bytes are equal
eq_or : (b : Bool) (A : Type 0) → (b ≡ true → A) → (A → b ≡ true) → ((b ≡ true) × A) ⊎ ((b ≡ false) × (A → ⊥))
eq_or true A there back = inl (refl, there refl)
eq_or false A there back = inr (refl, λ a. let e : false ≡ true = back a in cc)

pub bytes_tell : (x y : List ℕ) → ((bytes_eq x y ≡ true) × (x ≡ y)) ⊎ ((bytes_eq x y ≡ false) × (x ≢ y))
bytes_tell x y = let d = bytes_eq-Decides x y in eq_or (bytes_eq x y) (x ≡ y) d.0 d.1

pub bytes_same : (x y : List ℕ) → x ≡ y → bytes_eq x y ≡ true
bytes_same x y same = (bytes_eq-Decides x y).1 same

pub bytes_differ : (x y : List ℕ) → x ≢ y → bytes_eq x y ≡ false
bytes_differ x y differ = ⊎_elim (λ same. absurd (differ same.1)) (λ other. other.0) (bytes_tell x y)

pub before_differs : (x y : List ℕ) → IsBefore x y → x ≢ y
before_differs x y before same = not_itself y (subst (λ (k : List ℕ). IsBefore k y) same before)

-- the number of a root page
root_below : (map : PageMap) (count kind root level : ℕ) (node : Node level) → Holds map count kind root (level, node) → root < count
root_below map count kind root zero node held = subst (λ (n : ℕ). n < count) held.begins held.below.0
root_below map count kind root (suc level) node held = subst (λ (n : ℕ). n < count) held.begins held.below.0

-- the first byte of a posting tells what it is
pub not_both : (a b : List ℕ) → 0 ∷ a ≡ 1 ∷ b → ⊥
not_both a b same = cc

-- a posting with a list is that of its rows
pub of_list : (now : PageMap) (count : ℕ) (posting list : List ℕ) (rows : List RowRef) (feet : List ℕ) → posting ≡ 0 ∷ list → IsPosting now count posting rows feet → Spells list rows
of_list now count posting list rows feet is stands =
    ⊎_elim
    (λ short. let e : 0 ∷ short.list ≡ 0 ∷ list = sym short.is ∙ is in let same : short.list ≡ list = cc in subst (λ (l : List ℕ). Spells l rows) same short.spells)
    (λ tree. absurd (not_both list (le64 tree.root) (sym is ∙ tree.is)))
    stands

-- a posting with a root page is that of its tree's rows
pub of_tree : (now : PageMap) (count : ℕ) (posting : List ℕ) (root : ℕ) (rows : List RowRef) (feet : List ℕ) → count ≤ 2 ^ 50 → root < 2 ^ 64 → posting ≡ 1 ∷ le64 root → IsPosting now count posting rows feet
    → HoldsList now count root rows feet
of_tree now count posting root rows feet few fits is stands =
    ⊎_elim
    (λ short. absurd (not_both short.list (le64 root) (sym short.is ∙ is)))
    (λ tree.
    let e : 1 ∷ le64 tree.root ≡ 1 ∷ le64 root = sym tree.is ∙ is in
    let fields : le64 tree.root ≡ le64 root = cc in
    let low = root_below now count 6 tree.root tree.held.tree.0 tree.held.tree.1 tree.held.held in
    let same : tree.root ≡ root = le64-same tree.root root (omega (arith, low, few)) fits fields in
    subst (λ (n : ℕ). HoldsList now count n rows feet) same tree.held)
    stands

-- a posting that is neither
pub of_none : (now : PageMap) (count : ℕ) (posting : List ℕ) (rows : List RowRef) (feet : List ℕ) → ((list : List ℕ) → posting ≢ 0 ∷ list) → ((root : ℕ) → posting ≢ 1 ∷ le64 root)
    → IsPosting now count posting rows feet → ⊥
of_none now count posting rows feet no_list no_root stands = ⊎_elim (λ short. no_list short.list short.is) (λ tree. no_root tree.root tree.is) stands

-- the rows under the first key, and under another one
pub under_same : (list : List ℕ × List RowRef) (lists : Lists) (key : List ℕ) → bytes_eq list.0 key ≡ true → rows_under (list ∷ lists) key ≡ list.1
under_same list lists key same = rw same refl

pub under_other : (list : List ℕ × List RowRef) (lists : Lists) (key : List ℕ) → bytes_eq list.0 key ≡ false → rows_under (list ∷ lists) key ≡ rows_under lists key
under_other list lists key other = rw other refl

pages_same : (now : PageMap) (count : ℕ) (entry : Entry) (entries : List Entry) (list : List ℕ × List RowRef) (lists : Lists) (feet : List ℕ) (are : AreHeld now count (entry ∷ entries) (list ∷ lists) feet) (key : List ℕ)
    → bytes_eq list.0 key ≡ true → pages_under now count (entry ∷ entries) (list ∷ lists) feet are key ≡ are.0
pages_same now count entry entries list lists feet are key same = rw same refl

pages_other : (now : PageMap) (count : ℕ) (entry : Entry) (entries : List Entry) (list : List ℕ × List RowRef) (lists : Lists) (feet : List ℕ) (are : AreHeld now count (entry ∷ entries) (list ∷ lists) feet) (key : List ℕ)
    → bytes_eq list.0 key ≡ false → pages_under now count (entry ∷ entries) (list ∷ lists) feet are key ≡ pages_under now count entries lists are.1 are.6 key
pages_other now count entry entries list lists feet are key other = rw other refl

-- a key without an entry
none_under : (now : PageMap) (count : ℕ) (entries : List Entry) (lists : Lists) (feet key : List ℕ) → AllByRecursion (λ e. e.0 ≢ key) entries → AreHeld now count entries lists feet → rows_under lists key ≡ []
none_under now count [] [] feet key none are = refl
none_under now count [] (list ∷ lists) feet key none are = absurd are
none_under now count (entry ∷ entries) [] feet key none are = absurd are
none_under now count (entry ∷ entries) (list ∷ lists) feet key none are =
    under_other list lists key (bytes_differ list.0 key (λ same. none.0 (are.3 ∙ same))) ∙ none_under now count entries lists are.1 key none.1 are.6

-- the posting of a key stands for its rows, on its pages
pub record Posts (now : PageMap) (count : ℕ) (posting : List ℕ) (rows : List RowRef) (pages : List ℕ) : Type 0 where
  pub own : List ℕ
  pub stands : IsPosting now count posting rows own
  pub are : pages ≡ own

posts_here : (now : PageMap) (count : ℕ) (front : List Entry) (key posting : List ℕ) (back : List Entry) (lists : Lists) (feet : List ℕ) → AreRising (front ++ (key, posting) ∷ back)
    → (are : AreHeld now count (front ++ (key, posting) ∷ back) lists feet) → Posts now count posting (rows_under lists key) (pages_under now count (front ++ (key, posting) ∷ back) lists feet are key)
posts_here now count [] key posting back [] feet rising are = absurd are
posts_here now count [] key posting back (list ∷ lists) feet rising are =
    let same = bytes_same list.0 key (sym are.3) in
    record {
      own = are.0;
      stands = subst (λ (l : List RowRef). IsPosting now count posting l are.0) (sym (under_same list lists key same)) are.5;
      are = pages_same now count (key, posting) back list lists feet are key same;
    }
posts_here now count (entry ∷ front) key posting back [] feet rising are = absurd are
posts_here now count (entry ∷ front) key posting back (list ∷ lists) feet rising are =
    let before = (all_right (λ (e : Entry). IsBefore entry.0 e.0) front ((key, posting) ∷ back) rising.0).0 in
    let other = bytes_differ list.0 key (λ same. before_differs entry.0 key before (are.3 ∙ same)) in
    let rest = posts_here now count front key posting back lists are.1 rising.1 are.6 in
    record {
      own = rest.own;
      stands = subst (λ (l : List RowRef). IsPosting now count posting l rest.own) (sym (under_other list lists key other)) rest.stands;
      are = pages_other now count entry (front ++ (key, posting) ∷ back) list lists feet are key other ∙ rest.are;
    }

posts_at : (now : PageMap) (count : ℕ) (entries front : List Entry) (key posting : List ℕ) (back : List Entry) (lists : Lists) (feet : List ℕ) → entries ≡ front ++ (key, posting) ∷ back → AreRising entries
    → (are : AreHeld now count entries lists feet) → Posts now count posting (rows_under lists key) (pages_under now count entries lists feet are key)
posts_at now count entries front key posting back lists feet is =
    subst (λ (l : List Entry). AreRising l → (are : AreHeld now count l lists feet) → Posts now count posting (rows_under lists key) (pages_under now count l lists feet are key)) (sym is)
    (posts_here now count front key posting back lists feet)

pub key_none : (now : PageMap) (count root : ℕ) (lists : Lists) (feet key : List ℕ) (held : HoldsLists now count root lists feet) → IsFound held.entries key None → rows_under lists key ≡ []
key_none now count root lists feet key held none = none_under now count held.entries lists held.trees key none held.are

pub key_some : (now : PageMap) (count root : ℕ) (lists : Lists) (feet key posting : List ℕ) (held : HoldsLists now count root lists feet) → IsFound held.entries key (Some posting)
    → Posts now count posting (rows_under lists key) (pages_under now count held.entries lists held.trees held.are key)
key_some now count root lists feet key posting held found = posts_at now count held.entries found.0 key posting found.1 lists held.trees found.2 held.held.rising held.are

-- the same at an equal map, count and posting
pub posting_at : (old new : PageMap) (m n : ℕ) (posting other : List ℕ) (rows : List RowRef) (feet : List ℕ) → new ≡ old → n ≡ m → other ≡ posting → IsPosting old m posting rows feet → IsPosting new n other rows feet
posting_at old new m n posting other rows feet map count same stands =
    subst (λ (p : PageMap). IsPosting p n other rows feet) (sym map)
    (subst (λ (k : ℕ). IsPosting old k other rows feet) (sym count) (subst (λ (l : List ℕ). IsPosting old m l rows feet) (sym same) stands))

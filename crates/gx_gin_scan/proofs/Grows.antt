-- An index with a row more.
use Rattle.std.proofs.Common.{◌≡◌, ◌≢◌, ⊎_elim, ℕ, ◌+◌, Bool, true, false, cond, List, [], ◌∷◌, ◌++◌, map, filter, Option, Some, None, refl, sym, ◌∙◌, ap, subst, append_assoc, append-nil, arith}
use Rattle.std.specs.List.{AllByRecursion}
use Rattle.std.specs.Str.{bytes_eq}
use Rattle.std.proofs.lemmas.List.{map-append}
use Rattle.std.proofs.lemmas.List.Elements.{filter-append}
use Rattle.gx_words.specs.PageMap.{PageMap}
use Rattle.gx_pages.specs.declared.row.RowRef.{RowRef}
use Rattle.gx_pages.specs.Rows.{AreBelow, IsRising}
use Rattle.gx_pages.proofs.Rising.{rising_push}
use Rattle.gx_gin.specs.Reach.{is_among}
use Rattle.gx_gin.specs.Rising.{IsRising as AreRisingKeys}
use Rattle.gx_bytes.specs.Fields.{le64}
use Rattle.gx_pages.proofs.Footprints.{all_right, times, times-append}
use Rattle.gx_gin_entry.specs.EntryTrees.{AreRising, Entry, IsBefore, IsFound, IsPut, entry_of}
use Rattle.gx_gin_entry.specs.Keys.{not_itself, rising_across}
use Rattle.gx_gin_scan.specs.Gins.{AreHeld, IsPosting}
use Rattle.gx_gin_scan.specs.Lists.{Grows, IsIndexOf, Lists, keys_of, rows_under}
use Rattle.gx_gin_scan.proofs.Held.{before_differs, bytes_differ, bytes_same, bytes_tell, not_both, under_other, under_same}

-- entries with their lists in two parts
pub record Halves (now : PageMap) (count : ℕ) (front back : List Entry) (lists : Lists) (trees : List ℕ) : Type 0 where
  pub left : Lists
  pub right : Lists
  pub own : List ℕ
  pub others : List ℕ
  pub cut : lists ≡ left ++ right
  pub stand : trees ≡ own ++ others
  pub before : AreHeld now count front left own
  pub behind : AreHeld now count back right others

pub held_split : (now : PageMap) (count : ℕ) (front back : List Entry) (lists : Lists) (trees : List ℕ) → AreHeld now count (front ++ back) lists trees → Halves now count front back lists trees
held_split now count [] back lists trees are = record { left = []; right = lists; own = []; others = trees; cut = refl; stand = refl; before = refl; behind = are }
held_split now count (entry ∷ front) back [] trees are = absurd are
held_split now count (entry ∷ front) back (list ∷ lists) trees are =
    let rest = held_split now count front back lists are.1 are.6 in
    record {
      left = list ∷ rest.left;
      right = rest.right;
      own = are.0 ++ rest.own;
      others = rest.others;
      cut = ap (λ (l : Lists). list ∷ l) rest.cut;
      stand = are.2 ∙ ap (λ (l : List ℕ). are.0 ++ l) rest.stand ∙ sym (append_assoc are.0 rest.own rest.others);
      before = (are.0, rest.own, refl, are.3, are.4, are.5, rest.before);
      behind = rest.behind;
    }

pub held_join : (now : PageMap) (count : ℕ) (front back : List Entry) (left right : Lists) (own others : List ℕ) → AreHeld now count front left own → AreHeld now count back right others
    → AreHeld now count (front ++ back) (left ++ right) (own ++ others)
held_join now count [] back [] right own others before behind = subst (λ (l : List ℕ). AreHeld now count back right (l ++ others)) (sym before) behind
held_join now count [] back (list ∷ left) right own others before behind = absurd before
held_join now count (entry ∷ front) back [] right own others before behind = absurd before
held_join now count (entry ∷ front) back (list ∷ left) right own others before behind = (
  before.0,
  before.1 ++ others,
  ap (λ (l : List ℕ). l ++ others) before.2 ∙ append_assoc before.0 before.1 others,
  before.3,
  before.4,
  before.5,
  held_join now count front back left right before.1 others before.6 behind,
)

-- what holds of the keys of entries holds of those of their lists
pub held_keys : (now : PageMap) (count : ℕ) (Q : List ℕ → Type 0) (entries : List Entry) (lists : Lists) (trees : List ℕ) → AreHeld now count entries lists trees → AllByRecursion (λ e. Q e.0) entries
    → AllByRecursion (λ list. Q list.0) lists
held_keys now count Q [] [] trees are all = tt
held_keys now count Q [] (list ∷ lists) trees are all = absurd are
held_keys now count Q (entry ∷ entries) [] trees are all = absurd are
held_keys now count Q (entry ∷ entries) (list ∷ lists) trees are all = (subst Q are.3 all.0, held_keys now count Q entries lists are.1 are.6 all.1)

pub held_rising : (now : PageMap) (count : ℕ) (entries : List Entry) (lists : Lists) (trees : List ℕ) → AreHeld now count entries lists trees → AreRising entries → AreRisingKeys (map (λ list. list.0) lists)
held_rising now count [] [] trees are rising = tt
held_rising now count [] (list ∷ lists) trees are rising = absurd are
held_rising now count (entry ∷ entries) [] trees are rising = absurd are
held_rising now count (entry ∷ []) (list ∷ []) trees are rising = tt
held_rising now count (entry ∷ []) (list ∷ other ∷ lists) trees are rising = absurd are.6
held_rising now count (entry ∷ second ∷ entries) (list ∷ []) trees are rising = absurd are.6
held_rising now count (entry ∷ second ∷ entries) (list ∷ other ∷ lists) trees are rising = (
  subst (λ (k : List ℕ). IsBefore k other.0) are.3 (subst (λ (k : List ℕ). IsBefore entry.0 k) are.6.3 rising.0.0),
  held_rising now count (second ∷ entries) (other ∷ lists) are.1 are.6 rising.1,
)

pub held_some : (now : PageMap) (count : ℕ) (entries : List Entry) (lists : Lists) (trees : List ℕ) → AreHeld now count entries lists trees → AllByRecursion (λ list. list.1 ≢ []) lists
held_some now count [] [] trees are = tt
held_some now count [] (list ∷ lists) trees are = absurd are
held_some now count (entry ∷ entries) [] trees are = absurd are
held_some now count (entry ∷ entries) (list ∷ lists) trees are = (are.4, held_some now count entries lists are.1 are.6)

-- the rows of keys where one list is another
pub under_replaced : (left : Lists) (key : List ℕ) (old new : List RowRef) (right : Lists) (k : List ℕ) → key ≢ k → rows_under (left ++ (key, new) ∷ right) k ≡ rows_under (left ++ (key, old) ∷ right) k
under_replaced [] key old new right k differ =
    under_other (key, new) right k (bytes_differ key k differ) ∙ sym (under_other (key, old) right k (bytes_differ key k differ))
under_replaced (list ∷ left) key old new right k differ = ap (λ (l : List RowRef). cond (bytes_eq list.0 k) list.1 l) (under_replaced left key old new right k differ)

pub under_added : (left : Lists) (key : List ℕ) (new : List RowRef) (right : Lists) (k : List ℕ) → key ≢ k → rows_under (left ++ (key, new) ∷ right) k ≡ rows_under (left ++ right) k
under_added [] key new right k differ = under_other (key, new) right k (bytes_differ key k differ)
under_added (list ∷ left) key new right k differ = ap (λ (l : List RowRef). cond (bytes_eq list.0 k) list.1 l) (under_added left key new right k differ)

pub under_here : (left : Lists) (key : List ℕ) (rows : List RowRef) (right : Lists) → AllByRecursion (λ list. list.0 ≢ key) left → rows_under (left ++ (key, rows) ∷ right) key ≡ rows
under_here [] key rows right none = under_same (key, rows) right key (bytes_same key key refl)
under_here (list ∷ left) key rows right none = under_other list (left ++ (key, rows) ∷ right) key (bytes_differ list.0 key none.0) ∙ under_here left key rows right none.1

pub under_nowhere : (lists : Lists) (key : List ℕ) → AllByRecursion (λ list. list.0 ≢ key) lists → rows_under lists key ≡ []
under_nowhere [] key none = refl
under_nowhere (list ∷ lists) key none = under_other list lists key (bytes_differ list.0 key none.0) ∙ under_nowhere lists key none.1

module _ {V : Type 0} (items_of : V → List (List ℕ)) (lists later : Lists) (rows : List (RowRef × V)) (row : RowRef) (value : V) where
  pub index_grows : IsIndexOf items_of lists rows → AreBelow (map (λ (r : RowRef × V). r.0) rows) row.number → AreRisingKeys (map (λ list. list.0) later) → AllByRecursion (λ list. list.1 ≢ []) later
      → Grows (keys_of (items_of value)) row lists later → IsIndexOf items_of later (rows ++ (row, value) ∷ [])
  index_grows index below keys some grows = record {
    keys = keys;
    some = some;
    rising = subst (λ (l : List RowRef). IsRising l) (sym (map-append (λ (r : RowRef × V). r.0) rows ((row, value) ∷ []))) (rising_push (map (λ (r : RowRef × V). r.0) rows) row index.rising below);
    under = λ key.
        let p : RowRef × V → Bool = λ r. is_among (keys_of (items_of r.1)) key in
        grows key ∙ ap (λ (l : List RowRef). l ++ cond (is_among (keys_of (items_of value)) key) (row ∷ []) []) (index.under key)
        ∙ sym (ap (λ (l : List (RowRef × V)). map (λ (r : RowRef × V). r.0) l) (filter-append p rows ((row, value) ∷ [])) ∙ map-append (λ (r : RowRef × V). r.0) (filter p rows) (filter p ((row, value) ∷ []))
        ∙ ap (λ (l : List RowRef). map (λ (r : RowRef × V). r.0) (filter p rows) ++ l) (one (p (row, value))));
  }
    where
      one : (b : Bool) → map (λ (r : RowRef × V). r.0) (cond b ((row, value) ∷ []) []) ≡ cond b (row ∷ []) []
      one true = refl
      one false = refl

-- the key's posting isn't a posting tree
abbrev pub IsFlat : List Entry → List ℕ → Type 0
IsFlat entries key = (front back : List Entry) (posting : List ℕ) → entries ≡ front ++ (key, posting) ∷ back → (list : List ℕ) × (posting ≡ 0 ∷ list)

-- The key has these rows later, on pages of their own; all else stays.
pub record Set (now : PageMap) (count : ℕ) (later : List Entry) (lists : Lists) (key : List ℕ) (rows : List RowRef) (trees own : List ℕ) : Type 0 where
  pub after : Lists
  pub stand : List ℕ
  pub held : AreHeld now count later after stand
  pub counts : (n : ℕ) → times n stand ≡ times n trees + times n own
  pub under : (k : List ℕ) → rows_under after k ≡ cond (bytes_eq key k) rows (rows_under lists k)

module _ (now : PageMap) (count : ℕ) (front : List Entry) (key posting : List ℕ) (back : List Entry) (lists : Lists) (trees : List ℕ) (rows : List RowRef) (own : List ℕ) (some : rows ≢ [])
    (stands : IsPosting now count posting rows own) (rising : AreRising (front ++ (key, posting) ∷ back)) where
  before_other : (es : List Entry) → AllByRecursion (λ e. IsBefore e.0 key) es → AllByRecursion (λ e. e.0 ≢ key) es
  before_other [] all = tt
  before_other (e ∷ es) all = (before_differs e.0 key all.0, before_other es all.1)

  under_key : (left right : Lists) (where_ : List ℕ) → AreHeld now count front left where_ → rows_under (left ++ (key, rows) ∷ right) key ≡ rows
  under_key left right where_ before =
      under_here left key rows right (held_keys now count (λ (k : List ℕ). k ≢ key) front left where_ before (before_other front (rising_across front (key, posting) back rising)))

  -- by whether it is the key
  either_key : (after : Lists) → rows_under after key ≡ rows → ((k : List ℕ) → key ≢ k → rows_under after k ≡ rows_under lists k) → (k : List ℕ) → rows_under after k ≡ cond (bytes_eq key k) rows (rows_under lists k)
  either_key after here other k =
      ⊎_elim
      (λ same. ap (λ (l : List ℕ). rows_under after l) (sym same.1) ∙ here ∙ sym (ap (λ (b : Bool). cond b rows (rows_under lists k)) same.0))
      (λ differ. other k differ.1 ∙ sym (ap (λ (b : Bool). cond b rows (rows_under lists k)) differ.0))
      (bytes_tell key k)

  pub set_new : AreHeld now count (front ++ back) lists trees → Set now count (front ++ (key, posting) ∷ back) lists key rows trees own
  set_new are =
      let halves = held_split now count front back lists trees are in
      record {
        after = halves.left ++ (key, rows) ∷ halves.right;
        stand = halves.own ++ (own ++ halves.others);
        held = held_join now count front ((key, posting) ∷ back) halves.left ((key, rows) ∷ halves.right) halves.own (own ++ halves.others) halves.before (own, halves.others, refl, refl, some, stands, halves.behind);
        counts = λ n. omega (
          arith,
          times-append n halves.own (own ++ halves.others),
          times-append n own halves.others,
          ap (λ (l : List ℕ). times n l) halves.stand,
          times-append n halves.own halves.others,
        );
        under = either_key (halves.left ++ (key, rows) ∷ halves.right) (under_key halves.left halves.right halves.own halves.before)
            (λ k differ. under_added halves.left key rows halves.right k differ ∙ ap (λ (l : Lists). rows_under l k) (sym halves.cut));
      }

  set_there : (was : List ℕ) (left right : Lists) (before others : List ℕ) → AreHeld now count front left before → AreHeld now count ((key, was) ∷ back) right others → lists ≡ left ++ right → trees ≡ before ++ others
      → (list : List ℕ) → was ≡ 0 ∷ list → Set now count (front ++ (key, posting) ∷ back) lists key rows trees own
  set_there was left [] before others first last cut stand list flat = absurd last
  set_there was left (old ∷ right) before others first last cut stand list flat =
      let none : last.0 ≡ [] = ⊎_elim (λ short. short.stand) (λ tree. absurd (not_both list (le64 tree.root) (sym flat ∙ tree.is))) last.5 in
      record {
        after = left ++ (key, rows) ∷ right;
        stand = before ++ (own ++ last.1);
        held = held_join now count front ((key, posting) ∷ back) left ((key, rows) ∷ right) before (own ++ last.1) first (own, last.1, refl, refl, some, stands, last.6);
        counts = λ n. omega (
          arith,
          times-append n before (own ++ last.1),
          times-append n own last.1,
          ap (λ (l : List ℕ). times n l) stand,
          times-append n before others,
          ap (λ (l : List ℕ). times n l) last.2,
          times-append n last.0 last.1,
          ap (λ (l : List ℕ). times n l) none,
        );
        under = either_key (left ++ (key, rows) ∷ right) (under_key left right before first)
            (λ k differ.
            under_replaced left key old.1 rows right k differ
            ∙ ap (λ (l : List ℕ). rows_under (left ++ (l, old.1) ∷ right) k) last.3 ∙ ap (λ (l : Lists). rows_under l k) (sym cut));
      }

  pub set_old : (was : List ℕ) → AreHeld now count (front ++ (key, was) ∷ back) lists trees → (list : List ℕ) → was ≡ 0 ∷ list → Set now count (front ++ (key, posting) ∷ back) lists key rows trees own
  set_old was are list flat =
      let halves = held_split now count front ((key, was) ∷ back) lists trees are in
      set_there was halves.left halves.right halves.own halves.others halves.before halves.behind halves.cut halves.stand list flat

set_by : (now : PageMap) (count : ℕ) (entries later front : List Entry) (key posting : List ℕ) (was : Option (List ℕ)) (back : List Entry) (lists : Lists) (trees : List ℕ) (rows : List RowRef) (own : List ℕ) → rows ≢ []
    → IsPosting now count posting rows own → AreRising later → AreHeld now count entries lists trees → IsFlat entries key → entries ≡ front ++ entry_of key was ++ back → later ≡ front ++ (key, posting) ∷ back → Set now count later lists key rows trees own
set_by now count entries later front key posting None back lists trees rows own some stands rising are flat old new =
    let cut : entries ≡ front ++ back = old ∙ ap (λ (l : List Entry). l ++ back) (append-nil front) in
    subst (λ (l : List Entry). Set now count l lists key rows trees own) (sym new)
    (set_new now count front key posting back lists trees rows own some stands (subst (λ (l : List Entry). AreRising l) new rising) (subst (λ (l : List Entry). AreHeld now count l lists trees) cut are))
set_by now count entries later front key posting (Some was) back lists trees rows own some stands rising are flat old new =
    let cut : entries ≡ front ++ (key, was) ∷ back = old ∙ append_assoc front ((key, was) ∷ []) back in
    let list = flat front back was cut in
    subst (λ (l : List Entry). Set now count l lists key rows trees own) (sym new)
    (set_old now count front key posting back lists trees rows own some stands (subst (λ (l : List Entry). AreRising l) new rising) was (subst (λ (l : List Entry). AreHeld now count l lists trees) cut are) list.0 list.1)

pub set_put : (now : PageMap) (count : ℕ) (entries later : List Entry) (key posting : List ℕ) (lists : Lists) (trees : List ℕ) (rows : List RowRef) (own : List ℕ) → rows ≢ [] → IsPosting now count posting rows own → AreRising later
    → AreHeld now count entries lists trees → IsFlat entries key → IsPut key posting entries later → Set now count later lists key rows trees own
set_put now count entries later key posting lists trees rows own some stands rising are flat put =
    set_by now count entries later put.front key posting put.was put.back lists trees rows own some stands rising are flat put.old put.new

first_same : (x y : Entry) (xs ys : List Entry) → x ∷ xs ≡ y ∷ ys → x ≡ y
first_same x y xs ys e = cc

rest_same : (x y : Entry) (xs ys : List Entry) → x ∷ xs ≡ y ∷ ys → xs ≡ ys
rest_same x y xs ys e = cc

-- rising entries are cut at a key in one way
pub same_cut : (key posting was : List ℕ) (a c b d : List Entry) → AreRising (a ++ (key, posting) ∷ b) → a ++ (key, posting) ∷ b ≡ c ++ (key, was) ∷ d → (a ≡ c) × (b ≡ d) × (posting ≡ was)
same_cut key posting was [] [] b d up e =
    let heads : (key, posting) ≡ (key, was) = first_same (key, posting) (key, was) b d e in
    (refl, rest_same (key, posting) (key, was) b d e, ap (λ (o : Entry). o.1) heads)
same_cut key posting was [] (x ∷ c) b d up e =
    let tail : b ≡ c ++ (key, was) ∷ d = rest_same (key, posting) x b (c ++ (key, was) ∷ d) e in
    absurd (not_itself key ((all_right (λ (o : Entry). IsBefore key o.0) c ((key, was) ∷ d) (subst (λ (l : List Entry). AllByRecursion (λ (o : Entry). IsBefore key o.0) l) tail up.0)).0))
same_cut key posting was (x ∷ a) [] b d up e =
    let head : x ≡ (key, was) = first_same x (key, was) (a ++ (key, posting) ∷ b) d e in
    let low : IsBefore x.0 key = (all_right (λ (o : Entry). IsBefore x.0 o.0) a ((key, posting) ∷ b) up.0).0 in
    absurd (not_itself key (subst (λ (o : Entry). IsBefore o.0 key) head low))
same_cut key posting was (x ∷ a) (y ∷ c) b d up e =
    let head : x ≡ y = first_same x y (a ++ (key, posting) ∷ b) (c ++ (key, was) ∷ d) e in
    let tail : a ++ (key, posting) ∷ b ≡ c ++ (key, was) ∷ d = rest_same x y (a ++ (key, posting) ∷ b) (c ++ (key, was) ∷ d) e in
    let rest = same_cut key posting was a c b d up.1 tail in
    (ap (λ (o : Entry). o ∷ a) head ∙ ap (λ (l : List Entry). y ∷ l) rest.0, rest.1, rest.2)

-- a key has one posting
pub one_posting : (entries : List Entry) (key : List ℕ) (found : Option (List ℕ)) → AreRising entries → IsFound entries key found → (front back : List Entry) (posting : List ℕ) → entries ≡ front ++ (key, posting) ∷ back → found ≡ Some posting
one_posting entries key None rising none front back posting cut =
    absurd ((all_right (λ (e : Entry). e.0 ≢ key) front ((key, posting) ∷ back) (subst (λ (l : List Entry). AllByRecursion (λ (e : Entry). e.0 ≢ key) l) cut none)).0 refl)
one_posting entries key (Some was) rising there front back posting cut =
    ap (λ (p : List ℕ). Some p) (sym (same_cut key posting was front there.0 back there.1 (subst (λ (l : List Entry). AreRising l) cut rising) (sym cut ∙ there.2)).2)

-- What a search finds, from the lists of an index.
use Rattle.std.proofs.Common.{◌≡◌, ◌≢◌, ◌⊎◌, inl, inr, ⊎_elim, ◌↔◌, ℕ, zero, suc, ◌<◌, ◌==◌, ◌||◌, ◌&&◌, Bool, true, false, cond, List, [], ◌∷◌, map, filter, Contains, refl, sym, ◌∙◌, ap, subst, arith}
use Rattle.std.specs.List.{AllByRecursion, list_any}
use Rattle.std.specs.Str.{bytes_eq}
use Rattle.std.proofs.lemmas.Bool.Decides.{eqb_tells}
use Rattle.std.proofs.lemmas.List.Folds.{list_any-append}
use Rattle.gx_pages.specs.declared.row.RowRef.{RowRef}
use Rattle.gx_pages.specs.Rows.{HasNumber, IsRising}
use Rattle.gx_pages.proofs.Footprints.{all_join}
use Rattle.gx_gist.specs.declared.test.Test.{Test}
use Rattle.gx_gin.specs.Reach.{flags, has_none, is_among, reaches}
use Rattle.gx_gin.specs.Rising.{IsRising as AreRisingKeys}
use Rattle.gx_gin.specs.declared.wanted.Mode.{Mode}
use Rattle.gx_gin.specs.declared.wanted.Mode.TheVariants.{Default, IncludeEmpty, All}
use Rattle.gx_gin_entry.specs.EntryTrees.{IsBefore}
use Rattle.gx_gin_entry.specs.Keys.{before_on}
use Rattle.gx_gin_scan.specs.Lists.{IsIndexOf, Lists, found, isnt_no, keys_of, rows_under}
use Rattle.gx_gin_scan.specs.Searches.{all_rows, has, item_key, joined, lists_of, looked_at, marks, picked, placeholder}
use Rattle.gx_gin_scan.proofs.Held.{before_differs, bytes_same, bytes_tell, under_other, under_same}
use Rattle.gx_gin_scan.proofs.Walked.{has_tells}

-- elements of a list, by recursion
abbrev pub In : {X : Type 0} → X → List X → Type 0
In x [] = ⊥
In x (y ∷ ys) = (y ≡ x) ⊎ In x ys

all_in : {X : Type 0} (Q : X → Type 0) (xs : List X) (x : X) → AllByRecursion Q xs → In x xs → Q x
all_in Q [] x all there = absurd there
all_in Q (y ∷ ys) x all (inl e) = subst Q e all.0
all_in Q (y ∷ ys) x all (inr h) = all_in Q ys x all.1 h

in_all : {X : Type 0} (Q : X → Type 0) (xs : List X) → ((x : X) → In x xs → Q x) → AllByRecursion Q xs
in_all Q [] each = tt
in_all Q (x ∷ xs) each = (each x (inl refl), in_all Q xs (λ y h. each y (inr h)))

all_contains : {X : Type 0} (Q : X → Type 0) (xs : List X) (x : X) → AllByRecursion Q xs → Contains xs x → Q x
all_contains Q [] x all (k, below, is) = absurd (omega (arith, below))
all_contains Q (y ∷ ys) x all (zero, below, is) = subst Q is all.0
all_contains Q (y ∷ ys) x all (suc k, below, is) = all_contains Q ys x all.1 (k, omega (arith, below), is)

contains_in : {X : Type 0} (xs : List X) (x : X) → In x xs → Contains xs x
contains_in [] x there = absurd there
contains_in (y ∷ ys) x (inl e) = (zero, omega arith, e)
contains_in (y ∷ ys) x (inr h) = let c = contains_in ys x h in (suc c.0, (let b = c.1 in omega (arith, b)), c.2)

-- Bools
decide : (b : Bool) → (b ≡ true) ⊎ (b ≡ false)
decide true = inl refl
decide false = inr refl

not_two : (b : Bool) → b ≡ true → b ≡ false → ⊥
not_two b sure off = let e : true ≡ false = sym sure ∙ off in cc

number_hit : (a b : ℕ) → a ≡ b → (a == b) ≡ true
number_hit a b same = ⊎_elim (λ yes_. yes_.0) (λ other. absurd (other.1 same)) (eqb_tells a b)

number_miss : (a b : ℕ) → a ≢ b → (a == b) ≡ false
number_miss a b differ = ⊎_elim (λ yes_. absurd (differ yes_.1)) (λ other. other.0) (eqb_tells a b)

has_hit : (row : RowRef) (rows : List RowRef) (n : ℕ) → row.number ≡ n → has (row ∷ rows) n ≡ true
has_hit row rows n same = rw (number_hit row.number n same) refl

has_miss : (row : RowRef) (rows : List RowRef) (n : ℕ) → row.number ≢ n → has (row ∷ rows) n ≡ has rows n
has_miss row rows n differ = rw (number_miss row.number n differ) refl

-- the rows of a filter
abbrev pub refs : {V : Type 0} → List (RowRef × V) → List RowRef
refs rows = map (λ row. row.0) rows

filter_kept : {V : Type 0} (p : (RowRef × V) → Bool) (row : (RowRef × V)) (rows : List (RowRef × V)) → p row ≡ true → refs (filter p (row ∷ rows)) ≡ row.0 ∷ refs (filter p rows)
filter_kept p row rows sure = rw sure refl

filter_left : {V : Type 0} (p : (RowRef × V) → Bool) (row : (RowRef × V)) (rows : List (RowRef × V)) → p row ≡ false → refs (filter p (row ∷ rows)) ≡ refs (filter p rows)
filter_left p row rows off = rw off refl

above_none : {V : Type 0} (p : (RowRef × V) → Bool) (rows : List (RowRef × V)) (n : ℕ) → AllByRecursion (λ other. n < other.number) (refs rows) → has (refs (filter p rows)) n ≡ false
above_none p [] n all = refl
above_none p (row ∷ rows) n all =
    let rest = above_none p rows n all.1 in
    let high = all.0 in
    ⊎_elim
    (λ sure. ap (λ (l : List RowRef). has l n) (filter_kept p row rows sure) ∙ has_miss row.0 (refs (filter p rows)) n (λ same. omega (arith, same, high)) ∙ rest)
    (λ off. ap (λ (l : List RowRef). has l n) (filter_left p row rows off) ∙ rest)
    (decide (p row))

number_above : {V : Type 0} (rows : List (RowRef × V)) (n : ℕ) (row : (RowRef × V)) → AllByRecursion (λ other. n < other.number) (refs rows) → In row rows → n < row.0.number
number_above [] n row all there = absurd there
number_above (r ∷ rows) n row all (inl e) = subst (λ (x : (RowRef × _)). n < x.0.number) e all.0
number_above (r ∷ rows) n row all (inr h) = number_above rows n row all.1 h

-- a row stands in a filter where it passes
has_filter : {V : Type 0} (p : (RowRef × V) → Bool) (rows : List (RowRef × V)) (row : (RowRef × V)) → IsRising (refs rows) → In row rows → has (refs (filter p rows)) row.0.number ≡ p row
has_filter p [] row rising there = absurd there
has_filter p (r ∷ rows) row rising (inl e) =
    subst (λ (x : (RowRef × _)). has (refs (filter p (r ∷ rows))) x.0.number ≡ p x) e
    (⊎_elim
    (λ sure. ap (λ (l : List RowRef). has l r.0.number) (filter_kept p r rows sure) ∙ has_hit r.0 (refs (filter p rows)) r.0.number refl ∙ sym sure)
    (λ off. ap (λ (l : List RowRef). has l r.0.number) (filter_left p r rows off) ∙ above_none p rows r.0.number rising.0 ∙ sym off)
    (decide (p r)))
has_filter p (r ∷ rows) row rising (inr h) =
    let high = number_above rows r.0.number row rising.0 h in
    let rest = has_filter p rows row rising.1 h in
    ⊎_elim
    (λ sure. ap (λ (l : List RowRef). has l row.0.number) (filter_kept p r rows sure) ∙ has_miss r.0 (refs (filter p rows)) row.0.number (λ same. omega (arith, same, high)) ∙ rest)
    (λ off. ap (λ (l : List RowRef). has l row.0.number) (filter_left p r rows off) ∙ rest)
    (decide (p r))

all_filtered : {V : Type 0} (Q : RowRef → Type 0) (p : (RowRef × V) → Bool) (rows : List (RowRef × V)) → AllByRecursion Q (refs rows) → AllByRecursion Q (refs (filter p rows))
all_filtered Q p [] all = tt
all_filtered Q p (row ∷ rows) all =
    let rest = all_filtered Q p rows all.1 in
    ⊎_elim
    (λ sure. subst (λ (l : List RowRef). AllByRecursion Q l) (sym (filter_kept p row rows sure)) (all.0, rest))
    (λ off. subst (λ (l : List RowRef). AllByRecursion Q l) (sym (filter_left p row rows off)) rest)
    (decide (p row))

-- rows in order with the numbers of those that pass are these
above_not : (xs : List RowRef) (n : ℕ) → AllByRecursion (λ other. n < other.number) xs → HasNumber xs n → ⊥
above_not [] n all there = there
above_not (x ∷ xs) n all (inl e) = let high = all.0 in omega (arith, e, high)
above_not (x ∷ xs) n all (inr h) = above_not xs n all.1 h

in_number : {V : Type 0} (rows : List (RowRef × V)) (n : ℕ) (x : RowRef) → AllByRecursion (λ other. n < other.number) (refs rows) → In x (refs rows) → n < x.number
in_number rows n x all there = all_in (λ (other : RowRef). n < other.number) (refs rows) x all there

has_number : (xs : List RowRef) (x : RowRef) → In x xs → HasNumber xs x.number
has_number [] x there = absurd there
has_number (y ∷ ys) x (inl e) = inl (ap (λ (r : RowRef). r.number) e)
has_number (y ∷ ys) x (inr h) = inr (has_number ys x h)

-- those that aren't the first row stand behind it
behind : {V : Type 0} (a : RowRef) (rows : List (RowRef × V)) (xs : List RowRef) → (HasNumber xs a.number → ⊥) → AllByRecursion (λ x. In x (a ∷ refs rows)) xs → AllByRecursion (λ x. In x (refs rows)) xs
behind a rows [] none all = tt
behind a rows (x ∷ xs) none all = (
  ⊎_elim (λ e. absurd (none (inl (ap (λ (r : RowRef). r.number) (sym e))))) (λ h. h) all.0,
  behind a rows xs (λ h. none (inr h)) all.1,
)

pub rising_filter : {V : Type 0} (all : List (RowRef × V)) (p : (RowRef × V) → Bool) (xs : List RowRef) → IsRising (refs all) → IsRising xs → AllByRecursion (λ x. In x (refs all)) xs
    → ((row : (RowRef × _)) → In row all → (HasNumber xs row.0.number → p row ≡ true) × (p row ≡ true → HasNumber xs row.0.number)) → xs ≡ refs (filter p all)
rising_filter [] p [] rising up among tells = refl
rising_filter [] p (x ∷ xs) rising up among tells = absurd among.0
rising_filter (a ∷ all) p [] rising up among tells =
    let off : p a ≡ false = ⊎_elim (λ sure. absurd ((tells a (inl refl)).1 sure)) (λ off. off) (decide (p a)) in
    rising_filter all p [] rising.1 tt tt (λ row h. tells row (inr h)) ∙ sym (filter_left p a all off)
rising_filter (a ∷ all) p (x ∷ xs) rising up among tells =
    ⊎_elim
    (λ e.
    let at : a.0.number ≡ x.number = ap (λ (r : RowRef). r.number) e in
    let sure : p a ≡ true = (tells a (inl refl)).0 (inl (sym at)) in
    let rest = rising_filter all p xs rising.1 up.1
    (behind a.0 all xs (λ h. above_not xs x.number up.0 (subst (λ (n : ℕ). HasNumber xs n) at h)) among.1)
    (λ row h. (
      λ there. (tells row (inr h)).0 (inr there),
      λ passes. ⊎_elim (λ same. absurd (let high = number_above all a.0.number row rising.0 h in omega (arith, same, at, high))) (λ there. there) ((tells row (inr h)).1 passes),
    )) in
    ap (λ (r : RowRef). r ∷ xs) (sym e) ∙ ap (λ (l : List RowRef). a.0 ∷ l) rest ∙ sym (filter_kept p a all sure))
    (λ h.
    let high = in_number all a.0.number x rising.0 h in
    let none : HasNumber (x ∷ xs) a.0.number → ⊥ = λ there.
    ⊎_elim (λ same. let never : ⊥ = omega (arith, same, high) in never)
    (λ more. above_not xs a.0.number (lower xs a.0.number x.number high up.0) more) there in
    let off : p a ≡ false = ⊎_elim (λ sure. absurd (none ((tells a (inl refl)).1 sure))) (λ off. off) (decide (p a)) in
    rising_filter all p (x ∷ xs) rising.1 up (behind a.0 all (x ∷ xs) none among) (λ row k. tells row (inr k)) ∙ sym (filter_left p a all off))
    among.0
  where
    lower : (ys : List RowRef) (m n : ℕ) → m < n → AllByRecursion (λ other. n < other.number) ys → AllByRecursion (λ other. m < other.number) ys
    lower [] m n low all = tt
    lower (y ∷ ys) m n low all = ((let h = all.0 in omega (arith, low, h)), lower ys m n low all.1)

-- keys of items
among_keys : (item : List ℕ) (items : List (List ℕ)) → is_among (map (λ i. 1 ∷ i) items) (item_key item) ≡ is_among items item
among_keys item [] = refl
among_keys item (i ∷ items) = ap (λ (b : Bool). bytes_eq i item || b) (among_keys item items)

pub among_item : (items : List (List ℕ)) (item : List ℕ) → is_among (keys_of items) (item_key item) ≡ is_among items item
among_item [] item = refl
among_item (i ∷ items) item = among_keys item (i ∷ items)

never_place : (items : List (List ℕ)) → is_among (map (λ i. 1 ∷ i) items) placeholder ≡ false
never_place [] = refl
never_place (i ∷ items) = never_place items

pub among_place : (items : List (List ℕ)) → is_among (keys_of items) placeholder ≡ has_none items
among_place [] = refl
among_place (i ∷ items) = never_place (i ∷ items)

-- some key of a value
record Keyed (keys : List (List ℕ)) : Type 0 where
  pub key : List ℕ
  pub is : is_among keys key ≡ true

first_among : (key : List ℕ) (keys : List (List ℕ)) → is_among (key ∷ keys) key ≡ true
first_among key keys = rw (bytes_same key key refl) refl

keyed : (items : List (List ℕ)) → Keyed (keys_of items)
keyed [] = record { key = placeholder; is = refl }
keyed (item ∷ items) = record { key = 1 ∷ item; is = first_among (1 ∷ item) (map (λ i. 1 ∷ i) items) }

-- the rows of all keys
under_all : (lists : Lists) (key : List ℕ) (n : ℕ) → has (rows_under lists key) n ≡ true → has (all_rows lists) n ≡ true
under_all [] key n there = there
under_all (list ∷ lists) key n there =
    list_any-append (λ (row : RowRef). row.number == n) list.1 (all_rows lists)
    ∙ ⊎_elim
    (λ same. ap (λ (b : Bool). b || has (all_rows lists) n) (ap (λ (l : List RowRef). has l n) (sym (under_same list lists key same.0)) ∙ there))
    (λ other. ap (λ (b : Bool). has list.1 n || b) (under_all lists key n (ap (λ (l : List RowRef). has l n) (sym (under_other list lists key other.0)) ∙ there)) ∙ or_true (has list.1 n))
    (bytes_tell list.0 key)
  where
    or_true : (b : Bool) → (b || true) ≡ true
    or_true true = refl
    or_true false = refl

-- keys that rise
keys_behind : (key : List ℕ) (lists : Lists) → AreRisingKeys (key ∷ map (λ list. list.0) lists) → AllByRecursion (λ list. IsBefore key list.0) lists
keys_behind key [] rising = tt
keys_behind key (list ∷ lists) rising = (rising.0, farther key list.0 lists rising.0 (keys_behind list.0 lists rising.1))
  where
    farther : (key mid : List ℕ) (lists : Lists) → IsBefore key mid → AllByRecursion (λ list. IsBefore mid list.0) lists → AllByRecursion (λ list. IsBefore key list.0) lists
    farther key mid [] before all = tt
    farther key mid (list ∷ lists) before all = (before_on key mid list.0 before all.0, farther key mid lists before all.1)

behind_none : (key : List ℕ) (lists : Lists) → AllByRecursion (λ list. IsBefore key list.0) lists → rows_under lists key ≡ []
behind_none key [] all = refl
behind_none key (list ∷ lists) all =
    ⊎_elim (λ same. absurd (before_differs key list.0 all.0 (sym same.1))) (λ other. under_other list lists key other.0 ∙ behind_none key lists all.1) (bytes_tell list.0 key)

tail_keys : (key : List ℕ) (keys : List (List ℕ)) → AreRisingKeys (key ∷ keys) → AreRisingKeys keys
tail_keys key [] rising = tt
tail_keys key (k ∷ keys) rising = rising.1

all_under : (Q : RowRef → Type 0) (lists : Lists) → AreRisingKeys (map (λ list. list.0) lists) → ((key : List ℕ) → AllByRecursion Q (rows_under lists key)) → AllByRecursion Q (all_rows lists)
all_under Q [] rising each = tt
all_under Q (list ∷ lists) rising each =
    let first = subst (λ (l : List RowRef). AllByRecursion Q l) (under_same list lists list.0 (bytes_same list.0 list.0 refl)) (each list.0) in
    let rest : AllByRecursion Q (all_rows lists) = all_under Q lists (tail_keys list.0 (map (λ l. l.0) lists) rising)
    (λ key.
    ⊎_elim
    (λ same. subst (λ (l : List RowRef). AllByRecursion Q l) (sym (ap (λ (k : List ℕ). rows_under lists k) (sym same.1) ∙ behind_none list.0 lists (keys_behind list.0 lists rising))) tt)
    (λ other. subst (λ (l : List RowRef). AllByRecursion Q l) (under_other list lists key other.0) (each key))
    (bytes_tell list.0 key)) in
    all_join Q list.1 (all_rows lists) first rest

-- an index of rows
module _ {V : Type 0} (items_of : V → List (List ℕ)) (lists : Lists) (rows : List (RowRef × V)) (index : IsIndexOf items_of lists rows) where
  -- whether the row is under a key
  under_has : (row : RowRef × V) (key : List ℕ) → In row rows → has (rows_under lists key) row.0.number ≡ is_among (keys_of (items_of row.1)) key
  under_has row key there = ap (λ (l : List RowRef). has l row.0.number) (index.under key) ∙ has_filter (λ r. is_among (keys_of (items_of r.1)) key) rows row index.rising there

  under_item : (row : RowRef × V) (item : List ℕ) → In row rows → has (rows_under lists (item_key item)) row.0.number ≡ is_among (items_of row.1) item
  under_item row item there = under_has row (item_key item) there ∙ among_item (items_of row.1) item

  marked : (row : RowRef × V) (wanted : List (List ℕ)) → In row rows → marks (lists_of lists wanted) row.0.number ≡ flags wanted (items_of row.1)
  marked row [] there = refl
  marked row (item ∷ wanted) there =
      ap (λ (b : Bool). b ∷ marks (lists_of lists wanted) row.0.number) (under_item row item there) ∙ ap (λ (l : List Bool). is_among (items_of row.1) item ∷ l) (marked row wanted there)

  joined_has : (row : RowRef × V) (wanted : List (List ℕ)) → In row rows → has (joined (lists_of lists wanted)) row.0.number ≡ list_any (is_among (items_of row.1)) wanted
  joined_has row [] there = refl
  joined_has row (item ∷ wanted) there =
      list_any-append (λ (r : RowRef). r.number == row.0.number) (rows_under lists (item_key item)) (joined (lists_of lists wanted))
      ∙ ap (λ (b : Bool). b || has (joined (lists_of lists wanted)) row.0.number) (under_item row item there)
      ∙ ap (λ (b : Bool). is_among (items_of row.1) item || b) (joined_has row wanted there)

  looked_has : (mode : Mode) (row : RowRef × V) (wanted : List (List ℕ)) → In row rows → has (looked_at lists mode (lists_of lists wanted)) row.0.number ≡ reaches mode wanted (items_of row.1)
  looked_has Default row wanted there = joined_has row wanted there
  looked_has IncludeEmpty row wanted there =
      list_any-append (λ (r : RowRef). r.number == row.0.number) (joined (lists_of lists wanted)) (rows_under lists placeholder)
      ∙ ap (λ (b : Bool). b || has (rows_under lists placeholder) row.0.number) (joined_has row wanted there)
      ∙ ap (λ (b : Bool). list_any (is_among (items_of row.1)) wanted || b) (under_has row placeholder there ∙ among_place (items_of row.1))
  looked_has All row wanted there =
      let some = keyed (items_of row.1) in
      under_all lists some.key row.0.number (under_has row some.key there ∙ some.is)

  -- only rows of the index are looked at
  under_among : (key : List ℕ) → AllByRecursion (λ x. In x (refs rows)) (rows_under lists key)
  under_among key =
      subst (λ (l : List RowRef). AllByRecursion (λ (x : RowRef). In x (refs rows)) l) (sym (index.under key))
      (all_filtered (λ (x : RowRef). In x (refs rows)) (λ r. is_among (keys_of (items_of r.1)) key) rows (in_all (λ (x : RowRef). In x (refs rows)) (refs rows) (λ x h. h)))

  joined_among : (wanted : List (List ℕ)) → AllByRecursion (λ x. In x (refs rows)) (joined (lists_of lists wanted))
  joined_among [] = tt
  joined_among (item ∷ wanted) = all_join (λ (x : RowRef). In x (refs rows)) (rows_under lists (item_key item)) (joined (lists_of lists wanted)) (under_among (item_key item)) (joined_among wanted)

  looked_among : (mode : Mode) (wanted : List (List ℕ)) → AllByRecursion (λ x. In x (refs rows)) (looked_at lists mode (lists_of lists wanted))
  looked_among Default wanted = joined_among wanted
  looked_among IncludeEmpty wanted = all_join (λ (x : RowRef). In x (refs rows)) (joined (lists_of lists wanted)) (rows_under lists placeholder) (joined_among wanted) (under_among placeholder)
  looked_among All wanted = all_under (λ (x : RowRef). In x (refs rows)) lists index.keys under_among

  module _ (mode : Mode) (wanted : List (List ℕ)) (passes : List Bool → Test) where
    abbrev reached : RowRef × V → Bool
    reached row = reaches mode wanted (items_of row.1)

    abbrev kept : RowRef × V → Bool
    kept row = reaches mode wanted (items_of row.1) && isnt_no (passes (flags wanted (items_of row.1)))

    pass_some : (some : List (RowRef × V)) → ((row : RowRef × V) → In row some → In row rows) → picked passes (lists_of lists wanted) (refs (filter reached some)) ≡ refs (filter kept some)
    pass_some [] among = refl
    pass_some (row ∷ some) among =
        let rest = pass_some some (λ r h. among r (inr h)) in
        let mark = marked row wanted (among row (inl refl)) in
        let test : isnt_no (passes (marks (lists_of lists wanted) row.0.number)) ≡ isnt_no (passes (flags wanted (items_of row.1))) = ap (λ (l : List Bool). isnt_no (passes l)) mark in
        ⊎_elim
        (λ sure.
        ap (λ (l : List RowRef). picked passes (lists_of lists wanted) l) (filter_kept reached row some sure)
        ∙ ap (λ (b : Bool). cond b (row.0 ∷ picked passes (lists_of lists wanted) (refs (filter reached some))) (picked passes (lists_of lists wanted) (refs (filter reached some)))) test
        ∙ ap (λ (l : List RowRef). cond (isnt_no (passes (flags wanted (items_of row.1)))) (row.0 ∷ l) l) rest
        ∙ sym (refs_cond kept row some ∙ ap (λ (b : Bool). cond (b && isnt_no (passes (flags wanted (items_of row.1)))) (row.0 ∷ refs (filter kept some)) (refs (filter kept some))) sure))
        (λ off.
        ap (λ (l : List RowRef). picked passes (lists_of lists wanted) l) (filter_left reached row some off) ∙ rest
        ∙ sym (filter_left kept row some (ap (λ (b : Bool). b && isnt_no (passes (flags wanted (items_of row.1)))) off)))
        (decide (reached row))
      where
        refs_cond : (p : RowRef × V → Bool) (row : RowRef × V) (some : List (RowRef × V)) → refs (filter p (row ∷ some)) ≡ cond (p row) (row.0 ∷ refs (filter p some)) (refs (filter p some))
        refs_cond p row some = ⊎_elim (λ sure. filter_kept p row some sure ∙ sym (ap (λ (b : Bool). cond b (row.0 ∷ refs (filter p some)) (refs (filter p some))) sure))
            (λ off. filter_left p row some off ∙ sym (ap (λ (b : Bool). cond b (row.0 ∷ refs (filter p some)) (refs (filter p some))) off)) (decide (p row))

    pub found_by_lists : (reach : List RowRef) → IsRising reach → ((n : ℕ) → HasNumber reach n ↔ HasNumber (looked_at lists mode (lists_of lists wanted)) n)
        → ((row : RowRef) → Contains reach row → Contains (looked_at lists mode (lists_of lists wanted)) row)
        → picked passes (lists_of lists wanted) reach ≡ found items_of mode wanted passes rows
    found_by_lists reach rising numbers among =
        let looked = looked_at lists mode (lists_of lists wanted) in
        let are : reach ≡ refs (filter reached rows) =
        rising_filter rows reached reach index.rising rising
        (in_all (λ (x : RowRef). In x (refs rows)) reach (λ x h. all_contains (λ (y : RowRef). In y (refs rows)) looked x (looked_among mode wanted) (among x (contains_in reach x h))))
        (λ row h.
        let tells = has_tells looked row.0.number in
        let same = looked_has mode row wanted h in (
          λ there. sym same ∙ tells.1 ((numbers row.0.number).0 there),
          λ passed. (numbers row.0.number).1 (tells.0 (same ∙ passed)),
        )) in
        ap (λ (l : List RowRef). picked passes (lists_of lists wanted) l) are ∙ pass_some rows (λ row h. h)

  -- from what the calls of a search give
  pub search_finds : (mode other : Mode) (wanted items : List (List ℕ)) (passes : List Bool → Test) (one two : List (List RowRef)) (looked reach result : List RowRef) → other ≡ mode → items ≡ wanted
      → one ≡ lists_of lists items → two ≡ lists_of lists items → looked ≡ looked_at lists other one → IsRising reach → ((n : ℕ) → HasNumber reach n ↔ HasNumber looked n)
      → ((row : RowRef) → Contains reach row → Contains looked row) → result ≡ picked passes two reach → result ≡ found items_of mode wanted passes rows
  search_finds mode other wanted items passes one two looked reach result mode_is items_is one_is two_is looked_is rising numbers among result_is =
      let look : looked ≡ looked_at lists mode (lists_of lists wanted) =
      looked_is ∙ ap (λ (m : Mode). looked_at lists m one) mode_is ∙ ap (λ (l : List (List RowRef)). looked_at lists mode l) (one_is ∙ ap (λ (l : List (List ℕ)). lists_of lists l) items_is) in
      result_is ∙ ap (λ (l : List (List RowRef)). picked passes l reach) (two_is ∙ ap (λ (l : List (List ℕ)). lists_of lists l) items_is)
      ∙ found_by_lists mode wanted passes reach rising (λ n. subst (λ (l : List RowRef). HasNumber reach n ↔ HasNumber l n) look (numbers n)) (λ row h. subst (λ (l : List RowRef). Contains l row) look (among row h))

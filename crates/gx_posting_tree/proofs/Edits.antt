-- A page of level 0 with one more row.
use Rattle.std.proofs.Common.{◌≡◌, ℕ, zero, suc, ◌+◌, ◌-◌, ◌^◌, ◌<◌, ◌≤◌, List, [], ◌∷◌, ◌++◌, length, take, drop, slice_get, Option, Some, None, refl, sym, ◌∙◌, ap, subst, append_assoc, append-nil, length-append, arith}
use Rattle.std.specs.Prelude.{IfNone, IfSome}
use Rattle.std.specs.List.{AllByRecursion}
use Rattle.std.proofs.lemmas.List.{drop_all, take_all}
use Rattle.gx_bytes.specs.Fields.{le64, of64, of64-le64}
use Rattle.gx_pages.specs.declared.row.RowRef.{RowRef}
use Rattle.gx_pages.specs.Rows.{AreBelow}
use Rattle.gx_pages.proofs.Footprints as feet
use Rattle.gx_pages.proofs.Rising.{rising_push}
use Rattle.gx_bytes.specs.Varints.{varint_bytes}
use Rattle.gx_bytes.proofs.Spellings.{varint_is, varint_short}
use Rattle.gx_posting.specs.Postings.{Fits, Spells, entries_bytes, last_of}
use Rattle.gx_posting.proofs.PostingFacts.{one_spelled}
use Rattle.gx_tree.specs.Orders.{IsFrom, IsUnder}
use Rattle.gx_tree.specs.Paging.{replaced}
use Rattle.gx_tree.proofs.Weights.{more_at}
use Rattle.gx_posting_tree.specs.PostingTrees.{Allows, Appends, AreSpelled, HaveRows, IsFromKey, IsUnderKey, by_number}
use Rattle.gx_posting_tree.proofs.Appended.{allowed_below}
use Rattle.gx_posting_tree.specs.Numbers.{to_key}
use Rattle.gx_posting_tree.specs.Spelled.{spelled_join, spelled_split}

under_key : (end : Option (List ℕ)) (row : RowRef) → row.number < 2 ^ 64 → IsUnder by_number end (le64 row.number) → IsUnderKey end row
under_key None row fits under = tt
under_key (Some key) row fits under = let e = of64-le64 row.number fits in let f : of64 (le64 row.number) < of64 key = under in omega (arith, e, f)

one_list : (item : List ℕ) (list : List RowRef) → Spells item list → 0 < length list → length item ≤ 512 → AreSpelled (item ∷ []) list
one_list item list spells some short = (list, [], sym (append-nil list), some, short, spells, refl)

module _ (row : RowRef) (fits : row.number < 2 ^ 64) (least end : Option (List ℕ)) (items : List (List ℕ)) (have : HaveRows least end items) (allowed : AllByRecursion (Allows row) items)
    (from : IsFrom by_number least (le64 row.number)) (under : IsUnder by_number end (le64 row.number)) where
  more : (later : List (List ℕ)) → AreSpelled later (have.rows ++ row ∷ []) → HaveRows least end later
  more later spelled = record {
    rows = have.rows ++ row ∷ [];
    spelled = spelled;
    rising = rising_push have.rows row have.rising (allowed_below row items have.rows have.spelled allowed);
    from = feet.all_join (IsFromKey least) have.rows (row ∷ []) have.from (to_key least row fits from, tt);
    under = feet.all_join (IsUnderKey end) have.rows (row ∷ []) have.under (under_key end row fits under, tt);
  }

  abbrev Edits : ℕ → ℕ → List ℕ → Type 0
  Edits place behind item =
      (place ≤ behind) × (behind ≤ place + 1) × (behind ≤ length items) × HaveRows least end (replaced items place behind (item ∷ [])) × Appends row items (replaced items place behind (item ∷ []))

  -- a new list
  pub edit_new : (count : ℕ) (item : List ℕ) → count ≡ length items → Spells item (row ∷ []) → length item ≤ 512
      → (count ≤ count) × (count ≤ count + 1) × (count ≤ length items) × HaveRows least end (replaced items count count (item ∷ [])) × Appends row items (replaced items count count (item ∷ []))
  edit_new count item many spells short =
      let whole : replaced items count count (item ∷ []) ≡ items ++ item ∷ [] =
      ap (λ (l : List (List ℕ)). (l ++ item ∷ []) ++ drop count items) (take_all count items (omega (arith, many))) ∙ ap (λ (l : List (List ℕ)). (items ++ item ∷ []) ++ l) (drop_all count items (omega (arith, many)))
      ∙ append-nil (items ++ item ∷ []) in
      let appends : Appends row items (replaced items count count (item ∷ [])) = λ rows are.
      subst (λ (l : List (List ℕ)). AreSpelled l (rows ++ row ∷ [])) (sym whole) (spelled_join items (item ∷ []) rows (row ∷ []) are (one_list item (row ∷ []) spells (omega arith) short)) in
      (omega arith, omega arith, omega (arith, many), more (replaced items count count (item ∷ [])) (appends have.rows have.spelled), appends)

  -- the last list with one row more
  pub edit_longer : (place count : ℕ) (list item : List ℕ) → place + 1 ≡ count → count ≡ length items → slice_get items place ≡ Some list → ((rows : List RowRef) → Spells list rows → Spells item (rows ++ row ∷ [])) → length item ≤ 512
      → (place ≤ count) × (count ≤ place + 1) × (count ≤ length items) × HaveRows least end (replaced items place count (item ∷ [])) × Appends row items (replaced items place count (item ∷ []))
  edit_longer place count list item last many at longer short =
      let cut : items ≡ take place items ++ list ∷ [] = sym (take_all (place + 1) items (omega (arith, last, many))) ∙ more_at items place list at in
      let whole : replaced items place count (item ∷ []) ≡ take place items ++ item ∷ [] =
      ap (λ (l : List (List ℕ)). (take place items ++ item ∷ []) ++ l) (drop_all count items (omega (arith, many))) ∙ append-nil (take place items ++ item ∷ []) in
      let appends : Appends row items (replaced items place count (item ∷ [])) = λ rows are.
      (let parts = spelled_split (take place items) (list ∷ []) rows (subst (λ (l : List (List ℕ)). AreSpelled l rows) cut are) in
      let old : parts.right ≡ parts.behind.0 = parts.behind.2 ∙ ap (λ (l : List RowRef). parts.behind.0 ++ l) parts.behind.6 ∙ append-nil parts.behind.0 in
      let same : rows ++ row ∷ [] ≡ parts.left ++ (parts.behind.0 ++ row ∷ []) =
      ap (λ (l : List RowRef). l ++ row ∷ []) (parts.cut ∙ ap (λ (l : List RowRef). parts.left ++ l) old) ∙ append_assoc parts.left parts.behind.0 (row ∷ []) in
      subst (λ (l : List (List ℕ)). AreSpelled l (rows ++ row ∷ [])) (sym whole)
      (subst (λ (l : List RowRef). AreSpelled (take place items ++ item ∷ []) l) (sym same)
      (spelled_join (take place items) (item ∷ []) parts.left (parts.behind.0 ++ row ∷ []) parts.before
      (one_list item (parts.behind.0 ++ row ∷ []) (longer parts.behind.0 parts.behind.5) (let n = length-append parts.behind.0 (row ∷ []) in omega (arith, n)) short)))) in
      (omega (arith, last), omega (arith, last), omega (arith, many), more (replaced items place count (item ∷ [])) (appends have.rows have.spelled), appends)

-- the last row is below another where all are
pub last_low : (rows : List RowRef) (last : RowRef) (number : ℕ) → last_of rows ≡ Some last → AreBelow rows number → last.number < number
last_low [] last number is below = absurd (let e : None ≡ Some last = is in cc)
last_low (row ∷ []) last number is below = let e : Some row ≡ Some last = is in let f : row ≡ last = cc in subst (λ (r : RowRef). r.number < number) f below.0
last_low (row ∷ other ∷ rows) last number is below = last_low (other ∷ rows) last number is below.1

-- no bytes spell no rows
pub empty_spells : Spells [] []
empty_spells = record { fit = tt; rise = tt; are = refl }

-- the bytes of a row alone
pub row_short : (row : RowRef) → Fits row → (bytes : List ℕ) → bytes ≡ [] ++ (varint_bytes (row.number - 0) ++ varint_bytes row.page ++ varint_bytes row.slot) → length bytes ≤ 512
row_short row fits bytes is =
    let a = varint_short (row.number - 0) (varint_bytes (row.number - 0)) (let f = fits.0 in omega (arith, f)) (varint_is (row.number - 0)) in
    let b = varint_short row.page (varint_bytes row.page) fits.1 (varint_is row.page) in
    let d = varint_short row.slot (varint_bytes row.slot) (let f = fits.2 in omega (arith, f)) (varint_is row.slot) in
    let e = ap (λ (l : List ℕ). length l) is in
    omega (
      arith,
      a,
      b,
      d,
      e,
      length-append (varint_bytes (row.number - 0) ++ varint_bytes row.page) (varint_bytes row.slot),
      length-append (varint_bytes (row.number - 0)) (varint_bytes row.page),
    )

-- the last row that was read
pub found_last : (list : List ℕ) (last : RowRef) → (rows : List RowRef) × Spells list rows × (last_of rows ≡ Some last) → (others : List RowRef) → Spells list others → last_of others ≡ Some last
found_last list last found others same = ap (λ (l : List RowRef). last_of l) (one_spelled list others found.0 same found.1) ∙ found.2

-- a list among others begins with the number of its first row
pub record Begin (item : List ℕ) : Type 0 where
  pub row : RowRef
  pub rows : List RowRef
  pub spells : Spells item (row ∷ rows)
  pub fits : row.number < 2 ^ 64
  pub rest : List ℕ
  pub is : item ≡ varint_bytes row.number ++ rest

begin_list : (item : List ℕ) (list : List RowRef) → Spells item list → 0 < length list → Begin item
begin_list item [] spells some = absurd (omega (arith, some))
begin_list item (row ∷ rows) spells some = record {
  row = row;
  rows = rows;
  spells = spells;
  fits = spells.fit.0.0;
  rest = (varint_bytes row.page ++ varint_bytes row.slot) ++ entries_bytes row.number rows;
  is = spells.are ∙ ap (λ (n : ℕ). varint_bytes n ++ varint_bytes row.page ++ varint_bytes row.slot ++ entries_bytes row.number rows) (let e : row.number - 0 ≡ row.number = omega arith in e)
      ∙ regroup (varint_bytes row.number) (varint_bytes row.page) (varint_bytes row.slot) (entries_bytes row.number rows);
}
  where
    regroup : (a b c d : List ℕ) → a ++ b ++ c ++ d ≡ a ++ ((b ++ c) ++ d)
    regroup a b c d = simp append_assoc

pub begin_item : (least end : Option (List ℕ)) (front back : List (List ℕ)) (item : List ℕ) → HaveRows least end (front ++ item ∷ back) → Begin item
begin_item least end front back item have =
    let parts = spelled_split front (item ∷ back) have.rows have.spelled in
    begin_list item parts.behind.0 parts.behind.5 parts.behind.3

pub if_some : {X : Type 0} (o : Option X) (x : X) (F : X → Type 0) → o ≡ Some x → IfSome o F → F x
if_some {X} o x F is has = subst (λ (y : Option X). IfSome y F) is has

pub if_none : {X : Type 0} (o : Option X) (F : Type 0) → o ≡ None → IfNone o F → F
if_none {X} o F is has = subst (λ (y : Option X). IfNone y F) is has

-- a list at a place
pub list_at : (items : List (List ℕ)) (rows : List RowRef) (place : ℕ) (list : List ℕ) → AreSpelled items rows → slice_get items place ≡ Some list → (its : List RowRef) × Spells list its × (0 < length its)
list_at [] rows zero list are is = absurd (let e : None ≡ Some list = is in cc)
list_at [] rows (suc place) list are is = absurd (let e : None ≡ Some list = is in cc)
list_at (item ∷ items) rows zero list are is = let e : Some item ≡ Some list = is in let f : item ≡ list = cc in (are.0, subst (λ (l : List ℕ). Spells l are.0) f are.5, are.3)
list_at (item ∷ items) rows (suc place) list are is = list_at items are.1 place list are.6 is

pub allows_at : (row : RowRef) (items : List (List ℕ)) (place : ℕ) (list : List ℕ) → AllByRecursion (Allows row) items → slice_get items place ≡ Some list → Allows row list
allows_at row [] zero list all is = absurd (let e : None ≡ Some list = is in cc)
allows_at row [] (suc place) list all is = absurd (let e : None ≡ Some list = is in cc)
allows_at row (item ∷ items) zero list all is = let e : Some item ≡ Some list = is in let f : item ≡ list = cc in subst (λ (l : List ℕ). Allows row l) f all.0
allows_at row (item ∷ items) (suc place) list all is = allows_at row items place list all.1 is

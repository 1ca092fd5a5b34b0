-- The items of pages, read from their bytes.
use Rattle.std.proofs.Common.{◌≡◌, ℕ, ◌+◌, ◌^◌, ◌<◌, ◌≤◌, true, false, List, [], ◌∷◌, ◌++◌, length, map, take, drop, filter, Option, Some, None, if◌then◌else◌, refl, sym, ◌∙◌, ap, append_assoc, arith}
use Rattle.std.specs.Prelude.{MatchOption, IfSome}
use Rattle.std.specs.Option.{option_map}
use Rattle.std.specs.List.{filter_map}
use Rattle.gx_bytes.specs.Fields.{le16, le64, le16-same, le64-same}
use Rattle.gx_pages.specs.declared.row.RowRef.{RowRef}
use Rattle.gx_gist.specs.Spelled.{SpellsNone, IsAnswerOf}
use Rattle.gx_gist.specs.declared.test.Test.{Test}
use Rattle.gx_slot.specs.Slots.{item_at}
use Rattle.gx_gist_tree.specs.Trees.{Entry, passes}
use Rattle.gx_gist_tree.specs.OnPages.{FitsFields, leaf_item, inner_item}
use Rattle.gx_gist_tree.proofs.Places.{At}

-- the answer for bytes that a valid key has
pub answered : {K A : Type 0} (valid : K → Type 0) (spelling : K → List ℕ) → ((a b : K) → valid a → valid b → spelling a ≡ spelling b → a ≡ b)
    → (answer_for : K → A) (bytes : List ℕ) (found : Option A) → MatchOption found (SpellsNone valid spelling bytes) (IsAnswerOf valid spelling bytes answer_for)
    → (key : K) → valid key → bytes ≡ spelling key → found ≡ Some (answer_for key)
answered valid spelling one answer_for bytes None none key v is = absurd (none key v is)
answered valid spelling one answer_for bytes (Some a) has key v is =
    ap (λ x. Some x) (has.2 ∙ ap answer_for (one has.0 key has.1.0 v (sym has.1.1 ∙ is)))

pub inner_long : {K : Type 0} (bytes : K → List ℕ) (child : ℕ) (key : K) → 8 ≤ length (inner_item bytes child key)
unfolding le64
inner_long bytes child key = omega arith

pub inner_page : {K : Type 0} (bytes : K → List ℕ) (child : ℕ) (key : K) → take 8 (inner_item bytes child key) ≡ le64 child
unfolding le64
inner_page bytes child key = refl

pub inner_key : {K : Type 0} (bytes : K → List ℕ) (child : ℕ) (key : K) → drop 8 (inner_item bytes child key) ≡ bytes key
unfolding le64
inner_key bytes child key = refl

pub leaf_long : {K : Type 0} (bytes : K → List ℕ) (e : Entry K) → 18 ≤ length (leaf_item bytes e)
unfolding le64 le16
leaf_long bytes e = omega arith

pub leaf_number : {K : Type 0} (bytes : K → List ℕ) (e : Entry K) → take 8 (leaf_item bytes e) ≡ le64 e.0.number
unfolding le64 le16
leaf_number bytes e = refl

pub leaf_page : {K : Type 0} (bytes : K → List ℕ) (e : Entry K) → take 8 (drop 8 (leaf_item bytes e)) ≡ le64 e.0.page
unfolding le64 le16
leaf_page bytes e = refl

pub leaf_slot : {K : Type 0} (bytes : K → List ℕ) (e : Entry K) → take 2 (drop 16 (leaf_item bytes e)) ≡ le16 e.0.slot
unfolding le64 le16
leaf_slot bytes e = refl

pub leaf_key : {K : Type 0} (bytes : K → List ℕ) (e : Entry K) → drop 18 (leaf_item bytes e) ≡ bytes e.1
unfolding le64 le16
leaf_key bytes e = refl

-- the page below, and the row, that were read
pub one_child : {K : Type 0} (bytes : K → List ℕ) (item : List ℕ) (read child : ℕ) (key : K) → read < 2 ^ 64 → child < 2 ^ 64 → item ≡ inner_item bytes child key → take 8 item ≡ le64 read → read ≡ child
one_child bytes item read child key small fits is field = le64-same read child small fits (sym field ∙ ap (λ (l : List ℕ). take 8 l) is ∙ inner_page bytes child key)

pub one_row : {K : Type 0} (bytes : K → List ℕ) (item : List ℕ) (row : RowRef) (e : Entry K) → FitsFields row → FitsFields e.0 → item ≡ leaf_item bytes e
    → take 8 item ≡ le64 row.number → take 8 (drop 8 item) ≡ le64 row.page → take 2 (drop 16 item) ≡ le16 row.slot → row ≡ e.0
one_row bytes item row e small fits is number page slot =
    let n : row.number ≡ e.0.number = le64-same row.number e.0.number small.0 fits.0 (sym number ∙ ap (λ (l : List ℕ). take 8 l) is ∙ leaf_number bytes e) in
    let p : row.page ≡ e.0.page = le64-same row.page e.0.page small.1 fits.1 (sym page ∙ ap (λ (l : List ℕ). take 8 (drop 8 l)) is ∙ leaf_page bytes e) in
    let s : row.slot ≡ e.0.slot = le16-same row.slot e.0.slot small.2 fits.2 (sym slot ∙ ap (λ (l : List ℕ). take 2 (drop 16 l)) is ∙ leaf_slot bytes e) in
    λ i. record { number = n i; page = p i; slot = s i }

-- what is where the test passes
pub then_some : {A : Type 0} (t : Test) (a b : A) → passes t ≡ true → a ≡ b → Some a ≡ (if passes t then Some b else None)
then_some t a b h same = rw h (ap (λ x. Some x) same)

pub then_none : {A : Type 0} (t : Test) (b : A) → passes t ≡ false → ◌≡◌ {A = Option A} None (if passes t then Some b else None)
then_none t b h = rw h refl

-- the row that a slot gives to a search
abbrev pub row_in : {K : Type 0} → (K → Test) → Option (Entry K) → Option RowRef
row_in test None = None
row_in test (Some e) = if passes (test e.1) then Some e.0 else None

abbrev pub listed : {X : Type 0} → Option X → List X
listed None = []
listed (Some x) = x ∷ []

abbrev pub rows_in : {K : Type 0} → (K → Test) → List (Option (Entry K)) → List RowRef
rows_in test entries = map (λ e. e.0) (filter (λ e. passes (test e.1)) (filter_map (λ slot. slot) entries))

one_row_in : {K : Type 0} (test : K → Test) (slot : Option (Entry K)) → rows_in test (slot ∷ []) ≡ listed (row_in test slot)
one_row_in test None = refl
one_row_in {K} test (Some e) = elim (passes (test e.1)) as (λ b. map (λ (x : Entry K). x.0) (if b then e ∷ [] else []) ≡ listed (if b then Some e.0 else None)) [ true ↦ refl | false ↦ refl ]

rows_in-append : {K : Type 0} (test : K → Test) (xs ys : List (Option (Entry K))) → rows_in test (xs ++ ys) ≡ rows_in test xs ++ rows_in test ys
rows_in-append test [] ys = refl
rows_in-append test (None ∷ xs) ys = rows_in-append test xs ys
rows_in-append {K} test (Some e ∷ xs) ys =
    let rest = rows_in-append test xs ys in
    elim (passes (test e.1)) as (λ b. map (λ (x : Entry K). x.0) (if b then e ∷ filter (λ x. passes (test x.1)) (filter_map (λ slot. slot) (xs ++ ys)) else filter (λ x. passes (test x.1)) (filter_map (λ slot. slot) (xs ++ ys)))
    ≡ map (λ (x : Entry K). x.0) (if b then e ∷ filter (λ x. passes (test x.1)) (filter_map (λ slot. slot) xs) else filter (λ x. passes (test x.1)) (filter_map (λ slot. slot) xs)) ++ rows_in test ys)
    [ true ↦ ap (λ (l : List RowRef). e.0 ∷ l) rest | false ↦ rest ]

-- one slot more
pub rows_more : {K : Type 0} (test : K → Test) (entries : List (Option (Entry K))) (k : ℕ) (a : At entries k) (base before later : List RowRef)
    → before ≡ base ++ rows_in test (take k entries) → later ≡ before ++ listed (row_in test a.item) → later ≡ base ++ rows_in test (take (k + 1) entries)
rows_more {K} test entries k a base before later was is =
    is ∙ ap (λ (l : List RowRef). l ++ listed (row_in test a.item)) was
    ∙ append_assoc base (rows_in test (take k entries)) (listed (row_in test a.item))
    ∙ ap (λ (l : List RowRef). base ++ l)
    (ap (λ (l : List RowRef). rows_in test (take k entries) ++ l) (sym (one_row_in test a.item))
    ∙ sym (rows_in-append test (take k entries) (a.item ∷ []))
    ∙ ap (λ (l : List (Option (Entry K))). rows_in test l) (sym a.more))

-- What a slot gives, by cases: a slot of a page of level 0 that was read.
pub gives : {K : Type 0} (bytes : K → List ℕ) (test : K → Test) (valid : K → Type 0) (items : List (Option (List ℕ))) (slot : ℕ) (is : Option (Entry K)) (row : Option RowRef)
    → IfSome is (λ e. valid e.1 × FitsFields e.0) → item_at items slot ≡ option_map (leaf_item bytes) is → (item_at items slot ≡ None → row ≡ None)
    → ((e : Entry K) → valid e.1 → FitsFields e.0 → item_at items slot ≡ Some (leaf_item bytes e) → row ≡ (if passes (test e.1) then Some e.0 else None))
    → row ≡ row_in test is
gives bytes test valid items slot None row has at none some = none at
gives bytes test valid items slot (Some e) row has at none some = some e has.0 has.1 at

-- no slot of such a page is refused
pub never : {K : Type 0} (bytes : K → List ℕ) (valid : K → Type 0) (items : List (Option (List ℕ))) (slot : ℕ) (is : Option (Entry K))
    → IfSome is (λ e. valid e.1 × FitsFields e.0) → item_at items slot ≡ option_map (leaf_item bytes) is → (item_at items slot ≡ None → ⊥)
    → ((e : Entry K) → valid e.1 → item_at items slot ≡ Some (leaf_item bytes e) → ⊥) → ⊥
never bytes valid items slot None has at none some = none at
never bytes valid items slot (Some e) has at none some = some e has.0 at

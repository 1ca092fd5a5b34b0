-- What an insert makes of a page, and of a tree.
use Rattle.std.specs.Prelude.{◌≡◌, ◌≢◌, ◌⊎◌, ℕ, zero, suc, ◌+◌, ◌<◌, ◌≤◌, List, [], ◌∷◌, ◌++◌, length, map, take, drop, get_or, Option, Some}
use Rattle.std.specs.List.{AllByRecursion, AllZip, filter_map, slice_get}
use Rattle.std.proofs.Common.{inl, inr}
use Rattle.gx_words.specs.PageMap.{PageMap}
use Rattle.gx_pages.specs.declared.row.RowRef.{RowRef}
use Rattle.gx_pages.specs.declared.store.Pages.{Ghosts as PageGhosts}
use Rattle.gx_pages.specs.Frees.{IsApart, IsFreeList}
use Rattle.gx_pages.specs.Footprints.{KeepsPages}
use Rattle.gx_slot.specs.Slots.{Slots, Fits, spelling, with_item, with_slot}
use Rattle.gx_gist.specs.Places.{IsRearrangement}
use Rattle.gx_gist.specs.declared.class.GistClass.{Ghosts}
use Rattle.gx_gist_tree.specs.declared.change.Change.{Change}
use Rattle.gx_gist_tree.specs.declared.change.Change.TheVariants.{Within, Split}
use Rattle.gx_gist_tree.specs.declared.change.Arranged.{Arranged}
use Rattle.gx_gist_tree.specs.declared.change.Arranged.TheVariants.{Same, Here, Halves}
use Rattle.gx_gist_tree.specs.Trees.{Node, Outcome, page_of, pages_of, items_above, united_from, IsUnited, Inserts, AreKept, HasTwoItems}
use Rattle.gx_gist_tree.specs.OnPages.{IsRead, Stands, inner_item, slots_of}

-- how many bytes of an item stand before its key
abbrev pub head_len : ℕ → ℕ
head_len zero = 18
head_len (suc level) = 8

-- The items have these keys behind so many bytes.
abbrev pub IsKeyOf : {K : Type 0} → (K → Type 0) → (K → List ℕ) → ℕ → List ℕ → K → Type 0
IsKeyOf valid bytes head item key = valid key × (head ≤ length item) × (drop head item ≡ bytes key)

abbrev pub AreKeys : {K : Type 0} → (K → Type 0) → (K → List ℕ) → ℕ → List (List ℕ) → List K → Type 0
AreKeys valid bytes head items keys = AllZip (IsKeyOf valid bytes head) items keys

-- the elements at these places
abbrev pub picked : {X : Type 0} → List X → List ℕ → List X
picked xs places = filter_map (λ place. slice_get xs place) places

-- The key is what uniting these keys one by one gives.
abbrev pub IsUnion : {K : Type 0} → (K → K → K) → List K → K → Type 0
IsUnion {K} union keys key = (first : K) × (others : List K) × (keys ≡ first ∷ others) × (key ≡ united_from union first others)

-- It is the first place of a least number.
pub record IsLeastPlace (numbers : List ℕ) (place : ℕ) : Type 0 where
  pub below : place < length numbers
  pub least : (k : ℕ) → k < length numbers → get_or numbers place 0 ≤ get_or numbers k 0
  pub first : (k : ℕ) → k < place → get_or numbers place 0 < get_or numbers k 0

-- the items of the slots that aren't empty; and those but the one of this slot
abbrev pub items_in : List (Option (List ℕ)) → List (List ℕ)
items_in slots = filter_map (λ slot. slot) slots

abbrev pub items_but : List (Option (List ℕ)) → ℕ → List (List ℕ)
items_but slots slot = items_in (take slot slots) ++ items_in (drop (slot + 1) slots)

-- a page of a level with these items
abbrev pub page_with : ℕ → List (List ℕ) → Slots
page_with level items = record { kind = 4; level = level; next = 0; items = map (λ item. Some item) items }

-- Items are shared between two pages, each of which has two at least: these slots, and those of another page. Each half has a key that
-- is what uniting the keys on it one by one gives.
pub record AreHalves {K : Type 0} (valid : K → Type 0) (union : K → K → K) (bytes : K → List ℕ) (level : ℕ) (items : List (List ℕ)) (slots other : Slots) (l r : K) : Type 0 where
  pub left : List ℕ
  pub right : List ℕ
  pub all : IsRearrangement (left ++ right) (length items)
  pub two_left : 2 ≤ length left
  pub two_right : 2 ≤ length right
  pub here : slots ≡ page_with level (picked items left)
  pub there : other ≡ page_with level (picked items right)
  pub keys : List K
  pub are : AreKeys valid bytes (head_len level) items keys
  pub left_union : IsUnion union (picked keys left) l
  pub right_union : IsUnion union (picked keys right) r

-- Items were laid out anew: in these slots, or on two pages.
abbrev pub IsLaid : {K : Type 0} → (K → Type 0) → (K → K → K) → (K → List ℕ) → ℕ → List (List ℕ) → Slots → Arranged K → Type 0
IsLaid valid union bytes level items slots Same = ⊥
IsLaid valid union bytes level items slots Here = slots ≡ page_with level items
IsLaid valid union bytes level items slots (Halves l other r) = AreHalves valid union bytes level items slots other.value l r

-- An item was added to the slots: behind the last one, or all were laid out anew.
abbrev pub IsAdded : {K : Type 0} → (K → Type 0) → (K → K → K) → (K → List ℕ) → Slots → List ℕ → Slots → Arranged K → Type 0
IsAdded valid union bytes old item new now =
    ((now ≡ Here) × (new ≡ with_item old (Some item))) ⊎ IsLaid valid union bytes old.level (items_in old.items ++ item ∷ []) new now

-- what stands in place of an item: a page with the united key, or both halves of the page
abbrev pub inner_items : {K : Type 0} → (K → List ℕ) → (child : ℕ) → (united : K) → Change K → List (List ℕ)
inner_items bytes child united Within = inner_item bytes child united ∷ []
inner_items bytes child united (Split l page r) = inner_item bytes child l ∷ inner_item bytes page r ∷ []

-- The item of a slot was replaced, where the page below was not split only if its key is another one united with the new one: in its
-- slot, or all were laid out anew.
abbrev pub IsReplaced : {K : Type 0} → (K → Type 0) → (K → K → K) → (K → List ℕ) → Slots → (slot child : ℕ) → (key united : K) → Change K → Slots → Arranged K → Type 0
IsReplaced valid union bytes old slot child key united Within new now =
    ((now ≡ Same) × (key ≡ united) × (new ≡ old)) ⊎ ((now ≡ Here) × (new ≡ with_slot old slot (Some (inner_item bytes child united))))
    ⊎ IsLaid valid union bytes old.level (items_but old.items slot ++ inner_items bytes child united Within) new now
IsReplaced valid union bytes old slot child key united (Split l page r) new now =
    IsLaid valid union bytes old.level (items_but old.items slot ++ inner_items bytes child united (Split l page r)) new now

-- the keys of both halves are valid
abbrev pub HasValidKeys : {K : Type 0} → (K → Type 0) → Change K → Type 0
HasValidKeys valid Within = Unit {0}
HasValidKeys valid (Split l page r) = valid l × valid r

abbrev pub AreValidKeys : {K : Type 0} → (K → Type 0) → Arranged K → Type 0
AreValidKeys valid Same = Unit {0}
AreValidKeys valid Here = Unit {0}
AreValidKeys valid (Halves l other r) = valid l × valid r

-- The keys of both halves are handed on.
abbrev pub HasKeysOf : {K : Type 0} → Arranged K → Change K → Type 0
HasKeysOf Same Within = Unit {0}
HasKeysOf Here Within = Unit {0}
HasKeysOf (Halves left other right) Within = ⊥
HasKeysOf Same (Split l page r) = ⊥
HasKeysOf Here (Split l page r) = ⊥
HasKeysOf (Halves left other right) (Split l page r) = (l ≡ left) × (r ≡ right)

-- The page has these slots.
pub record IsWritten (map : PageMap) (page : ℕ) (slots : Slots) : Type 0 where
  pub some : page ≢ 0
  pub is : map page ≡ Some (spelling slots)
  pub fits : Fits slots

-- The slots were put on the page, and those of the other half on a page that was taken.
abbrev pub IsPut : {P K : Type 0} → PageGhosts P → P → P → ℕ → Slots → List ℕ → Arranged K → Change K → Type 0
IsPut p old new page slots free Same Within = IsWritten (p.map new) page slots × KeepsPages p old new (page ∷ []) free (page ∷ []) free
IsPut p old new page slots free Here Within = IsWritten (p.map new) page slots × KeepsPages p old new (page ∷ []) free (page ∷ []) free
IsPut p old new page slots free (Halves l other r) Within = ⊥
IsPut p old new page slots free Same (Split l taken r) = ⊥
IsPut p old new page slots free Here (Split l taken r) = ⊥
IsPut p old new page slots free (Halves left other right) (Split l taken r) =
    (l ≡ left) × (r ≡ right) × IsWritten (p.map new) page slots × IsWritten (p.map new) taken other.value
    × ((rest : List ℕ) × KeepsPages p old new (page ∷ []) free (page ∷ taken ∷ []) rest)

-- Below this page, which was read, pages hold a part of a tree, and beside it these free pages.
pub record IsReady {P C V Q K : Type 0} (p : PageGhosts P) (g : Ghosts C V Q K) (class : C) (pages : P) (level : ℕ) (node : Node K level) (slots : Slots) (page : ℕ) (free : List ℕ) : Type 0 where
  pub read : IsRead g class (p.map pages) (p.count pages) level node slots page
  pub two : HasTwoItems K level node
  pub below : AllByRecursion (λ n. n < p.count pages) (pages_of K level node)
  pub frees : IsFreeList (p.map pages) (p.count pages) free
  pub apart : IsApart (pages_of K level node ++ free)

-- of one page or two
abbrev pub OnEach : (K : Type 0) (level : ℕ) → (Node K level → Type 0) → Outcome K level → Type 0
OnEach K level F (inl node) = F node
OnEach K level F (inr both) = F both.0 × F both.1

abbrev pub first_of : (K : Type 0) (level : ℕ) → Outcome K level → Node K level
first_of K level (inl node) = node
first_of K level (inr both) = both.0

abbrev pub pages_now : (K : Type 0) (level : ℕ) → Outcome K level → List ℕ
pages_now K level (inl node) = pages_of K level node
pages_now K level (inr both) = pages_of K level both.0 ++ pages_of K level both.1

-- what is said of one page or two
abbrev pub Describes : {K : Type 0} → (K → K → K) → (level : ℕ) → Change K → Outcome K level → Type 0
Describes union level Within (inl node) = Unit {0}
Describes union level Within (inr both) = ⊥
Describes union level (Split l page r) (inl node) = ⊥
Describes {K} union level (Split l page r) (inr both) = (page ≡ page_of K level both.1) × IsUnited union level both.0 l × IsUnited union level both.1 r

-- A row with its leaf key was inserted below a page: what is there now, and which pages are free.
pub record IsInserted {P C V Q K : Type 0} (p : PageGhosts P) (g : Ghosts C V Q K) (class : C) (old new : P) (row : RowRef) (key : K) (level : ℕ) (node : Node K level) (free : List ℕ) (slots : Slots) (change : Change K) : Type 0 where
  pub out : Outcome K level
  pub rest : List ℕ
  pub inserts : Inserts (g.union_of class) row key level node out
  pub stands : OnEach K level (Stands (p.map new) (g.spelling class) level) out
  pub two : OnEach K level (HasTwoItems K level) out
  pub kept : OnEach K level (AreKept (g.union_of class) (items_above K level node) row key level) out
  pub stays : page_of K level (first_of K level out) ≡ page_of K level node
  pub is : slots ≡ slots_of (g.spelling class) level (first_of K level out)
  pub describes : Describes (g.union_of class) level change out
  pub pages : KeepsPages p old new (pages_of K level node) free (pages_now K level out) rest

-- A slot page: a page as a list of items, each in a slot.
use Rattle.std.specs.Prelude.{◌≡◌, ◌≢◌, slice_set, ℕ, ◌+◌, ◌-◌, ◌*◌, ◌^◌, ◌<◌, ◌≤◌, ◌==◌, if◌then◌else◌, zero, suc, List, [], ◌∷◌, ◌++◌, length, take, drop, replicate, slice_index, Option, Some, None}
use Rattle.gx_pages.specs.declared.error.PageError.{PageError}
use Rattle.gx_pages.specs.declared.error.PageError.TheVariants.{DiskFault, Broken, PageSpace, Memory}
use Rattle.gx_bytes.specs.Fields.{le16, le64, of16, of64}

-- A kind, a level, the number of the next page or 0, and the items; an empty slot has none.
pub record Slots : Type 0 where
  pub kind : ℕ
  pub level : ℕ
  pub next : ℕ
  pub items : List (Option (List ℕ))

-- the items as they lie on the page, the first slot's last
abbrev pub packed : List (Option (List ℕ)) → List ℕ
packed [] = []
packed (None ∷ items) = packed items
packed (Some bytes ∷ items) = packed items ++ bytes

-- A slot of the table has the place of its item and its length; an empty one has 0 and 0. The items before this place end there.
abbrev pub entries : ℕ → List (Option (List ℕ)) → List ℕ
entries end [] = []
entries end (None ∷ items) = le16 0 ++ (le16 0 ++ entries end items)
entries end (Some bytes ∷ items) = le16 (end - length bytes) ++ (le16 (length bytes) ++ entries (end - length bytes) items)

-- how many of the 8,176 bytes behind the header are taken
abbrev pub taken : List (Option (List ℕ)) → ℕ
taken items = 4 * length items + length (packed items)

abbrev pub joined : List (List ℕ) → List ℕ
joined [] = []
joined (part ∷ parts) = part ++ joined parts

-- The header of 16 bytes, the table, zeros, and the items against the page's end.
abbrev pub parts : Slots → List (List ℕ)
parts s =
    (s.kind ∷ s.level ∷ []) ∷ le16 (length s.items) ∷ le16 (8192 - length (packed s.items)) ∷ le16 0 ∷ le64 s.next
    ∷ entries 8192 s.items ∷ replicate (8176 - taken s.items) 0 ∷ packed s.items ∷ []

-- the bytes of a slot page
unfoldable pub spelling : Slots → List ℕ
spelling s = joined (parts s)

-- Numbers fit their fields, and the items fit the page.
pub record Fits (s : Slots) : Type 0 where
  pub kind : s.kind < 2 ^ 8
  pub level : s.level < 2 ^ 8
  pub next : s.next < 2 ^ 64
  pub room : taken s.items ≤ 8176

-- the item of the slot whose entry stands at a place
abbrev pub slot_of : List ℕ → ℕ → Option (List ℕ)
slot_of page at =
    if of16 (take 2 (drop at page)) == 0 then None
    else Some (take (of16 (take 2 (drop (at + 2) page))) (drop (of16 (take 2 (drop at page))) page))

abbrev pub slots_of : List ℕ → ℕ → ℕ → List (Option (List ℕ))
slots_of page zero at = []
slots_of page (suc n) at = slot_of page at ∷ slots_of page n (at + 4)

-- what a page is read as
unfoldable pub read : List ℕ → Slots
read page = record { kind = slice_index page 0; level = slice_index page 1; next = of64 (take 8 (drop 8 page)); items = slots_of page (of16 (take 2 (drop 2 page))) 16 }

-- The page is the spelling of what it is read as.
pub record IsSpelled (page : List ℕ) : Type 0 where
  pub is : page ≡ spelling (read page)
  pub fits : Fits (read page)

-- the slots with one more item, or one more empty slot
abbrev pub with_item : Slots → Option (List ℕ) → Slots
with_item s item = record s { items = s.items ++ item ∷ [] }

-- how many bytes one more slot takes
abbrev pub growth : Option (List ℕ) → ℕ
growth None = 4
growth (Some bytes) = 4 + length bytes

abbrev pub item_at : List (Option (List ℕ)) → ℕ → Option (List ℕ)
item_at [] k = None
item_at (item ∷ items) zero = item
item_at (item ∷ items) (suc k) = item_at items k

-- the slots with another item in one of them, or with none there
abbrev pub with_slot : Slots → ℕ → Option (List ℕ) → Slots
with_slot s slot item = record s { items = slice_set s.items slot item }

-- The page was broken: it has this number, and what was expected there is not what was found.
abbrev pub IsBroken : ℕ → PageError → Type 0
IsBroken number DiskFault = ⊥
IsBroken number (Broken page expected found) = (page ≡ number) × (expected ≢ found)
IsBroken number (PageSpace pages) = ⊥
IsBroken number Memory = ⊥

-- The page is the spelling of slots of this kind.
abbrev pub IsSlotPage : List ℕ → ℕ → Type 0
IsSlotPage page kind = (s : Slots) × (page ≡ spelling s) × Fits s × (s.kind ≡ kind)

-- A slot's item grows by more than is free, where it is replaced by one of this length.
abbrev pub GrowsBy : Option (List ℕ) → ℕ → ℕ → Type 0
GrowsBy None len free = ⊥
GrowsBy (Some old) len free = length old + free < len

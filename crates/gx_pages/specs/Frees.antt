-- The header on page 0, free pages, and the list of them.
use Rattle.std.specs.Prelude.{◌≡◌, ◌≢◌, ◌⊎◌, ℕ, ◌+◌, ◌<◌, ◌^◌, List, [], ◌∷◌, ◌++◌, length, take, drop, replicate, Some}
use Rattle.std.specs.List.{AllByRecursion}
use Rattle.gx_bytes.specs.Fields.{le16, le64}
use Rattle.gx_words.specs.PageMap.{PageMap}

-- The header has at byte 8 how many pages there are, and at byte 16 the first free page, or 0 where none is.
abbrev pub HasCount : List ℕ → ℕ → Type 0
HasCount header count = take 8 (drop 8 header) ≡ le64 count

abbrev pub HasFirst : List ℕ → ℕ → Type 0
HasFirst header first = take 8 (drop 16 header) ≡ le64 first

-- A free page is a slot page of kind 7 with no slots: kind, level, slots, the start of the items, zero, the next free
-- page or 0, and zeros.
unfoldable pub free_page_of : ℕ → List ℕ
free_page_of next = 7 ∷ 0 ∷ le16 0 ++ le16 8192 ++ le16 0 ++ le64 next ++ replicate 8176 0

-- the pages of a chain of free pages from this one on, in order
abbrev pub IsFreeChain : PageMap → ℕ → List ℕ → Type 0
IsFreeChain map first [] = first ≡ 0
IsFreeChain map first (page ∷ pages) =
    (first ≡ page) × (page ≢ 0) × ((next : ℕ) × (next < 2 ^ 64) × (map page ≡ Some (free_page_of next)) × IsFreeChain map next pages)

-- each page stands once
abbrev pub IsApart : List ℕ → Type 0
IsApart [] = Unit {0}
IsApart (page ∷ pages) = AllByRecursion (λ other. page ≢ other) pages × IsApart pages

-- The free pages are these: the chain that begins at the header's first free page spells them, each once, below the count.
pub record IsFreeList (map : PageMap) (count : ℕ) (pages : List ℕ) : Type 0 where
  pub header : List ℕ
  pub at_zero : map 0 ≡ Some header
  pub first : ℕ
  pub fits : first < 2 ^ 64
  pub at_first : HasFirst header first
  pub chain : IsFreeChain map first pages
  pub apart : IsApart pages
  pub below : AllByRecursion (λ page. page < count) pages

-- The first free page that the header names isn't one: it isn't below the count, is lacking, or isn't written as a free page.
pub record StartsBroken (map : PageMap) (count : ℕ) : Type 0 where
  pub header : List ℕ
  pub at_zero : map 0 ≡ Some header
  pub first : ℕ
  pub fits : first < 2 ^ 64
  pub at_first : HasFirst header first
  pub some : first ≢ 0
  pub no_page : first < count → (next : ℕ) → next < 2 ^ 64 → map first ≢ Some (free_page_of next)

-- No page is left: the count is the greatest, and none is free.
pub record IsFull (tells : Type 0) (map : PageMap) (count pages : ℕ) : Type 0 where
  pub greatest : pages ≡ 2 ^ 50
  pub counted : count ≡ 2 ^ 50
  pub none_free : tells → (page : ℕ) (free : List ℕ) → IsFreeList map count (page ∷ free) → ⊥

-- Page 0 keeps all but the count and the first free page.
abbrev pub KeepsHeader : PageMap → PageMap → Type 0
KeepsHeader old new = (before : List ℕ) → old 0 ≡ Some before
    → (after : List ℕ) × (new 0 ≡ Some after) × (length after ≡ length before) × (take 8 after ≡ take 8 before) × (drop 24 after ≡ drop 24 before)

-- A page was taken: the first free one, or where none is free the one at the count, which rose by one. Besides page 0
-- only the page itself changed.
pub record Taken (old new : PageMap) (count later page : ℕ) (free rest : List ℕ) : Type 0 where
  pub nonzero : page ≢ 0
  pub others : (n : ℕ) → n ≢ 0 → n ≢ page → new n ≡ old n
  pub frees : IsFreeList new later rest
  pub from : ((free ≡ []) × (rest ≡ []) × (page ≡ count) × (later ≡ count + 1)) ⊎ ((free ≡ page ∷ rest) × (later ≡ count))

-- A page was given: it is the first of the free pages then.
pub record Given (old new : PageMap) (count page : ℕ) (free : List ℕ) : Type 0 where
  pub others : (n : ℕ) → n ≢ 0 → n ≢ page → new n ≡ old n
  pub frees : IsFreeList new count (page ∷ free)

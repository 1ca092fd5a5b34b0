-- A chain of slot pages: a list of items, each in a slot of one of its pages.
use Rattle.std.specs.Prelude.{◌≡◌, ◌≢◌, ◌⊎◌, ℕ, ◌+◌, ◌<◌, ◌≤◌, List, [], ◌∷◌, ◌++◌, length, map, Option, Some, None, Result, Ok, Err}
use Rattle.std.specs.List.{AllByRecursion, flat_map}
use Rattle.gx_words.specs.PageMap.{PageMap}
use Rattle.gx_pages.specs.declared.error.PageError.{PageError}
use Rattle.gx_pages.specs.declared.error.PageError.TheVariants.{DiskFault, Broken, PageSpace, Memory}
use Rattle.gx_pages.specs.declared.store.Pages.{Ghosts}
use Rattle.gx_pages.specs.Frees.{IsApart, IsFreeList}
use Rattle.gx_slot.specs.Slots.{Slots, Fits, spelling, taken}
use Rattle.gx_chain.specs.declared.chain.Chain.{Chain}
use Rattle.gx_chain.specs.declared.entry.Entry.{Entry}

-- a page of a chain: its number, and its items by their slots; a slot may be empty
abbrev pub Link : Type 0
Link = ℕ × List (Option (List ℕ))

-- the footprint
abbrev pub pages_of : List Link → List ℕ
pages_of links = map (λ link. link.0) links

-- the first page, or the one that comes where there is none
abbrev pub first_to : ℕ → List Link → ℕ
first_to end [] = end
first_to end (link ∷ links) = link.0

abbrev pub first_of : List Link → ℕ
first_of links = first_to 0 links

-- the items of a page from a slot on, each with its page and its slot
abbrev pub entries_at : ℕ → ℕ → List (Option (List ℕ)) → List Entry
entries_at page slot [] = []
entries_at page slot (None ∷ items) = entries_at page (slot + 1) items
entries_at page slot (Some item ∷ items) = record { page = page; slot = slot; item = item } ∷ entries_at page (slot + 1) items

-- the items in order
abbrev pub entries_of : List Link → List Entry
entries_of links = flat_map (λ link. entries_at link.0 0 link.1) links

abbrev pub slots : ℕ → ℕ → List (Option (List ℕ)) → Slots
slots kind next items = record { kind = kind; level = 0; next = next; items = items }

-- The page is the spelling of these items, with this page behind it.
pub record IsLink (map : PageMap) (kind next : ℕ) (link : Link) : Type 0 where
  pub some : link.0 ≢ 0
  pub is : map link.0 ≡ Some (spelling (slots kind next link.1))
  pub fits : Fits (slots kind next link.1)

-- Each page names the one behind it; the last one names this one.
abbrev pub AreLinkedTo : PageMap → ℕ → ℕ → List Link → Type 0
AreLinkedTo map kind end [] = Unit {0}
AreLinkedTo map kind end (link ∷ links) = IsLink map kind (first_to end links) link × AreLinkedTo map kind end links

-- the last one names none
abbrev pub AreLinked : PageMap → ℕ → List Link → Type 0
AreLinked map kind links = AreLinkedTo map kind 0 links

-- the last page, or the one that comes before where there is none
abbrev pub last_to : ℕ → List Link → ℕ
last_to before [] = before
last_to before (link ∷ links) = last_to link.0 links

-- The map holds the chain with these pages, each once, below the count. The chain has at least one page, and knows its
-- first one, its last one, and a bound of their number.
pub record Holds (map : PageMap) (count kind : ℕ) (chain : Chain) (links : List Link) : Type 0 where
  pub linked : AreLinked map kind links
  pub apart : IsApart (pages_of links)
  pub below : AllByRecursion (λ page. page < count) (pages_of links)
  pub some : 0 < length links
  pub first : chain.first ≡ first_of links
  pub last : chain.last ≡ last_to 0 links
  pub bound : length links ≤ chain.pages

-- The pages hold the chain, and beside it these free pages.
pub record HoldsBeside {P : Type 0} (g : Ghosts P) (pages : P) (kind : ℕ) (chain : Chain) (links : List Link) (free : List ℕ) : Type 0 where
  pub held : Holds (g.map pages) (g.count pages) kind chain links
  pub frees : IsFreeList (g.map pages) (g.count pages) free
  pub apart : IsApart (pages_of links ++ free)

-- The pages hold no such chain, or no free pages beside it.
abbrev pub HoldsNone : {P : Type 0} → Ghosts P → P → ℕ → Chain → Type 0
HoldsNone g pages kind chain = (links : List Link) (free : List ℕ) → HoldsBeside g pages kind chain links free → ⊥

-- no chain of this kind begins at this page
abbrev pub BeginsNone : PageMap → ℕ → ℕ → ℕ → Type 0
BeginsNone map count kind first = (chain : Chain) (links : List Link) → chain.first ≡ first → Holds map count kind chain links → ⊥

-- the free pages aren't listed
abbrev pub ListsNone : {P : Type 0} → Ghosts P → P → Type 0
ListsNone g pages = (free : List ℕ) → IsFreeList (g.map pages) (g.count pages) free → ⊥

-- One more item fits the page of these items.
abbrev pub HasRoom : List (Option (List ℕ)) → List ℕ → Type 0
HasRoom items item = taken items + (4 + length item) ≤ 8176

-- An item was added behind all others: on the last page where it has room there, else on a new page behind that one.
pub record Adds (links later : List Link) (page slot : ℕ) (item : List ℕ) : Type 0 where
  pub front : List Link
  pub last : Link
  pub was : links ≡ front ++ last ∷ []
  pub is : (HasRoom last.1 item × (page ≡ last.0) × (slot ≡ length last.1) × (later ≡ front ++ (page, last.1 ++ Some item ∷ []) ∷ []))
      ⊎ ((¬ HasRoom last.1 item) × (slot ≡ 0) × (later ≡ links ++ (page, Some item ∷ []) ∷ []))

-- no page was found broken
abbrev pub IsSound : {T : Type 0} → Result T PageError → Type 0
IsSound (Ok value) = Unit {0}
IsSound (Err DiskFault) = Unit {0}
IsSound (Err (Broken page expected found)) = ⊥
IsSound (Err (PageSpace pages)) = Unit {0}
IsSound (Err Memory) = Unit {0}

-- It is the page before this one among pages that follow one another, or 0.
abbrev pub IsBehind : ℕ → ℕ → List ℕ → Type 0
IsBehind before page pages = before ≢ 0 → (front : List ℕ) × (back : List ℕ) × (pages ≡ front ++ before ∷ page ∷ back)

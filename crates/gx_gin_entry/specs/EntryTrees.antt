-- An entry tree: an ordered map of byte strings on the pages of a tree.
use Rattle.std.specs.Prelude.{◌≡◌, ◌≢◌, ℕ, ◌<◌, ◌≤◌, List, [], ◌∷◌, ◌++◌, length, map, take, drop, Option, Some, None}
use Rattle.std.specs.List.{AllByRecursion}
use Rattle.std.specs.Ordering.{nat_cmp}
use Rattle.std.specs.Cmp.Lexicographic.{slice_cmp}
use Rattle.std.specs.declared.cmp.Ordering.{Ordering}
use Rattle.std.specs.declared.cmp.Ordering.TheVariants.{Less, Equal, Greater}
use Rattle.gx_bytes.specs.Fields.{le16}
use Rattle.gx_words.specs.PageMap.{PageMap}
use Rattle.gx_pages.specs.declared.store.Pages.{Ghosts}
use Rattle.gx_pages.specs.Frees.{IsApart, IsFreeList}
use Rattle.gx_tree.specs.Orders.{IsKeyed, Order}
use Rattle.gx_tree.specs.Trees.{Holds, Tree, entries, footprint}

-- an entry: its key, and its posting
abbrev pub Entry : Type 0
Entry = List ℕ × List ℕ

-- the length of a key in two bytes, and the key
abbrev pub key_bytes : List ℕ → List ℕ
key_bytes key = le16 (length key) ++ key

-- the item of an entry
abbrev pub entry_bytes : Entry → List ℕ
entry_bytes entry = key_bytes entry.0 ++ entry.1

-- A key has at most 1,901 bytes, and a posting at most 513.
pub record IsEntry (entry : Entry) : Type 0 where
  pub key : length entry.0 ≤ 1901
  pub posting : length entry.1 ≤ 513

-- x comes before y in the order of bytes, a prefix first
abbrev pub IsBefore : List ℕ → List ℕ → Type 0
IsBefore x y = slice_cmp nat_cmp x y ≡ Less

-- each key comes before those behind it
abbrev pub AreRising : List Entry → Type 0
AreRising [] = Unit {0}
AreRising (entry ∷ list) = AllByRecursion (λ other. IsBefore entry.0 other.0) list × AreRising list

-- the key in the bytes of an item above level 0
abbrev pub key_of : List ℕ → List ℕ
key_of bytes = drop 2 bytes

-- The bytes are a key with its length.
pub record IsKey (bytes : List ℕ) : Type 0 where
  pub key : List ℕ
  pub short : length key ≤ 1901
  pub is : bytes ≡ key_bytes key

-- the entry's key isn't before this one, and comes before another one, where there are such keys
abbrev pub IsFromKey : Option (List ℕ) → Entry → Type 0
IsFromKey None entry = Unit {0}
IsFromKey (Some bytes) entry = IsBefore entry.0 (key_of bytes) → ⊥

abbrev pub IsUnderKey : Option (List ℕ) → Entry → Type 0
IsUnderKey None entry = Unit {0}
IsUnderKey (Some bytes) entry = IsBefore entry.0 (key_of bytes)

-- These items are entries whose keys rise, none before one key and all before another.
pub record HaveEntries (least end : Option (List ℕ)) (items : List (List ℕ)) : Type 0 where
  pub list : List Entry
  pub spelled : items ≡ map entry_bytes list
  pub are : AllByRecursion IsEntry list
  pub rising : AreRising list
  pub from : AllByRecursion (IsFromKey least) list
  pub under : AllByRecursion (IsUnderKey end) list

-- The bytes are the key of an item with its length.
pub record IsOwn (item bytes : List ℕ) : Type 0 where
  pub entry : Entry
  pub fits : IsEntry entry
  pub spells : item ≡ entry_bytes entry
  pub is : bytes ≡ key_bytes entry.0

-- the order of keys
abbrev pub by_key : Order
by_key = record { IsKey = IsKey; Less = λ a b. IsBefore (key_of a) (key_of b); AtMost = λ a b. IsBefore (key_of b) (key_of a) → ⊥; AreIn = HaveEntries; IsLeast = IsOwn }

-- The map holds the entry tree with these entries, rising by their keys, below a root page, on these pages. The key of an item above level 0 comes behind every
-- key before it, and before none that is below it.
pub record HoldsMap (map_of : PageMap) (count root : ℕ) (list : List Entry) (feet : List ℕ) : Type 0 where
  pub tree : Tree
  pub held : Holds map_of count 5 root tree
  pub stand : feet ≡ footprint tree
  pub spelled : entries tree ≡ map entry_bytes list
  pub are : AllByRecursion IsEntry list
  pub rising : AreRising list
  pub keyed : IsKeyed by_key tree.0 None None tree.1

-- The pages hold it, and beside it these free pages.
pub record HoldsEntries {P : Type 0} (g : Ghosts P) (pages : P) (root : ℕ) (list : List Entry) (feet free : List ℕ) : Type 0 where
  pub held : HoldsMap (g.map pages) (g.count pages) root list feet
  pub frees : IsFreeList (g.map pages) (g.count pages) free
  pub apart : IsApart (feet ++ free)

-- The pages hold none, or no free pages beside it.
abbrev pub HoldsNoEntries : {P : Type 0} → Ghosts P → P → ℕ → Type 0
HoldsNoEntries g pages root = (list : List Entry) (feet free : List ℕ) → HoldsEntries g pages root list feet free → ⊥

-- The map holds no entry tree below this root page.
abbrev pub HoldsNoMap : PageMap → ℕ → ℕ → Type 0
HoldsNoMap map_of count root = (list : List Entry) (feet : List ℕ) → HoldsMap map_of count root list feet → ⊥

-- Some entries have this key with this posting, or none has it.
abbrev pub IsFound : List Entry → List ℕ → Option (List ℕ) → Type 0
IsFound list key None = AllByRecursion (λ entry. entry.0 ≢ key) list
IsFound list key (Some posting) = (front : List Entry) × (back : List Entry) × (list ≡ front ++ (key, posting) ∷ back)

-- the entry's key comes behind this one, where there is such a key
abbrev pub IsAbove : Option (List ℕ) → Entry → Type 0
IsAbove None entry = Unit {0}
IsAbove (Some key) entry = IsBefore key entry.0

-- the first of the entries above a key, or that none is above it
abbrev pub IsNext : List Entry → Option (List ℕ) → Option Entry → Type 0
IsNext list low None = AllByRecursion (λ entry. IsAbove low entry → ⊥) list
IsNext list low (Some entry) = (front : List Entry) × (back : List Entry) × (list ≡ front ++ entry ∷ back) × AllByRecursion (λ other. IsAbove low other → ⊥) front × IsAbove low entry

-- a key, or the least of all
abbrev pub key_or_least : Option (List ℕ) → List ℕ
key_or_least None = []
key_or_least (Some key) = key

-- From this place on all keys are above this one, and none before it is.
pub record IsSplit (list : List Entry) (low : Option (List ℕ)) (place : ℕ) : Type 0 where
  pub front : List Entry
  pub back : List Entry
  pub cut : list ≡ front ++ back
  pub at : place ≡ length front
  pub below : AllByRecursion (λ entry. IsAbove low entry → ⊥) front
  pub above : AllByRecursion (IsAbove low) back

-- the entry that a key has, where it has a posting
abbrev pub entry_of : List ℕ → Option (List ℕ) → List Entry
entry_of key None = []
entry_of key (Some posting) = (key, posting) ∷ []

-- The key has this posting later, which it had not or with another posting; all others stay.
pub record IsPut (key posting : List ℕ) (list later : List Entry) : Type 0 where
  pub front : List Entry
  pub was : Option (List ℕ)
  pub back : List Entry
  pub old : list ≡ front ++ entry_of key was ++ back
  pub new : later ≡ front ++ (key, posting) ∷ back

-- No entry has the key later; all others stay.
pub record IsRemoved (key : List ℕ) (list later : List Entry) : Type 0 where
  pub front : List Entry
  pub was : Option (List ℕ)
  pub back : List Entry
  pub old : list ≡ front ++ entry_of key was ++ back
  pub new : later ≡ front ++ back
  pub gone : AllByRecursion (λ entry. entry.0 ≢ key) later

-- The slots of a page of level 0 have these entries.
pub record AreListed (items : List (Option (List ℕ))) (list : List Entry) : Type 0 where
  pub is : items ≡ map (λ item. Some item) (map entry_bytes list)
  pub are : AllByRecursion IsEntry list
  pub rising : AreRising list

-- Each entry with this key has a posting that is shorter than this one.
abbrev pub AreShorter : List Entry → List ℕ → List ℕ → Type 0
AreShorter list key posting = AllByRecursion (λ entry. entry.0 ≡ key → length entry.1 < length posting) list

-- The key has a posting that is as long as this one at least.
pub record HasLonger (list : List Entry) (key posting : List ℕ) : Type 0 where
  pub front : List Entry
  pub was : List ℕ
  pub back : List Entry
  pub is : list ≡ front ++ (key, was) ∷ back
  pub long : length posting ≤ length was

-- From this place on no key is before this one, and all keys before it are.
pub record IsPlace (list : List Entry) (key : List ℕ) (place : ℕ) : Type 0 where
  pub front : List Entry
  pub back : List Entry
  pub cut : list ≡ front ++ back
  pub at : place ≡ length front
  pub before : AllByRecursion (λ entry. IsBefore entry.0 key) front
  pub behind : AllByRecursion (λ entry. IsBefore entry.0 key → ⊥) back

-- Keys before the first place are before this one, and those from the second place on aren't.
pub record IsRange (list : List Entry) (key : List ℕ) (from end : ℕ) : Type 0 where
  pub low : AllByRecursion (λ entry. IsBefore entry.0 key) (take from list)
  pub high : AllByRecursion (λ entry. IsBefore entry.0 key → ⊥) (drop end list)
  pub within : end ≤ length list

-- The entry at this place has the key.
pub record IsHere (list : List Entry) (key : List ℕ) (place : ℕ) : Type 0 where
  pub front : List Entry
  pub posting : List ℕ
  pub back : List Entry
  pub cut : list ≡ front ++ (key, posting) ∷ back
  pub at : place ≡ length front

-- No entry has the key; those before this place come before it, and the others behind it.
pub record IsBetween (list : List Entry) (key : List ℕ) (place : ℕ) : Type 0 where
  pub front : List Entry
  pub back : List Entry
  pub cut : list ≡ front ++ back
  pub at : place ≡ length front
  pub before : AllByRecursion (λ entry. IsBefore entry.0 key) front
  pub behind : AllByRecursion (λ entry. IsBefore key entry.0) back

-- Another posting stands at the key.
pub record IsReplaced (items : List (Option (List ℕ))) (list : List Entry) (key posting : List ℕ) : Type 0 where
  pub front : List Entry
  pub was : List ℕ
  pub back : List Entry
  pub cut : list ≡ front ++ (key, was) ∷ back
  pub listed : AreListed items (front ++ (key, posting) ∷ back)

-- Items become others where an entry is put.
pub record Puts (key posting : List ℕ) (was is : List (List ℕ)) : Type 0 where
  pub list : List Entry
  pub later : List Entry
  pub old : was ≡ map entry_bytes list
  pub new : is ≡ map entry_bytes later
  pub are : AllByRecursion IsEntry list
  pub will : AllByRecursion IsEntry later
  pub put : IsPut key posting list later

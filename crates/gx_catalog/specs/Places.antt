-- Where an item of a chain stands.
use Rattle.std.specs.Prelude.{◌≡◌, ◌≢◌, ℕ, List, [], ◌∷◌, ◌++◌}
use Rattle.gx_words.specs.PageMap.{PageMap}
use Rattle.gx_chain.specs.declared.chain.Chain.{Chain}
use Rattle.gx_chain.specs.declared.entry.Entry.{Entry}
use Rattle.gx_chain.specs.Chains.{Holds, IsBehind, Link, entries_of, pages_of}

-- An item with these bytes stands in this slot of this page, and that is the page before it, or 0.
pub record IsPlace (links : List Link) (before page slot : ℕ) (bytes : List ℕ) : Type 0 where
  pub front : List Entry
  pub back : List Entry
  pub is : entries_of links ≡ front ++ record { page = page; slot = slot; item = bytes } ∷ back
  pub behind : IsBehind before page (pages_of links)

-- no chain of kind 3 that begins at page 1 has an item with these bytes
abbrev pub HasNoItem : PageMap → ℕ → List ℕ → Type 0
HasNoItem map count bytes = (chain : Chain) (links : List Link) (front back : List Entry) (page slot : ℕ) → chain.first ≡ 1 → Holds map count 3 chain links
    → entries_of links ≢ front ++ record { page = page; slot = slot; item = bytes } ∷ back

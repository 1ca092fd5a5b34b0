-- What a map stores, and what pages hold.
use Rattle.std.proofs.Common.{◌≡◌, ◌≢◌, ℕ, ◌+◌, ◌<◌, ◌≤◌, List, [], ◌∷◌, ◌++◌, length, map, refl, sym, ◌∙◌, ap, subst, arith}
use Rattle.std.specs.List.{AllByRecursion}
use Rattle.std.proofs.lemmas.List.{length-map}
use Rattle.gx_words.specs.PageMap.{PageMap}
use Rattle.gx_pages.specs.declared.store.Pages.{Ghosts}
use Rattle.gx_pages.specs.Frees.{IsApart, IsFreeList}
use Rattle.gx_pages.proofs.Footprints as feet
use Rattle.gx_chain.specs.declared.chain.Chain.{Chain}
use Rattle.gx_chain.specs.declared.entry.Entry.{Entry}
use Rattle.gx_chain.specs.Chains.{BeginsNone, Link, AreLinked, Holds, HoldsBeside, entries_of, first_of, last_to, pages_of}
use Rattle.gx_chain.proofs.Links.{linked_apart, one_list}
use Rattle.gx_catalog.specs.declared.info.TableInfo.{TableInfo}
use Rattle.gx_catalog.specs.declared.info.IndexInfo.{IndexInfo}
use Rattle.gx_catalog.specs.Items.{Spells, SpellsNone}
use Rattle.gx_catalog.specs.Validity.{AreCatalog}
use Rattle.gx_catalog.specs.Catalogs.{Directory, HoldsCatalog, Stores, StoresNone, chain_on, last_page}
use Rattle.gx_catalog.proofs.Spelled.{spells_same}

pub last_pages : (before : ℕ) (links : List Link) → last_page before (pages_of links) ≡ last_to before links
last_pages before [] = refl
last_pages before (link ∷ links) = last_pages link.0 links

some_links : (links : List Link) → first_of links ≡ 1 → 0 < length links
some_links [] first = absurd (omega (arith, first))
some_links (link ∷ links) first = omega arith

module _ (pages : PageMap) (count : ℕ) (tables : List TableInfo) (indexes : List IndexInfo) (footprint : List ℕ) (stored : Stores pages count tables indexes footprint) where
  pub to_holds : Holds pages count 3 (chain_on footprint) stored.links
  to_holds = record {
    linked = stored.linked;
    apart = linked_apart pages 3 stored.links stored.linked;
    below = subst (λ (l : List ℕ). AllByRecursion (λ (n : ℕ). n < count) l) stored.stand stored.below;
    some = some_links stored.links stored.first;
    first = sym stored.first;
    last = ap (λ (l : List ℕ). last_page 0 l) stored.stand ∙ last_pages 0 stored.links;
    bound = (let long = ap (λ (l : List ℕ). length l) stored.stand in omega (arith, long, length-map stored.links (λ (l : Link). l.0)));
  }

  pub no_chain : BeginsNone pages count 3 1 → ⊥
  no_chain none = none (chain_on footprint) stored.links refl to_holds

  -- the links of a chain that begins there
  pub stored_links : (chain : Chain) (links : List Link) → chain.first ≡ 1 → Holds pages count 3 chain links → links ≡ stored.links
  stored_links chain links first held = one_list pages 3 links stored.links held.linked stored.linked (sym held.first ∙ first ∙ sym stored.first)

  pub no_spelling : (chain : Chain) (links : List Link) (entries : List Entry) → chain.first ≡ 1 → Holds pages count 3 chain links → entries ≡ entries_of links → SpellsNone entries → ⊥
  no_spelling chain links entries first held are none =
      none tables indexes (subst (λ (l : List Entry). Spells l tables indexes)
      (ap (λ (l : List Link). entries_of l) (sym (stored_links chain links first held)) ∙ sym are) stored.spelled)

  pub stored_lists : (chain : Chain) (links : List Link) (entries : List Entry) (others : List TableInfo) (more : List IndexInfo) → chain.first ≡ 1 → Holds pages count 3 chain links → entries ≡ entries_of links
      → Spells entries others more → (others ≡ tables) × (more ≡ indexes)
  stored_lists chain links entries others more first held are spells =
      spells_same (entries_of stored.links) others tables more indexes
      (subst (λ (l : List Entry). Spells l others more) (are ∙ ap (λ (l : List Link). entries_of l) (stored_links chain links first held)) spells) stored.spelled

-- a map stores one catalog
pub one_stored : (pages : PageMap) (count : ℕ) (tables others : List TableInfo) (indexes more : List IndexInfo) (footprint rest : List ℕ) → Stores pages count tables indexes footprint
    → Stores pages count others more rest → (tables ≡ others) × (indexes ≡ more) × (footprint ≡ rest)
one_stored pages count tables others indexes more footprint rest one two =
    let links = one_list pages 3 one.links two.links one.linked two.linked (one.first ∙ sym two.first) in
    let lists = spells_same (entries_of two.links) tables others indexes more (subst (λ (l : List Link). Spells (entries_of l) tables indexes) links one.spelled) two.spelled in
    (lists.0, lists.1, one.stand ∙ ap (λ (l : List Link). pages_of l) links ∙ sym two.stand)

-- a chain that spells a catalog
pub from_holds : (pages : PageMap) (count : ℕ) (chain : Chain) (links : List Link) (tables : List TableInfo) (indexes : List IndexInfo) → chain.first ≡ 1 → Holds pages count 3 chain links
    → Spells (entries_of links) tables indexes → AreCatalog tables indexes → Stores pages count tables indexes (pages_of links)
from_holds pages count chain links tables indexes first held spells valid =
    record { links = links; linked = held.linked; first = sym held.first ∙ first; below = held.below; stand = refl; spelled = spells; valid = valid }

pub chain_is : (pages : PageMap) (count : ℕ) (chain : Chain) (links : List Link) → chain.first ≡ 1 → Holds pages count 3 chain links → chain.pages ≡ length links → chain ≡ chain_on (pages_of links)
chain_is pages count chain links first held exact =
    let long : chain.pages ≡ length (pages_of links) = exact ∙ sym (length-map links (λ (l : Link). l.0)) in
    let last : chain.last ≡ last_page 0 (pages_of links) = held.last ∙ sym (last_pages 0 links) in
    λ i. record { first = first i; last = last i; pages = long i }

-- from the chain to the catalog, and back
pub from_beside : {P : Type 0} (g : Ghosts P) (pages : P) (chain : Chain) (links : List Link) (tables : List TableInfo) (indexes : List IndexInfo) (free : List ℕ) → chain.first ≡ 1
    → HoldsBeside g pages 3 chain links free → chain.pages ≡ length links → Spells (entries_of links) tables indexes → AreCatalog tables indexes
    → HoldsCatalog g pages (record { chain = chain; tables = tables; indexes = indexes }) (pages_of links) free
from_beside g pages chain links tables indexes free first held exact spells valid = record {
  stored = from_holds (g.map pages) (g.count pages) chain links tables indexes first held.held spells valid;
  chain = chain_is (g.map pages) (g.count pages) chain links first held.held exact;
  frees = held.frees;
  apart = held.apart;
}

pub to_beside : {P : Type 0} (g : Ghosts P) (pages : P) (catalog : Directory) (footprint free : List ℕ) (held : HoldsCatalog g pages catalog footprint free)
    → HoldsBeside g pages 3 catalog.chain held.stored.links free × (catalog.chain.first ≡ 1) × (catalog.chain.pages ≡ length held.stored.links)
to_beside g pages catalog footprint free held =
    let is = held.chain in
    let whole = to_holds (g.map pages) (g.count pages) catalog.tables catalog.indexes footprint held.stored in (
      record {
        held = subst (λ (k : Chain). Holds (g.map pages) (g.count pages) 3 k held.stored.links) (sym is) whole;
        frees = held.frees;
        apart = subst (λ (l : List ℕ). IsApart (l ++ free)) held.stored.stand held.apart;
      },
      ap (λ (k : Chain). k.first) is,
      ap (λ (k : Chain). k.pages) is ∙ ap (λ (l : List ℕ). length l) held.stored.stand ∙ length-map held.stored.links (λ (l : Link). l.0),
    )

-- the same where nothing was changed
pub stored_at : {P : Type 0} (g : Ghosts P) (old new : P) (chain : Chain) (tables others : List TableInfo) (indexes more : List IndexInfo) (footprint free : List ℕ) → g.map new ≡ g.map old → g.count new ≡ g.count old
    → others ≡ tables → more ≡ indexes → Stores (g.map old) (g.count old) tables indexes footprint → IsFreeList (g.map old) (g.count old) free → IsApart (footprint ++ free) → chain ≡ chain_on footprint
    → HoldsCatalog g new (record { chain = chain; tables = others; indexes = more }) footprint free
stored_at g old new chain tables others indexes more footprint free map count one two stored frees apart is = record {
  stored = subst (λ (m : PageMap). Stores m (g.count new) others more footprint) (sym map)
      (subst (λ (n : ℕ). Stores (g.map old) n others more footprint) (sym count)
      (subst (λ (l : List TableInfo). Stores (g.map old) (g.count old) l more footprint) (sym one)
      (subst (λ (l : List IndexInfo). Stores (g.map old) (g.count old) tables l footprint) (sym two) stored)));
  chain = is;
  frees = feet.free_list_at (g.map new) (g.map old) (g.count new) (g.count old) free map count frees;
  apart = apart;
}

-- One more item at the end of the chain.
use Rattle.std.proofs.Common.{◌≡◌, ℕ, List, [], ◌∷◌, ◌++◌, length, Err, refl, sym, ◌∙◌, ap, subst}
use Rattle.gx_pages.specs.declared.error.PageError.{PageError}
use Rattle.gx_pages.specs.declared.store.Pages.{Ghosts}
use Rattle.gx_pages.specs.Footprints.{KeepsPages}
use Rattle.gx_chain.specs.declared.chain.Chain.{Chain}
use Rattle.gx_chain.specs.declared.entry.Entry.{Entry}
use Rattle.gx_chain.specs.Chains.{Adds, HoldsBeside, HoldsNone, Link, entries_of, pages_of}
use Rattle.gx_catalog.specs.declared.info.TableInfo.{TableInfo}
use Rattle.gx_catalog.specs.declared.info.IndexInfo.{IndexInfo}
use Rattle.gx_catalog.specs.declared.info.Item.{Item}
use Rattle.gx_catalog.specs.Items.{FitsItem, Spells, item_bytes, tables_in, indexes_in}
use Rattle.gx_catalog.specs.Validity.{AreCatalog}
use Rattle.gx_catalog.specs.Catalogs.{Directory, HoldsCatalog, HoldsNoCatalog}
use Rattle.gx_catalog.proofs.Spelled.{spells_more}
use Rattle.gx_catalog.proofs.Stored.{from_beside, to_beside}

-- no chain, no catalog
pub no_catalog : {P : Type 0} (g : Ghosts P) (pages : P) (catalog : Directory) → HoldsNone g pages 3 catalog.chain → HoldsNoCatalog g pages catalog
no_catalog g pages catalog none = λ footprint free held. none held.stored.links free (to_beside g pages catalog footprint free held).0

pub added_item : {P : Type 0} (g : Ghosts P) (old new : P) (catalog : Directory) (chain : Chain) (tables : List TableInfo) (indexes : List IndexInfo) (item : Item) (bytes : List ℕ) (page slot : ℕ)
    → bytes ≡ item_bytes item → FitsItem item → tables ≡ catalog.tables ++ tables_in (item ∷ []) → indexes ≡ catalog.indexes ++ indexes_in (item ∷ []) → AreCatalog tables indexes
    → chain.first ≡ catalog.chain.first
    → ((links : List Link) (free : List ℕ) → HoldsBeside g old 3 catalog.chain links free
    → (later : List Link) × (rest : List ℕ) × HoldsBeside g new 3 chain later rest × Adds links later page slot bytes
    × (entries_of later ≡ entries_of links ++ record { page = page; slot = slot; item = bytes } ∷ []) × KeepsPages g old new (pages_of links) free (pages_of later) rest
    × (catalog.chain.pages ≡ length links → chain.pages ≡ length later))
    → (footprint free : List ℕ) → HoldsCatalog g old catalog footprint free
    → (later : List ℕ) × (rest : List ℕ) × HoldsCatalog g new (record { chain = chain; tables = tables; indexes = indexes }) later rest × KeepsPages g old new footprint free later rest
added_item g old new catalog chain tables indexes item bytes page slot is fits one two valid first added footprint free held =
    let b = to_beside g old catalog footprint free held in
    let r = added held.stored.links free b.0 in
    let e : Entry = record { page = page; slot = slot; item = bytes } in
    let spells : Spells (entries_of held.stored.links ++ e ∷ []) (catalog.tables ++ tables_in (item ∷ [])) (catalog.indexes ++ indexes_in (item ∷ [])) =
    spells_more (entries_of held.stored.links) catalog.tables catalog.indexes e item held.stored.spelled fits is in
    let spelled : Spells (entries_of r.0) tables indexes =
    subst (λ (l : List Entry). Spells l tables indexes) (sym r.4)
    (subst (λ (l : List TableInfo). Spells (entries_of held.stored.links ++ e ∷ []) l indexes) (sym one)
    (subst (λ (l : List IndexInfo). Spells (entries_of held.stored.links ++ e ∷ []) (catalog.tables ++ tables_in (item ∷ [])) l) (sym two) spells)) in (
      pages_of r.0,
      r.1,
      from_beside g new chain r.0 tables indexes r.1 (first ∙ b.1) r.2 (r.6 b.2) spelled valid,
      subst (λ (l : List ℕ). KeepsPages g old new l free (pages_of r.0) r.1) (sym held.stored.stand) r.5,
    )

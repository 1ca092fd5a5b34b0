-- A map stands for at most one database, as it stores at most one catalog.
use Rattle.std.proofs.Common.{◌≡◌, ℕ, ◌^◌, ◌≤◌, List, [], Option, Some, sym, subst}
use Rattle.std.specs.Prelude.{IfSome}
use Rattle.gx_words.specs.PageMap.{PageMap}
use Rattle.gx_pages.specs.Frees.{HasCount}
use Rattle.gx_catalog.specs.Catalogs.{Stores}
use Rattle.gx_catalog.specs.declared.info.IndexInfo.{IndexInfo}
use Rattle.gx_catalog.specs.declared.info.TableInfo.{TableInfo}
use Rattle.gx_model.specs.Database.{Database}
use Rattle.gx_database.specs.Standing.{HasHeader, StandsFor}
use Rattle.gx_database.proofs.OneDatabase.{OneRow, one_database}
use Rattle.gx_database.proofs.Views.{one_count}

-- a map stores at most one catalog
abbrev pub OneCatalog : Type 0
OneCatalog = (pages : PageMap) (count : ℕ) (tables others : List TableInfo) (indexes more : List IndexInfo) (feet rest : List ℕ) → Stores pages count tables indexes feet
    → Stores pages count others more rest → (tables ≡ others) × (indexes ≡ more) × (feet ≡ rest)

same_counts : (pages : PageMap) (count other : ℕ) → HasHeader pages count → HasHeader pages other → count ≡ other
same_counts pages count other h k =
    let P : Option (List ℕ) → Type 0 = λ o. IfSome o (λ header. HasCount header other) in
    one_count pages count other h (subst P (sym k.at_zero) k.counted) k.most

pub one_map : OneRow → OneCatalog → (pages : PageMap) (a b : Database) → StandsFor pages a → StandsFor pages b → a ≡ b
one_map one catalog pages a b h k =
    let e : h.count ≡ k.count = same_counts pages h.count k.count h.header k.header in
    let first : Stores pages k.count h.infos [] h.feet = subst (λ (n : ℕ). Stores pages n h.infos [] h.feet) e h.parts.catalog in
    one_database one pages a b h k (catalog pages k.count h.infos k.infos [] [] h.feet k.feet first k.parts.catalog).0

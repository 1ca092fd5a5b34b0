-- A catalog that stays while others change, and the catalog of an empty database.
use Rattle.std.proofs.Common.{◌≡◌, ◌≢◌, ℕ, ◌<◌, ◌≤◌, List, [], ◌∷◌, ◌++◌, Some, refl, sym, ap, subst, lit<, lit≤, arith}
use Rattle.std.specs.List.{AllByRecursion}
use Rattle.gx_words.specs.PageMap.{PageMap}
use Rattle.gx_pages.specs.declared.store.Pages.{Ghosts}
use Rattle.gx_pages.specs.Databases.{catalog_page}
use Rattle.gx_pages.specs.Footprints.{KeepsPages}
use Rattle.gx_pages.specs.Frees.{IsApart}
use Rattle.gx_pages.proofs.Footprints as feet
use Rattle.gx_chain.proofs.Links.{linked_some, linked_stays}
use Rattle.gx_chain.proofs.Stays.{apart_beside, empty_holds, same_beside}
use Rattle.gx_catalog.specs.declared.info.TableInfo.{TableInfo}
use Rattle.gx_catalog.specs.declared.info.IndexInfo.{IndexInfo}
use Rattle.gx_catalog.specs.Catalogs.{Directory, HoldsCatalog, Stores}
use Rattle.gx_catalog.proofs.Spelled.{spells_start}

pub stores_same : (old new : PageMap) (count later : ℕ) (tables : List TableInfo) (indexes : List IndexInfo) (footprint : List ℕ) → AllByRecursion (λ page. new page ≡ old page) footprint → count ≤ later
    → Stores old count tables indexes footprint → Stores new later tables indexes footprint
stores_same old new count later tables indexes footprint same more stored = record {
  links = stored.links;
  linked = linked_stays old new 3 0 stored.links (subst (λ (l : List ℕ). AllByRecursion (λ (n : ℕ). new n ≡ old n) l) stored.stand same) stored.linked;
  first = stored.first;
  below = feet.all_weaker (λ (page : ℕ). page < count) (λ (page : ℕ). page < later) footprint (λ page here. omega (arith, here, more)) stored.below;
  stand = stored.stand;
  spelled = stored.spelled;
  valid = stored.valid;
}

pub catalog_beside : {P : Type 0} (g : Ghosts P) (old new : P) (catalog : Directory) (footprint before free after rest : List ℕ) → HoldsCatalog g old catalog footprint free
    → KeepsPages g old new before free after rest → IsApart (before ++ free ++ footprint) → AllByRecursion (λ page. page < g.count old) before
    → HoldsCatalog g new catalog footprint rest
catalog_beside g old new catalog footprint before free after rest held keeps apart below =
    let small : ℕ → Type 0 = λ page. page < g.count old in
    let all = feet.all_join small (before ++ free) footprint (feet.all_join small before free below held.frees.below) held.stored.below in
    let some = subst (λ (l : List ℕ). AllByRecursion (λ (n : ℕ). n ≢ 0) l) (sym held.stored.stand) (linked_some (g.map old) 3 0 held.stored.links held.stored.linked) in
    record {
      stored = stores_same (g.map old) (g.map new) (g.count old) (g.count new) catalog.tables catalog.indexes footprint
          (same_beside g old new footprint before free after rest keeps apart some held.stored.below) keeps.grows held.stored;
      chain = held.chain;
      frees = keeps.frees;
      apart = apart_beside g old new footprint before free after rest keeps apart all;
    }

pub empty_stored : (pages : PageMap) (count : ℕ) → pages 1 ≡ Some catalog_page → 1 < count → Stores pages count [] [] (1 ∷ [])
empty_stored pages count is below = record {
  links = (1, []) ∷ [];
  linked = (empty_holds pages count is below).linked;
  first = refl;
  below = (below, tt);
  stand = refl;
  spelled = spells_start;
  valid = record { each_table = tt; few = lit≤ tt; names = tt; numbers = tt; each_index = tt; index_names = tt; few_on_each = tt };
}

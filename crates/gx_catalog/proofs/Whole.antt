-- A catalog whose chain had one item replaced or removed.
use Rattle.std.proofs.Common.{◌≡◌, ◌≢◌, ◌⊎◌, inl, inr, ℕ, ◌≤◌, ◌<◌, List, [], ◌∷◌, ◌++◌, length, refl, sym, ◌∙◌, ap, subst, arith}
use Rattle.std.specs.List.{AllByRecursion}
use Rattle.std.proofs.lemmas.List.{length-map}
use Rattle.gx_words.specs.PageMap.{PageMap}
use Rattle.gx_pages.specs.declared.store.Pages.{Ghosts}
use Rattle.gx_pages.specs.Footprints.{KeepsPages}
use Rattle.gx_pages.proofs.Footprints as feet
use Rattle.gx_chain.specs.declared.chain.Chain.{Chain}
use Rattle.gx_chain.specs.declared.entry.Entry.{Entry}
use Rattle.gx_chain.specs.Chains.{Holds, HoldsBeside, IsBehind, Link, entries_of, pages_of}
use Rattle.gx_chain.proofs.Links.{held_same}
use Rattle.gx_catalog.specs.declared.info.TableInfo.{TableInfo}
use Rattle.gx_catalog.specs.declared.info.IndexInfo.{IndexInfo}
use Rattle.gx_heap.specs.declared.heap.Heap.{Heap}
use Rattle.gx_catalog.specs.Validity.{AreCatalog, HasNoIndex, IsAmong, IsHeap}
use Rattle.gx_catalog.specs.Places.{IsPlace}
use Rattle.gx_catalog.specs.Catalogs.{Directory, HoldsCatalog, with_heap, with_nulls, without_index, without_table}
use Rattle.gx_catalog.proofs.Changes.{heap_one, heap_set, index_dropped, nulls_one, nulls_set, table_dropped, without_one, without_this}
use Rattle.gx_catalog.proofs.Moves.{Becomes}
use Rattle.gx_catalog.proofs.Stored.{from_beside, to_beside}

pub all_among : {X : Type 0} (Q : X → Type 0) (xs : List X) (x : X) → AllByRecursion Q xs → IsAmong x xs → Q x
all_among Q [] x all among = absurd among
all_among Q (y ∷ xs) x all (inl same) = subst Q same all.0
all_among Q (y ∷ xs) x all (inr later) = all_among Q xs x all.1 later

record Split {X : Type 0} (xs : List X) (x : X) : Type 0 where
  pub front : List X
  pub back : List X
  pub is : xs ≡ front ++ x ∷ back

split : {X : Type 0} (xs : List X) (x : X) → IsAmong x xs → Split xs x
split [] x among = absurd among
split {X} (y ∷ xs) x (inl same) = record { front = []; back = xs; is = ap (λ (z : X). z ∷ xs) same }
split {X} (y ∷ xs) x (inr later) = let rest = split xs x later in record { front = y ∷ rest.front; back = rest.back; is = ap (λ (l : List X). y ∷ l) rest.is }

-- the changed lists are valid
module _ (tables : List TableInfo) (indexes : List IndexInfo) (are : AreCatalog tables indexes) where
  pub heap_valid : (t : TableInfo) (heap : Heap) → IsAmong t tables → IsHeap heap → AreCatalog (with_heap t.number heap tables) indexes
  heap_valid t heap among low =
      let s = split tables t among in
      let valid = subst (λ (l : List TableInfo). AreCatalog l indexes) s.is are in
      subst (λ (l : List TableInfo). AreCatalog l indexes) (sym (ap (λ (l : List TableInfo). with_heap t.number heap l) s.is ∙ heap_one s.front s.back t heap indexes low valid))
      (heap_set s.front s.back t heap indexes low valid)

  pub table_valid : (t : TableInfo) → IsAmong t tables → HasNoIndex t.number indexes → AreCatalog (without_table t.number tables) indexes
  table_valid t among bare =
      let s = split tables t among in
      let valid = subst (λ (l : List TableInfo). AreCatalog l indexes) s.is are in
      subst (λ (l : List TableInfo). AreCatalog l indexes) (sym (ap (λ (l : List TableInfo). without_table t.number l) s.is ∙ without_one s.front s.back t indexes bare valid))
      (table_dropped s.front s.back t indexes bare valid)

  pub nulls_valid : (i : IndexInfo) (nulls : ℕ) → IsAmong i indexes → AreCatalog tables (with_nulls i.name nulls indexes)
  nulls_valid i nulls among =
      let s = split indexes i among in
      let valid = subst (λ (l : List IndexInfo). AreCatalog tables l) s.is are in
      subst (λ (l : List IndexInfo). AreCatalog tables l) (sym (ap (λ (l : List IndexInfo). with_nulls i.name nulls l) s.is ∙ nulls_one tables s.front s.back i nulls valid))
      (nulls_set tables s.front s.back i nulls valid)

  pub index_valid : (i : IndexInfo) → IsAmong i indexes → AreCatalog tables (without_index i.name indexes)
  index_valid i among =
      let s = split indexes i among in
      let valid = subst (λ (l : List IndexInfo). AreCatalog tables l) s.is are in
      subst (λ (l : List IndexInfo). AreCatalog tables l) (sym (ap (λ (l : List IndexInfo). without_index i.name l) s.is ∙ without_this tables s.front s.back i valid))
      (index_dropped tables s.front s.back i valid)

module _ {P : Type 0} (g : Ghosts P) (old mid new : P) (catalog : Directory) (before page slot : ℕ) (was : List ℕ) (map : g.map mid ≡ g.map old) (count : g.count mid ≡ g.count old)
    (found : (chain : Chain) (links : List Link) → chain.first ≡ 1 → Holds (g.map old) (g.count old) 3 chain links → IsPlace links before page slot was)
    (footprint free : List ℕ) (held : HoldsCatalog g old catalog footprint free) where
  abbrev links : List Link
  links = held.stored.links

  abbrev beside : HoldsBeside g old 3 catalog.chain links free × (catalog.chain.first ≡ 1) × (catalog.chain.pages ≡ length links)
  beside = to_beside g old catalog footprint free held

  abbrev place : IsPlace links before page slot was
  place = found catalog.chain links beside.1 beside.0.held

  mid_held : HoldsBeside g mid 3 catalog.chain links free
  mid_held = held_same g old mid 3 catalog.chain links free map count beside.0

  abbrev at : List ℕ → Entry
  at bytes = record { page = page; slot = slot; item = bytes }

  pub replaced_catalog : (tables : List TableInfo) (indexes : List IndexInfo) (is : List ℕ)
      → ((later : List Entry) → later ≡ place.front ++ at is ∷ place.back → Becomes later tables indexes)
      → ((chain : Chain) (links : List Link) (free : List ℕ) (front back : List Entry) (item : List ℕ) → HoldsBeside g mid 3 chain links free → entries_of links ≡ front ++ at item ∷ back
      → (later : List Link) × HoldsBeside g new 3 chain later free × (entries_of later ≡ front ++ at is ∷ back) × (pages_of later ≡ pages_of links)
      × KeepsPages g mid new (pages_of links) free (pages_of links) free)
      → HoldsCatalog g new (record { chain = catalog.chain; tables = tables; indexes = indexes }) footprint free × KeepsPages g old new footprint free footprint free
  replaced_catalog tables indexes is becomes replaced =
      let r = replaced catalog.chain links free place.front place.back was mid_held place.is in
      let b = becomes (entries_of r.0) r.2 in
      let long : length r.0 ≡ length links =
      (let all = ap (λ (l : List ℕ). length l) r.3 in omega (arith, all, length-map r.0 (λ (l : Link). l.0), length-map links (λ (l : Link). l.0))) in
      let stand : pages_of r.0 ≡ footprint = r.3 ∙ sym held.stored.stand in (
        subst (λ (l : List ℕ). HoldsCatalog g new (record { chain = catalog.chain; tables = tables; indexes = indexes }) l free) stand
            (from_beside g new catalog.chain r.0 tables indexes free beside.1 r.1 (beside.2 ∙ sym long) b.spells b.valid),
        feet.keeps_from g old mid new footprint free footprint free map count (subst (λ (l : List ℕ). KeepsPages g mid new l free l free) (sym held.stored.stand) r.4),
      )

  pub removed_catalog : (tables : List TableInfo) (indexes : List IndexInfo) (chain : Chain)
      → ((later : List Entry) → later ≡ place.front ++ place.back → Becomes later tables indexes)
      → chain.first ≡ catalog.chain.first
      → ((links : List Link) (free : List ℕ) (front back : List Entry) (item : List ℕ) → HoldsBeside g mid 3 catalog.chain links free → entries_of links ≡ front ++ at item ∷ back
      → IsBehind before page (pages_of links)
      → (later : List Link) × (rest : List ℕ) × HoldsBeside g new 3 chain later rest × (entries_of later ≡ front ++ back) × KeepsPages g mid new (pages_of links) free (pages_of later) rest
      × (catalog.chain.pages ≡ length links → chain.pages ≡ length later))
      → (later : List ℕ) × (rest : List ℕ) × HoldsCatalog g new (record { chain = chain; tables = tables; indexes = indexes }) later rest × KeepsPages g old new footprint free later rest
  removed_catalog tables indexes chain becomes first removed =
      let r = removed links free place.front place.back was mid_held place.is place.behind in
      let b = becomes (entries_of r.0) r.3 in (
        pages_of r.0,
        r.1,
        from_beside g new chain r.0 tables indexes r.1 (first ∙ beside.1) r.2 (r.5 beside.2) b.spells b.valid,
        feet.keeps_from g old mid new footprint free (pages_of r.0) r.1 map count (subst (λ (l : List ℕ). KeepsPages g mid new l free (pages_of r.0) r.1) (sym held.stored.stand) r.4),
      )

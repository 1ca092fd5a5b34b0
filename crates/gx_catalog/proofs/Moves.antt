-- One item of the chain is replaced or removed.
use Rattle.std.proofs.Common.{◌≡◌, ◌≢◌, ◌⊎◌, inl, inr, ℕ, ◌+◌, List, [], ◌∷◌, ◌++◌, length, map, refl, sym, ◌∙◌, ap, subst, length-append, arith}
use Rattle.std.specs.List.{AllByRecursion}
use Rattle.std.proofs.lemmas.List.{map-append}
use Rattle.gx_words.specs.PageMap.{PageMap}
use Rattle.gx_pages.specs.declared.store.Pages.{Ghosts}
use Rattle.gx_pages.specs.Footprints.{KeepsPages}
use Rattle.gx_pages.proofs.Footprints as feet
use Rattle.gx_chain.specs.declared.chain.Chain.{Chain}
use Rattle.gx_chain.specs.declared.entry.Entry.{Entry}
use Rattle.gx_chain.specs.Chains.{Holds, HoldsBeside, IsBehind, Link, entries_of, pages_of}
use Rattle.gx_chain.proofs.Links.{held_same}
use Rattle.gx_heap.specs.declared.heap.Heap.{Heap}
use Rattle.gx_catalog.specs.declared.info.TableInfo.{TableInfo}
use Rattle.gx_catalog.specs.declared.info.IndexInfo.{IndexInfo}
use Rattle.gx_catalog.specs.declared.info.Item.{Item}
use Rattle.gx_catalog.specs.declared.info.Item.TheVariants.{Table, Index}
use Rattle.gx_bytes.specs.Fields.{le32, le64, length-le64}
use Rattle.gx_bytes.specs.Varints.{field_bytes}
use Rattle.gx_catalog.specs.Items.{FitsItem, Spells, bytes_of, class_bytes, columns_bytes, heap_bytes, index_part, item_bytes, table_part, tables_in, indexes_in}
use Rattle.gx_catalog.specs.Validity.{AreCatalog, HasNoIndex, IsAmong, IsHeap}
use Rattle.gx_catalog.specs.Places.{HasNoItem, IsPlace}
use Rattle.gx_catalog.specs.Catalogs.{Directory, HoldsCatalog, HoldsNoCatalog, with_heap, with_nulls, without_index, without_table}
use Rattle.gx_catalog.proofs.Changes.{heap_one, heap_set, index_dropped, nulls_one, nulls_set, table_dropped, without_one, without_this}
use Rattle.gx_catalog.proofs.Fronts.{item_same}
use Rattle.gx_catalog.proofs.Lengths.{heap_len}
use Rattle.gx_catalog.proofs.Spelled.{bytes_append, indexes_append, tables_append}
use Rattle.gx_catalog.proofs.Stored.{from_beside, to_beside}

-- the item of an entry among the items
record Amid (front back : List Entry) (e : Entry) (items : List Item) : Type 0 where
  pub xs : List Item
  pub y : Item
  pub ys : List Item
  pub cut : items ≡ xs ++ y ∷ ys
  pub here : e.item ≡ item_bytes y
  pub before : bytes_of front ≡ map item_bytes xs
  pub behind : bytes_of back ≡ map item_bytes ys

amid : (front back : List Entry) (e : Entry) (items : List Item) → bytes_of (front ++ e ∷ back) ≡ map item_bytes items → Amid front back e items
amid [] back e [] same = absurd (let never : e.item ∷ bytes_of back ≡ [] = same in cc)
amid [] back e (y ∷ ys) same =
    let head : e.item ≡ item_bytes y = cc in
    let tail : bytes_of back ≡ map item_bytes ys = cc in
    record { xs = []; y = y; ys = ys; cut = refl; here = head; before = refl; behind = tail }
amid (f ∷ front) back e [] same = absurd (let never : f.item ∷ bytes_of (front ++ e ∷ back) ≡ [] = same in cc)
amid (f ∷ front) back e (x ∷ items) same =
    let head : f.item ≡ item_bytes x = cc in
    let tail : bytes_of (front ++ e ∷ back) ≡ map item_bytes items = cc in
    let rest = amid front back e items tail in
    record {
      xs = x ∷ rest.xs;
      y = rest.y;
      ys = rest.ys;
      cut = ap (λ (l : List Item). x ∷ l) rest.cut;
      here = rest.here;
      before = ap (λ (b : List ℕ). b ∷ bytes_of front) head ∙ ap (λ (l : List (List ℕ)). item_bytes x ∷ l) rest.before;
      behind = rest.behind;
    }

-- an item that stands among others, and its entry
pub record Stands (entries : List Entry) (items : List Item) (a : Item) : Type 0 where
  pub front : List Entry
  pub entry : Entry
  pub back : List Entry
  pub cut : entries ≡ front ++ entry ∷ back
  pub is : entry.item ≡ item_bytes a

stands : (entries : List Entry) (xs ys : List Item) (a : Item) → bytes_of entries ≡ map item_bytes (xs ++ a ∷ ys) → Stands entries (xs ++ a ∷ ys) a
stands [] [] ys a same = absurd (let never : [] ≡ item_bytes a ∷ map item_bytes ys = same in cc)
stands [] (x ∷ xs) ys a same = absurd (let never : [] ≡ item_bytes x ∷ map item_bytes (xs ++ a ∷ ys) = same in cc)
stands (e ∷ entries) [] ys a same = let head : e.item ≡ item_bytes a = cc in record { front = []; entry = e; back = entries; cut = refl; is = head }
stands (e ∷ entries) (x ∷ xs) ys a same =
    let tail : bytes_of entries ≡ map item_bytes (xs ++ a ∷ ys) = cc in
    let rest = stands entries xs ys a tail in
    record { front = e ∷ rest.front; entry = rest.entry; back = rest.back; cut = ap (λ (l : List Entry). e ∷ l) rest.cut; is = rest.is }

record Among (items : List Item) (a : Item) : Type 0 where
  pub xs : List Item
  pub ys : List Item
  pub cut : items ≡ xs ++ a ∷ ys

table_among : (items : List Item) (t : TableInfo) → IsAmong t (tables_in items) → Among items (Table t)
table_among [] t among = absurd among
table_among (Table u ∷ items) t (inl same) = record { xs = []; ys = items; cut = ap (λ (v : TableInfo). Table v ∷ items) same }
table_among (Table u ∷ items) t (inr later) = let rest = table_among items t later in record { xs = Table u ∷ rest.xs; ys = rest.ys; cut = ap (λ (l : List Item). Table u ∷ l) rest.cut }
table_among (Index i ∷ items) t among = let rest = table_among items t among in record { xs = Index i ∷ rest.xs; ys = rest.ys; cut = ap (λ (l : List Item). Index i ∷ l) rest.cut }

index_among : (items : List Item) (i : IndexInfo) → IsAmong i (indexes_in items) → Among items (Index i)
index_among [] i among = absurd among
index_among (Index j ∷ items) i (inl same) = record { xs = []; ys = items; cut = ap (λ (v : IndexInfo). Index v ∷ items) same }
index_among (Index j ∷ items) i (inr later) = let rest = index_among items i later in record { xs = Index j ∷ rest.xs; ys = rest.ys; cut = ap (λ (l : List Item). Index j ∷ l) rest.cut }
index_among (Table t ∷ items) i among = let rest = index_among items i among in record { xs = Table t ∷ rest.xs; ys = rest.ys; cut = ap (λ (l : List Item). Table t ∷ l) rest.cut }

module _ {P : Type 0} (g : Ghosts P) (old : P) (catalog : Directory) where
  -- an item that the catalog has is found
  missing : (footprint free : List ℕ) (held : HoldsCatalog g old catalog footprint free) (a : Item) → Among held.stored.spelled.items a → HasNoItem (g.map old) (g.count old) (item_bytes a) → ⊥
  missing footprint free held a among none =
      let b = to_beside g old catalog footprint free held in
      let entries = entries_of held.stored.links in
      let s = stands entries among.xs among.ys a (held.stored.spelled.spelled ∙ ap (λ (l : List Item). map item_bytes l) among.cut) in
      let one : Entry = record { page = s.entry.page; slot = s.entry.slot; item = item_bytes a } in
      none catalog.chain held.stored.links s.front s.back s.entry.page s.entry.slot b.1 b.0.held (s.cut ∙ ap (λ (m : List ℕ). s.front ++ record s.entry { item = m } ∷ s.back) s.is)

  pub missing_table : (t : TableInfo) → IsAmong t catalog.tables → HasNoItem (g.map old) (g.count old) (1 ∷ table_part t) → HoldsNoCatalog g old catalog
  missing_table t among none = λ footprint free held.
      missing footprint free held (Table t) (table_among held.stored.spelled.items t (subst (λ (l : List TableInfo). IsAmong t l) held.stored.spelled.in_tables among)) none

  pub missing_index : (i : IndexInfo) → IsAmong i catalog.indexes → HasNoItem (g.map old) (g.count old) (3 ∷ index_part i) → HoldsNoCatalog g old catalog
  missing_index i among none = λ footprint free held.
      missing footprint free held (Index i) (index_among held.stored.spelled.items i (subst (λ (l : List IndexInfo). IsAmong i l) held.stored.spelled.in_indexes among)) none

-- The items where one is found by its bytes.
pub record Cut (entries front back : List Entry) (e : Entry) (tables : List TableInfo) (indexes : List IndexInfo) (a : Item) (spells : Spells entries tables indexes) : Type 0 where
  pub xs : List Item
  pub ys : List Item
  pub cut : spells.items ≡ xs ++ a ∷ ys
  pub fit : AllByRecursion FitsItem (xs ++ a ∷ ys)
  pub before : bytes_of front ≡ map item_bytes xs
  pub behind : bytes_of back ≡ map item_bytes ys
  pub tables_are : tables ≡ tables_in (xs ++ a ∷ ys)
  pub indexes_are : indexes ≡ indexes_in (xs ++ a ∷ ys)

cut_item : (entries front back : List Entry) (e : Entry) (tables : List TableInfo) (indexes : List IndexInfo) (a : Item) (spells : Spells entries tables indexes) → entries ≡ front ++ e ∷ back
    → e.item ≡ item_bytes a → FitsItem a → Cut entries front back e tables indexes a spells
cut_item entries front back e tables indexes a spells at is fits =
    let m = amid front back e spells.items (ap (λ (l : List Entry). bytes_of l) (sym at) ∙ spells.spelled) in
    let all = subst (λ (l : List Item). AllByRecursion FitsItem l) m.cut spells.fit in
    let one : m.y ≡ a = item_same m.y a (feet.all_right FitsItem m.xs (m.y ∷ m.ys) all).0 fits (sym m.here ∙ is) in
    let cut : spells.items ≡ m.xs ++ a ∷ m.ys = m.cut ∙ ap (λ (z : Item). m.xs ++ z ∷ m.ys) one in
    record {
      xs = m.xs;
      ys = m.ys;
      cut = cut;
      fit = subst (λ (l : List Item). AllByRecursion FitsItem l) cut spells.fit;
      before = m.before;
      behind = m.behind;
      tables_are = spells.in_tables ∙ ap tables_in cut;
      indexes_are = spells.in_indexes ∙ ap indexes_in cut;
    }

module _ (entries front back : List Entry) (e : Entry) (tables : List TableInfo) (indexes : List IndexInfo) (a : Item) (spells : Spells entries tables indexes)
    (c : Cut entries front back e tables indexes a spells) where
  pub spells_other : (later : List Entry) (f : Entry) (b : Item) → later ≡ front ++ f ∷ back → f.item ≡ item_bytes b → FitsItem b
      → Spells later (tables_in (c.xs ++ b ∷ c.ys)) (indexes_in (c.xs ++ b ∷ c.ys))
  spells_other later f b at is fits = record {
    items = c.xs ++ b ∷ c.ys;
    fit = (let behind = feet.all_right FitsItem c.xs (a ∷ c.ys) c.fit in feet.all_join FitsItem c.xs (b ∷ c.ys) (feet.all_left FitsItem c.xs (a ∷ c.ys) c.fit) (fits, behind.1));
    spelled = ap (λ (l : List Entry). bytes_of l) at ∙ bytes_append front (f ∷ back) ∙ ap (λ (l : List (List ℕ)). l ++ f.item ∷ bytes_of back) c.before
        ∙ ap (λ (m : List ℕ). map item_bytes c.xs ++ m ∷ bytes_of back) is ∙ ap (λ (l : List (List ℕ)). map item_bytes c.xs ++ item_bytes b ∷ l) c.behind
        ∙ sym (map-append item_bytes c.xs (b ∷ c.ys));
    in_tables = refl;
    in_indexes = refl;
  }

  pub spells_without : (later : List Entry) → later ≡ front ++ back → Spells later (tables_in (c.xs ++ c.ys)) (indexes_in (c.xs ++ c.ys))
  spells_without later at = record {
    items = c.xs ++ c.ys;
    fit = feet.all_join FitsItem c.xs c.ys (feet.all_left FitsItem c.xs (a ∷ c.ys) c.fit) (feet.all_right FitsItem c.xs (a ∷ c.ys) c.fit).1;
    spelled = ap (λ (l : List Entry). bytes_of l) at ∙ bytes_append front back ∙ ap (λ (l : List (List ℕ)). l ++ bytes_of back) c.before
        ∙ ap (λ (l : List (List ℕ)). map item_bytes c.xs ++ l) c.behind ∙ sym (map-append item_bytes c.xs c.ys);
    in_tables = refl;
    in_indexes = refl;
  }

-- the lists, where a table or an index is in the middle
mid_tables : (xs ys : List Item) (t : TableInfo) → tables_in (xs ++ Table t ∷ ys) ≡ tables_in xs ++ t ∷ tables_in ys
mid_tables xs ys t = tables_append xs (Table t ∷ ys)

mid_indexes : (xs ys : List Item) (i : IndexInfo) → indexes_in (xs ++ Index i ∷ ys) ≡ indexes_in xs ++ i ∷ indexes_in ys
mid_indexes xs ys i = indexes_append xs (Index i ∷ ys)

same_indexes : (xs ys : List Item) (t : TableInfo) → indexes_in (xs ++ Table t ∷ ys) ≡ indexes_in xs ++ indexes_in ys
same_indexes xs ys t = indexes_append xs (Table t ∷ ys)

same_tables : (xs ys : List Item) (i : IndexInfo) → tables_in (xs ++ Index i ∷ ys) ≡ tables_in xs ++ tables_in ys
same_tables xs ys i = tables_append xs (Index i ∷ ys)

-- What comes of a catalog: these lists, spelled by these entries.
pub record Becomes (later : List Entry) (tables : List TableInfo) (indexes : List IndexInfo) : Type 0 where
  pub spells : Spells later tables indexes
  pub valid : AreCatalog tables indexes

becomes_at : (later : List Entry) (tables others : List TableInfo) (indexes more : List IndexInfo) → tables ≡ others → indexes ≡ more → Spells later tables indexes → AreCatalog others more → Becomes later others more
becomes_at later tables others indexes more one two spells valid =
    record { spells = subst (λ (l : List TableInfo). Spells later l more) one (subst (λ (l : List IndexInfo). Spells later tables l) two spells); valid = valid }

valid_at : (tables others : List TableInfo) (indexes more : List IndexInfo) → tables ≡ others → indexes ≡ more → AreCatalog tables indexes → AreCatalog others more
valid_at tables others indexes more one two valid = subst (λ (l : List TableInfo). AreCatalog l more) one (subst (λ (l : List IndexInfo). AreCatalog tables l) two valid)

module _ (entries front back : List Entry) (e : Entry) (tables : List TableInfo) (indexes : List IndexInfo) (spells : Spells entries tables indexes) (are : AreCatalog tables indexes)
    (at : entries ≡ front ++ e ∷ back) (later : List Entry) where
  module _ (t : TableInfo) (is : e.item ≡ item_bytes (Table t)) (fits : FitsItem (Table t)) where
    abbrev c : Cut entries front back e tables indexes (Table t) spells
    c = cut_item entries front back e tables indexes (Table t) spells at is fits

    tables_cut : tables ≡ tables_in c.xs ++ t ∷ tables_in c.ys
    tables_cut = c.tables_are ∙ mid_tables c.xs c.ys t

    valid_cut : AreCatalog (tables_in c.xs ++ t ∷ tables_in c.ys) indexes
    valid_cut = subst (λ (l : List TableInfo). AreCatalog l indexes) tables_cut are

    pub heap_becomes : (heap : Heap) (f : Entry) → IsHeap heap → f.item ≡ item_bytes (Table (record t { heap = heap })) → FitsItem (Table (record t { heap = heap })) → later ≡ front ++ f ∷ back
        → Becomes later (with_heap t.number heap tables) indexes
    heap_becomes heap f low put fit then =
        let u : TableInfo = record t { heap = heap } in
        let now : with_heap t.number heap tables ≡ tables_in c.xs ++ u ∷ tables_in c.ys =
        ap (λ (l : List TableInfo). with_heap t.number heap l) tables_cut ∙ heap_one (tables_in c.xs) (tables_in c.ys) t heap indexes low valid_cut in
        becomes_at later (tables_in (c.xs ++ Table u ∷ c.ys)) (with_heap t.number heap tables) (indexes_in (c.xs ++ Table u ∷ c.ys)) indexes
        (mid_tables c.xs c.ys u ∙ sym now) (same_indexes c.xs c.ys u ∙ sym (same_indexes c.xs c.ys t) ∙ sym c.indexes_are)
        (spells_other entries front back e tables indexes (Table t) spells c later f (Table u) then put fit)
        (subst (λ (l : List TableInfo). AreCatalog l indexes) (sym now) (heap_set (tables_in c.xs) (tables_in c.ys) t heap indexes low valid_cut))

    pub table_becomes : HasNoIndex t.number indexes → later ≡ front ++ back → Becomes later (without_table t.number tables) indexes
    table_becomes bare then =
        let now : without_table t.number tables ≡ tables_in c.xs ++ tables_in c.ys =
        ap (λ (l : List TableInfo). without_table t.number l) tables_cut ∙ without_one (tables_in c.xs) (tables_in c.ys) t indexes bare valid_cut in
        becomes_at later (tables_in (c.xs ++ c.ys)) (without_table t.number tables) (indexes_in (c.xs ++ c.ys)) indexes
        (tables_append c.xs c.ys ∙ sym now) (indexes_append c.xs c.ys ∙ sym (same_indexes c.xs c.ys t) ∙ sym c.indexes_are)
        (spells_without entries front back e tables indexes (Table t) spells c later then)
        (subst (λ (l : List TableInfo). AreCatalog l indexes) (sym now) (table_dropped (tables_in c.xs) (tables_in c.ys) t indexes bare valid_cut))

  module _ (i : IndexInfo) (is : e.item ≡ item_bytes (Index i)) (fits : FitsItem (Index i)) where
    abbrev d : Cut entries front back e tables indexes (Index i) spells
    d = cut_item entries front back e tables indexes (Index i) spells at is fits

    indexes_cut : indexes ≡ indexes_in d.xs ++ i ∷ indexes_in d.ys
    indexes_cut = d.indexes_are ∙ mid_indexes d.xs d.ys i

    valid_index : AreCatalog tables (indexes_in d.xs ++ i ∷ indexes_in d.ys)
    valid_index = subst (λ (l : List IndexInfo). AreCatalog tables l) indexes_cut are

    pub nulls_becomes : (nulls : ℕ) (f : Entry) → f.item ≡ item_bytes (Index (record i { nulls = nulls })) → FitsItem (Index (record i { nulls = nulls })) → later ≡ front ++ f ∷ back
        → Becomes later tables (with_nulls i.name nulls indexes)
    nulls_becomes nulls f put fit then =
        let j : IndexInfo = record i { nulls = nulls } in
        let now : with_nulls i.name nulls indexes ≡ indexes_in d.xs ++ j ∷ indexes_in d.ys =
        ap (λ (l : List IndexInfo). with_nulls i.name nulls l) indexes_cut ∙ nulls_one tables (indexes_in d.xs) (indexes_in d.ys) i nulls valid_index in
        becomes_at later (tables_in (d.xs ++ Index j ∷ d.ys)) tables (indexes_in (d.xs ++ Index j ∷ d.ys)) (with_nulls i.name nulls indexes)
        (same_tables d.xs d.ys j ∙ sym (same_tables d.xs d.ys i) ∙ sym d.tables_are) (mid_indexes d.xs d.ys j ∙ sym now)
        (spells_other entries front back e tables indexes (Index i) spells d later f (Index j) then put fit)
        (subst (λ (l : List IndexInfo). AreCatalog tables l) (sym now) (nulls_set tables (indexes_in d.xs) (indexes_in d.ys) i nulls valid_index))

    pub index_becomes : later ≡ front ++ back → Becomes later tables (without_index i.name indexes)
    index_becomes then =
        let now : without_index i.name indexes ≡ indexes_in d.xs ++ indexes_in d.ys =
        ap (λ (l : List IndexInfo). without_index i.name l) indexes_cut ∙ without_this tables (indexes_in d.xs) (indexes_in d.ys) i valid_index in
        becomes_at later (tables_in (d.xs ++ d.ys)) tables (indexes_in (d.xs ++ d.ys)) (without_index i.name indexes)
        (tables_append d.xs d.ys ∙ sym (same_tables d.xs d.ys i) ∙ sym d.tables_are) (indexes_append d.xs d.ys ∙ sym now)
        (spells_without entries front back e tables indexes (Index i) spells d later then)
        (subst (λ (l : List IndexInfo). AreCatalog tables l) (sym now) (index_dropped tables (indexes_in d.xs) (indexes_in d.ys) i valid_index))

-- the lengths of items that differ in fields of one size
pub heap_length : (t : TableInfo) (heap : Heap) → length (1 ∷ table_part t) ≡ length (1 ∷ table_part (record t { heap = heap }))
unfolding table_part
heap_length t heap =
    let behind : List ℕ = columns_bytes t.columns ++ field_bytes t.name in
    omega (
      arith,
      length-append (le32 t.number) (heap_bytes t.heap ++ behind),
      length-append (le32 t.number) (heap_bytes heap ++ behind),
      length-append (heap_bytes t.heap) behind,
      length-append (heap_bytes heap) behind,
      heap_len t.heap,
      heap_len heap,
    )

pub nulls_length : (i : IndexInfo) (nulls : ℕ) → length (3 ∷ index_part i) ≡ length (3 ∷ index_part (record i { nulls = nulls }))
unfolding index_part
nulls_length i nulls =
    let class : List ℕ = class_bytes i.column i.class i.parameter in
    let one : List ℕ = le64 i.nulls ++ field_bytes i.name in
    let two : List ℕ = le64 nulls ++ field_bytes i.name in
    omega (
      arith,
      length-append (le32 i.table) (class ++ (le64 i.root ++ one)),
      length-append (le32 i.table) (class ++ (le64 i.root ++ two)),
      length-append class (le64 i.root ++ one),
      length-append class (le64 i.root ++ two),
      length-append (le64 i.root) one,
      length-append (le64 i.root) two,
      length-append (le64 i.nulls) (field_bytes i.name),
      length-append (le64 nulls) (field_bytes i.name),
      length-le64 i.nulls,
      length-le64 nulls,
    )

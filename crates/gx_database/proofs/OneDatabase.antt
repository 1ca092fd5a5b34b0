-- A map stands for at most one database.
use Rattle.std.proofs.Common.{◌≡◌, ℕ, List, [], ◌∷◌, map, Option, refl, sym, ◌∙◌, ap, subst}
use Rattle.std.specs.List.{AllByRecursion, AllZip}
use Rattle.gx_words.specs.PageMap.{PageMap}
use Rattle.gx_chain.specs.Chains.{Link}
use Rattle.gx_chain.proofs.Links.{one_list}
use Rattle.gx_heap.specs.declared.heap.Heap.{Heap}
use Rattle.gx_heap.specs.Heaps as heaps
use Rattle.gx_catalog.specs.declared.info.TableInfo.{TableInfo}
use Rattle.gx_value.specs.declared.fields.Column.{Column}
use Rattle.gx_value.specs.declared.types.ColumnType.{ColumnType}
use Rattle.gx_value.specs.Rows.{SpellsRow}
use Rattle.gx_value.specs.Values.{Datum}
use Rattle.gx_model.specs.Database.{Database, Table, Row, Index}
use Rattle.gx_database.specs.Heaps.{Stored, StoresHeap}
use Rattle.gx_database.specs.Standing.{SpellsStored, IsStored, AreStored, StandsFor}

abbrev pub OneRow : Type 0
OneRow = (kinds : List ColumnType) (bytes : List ℕ) (a b : List (Option Datum)) → SpellsRow kinds bytes a → SpellsRow kinds bytes b → a ≡ b

same_stored : (pages : PageMap) (count other : ℕ) (s r : Stored) → StoresHeap pages count s → StoresHeap pages other r → s.heap ≡ r.heap → s.rows ≡ r.rows
same_stored pages count other s r h k e =
    let first = sym h.held.first ∙ ap (λ (x : Heap). x.first) e ∙ k.held.first in
    h.spelled ∙ ap (λ (links : List Link). heaps.rows_of links) (one_list pages 2 h.links k.links h.held.linked k.held.linked first) ∙ sym k.spelled

abbrev row_by : ℕ → List (Option Datum) → Row
row_by number fields = record { number = number; fields = fields }

same_row : (n m : ℕ) (a b : List (Option Datum)) → n ≡ m → a ≡ b → row_by n a ≡ row_by m b
same_row n m a b e f = rw (e, f) refl

more_rows : (r q : Row) (rows others : List Row) → r ≡ q → rows ≡ others → r ∷ rows ≡ q ∷ others
more_rows r q rows others e f = rw (e, f) refl

abbrev table_by : List ℕ → List Column → ℕ → List Row → Table
table_by name columns next rows = record { name = name; columns = columns; next = next; rows = rows }

made : (t u : Table) → t.name ≡ u.name → t.columns ≡ u.columns → t.next ≡ u.next → t.rows ≡ u.rows → table_by t.name t.columns t.next t.rows ≡ table_by u.name u.columns u.next u.rows
made t u a b c d = rw (a, b, c, d) refl

more_tables : (t u : Table) (ts us : List Table) → t ≡ u → ts ≡ us → t ∷ ts ≡ u ∷ us
more_tables t u ts us e f = rw (e, f) refl

abbrev database_by : List Table → List Index → Database
database_by tables indexes = record { tables = tables; indexes = indexes }

made_database : (ts us : List Table) (is js : List Index) → ts ≡ us → is ≡ js → database_by ts is ≡ database_by us js
made_database ts us is js e f = rw (e, f) refl

none : (i : TableInfo) (is : List TableInfo) → i ∷ is ≡ [] → ⊥
none i is h = cc

same_rows : OneRow → (columns : List Column) (rows others : List Row) (stored : List heaps.Row) → AllZip (SpellsStored columns) rows stored → AllZip (SpellsStored columns) others stored → rows ≡ others
same_rows one columns [] [] stored h k = refl
same_rows one columns [] (q ∷ others) [] h k = absurd k
same_rows one columns [] (q ∷ others) (s ∷ stored) h k = absurd h
same_rows one columns (r ∷ rows) others [] h k = absurd h
same_rows one columns (r ∷ rows) [] (s ∷ stored) h k = absurd k
same_rows one columns (r ∷ rows) (q ∷ others) (s ∷ stored) h k =
    more_rows r q rows others (same_row r.number q.number r.fields q.fields (sym h.0.number ∙ k.0.number) (one (map (λ c. c.kind) columns) s.1 r.fields q.fields h.0.spelled k.0.spelled))
    (same_rows one columns rows others stored h.1 k.1)

same_table : OneRow → (pages : PageMap) (count other : ℕ) (t u : Table) (i : TableInfo) (s r : Stored) → StoresHeap pages count s → StoresHeap pages other r → IsStored t i s → IsStored u i r → t ≡ u
same_table one pages count other t u i s r a b h k =
    let columns : t.columns ≡ u.columns = sym h.columns ∙ k.columns in
    let heap : s.heap ≡ r.heap = sym h.heap ∙ k.heap in
    let next : t.next ≡ u.next = sym h.next ∙ ap (λ (x : Heap). x.next) heap ∙ k.next in
    let stored : s.rows ≡ r.rows = same_stored pages count other s r a b heap in
    let first : AllZip (SpellsStored u.columns) t.rows s.rows = subst (λ (cs : List Column). AllZip (SpellsStored cs) t.rows s.rows) columns h.rows in
    let second : AllZip (SpellsStored u.columns) t.rows r.rows = subst (λ (rows : List heaps.Row). AllZip (SpellsStored u.columns) t.rows rows) stored first in
    made t u (sym h.name ∙ k.name) columns next (same_rows one u.columns t.rows u.rows r.rows second k.rows)

same_tables : OneRow → (pages : PageMap) (count other : ℕ) (ts us : List Table) (infos : List TableInfo) (a b : List Stored) → AllByRecursion (StoresHeap pages count) a → AllByRecursion (StoresHeap pages other) b
    → AreStored ts infos a → AreStored us infos b → ts ≡ us
same_tables one pages count other [] [] infos a b p q h k = refl
same_tables one pages count other [] (u ∷ us) [] a b p q h k = absurd k
same_tables one pages count other [] (u ∷ us) (i ∷ infos) a b p q h k = absurd (none i infos h.0)
same_tables one pages count other (t ∷ ts) us [] a b p q h k = absurd h
same_tables one pages count other (t ∷ ts) us (i ∷ infos) [] b p q h k = absurd h
same_tables one pages count other (t ∷ ts) [] (i ∷ infos) (s ∷ a) b p q h k = absurd (none i infos k.0)
same_tables one pages count other (t ∷ ts) (u ∷ us) (i ∷ infos) (s ∷ a) [] p q h k = absurd k
same_tables one pages count other (t ∷ ts) (u ∷ us) (i ∷ infos) (s ∷ a) (r ∷ b) p q h k =
    more_tables t u ts us (same_table one pages count other t u i s r p.0 q.0 h.0 k.0) (same_tables one pages count other ts us infos a b p.1 q.1 h.1 k.1)

pub one_database : OneRow → (pages : PageMap) (a b : Database) (h : StandsFor pages a) (k : StandsFor pages b) → h.infos ≡ k.infos → a ≡ b
one_database one pages a b h k infos =
    let tables : a.tables ≡ b.tables = same_tables one pages h.count k.count a.tables b.tables k.infos h.stored k.stored h.parts.stored k.parts.stored
    (subst (λ (is : List TableInfo). AreStored a.tables is h.stored) infos h.tables) k.tables in
    made_database a.tables b.tables a.indexes b.indexes tables (h.valid.no_index ∙ sym k.valid.no_index)

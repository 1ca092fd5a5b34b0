-- What each accepted statement leaves, and what it costs.
use Rattle.std.proofs.Common.{◌≡◌, inl, inr, ℕ, ◌+◌, ◌*◌, ◌^◌, ◌<◌, ◌≤◌, ◌||◌, nat_le, nat_lt, Bool, true, false, List, [], ◌∷◌, ◌++◌, length, codes, Option, Some, None, refl, sym, ◌∙◌, ap, subst, arith}
use Rattle.std.specs.Prelude.{is_some, IsSomeAnd}
use Rattle.std.specs.Fmt.{decimal}
use Rattle.std.specs.List.{AllZip}
use Rattle.gx_pages.specs.declared.store.Pages.{Ghosts}
use Rattle.gx_pages.specs.Footprints.{KeepsPages}
use Rattle.gx_heap.specs.declared.heap.Heap.{Heap}
use Rattle.gx_heap.specs.Heaps as heaps
use Rattle.gx_heap.specs.Heaps.{AreUsed, HoldsHeap}
use Rattle.gx_catalog.specs.declared.info.TableInfo.{TableInfo}
use Rattle.gx_catalog.specs.Catalogs.{Directory, HoldsCatalog, with_heap, without_table as without_info}
use Rattle.gx_catalog.specs.Validity.{table_named as info_named}
use Rattle.gx_parse.specs.declared.statement.ColumnWord.{ColumnWord}
use Rattle.gx_parse.specs.declared.statement.Given.{Given}
use Rattle.gx_parse.specs.Said.{Said, CreateTable, DropTable, Insert, Vacuum}
use Rattle.gx_parse.specs.Sound.{IsSound}
use Rattle.gx_value.specs.declared.fields.Column.{Column}
use Rattle.gx_value.specs.Values.{Datum}
use Rattle.gx_target.specs.Encoded.{Encode}
use Rattle.gx_model.specs.Checks.{Check, Find}
use Rattle.gx_model.specs.Database.{Database, Index, Table, indexes_on, table_named, with_rows, with_table, without_table}
use Rattle.gx_model.specs.Growth.{growth_of_rows, pages_each}
use Rattle.gx_model.specs.Faults.{found_checks, insert_checks, new_column_checks}
use Rattle.gx_model.specs.Replies.{Reply, accepted, line}
use Rattle.gx_model.specs.Steps.{Costs, Inserts, Stepped, Steps, done, grown, new_table, with_new_table}
use Rattle.gx_database.specs.Heaps.{Stored}
use Rattle.gx_database.specs.Standing.{AreStored, IsStored, SpellsStored}
use Rattle.gx_engine.specs.Vacuumed.{IsVacuumed}
use Rattle.gx_step.specs.Doing.{Done, LacksRoom}
use Rattle.gx_change.specs.Appended.{AreNumbered}
use Rattle.gx_step.specs.Opened.{Opened}
use Rattle.gx_change.proofs.Changed.{table_added, table_changed, table_dropped, table_vacuumed}
use Rattle.gx_step.proofs.Found.{FindsNone, FindsTables}
use Rattle.gx_step.proofs.Loading.{IsTold}
use Rattle.gx_change.proofs.Frame.{HasTable}
use Rattle.gx_change.proofs.Names.{StaysValid, has_short_names}
use Rattle.gx_change.proofs.NewRows.{numbers_fit, reads_length, spelled_more, zip_join, zip_length}

-- a statement steps a database in one way
abbrev pub OneStep : Type 0
OneStep = (db : Database) (said : Said) (a b : Stepped) → Steps db said a → Steps db said b → a ≡ b

never : (k : ℕ) → Some k ≡ None → ⊥
never k e = cc

-- an INSERT of these rows, and a table that was made
abbrev inserted : Database → List ℕ → Table → List (List Given) → List (List (Option Datum)) → Stepped
inserted db name t rows added = grown (with_table db name (with_rows t added)) (codes "INSERT 0 " ++ decimal (length rows)) (growth_of_rows (indexes_on db name) added)

abbrev created : Database → List ℕ → List ColumnWord → Stepped
created db name columns = grown (with_new_table db name columns) (codes "CREATE TABLE") pages_each

-- a row may add a page at least
row_each : (indexes : List Index) (rows : List (List (Option Datum))) → length rows ≤ growth_of_rows indexes rows
row_each indexes [] = omega arith
row_each indexes (row ∷ rows) = let rest = row_each indexes rows in omega (arith, rest)

positive : (n : ℕ) → 0 < n → n ≤ 0 → ⊥
positive n some none = omega (arith, some, none)

-- The checks of a statement on a table that is there.
pub checks_at : (db : Database) (name : List ℕ) (t : Table) (more : Table → List Check) (found : Option ℕ) → table_named db name ≡ Some t → Find (more t) found → Find (found_checks (table_named db name) more) found
checks_at db name t more found named none = subst (λ (o : Option Table). Find (found_checks o more) found) (sym named) none

at_table : (db : Database) (name : List ℕ) (t : Table) (Q : Table → Type 0) → table_named db name ≡ Some t → IsSomeAnd (table_named db name) Q → Q t
at_table db name t Q named some = subst (λ (o : Option Table). IsSomeAnd o Q) named some

of_table : (db : Database) (name : List ℕ) (t : Table) (Q : Table → Type 0) → table_named db name ≡ Some t → Q t → IsSomeAnd (table_named db name) Q
of_table db name t Q named is = subst (λ (o : Option Table). IsSomeAnd o Q) (sym named) is

-- no check of a name alone finds a fault of a table that is there
no_fault : (db : Database) (name : List ℕ) (t : Table) (k : ℕ) → table_named db name ≡ Some t → Find (found_checks (table_named db name) (λ (u : Table). [])) (Some k) → ⊥
no_fault db name t k named find = never k (subst (λ (o : Option Table). Find (found_checks o (λ (u : Table). [])) (Some k)) named find)

-- E2 comes where the catalog finds no table.
pub missing : {P : Type 0} (g : Ghosts P) → FindsNone → (pages : P) (db : Database) (catalog : Directory) (name : List ℕ) (more : Table → List Check) → Opened g pages db catalog
    → info_named name catalog.tables ≡ None → Find (found_checks (table_named db name) more) (Some 2)
missing g finds pages db catalog name more o none =
    subst (λ (t : Option Table). Find (found_checks t more) (Some 2)) (sym (finds db catalog.tables o.heaps name o.tables none)) (inr (2, (refl, refl), refl))

-- E3 comes where it finds one.
pub present : {P : Type 0} (g : Ghosts P) → FindsTables → (pages : P) (db : Database) (catalog : Directory) (name : List ℕ) (info : TableInfo) → Opened g pages db catalog
    → info_named name catalog.tables ≡ Some info → is_some (table_named db name) ≡ true
present g finds pages db catalog name info o found = ap is_some ((finds db catalog.tables o.heaps name info o.tables found).1)

stored_length : (ts : List Table) (infos : List TableInfo) (stored : List Stored) → AreStored ts infos stored → length infos ≡ length ts
stored_length [] infos stored are = ap (λ (l : List TableInfo). length l) are.0
stored_length (t ∷ ts) [] stored are = absurd are
stored_length (t ∷ ts) (i ∷ infos) [] are = absurd are
stored_length (t ∷ ts) (i ∷ infos) (s ∷ stored) are = let rest = stored_length ts infos stored are.1 in omega (arith, rest)

-- the catalog has as many tables as the database
pub as_many : {P : Type 0} (g : Ghosts P) (pages : P) (db : Database) (catalog : Directory) (columns : ℕ) (b : Bool) → Opened g pages db catalog
    → (nat_le 256 (length catalog.tables) || nat_lt 32 columns) ≡ b → (nat_le 256 (length db.tables) || nat_lt 32 columns) ≡ b
as_many g pages db catalog columns b o same =
    subst (λ (n : ℕ). (nat_le 256 n || nat_lt 32 columns) ≡ b) (stored_length db.tables catalog.tables o.heaps o.tables) same

pub vacuum_cost : (db : Database) (name : List ℕ) (t : Table) (n : ℕ) → table_named db name ≡ Some t → Costs db (Vacuum name) n → n ≡ 2 * (t.next + 1)
vacuum_cost db name t n named (inl cost) = absurd (no_fault db name t cost.0 named cost.1)
vacuum_cost db name t n named (inr cost) = at_table db name t (λ (u : Table). n ≡ 2 * (u.next + 1)) named cost.1

pub drop_cost : (db : Database) (name : List ℕ) (t : Table) (n : ℕ) → table_named db name ≡ Some t → Costs db (DropTable name) n → n ≡ t.next + 1
drop_cost db name t n named (inl cost) = absurd (no_fault db name t cost.0 named cost.1)
drop_cost db name t n named (inr cost) = at_table db name t (λ (u : Table). n ≡ u.next + 1) named cost.1

-- the same columns and rows, said of a table
pub read_at : (t : Table) (columns : List Column) (listed : Option (List (List ℕ))) (rows given : List (List Given)) (bytes : List (List ℕ)) → t.columns ≡ columns → given ≡ rows
    → Find (insert_checks listed given t) None × Encode columns listed given bytes → Find (insert_checks listed rows t) None × Encode t.columns listed rows bytes
read_at t columns listed rows given bytes same equal read =
    subst (λ (r : List (List Given)). Find (insert_checks listed r t) None × Encode t.columns listed r bytes) equal
    (read.0, subst (λ (cs : List Column). Encode cs listed given bytes) (sym same) read.1)

-- as many rows as are given, none too long, and their numbers are numbers of rows
pub rows_are_few : (t : Table) (listed : Option (List (List ℕ))) (rows : List (List Given)) (bytes : List (List ℕ)) → t.next ≤ 2 ^ 48
    → Find (insert_checks listed rows t) None × Encode t.columns listed rows bytes → (length bytes ≡ length rows) × (t.next + length bytes ≤ 2 ^ 48)
rows_are_few t listed rows bytes most read =
    let many : length bytes ≡ length read.1.added = zip_length _ bytes read.1.added read.1.spelled in
    let added : length read.1.added ≡ length rows = reads_length t.columns _ rows read.1.added read.1.read in
    let fit = numbers_fit t listed rows most read.0 in
    (many ∙ added, omega (arith, many, added, fit))

module _ {P : Type 0} (g : Ghosts P) where
  -- the next number of a table's heap
  pub next_of : (pages : P) (db : Database) (catalog : Directory) (name : List ℕ) (info : TableInfo) (t : HasTable g pages db catalog name info) → info.heap.next ≡ t.table.next
  next_of pages db catalog name info t = ap (λ (h : Heap). h.next) t.here.heap ∙ t.here.next

  pub vacuum_done : (old first mid last : P) (db : Database) (catalog next : Directory) (name : List ℕ) (info : TableInfo) (t : HasTable g first db catalog name info) → info.name ≡ name
      → IsTold g mid → IsTold g last → (heap : Heap) → heap.next ≡ info.heap.next
      → ((rows : List heaps.Row) (feet free : List ℕ) → HoldsHeap g first info.heap rows feet free
      → (later rest : List ℕ) × HoldsHeap g mid heap rows later rest × AreUsed later rows × KeepsPages g first mid feet free later rest)
      → HoldsHeap g first info.heap t.place.stored.rows t.place.stored.feet t.holds.free
      → ((feet free : List ℕ) → HoldsCatalog g mid catalog feet free → HoldsCatalog g last next feet free × KeepsPages g mid last feet free feet free)
      → next.tables ≡ with_heap info.number heap catalog.tables → next.indexes ≡ catalog.indexes → g.count last ≡ g.count old
      → (reply : Reply) → reply ≡ accepted (line (codes "VACUUM")) → Done g old last (Vacuum name) db reply
  vacuum_done old first mid last db catalog next name info t named told_mid told heap number kept held set tables indexes count reply is =
      let vacuumed = kept t.place.stored.rows t.place.stored.feet t.holds.free held in
      let stored : IsStored t.table (record info { heap = heap }) (record { heap = heap; rows = t.place.stored.rows; feet = vacuumed.0 }) =
      record { name = t.here.name; columns = t.here.columns; heap = refl; next = number ∙ next_of first db catalog name info t; rows = t.here.rows } in
      let left : IsVacuumed (g.map last) db name =
      table_vacuumed g first mid last db catalog next name info t named told_mid told heap t.place.stored.rows vacuumed.0 vacuumed.1 vacuumed.2 vacuumed.4 set tables indexes stored vacuumed.3 in
      record {
        stepped = done db (codes "VACUUM");
        steps = inr (checks_at db name t.table (λ (u : Table). []) None t.named refl, refl);
        answered = sym is;
        stands = left.stands;
        grows = omega (arith, count);
        vacuumed = λ accepted. left;
      }

  pub drop_done : StaysValid → (old first mid last : P) (db : Database) (catalog next : Directory) (name : List ℕ) (info : TableInfo) (t : HasTable g first db catalog name info) → info.name ≡ name
      → IsTold g mid → IsTold g last → (rest : List ℕ) → KeepsPages g first mid t.place.stored.feet t.holds.free [] rest
      → ((feet free : List ℕ) → HoldsCatalog g mid catalog feet free → (later left : List ℕ) × HoldsCatalog g last next later left × KeepsPages g mid last feet free later left)
      → next.tables ≡ without_info info.number catalog.tables → next.indexes ≡ catalog.indexes → g.count last ≡ g.count old
      → (reply : Reply) → reply ≡ accepted (line (codes "DROP TABLE")) → Done g old last (DropTable name) db reply
  drop_done stays old first mid last db catalog next name info t named told_mid told rest keeps drops tables indexes count reply is =
      let after : Stepped = done (without_table db name) (codes "DROP TABLE") in
      let steps : Steps db (DropTable name) after = inr (checks_at db name t.table (λ (u : Table). []) None t.named refl, refl) in
      record {
        stepped = after;
        steps = steps;
        answered = sym is;
        stands = table_dropped g first mid last db catalog next name info t named told_mid told rest keeps drops tables indexes (stays db (DropTable name) after t.valid tt steps);
        grows = omega (arith, count);
        vacuumed = tt;
      }

  -- INSERT

  pub insert_steps : (pages : P) (db : Database) (catalog : Directory) (name : List ℕ) (info : TableInfo) (t : HasTable g pages db catalog name info) → info.name ≡ name
      → (listed : Option (List (List ℕ))) (rows : List (List Given)) (bytes : List (List ℕ)) → Find (insert_checks listed rows t.table) None → (encoded : Encode t.table.columns listed rows bytes)
      → Steps db (Insert name listed rows) (inserted db name t.table rows encoded.added)
  insert_steps pages db catalog name info t named listed rows bytes none encoded =
      let after : Stepped = inserted db name t.table rows encoded.added in
      let same : t.table.name ≡ name = sym t.here.name ∙ named in
      let inserts : Inserts db listed rows after t.table = (encoded.added, encoded.read, ap (λ (n : List ℕ). inserted db n t.table rows encoded.added) (sym same)) in
      inr (checks_at db name t.table (insert_checks listed rows) None t.named none, of_table db name t.table (Inserts db listed rows after) t.named inserts)

  pub insert_done : StaysValid → (old first mid last : P) (db : Database) (catalog next : Directory) (name : List ℕ) (info : TableInfo) (t : HasTable g first db catalog name info) → info.name ≡ name
      → IsTold g mid → IsTold g last → (listed : Option (List (List ℕ))) (rows : List (List Given)) (bytes : List (List ℕ)) → Find (insert_checks listed rows t.table) None → Encode t.table.columns listed rows bytes
      → (heap : Heap) → heap.next ≡ info.heap.next + length bytes → (more : List heaps.Row) (later rest : List ℕ) → HoldsHeap g mid heap (t.place.stored.rows ++ more) later rest
      → KeepsPages g first mid t.place.stored.feet t.holds.free later rest → AreNumbered info.heap.next bytes more
      → ((feet free : List ℕ) → HoldsCatalog g mid catalog feet free → HoldsCatalog g last next feet free × KeepsPages g mid last feet free feet free)
      → next.tables ≡ with_heap info.number heap catalog.tables → next.indexes ≡ catalog.indexes → g.count last ≤ g.count old + length bytes
      → (reply : Reply) → reply ≡ accepted (line (codes "INSERT 0 " ++ decimal (length rows))) → Done g old last (Insert name listed rows) db reply
  insert_done stays old first mid last db catalog next name info t named told_mid told listed rows bytes none encoded heap number more later rest held keeps numbered set tables indexes count reply is =
      let new : Table = with_rows t.table encoded.added in
      let after : Stepped = inserted db name t.table rows encoded.added in
      let steps : Steps db (Insert name listed rows) after = insert_steps first db catalog name info t named listed rows bytes none encoded in
      let first_number : info.heap.next ≡ t.table.next = next_of first db catalog name info t in
      let many : length bytes ≡ length encoded.added = zip_length _ bytes encoded.added encoded.spelled in
      let spelled : AllZip (SpellsStored t.table.columns) new.rows (t.place.stored.rows ++ more) =
      zip_join (SpellsStored t.table.columns) t.table.rows _ t.place.stored.rows more t.here.rows
      (spelled_more t.table.columns t.table.next bytes encoded.added more encoded.spelled (subst (λ (n : ℕ). AreNumbered n bytes more) first_number numbered)) in
      let stored : IsStored new (record info { heap = heap }) (record { heap = heap; rows = t.place.stored.rows ++ more; feet = later }) =
      record { name = t.here.name; columns = t.here.columns; heap = refl; next = omega (arith, number, first_number, many); rows = spelled } in
      record {
        stepped = after;
        steps = steps;
        answered = sym is;
        stands = table_changed g first mid last db catalog next name info t named told_mid told heap (t.place.stored.rows ++ more) later rest new held keeps set tables indexes stored
            (stays db (Insert name listed rows) after t.valid tt steps);
        grows = omega (arith, count, many, row_each (indexes_on db name) encoded.added);
        vacuumed = tt;
      }

  pub insert_lacks_room : (pages : P) (db : Database) (catalog : Directory) (name : List ℕ) (info : TableInfo) (t : HasTable g pages db catalog name info) → info.name ≡ name
      → (listed : Option (List (List ℕ))) (rows : List (List Given)) (bytes : List (List ℕ)) → Find (insert_checks listed rows t.table) None → Encode t.table.columns listed rows bytes
      → (count : ℕ) → 0 < length bytes → 2 ^ 50 ≤ count + length bytes → LacksRoom count (Insert name listed rows) db
  insert_lacks_room pages db catalog name info t named listed rows bytes none encoded count some full =
      let many : length bytes ≡ length encoded.added = zip_length _ bytes encoded.added encoded.spelled in
      let more : length encoded.added ≤ growth_of_rows (indexes_on db name) encoded.added = row_each (indexes_on db name) encoded.added in
      record {
        stepped = inserted db name t.table rows encoded.added;
        steps = insert_steps pages db catalog name info t named listed rows bytes none encoded;
        accepted = refl;
        grows = λ none. positive (length bytes) some (omega (arith, many, more, none));
        full = omega (arith, full, many, more);
      }

  -- where its rows are read, it may add a page for each
  pub insert_grows : OneStep → (pages : P) (db : Database) (catalog : Directory) (name : List ℕ) (info : TableInfo) (t : HasTable g pages db catalog name info) → info.name ≡ name
      → (listed : Option (List (List ℕ))) (rows : List (List Given)) (bytes : List (List ℕ)) → Find (insert_checks listed rows t.table) None → Encode t.table.columns listed rows bytes
      → (stepped : Stepped) → Steps db (Insert name listed rows) stepped → (old new : ℕ) → new ≤ old + length bytes → new ≤ old + stepped.growth
  insert_grows one pages db catalog name info t named listed rows bytes none encoded stepped steps old new count =
      let many : length bytes ≡ length encoded.added = zip_length _ bytes encoded.added encoded.spelled in
      let more : length encoded.added ≤ growth_of_rows (indexes_on db name) encoded.added = row_each (indexes_on db name) encoded.added in
      let after : Stepped = inserted db name t.table rows encoded.added in
      let same : after ≡ stepped = one db (Insert name listed rows) after stepped (insert_steps pages db catalog name info t named listed rows bytes none encoded) steps in
      subst (λ (s : Stepped). new ≤ old + s.growth) same (omega (arith, count, many, more))

  -- CREATE TABLE

  pub create_steps : (db : Database) (name : List ℕ) (columns : List ColumnWord) → table_named db name ≡ None → (nat_le 256 (length db.tables) || nat_lt 32 (length columns)) ≡ false
      → Find (new_column_checks [] columns) None → Steps db (CreateTable name columns) (created db name columns)
  create_steps db name columns absent few none = inr (inl (ap is_some absent, inl (few, none)), refl)

  -- where no check finds a fault, it may add two pages
  pub create_grows : OneStep → (db : Database) (name : List ℕ) (columns : List ColumnWord) → table_named db name ≡ None → (nat_le 256 (length db.tables) || nat_lt 32 (length columns)) ≡ false
      → Find (new_column_checks [] columns) None → (stepped : Stepped) → Steps db (CreateTable name columns) stepped → (old new : ℕ) → new ≤ old + 2 → new ≤ old + stepped.growth
  create_grows one db name columns absent few none stepped steps old new count =
      let after : Stepped = created db name columns in
      let same : after ≡ stepped = one db (CreateTable name columns) after stepped (create_steps db name columns absent few none) steps in
      subst (λ (s : Stepped). new ≤ old + s.growth) same (omega (arith, count))

  pub create_lacks_room : (db : Database) (name : List ℕ) (columns : List ColumnWord) → table_named db name ≡ None → (nat_le 256 (length db.tables) || nat_lt 32 (length columns)) ≡ false
      → Find (new_column_checks [] columns) None → (count : ℕ) → 2 ^ 50 ≤ count + 2 → LacksRoom count (CreateTable name columns) db
  create_lacks_room db name columns absent few none count full = record {
    stepped = created db name columns;
    steps = create_steps db name columns absent few none;
    accepted = refl;
    grows = omega arith;
    full = omega (arith, full);
  }

  pub create_done : StaysValid → (old first mid last : P) (db : Database) (catalog next : Directory) (o : Opened g first db catalog) (name : List ℕ) (columns : List ColumnWord) → IsSound (CreateTable name columns)
      → table_named db name ≡ None → (nat_le 256 (length db.tables) || nat_lt 32 (length columns)) ≡ false → Find (new_column_checks [] columns) None
      → IsTold g mid → IsTold g last → (info : TableInfo) (feet rest : List ℕ) → info.name ≡ name → info.columns ≡ (new_table name columns).columns → info.heap.next ≡ 1
      → HoldsHeap g mid info.heap [] feet rest → KeepsPages g first mid [] o.holds.free feet rest
      → ((feet free : List ℕ) → HoldsCatalog g mid catalog feet free → (later left : List ℕ) × HoldsCatalog g last next later left × KeepsPages g mid last feet free later left)
      → next.tables ≡ catalog.tables ++ info ∷ [] → next.indexes ≡ catalog.indexes → g.count last ≤ g.count old + 2
      → (reply : Reply) → reply ≡ accepted (line (codes "CREATE TABLE")) → Done g old last (CreateTable name columns) db reply
  create_done stays old first mid last db catalog next o name columns sound absent few none told_mid told info feet rest named same number held keeps adds tables indexes count reply is =
      let after : Stepped = created db name columns in
      let steps : Steps db (CreateTable name columns) after = create_steps db name columns absent few none in
      let stored : IsStored (new_table name columns) info (record { heap = info.heap; rows = []; feet = feet }) = record { name = named; columns = same; heap = refl; next = number; rows = tt } in
      record {
        stepped = after;
        steps = steps;
        answered = sym is;
        stands = table_added g first mid last db catalog next o told_mid told info (new_table name columns) feet rest held keeps adds tables indexes stored
            (stays db (CreateTable name columns) after o.valid (has_short_names name columns sound) steps);
        grows = omega (arith, count);
        vacuumed = tt;
      }

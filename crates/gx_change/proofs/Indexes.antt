-- The fault of CREATE INDEX, and of DROP INDEX.
use Rattle.std.proofs.Common.{◌≡◌, inl, inr, ℕ, Bool, true, false, cond, ◌||◌, List, [], length, nat_le, codes, IsUtf8, Bor, Option, Some, None, refl, sym, ◌∙◌, ap, subst}
use Rattle.std.specs.Prelude.{bytes_eq, is_none, is_some, option_and_then, option_copied}
use Rattle.std.proofs.lemmas.Slice.Eq.{bytes_eq-Decides}
use Rattle.gx_catalog.specs.declared.info.TableInfo.{TableInfo}
use Rattle.gx_catalog.specs.Validity.{table_named as info_named}
use Rattle.gx_value.specs.declared.classes.Method.{Method}
use Rattle.gx_value.specs.declared.fields.Column.{Column}
use Rattle.gx_value.specs.declared.types.ColumnType.{ColumnType}
use Rattle.gx_value.specs.Classes.{method_named}
use Rattle.gx_parse.specs.declared.statement.Parameter.{Parameter}
use Rattle.gx_parse.specs.Said.{CreateIndex, DropIndex}
use Rattle.gx_model.specs.Checks.{Find}
use Rattle.gx_model.specs.Classes.{class_among, class_chosen, classes}
use Rattle.gx_model.specs.Conditions.{column_checks}
use Rattle.gx_model.specs.Database.{Database, Index, Table, column_named, index_named, indexes_on, most_indexes, table_named}
use Rattle.gx_model.specs.Faults.{checks, class_checks, found_checks, new_index_checks}
use Rattle.gx_database.specs.Heaps.{Stored}
use Rattle.gx_database.specs.Standing.{AreStored}
use Rattle.gx_change.specs.Faults.{index_fault_of}
use Rattle.gx_step.proofs.Found.{FindsNone, FindsTables}

-- no class is chosen, since there is none
chosen_step : (kind : ColumnType) (class : Option (List ℕ)) (m : Option Method) → option_and_then (λ (n : Method). class_among classes n kind class) m ≡ None
chosen_step kind class None = refl
chosen_step kind (Some word) (Some m) = refl
chosen_step kind None (Some m) = refl

chosen_none : (kind : ColumnType) (method : List ℕ) (class : Option (List ℕ)) → class_chosen kind method class ≡ None
chosen_none kind method class = chosen_step kind class (method_named method)

class_step : (method : List ℕ) (class : Option (List ℕ)) (parameter : Option Parameter) (c : Column) (b : Bool) → (is_some class || is_none (method_named method)) ≡ b
    → Find (class_checks method class parameter c) (Some (cond b 14 19))
class_step method class parameter c true same =
    let none : is_none (class_chosen c.kind method class) ≡ true = ap is_none (chosen_none c.kind method class) in
    inr (14, (rw (none, same) refl, refl), refl)
class_step method class parameter c false same =
    let none : is_none (class_chosen c.kind method class) ≡ true = ap is_none (chosen_none c.kind method class) in
    inl (rw (none, same) refl, inr (19, (none, refl), refl))

column_step : (method : List ℕ) (class : Option (List ℕ)) (parameter : Option Parameter) (columns : List Column) (name : List ℕ) (o : Option Column) → column_named columns name ≡ o
    → Find (column_checks columns name (class_checks method class parameter)) (Some (cond (is_none o) 4 (cond (is_some class || is_none (method_named method)) 14 19)))
column_step method class parameter columns name None same = rw same (inr (4, (refl, refl), refl))
column_step method class parameter columns name (Some c) same = rw same (class_step method class parameter c (is_some class || is_none (method_named method)) refl)

table_step : (db : Database) (name method column : List ℕ) (class : Option (List ℕ)) (parameter : Option Parameter) (t : Table) → db.indexes ≡ []
    → Find (new_index_checks db name method column class parameter t) (Some (cond (is_none (column_named t.columns column)) 4 (cond (is_some class || is_none (method_named method)) 14 19)))
table_step db name method column class parameter t bare =
    let no_index : is_some (index_named db name) ≡ false = ap (λ (l : List Index). is_some (index_named (record db { indexes = l }) name)) bare in
    let few : nat_le most_indexes (length (indexes_on db t.name)) ≡ false = ap (λ (l : List Index). nat_le most_indexes (length (indexes_on (record db { indexes = l }) t.name))) bare in
    inl (no_index, inl (few, column_step method class parameter t.columns column (column_named t.columns column) refl))

pub index_fault_found : FindsTables → FindsNone → (db : Database) (infos : List TableInfo) (stored : List Stored) (name table method column : List ℕ) (class : Option (List ℕ)) (parameter : Option Parameter)
    (o : Option TableInfo) → AreStored db.tables infos stored → db.indexes ≡ [] → info_named table infos ≡ o
    → Find (checks db (CreateIndex name table method column class parameter)) (Some (index_fault_of o method column (is_some class)))
index_fault_found finds finds_none db infos stored name table method column class parameter None are bare same =
    let none : table_named db table ≡ None = finds_none db infos stored table are same in
    subst (λ (t : Option Table). Find (found_checks t (new_index_checks db name method column class parameter)) (Some 2)) (sym none) (inr (2, (refl, refl), refl))
index_fault_found finds finds_none db infos stored name table method column class parameter (Some info) are bare same =
    let found = finds db infos stored table info are same in
    let columns : found.0.columns ≡ info.columns = sym (found.2.here.columns) ∙ ap (λ (i : TableInfo). i.columns) found.3 in
    let fault : List Column → ℕ = λ cs. cond (is_none (column_named cs column)) 4 (cond (is_some class || is_none (method_named method)) 14 19) in
    subst (λ (t : Option Table). Find (found_checks t (new_index_checks db name method column class parameter)) (Some (fault info.columns))) (sym found.1)
    (subst (λ (cs : List Column). Find (new_index_checks db name method column class parameter found.0) (Some (fault cs))) columns (table_step db name method column class parameter found.0 bare))

pub no_index_found : (db : Database) (name : List ℕ) → db.indexes ≡ [] → Find (checks db (DropIndex name)) (Some 12)
no_index_found db name bare = inr (12, (ap (λ (l : List Index). is_none (index_named (record db { indexes = l }) name)) bare, refl), refl)

pub copied_some : {T : Type 0} (o : Option (Bor T)) → is_some (option_copied o) ≡ is_some o
copied_some None = refl
copied_some (Some b) = refl

-- The names of methods are text.
no_method_step : (word : List ℕ) (a b : Bool) → bytes_eq word (codes "gist") ≡ a → bytes_eq word (codes "gin") ≡ b → (IsUtf8 word → ⊥) → method_named word ≡ None
unfolding lib.Utf8.encode
no_method_step word true b first second never =
    let text : IsUtf8 (codes "gist") = (codes "gist", (refl, refl)) in
    absurd (never (subst IsUtf8 (sym ((bytes_eq-Decides word (codes "gist")).0 first)) text))
no_method_step word false true first second never =
    let text : IsUtf8 (codes "gin") = (codes "gin", (refl, refl)) in
    absurd (never (subst IsUtf8 (sym ((bytes_eq-Decides word (codes "gin")).0 second)) text))
no_method_step word false false first second never = rw (first, second) refl

pub no_method : (word : List ℕ) → (IsUtf8 word → ⊥) → method_named word ≡ None
no_method word never = no_method_step word (bytes_eq word (codes "gist")) (bytes_eq word (codes "gin")) refl refl never

-- The checks of each statement, in the order in which its faults come.
use Rattle.std.specs.Prelude.{ℕ, ◌==◌, nat_le, nat_lt, suc, Bool, true, false, not, ◌||◌, ◌&&◌, List, [], ◌∷◌, ◌++◌, length, map, Option, None, Some, is_none, is_some}
use Rattle.std.specs.List.{list_any}
use Rattle.std.specs.Str.{bytes_eq}
use Rattle.gx_value.specs.declared.types.ColumnType.{ColumnType}
use Rattle.gx_value.specs.declared.types.OperandType.{OperandType}
use Rattle.gx_value.specs.declared.classes.Class.{Class}
use Rattle.gx_value.specs.Classes.{method_named}
use Rattle.gx_value.specs.Types.{column_named as column_type_named, same_operand, as_operand}
use Rattle.gx_parse.specs.declared.statement.ColumnWord.{ColumnWord}
use Rattle.gx_parse.specs.declared.statement.Given.{Given}
use Rattle.gx_parse.specs.declared.statement.Parameter.{Parameter}
use Rattle.gx_parse.specs.declared.statement.TypeWord.{TypeWord}
use Rattle.gx_parse.specs.Said.{Said, Query, Nothing, CreateTable, DropTable, CreateIndex, DropIndex, Insert, Delete, Select, Explain, Vacuum, Checkpoint, Begin, Commit, Rollback}
use Rattle.gx_model.specs.Checks.{Check, fault_where, is_value, fits}
use Rattle.gx_model.specs.Classes.{class_chosen, parameter_chosen}
use Rattle.gx_model.specs.Conditions.{cast_type, is_unknown_type, column_checks, where_checks}
use Rattle.gx_value.specs.declared.fields.Column.{Column}
use Rattle.gx_model.specs.Database.{Database, Table, table_named, index_named, column_named, indexes_on, most_tables, most_columns, most_indexes, end_of_numbers}
use Rattle.gx_model.specs.Values.{named}

abbrev pub found_checks : Option Table → (Table → List Check) → List Check
found_checks None more = fault_where 2 true ∷ []
found_checks (Some t) more = more t

-- E2; then, where there is such a table, the checks with it
abbrev pub table_checks : Database → List ℕ → (Table → List Check) → List Check
table_checks db name more = found_checks (table_named db name) more

-- CREATE TABLE

-- the column type that a word names
abbrev pub type_of : TypeWord → Option ColumnType
type_of w = column_type_named w.word w.list

-- for each column E5, where its name stands before, and E6
abbrev pub new_column_checks : List (List ℕ) → List ColumnWord → List Check
new_column_checks before [] = []
new_column_checks before (c ∷ cs) =
    fault_where 5 (list_any (bytes_eq c.name) before) ∷ fault_where 6 (is_none (type_of c.kind)) ∷ new_column_checks (before ++ c.name ∷ []) cs

-- E3, E16, and then the columns
abbrev pub new_table_checks : Database → List ℕ → List ColumnWord → List Check
new_table_checks db name columns =
    fault_where 3 (is_some (table_named db name)) ∷
    fault_where 16 (nat_le most_tables (length db.tables) || nat_lt most_columns (length columns)) ∷
    new_column_checks [] columns

-- CREATE INDEX

abbrev pub parameter_checks : Option Parameter → Option Class → List Check
parameter_checks parameter None = []
parameter_checks parameter (Some class) = fault_where 15 (is_none (parameter_chosen class parameter)) ∷ []

-- E14, where the method is none or the class isn't one for it and the type; E19, where no class is given and there is no default; E15
abbrev pub class_checks : List ℕ → Option (List ℕ) → Option Parameter → Column → List Check
class_checks method class parameter c =
    fault_where 14 (is_none (class_chosen c.kind method class) && (is_some class || is_none (method_named method))) ∷
    fault_where 19 (is_none (class_chosen c.kind method class)) ∷
    parameter_checks parameter (class_chosen c.kind method class)

-- E13, E16, E4, and then the class
abbrev pub new_index_checks : Database → List ℕ → List ℕ → List ℕ → Option (List ℕ) → Option Parameter → Table → List Check
new_index_checks db name method column class parameter t =
    fault_where 13 (is_some (index_named db name)) ∷
    fault_where 16 (nat_le most_indexes (length (indexes_on db t.name))) ∷
    column_checks t.columns column (class_checks method class parameter)

-- INSERT

-- for each listed name E4, and E5 where it stands before
abbrev pub listed_checks : List Column → List (List ℕ) → List (List ℕ) → List Check
listed_checks columns before [] = []
listed_checks columns before (name ∷ names) =
    fault_where 4 (is_none (column_named columns name)) ∷ fault_where 5 (list_any (bytes_eq name) before) ∷ listed_checks columns (before ++ name ∷ []) names

abbrev pub list_checks : List Column → Option (List (List ℕ)) → List Check
list_checks columns None = []
list_checks columns (Some names) = listed_checks columns [] names

-- how many values a row has to have: as many as names are listed, or as the first row has
abbrev pub width_of : Option (List (List ℕ)) → List (List Given) → ℕ
width_of (Some names) rows = length names
width_of None [] = 0
width_of None (row ∷ rows) = length row

-- E7, where some row has more values than there are columns, or another number
abbrev pub is_of_other_width : List Column → ℕ → List Given → Bool
is_of_other_width columns width row = nat_lt (length columns) (length row) || not (length row == width)

abbrev pub width_check : List Column → Option (List (List ℕ)) → List (List Given) → Check
width_check columns listed rows = fault_where 7 (list_any (is_of_other_width columns (width_of listed rows)) rows)

-- the cast names a type, and not the column's
abbrev pub is_other_type : ColumnType → Option OperandType → Bool
is_other_type kind None = false
is_other_type kind (Some t) = not (same_operand t (as_operand kind))

-- of a value E6, E8 where it is cast to another type, and the literal's fault
abbrev pub value_checks : Column → Given → List Check
value_checks c g = fault_where 6 (is_unknown_type g.cast) ∷ fault_where 8 (is_other_type c.kind (cast_type g.cast)) ∷ is_value c.kind g.literal ∷ []

-- the values of a row, each with the column that it is for
abbrev pub values_checks : List Column → List Given → List Check
values_checks (c ∷ cs) (g ∷ gs) = value_checks c g ++ values_checks cs gs
values_checks _ _ = []

-- row by row: its values, and then E10, and E21 for its number
abbrev pub rows_checks : List Column → List Column → ℕ → List (List Given) → List Check
rows_checks columns targets number [] = []
rows_checks columns targets number (row ∷ rows) =
    values_checks targets row ++ fits columns targets row ∷ fault_where 21 (nat_le end_of_numbers number) ∷ rows_checks columns targets (suc number) rows

-- the listed names, E7 over all rows, and then the rows
abbrev pub insert_checks : Option (List (List ℕ)) → List (List Given) → Table → List Check
insert_checks listed rows t =
    list_checks t.columns listed ++ width_check t.columns listed rows ∷ rows_checks t.columns (named t.columns listed) t.next rows

-- SELECT

-- E4 of the select list
abbrev pub asked_checks : List Column → Option (List (List ℕ)) → List Check
asked_checks columns None = []
asked_checks columns (Some names) = map (λ name. fault_where 4 (is_none (column_named columns name))) names

abbrev pub query_checks : Database → Query → List Check
query_checks db q = table_checks db q.table (λ t. asked_checks t.columns q.columns ++ where_checks t.columns q.condition)

-- the checks of a statement
abbrev pub checks : Database → Said → List Check
checks db Nothing = []
checks db (CreateTable name columns) = new_table_checks db name columns
checks db (DropTable name) = table_checks db name (λ t. [])
checks db (CreateIndex name table method column class parameter) = table_checks db table (new_index_checks db name method column class parameter)
checks db (DropIndex name) = fault_where 12 (is_none (index_named db name)) ∷ []
checks db (Insert table listed rows) = table_checks db table (insert_checks listed rows)
checks db (Delete table condition) = table_checks db table (λ t. where_checks t.columns condition)
checks db (Select q) = query_checks db q
checks db (Explain q) = query_checks db q
checks db (Vacuum table) = table_checks db table (λ t. [])
checks db Checkpoint = []
checks db Begin = []
checks db Commit = []
checks db Rollback = []

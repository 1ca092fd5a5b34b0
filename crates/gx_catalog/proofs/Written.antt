-- What is pushed piece by piece.
use Rattle.std.proofs.Common.{◌≡◌, ℕ, ◌+◌, ◌<◌, zero, suc, List, [], ◌∷◌, ◌++◌, length, take, get_or, refl, sym, ◌∙◌, ap, append_assoc, append-nil, arith}
use Rattle.std.specs.List.{flat_map}
use Rattle.gx_bytes.specs.Fields.{le16, le32, le64}
use Rattle.gx_bytes.specs.Varints.{field_bytes}
use Rattle.gx_value.specs.Classes.{class_number}
use Rattle.gx_value.specs.Types.{type_number}
use Rattle.gx_value.specs.declared.classes.Class.{Class}
use Rattle.gx_value.specs.declared.fields.Column.{Column}
use Rattle.gx_catalog.specs.declared.info.TableInfo.{TableInfo}
use Rattle.gx_catalog.specs.declared.info.IndexInfo.{IndexInfo}
use Rattle.gx_catalog.specs.Items.{class_bytes, column_bytes, columns_bytes, heap_bytes, index_part, table_part}

pub class_written : (to one two three : List ℕ) (column number parameter : ℕ) (class : Class) → number ≡ class_number class → one ≡ to ++ column ∷ [] → two ≡ one ++ number ∷ [] → three ≡ two ++ le16 parameter
    → three ≡ to ++ class_bytes column class parameter
unfolding class_bytes
class_written to one two three column number parameter class is first second third =
    third ∙ ap (λ (l : List ℕ). l ++ le16 parameter) (second ∙ ap (λ (l : List ℕ). l ++ number ∷ []) first)
    ∙ append_assoc (to ++ column ∷ []) (number ∷ []) (le16 parameter) ∙ append_assoc to (column ∷ []) (number ∷ le16 parameter)
    ∙ ap (λ (n : ℕ). to ++ column ∷ n ∷ le16 parameter) is

pub column_written : (to one two : List ℕ) (number : ℕ) (column : Column) → number ≡ type_number column.kind → one ≡ to ++ number ∷ [] → two ≡ one ++ field_bytes column.name → two ≡ to ++ column_bytes column
unfolding column_bytes
column_written to one two number column is first second =
    second ∙ ap (λ (l : List ℕ). l ++ field_bytes column.name) first ∙ append_assoc to (number ∷ []) (field_bytes column.name) ∙ ap (λ (n : ℕ). to ++ n ∷ field_bytes column.name) is

pub columns_written : (to one two : List ℕ) (count : ℕ) (columns : List Column) → count ≡ length columns → one ≡ to ++ count ∷ [] → two ≡ one ++ flat_map column_bytes columns → two ≡ to ++ columns_bytes columns
unfolding columns_bytes
columns_written to one two count columns is first second =
    second ∙ ap (λ (l : List ℕ). l ++ flat_map column_bytes columns) first ∙ append_assoc to (count ∷ []) (flat_map column_bytes columns) ∙ ap (λ (n : ℕ). to ++ n ∷ flat_map column_bytes columns) is

-- one more column
flat_more : (columns : List Column) (k : ℕ) (column : Column) → k < length columns → column ≡ get_or columns k column → flat_map column_bytes (take (suc k) columns) ≡ flat_map column_bytes (take k columns) ++ column_bytes column
flat_more [] k column below is = absurd (omega arith)
flat_more (c ∷ columns) zero column below is = append-nil (column_bytes c) ∙ ap column_bytes (sym is)
flat_more (c ∷ columns) (suc k) column below is =
    ap (λ (l : List ℕ). column_bytes c ++ l) (flat_more columns k column (omega arith) is) ∙ sym (append_assoc (column_bytes c) (flat_map column_bytes (take k columns)) (column_bytes column))

pub each_written : (to now later : List ℕ) (columns : List Column) (k n : ℕ) (column : Column) → n ≡ suc k → k < length columns → column ≡ get_or columns k column
    → now ≡ to ++ flat_map column_bytes (take k columns) → later ≡ now ++ column_bytes column → later ≡ to ++ flat_map column_bytes (take n columns)
each_written to now later columns k n column at below is before pushed =
    pushed ∙ ap (λ (l : List ℕ). l ++ column_bytes column) before ∙ append_assoc to (flat_map column_bytes (take k columns)) (column_bytes column)
    ∙ ap (λ (l : List ℕ). to ++ l) (sym (flat_more columns k column below is)) ∙ ap (λ (m : ℕ). to ++ flat_map column_bytes (take m columns)) (sym at)

pub table_written : (one two three four five : List ℕ) (t : TableInfo) → one ≡ [] ++ 1 ∷ [] → two ≡ one ++ le32 t.number → three ≡ two ++ heap_bytes t.heap → four ≡ three ++ columns_bytes t.columns
    → five ≡ four ++ field_bytes t.name → five ≡ 1 ∷ table_part t
unfolding table_part
table_written one two three four five t a b c d e =
    e ∙ ap (λ (l : List ℕ). l ++ field_bytes t.name) (d ∙ ap (λ (l : List ℕ). l ++ columns_bytes t.columns) (c ∙ ap (λ (l : List ℕ). l ++ heap_bytes t.heap) (b ∙ ap (λ (l : List ℕ). l ++ le32 t.number) a)))
    ∙ append_assoc ((1 ∷ le32 t.number) ++ heap_bytes t.heap) (columns_bytes t.columns) (field_bytes t.name)
    ∙ append_assoc (1 ∷ le32 t.number) (heap_bytes t.heap) (columns_bytes t.columns ++ field_bytes t.name)

pub index_written : (one two three four five six : List ℕ) (i : IndexInfo) → one ≡ [] ++ 3 ∷ [] → two ≡ one ++ le32 i.table → three ≡ two ++ class_bytes i.column i.class i.parameter → four ≡ three ++ le64 i.root
    → five ≡ four ++ le64 i.nulls → six ≡ five ++ field_bytes i.name → six ≡ 3 ∷ index_part i
unfolding index_part
index_written one two three four five six i a b c d e f =
    let head : List ℕ = 3 ∷ le32 i.table in
    let class : List ℕ = class_bytes i.column i.class i.parameter in
    f ∙ ap (λ (l : List ℕ). l ++ field_bytes i.name)
    (e ∙ ap (λ (l : List ℕ). l ++ le64 i.nulls) (d ∙ ap (λ (l : List ℕ). l ++ le64 i.root) (c ∙ ap (λ (l : List ℕ). l ++ class) (b ∙ ap (λ (l : List ℕ). l ++ le32 i.table) a))))
    ∙ append_assoc ((head ++ class) ++ le64 i.root) (le64 i.nulls) (field_bytes i.name)
    ∙ append_assoc (head ++ class) (le64 i.root) (le64 i.nulls ++ field_bytes i.name)
    ∙ append_assoc head class (le64 i.root ++ (le64 i.nulls ++ field_bytes i.name))

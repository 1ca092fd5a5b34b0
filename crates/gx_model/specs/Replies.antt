-- The bytes of replies.
use Rattle.std.specs.Prelude.{ℕ, ◌==◌, if◌then◌else◌, List, [], ◌∷◌, ◌++◌, map, codes, Option, None, Some}
use Rattle.std.specs.Fmt.{decimal}
use Rattle.std.specs.List.{flat_map, join_with_byte}
use Rattle.gx_value.specs.declared.types.ColumnType.{ColumnType}
use Rattle.gx_value.specs.Rows.{printed}
use Rattle.gx_value.specs.Values.{Datum}
use Rattle.gx_value.specs.declared.fields.Column.{Column}
use Rattle.gx_model.specs.Database.{Row}
use Rattle.gx_model.specs.Values.{value_for}

-- What a piece of a script is answered: the bytes of its lines, and the number of the fault where it is refused. A piece without a statement is
-- answered with no bytes.
pub record Reply : Type 0 where
  pub bytes : List ℕ
  pub fault : Option ℕ

-- a text and a line feed
abbrev pub line : List ℕ → List ℕ
line text = text ++ 10 ∷ []

abbrev pub accepted : List ℕ → Reply
accepted bytes = record { bytes = bytes; fault = None }

-- the reply of a refused piece
abbrev pub refusal : ℕ → Reply
refusal n = record { bytes = line (codes "ERROR E" ++ decimal n); fault = Some n }

-- the grammar fails at this place
abbrev pub syntax_error : ℕ → Reply
syntax_error at = record { bytes = line (codes "ERROR E1 AT " ++ decimal at); fault = Some 1 }

-- A byte of a field as COPY writes it (manual of PostgreSQL 16, COPY, "Text Format"): some bytes as a backslash and a letter or sign.
abbrev pub escaped_byte : ℕ → List ℕ
escaped_byte b =
    if b == 92 then 92 ∷ 92 ∷ []
    else (if b == 8 then 92 ∷ 98 ∷ []
    else (if b == 12 then 92 ∷ 102 ∷ []
    else (if b == 10 then 92 ∷ 110 ∷ []
    else (if b == 13 then 92 ∷ 114 ∷ []
    else (if b == 9 then 92 ∷ 116 ∷ []
    else (if b == 11 then 92 ∷ 118 ∷ []
    else b ∷ []))))))

-- the printed value with its escapes; `\N` for NULL
abbrev pub field_text : ColumnType → Option Datum → List ℕ
field_text kind None = 92 ∷ 78 ∷ []
field_text kind (Some value) = flat_map escaped_byte (printed kind value)

-- a row's line: the fields of the asked columns, in the order asked, with tabs between them
abbrev pub row_line : List Column → List Column → Row → List ℕ
row_line columns asked row = line (join_with_byte 9 (map (λ c. field_text c.kind (value_for c.name columns row.fields)) asked))

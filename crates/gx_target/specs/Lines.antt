-- The lines of rows.
use Rattle.std.specs.Prelude.{ℕ, List, map, Option}
use Rattle.std.specs.List.{join_with_byte}
use Rattle.gx_value.specs.declared.fields.Column.{Column}
use Rattle.gx_value.specs.Values.{Datum}
use Rattle.gx_model.specs.Replies.{field_text}
use Rattle.gx_model.specs.Values.{value_for}

-- the fields of the asked columns, as a row's line has them
abbrev pub fields_text : List Column → List Column → List (Option Datum) → List ℕ
fields_text columns asked fields = join_with_byte 9 (map (λ c. field_text c.kind (value_for c.name columns fields)) asked)

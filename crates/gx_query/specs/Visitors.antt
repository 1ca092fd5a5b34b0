-- What visitors are after one more row.
use Rattle.std.specs.Prelude.{ℕ, ◌<◌, List, [], ◌∷◌, ◌++◌, length, map}
use Rattle.std.specs.List.{AllByRecursion}
use Rattle.gx_pages.specs.declared.row.RowRef.{RowRef}
use Rattle.gx_value.specs.declared.fields.Column.{Column}
use Rattle.gx_model.specs.Database.{AreDistinct}
use Rattle.gx_model.specs.Replies.{row_line}
use Rattle.gx_target.specs.Places.{columns_at}
use Rattle.gx_query.specs.declared.visitors.Lines.{Lines}
use Rattle.gx_query.specs.Seen.{Seen, row_seen}

-- The names of the columns differ, and the lines ask for columns that are there.
pub record HasPlaces (lines : Lines) (columns : List Column) : Type 0 where
  pub distinct : AreDistinct (map (λ c. c.name) columns)
  pub there : AllByRecursion (λ place. place < length columns) lines.places.items

-- the line of a row
unfoldable pub line_of : List Column → List ℕ → Seen → List ℕ
line_of columns places seen = row_line columns (columns_at columns places) (row_seen seen)

-- one more line
abbrev pub with_line : List Column → Lines → Seen → Lines
with_line columns lines seen = record lines { bytes = lines.bytes ++ line_of columns lines.places.items seen }

-- one more row
abbrev pub with_row : List Column → List RowRef → Seen → List RowRef
with_row columns rows seen = rows ++ seen.0 ∷ []

-- The rows of an index whose value isn't NULL, on pages.
use Rattle.std.specs.Prelude.{◌≡◌, ℕ, List, map}
use Rattle.std.specs.List.{AllByRecursion}
use Rattle.gx_words.specs.PageMap.{PageMap}
use Rattle.gx_pages.specs.declared.row.RowRef.{RowRef}
use Rattle.gx_pages.specs.Rows.{IsRising}
use Rattle.gx_catalog.specs.Validity.{IsAmong}
use Rattle.gx_value.specs.Values.{Datum}
use Rattle.gx_gist.specs.declared.class.GistClass.{Ghosts}
use Rattle.gx_gist_tree.specs.OnPages.{Whole, Holds, entries_of, footprint}

-- a row, and its value in the column of the index
abbrev pub Valued : Type 0
Valued = RowRef × Datum

-- where rows with their values stand
abbrev pub places_of : {V : Type 0} → List (RowRef × V) → List RowRef
places_of rows = map (λ row. row.0) rows

-- each element of a list is one of the other
pub record HaveSame {X : Type 0} (xs ys : List X) : Type 0 where
  pub there : AllByRecursion (λ x. IsAmong x ys) xs
  pub back : AllByRecursion (λ y. IsAmong y xs) ys

-- The map holds a tree of the class below a root page, on these pages. Its entries, of which no two have one row, are these rows with the
-- keys of their values. Rows stand by rising numbers; the function says what a value of the class is among the values of columns.
pub record HoldsKeys {C V Q K : Type 0} (g : Ghosts C V Q K) (class : C) (datum : V → Datum) (pages : PageMap) (count root : ℕ) (rows : List Valued) (feet : List ℕ) : Type 0 where
  pub values : List (RowRef × V)
  pub are : rows ≡ map (λ row. (row.0, datum row.1)) values
  pub valid : AllByRecursion (λ row. g.valid_value class row.1) values
  pub rising : IsRising (places_of values)
  pub tree : Whole K
  pub held : Holds g class pages count root tree
  pub stand : feet ≡ footprint tree
  pub keys : HaveSame (map (λ row. (row.0, g.leaf_of class row.1)) values) (entries_of tree)

-- Which queries are valid.
use Rattle.std.specs.Prelude.{◌≡◌, ◌<◌, true, false, [], length}
use Rattle.std.specs.List.{AllByRecursion}
use Rattle.gx_lquery.specs.declared.query.LqueryItem.{LqueryItem}
use Rattle.gx_lquery.specs.declared.query.Lquery.{Lquery}

-- `*` has no variants and isn't negated; any other item has a variant
pub record IsItem (item : LqueryItem) : Type 0 where
  pub star : item.star ≡ true → (item.negated ≡ false) × (item.variants ≡ [])
  pub words : item.star ≡ false → 0 < length item.variants

abbrev pub IsLquery : Lquery → Type 0
IsLquery query = AllByRecursion IsItem query.items

-- Paths are lists of labels (PostgreSQL 16, F.23).
use Rattle.std.specs.Prelude.{ℕ, ◌≤◌, List, length}
use Rattle.std.specs.List.{AllByRecursion}
use Rattle.gx_ltree.specs.Label.{IsLabel}

-- at most 65,535 labels
pub record IsPath (path : List (List ℕ)) : Type 0 where
  pub labels : AllByRecursion IsLabel path
  pub most : length path ≤ 65535

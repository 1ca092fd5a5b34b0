-- The places of a path that some items reach, and those from which one more item's group may begin.
use Rattle.std.specs.Prelude.{◌≡◌, ℕ, suc, ◌+◌, ◌-◌, ◌<◌, ◌≤◌, ◌↔◌, Bool, true, false, List, [], length, take, drop, slice_index_or, Option, None, Some}
use Rattle.gx_lquery.specs.declared.query.LqueryItem.{LqueryItem}
use Rattle.gx_lquery.specs.Matching.{IsAtMost, MatchesItem, FitsItem}

-- the row has the place
abbrev pub IsOpen : List Bool → ℕ → Type 0
IsOpen row place = slice_index_or row place false ≡ true

-- the first place alone
pub record IsFirstRow (count : ℕ) (row : List Bool) : Type 0 where
  pub long : length row ≡ count + 1
  pub first : IsOpen row 0
  pub others : (place : ℕ) → IsOpen row (suc place) → ⊥

-- a group of the item begins at a place of the row and ends at this one
pub record GroupEnds (item : LqueryItem) (path : List (List ℕ)) (row : List Bool) (at : ℕ) : Type 0 where
  pub from : ℕ
  pub open_from : IsOpen row from
  pub before : from ≤ at
  pub fits : FitsItem item (drop from (take at path))

-- the places at which the item's groups end
pub record IsNextRow (item : LqueryItem) (path : List (List ℕ)) (row next : List Bool) : Type 0 where
  pub long : length next ≡ length row
  pub each : (at : ℕ) → at < length row → IsOpen next at ↔ GroupEnds item path row at

-- from this place on all labels before `at` match the item, and not the label before it
pub record IsRun (item : LqueryItem) (path : List (List ℕ)) (start at : ℕ) : Type 0 where
  pub before : start ≤ at
  pub matched : (k : ℕ) → start ≤ k → k < at → MatchesItem item (slice_index_or path k [])
  pub stopped : 0 < start → MatchesItem item (slice_index_or path (start - 1) []) → ⊥

-- the last place of the row that is more than `least` below the end
abbrev pub IsLast : List Bool → ℕ → Option ℕ → ℕ → Type 0
IsLast row least None end = (p : ℕ) → p + least < end → IsOpen row p → ⊥
IsLast row least (Some last) end =
    (last + least < end) × IsOpen row last × ((p : ℕ) → p + least < end → IsOpen row p → p ≤ last)

-- the two places let a group end here
abbrev pub EndsGroup : ℕ → Option ℕ → ℕ → Option ℕ → Type 0
EndsGroup start None at most = ⊥
EndsGroup start (Some from) at most = (start ≤ from) × (from ≤ at) × IsAtMost (at - from) most

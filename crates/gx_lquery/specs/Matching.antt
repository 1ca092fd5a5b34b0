-- When a path matches a query (PostgreSQL 16, F.23.1).
use Rattle.std.specs.Prelude.{◌≡◌, ℕ, ◌≤◌, Bool, true, false, List, ◌++◌, [], length, map, Option, None, Some, All, Any}
use Rattle.std.specs.List.{AllZip, flat_map}
use Rattle.std.specs.Char.{to_ascii_lowercase}
use Rattle.gx_lquery.specs.declared.variant.Variant.{Variant}
use Rattle.gx_lquery.specs.declared.query.LqueryItem.{LqueryItem}
use Rattle.gx_lquery.specs.declared.query.Lquery.{Lquery}

-- the letters as they are compared
abbrev pub folded : Bool → List ℕ → List ℕ
folded true bytes = map to_ascii_lowercase bytes
folded false bytes = bytes

-- a front of the label is the variant's, and the whole label unless the variant is a prefix
pub record MatchesVariant (variant : Variant) (label : List ℕ) : Type 0 where
  pub front : List ℕ
  pub rest : List ℕ
  pub parts : label ≡ front ++ rest
  pub same : folded variant.caseless front ≡ folded variant.caseless variant.label
  pub whole : variant.prefix ≡ false → rest ≡ []

-- some variant matches, or with `!` none
abbrev pub MatchesSome : Bool → List Variant → List ℕ → Type 0
MatchesSome true variants label = Any (λ v. MatchesVariant v label) variants → ⊥
MatchesSome false variants label = Any (λ v. MatchesVariant v label) variants

-- `*` matches every label
abbrev pub MatchesWord : Bool → Bool → List Variant → List ℕ → Type 0
MatchesWord true negated variants label = Unit {0}
MatchesWord false negated variants label = MatchesSome negated variants label

abbrev pub MatchesItem : LqueryItem → List ℕ → Type 0
MatchesItem item label = MatchesWord item.star item.negated item.variants label

-- a count at most the limit, if there is one
abbrev pub IsAtMost : ℕ → Option ℕ → Type 0
IsAtMost count None = Unit {0}
IsAtMost count (Some most) = count ≤ most

-- a group of labels that an item takes
pub record FitsItem (item : LqueryItem) (group : List (List ℕ)) : Type 0 where
  pub least : item.least ≤ length group
  pub most : IsAtMost (length group) item.most
  pub each : All (MatchesItem item) group

-- the path can be cut into consecutive groups, one for each item
pub record MatchesPath (items : List LqueryItem) (path : List (List ℕ)) : Type 0 where
  pub groups : List (List (List ℕ))
  pub joined : path ≡ flat_map (λ group. group) groups
  pub fits : AllZip FitsItem items groups

-- the path matches some of the queries
abbrev pub MatchesAny : List Lquery → List (List ℕ) → Type 0
MatchesAny queries path = Any (λ query. MatchesPath query.items path) queries

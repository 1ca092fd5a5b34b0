-- Words of formulas (PostgreSQL 16, F.23.1).
use Rattle.std.specs.Prelude.{◌≡◌, ◌==◌, ℕ, true, false, List, [], ◌∷◌, ◌++◌}
use Rattle.std.specs.List.{AllByRecursion, list_any}
use Rattle.gx_ltree.specs.Label.{TakesLabel}
use Rattle.gx_lquery.specs.declared.variant.Variant.{Variant}
use Rattle.gx_lquery.specs.Text.{is_mark}

-- no `@` or `*` comes first
abbrev pub StopsMarks : List ℕ → Type 0
StopsMarks [] = Unit {0}
StopsMarks (c ∷ rest) = is_mark c ≡ false

-- a label, all `@` (64) and `*` (42) that follow it, and a rest
pub record TakesWord (text : List ℕ) (variant : Variant) (rest : List ℕ) : Type 0 where
  pub marks : List ℕ
  pub label : TakesLabel text variant.label (marks ++ rest)
  pub each : AllByRecursion (λ c. is_mark c ≡ true) marks
  pub stops : StopsMarks rest
  pub prefix : variant.prefix ≡ list_any (λ c. c == 42) marks
  pub caseless : variant.caseless ≡ list_any (λ c. c == 64) marks

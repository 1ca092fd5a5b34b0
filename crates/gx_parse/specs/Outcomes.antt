-- What a token does to a reader.
use Rattle.std.specs.Prelude.{ℕ, Option, Some, None}
use Rattle.gx_parse.specs.declared.outcome.Outcome.{Outcome}
use Rattle.gx_parse.specs.declared.outcome.Outcome.TheVariants.{Goes, Wrong, Deep}

abbrev pub outcome_map : {A B : Type 0} → (A → B) → Outcome A → Outcome B
outcome_map f (Goes x) = Goes (f x)
outcome_map f Wrong = Wrong
outcome_map f Deep = Deep

-- a token with which nothing goes on is wrong
abbrev pub went : {A : Type 0} → Option A → Outcome A
went None = Wrong
went (Some x) = Goes x

-- how many parentheses and NOTs may be open in a condition, and how many ANDs and ORs it may have
pub record Limits : Type 0 where
  pub open_most : ℕ
  pub joins_most : ℕ

abbrev pub limits : Limits
limits = record { open_most = 64; joins_most = 1024 }

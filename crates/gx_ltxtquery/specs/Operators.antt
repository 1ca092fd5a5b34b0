-- All operators of ltree (PostgreSQL 16, F.23.1).
use Rattle.std.specs.Prelude.{ℕ, Bool, List}
use Rattle.gx_ltree.specs.Operators as paths
use Rattle.gx_lquery.specs.Matching.{MatchesPath, MatchesAny}
use Rattle.gx_lquery.specs.Tests.{matches_path, matches_any}
use Rattle.gx_ltxtquery.specs.declared.operators.LtreeQuery.{LtreeQuery}
use Rattle.gx_ltxtquery.specs.declared.operators.LtreeQuery.TheVariants.{Path, Lquery, Lqueries, Words}
use Rattle.gx_ltxtquery.specs.Formula.{tree_of, IsTrueOf, is_true_of}

-- the operator holds of the path and its operand
abbrev pub Holds : LtreeQuery → List (List ℕ) → Type 0
Holds (Path op operand) path = paths.Holds op path operand
Holds (Lquery query) path = MatchesPath query.items path
Holds (Lqueries queries) path = MatchesAny queries path
Holds (Words query) path = IsTrueOf (tree_of query.formula) path

-- the test of the same
abbrev pub holds : LtreeQuery → List (List ℕ) → Bool
holds (Path op operand) path = paths.holds op path operand
holds (Lquery query) path = matches_path query.items path
holds (Lqueries queries) path = matches_any queries path
holds (Words query) path = is_true_of (tree_of query.formula) path

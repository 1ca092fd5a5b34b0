-- One answer to a text, and the tests of the operators.
use Rattle.std.proofs.Common.{◌≢◌, ℕ, List, Result, Err, Any}
use Rattle.std.specs.Bool.{Decides}
use Rattle.gx_bytes.specs.declared.error.ValueError.{ValueError}
use Rattle.gx_bytes.specs.declared.error.ValueError.TheVariants.{Memory}
use Rattle.gx_lquery.specs.declared.variant.Variant.{Variant}
use Rattle.gx_lquery.specs.Matching.{MatchesVariant}
use Rattle.gx_lquery.specs.Tests.{matches_variant}
use Rattle.gx_lquery.proofs.TestLemmas.{any_decided, variant_decided, path_decided, queries_decided}
use Rattle.gx_ltree.proofs.OperatorLemmas.{decided}
use Rattle.gx_formula.specs.Formula.{Tree}
use Rattle.gx_formula.specs.Grammar.{AreAlike}
use Rattle.gx_formula.proofs.TruthLemmas.{truth_decided}
use Rattle.gx_formula.proofs.AnswerLemmas.{alike}
use Rattle.gx_ltxtquery.specs.declared.formula.Ltxtquery.{Ltxtquery}
use Rattle.gx_ltxtquery.specs.declared.operators.LtreeQuery.{LtreeQuery}
use Rattle.gx_ltxtquery.specs.declared.operators.LtreeQuery.TheVariants.{Path, Lquery, Lqueries, Words}
use Rattle.gx_ltxtquery.specs.Words.{TakesWord}
use Rattle.gx_ltxtquery.specs.Formula.{tree_of, IsTrueOf, is_true_of}
use Rattle.gx_ltxtquery.specs.Text.{AnswersLtxtquery}
use Rattle.gx_ltxtquery.specs.Operators.{Holds, holds}
use Rattle.gx_ltxtquery.specs.Laws.{words_are}

pub one_query : (text : List ℕ) (r s : Result Ltxtquery ValueError) → r ≢ Err Memory → s ≢ Err Memory → AnswersLtxtquery text r → AnswersLtxtquery text s → AreAlike (λ query. tree_of query.formula) r s
one_query = alike Variant TakesWord (λ _. ⊥) words_are Ltxtquery (λ query. tree_of query.formula)

formula_decided : (tree : Tree Variant) (path : List (List ℕ)) → Decides (is_true_of tree path) (IsTrueOf tree path)
formula_decided tree path =
    truth_decided _ (λ v. Any (λ label. MatchesVariant v label) path) (λ v. any_decided (λ label. matches_variant v label) (λ label. MatchesVariant v label) (λ label. variant_decided v label) path) tree

pub operators_decided : (query : LtreeQuery) (path : List (List ℕ)) → Decides (holds query path) (Holds query path)
operators_decided (Path op operand) path = decided op path operand
operators_decided (Lquery query) path = path_decided query.items path
operators_decided (Lqueries queries) path = queries_decided queries path
operators_decided (Words query) path = formula_decided (tree_of query.formula) path

-- The tests of the operators tell where they hold.
use Rattle.std.proofs.Common.{List, ℤ, Contains, refl}
use Rattle.std.specs.Bool.{Decides}
use Rattle.std.specs.List.{list_any}
use Rattle.std.proofs.lemmas.Bool.Decides.{Decides-int_eq, Decides-by_and}
use Rattle.std.proofs.lemmas.List.Folds.{Any-from_list_any, list_any-from_Any}
use Rattle.std.proofs.lemmas.Slice.Eq.{slice_eq-Decides}
use Rattle.gx_formula.proofs.TruthLemmas.{truth_decided}
use Rattle.gx_intarr.specs.declared.operators.IntQuery.{IntQuery}
use Rattle.gx_intarr.specs.declared.operators.IntQuery.TheVariants as query
use Rattle.gx_intarr.specs.Formula.{tree_of, has}
use Rattle.gx_intarr.specs.Operators.{Overlap, ContainsEach, Holds, has_each, holds}
use Rattle.gx_intarr.proofs.ArrayLemmas.{contains_passes, passes_contains}

has_decided : (items : List ℤ) (n : ℤ) → Decides (has items n) (Contains items n)
has_decided items n = (passes_contains items n, contains_passes items n)

overlap_decided : (a b : List ℤ) → Decides (list_any (has a) b) (Overlap a b)
overlap_decided a b = (
  λ e. let found = Any-from_list_any (has a) b e in (found.0, found.1, found.2, found.3, (has_decided a found.1).0 found.4),
  λ found. list_any-from_Any (has a) b (found.0, found.1, found.2, found.3, (has_decided a found.1).1 found.4),
)

each_decided : (a b : List ℤ) → Decides (has_each a b) (ContainsEach a b)
each_decided a b = Decides-by_and (has a) (λ n. Contains a n) (has_each a) (has_decided a) refl (λ _ _. refl) b

pub decided : (q : IntQuery) (items : List ℤ) → Decides (holds q items) (Holds q items)
decided (query.Overlaps b) a = overlap_decided a b
decided (query.Contains b) a = each_decided a b
decided (query.Within b) a = each_decided b a
decided (query.Equal b) a = slice_eq-Decides Decides-int_eq a b _ refl
decided (query.Formula q) a = truth_decided (has a) (λ n. Contains a n) (has_decided a) (tree_of q.formula)

-- The tests of gist__int_ops.
use Rattle.std.specs.Prelude.{ℕ, Bool, true, false, ◌&&◌, not}
use Rattle.std.specs.Ordering.{int_eq}
use Rattle.std.specs.List.{list_any, list_all}
use Rattle.std.specs.Cmp.Lexicographic.{pointwise}
use Rattle.gx_gist.specs.declared.test.Test.{Test}
use Rattle.gx_gist.specs.declared.test.Test.TheVariants.{No, Maybe, Yes}
use Rattle.gx_kleene.specs.Answers.{leaf_formula, inner_formula}
use Rattle.gx_intarr.specs.Arrays.{IsArray}
use Rattle.gx_intarr.specs.Formula.{tree_of}
use Rattle.gx_class_sets.specs.declared.int_query.IntQuery.{IntQuery}
use Rattle.gx_class_sets.specs.declared.int_query.IntQuery.TheVariants as query
use Rattle.gx_class_intset.specs.declared.interval.Interval.{Interval}
use Rattle.gx_class_intset.specs.declared.interval.IntKey.{IntKey}
use Rattle.gx_class_intset.specs.Intervals.{has}
use Rattle.gx_class_intset.specs.Keys.{leaf_key}

-- where intervals have what is asked for, an exact key is sure of it; else it is No
abbrev pub said : Bool → Bool → Test
said exact false = No
said true true = Yes
said false true = Maybe

-- two keys are the same
abbrev pub same_interval : Interval → Interval → Bool
same_interval i j = int_eq i.least j.least && int_eq i.greatest j.greatest

abbrev pub same_flag : Bool → Bool → Bool
same_flag true b = b
same_flag false b = not b

abbrev pub is_same : IntKey → IntKey → Bool
is_same k l = same_flag k.exact l.exact && pointwise same_interval k.intervals l.intervals

-- The key of one array: an element is Yes or Maybe where an interval has it. The greatest over the elements is that some is there, the
-- least that all are.
abbrev pub leaf_answer : ℕ → IntKey → IntQuery → Test
leaf_answer r k (query.Overlaps b) = said k.exact (list_any (has k.intervals) b)
leaf_answer r k (query.Contains b) = said k.exact (list_all (has k.intervals) b)
leaf_answer r k (query.Equal b) = said false (is_same k (leaf_key r b))
leaf_answer r k (query.Formula q) = leaf_formula (λ n. said k.exact (has k.intervals n)) (tree_of q.formula)

-- a key above the leaves: it is never sure, and `=` is tested as `@>`
abbrev pub inner_answer : IntKey → IntQuery → Test
inner_answer k (query.Overlaps b) = said false (list_any (has k.intervals) b)
inner_answer k (query.Contains b) = said false (list_all (has k.intervals) b)
inner_answer k (query.Equal b) = said false (list_all (has k.intervals) b)
inner_answer k (query.Formula q) = inner_formula (λ n. said false (has k.intervals n)) (tree_of q.formula)

-- operands are arrays of int4
abbrev pub IsQuery : IntQuery → Type 0
IsQuery (query.Overlaps b) = IsArray b
IsQuery (query.Contains b) = IsArray b
IsQuery (query.Equal b) = IsArray b
IsQuery (query.Formula q) = Unit {0}

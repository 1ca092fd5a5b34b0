-- The tests of gist__intbig_ops: keys are signatures of n bytes.
use Rattle.std.specs.Prelude.{ℕ, Bool, List, map, ℤ}
use Rattle.std.specs.List.{list_any, list_all}
use Rattle.gx_gist.specs.declared.test.Test.{Test}
use Rattle.gx_kleene.specs.Answers.{leaf_formula, inner_formula}
use Rattle.gx_intarr.specs.Formula.{tree_of}
use Rattle.gx_class_sets.specs.declared.int_query.IntQuery.{IntQuery}
use Rattle.gx_class_sets.specs.declared.int_query.IntQuery.TheVariants as query
use Rattle.gx_class_sets.specs.Signatures.{hash_of, sign, has, is_same, is_within, maybe}

-- the key of an array
abbrev pub leaf_key : ℕ → List ℤ → List ℕ
leaf_key n items = sign n (map hash_of items)

-- an element may be there
abbrev pub may_have : ℕ → List ℕ → ℤ → Bool
may_have n key number = has n key (hash_of number)

abbrev pub leaf_answer : ℕ → List ℕ → IntQuery → Test
leaf_answer n key (query.Overlaps b) = maybe (list_any (may_have n key) b)
leaf_answer n key (query.Contains b) = maybe (list_all (may_have n key) b)
leaf_answer n key (query.Equal b) = maybe (is_same n key (leaf_key n b))
leaf_answer n key (query.Formula q) = leaf_formula (λ number. maybe (may_have n key number)) (tree_of q.formula)

abbrev pub inner_answer : ℕ → List ℕ → IntQuery → Test
inner_answer n key (query.Overlaps b) = maybe (list_any (may_have n key) b)
inner_answer n key (query.Contains b) = maybe (list_all (may_have n key) b)
inner_answer n key (query.Equal b) = maybe (is_within n key (leaf_key n b))
inner_answer n key (query.Formula q) = inner_formula (λ number. maybe (may_have n key number)) (tree_of q.formula)

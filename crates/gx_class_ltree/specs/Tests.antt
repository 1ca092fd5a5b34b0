-- The tests of gist_ltree_ops. A key is a least and a greatest part and a signature of n bytes.
use Rattle.std.specs.Prelude.{ℕ, ◌==◌, nat_le, nat_lt, Bool, true, false, ◌&&◌, ◌||◌, List, [], ◌∷◌, length, map, Option, None, Some, if◌then◌else◌}
use Rattle.std.specs.List.{list_any, list_all}
use Rattle.std.specs.Ordering.{nat_cmp, is_eq, is_lt, is_le, is_gt, is_ge}
use Rattle.std.specs.Cmp.Lexicographic.{slice_cmp}
use Rattle.std.specs.declared.cmp.Ordering.{Ordering}
use Rattle.std.specs.declared.cmp.Ordering.TheVariants as ordering
use Rattle.gx_gist.specs.declared.test.Test.{Test}
use Rattle.gx_gist.specs.declared.test.Test.TheVariants.{No, Maybe, Yes}
use Rattle.gx_kleene.specs.Answers.{leaf_formula, inner_formula}
use Rattle.gx_ltree.specs.declared.operators.LtreeOp.{LtreeOp}
use Rattle.gx_ltree.specs.declared.operators.LtreeOp.TheVariants.{Less, LessEqual, Equal, GreaterEqual, Greater, Above, Below}
use Rattle.gx_ltree.specs.Operators.{order, begins_with}
use Rattle.gx_lquery.specs.declared.variant.Variant.{Variant}
use Rattle.gx_lquery.specs.declared.query.LqueryItem.{LqueryItem}
use Rattle.gx_lquery.specs.declared.query.Lquery.{Lquery}
use Rattle.gx_ltxtquery.specs.Formula.{tree_of}
use Rattle.gx_class_sets.specs.Signatures.{has, maybe}
use Rattle.gx_ltxtquery.specs.declared.operators.LtreeQuery.{LtreeQuery}
use Rattle.gx_ltxtquery.specs.declared.operators.LtreeQuery.TheVariants as query
use Rattle.gx_ltxtquery.specs.Operators as queries
use Rattle.gx_class_ltree.specs.Keys.{label_hash}

abbrev pub sure : Bool → Test
sure holds = if holds then Yes else No

-- the bit of a label is set; those of all labels are
abbrev pub has_label : ℕ → List ℕ → List ℕ → Bool
has_label n sig label = has n sig (label_hash label)

abbrev pub has_labels : ℕ → List ℕ → List (List ℕ) → Bool
has_labels n sig path = list_all (has_label n sig) path

-- the first of two orders that decides
abbrev pub after : Ordering → Option Ordering → Option Ordering
after ordering.Less rest = Some ordering.Less
after ordering.Equal rest = rest
after ordering.Greater rest = Some ordering.Greater

-- How a path that goes on behind p compares with q: by the first label in which p and q differ; it is greater where q is a prefix of p, or p itself;
-- where p is a proper prefix of q it may be either.
abbrev pub cut_order : List (List ℕ) → List (List ℕ) → Option Ordering
cut_order p [] = Some ordering.Greater
cut_order [] (m ∷ q) = None
cut_order (l ∷ p) (m ∷ q) = after (slice_cmp nat_cmp l m) (cut_order p q)

-- an operator of order by how the value compares with the operand
abbrev pub passes : LtreeOp → Ordering → Bool
passes Less o = is_lt o
passes LessEqual o = is_le o
passes Equal o = is_eq o
passes GreaterEqual o = is_ge o
passes Greater o = is_gt o
passes Above o = false
passes Below o = false

abbrev pub order_answer : LtreeOp → Option Ordering → Test
order_answer op None = Maybe
order_answer op (Some o) = sure (passes op o)

-- Of the key of one path that goes on behind p.
abbrev pub cut_answer : ℕ → List ℕ → LtreeOp → List (List ℕ) → List (List ℕ) → Test
cut_answer n sig Above p q = maybe (begins_with q p && nat_lt (length p) (length q))
cut_answer n sig Below p q = if nat_le (length q) (length p) then sure (begins_with p q) else maybe (begins_with q p && has_labels n sig q)
cut_answer n sig op p q = order_answer op (cut_order p q)

-- an item may take a label by the signature
abbrev pub variant_may : ℕ → List ℕ → Variant → Bool
variant_may n sig v = v.prefix || has_label n sig v.label

abbrev pub item_may : ℕ → List ℕ → LqueryItem → Bool
item_may n sig item = ((item.star || item.negated) || item.least == 0) || list_any (variant_may n sig) item.variants

abbrev pub query_may : ℕ → List ℕ → Lquery → Bool
query_may n sig q = list_all (item_may n sig) q.items

-- the key of one path: its part, whether it goes on, and its signature
abbrev pub leaf_answer : ℕ → List (List ℕ) → Bool → List ℕ → LtreeQuery → Test
leaf_answer n p false sig q = sure (queries.holds q p)
leaf_answer n p true sig (query.Path op operand) = cut_answer n sig op p operand
leaf_answer n p true sig (query.Lquery q) = maybe (query_may n sig q)
leaf_answer n p true sig (query.Lqueries qs) = maybe (list_any (query_may n sig) qs)
leaf_answer n p true sig (query.Words w) = leaf_formula (λ v. maybe (variant_may n sig v)) (tree_of w.formula)

-- the prefixes of a path, the empty one and itself too
abbrev pub prefixes : List (List ℕ) → List (List (List ℕ))
prefixes [] = [] ∷ []
prefixes (label ∷ path) = [] ∷ map (λ s. label ∷ s) (prefixes path)

abbrev pub between : List (List ℕ) → List (List ℕ) → List (List ℕ) → Bool
between low high s = is_le (order low s) && is_le (order s high)

abbrev pub equal_may : List (List ℕ) → List (List ℕ) → List (List ℕ) → Bool
equal_may low high q = list_any (between low high) (prefixes q)

abbrev pub path_may : ℕ → List (List ℕ) → List (List ℕ) → List ℕ → LtreeOp → List (List ℕ) → Bool
path_may n low high sig Less q = is_le (order low q)
path_may n low high sig LessEqual q = is_le (order low q)
path_may n low high sig Equal q = equal_may low high q
path_may n low high sig GreaterEqual q = is_ge (order high q) || equal_may low high q
path_may n low high sig Greater q = is_ge (order high q) || equal_may low high q
path_may n low high sig Above q = is_le (order low q)
path_may n low high sig Below q = has_labels n sig q

-- a key above the leaves: the paths of its parts without their flags, and the signature
abbrev pub inner_answer : ℕ → List (List ℕ) → List (List ℕ) → List ℕ → LtreeQuery → Test
inner_answer n low high sig (query.Path op operand) = maybe (path_may n low high sig op operand)
inner_answer n low high sig (query.Lquery q) = maybe (query_may n sig q)
inner_answer n low high sig (query.Lqueries qs) = maybe (list_any (query_may n sig) qs)
inner_answer n low high sig (query.Words w) = inner_formula (λ v. maybe (variant_may n sig v)) (tree_of w.formula)

-- When an operator holds of a value and its right side: each type by its own definition.
use Rattle.std.specs.Prelude.{ℕ, ℤ, List, Option, None, Some, IsSomeAnd}
use Rattle.gx_scalar.specs.declared.scalar.Scalar.{Scalar}
use Rattle.gx_scalar.specs.declared.scalar.Scalar.TheVariants as scalars
use Rattle.gx_scalar.specs.declared.operators.ScalarOp.{ScalarOp}
use Rattle.gx_scalar.specs.declared.operators.ScalarOp.TheVariants as scalar_ops
use Rattle.gx_scalar.specs.Operators as of_scalars
use Rattle.gx_range.specs.declared.range.Range.{Range}
use Rattle.gx_range.specs.declared.range.RangeOp.{RangeOp}
use Rattle.gx_range.specs.declared.range.RangeOp.TheVariants as range_ops
use Rattle.gx_range.specs.Operators as of_ranges
use Rattle.gx_inet.specs.declared.inet.Inet.{Inet}
use Rattle.gx_inet.specs.declared.inet.InetOp.{InetOp}
use Rattle.gx_inet.specs.declared.inet.InetOp.TheVariants as inet_ops
use Rattle.gx_inet.specs.Operators as of_inets
use Rattle.gx_inet.specs.Value.{IsInet}
use Rattle.gx_ltree.specs.declared.operators.LtreeOp.{LtreeOp}
use Rattle.gx_ltree.specs.declared.operators.LtreeOp.TheVariants as ltree_ops
use Rattle.gx_ltxtquery.specs.declared.operators.LtreeQuery.TheVariants as path_queries
use Rattle.gx_ltxtquery.specs.Operators as of_paths
use Rattle.gx_ltxtquery.specs.Formula as of_words
use Rattle.gx_hstore.specs.Map.{Pair}
use Rattle.gx_hstore.specs.Operators as of_maps
use Rattle.gx_intarr.specs.declared.operators.IntQuery.TheVariants as array_queries
use Rattle.gx_intarr.specs.Formula as of_numbers
use Rattle.gx_intarr.specs.Operators as of_arrays
use Rattle.serde_json.specs.Data.{Data}
use Rattle.gx_json.specs.Operators as of_documents
use Rattle.gx_json.specs.Valid.{IsDocument}
use Rattle.gx_value.specs.declared.operators.Operator.{Operator}
use Rattle.gx_value.specs.declared.operators.Operator.TheVariants.{Equal, NotEqual, Less, LessEqual, Greater, GreaterEqual, Overlaps, Contains, Within, Left, Right, NotRight, NotLeft, Adjacent, LeftEqual, RightEqual, Matches, Has, Words, HasAll, HasAny, Formula}
use Rattle.gx_value.specs.Values as values
use Rattle.gx_opr.specs.Operands as rights

-- the operators as each type names them
abbrev pub scalar_op : Operator → Option ScalarOp
scalar_op Equal = Some scalar_ops.Equal
scalar_op NotEqual = Some scalar_ops.NotEqual
scalar_op Less = Some scalar_ops.Less
scalar_op LessEqual = Some scalar_ops.LessEqual
scalar_op Greater = Some scalar_ops.Greater
scalar_op GreaterEqual = Some scalar_ops.GreaterEqual
scalar_op _ = None

abbrev pub range_op : Operator → Option RangeOp
range_op Equal = Some range_ops.Equal
range_op Overlaps = Some range_ops.Overlaps
range_op Contains = Some range_ops.Contains
range_op Within = Some range_ops.Within
range_op Left = Some range_ops.Left
range_op Right = Some range_ops.Right
range_op NotRight = Some range_ops.NotRight
range_op NotLeft = Some range_ops.NotLeft
range_op Adjacent = Some range_ops.Adjacent
range_op _ = None

abbrev pub inet_op : Operator → Option InetOp
inet_op Equal = Some inet_ops.Equal
inet_op NotEqual = Some inet_ops.NotEqual
inet_op Less = Some inet_ops.Less
inet_op LessEqual = Some inet_ops.LessEqual
inet_op Greater = Some inet_ops.Greater
inet_op GreaterEqual = Some inet_ops.GreaterEqual
inet_op Left = Some inet_ops.Within
inet_op LeftEqual = Some inet_ops.WithinEqual
inet_op Right = Some inet_ops.Holds
inet_op RightEqual = Some inet_ops.HoldsEqual
inet_op Overlaps = Some inet_ops.Meets
inet_op _ = None

abbrev pub ltree_op : Operator → Option LtreeOp
ltree_op Less = Some ltree_ops.Less
ltree_op LessEqual = Some ltree_ops.LessEqual
ltree_op Equal = Some ltree_ops.Equal
ltree_op GreaterEqual = Some ltree_ops.GreaterEqual
ltree_op Greater = Some ltree_ops.Greater
ltree_op Contains = Some ltree_ops.Above
ltree_op Within = Some ltree_ops.Below
ltree_op _ = None

abbrev pub HoldsOfScalar : Operator → Scalar → rights.Right → Type 0
HoldsOfScalar op v (rights.datum (values.scalar q)) = IsSomeAnd (scalar_op op) (λ o. of_scalars.Holds o v q)
HoldsOfScalar _ _ _ = ⊥

-- a number or a day as an element
abbrev pub HasScalar : Range → Scalar → Type 0
HasScalar v (scalars.Int4 n) = of_ranges.HasElement v n
HasScalar v (scalars.Int8 n) = of_ranges.HasElement v n
HasScalar v (scalars.Date n) = of_ranges.HasElement v n
HasScalar _ _ = ⊥

abbrev pub HoldsOfRange : Operator → Range → rights.Right → Type 0
HoldsOfRange op v (rights.datum (values.range q)) = IsSomeAnd (range_op op) (λ o. of_ranges.Holds o v q)
HoldsOfRange Contains v (rights.datum (values.scalar q)) = HasScalar v q
HoldsOfRange _ _ _ = ⊥

abbrev pub HoldsOfInet : Operator → Inet → rights.Right → Type 0
HoldsOfInet op v (rights.datum (values.inet q)) = IsSomeAnd (inet_op op) (λ o. of_inets.Holds o v q)
HoldsOfInet _ _ _ = ⊥

abbrev pub HoldsOfPath : Operator → List (List ℕ) → rights.Right → Type 0
HoldsOfPath op v (rights.datum (values.path q)) = IsSomeAnd (ltree_op op) (λ o. of_paths.Holds (path_queries.Path o q) v)
HoldsOfPath Matches v (rights.lquery q) = of_paths.Holds (path_queries.Lquery q) v
HoldsOfPath Has v (rights.lqueries qs) = of_paths.Holds (path_queries.Lqueries qs) v
HoldsOfPath Words v (rights.ltxtquery t) = of_words.IsTrueOf t v
HoldsOfPath _ _ _ = ⊥

abbrev pub HoldsOfHstore : Operator → List Pair → rights.Right → Type 0
HoldsOfHstore Contains v (rights.datum (values.hstore q)) = of_maps.Holds (of_maps.Contains q) v
HoldsOfHstore Has v (rights.datum (values.scalar (scalars.Text key))) = of_maps.Holds (of_maps.Has key) v
HoldsOfHstore HasAll v (rights.texts keys) = of_maps.Holds (of_maps.HasAll keys) v
HoldsOfHstore HasAny v (rights.texts keys) = of_maps.Holds (of_maps.HasAny keys) v
HoldsOfHstore _ _ _ = ⊥

abbrev pub HoldsOfArray : Operator → List ℤ → rights.Right → Type 0
HoldsOfArray Overlaps v (rights.datum (values.int_array q)) = of_arrays.Holds (array_queries.Overlaps q) v
HoldsOfArray Contains v (rights.datum (values.int_array q)) = of_arrays.Holds (array_queries.Contains q) v
HoldsOfArray Within v (rights.datum (values.int_array q)) = of_arrays.Holds (array_queries.Within q) v
HoldsOfArray Equal v (rights.datum (values.int_array q)) = of_arrays.Holds (array_queries.Equal q) v
HoldsOfArray Formula v (rights.query_int t) = of_numbers.IsTrueOf t v
HoldsOfArray _ _ _ = ⊥

abbrev pub HoldsOfJson : Operator → Data → rights.Right → Type 0
HoldsOfJson Contains v (rights.datum (values.json q)) = of_documents.Holds (of_documents.Contains q) v
HoldsOfJson Has v (rights.datum (values.scalar (scalars.Text key))) = of_documents.Holds (of_documents.Has key) v
HoldsOfJson HasAll v (rights.texts keys) = of_documents.Holds (of_documents.HasAll keys) v
HoldsOfJson HasAny v (rights.texts keys) = of_documents.Holds (of_documents.HasAny keys) v
HoldsOfJson _ _ _ = ⊥

-- the operator holds of the value and the right side, where the table has the two types together; of others it is never asked
abbrev pub Holds : Operator → values.Datum → rights.Right → Type 0
Holds op (values.scalar v) q = HoldsOfScalar op v q
Holds op (values.range v) q = HoldsOfRange op v q
Holds op (values.inet v) q = HoldsOfInet op v q
Holds op (values.path v) q = HoldsOfPath op v q
Holds op (values.hstore v) q = HoldsOfHstore op v q
Holds op (values.int_array v) q = HoldsOfArray op v q
Holds op (values.json v) q = HoldsOfJson op v q

-- only operators on paths may want memory
abbrev pub IsPathValue : values.Datum → Type 0
IsPathValue (values.path p) = Unit {0}
IsPathValue _ = ⊥

-- an address or a document among right sides is valid
abbrev pub IsInetRight : rights.Right → Type 0
IsInetRight (rights.datum (values.inet i)) = IsInet i
IsInetRight _ = Unit {0}

abbrev pub IsJsonRight : rights.Right → Type 0
IsJsonRight (rights.datum (values.json d)) = IsDocument d
IsJsonRight _ = Unit {0}

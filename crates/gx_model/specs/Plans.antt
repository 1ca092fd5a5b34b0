-- By which indexes the rows of a condition are found.
use Rattle.std.specs.Prelude.{ℕ, ◌+◌, ◌==◌, Bool, false, true, ◌&&◌, ◌||◌, List, ◌++◌, length, find, filter, codes, Option, None, Some, is_none}
use Rattle.std.specs.Str.{bytes_eq}
use Rattle.gx_value.specs.declared.operators.Operator.{Operator}
use Rattle.gx_value.specs.Classes.{supports}
use Rattle.gx_value.specs.Values.{Datum}
use Rattle.gx_candidates.specs.Candidates.{candidate}
use Rattle.gx_model.specs.Database.{Database, Table, Row, Index}
use Rattle.gx_model.specs.Truth.{Bound, And, Or, Not, Atom, IsNull, Operand, field_at}

pub data Plan : Type 0 where
  -- the whole table
  Whole : Plan
  One : Index → Plan
  -- the rows that both sides find
  Both : Plan → Plan → Plan
  -- the rows that a side finds
  Either : Plan → Plan → Plan

-- the earliest created index on the column for which this is so
abbrev pub index_where : List Index → List ℕ → ℕ → (Index → Bool) → Option Index
index_where indexes table place so = find (λ i. bytes_eq i.table table && i.column == place && so i) indexes

abbrev pub by_index : Option Index → Plan
by_index None = Whole
by_index (Some index) = One index

-- AND takes the sides that indexes find.
abbrev pub both : Plan → Plan → Plan
both Whole b = b
both a Whole = a
both a b = Both a b

-- OR takes two such sides.
abbrev pub either : Plan → Plan → Plan
either Whole b = Whole
either a Whole = Whole
either a b = Either a b

-- An operator with an operand takes an index that supports it; with NULL there is none.
abbrev pub atom_plan : List Index → List ℕ → ℕ → Operator → Option Operand → Plan
atom_plan indexes table place op None = Whole
atom_plan indexes table place op (Some operand) = by_index (index_where indexes table place (λ i. supports i.class op operand.kind))

-- IS NULL takes an index, IS NOT NULL none.
abbrev pub null_plan : List Index → List ℕ → ℕ → Bool → Plan
null_plan indexes table place false = by_index (index_where indexes table place (λ i. true))
null_plan indexes table place true = Whole

-- the plan of a condition on a table of this name
abbrev pub plan : List Index → List ℕ → Bound → Plan
plan indexes table (And a b) = both (plan indexes table a) (plan indexes table b)
plan indexes table (Or a b) = either (plan indexes table a) (plan indexes table b)
plan indexes table (Not a) = Whole
plan indexes table (Atom place op operand) = atom_plan indexes table place op operand
plan indexes table (IsNull place negated) = null_plan indexes table place negated

abbrev pub plan_where : Database → Table → Option Bound → Plan
plan_where db t None = Whole
plan_where db t (Some condition) = plan db.indexes t.name condition

-- as EXPLAIN ANALYZE writes it
abbrev pub plan_text : Plan → List ℕ
plan_text Whole = codes "*"
plan_text (One index) = index.name
plan_text (Both a b) = codes "and(" ++ plan_text a ++ codes "," ++ plan_text b ++ codes ")"
plan_text (Either a b) = codes "or(" ++ plan_text a ++ codes "," ++ plan_text b ++ codes ")"

-- The rows that a plan finds, from which those of the condition are taken. They depend on the rows alone, and not on what the indexes have become.

-- an index doesn't rule the field out for the operator; NULL it does
abbrev pub is_candidate : Index → Operator → Operand → Option Datum → Bool
is_candidate index op operand None = false
is_candidate index op operand (Some value) = candidate index.class index.parameter op operand.right value

-- this is so of the index; where there is none, each row is found
abbrev pub found_by : Option Index → (Index → Bool) → Bool
found_by None so = true
found_by (Some index) so = so index

abbrev pub is_found_of_atom : List Index → List ℕ → ℕ → Operator → Option Operand → Option Datum → Bool
is_found_of_atom indexes table place op None field = true
is_found_of_atom indexes table place op (Some operand) field =
    found_by (index_where indexes table place (λ i. supports i.class op operand.kind)) (λ i. is_candidate i op operand field)

-- An index has the rows whose field is NULL beside the others.
abbrev pub is_found_of_null : List Index → List ℕ → ℕ → Bool → Option Datum → Bool
is_found_of_null indexes table place false field = found_by (index_where indexes table place (λ i. true)) (λ i. is_none field)
is_found_of_null indexes table place true field = true

-- the plan of the condition finds a row with these fields
abbrev pub is_found : List Index → List ℕ → Bound → List (Option Datum) → Bool
is_found indexes table (And a b) fields = is_found indexes table a fields && is_found indexes table b fields
is_found indexes table (Or a b) fields = is_found indexes table a fields || is_found indexes table b fields
is_found indexes table (Not a) fields = true
is_found indexes table (Atom place op operand) fields = is_found_of_atom indexes table place op operand (field_at fields place)
is_found indexes table (IsNull place negated) fields = is_found_of_null indexes table place negated (field_at fields place)

abbrev pub is_found_where : Database → Table → Option Bound → Row → Bool
is_found_where db t None row = true
is_found_where db t (Some condition) row = is_found db.indexes t.name condition row.fields

abbrev pub found : Database → Table → Option Bound → List Row
found db t condition = filter (is_found_where db t condition) t.rows

-- The most heap pages that finding rows and looking at them fetches: as many as there may be row numbers, and one, for a whole table, and else
-- one for each of so many that are found.
abbrev pub price : Plan → Table → ℕ → ℕ
price Whole t n = t.next + 1
price _ t n = n

abbrev pub price_where : Database → Table → Option Bound → ℕ
price_where db t condition = price (plan_where db t condition) t (length (found db t condition))

-- Conditions without their boxes.
use Rattle.std.specs.Prelude.{ℕ, Bool, List}
use Rattle.gx_value.specs.declared.operators.Operator.{Operator}
use Rattle.gx_parse.specs.declared.statement.Given.{Given}
use Rattle.gx_parse.specs.declared.statement.Condition.{Condition}
use Rattle.gx_parse.specs.declared.statement.Condition.TheVariants as condition

pub data Tree : Type 0 where
  And : Tree → Tree → Tree
  Or : Tree → Tree → Tree
  Not : Tree → Tree
  Atom : List ℕ → Operator → Given → Tree
  IsNull : List ℕ → Bool → Tree

abbrev pub tree_of : Condition → Tree
tree_of (condition.And' p a q b) = And (tree_of a) (tree_of b)
tree_of (condition.Or' p a q b) = Or (tree_of a) (tree_of b)
tree_of (condition.Not' p a) = Not (tree_of a)
tree_of (condition.Atom column op given) = Atom column op given
tree_of (condition.IsNull column negated) = IsNull column negated

-- What a class is asked for an operator with its operand.
use Rattle.std.specs.Prelude.{◌≡◌, ℕ, ◌≤◌, List}
use Rattle.gx_words.specs.PageMap.{PageMap}
use Rattle.gx_value.specs.declared.classes.Class.{Class}
use Rattle.gx_value.specs.declared.types.ColumnType.{ColumnType}
use Rattle.gx_value.specs.declared.operators.Operator.{Operator}
use Rattle.gx_value.specs.Values.{Datum}
use Rattle.gx_opr.specs.declared.operand.Operand.{Operand}
use Rattle.gx_opr.specs.Operands.{right_of}
use Rattle.gx_gist.specs.declared.class.GistClass.{Ghosts}
use Rattle.gx_gist_tree.specs.Trees.{passes, visits}
use Rattle.gx_candidates.specs.Candidates.{candidate}
use Rattle.gx_candidates.specs.Laws.{IsAsked}
use Rattle.gx_index.specs.Kept.{HoldsKeys, Valued}

-- An index of the class of this name and parameter over a column of some type answers the question.
pub record IsQuestion (named : Class) (parameter : ℕ) (op : Operator) (operand : Operand) : Type 0 where
  pub kind : ColumnType
  pub asked : IsAsked named parameter kind op operand

-- The query of a class for a question: valid where its indexes answer the question, and the keys of just the candidates don't rule it out.
pub record IsQueryFor {C V Q K : Type 0} (g : Ghosts C V Q K) (class : C) (datum : V → Datum) (named : Class) (parameter : ℕ) (op : Operator) (operand : Operand) (query : Q) : Type 0 where
  pub valid : IsQuestion named parameter op operand → g.valid_query class query
  pub test : (v : V) → passes (g.leaf_test class (g.leaf_of class v) query) ≡ candidate named parameter op (right_of operand.part) (datum v)

-- The map holds a tree with these rows, and each query of the class for the question leads to no more than so many of its pages.
pub record Visits {C V Q K : Type 0} (g : Ghosts C V Q K) (class : C) (datum : V → Datum) (named : Class) (parameter : ℕ) (op : Operator) (operand : Operand) (pages : PageMap) (count root : ℕ)
    (rows : List Valued) (feet : List ℕ) (most : ℕ) : Type 0 where
  pub held : HoldsKeys g class datum pages count root rows feet
  pub least : (query : Q) → IsQueryFor g class datum named parameter op operand query → visits (λ k. g.inner_test class k query) held.tree.0 held.tree.1 ≤ most

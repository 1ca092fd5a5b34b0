-- The rows of an index by the items of a GIN class, and what the class is asked.
use Rattle.std.specs.Prelude.{◌≡◌, ◌≢◌, ℕ, ◌≤◌, Bool, List, map}
use Rattle.gx_words.specs.PageMap.{PageMap}
use Rattle.gx_pages.specs.declared.row.RowRef.{RowRef}
use Rattle.gx_value.specs.declared.classes.Class.{Class}
use Rattle.gx_value.specs.declared.operators.Operator.{Operator}
use Rattle.gx_value.specs.Values.{Datum}
use Rattle.gx_opr.specs.declared.operand.Operand.{Operand}
use Rattle.gx_opr.specs.Operands.{right_of}
use Rattle.gx_gin.specs.declared.class.GinClass.{Ghosts}
use Rattle.gx_gin.specs.declared.wanted.Mode.TheVariants.{All}
use Rattle.gx_gin_scan.specs.Gins.{HoldsLists}
use Rattle.gx_gin_scan.specs.Lists.{IsIndexOf, Lists}
use Rattle.gx_gin_scan.specs.Searches.{keys_read, pages_read}
use Rattle.gx_candidates.specs.Candidates.{candidate, reached}
use Rattle.gx_index.specs.Kept.{Valued}
use Rattle.gx_index.specs.Questions.{IsQuestion}

-- The map holds an index of the class below a root page, on these pages, which is that of these rows with their values. The function says what a value of the class is among the values of columns.
pub record HoldsItems {C V Q : Type 0} (g : Ghosts C V Q) (class : C) (datum : V → Datum) (pages : PageMap) (count root : ℕ) (rows : List Valued) (feet : List ℕ) : Type 0 where
  pub values : List (RowRef × V)
  pub are : rows ≡ map (λ row. (row.0, datum row.1)) values
  pub lists : Lists
  pub held : HoldsLists pages count root lists feet
  pub index : IsIndexOf (g.items_of class) lists values

-- a value in reach of a query whose items don't rule it out
abbrev pub item_passes : {C V Q : Type 0} → Ghosts C V Q → C → Q → V → Bool
item_passes g class query v =
    reached (g.mode_of class query) (g.wanted_of class query) (g.passes_of class query) (g.items_of class v)

-- The query of a class for a question: valid where its indexes answer the question, and it finds just the candidates.
pub record IsItemQueryFor {C V Q : Type 0} (g : Ghosts C V Q) (class : C) (datum : V → Datum) (named : Class) (op : Operator) (operand : Operand) (query : Q) : Type 0 where
  pub valid : IsQuestion named 0 op operand → g.valid_query class query
  pub test : (v : V) → item_passes g class query v ≡ candidate named 0 op (right_of operand.part) (datum v)

-- The map holds such an index, and each query of the class for the question is in a mode other than All, and reads no more than so many of its pages.
pub record Reads {C V Q : Type 0} (g : Ghosts C V Q) (class : C) (datum : V → Datum) (named : Class) (op : Operator) (operand : Operand) (pages : PageMap) (count root : ℕ) (rows : List Valued) (feet : List ℕ) (most : ℕ) : Type 0 where
  pub held : HoldsItems g class datum pages count root rows feet
  pub some : (query : Q) → IsItemQueryFor g class datum named op operand query → g.mode_of class query ≢ All
  pub least : (query : Q) → IsItemQueryFor g class datum named op operand query → pages_read pages count root held.lists feet held.held (keys_read (g.mode_of class query) (g.wanted_of class query)) ≤ most

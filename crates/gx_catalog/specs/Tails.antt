-- Lists in which each element fits those behind it.
use Rattle.std.specs.Prelude.{◌≡◌, ◌≤◌, bytes_eq, ◌==◌, true, List, [], ◌∷◌, find, Option, None, IsSomeAnd}
use Rattle.gx_value.specs.Classes.{allows}
use Rattle.gx_value.specs.declared.fields.Column.{Column}
use Rattle.gx_catalog.specs.declared.info.TableInfo.{TableInfo}
use Rattle.gx_catalog.specs.declared.info.IndexInfo.{IndexInfo}
use Rattle.gx_catalog.specs.Validity.{IsName, IsTable, TakesColumn, count_on, index_named, table_named, table_numbered}

-- each element and those behind it are so
abbrev pub AllTails : {X : Type 0} → (X → List X → Type 0) → List X → Type 0
AllTails P [] = Unit {0}
AllTails P (x ∷ xs) = P x xs × AllTails P xs

pub record IsNewColumn (column : Column) (others : List Column) : Type 0 where
  pub name : IsName column.name
  pub new : find (λ (other : Column). bytes_eq other.name column.name) others ≡ None

pub record IsNewTable (indexes : List IndexInfo) (t : TableInfo) (others : List TableInfo) : Type 0 where
  pub table : IsTable t
  pub new : table_named t.name others ≡ None
  pub numbered : table_numbered t.number others ≡ None
  pub few : count_on t.number indexes ≤ 32

abbrev pub StandsOn : List TableInfo → IndexInfo → Type 0
StandsOn tables i = IsSomeAnd (table_numbered i.table tables) (TakesColumn i)

pub record IsNewIndex (tables : List TableInfo) (i : IndexInfo) (others : List IndexInfo) : Type 0 where
  pub name : IsName i.name
  pub new : index_named i.name others ≡ None
  pub parameter : allows i.class i.parameter ≡ true
  pub column : StandsOn tables i

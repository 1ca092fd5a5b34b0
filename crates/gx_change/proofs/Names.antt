-- The table that CREATE TABLE makes.
use Rattle.std.proofs.Common.{◌≡◌, inl, inr, ℕ, ◌<◌, ◌≤◌, nat_le, nat_lt, false, ◌||◌, List, [], ◌∷◌, length, map, codes, None, refl, sym, subst, arith}
use Rattle.std.specs.List.{AllByRecursion}
use Rattle.std.proofs.lemmas.Bool.Decides.{nat_tests}
use Rattle.gx_value.specs.declared.fields.Column.{Column}
use Rattle.gx_parse.specs.declared.statement.ColumnWord.{ColumnWord}
use Rattle.gx_parse.specs.Said.{Said, CreateTable}
use Rattle.gx_parse.specs.Sound.{IsName, IsSound}
use Rattle.gx_catalog.specs.declared.info.TableInfo.{TableInfo}
use Rattle.gx_catalog.specs.Validity as catalogs
use Rattle.gx_model.specs.Checks.{Find}
use Rattle.gx_model.specs.Database as model
use Rattle.gx_model.specs.Database.{Database, IsShort, IsValid, empty}
use Rattle.gx_model.specs.Faults.{new_column_checks}
use Rattle.gx_model.specs.Steps.{HasShortNames, Stepped, Steps, grown, new_table, with_new_table}
use Rattle.gx_model.specs.Growth.{pages_each}
use Rattle.gx_database.proofs.Empty.{empty_stands}
use Rattle.gx_step.proofs.Names.{or_false, to_catalog}

-- it is so of one of these
pub all_among : {X : Type 0} (Q : X → Type 0) (xs : List X) (x : X) → AllByRecursion Q xs → catalogs.IsAmong x xs → Q x
all_among Q [] x all among = absurd among
all_among Q (y ∷ ys) x all (inl same) = subst Q same all.0
all_among Q (y ∷ ys) x all (inr later) = all_among Q ys x all.1 later

short_names : (columns : List ColumnWord) → AllByRecursion (λ (c : ColumnWord). IsName c.name) columns → AllByRecursion IsShort (map (λ (c : ColumnWord). c.name) columns)
short_names [] all = tt
short_names (c ∷ columns) all = (all.0.most, short_names columns all.1)

pub has_short_names : (name : List ℕ) (columns : List ColumnWord) → IsSound (CreateTable name columns) → HasShortNames (CreateTable name columns)
has_short_names name columns sound = (sound.names.0.most, short_names columns sound.names.1)

-- every step of a valid database leaves a valid one
abbrev pub StaysValid : Type 0
StaysValid = (db : Database) (said : Said) (stepped : Stepped) → IsValid db → HasShortNames said → Steps db said stepped → IsValid stepped.database

pub few_columns : (n : ℕ) → n ≤ 32 → nat_lt 32 n ≡ false
few_columns n few = grind (arith, nat_tests)

-- the table that is made is one of a database
pub made_table : StaysValid → (name : List ℕ) (columns : List ColumnWord) → IsSound (CreateTable name columns) → length columns ≤ 32 → Find (new_column_checks [] columns) None
    → model.IsTable (new_table name columns)
made_table stays name columns sound few none =
    let after : Stepped = grown (with_new_table empty name columns) (codes "CREATE TABLE") pages_each in
    let steps : Steps empty (CreateTable name columns) after = inr ((inl (refl, inl (few_columns (length columns) few, none))), refl) in
    (stays empty (CreateTable name columns) after empty_stands.valid (has_short_names name columns sound) steps).tables.0

named_all : (columns : List Column) → AllByRecursion IsShort (map (λ (c : Column). c.name) columns) → AllByRecursion (λ (c : Column). catalogs.IsName c.name) columns
named_all [] all = tt
named_all (c ∷ columns) all = (all.0, named_all columns all.1)

-- a new table of the catalog is one of a catalog
pub made_info : (info : TableInfo) (t : model.Table) → model.IsTable t → info.name ≡ t.name → info.columns ≡ t.columns → info.heap.next ≡ 1 → catalogs.IsTable info
made_info info t is name columns next = record {
  name = subst (λ (n : List ℕ). catalogs.IsName n) (sym name) is.short;
  columns = subst (λ (cs : List Column). catalogs.AreColumns cs) (sym columns)
      (record { few = is.few; named = named_all t.columns is.short_columns; distinct = to_catalog (map (λ (c : Column). c.name) t.columns) is.columns });
  heap = record { some = omega (arith, next); most = omega (arith, next) };
}

-- there is room for one more table, and the columns aren't too many
pub room_left : (tables columns : ℕ) → (nat_le 256 tables || nat_lt 32 columns) ≡ false → (tables < 256) × (columns ≤ 32)
room_left tables columns few =
    let parts = or_false (nat_le 256 tables) (nat_lt 32 columns) few in
    let first = parts.0 in
    let second = parts.1 in
    (grind (arith, nat_tests), grind (arith, nat_tests))

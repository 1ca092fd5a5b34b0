-- What VACUUM leaves.
use Rattle.std.specs.Prelude.{ℕ, List}
use Rattle.gx_words.specs.PageMap.{PageMap}
use Rattle.gx_heap.specs.Heaps.{AreUsed}
use Rattle.gx_model.specs.Database.{Database, Table}
use Rattle.gx_database.specs.Places.{Place}
use Rattle.gx_database.specs.Standing.{StandsFor}

-- The map stands for the database, and each page but the last one of the heap of the table of this name has a row.
pub record IsVacuumed (pages : PageMap) (db : Database) (name : List ℕ) : Type 0 where
  pub stands : StandsFor pages db
  pub table : Table
  pub place : Place name table db.tables stands.infos stands.stored
  pub used : AreUsed place.stored.feet place.stored.rows

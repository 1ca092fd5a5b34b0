-- Statements that work on the pages of a database.
use Rattle.gx_parse.specs.Said.{Said, Nothing, CreateTable, DropTable, CreateIndex, DropIndex, Insert, Delete, Select, Explain, Vacuum, Checkpoint, Begin, Commit, Rollback}

-- It is a statement that works on the pages of a database, and none that belongs to a session.
abbrev pub IsWork : Said → Type 0
IsWork Nothing = ⊥
IsWork Checkpoint = ⊥
IsWork Begin = ⊥
IsWork Commit = ⊥
IsWork Rollback = ⊥
IsWork _ = Unit {0}

-- What a piece of a script does in a session.
use Rattle.std.specs.Prelude.{◌≡◌, ◌⊎◌, ℕ, ◌+◌, nat_lt, if◌then◌else◌, List, [], length, codes, Option, None, Some}
use Rattle.gx_lexer.specs.Feeding.{longest}
use Rattle.gx_parse.specs.Answers.{Answer, says, wrong_at, too_deep, answer_of}
use Rattle.gx_parse.specs.Said.{Said, Nothing, Insert, Vacuum, Checkpoint, Begin, Commit, Rollback}
use Rattle.gx_model.specs.Checks.{Find}
use Rattle.gx_model.specs.Database.{Database, IsValid}
use Rattle.gx_model.specs.Faults.{checks}
use Rattle.gx_model.specs.Replies.{Reply, line, accepted, refusal, syntax_error}
use Rattle.gx_model.specs.Steps.{Stepped, Does, Costs}

-- The block of a session: none is open, one is open with a database of its own, or it has failed.
pub data Block : Type 0 where
  idle : Block
  begun : Database → Block
  failed : Block

-- a session: the committed database, and its block
pub record Session : Type 0 where
  pub committed : Database
  pub block : Block

-- the session that a run begins with
abbrev pub session_over : Database → Session
session_over db = record { committed = db; block = idle }

abbrev pub seen_in : Block → Database → Database
seen_in idle db = db
seen_in (begun own) db = own
seen_in failed db = db

-- the database that the session sees: that of an open block, or else the committed one
abbrev pub seen : Session → Database
seen session = seen_in session.block session.committed

abbrev pub seen_as : Block → Database → Database → Session
seen_as idle committed db = record { committed = db; block = idle }
seen_as (begun own) committed db = record { committed = committed; block = begun db }
seen_as failed committed db = record { committed = committed; block = failed }

-- the committed database and the one that the session sees are valid
pub record AreValid (session : Session) : Type 0 where
  pub committed : IsValid session.committed
  pub own : IsValid (seen session)

-- the session with this database in place of the one that it sees
abbrev pub with_seen : Session → Database → Session
with_seen session db = seen_as session.block session.committed db

abbrev pub broken_off : Block → Block
broken_off idle = idle
broken_off (begun own) = failed
broken_off failed = failed

-- after a refused piece: an open block has failed
abbrev pub refused_in : Session → Session
refused_in session = record { committed = session.committed; block = broken_off session.block }

-- What a piece does in a session: the next session, the reply, and how many pages it may add.
pub record Turned : Type 0 where
  pub session : Session
  pub reply : Reply
  pub growth : ℕ

-- the piece is refused with this reply
abbrev pub refused : Session → Reply → Turned
refused session reply = record { session = refused_in session; reply = reply; growth = 0 }

-- the piece is answered with this line
abbrev pub answered : Session → List ℕ → Turned
answered session text = record { session = session; reply = accepted (line text); growth = 0 }

-- a piece without a statement is answered with nothing
abbrev pub silent : Session → Turned
silent session = record { session = session; reply = accepted []; growth = 0 }

-- A statement that a session hands on to the database that it sees: with a fault an open block fails; without one the new database is seen.
abbrev pub TurnsSeen : Session → Said → Turned → Type 0
TurnsSeen session said turned =
    ((n : ℕ) × Find (checks (seen session) said) (Some n) × (turned ≡ refused session (refusal n)))
    ⊎ (Find (checks (seen session) said) None
    × (stepped : Stepped) × Does (seen session) said stepped
    × (turned ≡ record { session = with_seen session stepped.database; reply = stepped.reply; growth = stepped.growth }))

-- Outside a block each statement is a transaction of its own.
abbrev pub TurnsIdle : Session → Said → Turned → Type 0
TurnsIdle session Begin turned = turned ≡ answered (record { committed = session.committed; block = begun session.committed }) (codes "BEGIN")
TurnsIdle session Commit turned = turned ≡ answered session (codes "COMMIT")
TurnsIdle session Rollback turned = turned ≡ answered session (codes "ROLLBACK")
TurnsIdle session said turned = TurnsSeen session said turned

-- In an open block COMMIT makes its database the committed one; VACUUM and CHECKPOINT are refused.
abbrev pub TurnsBegun : Session → Database → Said → Turned → Type 0
TurnsBegun session own Begin turned = turned ≡ answered session (codes "BEGIN")
TurnsBegun session own Commit turned = turned ≡ answered (session_over own) (codes "COMMIT")
TurnsBegun session own Rollback turned = turned ≡ answered (session_over session.committed) (codes "ROLLBACK")
TurnsBegun session own (Vacuum table) turned = turned ≡ refused session (refusal 23)
TurnsBegun session own Checkpoint turned = turned ≡ refused session (refusal 23)
TurnsBegun session own said turned = TurnsSeen session said turned

-- In a failed block only COMMIT and ROLLBACK are accepted, and both roll back.
abbrev pub TurnsFailed : Session → Said → Turned → Type 0
TurnsFailed session Commit turned = turned ≡ answered (session_over session.committed) (codes "ROLLBACK")
TurnsFailed session Rollback turned = turned ≡ answered (session_over session.committed) (codes "ROLLBACK")
TurnsFailed session said turned = turned ≡ refused session (refusal 22)

abbrev pub TurnsIn : Block → Session → Said → Turned → Type 0
TurnsIn idle session said turned = TurnsIdle session said turned
TurnsIn (begun own) session said turned = TurnsBegun session own said turned
TurnsIn failed session said turned = TurnsFailed session said turned

-- A piece of white space and comments alone does nothing, whatever the block.
abbrev pub TurnsSaid : Session → Said → Turned → Type 0
TurnsSaid session Nothing turned = turned ≡ silent session
TurnsSaid session said turned = TurnsIn session.block session said turned

abbrev pub TurnsRead : Session → Answer → Turned → Type 0
TurnsRead session (says said) turned = TurnsSaid session said turned
TurnsRead session (wrong_at at) turned = turned ≡ refused session (syntax_error at)
TurnsRead session too_deep turned = turned ≡ refused session (refusal 18)

-- what a piece that isn't too long is read as; none where it is
abbrev pub reading_of : List ℕ → Option Answer
reading_of piece = if nat_lt longest (length piece) then None else Some (answer_of piece)

abbrev pub TurnsBy : Option Answer → Session → Turned → Type 0
TurnsBy None session turned = turned ≡ refused session (refusal 17)
TurnsBy (Some answer) session turned = TurnsRead session answer turned

-- What a piece does in a session. The faults of its parse come first, and E17 before them.
abbrev pub Turns : Session → List ℕ → Turned → Type 0
Turns session piece turned = TurnsBy (reading_of piece) session turned

-- The most heap pages that a piece fetches in a session.

-- An INSERT may fetch some whatever becomes of it.
abbrev pub CostsRefused : Said → ℕ → Type 0
CostsRefused (Insert table listed rows) cost = cost ≡ length rows + 1
CostsRefused said cost = cost ≡ 0

abbrev pub CostsBegun : Database → Said → ℕ → Type 0
CostsBegun own (Vacuum table) cost = cost ≡ 0
CostsBegun own said cost = Costs own said cost

abbrev pub CostsIn : Block → Database → Said → ℕ → Type 0
CostsIn idle db said cost = Costs db said cost
CostsIn (begun own) db said cost = CostsBegun own said cost
CostsIn failed db said cost = CostsRefused said cost

abbrev pub CostsRead : Session → Answer → ℕ → Type 0
CostsRead session (says said) cost = CostsIn session.block session.committed said cost
CostsRead session _ cost = cost ≡ 0

abbrev pub CostsBy : Option Answer → Session → ℕ → Type 0
CostsBy None session cost = cost ≡ 0
CostsBy (Some answer) session cost = CostsRead session answer cost

abbrev pub TurnCosts : Session → List ℕ → ℕ → Type 0
TurnCosts session piece cost = CostsBy (reading_of piece) session cost

-- What a session does with a statement.
use Rattle.std.specs.Prelude.{◌≡◌, ℕ, List, [], codes}
use Rattle.gx_engine.specs.declared.engine.Kind.{Kind}
use Rattle.gx_engine.specs.declared.engine.Kind.TheVariants.{Idle, Begun, Failed}
use Rattle.gx_model.specs.Replies.{Reply, accepted, line, refusal}
use Rattle.gx_model.specs.Turns.{Session, begun, refused_in, session_over, seen}
use Rattle.gx_parse.specs.Said as said
use Rattle.gx_parse.specs.Said.{Said}
use Rattle.gx_session.specs.declared.task.Task.{Task}
use Rattle.gx_session.specs.declared.task.Task.TheVariants.{Silence, Answer, Open, Commit, RollBack, Refuse, Work}
use Rattle.gx_session.specs.declared.task.Word.{Word}
use Rattle.gx_session.specs.declared.task.Word.TheVariants as word

-- outside a block
abbrev pub idle_task : Said → Task
idle_task said.Nothing = Silence
idle_task said.Begin = Open
idle_task said.Commit = Answer word.Commit
idle_task said.Rollback = RollBack
idle_task said.Checkpoint = Answer word.Checkpoint
idle_task _ = Work

-- in an open block
abbrev pub begun_task : Said → Task
begun_task said.Nothing = Silence
begun_task said.Begin = Answer word.Begin
begun_task said.Commit = Commit
begun_task said.Rollback = RollBack
begun_task said.Checkpoint = Refuse 23
begun_task (said.Vacuum table) = Refuse 23
begun_task _ = Work

-- in a block that has failed
abbrev pub failed_task : Said → Task
failed_task said.Nothing = Silence
failed_task said.Commit = RollBack
failed_task said.Rollback = RollBack
failed_task _ = Refuse 22

abbrev pub task_in : Kind → Said → Task
task_in Idle said = idle_task said
task_in Begun said = begun_task said
task_in Failed said = failed_task said

abbrev pub word_text : Word → List ℕ
word_text word.Begin = codes "BEGIN"
word_text word.Commit = codes "COMMIT"
word_text word.Checkpoint = codes "CHECKPOINT"

-- the reply to a task; that to work is the statement's
abbrev pub reply_to : Task → Reply
reply_to Silence = accepted []
reply_to (Answer word) = accepted (line (word_text word))
reply_to Open = accepted (line (codes "BEGIN"))
reply_to Commit = accepted (line (codes "COMMIT"))
reply_to RollBack = accepted (line (codes "ROLLBACK"))
reply_to (Refuse number) = refusal number
reply_to Work = accepted []

-- the session behind a task; behind work it is the statement's
abbrev pub after_of : Task → Session → Session
after_of Open session = record { committed = session.committed; block = begun session.committed }
after_of Commit session = session_over (seen session)
after_of RollBack session = session_over session.committed
after_of (Refuse number) session = refused_in session
after_of _ session = session

-- the task calls no store
abbrev pub IsStill : Task → Type 0
IsStill Silence = Unit {0}
IsStill (Answer word) = Unit {0}
IsStill _ = ⊥

-- a block is opened only outside one
abbrev pub IsFor : Kind → Task → Type 0
IsFor kind Open = kind ≡ Idle
IsFor kind _ = Unit {0}

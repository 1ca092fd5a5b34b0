-- What a piece is read as.
use Rattle.std.specs.Prelude.{◌≡◌, ℕ, List, Option, Some, None}
use Rattle.gx_engine.specs.Engines.{reply_of}
use Rattle.gx_model.specs.Replies.{Reply, refusal, syntax_error}
use Rattle.gx_model.specs.Turns.{reading_of}
use Rattle.gx_parse.specs.Answers.{Answer, says, wrong_at, too_deep}
use Rattle.gx_parse.specs.Said.{Said, said_of}
use Rattle.gx_parse.specs.Sound.{IsSound}
use Rattle.gx_step.specs.Doing.{IsOrdinary}
use Rattle.gx_session.specs.declared.reading.Reading.{Reading}
use Rattle.gx_session.specs.declared.reading.Reading.TheVariants.{Says, Refused}

-- the reply to a piece that says no statement; none where it says one
abbrev pub fault_of : Option Answer → Option Reply
fault_of None = Some (refusal 17)
fault_of (Some (wrong_at at)) = Some (syntax_error at)
fault_of (Some too_deep) = Some (refusal 18)
fault_of (Some (says said)) = None

-- the piece says this statement
abbrev pub ReadAs : List ℕ → Said → Type 0
ReadAs text said = reading_of text ≡ Some (says said)

-- it says this statement, or no statement and is answered so
abbrev pub IsReading : Option Answer → Reading → Type 0
IsReading answer (Says statement) = answer ≡ Some (says (said_of statement))
IsReading answer (Refused reply) = fault_of answer ≡ Some (reply_of reply)

-- the statement is one that the grammar says, and the reply has a line
abbrev pub IsSoundReading : Reading → Type 0
IsSoundReading (Says statement) = IsSound (said_of statement)
IsSoundReading (Refused reply) = IsOrdinary (reply_of reply)

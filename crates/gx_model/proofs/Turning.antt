-- What turns leave of a session.
use Rattle.std.proofs.Common.{◌≡◌, inl, inr, ℕ, List, Option, Some, None, refl, ◌∙◌, ap, subst}
use Rattle.std.specs.Prelude.{IsSome}
use Rattle.gx_parse.specs.Answers.{Answer, says, wrong_at, too_deep}
use Rattle.gx_parse.specs.Said.{Said, Nothing, Vacuum, Checkpoint, Begin, Commit, Rollback}
use Rattle.gx_model.specs.Database.{Database}
use Rattle.gx_model.specs.Turns.{Session, Block, idle, begun, failed, session_over, refused_in, Turned, Turns, TurnsSeen, TurnsIdle, TurnsBegun, TurnsFailed, TurnsIn, TurnsSaid, TurnsRead, TurnsBy, reading_of, seen}
use Rattle.gx_model.proofs.Stepping.{no_fault, some_none}

-- a refused piece changes nothing but an open block, and adds no page
pub record WasRefused (session : Session) (turned : Turned) : Type 0 where
  pub session_is : turned.session ≡ refused_in session
  pub adds_none : turned.growth ≡ 0

as_refused : (session : Session) (turned : Turned) (x : Turned) → turned ≡ x → x.session ≡ refused_in session → x.growth ≡ 0 → WasRefused session turned
as_refused session turned x e s g =
    record { session_is = ap (λ (t : Turned). t.session) e ∙ s; adds_none = ap (λ (t : Turned). t.growth) e ∙ g }

not_refused : (session : Session) (turned : Turned) → turned.reply.fault ≡ None → IsSome turned.reply.fault → WasRefused session turned
not_refused session turned e h = absurd (some_none turned.reply.fault e h)

abbrev fault_in : Turned → Option ℕ
fault_in t = t.reply.fault

of_seen : (session : Session) (said : Said) (turned : Turned) → TurnsSeen session said turned → IsSome turned.reply.fault → WasRefused session turned
of_seen session said turned (inl h) some = as_refused session turned _ h.2 refl refl
of_seen session said turned (inr h) some = not_refused session turned (ap fault_in h.3 ∙ no_fault (seen session) said h.1 h.2) some

of_idle : (session : Session) (said : Said) (turned : Turned) → TurnsIdle session said turned → IsSome turned.reply.fault → WasRefused session turned
of_idle session Begin turned h some = not_refused session turned (ap fault_in h) some
of_idle session Commit turned h some = not_refused session turned (ap fault_in h) some
of_idle session Rollback turned h some = not_refused session turned (ap fault_in h) some
of_idle session said turned h some = of_seen session said turned h some

of_begun : (session : Session) (own : Database) (said : Said) (turned : Turned) → TurnsBegun session own said turned → IsSome turned.reply.fault → WasRefused session turned
of_begun session own Begin turned h some = not_refused session turned (ap fault_in h) some
of_begun session own Commit turned h some = not_refused session turned (ap fault_in h) some
of_begun session own Rollback turned h some = not_refused session turned (ap fault_in h) some
of_begun session own (Vacuum table) turned h some = as_refused session turned _ h refl refl
of_begun session own Checkpoint turned h some = as_refused session turned _ h refl refl
of_begun session own said turned h some = of_seen session said turned h some

of_failed : (session : Session) (said : Said) (turned : Turned) → TurnsFailed session said turned → IsSome turned.reply.fault → WasRefused session turned
of_failed session Commit turned h some = not_refused session turned (ap fault_in h) some
of_failed session Rollback turned h some = not_refused session turned (ap fault_in h) some
of_failed session said turned h some = as_refused session turned _ h refl refl

of_block : (block : Block) (session : Session) (said : Said) (turned : Turned) → TurnsIn block session said turned → IsSome turned.reply.fault → WasRefused session turned
of_block idle session said turned h some = of_idle session said turned h some
of_block (begun own) session said turned h some = of_begun session own said turned h some
of_block failed session said turned h some = of_failed session said turned h some

of_said : (session : Session) (said : Said) (turned : Turned) → TurnsSaid session said turned → IsSome turned.reply.fault → WasRefused session turned
of_said session Nothing turned h some = not_refused session turned (ap fault_in h) some
of_said session said turned h some = of_block session.block session said turned h some

of_answer : (session : Session) (answer : Answer) (turned : Turned) → TurnsRead session answer turned → IsSome turned.reply.fault → WasRefused session turned
of_answer session (says said) turned h some = of_said session said turned h some
of_answer session (wrong_at at) turned h some = as_refused session turned _ h refl refl
of_answer session too_deep turned h some = as_refused session turned _ h refl refl

of_reading : (reading : Option Answer) (session : Session) (turned : Turned) → TurnsBy reading session turned → IsSome turned.reply.fault → WasRefused session turned
of_reading None session turned h some = as_refused session turned _ h refl refl
of_reading (Some answer) session turned h some = of_answer session answer turned h some

pub was_refused : (session : Session) (piece : List ℕ) (turned : Turned) → Turns session piece turned → IsSome turned.reply.fault → WasRefused session turned
was_refused session piece turned h some = of_reading (reading_of piece) session turned h some

-- ROLLBACK

rolled_in : (block : Block) (session : Session) (turned : Turned) → session.block ≡ block → TurnsIn block session Rollback turned → turned.session ≡ session_over session.committed
rolled_in idle session turned e h =
    ap (λ (t : Turned). t.session) h ∙ ap (λ (b : Block). let s : Session = record { committed = session.committed; block = b } in s) e
rolled_in (begun own) session turned e h = ap (λ (t : Turned). t.session) h
rolled_in failed session turned e h = ap (λ (t : Turned). t.session) h

pub rolled : (session : Session) (piece : List ℕ) (turned : Turned) → reading_of piece ≡ Some (says Rollback) → Turns session piece turned → turned.session ≡ session_over session.committed
rolled session piece turned e h =
    let P : Option Answer → Type 0 = λ r. TurnsBy r session turned in
    rolled_in session.block session turned refl (subst P e h)

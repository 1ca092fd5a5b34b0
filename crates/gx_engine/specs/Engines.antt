-- What an engine and its store stand for, and what executing a piece leaves.
use Rattle.std.specs.Prelude.{◌≡◌, ◌≢◌, ◌⊎◌, ℕ, ◌+◌, ◌^◌, ◌≤◌, List, [], ◌∷◌, codes, Option, None}
use Rattle.gx_words.specs.Moments.{Moment}
use Rattle.gx_words.specs.PageMap.{PageMap}
use Rattle.gx_pages.specs.declared.store.Pages.{Ghosts}
use Rattle.gx_engine.specs.Times.{Between}
use Rattle.gx_model.specs.Database.{Database}
use Rattle.gx_database.specs.Standing.{StandsFor}
use Rattle.gx_model.specs.Replies.{Reply}
use Rattle.gx_model.specs.Turns.{Session, Block, Turned, Turns, seen}
use Rattle.gx_model.specs.Turns.Block.{idle, begun, failed}
use Rattle.gx_model.specs.Runs.{Answers}
use Rattle.gx_engine.specs.declared.reply.Reply as code
use Rattle.gx_engine.specs.declared.engine.Kind.{Kind}
use Rattle.gx_engine.specs.declared.engine.Kind.TheVariants.{Idle, Begun, Failed}

abbrev pub reply_of : code.Reply → Reply
reply_of reply = record { bytes = reply.bytes; fault = reply.fault }

-- what an engine keeps of its session's block
abbrev pub kind_of : Block → Kind
kind_of idle = Idle
kind_of (begun own) = Begun
kind_of failed = Failed

-- The committed map stands for the session's committed database, the map for the one that the session sees, and
-- whatever a crash leaves for the committed one.
pub record IsIn {P : Type 0} (g : Ghosts P) (store : P) (kind : Kind) (session : Session) : Type 0 where
  pub block : kind ≡ kind_of session.block
  pub committed : StandsFor (g.committed store) session.committed
  pub map : StandsFor (g.map store) (seen session)
  pub left : (map : PageMap) → g.may_leave store map → StandsFor map session.committed

-- There are no more pages than so many, and were no more at the last commit.
pub record HasAtMost {P : Type 0} (g : Ghosts P) (store : P) (pages : ℕ) : Type 0 where
  pub now : g.count store ≤ pages
  pub committed : g.committed_count store ≤ pages

-- There are at most so many pages more than before, now and at the last commit.
abbrev pub GrowsBy : {P : Type 0} → Ghosts P → P → P → ℕ → Type 0
GrowsBy g old new more = (pages : ℕ) → HasAtMost g old pages → HasAtMost g new (pages + more)

-- Nothing waits to be committed: the map is the committed one.
pub record IsSettled {P : Type 0} (g : Ghosts P) (store : P) : Type 0 where
  pub map : g.map store ≡ g.committed store
  pub count : g.count store ≡ g.committed_count store

-- The piece was executed: it was answered by its turn, or there was no room, and the store stands for the next session.
-- At each moment a crash leaves a committed map of before, or one that stands for the next committed database, and
-- nothing is answered.
pub record Executed {P : Type 0} (g : Ghosts P) (old new : P) (kind : Kind) (session : Session) (piece : List ℕ) (reply : Reply) : Type 0 where
  pub turned : Turned
  pub turns : Turns session piece turned
  pub after : Session
  pub answers : Answers (g.count old) session turned reply after
  pub is_in : IsIn g new kind after
  pub grows : GrowsBy g old new turned.growth
  pub time : Between g.moment g.may_have_left_since old new (λ m. (g.may_leave old m.image ⊎ StandsFor m.image after.committed) × (m.bytes ≡ (g.said old).bytes))

-- The disk failed within the piece: the commit of an accepted statement was made or wasn't.
pub record Stopped {P : Type 0} (g : Ghosts P) (old new : P) (session : Session) (piece : List ℕ) : Type 0 where
  pub turned : Turned
  pub turns : Turns session piece turned
  pub left : (map : PageMap) → g.may_leave new map → g.may_leave old map ⊎ StandsFor map turned.session.committed
  pub time : Between g.moment g.may_have_left_since old new
      (λ m. (g.may_leave old m.image ⊎ StandsFor m.image turned.session.committed) × (m.bytes ≡ (g.said old).bytes))

-- Nothing was committed.
pub record Unmade {P : Type 0} (g : Ghosts P) (old new : P) : Type 0 where
  pub committed : g.tells → g.committed new ≡ g.committed old
  pub left : (map : PageMap) → g.may_leave new map → g.may_leave old map
  pub time : Between g.moment g.may_have_left_since old new (λ m. g.may_leave old m.image × (m.bytes ≡ (g.said old).bytes))

-- the reply to CHECKPOINT
abbrev pub checkpoint_reply : List ℕ
checkpoint_reply = codes "CHECKPOINT\n"

-- How the store of a session moves.
use Rattle.std.specs.Prelude.{◌≡◌, ◌⊎◌, ℕ, ◌≤◌, Option, Some, None}
use Rattle.gx_words.specs.PageMap.{PageMap}
use Rattle.gx_pages.specs.declared.store.Pages.{Ghosts}
use Rattle.gx_database.specs.Standing.{StandsFor}
use Rattle.gx_model.specs.Database.{Database}
use Rattle.gx_model.specs.Turns.{Session, refused_in, with_seen}
use Rattle.gx_engine.specs.Times.{Between}
use Rattle.gx_engine.specs.Engines.{IsIn, HasAtMost, kind_of}
use Rattle.gx_engine.specs.declared.engine.Kind.{Kind}
use Rattle.gx_engine.specs.declared.engine.Kind.TheVariants.{Idle, Begun, Failed}

-- The committed map, and whatever a crash leaves, stand for the session's committed database. The map may be any.
pub record Keeps {P : Type 0} (g : Ghosts P) (store : P) (kind : Kind) (session : Session) : Type 0 where
  pub block : kind ≡ kind_of session.block
  pub committed : StandsFor (g.committed store) session.committed
  pub left : (map : PageMap) → g.may_leave store map → StandsFor map session.committed

-- at each moment a crash leaves a map of before or one that stands for this database, and nothing is answered
abbrev pub MayCommit : {P : Type 0} → Ghosts P → P → P → Database → Type 0
MayCommit g old new db = Between g.moment g.may_have_left_since old new (λ m. (g.may_leave old m.image ⊎ StandsFor m.image db) × (m.bytes ≡ (g.said old).bytes))

-- there is no page more, now and at the last commit
abbrev pub NeverGrows : {P : Type 0} → Ghosts P → P → P → Type 0
NeverGrows g old new = (pages : ℕ) → HasAtMost g old pages → HasAtMost g new pages

-- The store is now where it stands for the session, and has no page more.
pub record Moved {P : Type 0} (g : Ghosts P) (old new : P) (kind : Kind) (session : Session) : Type 0 where
  pub is_in : IsIn g new kind session
  pub grows : NeverGrows g old new
  pub time : MayCommit g old new session.committed

-- The disk failed where this database was to be the committed one: it is, or the one of before is.
pub record MayHaveMoved {P : Type 0} (g : Ghosts P) (old new : P) (db : Database) : Type 0 where
  pub left : (map : PageMap) → g.may_leave new map → g.may_leave old map ⊎ StandsFor map db
  pub time : MayCommit g old new db

-- Nothing is answered, and what lies below goes on.
pub record GoesOn {P : Type 0} (g : Ghosts P) (old new : P) : Type 0 where
  pub said : g.said new ≡ g.said old
  pub follows : g.follows old new
  pub faults : g.faults old ≤ g.faults new

-- what is left of a block behind a refused piece
abbrev pub broken : Kind → Kind
broken Idle = Idle
broken Begun = Failed
broken Failed = Failed

-- the session behind a statement with this fault, or without one, that leaves this database
abbrev pub behind : Option ℕ → Session → Database → Session
behind None session db = with_seen session db
behind (Some number) session db = refused_in session

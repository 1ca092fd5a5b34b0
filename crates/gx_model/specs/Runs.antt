-- Runs: what the pieces of a script do, one after another.
use Rattle.std.specs.Prelude.{◌≡◌, ◌≢◌, ◌⊎◌, ℕ, ◌+◌, ◌^◌, ◌<◌, ◌≤◌, Bool, List, [], ◌∷◌, None, is_some}
use Rattle.std.specs.List.{flat_map, list_any}
use Rattle.gx_model.specs.Database.{Database}
use Rattle.gx_model.specs.Replies.{Reply, refusal}
use Rattle.gx_model.specs.Turns.{Session, session_over, refused_in, Turned, Turns, TurnCosts}

-- Where a run is: its session, and the most pages that there can be, which is the first count and what every piece so
-- far may have added.
pub record State : Type 0 where
  pub session : Session
  pub pages : ℕ

-- where a run on a database with so many pages begins
abbrev pub start : Database → ℕ → State
start db pages = record { session = session_over db; pages = pages }

-- the reply where there is no room for more pages
abbrev pub no_room : Reply
no_room = refusal 20

-- The statement is accepted by its turn, adds pages, and there may not be so many.
pub record LacksRoom (pages : ℕ) (turned : Turned) : Type 0 where
  pub accepted : turned.reply.fault ≡ None
  pub grows : turned.growth ≢ 0
  pub full : 2 ^ 50 ≤ pages + turned.growth

-- A piece does in a session what its turn says, or is refused for want of room, and then changes nothing but an open
-- block, which has failed.
abbrev pub Answers : ℕ → Session → Turned → Reply → Session → Type 0
Answers pages session turned reply after =
    ((reply ≡ turned.reply) × (after ≡ turned.session))
    ⊎ (LacksRoom pages turned × (reply ≡ no_room) × (after ≡ refused_in session))

-- a piece that was done: what it was answered, and where the run is then
pub record Done : Type 0 where
  pub reply : Reply
  pub after : State

pub record Does (from : State) (piece : List ℕ) (done : Done) : Type 0 where
  pub turned : Turned
  pub turns : Turns from.session piece turned
  pub answers : Answers from.pages from.session turned done.reply done.after.session
  pub pages : done.after.pages ≡ from.pages + turned.growth

-- These are the first pieces, done one after another.
abbrev pub AreDone : State → List (List ℕ) → List Done → Type 0
AreDone from pieces [] = Unit {0}
AreDone from [] (done ∷ dones) = ⊥
AreDone from (piece ∷ pieces) (done ∷ dones) = Does from piece done × AreDone done.after pieces dones

-- where the run is after them
abbrev pub after : State → List Done → State
after from [] = from
after from (done ∷ dones) = after done.after dones

-- the committed database after them
abbrev pub committed_after : State → List Done → Database
committed_after from dones = (after from dones).session.committed

-- the bytes of the replies, in order
abbrev pub text_of : List Done → List ℕ
text_of dones = flat_map (λ done. done.reply.bytes) dones

-- Some reply is an error line.
abbrev pub any_refused : List Done → Bool
any_refused dones = list_any (λ done. is_some done.reply.fault) dones

-- However the pieces are done, there may never be too many pages.
abbrev pub HasRoom : State → List (List ℕ) → Type 0
HasRoom from pieces = (dones : List Done) → AreDone from pieces dones → (after from dones).pages < 2 ^ 50

-- the most heap pages that the pieces fetch that were done, and the one behind them, if it was begun
abbrev pub CostsOfRun : State → List (List ℕ) → List Done → ℕ → Type 0
CostsOfRun from [] dones cost = cost ≡ 0
CostsOfRun from (piece ∷ pieces) [] cost = TurnCosts from.session piece cost
CostsOfRun from (piece ∷ pieces) (done ∷ dones) cost =
    (first : ℕ) × (others : ℕ) × TurnCosts from.session piece first × CostsOfRun done.after pieces dones others × (cost ≡ first + others)

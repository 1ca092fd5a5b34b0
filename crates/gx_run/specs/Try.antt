-- The headline of a run on a database in memory, which has no images.
use Rattle.std.specs.Prelude.{◌≡◌, ℕ, ◌+◌, ◌<◌, ◌≤◌, Bool, List, [], ◌++◌, length, take, Result, Ok, Err, IfOk}
use Rattle.gx_words.specs.PageMap.{PageMap}
use Rattle.gx_lexer.specs.Cut.{cut, statements}
use Rattle.gx_database.specs.Standing.{StandsFor}
use Rattle.gx_model.specs.Runs.{State, Done, AreDone, any_refused}
use Rattle.gx_run.specs.Headline.{EndsSo}
use Rattle.gx_run.specs.Moves.{Spent}
use Rattle.gx_run.specs.declared.halt.Halt.{Halt}
use Rattle.gx_run.specs.declared.halt.Halt.TheVariants.{Stopped, Source, Full}
use Rattle.gx_run.specs.declared.stop.Stop.{Stop}

abbrev pub NoImage : PageMap → Type 0
NoImage map = ⊥

-- The pieces were done one after another, from the first on, and answered as the result says, in no more ticks than they
-- may cost.
pub record Tried (from : State) (ticks ticked : ℕ) (before now : List ℕ) (pieces : List (List ℕ)) (result : Result Bool Stop) : Type 0 where
  pub dones : List Done
  pub done : AreDone from pieces dones
  pub ended : EndsSo StandsFor NoImage from (length pieces) dones before now result
  pub refused : IfOk result (λ refused. refused ≡ any_refused dones)
  pub spent : Spent from pieces dones ticks ticked result

abbrev pub TryHeadline : State → ℕ → ℕ → List ℕ → List ℕ → ℕ → List ℕ → List ℕ → Result Bool Halt → Type 0
TryHeadline from ticks ticked before now limit script left (Ok refused) = Tried from ticks ticked before now (statements script) (Ok refused) × (left ≡ []) × (length script ≤ limit)
TryHeadline from ticks ticked before now limit script left (Err (Stopped stop)) = Tried from ticks ticked before now (statements script) (Err stop) × (length script ≤ limit + length left)
TryHeadline from ticks ticked before now limit script left (Err Source) =
    (taken : List ℕ) × (script ≡ taken ++ left) × (length taken ≤ limit) × (refused : Bool) × Tried from ticks ticked before now (cut taken).pieces (Ok refused)
TryHeadline from ticks ticked before now limit script left (Err Full) =
    (limit + length left < length script) × (refused : Bool) × Tried from ticks ticked before now (cut (take limit script)).pieces (Ok refused)

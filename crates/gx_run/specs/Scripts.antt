-- The run of a script that is read from a source.
use Rattle.std.specs.Prelude.{◌≡◌, ◌≢◌, ℕ, ◌+◌, ◌<◌, ◌≤◌, Bool, List, [], ◌++◌, length, take, Result, Ok, Err}
use Rattle.gx_words.specs.Causes.{Said}
use Rattle.gx_words.specs.Moments.{Moment}
use Rattle.gx_words.specs.PageMap.{PageMap}
use Rattle.gx_model.specs.Runs.{State}
use Rattle.gx_run.specs.Moves.{Ran}
use Rattle.gx_lexer.specs.Cut.{cut, statements}
use Rattle.gx_run.specs.declared.stop.Stop.{Stop}
use Rattle.gx_run.specs.declared.halt.Halt.{Halt}
use Rattle.gx_run.specs.declared.halt.Halt.TheVariants.{Stopped, Source, Full}

-- How much was taken of a script, of which so many bytes are left: more than it may have only at the end that says so.
abbrev pub Takes : ℕ → List ℕ → List ℕ → Result Bool Halt → Type 0
Takes limit script left (Ok refused) = length script ≤ limit + length left
Takes limit script left (Err (Stopped stop)) = length script ≤ limit + length left
Takes limit script left (Err Source) = length script ≤ limit + length left
Takes limit script left (Err Full) = limit + length left < length script

-- The same by the status.
abbrev pub TakesBy : ℕ → List ℕ → List ℕ → ℕ → Type 0
TakesBy limit script left status = (status ≡ 7 → limit + length left < length script) × (status ≢ 7 → length script ≤ limit + length left)

module _ {D : Type 0} (moment : D → ℕ) (since : D → ℕ → Moment PageMap → Type 0) (leaves : D → PageMap → Type 0) (said : D → Said) (is_at : D → State → Type 0) (emptied : D → Type 0)
    (before now : ℕ) (old new : D) (from : State) where
  -- The pieces that a `;` ends in these bytes were run.
  abbrev pub RanFront : List ℕ → Type 0
  RanFront bytes = (refused : Bool) × Ran moment since leaves said is_at emptied before now old new from (cut bytes).pieces (Ok refused)

  -- How the run of a script ended, with so many bytes at most, and what is left of it. Only where there were more bytes than that, more were taken.
  abbrev pub RanScript : ℕ → List ℕ → List ℕ → Result Bool Halt → Type 0
  RanScript limit script left (Ok refused) = Ran moment since leaves said is_at emptied before now old new from (statements script) (Ok refused) × (left ≡ []) × (length script ≤ limit)
  RanScript limit script left (Err (Stopped stop)) = Ran moment since leaves said is_at emptied before now old new from (statements script) (Err stop) × (length script ≤ limit + length left)
  RanScript limit script left (Err Source) = (taken : List ℕ) × (script ≡ taken ++ left) × (length taken ≤ limit) × RanFront taken
  RanScript limit script left (Err Full) = (limit + length left < length script) × RanFront (take limit script)

  -- The pieces that end in more bytes were run, those behind the ones that end in what was fed.
  abbrev pub RanMore : List ℕ → List ℕ → Result Bool Stop → Type 0
  RanMore fed bytes result = (more : List (List ℕ)) × ((cut (fed ++ bytes)).pieces ≡ (cut fed).pieces ++ more)
      × Ran moment since leaves said is_at emptied before now old new from more result

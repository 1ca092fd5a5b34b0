-- A run without images.
use Rattle.std.proofs.Common.{ℕ, Bool, List, take, Result, Ok, Err, IfOk, ◌≡◌}
use Rattle.gx_words.specs.Causes.{Said}
use Rattle.gx_words.specs.Moments.{Moment}
use Rattle.gx_words.specs.PageMap.{PageMap}
use Rattle.gx_lexer.specs.Cut.{cut, statements}
use Rattle.gx_model.specs.Runs.{State, Done, any_refused, after}
use Rattle.gx_run.specs.Moves.{Ran}
use Rattle.gx_run.specs.Scripts.{RanScript}
use Rattle.gx_run.specs.Try.{Tried, TryHeadline}
use Rattle.gx_run.specs.declared.halt.Halt.{Halt}
use Rattle.gx_run.specs.declared.halt.Halt.TheVariants.{Stopped, Source, Full}
use Rattle.gx_run.specs.declared.stop.Stop.{Stop}

refused_at : (result : Result Bool Stop) (dones : List Done) (At : Type 0) → IfOk result (λ refused. (refused ≡ any_refused dones) × At) → IfOk result (λ refused. refused ≡ any_refused dones)
refused_at (Ok refused) dones At h = h.0
refused_at (Err stop) dones At h = tt

module _ {D : Type 0} (s t : ℕ) (moment : D → ℕ) (since : D → ℕ → Moment PageMap → Type 0) (said : D → Said) (is_at : D → State → Type 0) (emptied : D → Type 0) (old new : D) (from : State) where
  one : (pieces : List (List ℕ)) (result : Result Bool Stop) → Ran moment since (λ d map. ⊥) said is_at emptied s t old new from pieces result
      → Tried from s t (said old).bytes (said new).bytes pieces result
  one pieces result ran = record { dones = ran.dones; done = ran.done; ended = ran.ends; refused = refused_at result ran.dones (is_at new (after from ran.dones)) ran.at; spent = ran.spent }

  pub tries : (limit : ℕ) (script rest : List ℕ) (result : Result Bool Halt) → RanScript moment since (λ d map. ⊥) said is_at emptied s t old new from limit script rest result
      → TryHeadline from s t (said old).bytes (said new).bytes limit script rest result
  tries limit script rest (Ok refused) r = (one (statements script) (Ok refused) r.0, r.1, r.2)
  tries limit script rest (Err (Stopped stop)) r = (one (statements script) (Err stop) r.0, r.1)
  tries limit script rest (Err Source) r = (r.0, r.1, r.2, r.3.0, one (cut r.0).pieces (Ok r.3.0) r.3.1)
  tries limit script rest (Err Full) r = (r.0, r.1.0, one (cut (take limit script)).pieces (Ok r.1.0) r.1.1)

-- Statements that do nothing to the pages.
use Rattle.std.proofs.Common.{◌≡◌, ℕ, ◌+◌, ◌≤◌, Result, Ok, Err, IfOk, refl, sym, subst, arith}
use Rattle.gx_pages.specs.declared.store.Pages.{Ghosts}
use Rattle.gx_database.specs.Standing.{StandsFor}
use Rattle.gx_model.specs.Database.{Database}
use Rattle.gx_model.specs.Replies.{Reply}
use Rattle.gx_model.specs.Steps.{Steps, unchanged}
use Rattle.gx_parse.specs.Said.{Said}
use Rattle.gx_step.specs.Doing.{AtMostGrows, Done, Vacuums}
use Rattle.gx_step.proofs.Same.{done_same}

-- the pages stay, and stand for the same database
pub done_still : {P : Type 0} (g : Ghosts P) (s : P) (said same : Said) (db : Database) (answer reply : Reply) → said ≡ same → Steps db same (unchanged db answer) → answer ≡ reply
    → StandsFor (g.map s) db → Vacuums same (unchanged db answer) (g.map s) → Done g s s said db reply
done_still g s said same db answer reply e steps answered stands vacuums =
    subst (λ (x : Said). Done g s s x db reply) (sym e) (done_same g s s same db answer reply stands refl refl steps answered vacuums)

pub if_ok_then : {T E : Type 0} (result : Result T E) (P Q : T → Type 0) → ((x : T) → P x → Q x) → IfOk result P → IfOk result Q
if_ok_then (Ok value) P Q f p = f value p
if_ok_then (Err error) P Q f p = tt

-- the same statement adds the same pages
pub grows_as : {P : Type 0} (g : Ghosts P) (old new : P) (a b : Said) → a ≡ b → AtMostGrows g old new a → AtMostGrows g old new b
grows_as g old new a b same grows = subst (λ (s : Said). AtMostGrows g old new s) same grows

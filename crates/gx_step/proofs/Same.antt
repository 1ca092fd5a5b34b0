-- Statements that leave the pages as they are.
use Rattle.std.proofs.Common.{◌≡◌, inl, ℕ, Some, None, refl, sym, subst, arith}
use Rattle.gx_words.specs.PageMap.{PageMap}
use Rattle.gx_pages.specs.declared.store.Pages.{Ghosts}
use Rattle.gx_parse.specs.Said.{Said, Vacuum}
use Rattle.gx_model.specs.Checks.{Find}
use Rattle.gx_model.specs.Database.{Database}
use Rattle.gx_model.specs.Faults.{checks}
use Rattle.gx_model.specs.Replies.{Reply, refusal}
use Rattle.gx_model.specs.Steps.{Steps, unchanged}
use Rattle.gx_database.specs.Standing.{StandsFor}
use Rattle.gx_step.specs.Doing.{Done, Vacuums}

-- A statement that changes nothing was done.
pub done_same : {P : Type 0} (g : Ghosts P) (old new : P) (said : Said) (db : Database) (answer reply : Reply) → StandsFor (g.map old) db → g.map new ≡ g.map old → g.count new ≡ g.count old
    → Steps db said (unchanged db answer) → answer ≡ reply → Vacuums said (unchanged db answer) (g.map new) → Done g old new said db reply
done_same g old new said db answer reply s map count steps answered vacuums = record {
  stepped = unchanged db answer;
  steps = steps;
  answered = answered;
  stands = subst (λ (m : PageMap). StandsFor m db) (sym map) s;
  grows = omega (arith, count);
  vacuumed = vacuums;
}

never : (n : ℕ) → Some n ≡ None → ⊥
never n e = cc

vacuums_refused : (said : Said) (db : Database) (n : ℕ) (map : PageMap) → Vacuums said (unchanged db (refusal n)) map
vacuums_refused (Vacuum name) db n map = λ accepted. absurd (never n accepted)
vacuums_refused _ db n map = tt

-- A refusal leaves the pages as they are.
pub refused_done : {P : Type 0} (g : Ghosts P) (old new : P) (said : Said) (db : Database) (n : ℕ) (reply : Reply) → g.map new ≡ g.map old → g.count new ≡ g.count old → StandsFor (g.map old) db
    → Find (checks db said) (Some n) → reply ≡ refusal n → Done g old new said db reply
refused_done g old new said db n reply map count s find same =
    done_same g old new said db (refusal n) reply s map count (inl (n, find, refl)) (sym same) (vacuums_refused said db n (g.map new))

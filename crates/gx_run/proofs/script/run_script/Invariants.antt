use Rattle.std.proofs.Common.{◌≡◌, ℕ, ◌-◌, ◌≤◌, false, List, ◌++◌, length, Ok}
use Rattle.gx_lexer.specs.Cut.{cut}
use Rattle.gx_lexer.specs.Feeding.{Fed}
use Rattle.gx_model.specs.Runs.{State}
use Rattle.gx_run.specs.Moves.{Ran}
use Rattle.gx_run.specs.declared.script.TheConstants.{LIMIT}
use Rattle.gx_run.proofs.script.run_script.Given as goal

abbrev pub invariant-loop-taken : goal.invariant-loop-taken
invariant-loop-taken g l = record {
  ready : g.D.Desk.ready l.desk;
  sound : l.cutter.spoiled ≡ false;
  follows : g.D.Desk.follows l.fn.desk l.desk;
  counted : g.S.Source.faults l.fn.source ≤ g.S.Source.faults l.source;
  disk : g.D.Desk.disk_faults l.fn.desk ≤ g.D.Desk.disk_faults l.desk;
  answers : (g.D.Desk.said l.fn.desk).faults ≤ (g.D.Desk.said l.desk).faults;
  within : l.taken ≤ LIMIT;
  fed : (fed : List ℕ) × Fed l.cutter fed × (g.S.Source.tells → g.S.Source.told l.fn.source ≡ fed ++ g.S.Source.told l.source) × (length fed ≡ l.taken)
      × (g.D.Desk.tells → (from : State) → g.D.Desk.is_at l.fn.desk from
      → Ran g.D.Desk.moment g.D.Desk.may_have_left_since g.D.Desk.may_leave g.D.Desk.said g.D.Desk.is_at g.D.Desk.emptied l.fn.steps l.steps l.fn.desk l.desk from (cut fed).pieces (Ok l.refused));
}

abbrev pub decreases-loop-taken : goal.decreases-loop-taken
decreases-loop-taken g l = LIMIT - l.taken

use Rattle.std.proofs.Common.{◌≡◌, ℕ, ◌≤◌, List, ◌++◌, length, map, Ok}
use Rattle.gx_lexer.specs.declared.piece.Piece.{Piece}
use Rattle.gx_lexer.specs.Feeding.{piece_of}
use Rattle.gx_model.specs.Runs.{State}
use Rattle.gx_run.specs.Moves.{Ran}
use Rattle.gx_run.proofs.pieces.run_pieces.Given as goal

abbrev pub invariant-loop-piece : goal.invariant-loop-piece
invariant-loop-piece g l = record {
  ready : g.D.Desk.ready l.desk;
  follows : g.D.Desk.follows l.fn.desk l.desk;
  ran : (front : List Piece) × (l.pieces ≡ front ++ l.rest)
      × (g.D.Desk.tells → (from : State) (texts : List (List ℕ)) → g.D.Desk.is_at l.fn.desk from → map piece_of texts ≡ front
      → Ran g.D.Desk.moment g.D.Desk.may_have_left_since g.D.Desk.may_leave g.D.Desk.said g.D.Desk.is_at g.D.Desk.emptied l.fn.steps l.steps l.fn.desk l.desk from texts (Ok l.refused));
  disk : g.D.Desk.disk_faults l.fn.desk ≤ g.D.Desk.disk_faults l.desk;
  answers : (g.D.Desk.said l.fn.desk).faults ≤ (g.D.Desk.said l.desk).faults;
}

abbrev pub decreases-loop-piece : goal.decreases-loop-piece
decreases-loop-piece g l = length l.rest

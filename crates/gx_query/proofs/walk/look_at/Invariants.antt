use Rattle.std.proofs.Common.{List, take}
use Rattle.gx_plan.specs.Bounds.{kinds_of}
use Rattle.gx_query.specs.Seen.{Seen, AreSeen}
use Rattle.gx_query.specs.Walks.{Shown, condition_of}
use Rattle.gx_query.proofs.walk.look_at.Given as goal

abbrev pub invariant-loop-at : goal.invariant-loop-at
invariant-loop-at g l = record {
  shown : (seen : List Seen) → AreSeen (kinds_of l.columns) (take l.at l.rows) seen → Shown (g.V.Visit.after l.columns) (condition_of l.filter) l.fn.visitor l.visitor l.fn.counts l.counts seen;
  still : g.V.Visit.fits l.visitor l.columns;
}

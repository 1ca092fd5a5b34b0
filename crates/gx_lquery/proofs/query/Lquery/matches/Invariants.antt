use Rattle.std.proofs.Common.{take}
use Rattle.gx_lquery.proofs.Rows.{IsRowOf}
use Rattle.gx_lquery.proofs.query.Lquery.matches.Given as goal

abbrev pub invariant-loop-item : goal.invariant-loop-item
invariant-loop-item l = IsRowOf (take l.item-index l.items) l.path l.row.items

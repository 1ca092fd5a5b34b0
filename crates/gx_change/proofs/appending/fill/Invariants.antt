use Rattle.std.proofs.Common.{◌≡◌, ◌++◌, take}
use Rattle.gx_change.specs.Appended.{items_from}
use Rattle.gx_change.proofs.appending.fill.Given as goal

abbrev pub invariant-loop-row : goal.invariant-loop-row
invariant-loop-row l = record {
  count : l.n ≡ l.row-index;
  filled : l.slots ≡ record l.fn.slots { items = l.fn.slots.items ++ items_from l.next (take l.n l.rows) };
}

use Rattle.std.proofs.Common.{◌≡◌, ◌≤◌, length}
use Rattle.gx_formula.specs.Machine.{negated, unnegated, frames}
use Rattle.gx_formula.proofs.parser.ended.Given as goal

abbrev pub invariant-signs : goal.invariant-signs
invariant-signs g l = record {
  value : negated (frames g.F.Formula.tree l.stack.items) (g.F.Formula.tree l.inner) ≡ negated (frames g.F.Formula.tree l.initial.stack.items) (g.F.Formula.tree l.initial.inner);
  left : unnegated (frames g.F.Formula.tree l.stack.items) ≡ unnegated (frames g.F.Formula.tree l.initial.stack.items);
  depth : length l.stack.items ≤ length l.initial.stack.items;
}

abbrev pub decreases-signs : goal.decreases-signs
decreases-signs g l = length l.stack.items

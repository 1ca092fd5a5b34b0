use Rattle.std.proofs.Common.{◌≡◌, map, drop}
use Rattle.gx_value.specs.Operators.{operands_among, line_of}
use Rattle.gx_value.proofs.operators.operands_among.Given as goal

-- those that are left decide
abbrev pub invariant-loop-line : goal.invariant-loop-line
invariant-loop-line l = operands_among (map line_of (drop l.line-index l.lines)) l.op ≡ operands_among (map line_of l.lines) l.op

use Rattle.std.proofs.Common.{◌≡◌, map, drop}
use Rattle.gx_value.specs.Types.{kind_among, line_of}
use Rattle.gx_value.proofs.types.kind_among.Given as goal

-- those that are left decide
abbrev pub invariant-loop-line : goal.invariant-loop-line
invariant-loop-line l = kind_among (map line_of (drop l.line-index l.lines)) l.word ≡ kind_among (map line_of l.lines) l.word

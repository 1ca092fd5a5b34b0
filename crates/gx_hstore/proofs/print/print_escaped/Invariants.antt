use Rattle.std.proofs.Common.{◌≡◌, ◌++◌, take, flat_map}
use Rattle.gx_hstore.specs.Printing.{escaped}
use Rattle.gx_hstore.proofs.print.print_escaped.Given as goal

abbrev pub invariant-loop-byte : goal.invariant-loop-byte
invariant-loop-byte l = l.to ≡ l.initial.to ++ flat_map escaped (take l.byte-index l.bytes)

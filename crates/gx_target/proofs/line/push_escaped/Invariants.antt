use Rattle.std.proofs.Common.{◌≡◌, ◌++◌, drop}
use Rattle.std.specs.List.{flat_map}
use Rattle.gx_model.specs.Replies.{escaped_byte}
use Rattle.gx_target.proofs.line.push_escaped.Given as goal

-- what is left is missing
abbrev pub invariant-loop-byte : goal.invariant-loop-byte
invariant-loop-byte l = l.to ++ flat_map escaped_byte (drop l.byte-index l.text) ≡ l.initial.to ++ flat_map escaped_byte l.text

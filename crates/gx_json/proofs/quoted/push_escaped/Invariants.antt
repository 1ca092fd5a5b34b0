use Rattle.std.proofs.Common.{◌≡◌, ◌++◌, take}
use Rattle.json.specs.Print.{escape}
use Rattle.gx_json.proofs.quoted.push_escaped.Given as goal

abbrev pub invariant-loop-byte : goal.invariant-loop-byte
invariant-loop-byte l = l.to ≡ l.initial.to ++ escape (take l.byte-index l.text)

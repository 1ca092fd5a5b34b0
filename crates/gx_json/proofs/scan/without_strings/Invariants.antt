use Rattle.std.proofs.Common.{◌≡◌, ◌++◌, drop}
use Rattle.gx_json.specs.Scan.{outside}
use Rattle.gx_json.specs.Places.{kept}
use Rattle.gx_json.proofs.scan.without_strings.Given as goal

abbrev pub invariant-loop-byte : goal.invariant-loop-byte
invariant-loop-byte l = l.plain ++ kept l.place (drop l.byte-index l.text) ≡ outside l.text

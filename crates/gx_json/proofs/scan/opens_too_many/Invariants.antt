use Rattle.std.proofs.Common.{◌≡◌, ℕ, ◌≤◌, take}
use Rattle.gx_json.specs.Scan.{opened}
use Rattle.gx_json.proofs.scan.opens_too_many.Given as goal

abbrev pub invariant-loop-byte : goal.invariant-loop-byte
invariant-loop-byte l = (l.count ≡ opened (take l.byte-index l.plain)) × ((k : ℕ) → k ≤ l.byte-index → opened (take k l.plain) ≤ 64)

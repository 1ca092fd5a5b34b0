use Rattle.std.proofs.Common.{ℕ, List, length}
use Rattle.gx_hstore.specs.Text.{TakesSigns}
use Rattle.gx_hstore.proofs.Progress.{Continues}
use Rattle.gx_hstore.proofs.strings.take_signs.Given as goal

abbrev pub invariant-loop-byte : goal.invariant-loop-byte
invariant-loop-byte l = (tail : List ℕ) → Continues (λ text bytes. TakesSigns l.quoted text bytes tail) l.text l.bytes l.rest

abbrev pub decreases-loop-byte : goal.decreases-loop-byte
decreases-loop-byte l = length l.rest

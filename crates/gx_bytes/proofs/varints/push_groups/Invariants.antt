use Rattle.std.proofs.Common.{◌++◌, List, ℕ}
use Rattle.gx_bytes.specs.Varints.{IsVarint, AppendsVarint, Extends}
use Rattle.gx_bytes.proofs.varints.push_groups.Given as goal

-- whatever stands for the rest completes the number
abbrev pub invariant-loop-rest : goal.invariant-loop-rest
invariant-loop-rest l = record {
  completes : (tail : List ℕ) → IsVarint tail l.rest → AppendsVarint l.fn.to (l.to ++ tail) l.value;
  so_far : Extends l.fn.to l.to;
}

abbrev pub decreases-loop-rest : goal.decreases-loop-rest
decreases-loop-rest l = l.rest

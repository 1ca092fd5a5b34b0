use Rattle.std.proofs.Common.{◌≡◌, ◌≤◌, ◌<◌, ◌^◌, ℕ, List, length, take}
use Rattle.gx_tree.specs.Paging.{weight}
use Rattle.gx_tree.proofs.splitting.weight_before.Given as goal

abbrev pub invariant-loop-at : goal.invariant-loop-at
invariant-loop-at l = l.end ≤ length l.items → weight (take l.end l.items) < 2 ^ 32 → l.sum ≡ weight (take l.at l.items)

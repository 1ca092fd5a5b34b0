use Rattle.std.proofs.Common.{◌≡◌, ◌≤◌, ◌<◌, ◌^◌, ◌*◌, ℕ, List, length, take}
use Rattle.gx_tree.specs.Paging.{weight}
use Rattle.gx_tree.proofs.splitting.middle_of.Given as goal

abbrev pub invariant-loop-at : goal.invariant-loop-at
invariant-loop-at l = weight l.items < 2 ^ 32 → 0 < length l.items → (l.sum ≡ weight (take l.at l.items)) × (2 * weight (take l.at l.items) < weight l.items)

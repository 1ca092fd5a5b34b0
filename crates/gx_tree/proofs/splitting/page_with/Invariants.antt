use Rattle.std.proofs.Common.{◌≡◌, ◌≤◌, ℕ, List, Some, map, take, drop}
use Rattle.gx_tree.specs.Trees.{slots}
use Rattle.gx_tree.proofs.splitting.page_with.Given as goal

abbrev pub invariant-loop-at : goal.invariant-loop-at
invariant-loop-at l = l.made ≡ slots l.kind l.level (map (λ item. Some item) (drop l.from (take l.at l.items)))

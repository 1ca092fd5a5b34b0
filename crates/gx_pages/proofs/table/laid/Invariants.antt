use Rattle.std.proofs.Common.{◌≡◌, ℕ, take}
use Rattle.std.specs.BTreeMap.{get}
use Rattle.std.specs.Ordering.{nat_cmp}
use Rattle.gx_pages.specs.Contents.{bytes_of, given}
use Rattle.gx_pages.proofs.table.laid.Given as goal

abbrev pub invariant-loop-i : goal.invariant-loop-i
invariant-loop-i l = (n : ℕ) → bytes_of (get nat_cmp l.laid n) ≡ given (take l.i l.pages) n

use Rattle.std.proofs.Common.{◌≡◌, ◌+◌, ◌++◌, length}
use Rattle.gx_pages.specs.Rows.{IsRising}
use Rattle.gx_bitmap.proofs.Rising.{common}
use Rattle.gx_bitmap.proofs.merge.and.Given as goal

abbrev pub invariant-loop-taken : goal.invariant-loop-taken
invariant-loop-taken l = record {
  both : l.rows ++ common l.right l.left ≡ common l.fn.b l.fn.a;
  rising : IsRising (l.rows ++ l.left);
  right_rises : IsRising l.right;
}

abbrev pub decreases-loop-taken : goal.decreases-loop-taken
decreases-loop-taken l = length l.left + length l.right

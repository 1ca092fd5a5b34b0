use Rattle.std.proofs.Common.{◌+◌, ◌++◌, length}
use Rattle.std.specs.List.Sorted.{IsPermutation}
use Rattle.gx_pages.specs.Rows.{IsRising}
use Rattle.gx_bitmap.proofs.Rising.{new_ones}
use Rattle.gx_bitmap.proofs.merge.or.Given as goal

abbrev pub invariant-loop-taken : goal.invariant-loop-taken
invariant-loop-taken l = record {
  all : IsPermutation (l.rows ++ (l.left ++ new_ones l.left l.right)) (l.fn.a ++ new_ones l.fn.a l.fn.b);
  left_rises : IsRising (l.rows ++ l.left);
  right_rises : IsRising (l.rows ++ l.right);
}

abbrev pub decreases-loop-taken : goal.decreases-loop-taken
decreases-loop-taken l = length l.left + length l.right

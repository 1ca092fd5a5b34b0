use Rattle.std.proofs.Common.{List, ◌++◌, sym, subst}
use Rattle.std.specs.List.Sorted.{IsPermutation}
use Rattle.std.proofs.lemmas.List.Sorted.{IsPermutation-trans}
use Rattle.gx_pages.specs.declared.row.RowRef.{RowRef}
use Rattle.gx_pages.specs.Rows.{IsRising}
use Rattle.gx_bitmap.proofs.Merging.{or_taken}
use Rattle.gx_bitmap.proofs.Rising.{new_ones, rising_right}
use Rattle.gx_bitmap.proofs.merge.or.Goals as goal

pub take_lesser-requires-clause-left : goal.take_lesser-requires-clause-left
take_lesser-requires-clause-left c = rising_right c.loop-taken.rows c.loop-taken.left.now c.loop-taken.invariant.left_rises

pub take_lesser-requires-clause-right : goal.take_lesser-requires-clause-right
take_lesser-requires-clause-right c = rising_right c.loop-taken.rows c.loop-taken.right.now c.loop-taken.invariant.right_rises

pub push-requires : goal.push-requires
push-requires c =
    (or_taken c.loop-taken.rows c.loop-taken.left.now c.loop-taken.right.now c.in-Some.taken.row c.in-Some.taken.common c.in-Some.taken.left.now c.in-Some.taken.right.now c.in-Some.ensures.some
    c.loop-taken.invariant.left_rises c.loop-taken.invariant.right_rises).below

pub loop-taken-preserved : goal.loop-taken-preserved
loop-taken-preserved c =
    let before = c.loop-taken.invariant in
    let left = c.in-Some.taken.left.now in
    let right = c.in-Some.taken.right.now in
    let step = or_taken c.loop-taken.rows c.loop-taken.left.now c.loop-taken.right.now c.in-Some.taken.row c.in-Some.taken.common left right c.in-Some.ensures.some before.left_rises before.right_rises in
    let rows = sym c.in_ok-push.ensures.ok in
    record {
      all = IsPermutation-trans (c.push.new.self ++ (left ++ new_ones left right)) (c.loop-taken.rows ++ (c.loop-taken.left.now ++ new_ones c.loop-taken.left.now c.loop-taken.right.now)) (c.args.a.now ++ new_ones c.args.a.now c.args.b.now)
          (subst (λ (l : List RowRef). IsPermutation (l ++ (left ++ new_ones left right)) (c.loop-taken.rows ++ (c.loop-taken.left.now ++ new_ones c.loop-taken.left.now c.loop-taken.right.now))) rows step.all) before.all;
      left_rises = subst (λ (l : List RowRef). IsRising (l ++ left)) rows step.left_rises;
      right_rises = subst (λ (l : List RowRef). IsRising (l ++ right)) rows step.right_rises;
    }

use Rattle.std.proofs.Common.{◌≡◌, List, [], ◌∷◌, ◌++◌, sym, ◌∙◌, ap, subst}
use Rattle.gx_pages.specs.declared.row.RowRef.{RowRef}
use Rattle.gx_pages.specs.Rows.{IsRising}
use Rattle.gx_bitmap.proofs.Merging.{and_taken}
use Rattle.gx_bitmap.proofs.Rising.{common, rising_right}
use Rattle.gx_bitmap.proofs.merge.and.Goals as goal
use Rattle.gx_bitmap.proofs.merge.and.Goals.{then-taken+in_ok-push, else-taken}

pub take_lesser-requires-clause-left : goal.take_lesser-requires-clause-left
take_lesser-requires-clause-left c = rising_right c.loop-taken.rows c.loop-taken.left.now c.loop-taken.invariant.rising

pub push-requires : goal.push-requires
push-requires c =
    (and_taken c.loop-taken.rows c.loop-taken.left.now c.loop-taken.right.now c.in-Some.taken.row c.in-Some.taken.common c.in-Some.taken.left.now c.in-Some.taken.right.now c.in-Some.ensures.some
    c.loop-taken.invariant.rising c.loop-taken.invariant.right_rises).below c.if-taken.true

pub loop-taken-preserved : goal.loop-taken-preserved
loop-taken-preserved c =
    let before = c.loop-taken.invariant in
    let step = and_taken c.loop-taken.rows c.loop-taken.left.now c.loop-taken.right.now c.in-Some.taken.row c.in-Some.taken.common c.in-Some.taken.left.now c.in-Some.taken.right.now c.in-Some.ensures.some
    before.rising before.right_rises in
    elim c.if-taken.branch [
      | then-taken+in_ok-push w ↦
          (let rows : c.if-taken.rows ≡ c.loop-taken.rows ++ c.in-Some.taken.row ∷ [] = w.rows-is ∙ w.in_ok-push.ensures.ok in
          record {
            both = ap (λ (l : List RowRef). l ++ common c.in-Some.taken.right.now c.in-Some.taken.left.now) rows ∙ step.kept w.if-taken.true ∙ before.both;
            rising = subst (λ (l : List RowRef). IsRising (l ++ c.in-Some.taken.left.now)) (sym rows) (step.rising_kept w.if-taken.true);
            right_rises = step.right_rises;
          })
      | else-taken w ↦
          (let rows : c.if-taken.rows ≡ c.loop-taken.rows = w.rows-is in
          record {
            both = ap (λ (l : List RowRef). l ++ common c.in-Some.taken.right.now c.in-Some.taken.left.now) rows ∙ step.passed w.if-taken.false ∙ before.both;
            rising = subst (λ (l : List RowRef). IsRising (l ++ c.in-Some.taken.left.now)) (sym rows) (step.rising_passed w.if-taken.false);
            right_rises = step.right_rises;
          })
    ]

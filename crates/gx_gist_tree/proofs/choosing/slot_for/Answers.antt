use Rattle.std.proofs.Common.{◌+◌, inl, inr, ⊎_elim, List, ℕ, ◌<◌, length, map, sym, subst, arith}
use Rattle.std.proofs.lemmas.Result.{err_from_is_err_and}
use Rattle.gx_gist_tree.proofs.LeastFacts.{IsSoFar, so_far_first, so_far_less, so_far_more, so_far_all, so_far_none, many_items, many_numbers, number_at, never_refused}
use Rattle.gx_gist_tree.proofs.choosing.slot_for.Goals as goal
use Rattle.gx_gist_tree.proofs.choosing.slot_for.Goals.{then-penalty-least, else-penalty-least}

pub returns-then-count-eq0-clause-cause : goal.returns-then-count-eq0-clause-cause
returns-then-count-eq0-clause-cause g c = inr (
  c.no_item.ensures,
  λ items some all is.
      let class = c.args.class.now in
      let many = many_items (g.C.GistClass.valid_key class) (g.C.GistClass.spelling class) (λ k. g.C.GistClass.growth class k c.args.key.now) c.args.slots.now.items items all is in
      let none = c.if-count-eq0.true in
      omega (arith, some, many, none, c.count-count.ensures),
)

pub returns-in_err-least-clause-cause : goal.returns-in_err-least-clause-cause
returns-in_err-least-clause-cause g c =
    let p = err_from_is_err_and c.from_residual.result c.from_residual.ensures.1 in
    rw (p.1, p.2)
    (⊎_elim (λ memory. inl memory)
    (λ broken. inr (
      broken.0,
      λ items some all is.
          let class = c.args.class.now in
          let many = many_items (g.C.GistClass.valid_key class) (g.C.GistClass.spelling class) (λ k. g.C.GistClass.growth class k c.args.key.now) c.args.slots.now.items items all is in
          never_refused (g.C.GistClass.valid_key class) (g.C.GistClass.spelling class) (λ k. g.C.GistClass.growth class k c.args.key.now) c.args.slots.now.items items all is 0 (omega (arith, some, many)) broken.1,
    ))
    c.in_err-least.ensures.cause)

pub loop-slot-init : goal.loop-slot-init
loop-slot-init g c =
    let some = c.if-count-eq0.false in record {
      below = omega (arith, some, c.count-count.ensures);
      least = λ items all is.
          let class = c.args.class.now in
          so_far_first (map (λ item. g.C.GistClass.growth class item.1 c.args.key.now) items) c.in_ok-least.least
          (number_at (g.C.GistClass.valid_key class) (g.C.GistClass.spelling class) (λ k. g.C.GistClass.growth class k c.args.key.now) c.args.slots.now.items items all is 0 c.in_ok-least.least
          (omega (arith, some, c.count-count.ensures)) c.in_ok-least.ensures.some);
    }

pub returns-then-least-eq0-clause-least : goal.returns-then-least-eq0-clause-least
returns-then-least-eq0-clause-least g c = λ items all is.
    let class = c.args.class.now in
    let growth = λ (k : g.row.C-Key.Denot). g.C.GistClass.growth class k c.args.key.now in
    let many = many_numbers (g.C.GistClass.valid_key class) (g.C.GistClass.spelling class) growth c.args.slots.now.items items all is in
    let test = c.loop-slot-test.true in
    so_far_none (map (λ item. g.C.GistClass.growth class item.1 c.args.key.now) items) c.loop-slot.best c.loop-slot.least c.loop-slot.slot (c.loop-slot.invariant.least items all is)
    (omega (arith, many, test, c.count-count.ensures)) c.if-least-eq0.true

pub returns-in_err-penalty-clause-cause : goal.returns-in_err-penalty-clause-cause
returns-in_err-penalty-clause-cause g c =
    let p = err_from_is_err_and c.from_residual-in_err-penalty.result c.from_residual-in_err-penalty.ensures.1 in
    rw (p.1, p.2)
    (⊎_elim (λ memory. inl memory)
    (λ broken. inr (
      broken.0,
      λ items some all is.
          let class = c.args.class.now in
          let test = c.loop-slot-test.true in
          never_refused (g.C.GistClass.valid_key class) (g.C.GistClass.spelling class) (λ k. g.C.GistClass.growth class k c.args.key.now) c.args.slots.now.items items all is c.loop-slot.slot
          (omega (arith, test, c.count-count.ensures)) broken.1,
    ))
    c.in_err-penalty.ensures.cause)

pub returns-clause-least : goal.returns-clause-least
returns-clause-least g c = λ items all is.
    let class = c.args.class.now in
    let growth = λ (k : g.row.C-Key.Denot). g.C.GistClass.growth class k c.args.key.now in
    let many = many_numbers (g.C.GistClass.valid_key class) (g.C.GistClass.spelling class) growth c.args.slots.now.items items all is in
    let test = c.loop-slot-test.false in
    let some = c.if-count-eq0.false in
    so_far_all (map (λ item. g.C.GistClass.growth class item.1 c.args.key.now) items) c.loop-slot.best c.loop-slot.least c.loop-slot.slot (c.loop-slot.invariant.least items all is)
    (omega (arith, many, test, some, c.count-count.ensures))

pub loop-slot-preserved : goal.loop-slot-preserved
loop-slot-preserved g c =
    let class = c.args.class.now in
    let slot = c.loop-slot.slot in
    let low : c.loop-slot.slot < length c.args.slots.now.items = (let test = c.loop-slot-test.true in omega (arith, test, c.count-count.ensures)) in
    let numbers = λ (items : List (ℕ × g.row.C-Key.Denot)). map (λ (item : ℕ × g.row.C-Key.Denot). g.C.GistClass.growth c.args.class.now item.1 c.args.key.now) items in
    elim c.if-penalty-least.branch [
      | then-penalty-least w ↦ (
          record {
            below = subst (λ (n : ℕ). n < length c.args.slots.now.items) (sym w.best-is) low;
            least = λ items all is.
                let here = number_at (g.C.GistClass.valid_key class) (g.C.GistClass.spelling class) (λ k. g.C.GistClass.growth class k c.args.key.now) c.args.slots.now.items items all is slot c.in_ok-penalty.penalty low c.in_ok-penalty.ensures.some in
                subst (λ (b : ℕ). IsSoFar (numbers items) b c.if-penalty-least.least (c.loop-slot.slot + 1)) (sym w.best-is)
                (subst (λ (m : ℕ). IsSoFar (numbers items) c.loop-slot.slot m (c.loop-slot.slot + 1)) (sym w.least-is)
                (so_far_less (numbers items) c.loop-slot.best c.loop-slot.least slot c.in_ok-penalty.penalty (c.loop-slot.invariant.least items all is) here w.if-penalty-least.true));
          })
      | else-penalty-least w ↦ (
          record {
            below = subst (λ (n : ℕ). n < length c.args.slots.now.items) (sym w.best-is) c.loop-slot.invariant.below;
            least = λ items all is.
                let here = number_at (g.C.GistClass.valid_key class) (g.C.GistClass.spelling class) (λ k. g.C.GistClass.growth class k c.args.key.now) c.args.slots.now.items items all is slot c.in_ok-penalty.penalty low c.in_ok-penalty.ensures.some in
                subst (λ (b : ℕ). IsSoFar (numbers items) b c.if-penalty-least.least (c.loop-slot.slot + 1)) (sym w.best-is)
                (subst (λ (m : ℕ). IsSoFar (numbers items) c.loop-slot.best m (c.loop-slot.slot + 1)) (sym w.least-is)
                (so_far_more (numbers items) c.loop-slot.best c.loop-slot.least slot c.in_ok-penalty.penalty (c.loop-slot.invariant.least items all is) here w.if-penalty-least.false));
          })
    ]

use Rattle.std.proofs.Common.{refl, arith, length, inl, inr, ◌+◌, ◌-◌}
use Rattle.gx_gist.proofs.SplitFacts.{as_many, each_below, cut_here, sides_here, size_more}
use Rattle.gx_gist.proofs.split.cut_at_half.Goals as goal

pub overflow_sub-last : goal.overflow_sub-last
overflow_sub-last c = let many = as_many c.args.places.now (length c.args.sizes.now) c.requires.places in omega (arith, many)

pub bounds-sizes-places : goal.bounds-sizes-places
bounds-sizes-places c = each_below c.args.places.now (length c.args.sizes.now) c.loop-k.k c.requires.places
    (let many = as_many c.args.places.now (length c.args.sizes.now) c.requires.places in omega (arith, many))

pub returns-then-taken-total-clause-fit : goal.returns-then-taken-total-clause-fit
returns-then-taken-total-clause-fit c =
    let more = size_more c.args.sizes.now c.args.places.now c.loop-k.k (omega arith) in
    rw (c.split_at.ensures.front, c.split_at.ensures.back)
    (sides_here c.args.sizes.now c.args.places.now c.loop-k.k (c.loop-k.k + 1) refl c.requires.places c.requires.sizes (omega arith) c.loop-k.invariant.early
    (inl (omega (arith, more))))

-- the loop ended before the last place
pub returns-clause-cut : goal.returns-clause-cut
returns-clause-cut c =
    let many = as_many c.args.places.now (length c.args.sizes.now) c.requires.places in
    rw (c.split_at-2.ensures.front, c.split_at-2.ensures.back)
    (cut_here c.args.sizes.now c.args.places.now (length c.args.places.now - 2) (length c.args.places.now - 1) (omega (arith, many)) c.requires.places c.requires.sizes (omega (arith, many))
    (λ j some within. c.loop-k.invariant.early j some (omega arith)) (inr (omega (arith, many))))

pub returns-clause-fit : goal.returns-clause-fit
returns-clause-fit c =
    let many = as_many c.args.places.now (length c.args.sizes.now) c.requires.places in
    rw (c.split_at-2.ensures.front, c.split_at-2.ensures.back)
    (sides_here c.args.sizes.now c.args.places.now (length c.args.places.now - 2) (length c.args.places.now - 1) (omega (arith, many)) c.requires.places c.requires.sizes (omega (arith, many))
    (λ j some within. c.loop-k.invariant.early j some (omega arith)) (inr (omega (arith, many))))

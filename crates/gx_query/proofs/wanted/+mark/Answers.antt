use Rattle.std.proofs.Common.{subst, sym}
use Rattle.gx_plan.specs.Bounds.{bound_of}
use Rattle.gx_plan.specs.declared.bound.Bound.{Bound}
use Rattle.gx_query.specs.Wanted.{Covers}
use Rattle.gx_query.proofs.Narrowing.{covers_kept}
use Rattle.gx_query.proofs.wanted.+mark.Goals as goal

pub returns-in-And-clause-covers : goal.returns-in-And-clause-covers
returns-in-And-clause-covers t c =
    let mid = c.mark.new.wanted in
    let new = c.mark-in-And.new.wanted in
    let left = subst (λ (b : Bound). Covers mid (bound_of b)) c.deref.ensures c.mark.ensures.covers in
    let right = subst (λ (b : Bound). Covers new (bound_of b)) c.deref-in-And.ensures c.mark-in-And.ensures.covers in
    subst (λ (b : Bound). Covers new (bound_of b)) (sym c.in-And.is) (covers_kept mid new c.mark-in-And.ensures.kept (bound_of c.in-And.left.value) left, right)

pub returns-in-Or-clause-covers : goal.returns-in-Or-clause-covers
returns-in-Or-clause-covers t c =
    let mid = c.mark-in-Or.new.wanted in
    let new = c.mark-in-Or-2.new.wanted in
    let left = subst (λ (b : Bound). Covers mid (bound_of b)) c.deref-in-Or.ensures c.mark-in-Or.ensures.covers in
    let right = subst (λ (b : Bound). Covers new (bound_of b)) c.deref-in-Or-2.ensures c.mark-in-Or-2.ensures.covers in
    subst (λ (b : Bound). Covers new (bound_of b)) (sym c.in-Or.is) (covers_kept mid new c.mark-in-Or-2.ensures.kept (bound_of c.in-Or.left.value) left, right)

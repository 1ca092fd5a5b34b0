-- The sorted copy without doubles has the distinct elements.
use Rattle.std.proofs.Common.{◌≡◌, ◌∙◌, List, ℤ, map, IfOk, subst}
use Rattle.gx_class_intset.specs.Intervals.{single}
use Rattle.gx_class_intset.specs.NumberLaws.{distinct_is}
use Rattle.gx_class_intset.proofs.points.points_of.Goals as goal

pub returns : goal.returns
returns c =
    subst (λ (numbers : List ℤ). IfOk c.singles_of.result (λ made. made.items ≡ map single numbers))
    (c.as_slice.ensures.value ∙ distinct_is c.args.value.now c.in_ok-numbers.numbers.items c.requires c.in_ok-numbers.ensures) c.singles_of.ensures

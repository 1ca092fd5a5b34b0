-- Plans over a list of indexes.
use Rattle.std.proofs.Common.{◌≡◌, ◌≢◌, ℕ, ◌<◌, ◌≤◌, zero, suc, Bool, true, false, cond, nat_lt, List, [], ◌∷◌, length, Option, Some, None, slice_get, refl, sym, ap, arith}
use Rattle.std.proofs.lemmas.Bool.{ltb-true}
use Rattle.std.proofs.lemmas.Option.{slice_get_past}
use Rattle.std.proofs.lemmas.Bool.Decides.{nat_tests}
use Rattle.gx_model.specs.Database.{Index}
use Rattle.gx_model.specs.Plans as model
use Rattle.gx_plan.specs.Plans.{plan_of, at_place, is_table, IsWithin}
use Rattle.gx_plan.specs.declared.plan.Plan.{Plan}
use Rattle.gx_plan.specs.declared.plan.Plan.TheVariants as plan

-- a place of a list has an element
one_is_some : (indexes : List Index) (place : ℕ) → place < length indexes → model.by_index (slice_get indexes place) ≢ model.Whole
one_is_some [] place there = absurd (omega (arith, there))
one_is_some (i ∷ indexes) zero there = λ whole. cc
one_is_some (i ∷ indexes) (suc place) there = one_is_some indexes place (omega (arith, there))

pub not_whole : (indexes : List Index) (p : Plan) → is_table p ≡ false → IsWithin (length indexes) p → plan_of indexes p ≢ model.Whole
not_whole indexes plan.Table other within = λ whole. cc
not_whole indexes (plan.One place) other within = one_is_some indexes place within
not_whole indexes (plan.And' l a r b) other within = λ whole. cc
not_whole indexes (plan.Or' l a r b) other within = λ whole. cc

-- The index at the place that was found.

placed_step : (indexes : List Index) (place : ℕ) (b : Bool) → nat_lt place (length indexes) ≡ b → plan_of indexes (at_place (cond b (Some place) None)) ≡ model.by_index (slice_get indexes place)
placed_step indexes place true e = refl
placed_step indexes place false e =
    let past : length indexes ≤ place = grind (arith, nat_tests) in
    ap (λ (o : Option Index). model.by_index o) (sym (slice_get_past indexes place past))

pub placed : (indexes : List Index) (place : ℕ) → plan_of indexes (at_place (cond (nat_lt place (length indexes)) (Some place) None)) ≡ model.by_index (slice_get indexes place)
placed indexes place = placed_step indexes place (nat_lt place (length indexes)) refl

within_step : (place count : ℕ) (b : Bool) → nat_lt place count ≡ b → IsWithin count (at_place (cond b (Some place) None))
within_step place count true e = ltb-true place count e
within_step place count false e = tt

pub within : (place count : ℕ) → IsWithin count (at_place (cond (nat_lt place count) (Some place) None))
within place count = within_step place count (nat_lt place count) refl

use Rattle.std.proofs.Common.{Bool, sym, subst}
use Rattle.gx_model.specs.Truth as truth
use Rattle.gx_plan.specs.Indexes.{is_on}
use Rattle.gx_plan.specs.Plans.{at_place, IsChosen}
use Rattle.gx_plan.specs.declared.plan.Plan.{Plan}
use Rattle.gx_plan.proofs.ChoosingLemmas.{null_chosen, in_catalog, place_fits}
use Rattle.gx_plan.proofs.choosing.plan_of_null.Goals as goal

pub plan_at-requires : goal.plan_at-requires
plan_at-requires c =
    let catalog = c.args.catalog.now in
    place_fits catalog.tables catalog.indexes (is_on c.args.table c.args.place) c.first_on.result c.indexes.ensures.valid
    (in_catalog (is_on c.args.table c.args.place) c.first_on.result c.indexes.result.now catalog.indexes c.first_on.ensures c.indexes.ensures.value)

pub returns : goal.returns
returns c =
    let catalog = c.args.catalog.now in
    let found = c.first_on.result in
    let chosen = null_chosen catalog c.indexes.ensures.valid
    (record { numbered = λ n t. c.found_among.ensures.numbered n catalog.tables t; own = λ t. c.own_found.ensures.named catalog.tables catalog.indexes t c.indexes.ensures.valid })
    c.args.table c.args.place found (in_catalog (is_on c.args.table c.args.place) found c.indexes.result.now catalog.indexes c.first_on.ensures c.indexes.ensures.value) in
    subst (λ (q : Plan). IsChosen catalog c.args.table (truth.IsNull c.args.place c.args.negated) q) (sym c.plan_at.ensures)
    (subst (λ (b : Bool). IsChosen catalog c.args.table (truth.IsNull c.args.place b) (at_place found)) (sym c.if-negated.false) chosen)

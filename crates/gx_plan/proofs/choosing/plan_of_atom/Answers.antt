use Rattle.std.proofs.Common.{ℕ, Bool, ◌&&◌, Option, option_map, sym, subst}
use Rattle.gx_catalog.specs.declared.info.IndexInfo.{IndexInfo}
use Rattle.gx_opr.specs.declared.operand.Operand.{Operand}
use Rattle.gx_value.specs.Classes.{supports}
use Rattle.gx_value.specs.declared.operators.Operator.{Operator}
use Rattle.gx_value.specs.declared.types.OperandType.{OperandType}
use Rattle.gx_model.specs.Truth as truth
use Rattle.gx_plan.specs.Bounds.{operand_of}
use Rattle.gx_plan.specs.Indexes.{is_on}
use Rattle.gx_plan.specs.Plans.{at_place, IsChosen}
use Rattle.gx_plan.specs.declared.plan.Plan.{Plan}
use Rattle.gx_plan.proofs.ChoosingLemmas.{atom_chosen, in_catalog, place_fits}
use Rattle.gx_plan.proofs.choosing.plan_of_atom.Goals as goal

-- the index is on the column and answers the operator
abbrev answers : ℕ → ℕ → Operator → OperandType → IndexInfo → Bool
answers table place op kind i = is_on table place i && supports i.class op kind

pub plan_at-requires : goal.plan_at-requires
plan_at-requires c =
    let catalog = c.args.catalog.now in
    let p = answers c.args.table c.args.place c.args.op c.in-Some.operand.kind in
    place_fits catalog.tables catalog.indexes p c.first_answering-found.result c.indexes.ensures.valid
    (in_catalog p c.first_answering-found.result c.indexes.result.now catalog.indexes c.first_answering-found.ensures c.indexes.ensures.value)

pub returns-in-Some : goal.returns-in-Some
returns-in-Some c =
    let catalog = c.args.catalog.now in
    let operand = c.in-Some.operand in
    let found = c.first_answering-found.result in
    let p = answers c.args.table c.args.place c.args.op operand.kind in
    let chosen = atom_chosen catalog c.indexes.ensures.valid
    (record { numbered = λ n t. c.found_among.ensures.numbered n catalog.tables t; own = λ t. c.own_found.ensures.named catalog.tables catalog.indexes t c.indexes.ensures.valid })
    c.args.table c.args.place c.args.op (operand_of operand) found
    (in_catalog p found c.indexes.result.now catalog.indexes c.first_answering-found.ensures c.indexes.ensures.value) in
    subst (λ (q : Plan). IsChosen catalog c.args.table (truth.Atom c.args.place c.args.op (option_map operand_of c.args.operand.now)) q) (sym c.plan_at.ensures)
    (subst (λ (o : Option Operand). IsChosen catalog c.args.table (truth.Atom c.args.place c.args.op (option_map operand_of o)) (at_place found)) (sym c.in-Some.is) chosen)

use Rattle.std.proofs.Common.{option_map, subst}
use Rattle.gx_value.specs.Values.{row_of}
use Rattle.gx_plan.specs.declared.bound.Bound.{Bound}
use Rattle.gx_plan.specs.Bounds.{bound_of, operand_of, IsBound}
use Rattle.gx_plan.proofs.TruthLemmas.{asks_of}
use Rattle.gx_plan.proofs.bound.Bound.+truth.Goals as goal

pub truth_of_atom-requires : goal.truth_of_atom-requires
truth_of_atom-requires t c =
    let kinds = c.requires.0 in
    let operand = option_map operand_of c.in-Atom.operand in
    rw c.field_at.ensures
    (asks_of kinds (row_of c.args.fields.now) c.in-Atom.place c.in-Atom.op operand
    (subst (λ (b : Bound). IsBound kinds (bound_of b)) c.in-Atom.is c.requires.1) c.requires.2)

use Rattle.std.proofs.Common.{FitsSigned, w64, rules, to_z-of_z}
use Rattle.std.proofs.lemmas.Bool.Decides.{same_from_decides}
use Rattle.gx_range.specs.Decisions.{has_element}
use Rattle.gx_range.proofs.DecisionLemmas.{has_element-Decides}
use Rattle.gx_range.proofs.range.Range.has_element.Goals as goal

pub returns-clause-decision : goal.returns-clause-decision
returns-clause-decision c =
    let fits : FitsSigned w64 c.args.value = search rules in
    let told = simp to_z-of_z at c.has_element.ensures in
    same_from_decides c.has_element.result (has_element c.args.self.now c.args.value) told (has_element-Decides c.args.self.now c.args.value)

use Rattle.gx_range.proofs.DecisionLemmas.{holds-Decides, has_element-Decides}
use Rattle.gx_range.proofs.laws.decided.Goals as goal

pub returns-clause-ranges : goal.returns-clause-ranges
returns-clause-ranges c = holds-Decides

pub returns-clause-elements : goal.returns-clause-elements
returns-clause-elements c = has_element-Decides

use Rattle.gx_model.proofs.TruthLemmas.{least, greatest, turned, of_null}
use Rattle.gx_model.proofs.laws.three_values.Goals as goal

pub returns-clause-least : goal.returns-clause-least
returns-clause-least c = least

pub returns-clause-greatest : goal.returns-clause-greatest
returns-clause-greatest c = greatest

pub returns-clause-turned : goal.returns-clause-turned
returns-clause-turned c = turned

pub returns-clause-null : goal.returns-clause-null
returns-clause-null c = of_null

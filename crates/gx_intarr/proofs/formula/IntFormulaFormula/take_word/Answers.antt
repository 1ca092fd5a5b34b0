-- No number stands there.
use Rattle.gx_intarr.proofs.formula.IntFormulaFormula.take_word.Goals as goal

pub returns-in_default : goal.returns-in_default
returns-in_default c = (λ w rest t. c.in_default.ensures t.0 rest t.1, λ f. c.in_default.ensures f.0 f.1 f.3)

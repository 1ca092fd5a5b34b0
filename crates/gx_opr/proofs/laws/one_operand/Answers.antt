use Rattle.gx_opr.proofs.OneOperand.{Laws, one_of_literal}
use Rattle.gx_opr.proofs.laws.one_operand.Goals as goal

laws : (c : goal.After-one_answer-3) → Laws
laws c = record {
  one_value = λ kind literal has r s m n p q. c.one_answer.ensures kind literal r s has m n p q;
  one_query = c.one_answer-2.ensures;
  one_list = c.one_answer-3.ensures;
}

pub returns : goal.returns
returns c = one_of_literal (laws c)

use Rattle.gx_value.proofs.OneAnswer.{Laws, one_of_literal}
use Rattle.gx_value.proofs.laws.one_answer.Goals as goal

laws : (c : goal.After-one_array_answer) → Laws
laws c = record {
  one_scalar = λ kind text r s m n p q. c.one_answer.ensures kind text r s p q m n;
  one_range = λ kind core r s m n p q. c.one_answer-2.ensures kind core r s p q;
  one_inet = λ text r s m n p q. c.one_answer-3.ensures text r s p q;
  one_path = c.one_answer-4.ensures;
  one_map = c.one_answer-5.ensures;
  one_document = c.one_answer-6.ensures;
  one_array = c.one_array_answer.ensures;
}

pub returns : goal.returns
returns c = one_of_literal (laws c)

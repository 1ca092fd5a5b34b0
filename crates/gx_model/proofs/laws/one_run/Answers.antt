use Rattle.gx_model.proofs.OneRun as runs
use Rattle.gx_model.proofs.OneTurn as turns
use Rattle.gx_model.proofs.laws.one_run.Goals as goal

facts : (c : goal.After-one_operand) → turns.Facts
facts c = record {
  literals = record {
    of_values = λ kind l h r s m n p q. c.one_answer.ensures kind l r s h m n p q;
    of_rights = λ kind l h r s m n p q. c.one_operand.ensures kind l r s h m n p q;
  };
  bytes = c.one_row.ensures.bytes;
}

pub returns : goal.returns
returns c = runs.one_run (facts c)

use Rattle.std.proofs.Common.{refl}
use Rattle.gx_bitmap.proofs.Candidates as facts
use Rattle.gx_bitmap.proofs.laws.one_list.Goals as goal

pub returns-clause-some : goal.returns-clause-some
returns-clause-some c = λ left rows are. facts.candidates_of left rows are

pub returns-clause-one : goal.returns-clause-one
returns-clause-one c = λ left rows candidates others rising are also. facts.one_list left rows candidates others rising are.are are.stand also.are also.stand

pub returns-clause-all : goal.returns-clause-all
returns-clause-all c = λ rows. record { are = refl; stand = facts.all_rows rows }

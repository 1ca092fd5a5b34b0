use Rattle.gx_bytes.proofs.BlankLemmas.{core_trims, core_is}
use Rattle.gx_bytes.proofs.blanks.one_core.Goals as goal

pub returns-clause-is : goal.returns-clause-is
returns-clause-is c = core_trims

pub returns-clause-only : goal.returns-clause-only
returns-clause-only c = core_is

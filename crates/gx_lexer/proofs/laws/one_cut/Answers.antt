use Rattle.gx_lexer.proofs.CutLaw as law
use Rattle.gx_lexer.proofs.laws.one_cut.Goals as goal

pub returns : goal.returns
returns c = record { is = law.is; only = law.only }

use Rattle.std.proofs.Common.{sym, ◌∙◌}
use Rattle.gx_chain.proofs.Links.{one_list}
use Rattle.gx_chain.proofs.laws.one_chain.Goals as goal

pub returns : goal.returns
returns c = λ map count kind chain other links others same held more.
    one_list map kind links others held.linked more.linked (sym held.first ∙ same ∙ more.first)

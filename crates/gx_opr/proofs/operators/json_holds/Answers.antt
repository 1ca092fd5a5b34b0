use Rattle.gx_opr.proofs.operators.json_holds.Goals as goal

pub returns-in-HasAll-Texts : goal.returns-in-HasAll-Texts
returns-in-HasAll-Texts c =
    rw (c.in-HasAll-Texts.is-0, c.in-HasAll-Texts.is-1) (rw c.as_slice-in-HasAll-Texts.ensures at c.has_all.ensures.relation)

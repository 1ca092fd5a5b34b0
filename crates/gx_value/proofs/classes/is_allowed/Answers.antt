use Rattle.gx_value.proofs.classes.is_allowed.Goals as goal

pub returns-in-Siglen : goal.returns-in-Siglen
returns-in-Siglen c = rw c.in-Siglen.is c.is_among.ensures

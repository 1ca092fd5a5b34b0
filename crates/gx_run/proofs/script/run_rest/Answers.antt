use Rattle.std.proofs.Common.{[], ◌∷◌}
use Rattle.gx_lexer.specs.Cut.{cut}
use Rattle.gx_run.proofs.RunFacts as facts
use Rattle.gx_run.proofs.script.run_rest.Goals as goal

pub returns-in-Err-clause-headline : goal.returns-in-Err-clause-headline
returns-in-Err-clause-headline g c = λ tells from fed at is.
    let d = g.D.Desk in
    facts.wants_memory d.moment d.may_have_left_since d.may_leave d.said d.is_at d.emptied c.args.desk.now from ((cut fed).rest ∷ []) (λ map l. g.met.D.Desk.left tells c.args.desk.now from at map l)

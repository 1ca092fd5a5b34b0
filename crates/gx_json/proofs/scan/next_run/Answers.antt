use Rattle.std.proofs.Common.{sym, ◌∙◌}
use Rattle.std.proofs.lemmas.List.Quantifiers.{position-Some}
use Rattle.gx_json.specs.Scan.{begins_run}
use Rattle.gx_json.proofs.RunLemmas.{no_runs, nowhere, run_there}
use Rattle.gx_json.proofs.scan.next_run.Goals as goal

pub returns-in_err-start-clause-next : goal.returns-in_err-start-clause-next
returns-in_err-start-clause-next c =
    let text = c.args.text.now in
    rw c.from_residual.ensures (no_runs text (nowhere begins_run text (sym c.first_start.ensures ∙ c.in_err-start.was)))

pub returns-clause-next : goal.returns-clause-next
returns-clause-next c =
    let text = c.args.text.now in
    let at = position-Some begins_run text c.in_ok-start.start 0 (sym c.first_start.ensures ∙ c.in_ok-start.was) in
    run_there text c.in_ok-start.start c.run_length.result at.0 at.1 at.2 c.run_length.ensures.within c.run_length.ensures.run

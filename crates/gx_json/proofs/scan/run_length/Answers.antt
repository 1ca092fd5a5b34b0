use Rattle.std.proofs.Common.{ℕ, Bool, not, sym, ◌∙◌, arith, get_or, length}
use Rattle.std.proofs.lemmas.List.Quantifiers.{position-Some}
use Rattle.gx_json.specs.Scan.{is_run_byte}
use Rattle.gx_json.proofs.RunLemmas.{runs_for, nowhere, not_false, not_true}
use Rattle.gx_json.proofs.scan.run_length.Goals as goal

pub returns-in-Some-clause-run : goal.returns-in-Some-clause-run
returns-in-Some-clause-run c =
    let text = c.args.text.now in
    let p : ℕ → Bool = λ b. not (is_run_byte b) in
    let at = position-Some p text c.in-Some.at 0 (sym c.first_other.ensures ∙ c.in-Some.is) in
    runs_for text c.in-Some.at (omega (arith, at.0)) (λ k below. not_false (is_run_byte (get_or text k 0)) (at.2 k below)) (λ _. not_true (is_run_byte (get_or text c.in-Some.at 0)) at.1)

pub returns-in-None-clause-run : goal.returns-in-None-clause-run
returns-in-None-clause-run c =
    let text = c.args.text.now in
    let p : ℕ → Bool = λ b. not (is_run_byte b) in
    let none = nowhere p text (sym c.first_other.ensures ∙ c.in-None.is) in
    runs_for text (length text) (omega arith) (λ k below. not_false (is_run_byte (get_or text k 0)) (none k below)) (λ less. absurd (omega arith))

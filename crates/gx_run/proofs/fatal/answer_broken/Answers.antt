use Rattle.std.proofs.Common.{◌≡◌, ◌++◌, ℕ, List, codes, ◌∙◌, ap}
use Rattle.std.specs.Fmt.{decimal}
use Rattle.gx_run.specs.Lines.{broken_line}
use Rattle.gx_run.proofs.DeskFacts as facts
use Rattle.gx_run.proofs.fatal.answer_broken.Goals as goal

pub returns-clause-said : goal.returns-clause-said
returns-clause-said g c =
    let line : c.as_bytes.result.now ≡ broken_line c.args.page c.args.expected c.args.found =
    c.as_bytes.ensures.value ∙ c.as_str.ensures.value ∙ c.push_str.ensures.bytes
    ∙ ap (λ (l : List ℕ). l ++ codes "\n") (c.push_field-3.ensures.bytes
    ∙ ap (λ (l : List ℕ). l ++ codes " found " ++ decimal c.args.found) (c.push_field-2.ensures.bytes
    ∙ ap (λ (l : List ℕ). l ++ codes " expected " ++ decimal c.args.expected) (c.push_field.ensures.bytes
    ∙ ap (λ (l : List ℕ). l ++ codes "FATAL broken page " ++ decimal c.args.page) c.new-line.ensures))) in
    facts.on_ok_then c.answer.result _ _ (λ p tells. p tells ∙ ap (λ (l : List ℕ). (g.H.Disk.said c.args.host.now).bytes ++ l) line) c.answer.ensures.said

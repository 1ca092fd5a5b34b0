use Rattle.std.proofs.Common.{ℕ, List, ◌++◌, ap, ◌∙◌}
use Rattle.gx_json.specs.Tree.{data_of}
use Rattle.gx_gin_documents.specs.Steps.{short_items}
use Rattle.gx_gin_documents.specs.StepLaws.{short_are}
use Rattle.gx_gin_documents.proofs.items_of_documents.items_of.Goals as goal

pub returns : goal.returns
returns c =
    c.in_ok-push_items.ensures
    ∙ ap (λ (l : List (List ℕ)). l ++ short_items 75 (data_of c.args.value.now)) c.new-strings.ensures
    ∙ short_are 75 (data_of c.args.value.now)

use Rattle.std.proofs.Common.{ℕ, List, [], ◌++◌, ap, ◌∙◌}
use Rattle.gx_json.specs.Tree.{data_of}
use Rattle.gx_gin_documents.specs.Steps.{hash_items}
use Rattle.gx_gin_documents.specs.StepLaws.{hashes_are}
use Rattle.gx_gin_documents.proofs.paths.paths_of.Goals as goal

pub returns : goal.returns
returns c =
    c.in_ok-push_paths.ensures
    ∙ ap (λ (l : List (List ℕ)). l ++ hash_items 2166136261 (data_of c.args.value.now)) c.new-strings.ensures
    ∙ hashes_are [] (data_of c.args.value.now)

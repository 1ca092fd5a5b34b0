use Rattle.std.specs.List.{AllWithin}
use Rattle.gx_json.specs.Tree.{data_of}
use Rattle.gx_json.specs.Operators.{HasKey}
use Rattle.gx_json.proofs.operators.are_keys.Given as goal

abbrev pub invariant-loop-key : goal.invariant-loop-key
invariant-loop-key l = AllWithin (λ key. HasKey key (data_of l.value)) l.keys 0 l.key-index

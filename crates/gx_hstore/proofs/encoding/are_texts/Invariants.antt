use Rattle.std.specs.List.{AllWithin}
use Rattle.gx_hstore.specs.Map.{IsTextPair}
use Rattle.gx_hstore.proofs.encoding.are_texts.Given as goal

abbrev pub invariant-loop-pair : goal.invariant-loop-pair
invariant-loop-pair l = AllWithin IsTextPair l.pairs 0 l.pair-index

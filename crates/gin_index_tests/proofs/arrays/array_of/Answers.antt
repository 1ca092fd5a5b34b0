use Rattle.gin_index_tests.proofs.ReadArrays.{is_array}
use Rattle.gin_index_tests.proofs.arrays.array_of.Goals as goal

pub returns : goal.returns
returns c = is_array _ _ c.read.ensures

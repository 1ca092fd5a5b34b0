use Rattle.std.proofs.Common.{refl}
use Rattle.gx_value.proofs.laws.lines_count.Goals as goal

pub returns : goal.returns
returns c = record { words = refl; lists = refl; operators = refl; classes = refl }

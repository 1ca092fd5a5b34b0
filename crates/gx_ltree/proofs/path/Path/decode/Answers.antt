-- No error but the want of memory leaves a path.
use Rattle.gx_ltree.proofs.TextLemmas.{no_path}
use Rattle.gx_ltree.proofs.path.Path.decode.Goals as goal

pub returns-in_default : goal.returns-in_default
returns-in_default c = no_path c.args.bytes.now c.in-Err.fault c.in-Err.ensures c.in_default.not-Memory

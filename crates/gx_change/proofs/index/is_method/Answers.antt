use Rattle.std.proofs.Common.{sym, ap}
use Rattle.std.specs.Prelude.{is_some}
use Rattle.gx_change.proofs.Indexes.{no_method}
use Rattle.gx_change.proofs.index.is_method.Goals as goal

pub returns-in-Err : goal.returns-in-Err
returns-in-Err c = sym (ap is_some (no_method c.args.word.now c.in-Err.ensures.cases.0))

use Rattle.std.proofs.Common.{refl, length}
use Rattle.gx_catalog.proofs.Written.{columns_written}
use Rattle.gx_catalog.proofs.writing.push_columns.Goals as goal

pub returns : goal.returns
returns c =
    columns_written c.args.to.now c.push.new.self c.push_each.new.to (length c.args.columns.now) c.args.columns.now refl c.in_ok-push.ensures.ok c.in_ok-push_each.ensures

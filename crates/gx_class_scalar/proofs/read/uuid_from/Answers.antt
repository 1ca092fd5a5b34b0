use Rattle.gx_class_scalar.proofs.ReadLemmas.{uuid_crossed}
use Rattle.gx_class_scalar.proofs.read.uuid_from.Goals as goal

pub returns-else-lo-hi : goal.returns-else-lo-hi
returns-else-lo-hi c =
    uuid_crossed c.args.bytes.now _ _ c.sixteen-lo.result c.sixteen-hi.result c.sixteen-lo.type_inv c.sixteen-hi.type_inv c.split_at.ensures.front c.split_at.ensures.back c.sixteen-lo.ensures c.sixteen-hi.ensures c.if-lo-hi.false

use Rattle.gx_catalog.proofs.Written.{class_written}
use Rattle.gx_catalog.proofs.writing.push_class.Goals as goal

pub returns : goal.returns
returns c =
    class_written c.args.to.now c.push.new.self c.push-2.new.self c.push_u16.new.to c.args.column c.number.result c.args.parameter c.args.class c.number.ensures c.in_ok-push.ensures.ok c.in_ok-push-2.ensures.ok
    c.in_ok-push_u16.ensures

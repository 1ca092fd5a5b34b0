use Rattle.gx_bytes.proofs.Spellings.{after_count}
use Rattle.gx_bytes.proofs.varints.push_field.Goals as goal

pub returns-clause-written : goal.returns-clause-written
returns-clause-written c =
    after_count c.args.to.now c.push_varint.new.to c.extend_from_slice.new.self c.args.part.now c.in_ok-push_varint.ensures.written c.in_default.ensures.ok

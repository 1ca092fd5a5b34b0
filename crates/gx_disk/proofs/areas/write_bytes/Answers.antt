use Rattle.std.proofs.Common.{length, refl, ◌∙◌, arith}
use Rattle.gx_disk.proofs.Written.{placed_from, passed}
use Rattle.gx_disk.proofs.areas.write_bytes.Goals as goal

pub returns-clause-ok : goal.returns-clause-ok
returns-clause-ok c =
    passed c.grow.new.area.len c.overwrite.new.into c.grow.new.area.items (omega (arith, c.overwrite.auto.into, c.deref_mut.ensures.len))
    ∙ c.overwrite.ensures
    ∙ placed_from c.args.area.now.items c.args.bytes.now c.deref_mut.result.now c.args.at (length c.args.bytes.now) c.in-Some.end 0
    (c.deref_mut.ensures.value ∙ c.in_ok-grow.ensures.ok) refl c.in-Some.ensures.1

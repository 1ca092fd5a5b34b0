use Rattle.std.proofs.Common.{◌*◌, refl}
use Rattle.gx_pager.proofs.Pieces.{read_piece}
use Rattle.gx_pager.proofs.places.read_page.Goals as goal

pub returns-in-Ok-eq8192-clause-bytes : goal.returns-in-Ok-eq8192-clause-bytes
returns-in-Ok-eq8192-clause-bytes g c = λ tells.
    read_piece (g.D.Disk.told c.args.disk.now).pages c.bytes_mut.result.now c.read.new.into c.args.page (c.args.page * 8192) c.in-Ok-eq8192.field-0 8192
    refl refl c.bytes_mut.ensures.len c.in-Ok-eq8192.field-0-test (c.in-Ok-eq8192.ensures.count tells) (c.in-Ok-eq8192.ensures.bytes tells)

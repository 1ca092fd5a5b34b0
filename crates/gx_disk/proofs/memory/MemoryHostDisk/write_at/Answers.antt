use Rattle.std.proofs.Common.{length, sym, subst}
use Rattle.gx_words.specs.Image.{Image}
use Rattle.gx_disk.specs.Areas.{TornIn}
use Rattle.gx_disk.specs.Events.{torn_in_whole}
use Rattle.gx_disk.specs.MemoryHosts.{host_told}
use Rattle.gx_disk.proofs.memory.MemoryHostDisk.write_at.Goals as goal

pub returns-clause-torn : goal.returns-clause-torn
returns-clause-torn c =
    λ told. subst (λ (image : Image). TornIn c.args.area c.args.at (length c.args.bytes.now) (host_told c.args.self.now) image) (sym c.in-Ok-write_and_keep.ensures.told)
    (torn_in_whole c.args.area c.args.at c.args.bytes.now (host_told c.args.self.now))

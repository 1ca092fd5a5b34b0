use Rattle.std.proofs.Common.{length}
use Rattle.gx_log.proofs.Moves.{writes_one}
use Rattle.gx_log.proofs.write.write_part.Goals as goal

pub returns-clause-writes : goal.returns-clause-writes
returns-clause-writes g c =
    writes_one g.D.Disk c.args.disk.now c.write_at.new.self c.args.at (length c.args.bytes.now)
    c.write_at.ensures.images c.write_at.ensures.time c.write_at.ensures.torn c.write_at.ensures.said c.write_at.ensures.cause.later

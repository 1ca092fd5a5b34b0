use Rattle.gx_pager.proofs.Formatting.{silent_call, silent_then}
use Rattle.gx_pager.proofs.format.shut_log.Goals as goal

pub returns-in-Err-clause-silent : goal.returns-in-Err-clause-silent
returns-in-Err-clause-silent g c = silent_call g.D.Disk c.args.disk.now c.write_at.new.self _ c.write_at.ensures.time

pub returns-in-Err-sync-clause-silent : goal.returns-in-Err-sync-clause-silent
returns-in-Err-sync-clause-silent g c =
    silent_then g.D.Disk c.args.disk.now c.write_at.new.self c.sync.new.self c.write_at.ensures.said (silent_call g.D.Disk c.args.disk.now c.write_at.new.self _ c.write_at.ensures.time)
    (silent_call g.D.Disk c.write_at.new.self c.sync.new.self _ c.sync.ensures.time)

pub returns-clause-silent : goal.returns-clause-silent
returns-clause-silent g c =
    silent_then g.D.Disk c.args.disk.now c.write_at.new.self c.sync.new.self c.write_at.ensures.said (silent_call g.D.Disk c.args.disk.now c.write_at.new.self _ c.write_at.ensures.time)
    (silent_call g.D.Disk c.write_at.new.self c.sync.new.self _ c.sync.ensures.time)

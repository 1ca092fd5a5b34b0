use Rattle.std.proofs.Common.{◌≡◌, length, ap, arith}
use Rattle.gx_log.specs.Records.{entries_in}
use Rattle.gx_log.proofs.Bodies.{stands_same}
use Rattle.gx_pager.specs.Memory.{overlay}
use Rattle.gx_pager.proofs.Adding.{commit_time, commit_follows, commit_sound, commit_entries}
use Rattle.gx_pager.proofs.Records.{few}
use Rattle.gx_pager.proofs.commit.add_record.Goals as goal

pub append-requires : goal.append-requires
append-requires g c =
    let most = few c.args.layers.now.unit.entries c.args.layers.now.low c.len.ensures.ordered in
    omega (arith, c.requires, most)

pub returns-in-Err-clause-time : goal.returns-in-Err-clause-time
returns-in-Err-clause-time g c =
    let l = c.args.layers.now in
    commit_time g.D.Disk g.met.D.Disk.counts_now g.met.D.Disk.only_now g.met.D.Disk.told_may_stay c.args.disk.now c.append.new.disk c.args.log.now l.header (overlay l)
    l.unit.entries l.count c.len.ensures.ordered l.low l.counted l.bounded c.append.ensures.goes c.append.ensures.any_moment

pub returns-in-Err-clause-follows : goal.returns-in-Err-clause-follows
returns-in-Err-clause-follows g c =
    let l = c.args.layers.now in
    commit_follows g.D.Disk g.met.D.Disk.counts_now g.met.D.Disk.only_now g.met.D.Disk.told_may_stay c.args.disk.now c.append.new.disk c.args.log.now l.header (overlay l)
    l.unit.entries l.count c.len.ensures.ordered l.low l.counted l.bounded c.append.ensures.goes c.append.ensures.any_moment

pub returns-clause-time : goal.returns-clause-time
returns-clause-time g c =
    let l = c.args.layers.now in
    commit_time g.D.Disk g.met.D.Disk.counts_now g.met.D.Disk.only_now g.met.D.Disk.told_may_stay c.args.disk.now c.append.new.disk c.args.log.now l.header (overlay l)
    l.unit.entries l.count c.len.ensures.ordered l.low l.counted l.bounded c.append.ensures.goes c.append.ensures.any_moment

pub returns-clause-follows : goal.returns-clause-follows
returns-clause-follows g c =
    let l = c.args.layers.now in
    commit_follows g.D.Disk g.met.D.Disk.counts_now g.met.D.Disk.only_now g.met.D.Disk.told_may_stay c.args.disk.now c.append.new.disk c.args.log.now l.header (overlay l)
    l.unit.entries l.count c.len.ensures.ordered l.low l.counted l.bounded c.append.ensures.goes c.append.ensures.any_moment

pub returns-clause-sound : goal.returns-clause-sound
returns-clause-sound g c = λ tells.
    let l = c.args.layers.now in
    commit_sound g.D.Disk g.met.D.Disk.counts_now g.met.D.Disk.only_now g.met.D.Disk.told_may_stay c.args.disk.now c.append.new.disk c.args.log.now l.header (overlay l)
    l.unit.entries l.count c.len.ensures.ordered l.low l.counted l.bounded c.append.ensures.goes c.append.ensures.any_moment
    c.append.new.self (c.append.ensures.pages tells) c.in-Ok.ensures.added tells

pub returns-clause-entries : goal.returns-clause-entries
returns-clause-entries g c = λ tells.
    let l = c.args.layers.now in
    commit_entries g.D.Disk g.met.D.Disk.counts_now g.met.D.Disk.only_now g.met.D.Disk.told_may_stay c.args.disk.now c.append.new.disk c.args.log.now l.header (overlay l)
    l.unit.entries l.count c.len.ensures.ordered l.low l.counted l.bounded c.append.ensures.goes c.append.ensures.any_moment
    c.append.new.self c.in-Ok.ensures.added tells

pub returns-then-len-eq0-clause-entries : goal.returns-then-len-eq0-clause-entries
returns-then-len-eq0-clause-entries g c = λ tells s records stands.
    let same = stands_same records s.records (g.D.Disk.told c.args.disk.now).log stands s.stands in
    let none : length c.args.layers.now.unit.entries ≡ 0 = omega (arith, c.if-len-eq0.true, c.len.ensures.len) in
    omega (arith, none, ap entries_in same)

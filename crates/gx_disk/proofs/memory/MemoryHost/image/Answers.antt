use Rattle.std.proofs.Common.{◌≡◌, sym, subst, rules}
use Rattle.gx_words.specs.Image.{Image}
use Rattle.gx_disk.specs.Events.{Leaves, until, earlier}
use Rattle.gx_disk.specs.Picks.{picked}
use Rattle.gx_disk.specs.MemoryHosts.{host_start, host_events}
use Rattle.gx_disk.proofs.Picking.{picked_left}
use Rattle.gx_disk.proofs.memory.MemoryHost.image.Goals as goal

pub returns-clause-leaves : goal.returns-clause-leaves
returns-clause-leaves c =
    let start = host_start c.args.self.now in
    let events = until c.args.calls (host_events c.args.self.now) in
    let left : Image = record { pages = c.in_ok-pages.pages; log = c.in_ok-log.log } in
    let is : left ≡ picked c.args.pick start events = search rules in
    subst (λ (image : Image). Leaves start events image) (sym is) (picked_left c.args.pick start events)

pub returns-clause-moment : goal.returns-clause-moment
returns-clause-moment c = earlier (host_start c.args.self.now) c.args.calls (host_events c.args.self.now) (record { pages = c.in_ok-pages.pages; log = c.in_ok-log.log }) (returns-clause-leaves c)

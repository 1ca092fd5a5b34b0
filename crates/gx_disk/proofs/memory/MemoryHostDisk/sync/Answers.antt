use Rattle.std.proofs.Common.{◌≡◌, List, [], ◌∷◌, reverse, ap, ◌∙◌, subst}
use Rattle.std.proofs.lemmas.List.{reverse-append}
use Rattle.gx_disk.specs.Events.{Leaves}
use Rattle.gx_disk.specs.MemoryHosts.{host_start, host_events}
use Rattle.gx_disk.specs.declared.event.Event.{Event}
use Rattle.gx_disk.specs.declared.event.Change.TheVariants.{Sync}
use Rattle.gx_disk.proofs.Mixing.{synced_before}
use Rattle.gx_disk.proofs.memory.MemoryHostDisk.sync.Goals as goal

pub returns-clause-fewer : goal.returns-clause-fewer
returns-clause-fewer c = λ told image left.
    let start = host_start c.args.self.now in
    let event : Event = record { calls = c.saturating_add-self.result; change = Sync c.args.area } in
    let is : reverse c.keep_sync.new.events.items ≡ event ∷ host_events c.args.self.now =
    ap (λ (items : List Event). reverse items) c.in-Ok.ensures.ok ∙ reverse-append c.args.self.now.events.items (event ∷ []) in
    synced_before start (host_events c.args.self.now) c.args.area image (subst (λ (events : List Event). Leaves start events image) is left)

use Rattle.gx_pager.specs.Layers.{pieces}
use Rattle.gx_pager.specs.Memory.{overlay}
use Rattle.gx_pager.proofs.Adding.{sound_map}
use Rattle.gx_pager.proofs.LayerMaps.{unchanged_map}
use Rattle.gx_pager.proofs.pager.Pager.over.Goals as goal

pub invariant_of-result : goal.invariant_of-result
invariant_of-result g c =
    let r = c.requires in
    record {
      sound = λ tells fine. ∣ r.sound tells ∣₁;
      waits = λ tells fine. r.waits tells;
      agrees = λ tells. r.agrees (pieces (g.H.Disk.told c.args.host.now));
    }

pub returns-clause-left : goal.returns-clause-left
returns-clause-left g c = λ tells image left.
    let o = c.args.opened in
    sound_map g.H.Disk c.args.host.now o.log o.layers.header (overlay o.layers) o.layers.committed_count o.layers.committed_counted o.layers.committed_bounded (c.requires.sound tells) image left

pub returns-clause-read : goal.returns-clause-read
returns-clause-read g c = λ tells.
    let o = c.args.opened in
    sound_map g.H.Disk c.args.host.now o.log o.layers.header (overlay o.layers) o.layers.committed_count o.layers.committed_counted o.layers.committed_bounded (c.requires.sound tells)
    (g.H.Disk.told c.args.host.now) (g.met.H.Disk.told_may_stay c.args.host.now tells)

pub returns-clause-map : goal.returns-clause-map
returns-clause-map g c = unchanged_map c.args.opened.layers (g.H.Disk.told c.args.host.now) c.requires.unit c.requires.count

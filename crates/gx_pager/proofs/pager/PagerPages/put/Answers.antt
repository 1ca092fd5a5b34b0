use Rattle.std.proofs.Common.{refl, arith}
use Rattle.gx_pager.specs.Memory.{overlay}
use Rattle.gx_pager.proofs.LayerMaps.{put_map, same_map, keeps_map}
use Rattle.gx_pager.proofs.Moments.{reads_none, sound_reads, maps_reads, follows_reads}
use Rattle.gx_pager.proofs.pager.PagerPages.put.Goals as goal

pub invariant_of-self : goal.invariant_of-self
invariant_of-self g c =
    let p = c.args.self.now in
    record {
      sound = λ tells fine. sound_reads g.H.Disk p.host.now p.host.now p.log p.layers.header c.write.new.self.header (overlay p.layers) (overlay c.write.new.self)
          (reads_none g.H.Disk p.host.now) c.write.ensures.keeps.header c.write.ensures.keeps.overlay (p.sound tells fine);
      waits = p.waits;
      agrees = p.agrees;
    }

pub returns-in-Err-clause-same : goal.returns-in-Err-clause-same
returns-in-Err-clause-same g c = same_map c.args.self.now.layers c.write.new.self (g.H.Disk.told c.args.self.now.host.now) (g.H.Disk.told c.args.self.now.host.now) c.in-Err.ensures.same c.write.ensures.count refl

pub returns-in-Err-clause-quiet : goal.returns-in-Err-clause-quiet
returns-in-Err-clause-quiet g c =
    let p = c.args.self.now in
    let reads = reads_none g.H.Disk p.host.now in
    record {
      said = refl;
      committed = keeps_map p.layers c.write.new.self (g.H.Disk.told c.args.self.now.host.now) (g.H.Disk.told c.args.self.now.host.now) c.write.ensures.keeps refl;
      committed_count = c.write.ensures.keeps.count;
      spoiled = refl;
      begun = refl;
      follows = (refl, follows_reads g.H.Disk p.host.now p.host.now reads);
      faults = omega arith;
      images = λ map left. left;
      time = maps_reads g.H.Disk p.host.now p.host.now reads;
    }

pub returns-clause-map : goal.returns-clause-map
returns-clause-map g c = λ tells.
    put_map c.args.self.now.layers c.write.new.self (g.H.Disk.told c.args.self.now.host.now) c.args.page c.args.from.now c.in-Ok.ensures.written c.write.ensures.count (omega (arith, c.if-page-self.false))

pub returns-clause-quiet : goal.returns-clause-quiet
returns-clause-quiet g c =
    let p = c.args.self.now in
    let reads = reads_none g.H.Disk p.host.now in
    record {
      said = refl;
      committed = keeps_map p.layers c.write.new.self (g.H.Disk.told c.args.self.now.host.now) (g.H.Disk.told c.args.self.now.host.now) c.write.ensures.keeps refl;
      committed_count = c.write.ensures.keeps.count;
      spoiled = refl;
      begun = refl;
      follows = (refl, follows_reads g.H.Disk p.host.now p.host.now reads);
      faults = omega arith;
      images = λ map left. left;
      time = maps_reads g.H.Disk p.host.now p.host.now reads;
    }

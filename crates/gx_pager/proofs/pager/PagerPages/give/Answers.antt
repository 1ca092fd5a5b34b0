use Rattle.std.proofs.Common.{refl, arith}
use Rattle.gx_pages.proofs.Taking.{keeps_same}
use Rattle.gx_pager.specs.Memory.{overlay, now_map}
use Rattle.gx_pager.proofs.LayerMaps.{same_map, keeps_map}
use Rattle.gx_pager.proofs.Results.{on_ok, on_err, either_on}
use Rattle.gx_pager.proofs.Moments.{reads_none, sound_reads, maps_reads, follows_reads}
use Rattle.gx_pager.proofs.pager.PagerPages.give.Goals as goal

pub invariant_of-self : goal.invariant_of-self
invariant_of-self g c =
    let p = c.args.self.now in
    let t = c.give_page.ensures in
    record {
      sound = λ tells fine. sound_reads g.H.Disk p.host.now p.host.now p.log p.layers.header c.give_page.new.layers.header (overlay p.layers) (overlay c.give_page.new.layers)
          (reads_none g.H.Disk p.host.now) t.keeps.header t.keeps.overlay (p.sound tells fine);
      waits = p.waits;
      agrees = p.agrees;
    }

pub returns-clause-others : goal.returns-clause-others
returns-clause-others g c = on_ok c.give_page.result (λ others tells. others (g.H.Disk.told c.args.self.now.host.now)) c.give_page.ensures.others

pub returns-clause-given : goal.returns-clause-given
returns-clause-given g c = on_ok c.give_page.result (λ given tells. given (g.H.Disk.told c.args.self.now.host.now)) c.give_page.ensures.given

pub returns-clause-header : goal.returns-clause-header
returns-clause-header g c = λ tells.
    let p = c.args.self.now in
    either_on c.give_page.result (λ header. header (g.H.Disk.told p.host.now)) (λ same. keeps_same (now_map p.layers (g.H.Disk.told p.host.now)) (now_map c.give_page.new.layers (g.H.Disk.told p.host.now)) (same_map p.layers c.give_page.new.layers (g.H.Disk.told c.args.self.now.host.now) (g.H.Disk.told c.args.self.now.host.now) same c.give_page.ensures.count refl))
    c.give_page.ensures.header c.give_page.ensures.same

pub returns-clause-same : goal.returns-clause-same
returns-clause-same g c =
    let p = c.args.self.now in
    on_err c.give_page.result (λ same. same_map p.layers c.give_page.new.layers (g.H.Disk.told c.args.self.now.host.now) (g.H.Disk.told c.args.self.now.host.now) same c.give_page.ensures.count refl) c.give_page.ensures.same

pub returns-clause-quiet : goal.returns-clause-quiet
returns-clause-quiet g c =
    let p = c.args.self.now in
    let t = c.give_page.ensures in
    let reads = reads_none g.H.Disk p.host.now in
    record {
      said = refl;
      committed = keeps_map p.layers c.give_page.new.layers (g.H.Disk.told c.args.self.now.host.now) (g.H.Disk.told c.args.self.now.host.now) t.keeps refl;
      committed_count = t.keeps.count;
      spoiled = refl;
      begun = refl;
      follows = (refl, follows_reads g.H.Disk p.host.now p.host.now reads);
      faults = omega arith;
      images = λ map left. left;
      time = maps_reads g.H.Disk p.host.now p.host.now reads;
    }

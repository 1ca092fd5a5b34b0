use Rattle.std.proofs.Common.{◌∙◌, ap, refl, subst, arith}
use Rattle.gx_words.specs.Image.{Image}
use Rattle.gx_log.specs.Records.{Stands}
use Rattle.gx_pages.proofs.Footprints.{cause_weaker}
use Rattle.gx_pager.specs.Layers.{map_over, pieces}
use Rattle.gx_pager.specs.Known.{sound_of}
use Rattle.gx_pager.specs.Memory.{overlay, unit, memory, committed_map}
use Rattle.gx_pager.proofs.Lacking.{uncounted}
use Rattle.gx_pager.proofs.Maps.{cut_below}
use Rattle.gx_pager.proofs.Moments.{sound_reads, maps_reads, left_reads, follows_reads}
use Rattle.gx_pager.proofs.pager.PagerPages.fetch.Goals as goal

pub invariant_of-self-in-Err-1 : goal.invariant_of-self-in-Err-1
invariant_of-self-in-Err-1 g c =
    let p = c.args.self.now in
    let reads = c.load.ensures.reads in
    record {
      sound = λ tells fine. sound_reads g.H.Disk p.host.now c.load.new.disk p.log p.layers.header p.layers.header (overlay p.layers) (overlay p.layers) reads refl refl (p.sound tells fine);
      waits = λ tells fine records stands. p.waits tells fine records (subst (λ (i : Image). Stands records i.log) reads.told stands);
      agrees = λ tells. c.load.ensures.agrees tells (p.agrees tells);
    }

pub invariant_of-self-2 : goal.invariant_of-self-2
invariant_of-self-2 g c =
    let p = c.args.self.now in
    let reads = c.load.ensures.reads in
    record {
      sound = λ tells fine. sound_reads g.H.Disk p.host.now c.load.new.disk p.log p.layers.header p.layers.header (overlay p.layers) (overlay p.layers) reads refl refl (p.sound tells fine);
      waits = λ tells fine records stands. p.waits tells fine records (subst (λ (i : Image). Stands records i.log) reads.told stands);
      agrees = λ tells. c.load.ensures.agrees tells (p.agrees tells);
    }

pub returns-in-Err-clause-quiet : goal.returns-in-Err-clause-quiet
returns-in-Err-clause-quiet g c =
    let p = c.args.self.now in
    let reads = c.load.ensures.reads in
    record {
      said = reads.said;
      committed = ap (λ (i : Image). committed_map p.layers i) reads.told;
      committed_count = refl;
      spoiled = refl;
      begun = refl;
      follows = (refl, follows_reads g.H.Disk p.host.now c.load.new.disk reads);
      faults = reads.faults;
      images = left_reads g.H.Disk p.host.now c.load.new.disk reads;
      time = maps_reads g.H.Disk p.host.now c.load.new.disk reads;
    }

pub returns-in-Err-clause-cause : goal.returns-in-Err-clause-cause
returns-in-Err-clause-cause g c =
    let p = c.args.self.now in
    let image = g.H.Disk.told p.host.now in
    cause_weaker c.in-Err.error (g.H.Disk.faults p.host.now) (g.H.Disk.faults p.host.now) (g.H.Disk.faults c.load.new.disk) (g.H.Disk.faults c.load.new.disk) _ _ _ _ _ _ (omega arith) (omega arith)
    (λ at expected found broken. (broken.0, λ small. (broken.1, broken.2, λ tells. cut_below p.layers.count (map_over (memory p.layers) (pieces image)) c.args.page small ∙ (broken.3 tells).0)))
    (λ pages no. no) (λ no. no) c.in-Err.ensures.cause

pub returns-in-Err-clause-uncounted : goal.returns-in-Err-clause-uncounted
returns-in-Err-clause-uncounted g c = λ small tells fine.
    let p = c.args.self.now in
    uncounted g.H.Disk p.host.now p.log p.layers.header (unit p.layers) (overlay p.layers) c.args.page c.in-Err.ensures.absent
    (sound_of g.H.Disk p.host.now p.log p.layers.header (overlay p.layers) (p.sound tells fine))

pub returns-clause-bytes : goal.returns-clause-bytes
returns-clause-bytes g c = λ tells.
    let p = c.args.self.now in
    let image = g.H.Disk.told p.host.now in
    cut_below p.layers.count (map_over (memory p.layers) (pieces image)) c.args.page (omega (arith, c.if-page-self.false)) ∙ c.in-Ok.ensures.bytes tells (p.agrees tells)

pub returns-clause-quiet : goal.returns-clause-quiet
returns-clause-quiet g c =
    let p = c.args.self.now in
    let reads = c.load.ensures.reads in
    record {
      said = reads.said;
      committed = ap (λ (i : Image). committed_map p.layers i) reads.told;
      committed_count = refl;
      spoiled = refl;
      begun = refl;
      follows = (refl, follows_reads g.H.Disk p.host.now c.load.new.disk reads);
      faults = reads.faults;
      images = left_reads g.H.Disk p.host.now c.load.new.disk reads;
      time = maps_reads g.H.Disk p.host.now c.load.new.disk reads;
    }

use Rattle.std.proofs.Common.{◌≡◌, ◌∙◌, sym, ap, refl, subst, arith, ◌∷◌}
use Rattle.gx_words.specs.Image.{Image}
use Rattle.gx_words.specs.PageMap.{PageMap}
use Rattle.gx_log.specs.Records.{Stands}
use Rattle.gx_pages.proofs.Taking.{Took, keeps_same}
use Rattle.gx_pages.proofs.Footprints.{cause_weaker, free_list_at}
use Rattle.gx_pager.specs.Memory.{overlay, now_map}
use Rattle.gx_pager.proofs.LayerMaps.{same_map, keeps_map}
use Rattle.gx_pager.proofs.Results.{if_ok, if_ok_anyway, on_err, if_err_on, either}
use Rattle.gx_pager.proofs.Moments.{sound_reads, maps_reads, left_reads, follows_reads}
use Rattle.gx_pager.proofs.pager.PagerPages.take.Goals as goal

pub invariant_of-self : goal.invariant_of-self
invariant_of-self g c =
    let p = c.args.self.now in
    let t = c.take_page.ensures in
    record {
      sound = λ tells fine. sound_reads g.H.Disk p.host.now c.take_page.new.disk p.log p.layers.header c.take_page.new.layers.header (overlay p.layers) (overlay c.take_page.new.layers)
          t.reads t.keeps.header t.keeps.overlay (p.sound tells fine);
      waits = λ tells fine records stands. p.waits tells fine records (subst (λ (i : Image). Stands records i.log) t.reads.told stands);
      agrees = λ tells. t.agrees tells (p.agrees tells);
    }

pub returns-clause-zeros : goal.returns-clause-zeros
returns-clause-zeros g c =
    let p = c.args.self.now in
    let new : PageMap = now_map c.take_page.new.layers (g.H.Disk.told c.take_page.new.disk) in
    let same : new ≡ now_map c.take_page.new.layers (g.H.Disk.told p.host.now) = ap (λ (i : Image). now_map c.take_page.new.layers i) c.take_page.ensures.reads.told in
    if_ok c.take_page.result _ _ (λ page took tells. (λ i. same i page) ∙ (took tells (p.agrees tells)).zeros) c.take_page.ensures.took

pub returns-clause-others : goal.returns-clause-others
returns-clause-others g c =
    let p = c.args.self.now in
    let new : PageMap = now_map c.take_page.new.layers (g.H.Disk.told c.take_page.new.disk) in
    let same : new ≡ now_map c.take_page.new.layers (g.H.Disk.told p.host.now) = ap (λ (i : Image). now_map c.take_page.new.layers i) c.take_page.ensures.reads.told in
    if_ok c.take_page.result _ _ (λ page took tells n nonzero other. (λ i. same i n) ∙ (took tells (p.agrees tells)).others n nonzero other) c.take_page.ensures.took

pub returns-clause-taken : goal.returns-clause-taken
returns-clause-taken g c =
    let p = c.args.self.now in
    let old : PageMap = now_map p.layers (g.H.Disk.told p.host.now) in
    if_ok c.take_page.result _ _ (λ page took tells.
    (subst (λ (i : Image). Took old (now_map c.take_page.new.layers i) p.layers.count c.take_page.new.layers.count page) (sym c.take_page.ensures.reads.told) (took tells (p.agrees tells))).taken)
    c.take_page.ensures.took

pub returns-clause-same : goal.returns-clause-same
returns-clause-same g c =
    let p = c.args.self.now in
    on_err c.take_page.result (λ same. (same_map p.layers c.take_page.new.layers _ _ same.0 same.1 c.take_page.ensures.reads.told, same.1)) c.take_page.ensures.same

pub returns-clause-room : goal.returns-clause-room
returns-clause-room g c = if_ok_anyway c.take_page.result _ (λ page room tells. room) c.take_page.ensures.room

pub returns-clause-header : goal.returns-clause-header
returns-clause-header g c = λ tells.
    let p = c.args.self.now in
    let old : PageMap = now_map p.layers (g.H.Disk.told p.host.now) in
    either c.take_page.result _
    (λ page took. (subst (λ (i : Image). Took old (now_map c.take_page.new.layers i) p.layers.count c.take_page.new.layers.count page) (sym c.take_page.ensures.reads.told) (took tells (p.agrees tells))).header)
    (λ same. keeps_same _ _ (same_map p.layers c.take_page.new.layers _ _ same.0 same.1 c.take_page.ensures.reads.told))
    c.take_page.ensures.took c.take_page.ensures.same

pub returns-clause-cause : goal.returns-clause-cause
returns-clause-cause g c =
    let p = c.args.self.now in
    let faults = g.H.Disk.faults p.host.now in
    let later = g.H.Disk.faults c.take_page.new.disk in
    if_err_on c.take_page.result _ _
    (λ error same cause. cause_weaker error faults faults later later _ _ _ _ _ _ (omega arith) (omega arith) (λ at expected found broken tells. broken tells (p.agrees tells))
    (λ pages full. record {
      greatest = full.greatest;
      counted = same.1 ∙ full.counted;
      none_free = λ tells page free list. full.none_free tells page free
          (free_list_at _ _ _ _ (page ∷ free) (sym (same_map p.layers c.take_page.new.layers _ _ same.0 same.1 c.take_page.ensures.reads.told)) (sym same.1) list);
    }) (λ m. m) cause)
    c.take_page.ensures.same c.take_page.ensures.cause

pub returns-clause-quiet : goal.returns-clause-quiet
returns-clause-quiet g c =
    let p = c.args.self.now in
    let t = c.take_page.ensures in
    record {
      said = t.reads.said;
      committed = keeps_map p.layers c.take_page.new.layers _ _ t.keeps t.reads.told;
      committed_count = t.keeps.count;
      spoiled = refl;
      begun = refl;
      follows = (refl, follows_reads g.H.Disk p.host.now c.take_page.new.disk t.reads);
      faults = t.reads.faults;
      images = left_reads g.H.Disk p.host.now c.take_page.new.disk t.reads;
      time = maps_reads g.H.Disk p.host.now c.take_page.new.disk t.reads;
    }

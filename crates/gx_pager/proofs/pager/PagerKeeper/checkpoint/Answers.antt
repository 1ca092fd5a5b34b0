use Rattle.std.proofs.Common.{◌≡◌, true, false, None, refl, sym, ◌∙◌, ap, arith}
use Rattle.std.specs.BTreeMap.{get}
use Rattle.std.specs.Ordering.{nat_cmp}
use Rattle.gx_log.specs.Records.{entries_in, page_in}
use Rattle.gx_log.proofs.Bodies.{stands_same}
use Rattle.gx_pager.specs.Known.{sound_of}
use Rattle.gx_pager.specs.Layers.{pieces, map_over, committed_in}
use Rattle.gx_pager.specs.Maps.{cut}
use Rattle.gx_pager.specs.Memory.{overlay, unit, now_map, committed_map}
use Rattle.gx_pager.proofs.Closing.{filled}
use Rattle.gx_pager.proofs.Keeping.{left_keeps, made_keeps}
use Rattle.gx_pager.proofs.LayerMaps.{unit_taken}
use Rattle.gx_pager.proofs.Ending.{ends_time, ends_silent, ends_images, ends_follows, left_now_map, left_committed_map, made_now_map, made_committed_map, made_sound}
use Rattle.gx_pager.proofs.pager.PagerKeeper.checkpoint.Goals as goal

apart : true ≡ false → ⊥
apart same = cc

pub invariant_of-self-in-Err : goal.invariant_of-self-in-Err
invariant_of-self-in-Err g c = record {
  sound = λ tells fine. absurd (apart fine);
  waits = λ tells fine. absurd (apart fine);
  agrees = λ tells. c.clear.ensures (pieces (g.H.Disk.told c.close_log.new.disk));
}

pub invariant_of-self-2 : goal.invariant_of-self-2
invariant_of-self-2 g c =
    let p = c.args.self.now in
    let l = p.layers in
    let k = c.in-Ok.ensures in
    record {
      sound = λ tells fine.
          let s = sound_of g.H.Disk p.host.now p.log l.header (overlay l) (p.sound tells c.requires) in
          ∣ made_sound g.H.Disk p.host.now c.close_log.new.disk p.log c.close_log.new.log l.header c.forget.new.self.header (overlay l) (overlay c.forget.new.self) l.committed_count l.committed_some s
          (k.placed tells) (k.written tells) (k.none tells l.header s) (k.settled tells l.header s) c.forget.ensures.header c.forget.ensures.overlay ∣₁;
      waits = λ tells fine records stands.
          let s = sound_of g.H.Disk p.host.now p.log l.header (overlay l) (p.sound tells c.requires) in
          sym (ap entries_in (stands_same records _ _ stands (k.none tells l.header s).stands));
      agrees = λ tells. c.clear.ensures (pieces (g.H.Disk.told c.close_log.new.disk));
    }

pub returns-in-Err-clause-map : goal.returns-in-Err-clause-map
returns-in-Err-clause-map g c = λ tells no_gap.
    let p = c.args.self.now in
    let l = p.layers in
    let s = sound_of g.H.Disk p.host.now p.log l.header (overlay l) (p.sound tells c.requires) in
    let full = filled l.header (overlay l) l.committed_count (g.H.Disk.told p.host.now) s.zero no_gap in
    left_now_map l (g.H.Disk.told p.host.now) (g.H.Disk.told c.close_log.new.disk) s.zero ((c.close_log.ensures.placed tells).0 full)

pub returns-in-Err-clause-silent : goal.returns-in-Err-clause-silent
returns-in-Err-clause-silent g c =
    let p = c.args.self.now in
    let l = p.layers in
    let sound = λ (tells : g.H.Disk.tells). sound_of g.H.Disk p.host.now p.log l.header (overlay l) (p.sound tells c.requires) in
    let k = c.close_log.ensures in
    ends_silent g.H.Disk g.met.H.Disk.counts_now g.met.H.Disk.only_now g.met.H.Disk.told_may_stay p.host.now c.close_log.new.disk p.log l.header (overlay l) l.committed_count l.committed_some l.committed_bounded
    l.committed_counted sound k.goes (λ tells. k.time tells l.header l.committed_counted (sound tells))

pub returns-in-Err-clause-kept : goal.returns-in-Err-clause-kept
returns-in-Err-clause-kept g c = λ tells.
    let l = c.args.self.now.layers in
    left_keeps (unit l) (overlay l) l.header l.committed_count l.count (g.H.Disk.told c.args.self.now.host.now) (g.H.Disk.told c.close_log.new.disk)
    (λ n above small. unit_taken l n (l.fresh n above small)) (c.close_log.ensures.placed tells).2

pub returns-in-Err-clause-kept_committed : goal.returns-in-Err-clause-kept_committed
returns-in-Err-clause-kept_committed g c = λ tells.
    let l = c.args.self.now.layers in
    left_keeps (λ _. None) (overlay l) l.header l.committed_count l.committed_count (g.H.Disk.told c.args.self.now.host.now) (g.H.Disk.told c.close_log.new.disk)
    (λ n above small. absurd (omega (arith, above, small))) (c.close_log.ensures.placed tells).2

pub returns-in-Err-clause-committed : goal.returns-in-Err-clause-committed
returns-in-Err-clause-committed g c = (
  (λ both.
      let tells = both.0 in
      let p = c.args.self.now in
      let l = p.layers in
      let s = sound_of g.H.Disk p.host.now p.log l.header (overlay l) (p.sound tells c.requires) in
      let full = filled l.header (overlay l) l.committed_count (g.H.Disk.told p.host.now) s.zero both.1 in
      left_committed_map l (g.H.Disk.told p.host.now) (g.H.Disk.told c.close_log.new.disk) s.zero ((c.close_log.ensures.placed tells).0 full)),
  refl,
)

pub returns-in-Err-clause-same : goal.returns-in-Err-clause-same
returns-in-Err-clause-same g c =
    let p = c.args.self.now in
    let l = p.layers in
    let sound = λ (tells : g.H.Disk.tells). sound_of g.H.Disk p.host.now p.log l.header (overlay l) (p.sound tells c.requires) in
    let k = c.close_log.ensures in
    record {
      said = k.said;
      fetches = refl;
      heap = refl;
      faults = k.faults;
      follows = (
        refl,
        ends_follows g.H.Disk g.met.H.Disk.counts_now g.met.H.Disk.only_now g.met.H.Disk.told_may_stay p.host.now c.close_log.new.disk p.log l.header (overlay l) l.committed_count l.committed_some l.committed_bounded
            l.committed_counted sound k.goes (λ tells. k.time tells l.header l.committed_counted (sound tells)),
      );
    }

pub returns-in-Err-clause-images : goal.returns-in-Err-clause-images
returns-in-Err-clause-images g c = λ no_gap.
    let p = c.args.self.now in
    let l = p.layers in
    let sound = λ (tells : g.H.Disk.tells). sound_of g.H.Disk p.host.now p.log l.header (overlay l) (p.sound tells c.requires) in
    let k = c.close_log.ensures in
    ends_images g.H.Disk g.met.H.Disk.counts_now g.met.H.Disk.only_now g.met.H.Disk.told_may_stay p.host.now c.close_log.new.disk p.log l.header (overlay l) l.committed_count l.committed_some l.committed_bounded
    l.committed_counted sound k.goes (λ tells. k.time tells l.header l.committed_counted (sound tells))
    (λ tells. filled l.header (overlay l) l.committed_count (g.H.Disk.told p.host.now) (sound tells).zero no_gap)

pub returns-in-Err-clause-time : goal.returns-in-Err-clause-time
returns-in-Err-clause-time g c = λ no_gap.
    let p = c.args.self.now in
    let l = p.layers in
    let sound = λ (tells : g.H.Disk.tells). sound_of g.H.Disk p.host.now p.log l.header (overlay l) (p.sound tells c.requires) in
    let k = c.close_log.ensures in
    ends_time g.H.Disk g.met.H.Disk.counts_now g.met.H.Disk.only_now g.met.H.Disk.told_may_stay p.host.now c.close_log.new.disk p.log l.header (overlay l) l.committed_count l.committed_some l.committed_bounded
    l.committed_counted sound k.goes (λ tells. k.time tells l.header l.committed_counted (sound tells))
    (λ tells. filled l.header (overlay l) l.committed_count (g.H.Disk.told p.host.now) (sound tells).zero no_gap)

pub returns-clause-emptied : goal.returns-clause-emptied
returns-clause-emptied g c = λ tells.
    let p = c.args.self.now in
    let l = p.layers in
    (c.in-Ok.ensures.none tells l.header (sound_of g.H.Disk p.host.now p.log l.header (overlay l) (p.sound tells c.requires))).stands

pub returns-clause-map : goal.returns-clause-map
returns-clause-map g c = λ tells no_gap.
    let p = c.args.self.now in
    let l = p.layers in
    let s = sound_of g.H.Disk p.host.now p.log l.header (overlay l) (p.sound tells c.requires) in
    let full = filled l.header (overlay l) l.committed_count (g.H.Disk.told p.host.now) s.zero no_gap in
    let f = c.forget.ensures in
    made_now_map l (g.H.Disk.told p.host.now) (g.H.Disk.told c.close_log.new.disk) s.zero ((c.close_log.ensures.placed tells).0 full) c.forget.new.self (c.in-Ok.ensures.written tells) f.overlay f.unit f.header f.count

pub returns-clause-silent : goal.returns-clause-silent
returns-clause-silent g c =
    let p = c.args.self.now in
    let l = p.layers in
    let sound = λ (tells : g.H.Disk.tells). sound_of g.H.Disk p.host.now p.log l.header (overlay l) (p.sound tells c.requires) in
    let k = c.close_log.ensures in
    ends_silent g.H.Disk g.met.H.Disk.counts_now g.met.H.Disk.only_now g.met.H.Disk.told_may_stay p.host.now c.close_log.new.disk p.log l.header (overlay l) l.committed_count l.committed_some l.committed_bounded
    l.committed_counted sound k.goes (λ tells. k.time tells l.header l.committed_counted (sound tells))

pub returns-clause-kept : goal.returns-clause-kept
returns-clause-kept g c = λ tells n bytes there.
    let l = c.args.self.now.layers in
    let later = c.forget.new.self in
    let f = c.forget.ensures in
    let image = g.H.Disk.told c.close_log.new.disk in
    let same : now_map later image ≡ cut l.count (map_over (map_over (unit l) (committed_in l.header (overlay later))) (pieces image)) =
    λ i. cut (f.count i) (map_over (map_over (λ n. page_in (get nat_cmp (f.unit i) n)) (committed_in (f.header i) (overlay later))) (pieces image)) in
    (λ i. same i n)
    ∙ made_keeps (unit l) (overlay l) l.header l.committed_count l.count (g.H.Disk.told c.args.self.now.host.now) image (λ n above small. unit_taken l n (l.fresh n above small)) (c.close_log.ensures.placed tells).2
    (overlay later) (c.in-Ok.ensures.written tells) f.overlay n bytes there

pub returns-clause-kept_committed : goal.returns-clause-kept_committed
returns-clause-kept_committed g c = λ tells n bytes there.
    let l = c.args.self.now.layers in
    let later = c.forget.new.self in
    let f = c.forget.ensures in
    let image = g.H.Disk.told c.close_log.new.disk in
    let same : committed_map later image ≡ cut l.committed_count (map_over (committed_in l.header (overlay later)) (pieces image)) =
    λ i. cut (f.committed_count i) (map_over (committed_in (f.header i) (overlay later)) (pieces image)) in
    (λ i. same i n)
    ∙ made_keeps (λ _. None) (overlay l) l.header l.committed_count l.committed_count (g.H.Disk.told c.args.self.now.host.now) image (λ n above small. absurd (omega (arith, above, small)))
    (c.close_log.ensures.placed tells).2 (overlay later) (c.in-Ok.ensures.written tells) f.overlay n bytes there

pub returns-clause-committed : goal.returns-clause-committed
returns-clause-committed g c = (
  (λ both.
      let tells = both.0 in
      let p = c.args.self.now in
      let l = p.layers in
      let s = sound_of g.H.Disk p.host.now p.log l.header (overlay l) (p.sound tells c.requires) in
      let full = filled l.header (overlay l) l.committed_count (g.H.Disk.told p.host.now) s.zero both.1 in
      let f = c.forget.ensures in
      made_committed_map l (g.H.Disk.told p.host.now) (g.H.Disk.told c.close_log.new.disk) s.zero ((c.close_log.ensures.placed tells).0 full) c.forget.new.self (c.in-Ok.ensures.written tells) f.overlay f.unit f.header
      f.committed_count),
  c.forget.ensures.committed_count,
)

pub returns-clause-same : goal.returns-clause-same
returns-clause-same g c =
    let p = c.args.self.now in
    let l = p.layers in
    let sound = λ (tells : g.H.Disk.tells). sound_of g.H.Disk p.host.now p.log l.header (overlay l) (p.sound tells c.requires) in
    let k = c.close_log.ensures in
    record {
      said = k.said;
      fetches = refl;
      heap = refl;
      faults = k.faults;
      follows = (
        refl,
        ends_follows g.H.Disk g.met.H.Disk.counts_now g.met.H.Disk.only_now g.met.H.Disk.told_may_stay p.host.now c.close_log.new.disk p.log l.header (overlay l) l.committed_count l.committed_some l.committed_bounded
            l.committed_counted sound k.goes (λ tells. k.time tells l.header l.committed_counted (sound tells)),
      );
    }

pub returns-clause-images : goal.returns-clause-images
returns-clause-images g c = λ no_gap.
    let p = c.args.self.now in
    let l = p.layers in
    let sound = λ (tells : g.H.Disk.tells). sound_of g.H.Disk p.host.now p.log l.header (overlay l) (p.sound tells c.requires) in
    let k = c.close_log.ensures in
    ends_images g.H.Disk g.met.H.Disk.counts_now g.met.H.Disk.only_now g.met.H.Disk.told_may_stay p.host.now c.close_log.new.disk p.log l.header (overlay l) l.committed_count l.committed_some l.committed_bounded
    l.committed_counted sound k.goes (λ tells. k.time tells l.header l.committed_counted (sound tells))
    (λ tells. filled l.header (overlay l) l.committed_count (g.H.Disk.told p.host.now) (sound tells).zero no_gap)

pub returns-clause-time : goal.returns-clause-time
returns-clause-time g c = λ no_gap.
    let p = c.args.self.now in
    let l = p.layers in
    let sound = λ (tells : g.H.Disk.tells). sound_of g.H.Disk p.host.now p.log l.header (overlay l) (p.sound tells c.requires) in
    let k = c.close_log.ensures in
    ends_time g.H.Disk g.met.H.Disk.counts_now g.met.H.Disk.only_now g.met.H.Disk.told_may_stay p.host.now c.close_log.new.disk p.log l.header (overlay l) l.committed_count l.committed_some l.committed_bounded
    l.committed_counted sound k.goes (λ tells. k.time tells l.header l.committed_counted (sound tells))
    (λ tells. filled l.header (overlay l) l.committed_count (g.H.Disk.told p.host.now) (sound tells).zero no_gap)

use Rattle.std.proofs.Common.{◌≡◌, inl, ℕ, true, false, List, refl, sym, ◌∙◌, ap, subst, arith}
use Rattle.std.proofs.Math.Logic.{∥∥₁_map}
use Rattle.gx_words.specs.PageMap.{PageMap}
use Rattle.gx_log.specs.Records.{piece}
use Rattle.gx_log.proofs.Bodies.{entries_in-opened}
use Rattle.gx_pager.specs.Cached.{Agrees}
use Rattle.gx_pager.specs.Known.{IsSound, sound_of}
use Rattle.gx_pager.specs.Layers.{header_over, map_over}
use Rattle.gx_pager.specs.Maps.{cut}
use Rattle.gx_pager.specs.Memory.{overlay, memory, committed_memory, unit}
use Rattle.gx_pager.proofs.Adding.{only_committed}
use Rattle.gx_pager.proofs.Records.{few}
use Rattle.gx_pager.proofs.pager.PagerStore.commit.Goals as goal

apart : true ≡ false → ⊥
apart same = cc

pub invariant_of-self : goal.invariant_of-self
invariant_of-self g c =
    let p = c.args.self.now in
    record {
      sound = λ tells fine. absurd (apart fine);
      waits = λ tells fine. absurd (apart fine);
      agrees = λ tells. subst (λ (l : List ℕ). Agrees (λ n. piece l n) p.cache.pages.entries) (sym (c.add_record.ensures.pages tells)) (p.agrees tells);
    }

pub returns-in-Err-clause-either : goal.returns-in-Err-clause-either
returns-in-Err-clause-either g c =
    let l = c.args.self.now.layers in
    inl ((λ tells. ap (λ (pages : List ℕ). cut l.committed_count (map_over (committed_memory l) (λ n. piece pages n))) (c.add_record.ensures.pages tells)), refl)

pub returns-in-Err-clause-same : goal.returns-in-Err-clause-same
returns-in-Err-clause-same g c =
    let p = c.args.self.now in
    record {
      said = c.add_record.ensures.said;
      fetches = refl;
      heap = refl;
      faults = c.add_record.ensures.faults;
      follows = (refl, c.add_record.ensures.follows (λ tells. sound_of g.H.Disk p.host.now p.log p.layers.header (overlay p.layers) (p.sound tells c.requires)));
    }

pub returns-in-Err-clause-time : goal.returns-in-Err-clause-time
returns-in-Err-clause-time g c =
    let p = c.args.self.now in
    c.add_record.ensures.time (λ tells. sound_of g.H.Disk p.host.now p.log p.layers.header (overlay p.layers) (p.sound tells c.requires))

pub invariant_of-self-2 : goal.invariant_of-self-2
invariant_of-self-2 g c =
    let p = c.args.self.now in
    record {
      sound = λ tells fine.
          ∥∥₁_map (p.sound tells c.requires) (λ s.
          subst (λ (h : List ℕ). IsSound g.H.Disk c.add_record.new.disk c.add_record.new.log h (overlay c.settle.new.self)) (sym c.settle.ensures.header)
          (subst (λ (m : PageMap). IsSound g.H.Disk c.add_record.new.disk c.add_record.new.log (header_over (unit p.layers 0) p.layers.header) m) (sym c.settle.ensures.overlay)
          (c.in-Ok.ensures.sound tells s)));
      waits = λ tells fine records stands.
          let s = sound_of g.H.Disk p.host.now p.log p.layers.header (overlay p.layers) (p.sound tells c.requires) in
          let most = few p.layers.unit.entries p.layers.low c.len-more.ensures.ordered in
          let all = c.in-Ok.ensures.entries tells s records stands in
          let before = p.waits tells c.requires s.records s.stands in
          let room = entries_in-opened s.records s.stands.sound in
          omega (arith, c.saturating_add-self.ensures, c.len-more.ensures.len, most, before, all, room, s.at_front, c.if-front-gt-MOST.false, c.front.ensures);
      agrees = λ tells. subst (λ (l : List ℕ). Agrees (λ n. piece l n) p.cache.pages.entries) (sym (c.add_record.ensures.pages tells)) (p.agrees tells);
    }

pub returns-clause-committed : goal.returns-clause-committed
returns-clause-committed g c = (
  (λ tells.
      let old = c.args.self.now.layers in
      let new = c.settle.new.self in
      ap (λ (k : ℕ). cut k (map_over (committed_memory new) (λ n. piece (g.H.Disk.told c.add_record.new.disk).pages n))) c.settle.ensures.committed_count
      ∙ ap (λ (m : PageMap). cut old.count (map_over m (λ n. piece (g.H.Disk.told c.add_record.new.disk).pages n))) c.settle.ensures.committed
      ∙ ap (λ (pages : List ℕ). cut old.count (map_over (memory old) (λ n. piece pages n))) (c.add_record.ensures.pages tells)),
  c.settle.ensures.committed_count,
)

pub returns-clause-map : goal.returns-clause-map
returns-clause-map g c = λ tells.
    let old = c.args.self.now.layers in
    let new = c.settle.new.self in
    ap (λ (k : ℕ). cut k (map_over (memory new) (λ n. piece (g.H.Disk.told c.add_record.new.disk).pages n))) c.settle.ensures.count
    ∙ ap (λ (m : PageMap). cut old.count (map_over m (λ n. piece (g.H.Disk.told c.add_record.new.disk).pages n))) c.settle.ensures.memory
    ∙ ap (λ (pages : List ℕ). cut old.count (map_over (memory old) (λ n. piece pages n))) (c.add_record.ensures.pages tells)

pub returns-clause-only : goal.returns-clause-only
returns-clause-only g c = λ tells m left.
    let p = c.args.self.now in
    let old = p.layers in
    let new = c.settle.new.self in
    let s = c.in-Ok.ensures.sound tells (sound_of g.H.Disk p.host.now p.log p.layers.header (overlay p.layers) (p.sound tells c.requires)) in
    let s' = subst (λ (h : List ℕ). IsSound g.H.Disk c.add_record.new.disk c.add_record.new.log h (overlay new)) (sym c.settle.ensures.header)
    (subst (λ (l : PageMap). IsSound g.H.Disk c.add_record.new.disk c.add_record.new.log (header_over (unit old 0) old.header) l) (sym c.settle.ensures.overlay) s) in
    only_committed g.H.Disk c.add_record.new.disk c.add_record.new.log new.header (overlay new) new.committed_count new.committed_counted new.committed_bounded s' left.1.0 left.1.1 m left.1.2
    ∙ ap (λ (k : ℕ). cut k (map_over (committed_memory new) (λ n. piece (g.H.Disk.told c.add_record.new.disk).pages n))) c.settle.ensures.committed_count
    ∙ ap (λ (l : PageMap). cut old.count (map_over l (λ n. piece (g.H.Disk.told c.add_record.new.disk).pages n))) c.settle.ensures.committed
    ∙ ap (λ (pages : List ℕ). cut old.count (map_over (memory old) (λ n. piece pages n))) (c.add_record.ensures.pages tells)

pub returns-clause-same : goal.returns-clause-same
returns-clause-same g c =
    let p = c.args.self.now in
    record {
      said = c.add_record.ensures.said;
      fetches = refl;
      heap = refl;
      faults = c.add_record.ensures.faults;
      follows = (refl, c.add_record.ensures.follows (λ tells. sound_of g.H.Disk p.host.now p.log p.layers.header (overlay p.layers) (p.sound tells c.requires)));
    }

pub returns-clause-time : goal.returns-clause-time
returns-clause-time g c =
    let p = c.args.self.now in
    c.add_record.ensures.time (λ tells. sound_of g.H.Disk p.host.now p.log p.layers.header (overlay p.layers) (p.sound tells c.requires))

use Rattle.std.proofs.Common.{ℕ, refl, ◌∙◌, ap}
use Rattle.gx_words.specs.PageMap.{PageMap}
use Rattle.gx_pager.specs.Layers.{map_over, pieces}
use Rattle.gx_pager.specs.Maps.{cut}
use Rattle.gx_pager.specs.Memory.{memory}
use Rattle.gx_pager.proofs.LayerMaps.{keeps_map}
use Rattle.gx_pager.proofs.pager.PagerStore.abandon.Goals as goal

pub returns-clause-map : goal.returns-clause-map
returns-clause-map g c = λ tells.
    let p = c.args.self.now in
    let image = g.H.Disk.told p.host.now in
    ap (λ (k : ℕ). cut k (map_over (memory c.abandon.new.self) (pieces image))) c.abandon.ensures.count
    ∙ ap (λ (m : PageMap). cut p.layers.committed_count (map_over m (pieces image))) c.abandon.ensures.memory

pub returns-clause-committed : goal.returns-clause-committed
returns-clause-committed g c = ((λ tells. keeps_map c.args.self.now.layers c.abandon.new.self (g.H.Disk.told c.args.self.now.host.now) (g.H.Disk.told c.args.self.now.host.now) c.abandon.ensures.keeps refl), c.abandon.ensures.keeps.count)

use Rattle.std.proofs.Common.{ℕ, List, ◌∙◌, ap}
use Rattle.std.specs.BTreeMap.{get}
use Rattle.std.specs.Ordering.{nat_cmp}
use Rattle.gx_words.specs.PageMap.{PageMap, with_page}
use Rattle.gx_pager.specs.Memory.{memory, committed_memory}
use Rattle.gx_pager.proofs.Maps.{entries_same, unit_written}
use Rattle.gx_pager.proofs.layers.Layers.open.Goals as goal

pub returns-in-Err-insert-clause-same : goal.returns-in-Err-insert-clause-same
returns-in-Err-insert-clause-same c =
    entries_same c.insert.new.self.entries c.place.new.self.unit.entries (committed_memory c.place.new.self) c.in-Err-insert.ensures.err ∙ c.in-Ok.ensures.memory

pub returns-clause-written : goal.returns-clause-written
returns-clause-written c =
    unit_written (λ n. get nat_cmp c.place.new.self.unit n) (λ n. get nat_cmp c.insert.new.self n) (committed_memory c.place.new.self) c.args.page c.in-Ok-boxed.fresh c.in-Ok-insert.ensures.updates.0
    ∙ ap (λ (b : List ℕ). with_page (memory c.place.new.self) c.args.page b) c.in-Ok-boxed.ensures
    ∙ ap (λ (m : PageMap). with_page m c.args.page c.args.from.now) c.in-Ok.ensures.memory

use Rattle.std.proofs.Common.{◌≡◌, None, sym, ◌∙◌}
use Rattle.std.specs.BTreeMap.{get}
use Rattle.std.specs.Ordering.{nat_cmp}
use Rattle.gx_log.specs.Records.{page_in}
use Rattle.gx_pager.specs.Memory.{committed_memory, overlay, unit}
use Rattle.gx_pager.proofs.Maps.{entries_same, unit_header, none_of}
use Rattle.gx_pager.proofs.layers.Layers.open_header.Goals as goal

pub returns-in-Err-insert-clause-memory : goal.returns-in-Err-insert-clause-memory
returns-in-Err-insert-clause-memory c =
    entries_same c.insert.new.self.entries c.place.new.self.unit.entries (committed_memory c.place.new.self) c.in-Err-insert.ensures.err ∙ c.in-Ok.ensures.memory

pub returns-clause-memory : goal.returns-clause-memory
returns-clause-memory c =
    let lacks : unit c.place.new.self 0 ≡ None = (λ i. page_in (get nat_cmp (c.in-Ok.ensures.unit i) 0)) ∙ none_of _ (sym c.contains_key.ensures ∙ c.if-contains_key.false) in
    unit_header (λ n. get nat_cmp c.place.new.self.unit n) (λ n. get nat_cmp c.insert.new.self n) c.place.new.self.header (overlay c.place.new.self) c.in-Ok-boxed.fresh c.in-Ok-boxed.ensures
    c.in-Ok-insert.ensures.updates.0 lacks ∙ c.in-Ok.ensures.memory

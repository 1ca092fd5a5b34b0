use Rattle.std.proofs.Common.{ℕ, List, [], ◌∷◌, ◌++◌, Option, None, slice_set, sym, ◌∙◌, ap, append_assoc}
use Rattle.gx_pages.specs.declared.row.RowRef.{RowRef}
use Rattle.gx_slot.specs.Slots.{Slots}
use Rattle.gx_heap.proofs.Entries.{empties_more}
use Rattle.gx_heap.proofs.removal.empty_slots.Goals as goal

pub loop-at-preserved : goal.loop-at-preserved
loop-at-preserved c =
    let before = c.loop-at.invariant in
    let at = c.in-Some.at.now in
    let got = c.in-Some-item_at.ensures.some in
    let items = ap (λ (s : Slots). s.items) c.remove.ensures in
    let set = slice_set c.loop-at.slots.items at.slot None in (
      before.0 ++ at ∷ [],
      before.1 ∙ ap (λ (l : List RowRef). before.0 ++ l) c.in-Some.ensures.cases.0 ∙ sym (append_assoc before.0 (at ∷ []) c.in-Some.more.now),
      empties_more c.args.page before.0 at c.args.slots.now.items c.loop-at.slots.items c.remove.new.self.items before.2 c.if-at-page.false (got.0, got.1, got.2) items,
      c.remove.ensures ∙ ap (λ (s : Slots). record s { items = set }) before.3 ∙ ap (λ (l : List (Option (List ℕ))). record c.args.slots.now { items = l }) (sym items),
    )

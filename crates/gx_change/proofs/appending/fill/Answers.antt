use Rattle.std.proofs.Common.{◌≡◌, ◌+◌, ◌<◌, List, [], ◌∷◌, ◌++◌, ℕ, length, take, Option, Some, sym, ◌∙◌, ap, append_assoc, arith}
use Rattle.std.proofs.lemmas.List.{length-take-le, take_more}
use Rattle.gx_bytes.specs.Fields.{le64}
use Rattle.gx_slot.specs.Slots.{Slots, with_item}
use Rattle.gx_change.specs.Appended.{items_from}
use Rattle.gx_change.proofs.Filling.{items_more}
use Rattle.gx_change.proofs.appending.fill.Goals as goal

pub loop-row-preserved : goal.loop-row-preserved
loop-row-preserved c =
    let before = c.loop-row.invariant in
    let n = c.loop-row.n in
    let rows = c.args.rows.now in
    let same = before.count in
    let row_below : c.loop-row.row-index < length rows = c.loop-row-test.true in
    let below : n < length rows = omega (arith, same, row_below) in
    let index : take (n + 1) rows ≡ take n rows ++ c.as_slice.result.now ∷ [] =
    (let cut = take_more rows c.loop-row.row-index c.row-item.result row_below in
    ap (λ (k : ℕ). take (k + 1) rows) same ∙ cut ∙ ap (λ (bytes : List ℕ). take c.loop-row.row-index rows ++ bytes ∷ []) (sym c.row-item.is ∙ sym c.as_slice.ensures)
    ∙ ap (λ (k : ℕ). take k rows ++ c.as_slice.result.now ∷ []) (sym same)) in
    let long = length-take-le n rows (omega (arith, below)) in
    let item : c.as_slice-in-loop-row.result.now ≡ le64 (c.args.next + length (take n rows)) ++ c.as_slice.result.now =
    c.as_slice-in-loop-row.ensures ∙ c.in_ok-make_item.ensures ∙ ap (λ (k : ℕ). le64 (c.args.next + k) ++ c.as_slice.result.now) (sym long) in
    let old = c.args.slots.now.items in
    let all : old ++ items_from c.args.next (take (n + 1) rows) ≡ (old ++ items_from c.args.next (take n rows)) ++ Some c.as_slice-in-loop-row.result.now ∷ [] =
    ap (λ (l : List (List ℕ)). old ++ items_from c.args.next l) index ∙ ap (λ (l : List (Option (List ℕ))). old ++ l) (items_more c.args.next (take n rows) c.as_slice.result.now)
    ∙ sym (append_assoc old (items_from c.args.next (take n rows)) (Some (le64 (c.args.next + length (take n rows)) ++ c.as_slice.result.now) ∷ []))
    ∙ ap (λ (l : List ℕ). (old ++ items_from c.args.next (take n rows)) ++ Some l ∷ []) (sym item) in
    record {
      count = omega (arith, same);
      filled = c.in-Ok.ensures.added ∙ ap (λ (s : Slots). with_item s (Some c.as_slice-in-loop-row.result.now)) before.filled
          ∙ ap (λ (l : List (Option (List ℕ))). record c.args.slots.now { items = l }) (sym all);
    }

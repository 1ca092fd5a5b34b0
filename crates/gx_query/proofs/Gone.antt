-- The rows that DELETE gathers, and the table without them.
use Rattle.std.proofs.Common.{◌≡◌, ℕ, ◌<◌, ◌≤◌, List, [], ◌++◌, length, codes, Option, sym, ◌∙◌, ap, subst, arith}
use Rattle.std.specs.Fmt.{decimal}
use Rattle.std.specs.List.{AllByRecursion, AllZip}
use Rattle.gx_pages.specs.declared.row.RowRef.{RowRef}
use Rattle.gx_pages.specs.declared.store.Pages.{Ghosts}
use Rattle.gx_pages.specs.Footprints.{KeepsPages}
use Rattle.gx_pages.specs.Rows.{IsRising}
use Rattle.gx_pages.proofs.Footprints.{all_weaker, keeps_from}
use Rattle.gx_heap.specs.declared.heap.Heap.{Heap}
use Rattle.gx_heap.specs.Heaps.{HoldsHeap, AreRows, refs, without}
use Rattle.gx_catalog.specs.declared.info.TableInfo.{TableInfo}
use Rattle.gx_value.specs.declared.fields.Column.{Column}
use Rattle.gx_model.specs.Database.{Table}
use Rattle.gx_model.specs.Replies.{accepted, line}
use Rattle.gx_model.specs.Steps.{others}
use Rattle.gx_model.specs.Truth.{Bound}
use Rattle.gx_database.specs.Standing.{SpellsStored}
use Rattle.gx_query.specs.declared.counts.Counts.{Counts}
use Rattle.gx_query.specs.Answers.{delete_reply}
use Rattle.gx_query.specs.Tables.{HoldsTable, Removed}
use Rattle.gx_query.specs.Visitors.{with_row}
use Rattle.gx_query.specs.Walks.{Shown, picked}
use Rattle.gx_query.proofs.Stored.{all_gone, chosen, gone_are_rows, picked_many, refs_of, rising_few, rising_gone, rows_left, rows_visited, seen_of}

-- the reply that says how many they were
pub delete_said : (t : Table) (condition : Option Bound) (bytes : List ℕ) (n : ℕ) → bytes ≡ [] → n ≡ length (chosen condition t.rows) → accepted (bytes ++ line (codes "DELETE " ++ decimal n)) ≡ delete_reply t condition
unfolding delete_reply
delete_said t condition bytes n none many = λ i. accepted (none i ++ line (codes "DELETE " ++ decimal (many i)))

module _ {P : Type 0} (g : Ghosts P) (old : P) (info : TableInfo) (t : Table) (table : HoldsTable g old info t) (condition : Option Bound) (columns : List Column) (n : Counts) (start last rows : List RowRef) (none : start ≡ []) (is : rows ≡ last)
    (shown : Shown (with_row columns) condition start last (record { rows = 0; selected = 0 }) n (seen_of table.rows t.rows)) where
  gathered : rows ≡ refs_of (picked condition (seen_of table.rows t.rows))
  gathered =
      is ∙ shown.visitor ∙ rows_visited columns start (picked condition (seen_of table.rows t.rows)) ∙ ap (λ (l : List RowRef). l ++ refs_of (picked condition (seen_of table.rows t.rows))) none

  pub selected_many : n.selected ≡ length (chosen condition t.rows)
  selected_many = let here = shown.selected in let many = picked_many t.columns condition table.rows t.rows table.stored.rows in omega (arith, here, many)

  pub rows_rise : IsRising rows
  rows_rise = subst (λ (l : List RowRef). IsRising l) (sym gathered) (rising_gone condition table.rows t.rows table.held.rising)

  pub are_rows : AreRows rows table.rows
  are_rows = subst (λ (l : List RowRef). AreRows l table.rows) (sym gathered) (gone_are_rows condition table.rows t.rows)

  numbered : AllByRecursion (λ at. (0 ≤ at.number) × (at.number < info.heap.next)) (refs table.rows)
  numbered =
      all_weaker (λ (at : RowRef). (0 < at.number) × (at.number < info.heap.next)) (λ (at : RowRef). (0 ≤ at.number) × (at.number < info.heap.next)) (refs table.rows) (λ at is. (omega arith, is.1)) table.held.numbered

  pub few_rows : length rows ≤ info.heap.next
  few_rows =
      let few = rising_few 0 info.heap.next rows (omega arith) rows_rise
      (subst (λ (l : List RowRef). AllByRecursion (λ at. (0 ≤ at.number) × (at.number < info.heap.next)) l) (sym gathered)
      (all_gone (λ at. (0 ≤ at.number) × (at.number < info.heap.next)) condition table.rows t.rows numbered)) in
      omega (arith, few)

  pub removed : (mid new : P) (heap : Heap) → heap ≡ info.heap → g.map mid ≡ g.map old → g.count mid ≡ g.count old
      → HoldsHeap g new heap (without rows table.rows) table.feet table.free × KeepsPages g mid new table.feet table.free table.feet table.free
      → Removed g old new info t condition table.feet table.free
  removed mid new heap same map count has = record {
    rows = without rows table.rows;
    held = subst (λ (h : Heap). HoldsHeap g new h (without rows table.rows) table.feet table.free) same has.0;
    kept = keeps_from g old mid new table.feet table.free table.feet table.free map count has.1;
    spelled = subst (λ (l : List RowRef). AllZip (SpellsStored t.columns) (others condition t) (without l table.rows)) (sym gathered) (rows_left t.columns condition table.rows t.rows table.stored.rows table.held.rising);
  }

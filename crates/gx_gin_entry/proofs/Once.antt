-- A map holds one entry tree at most below a page.
use Rattle.std.proofs.Common.{◌≡◌, ℕ, ◌^◌, ◌≤◌, List, sym, ◌∙◌}
use Rattle.gx_words.specs.PageMap.{PageMap}
use Rattle.gx_tree.proofs.Once.{tree_once}
use Rattle.gx_gin_entry.specs.EntryTrees.{Entry, HoldsMap}
use Rattle.gx_gin_entry.specs.Lists.{one_list}

pub map_once : (now : PageMap) (count root : ℕ) (list other : List Entry) (feet more : List ℕ) → count ≤ 2 ^ 64 → HoldsMap now count root list feet → HoldsMap now count root other more → (list ≡ other) × (feet ≡ more)
map_once now count root list other feet more bound first second =
    let same = tree_once now 5 count root bound first.tree second.tree first.held second.held in (
      one_list list other first.are second.are (sym first.spelled ∙ same.0 ∙ second.spelled),
      first.stand ∙ same.1 ∙ sym second.stand,
    )

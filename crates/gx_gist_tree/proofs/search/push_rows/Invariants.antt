use Rattle.std.proofs.Common.{◌≡◌, ◌++◌, List, Option, All, map, take}
use Rattle.std.specs.Prelude.{IfSome}
use Rattle.std.specs.Option.{option_map}
use Rattle.gx_gist_tree.specs.Trees.{Entry}
use Rattle.gx_gist_tree.specs.OnPages.{FitsFields, leaf_item}
use Rattle.gx_gist_tree.proofs.ItemFacts.{rows_in}
use Rattle.gx_gist_tree.proofs.search.push_rows.Given as goal

abbrev pub invariant-loop-slot : goal.invariant-loop-slot
invariant-loop-slot g l = (entries : List (Option (Entry g.row.C-Key.Denot))) → All (λ slot. IfSome slot (λ e. g.C.GistClass.valid_key l.class e.1 × FitsFields e.0)) entries
    → l.slots.items ≡ map (option_map (leaf_item (g.C.GistClass.spelling l.class))) entries
    → l.rows.items ≡ l.fn.rows.items ++ rows_in (λ k. g.C.GistClass.leaf_test l.class k l.query) (take l.slot entries)

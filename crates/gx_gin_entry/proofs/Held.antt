-- An entry tree as a tree of pages.
use Rattle.std.proofs.Common.{◌≡◌, ℕ, List, ◌++◌, subst}
use Rattle.gx_pages.specs.declared.store.Pages.{Ghosts}
use Rattle.gx_pages.specs.Frees.{IsApart}
use Rattle.gx_tree.specs.Trees.{HoldsBeside}
use Rattle.gx_gin_entry.specs.EntryTrees.{Entry, HoldsEntries}

pub beside : {P : Type 0} (g : Ghosts P) (pages : P) (root : ℕ) (list : List Entry) (feet free : List ℕ) (held : HoldsEntries g pages root list feet free) → HoldsBeside g pages 5 root held.held.tree free
beside g pages root list feet free held = record {
  held = held.held.held;
  frees = held.frees;
  apart = subst (λ (l : List ℕ). IsApart (l ++ free)) held.held.stand held.apart;
}

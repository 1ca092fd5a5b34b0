use Rattle.std.proofs.Common.{◌≡◌, take}
use Rattle.gx_posting.specs.Postings.{Spells, last_of}
use Rattle.gx_posting_tree.specs.PostingTrees.{without}
use Rattle.gx_posting_tree.proofs.removing.kept_list.Given as goal

abbrev pub invariant-loop-at : goal.invariant-loop-at
invariant-loop-at l = record {
  spells : Spells l.item (without l.gone (take l.at l.list));
  last : l.last ≡ last_of (without l.gone (take l.at l.list));
}

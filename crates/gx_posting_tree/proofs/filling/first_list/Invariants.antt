use Rattle.std.proofs.Common.{◌≡◌, ◌*◌, ◌≤◌, length, take}
use Rattle.gx_posting.specs.Postings.{Spells, last_of}
use Rattle.gx_posting_tree.proofs.filling.first_list.Given as goal

abbrev pub invariant-loop-at : goal.invariant-loop-at
invariant-loop-at l = record {
  spells : Spells l.item (take l.at l.rows);
  last : l.last ≡ last_of (take l.at l.rows);
  short : length l.item ≤ 512;
  small : length l.item ≤ 23 * l.at;
}

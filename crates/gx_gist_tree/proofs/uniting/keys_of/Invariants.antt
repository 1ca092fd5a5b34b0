use Rattle.std.proofs.Common.{take}
use Rattle.gx_gist_tree.specs.Insertion.{AreKeys, head_len}
use Rattle.gx_gist_tree.proofs.uniting.keys_of.Given as goal

abbrev pub invariant-loop-item : goal.invariant-loop-item
invariant-loop-item g l = AreKeys (g.C.GistClass.valid_key l.class) (g.C.GistClass.spelling l.class) (head_len l.level) (take l.item-index l.items) l.keys

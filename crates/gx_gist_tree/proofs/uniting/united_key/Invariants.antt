use Rattle.std.proofs.Common.{take}
use Rattle.gx_gist_tree.specs.Insertion.{IsUnion, picked}
use Rattle.gx_gist_tree.proofs.uniting.united_key.Given as goal

abbrev pub invariant-loop-k : goal.invariant-loop-k
invariant-loop-k g l = record {
  valid : g.C.GistClass.valid_key l.class l.united;
  union : IsUnion (g.C.GistClass.union_of l.class) (picked l.keys (take l.k l.places)) l.united;
}

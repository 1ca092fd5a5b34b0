use Rattle.bench_trees.proofs.filling.insert_rows.Given as goal

abbrev pub invariant-loop-number : goal.invariant-loop-number
invariant-loop-number g l = g.C.GistClass.valid l.tree.class

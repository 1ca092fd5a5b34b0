use Rattle.set_tests.proofs.trees.wrong.Given as goal

abbrev pub invariant-loop-number : goal.invariant-loop-number
invariant-loop-number g l = g.C.GistClass.valid l.tree.class

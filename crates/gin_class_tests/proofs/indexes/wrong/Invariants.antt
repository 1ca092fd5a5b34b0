use Rattle.gin_class_tests.proofs.indexes.wrong.Given as goal

abbrev pub invariant-loop-number : goal.invariant-loop-number
invariant-loop-number g l = g.C.GinClass.valid l.gin.class

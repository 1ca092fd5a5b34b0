use Rattle.std.proofs.Common.{drop}
use Rattle.gx_target.proofs.ColumnFacts.{Made}
use Rattle.gx_target.proofs.columns.new_columns.Given as goal

abbrev pub invariant-loop-word : goal.invariant-loop-word
invariant-loop-word l = Made l.words l.columns (drop l.word-index l.words)

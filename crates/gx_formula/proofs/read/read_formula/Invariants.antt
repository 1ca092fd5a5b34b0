use Rattle.std.proofs.Common.{length}
use Rattle.gx_formula.specs.Machine.{parsed, IsLimited}
use Rattle.gx_formula.proofs.AnswerLemmas.{SoFar}
use Rattle.gx_formula.proofs.read.read_formula.Given as goal

abbrev pub invariant-tokens : goal.invariant-tokens
invariant-tokens g l = record { limited : IsLimited l.parser; so_far : SoFar g.row.F-Word.Denot g.F.Formula.Takes l.text l.rest (parsed g.F.Formula.tree l.parser) l.parser.operators }

abbrev pub decreases-tokens : goal.decreases-tokens
decreases-tokens g l = length l.rest

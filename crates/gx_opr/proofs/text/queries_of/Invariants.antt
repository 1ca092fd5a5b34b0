use Rattle.std.proofs.Common.{take}
use Rattle.std.specs.List.{AllByRecursion}
use Rattle.gx_lquery.specs.Query.{IsLquery}
use Rattle.gx_opr.specs.Literals.{AreQueries}
use Rattle.gx_opr.proofs.text.queries_of.Given as goal

-- those before the index are queries, and valid
abbrev pub invariant-loop-text : goal.invariant-loop-text
invariant-loop-text l = AreQueries (take l.text-index l.texts) l.queries × AllByRecursion IsLquery l.queries

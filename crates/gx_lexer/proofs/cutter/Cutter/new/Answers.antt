use Rattle.std.proofs.Common.{ℕ, List, Some, refl, ap}
use Rattle.gx_lexer.proofs.FeedFacts.{fed_none}
use Rattle.gx_lexer.proofs.cutter.Cutter.new.Goals as goal

pub returns-clause-fed : goal.returns-clause-fed
returns-clause-fed c = fed_none _ refl (ap (λ (bytes : List ℕ). Some bytes) c.new.ensures)

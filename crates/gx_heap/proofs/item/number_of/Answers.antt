use Rattle.std.proofs.Common.{List, ℕ, sym, ◌∙◌, ap, arith}
use Rattle.gx_bytes.specs.Fields.{of64, of64-le64}
use Rattle.gx_heap.proofs.item.number_of.Goals as goal

pub returns-clause-some : goal.returns-clause-some
returns-clause-some c = sym (ap (λ (l : List ℕ). of64 l) c.in_ok-number.ensures.some.1 ∙ of64-le64 c.in_ok-number.number (omega arith))

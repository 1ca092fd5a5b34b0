use Rattle.std.proofs.Common.{◌≡◌, true, false, Some, sym, ◌∙◌, ap}
use Rattle.gx_tree.proofs.relinking.kept_key.Goals as goal

pub returns-then-kept-clause-kept : goal.returns-then-kept-clause-kept
returns-then-kept-clause-kept g c = λ yes items d are below. c.key_at.ensures items d are below

pub returns-then-kept-clause-own : goal.returns-then-kept-clause-own
returns-then-kept-clause-own g c = λ no. let e : true ≡ false = sym c.if-kept.true ∙ no in cc

pub returns-clause-kept : goal.returns-clause-kept
returns-clause-kept g c = λ yes. let e : true ≡ false = sym yes ∙ c.if-kept.false in cc

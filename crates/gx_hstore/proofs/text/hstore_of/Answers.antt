-- White space alone spells no map.
use Rattle.std.proofs.Common.{◌≡◌, sym, ◌∙◌, length, arith}
use Rattle.std.proofs.lemmas.Grind.{common_steps}
use Rattle.gx_hstore.proofs.PairLemmas.{some_length}
use Rattle.gx_hstore.proofs.AnswerLemmas.{blank_only}
use Rattle.gx_hstore.proofs.text.hstore_of.Goals as goal

pub returns-then-not-is_empty : goal.returns-then-not-is_empty
returns-then-not-is_empty c =
    let spelled = rw c.in-Some.is at c.in_ok-pairs.ensures in
    let none : length c.in-Some.pairs.items ≡ 0 = grind (arith, common_steps) in
    blank_only c.args.text.now c.in-Some.pairs.items spelled none (some_length c.args.text.now (sym c.if-not-is_empty.true ∙ c.is_empty-then-is_empty.ensures))

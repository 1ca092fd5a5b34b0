-- One place more.
use Rattle.std.proofs.Common.{ℕ, ◌+◌, subst, arith}
use Rattle.gx_lquery.specs.Places.{IsLast}
use Rattle.gx_lquery.proofs.Step.{stepped_on}
use Rattle.gx_lquery.proofs.operators.next_row.Goals as goal

pub loop-at-preserved : goal.loop-at-preserved
loop-at-preserved c =
    let P : ℕ → Type 0 = λ n. IsLast c.args.row.now n c.last_open-last.result (c.loop-at.at + 1) in
    stepped_on c.args.item.now c.args.path.now c.args.row.now c.loop-at.start c.run_start-start.result c.loop-at.last c.last_open-last.result c.loop-at.at c.loop-at.next.items c.push.new.self.items c.group_ends.result
    (omega arith) c.loop-at.invariant (subst P c.from.ensures c.last_open-last.ensures) c.group_ends.ensures c.in_ok-push.ensures.items c.run_start-start.ensures

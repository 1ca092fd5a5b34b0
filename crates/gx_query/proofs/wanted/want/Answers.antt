use Rattle.std.proofs.Common.{arith}
use Rattle.gx_query.proofs.Narrowing.{past_wanted, set_wanted, still_wanted}
use Rattle.gx_query.proofs.wanted.want.Goals as goal

pub returns-then-place-wanted-clause-marked : goal.returns-then-place-wanted-clause-marked
returns-then-place-wanted-clause-marked c = set_wanted c.args.wanted.now c.args.place

pub returns-then-place-wanted-clause-kept : goal.returns-then-place-wanted-clause-kept
returns-then-place-wanted-clause-kept c = still_wanted c.args.wanted.now c.args.place

pub returns-else-place-wanted-clause-marked : goal.returns-else-place-wanted-clause-marked
returns-else-place-wanted-clause-marked c = let past = c.if-place-wanted.false in past_wanted c.args.wanted.now c.args.place (omega (arith, past))

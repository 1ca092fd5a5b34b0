use Rattle.std.proofs.Common.{◌≡◌, ◌≢◌, ◌≤◌, ◌<◌, ◌+◌, ◌-◌, ℕ, List, length, arith}
use Rattle.gx_gin_entry.specs.Lists.{entry_len, no_entry}
use Rattle.gx_gin_entry.proofs.keys.split_entry.Goals as goal

pub returns-in_default : goal.returns-in_default
returns-in_default c = λ entry fits is. let short = c.in_default.ensures.none in let e = entry_len c.args.item.now entry is in omega (arith, short, e)

pub returns-then-rest-size : goal.returns-then-rest-size
returns-then-rest-size c = λ entry fits is.
    let read = c.in-Some.ensures.some in
    no_entry c.args.item.now entry c.in-Some.len c.split_at.result.1.now fits is read.1 (omega arith) c.split_at.ensures.back c.if-rest-size.true

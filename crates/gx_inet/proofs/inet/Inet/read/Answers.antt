-- The text without a slash, and with one.
use Rattle.std.proofs.Common.{arith}
use Rattle.std.proofs.lemmas.Str.Pattern.{split_parts}
use Rattle.gx_inet.proofs.TextLemmas.{answers_without, answers_with}
use Rattle.gx_inet.proofs.inet.Inet.read.Goals as goal

pub returns-in-None : goal.returns-in-None
returns-in-None c =
    let parts = split_parts 47 c.args.text.now c.split_once.result c.split_once.ensures.cases (omega arith) in
    let bare = rw c.in-None.is at parts in
    rw c.ok_or.ensures.value (answers_without c.args.text.now c.without_mask.result bare c.without_mask.ensures)

pub returns-in-Some : goal.returns-in-Some
returns-in-Some c =
    let parts = split_parts 47 c.args.text.now c.split_once.result c.split_once.ensures.cases (omega arith) in
    let cut = rw c.in-Some.is at parts in
    rw c.ok_or-in-Some.ensures.value (answers_with c.args.text.now c.in-Some.address.now c.in-Some.digits.now c.with_mask.result cut.0 cut.1 c.with_mask.ensures)

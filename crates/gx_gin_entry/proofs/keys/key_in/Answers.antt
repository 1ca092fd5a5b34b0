use Rattle.std.proofs.Common.{◌≡◌, ◌≢◌, ◌≤◌, ◌++◌, [], ℕ, List, length, sym, ◌∙◌, ap, append-nil, arith}
use Rattle.gx_gin_entry.specs.EntryTrees.{Entry, key_bytes}
use Rattle.gx_gin_entry.specs.Lists.{one_entry}
use Rattle.gx_gin_entry.proofs.keys.key_in.Goals as goal

pub returns-in_default : goal.returns-in_default
returns-in_default c = λ key short is. c.in_default.ensures (key, []) (record { key = short; posting = omega arith }) (is ∙ sym (append-nil (key_bytes key)))

pub returns : goal.returns
returns c = λ key short is.
    let read = c.in-Some.ensures in
    let same = one_entry (c.in-Some.key.now, c.in-Some.posting.now) (key, []) read.1 (omega (arith, short)) (sym read.0 ∙ is ∙ sym (append-nil (key_bytes key))) in
    let size = ap (λ (e : Entry). length e.1) same in
    let more = c.if-more-eq0.false in
    omega (arith, size, more)

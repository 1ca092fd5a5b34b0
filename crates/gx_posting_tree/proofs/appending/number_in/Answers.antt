use Rattle.std.proofs.Common.{◌≡◌, ℕ, List, length, sym, ◌∙◌, ap, arith}
use Rattle.std.proofs.lemmas.List.{take_all}
use Rattle.gx_bytes.specs.Fields.{le64, length-le64}
use Rattle.gx_posting_tree.proofs.appending.number_in.Goals as goal

size : (key : List ℕ) (number : ℕ) → key ≡ le64 number → length key ≡ 8
size key number is = ap (λ (l : List ℕ). length l) is ∙ length-le64 number

pub returns-in_default-clause-none : goal.returns-in_default-clause-none
returns-in_default-clause-none c = λ number is. let short = c.in_default.ensures.none in let e = size c.args.key.now number is in omega (arith, short, e)

pub returns-then-more-eq0-clause-some : goal.returns-then-more-eq0-clause-some
returns-then-more-eq0-clause-some c =
    let read = c.in-Some.ensures.some in
    let none = c.if-more-eq0.true in
    let long = read.0 in
    sym (take_all 8 c.args.key.now (omega (arith, none, long))) ∙ read.1

pub returns-clause-none : goal.returns-clause-none
returns-clause-none c = λ number is. let more = c.if-more-eq0.false in let e = size c.args.key.now number is in omega (arith, more, e)

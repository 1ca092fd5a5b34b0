use Rattle.std.proofs.Common.{◌≡◌, ◌<◌, ◌^◌, ℕ, List, ◌∙◌, ap, arith}
use Rattle.gx_bytes.specs.Fields.{le64, of64, of64-le64}
use Rattle.gx_posting_tree.proofs.appending.AppendingSeek.reaches.Goals as goal

pub returns-in_default-clause-none : goal.returns-in_default-clause-none
returns-in_default-clause-none c = λ is. c.in_default.ensures.none is.number is.is

read : (key : List ℕ) (number : ℕ) → key ≡ le64 number → number < 2 ^ 64 → of64 key ≡ number
read key number is fits = ap of64 is ∙ of64-le64 number fits

pub returns-then-number-own-clause-found : goal.returns-then-number-own-clause-found
returns-then-number-own-clause-found c =
    let a = read c.args.key.now c.in-Some.number c.in-Some.ensures.some (omega arith) in
    let b = of64-le64 c.args.self.now.row.number (omega arith) in
    let test = c.if-number-own.true in
    omega (arith, a, b, test)

pub returns-clause-found : goal.returns-clause-found
returns-clause-found c =
    let a = read c.args.key.now c.in-Some.number c.in-Some.ensures.some (omega arith) in
    let b = of64-le64 c.args.self.now.row.number (omega arith) in
    let test = c.if-number-own.false in
    omega (arith, a, b, test)

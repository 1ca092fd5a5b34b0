use Rattle.std.proofs.Common.{ℕ, List, take, drop, sym, ◌∙◌, ap}
use Rattle.gx_pager.proofs.Headers.{wrong_is}
use Rattle.gx_pager.proofs.header.test_header.Goals as goal

pub returns-in-Ok : goal.returns-in-Ok
returns-in-Ok c =
    let s = c.in-Some-Some-Some in
    let same = c.bytes-bytes.ensures.value in
    let is = wrong_is c.args.page.now s.magic s.format s.count c.test_numbers.ensures.ranges.0 c.test_numbers.ensures.ranges.1 c.test_numbers.ensures.ranges.2 (ap (λ (l : List ℕ). take 4 (drop 0 l)) (sym same) ∙ s.ensures.some.1) (ap (λ (l : List ℕ). take 4 (drop 4 l)) (sym same) ∙ s.ensures'.some.1)
    (ap (λ (l : List ℕ). take 8 (drop 8 l)) (sym same) ∙ s.ensures''.some.1) in
    (ap (λ (l : List ℕ). take 8 (drop 8 l)) (sym same) ∙ s.ensures''.some.1, c.in-Ok.ensures.wrong.0, c.in-Ok.ensures.wrong.1, is ∙ c.in-Ok.ensures.wrong.2)

pub returns-in-Err : goal.returns-in-Err
returns-in-Err c =
    let s = c.in-Some-Some-Some in
    let same = c.bytes-bytes.ensures.value in
    let is = wrong_is c.args.page.now s.magic s.format s.count c.test_numbers.ensures.ranges.0 c.test_numbers.ensures.ranges.1 c.test_numbers.ensures.ranges.2 (ap (λ (l : List ℕ). take 4 (drop 0 l)) (sym same) ∙ s.ensures.some.1) (ap (λ (l : List ℕ). take 4 (drop 4 l)) (sym same) ∙ s.ensures'.some.1)
    (ap (λ (l : List ℕ). take 8 (drop 8 l)) (sym same) ∙ s.ensures''.some.1) in
    let e = c.in-Err.ensures.wrong in
    (e.0, e.1, e.2, e.3, is ∙ e.4)

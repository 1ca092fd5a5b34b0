use Rattle.std.proofs.Common.{◌≡◌, ℕ, ◌+◌, List, ◌++◌, length, take, drop, sym, ◌∙◌, ap, subst, arith, length-take}
use Rattle.gx_bytes.specs.Varints.{IsVarint}
use Rattle.gx_bytes.proofs.Spellings.{field_count, fronts_same, take_join, field_there, part_again}
use Rattle.gx_bytes.proofs.varints.field.Goals as goal

pub returns-in_err-len-clause-none : goal.returns-in_err-len-clause-none
returns-in_err-len-clause-none c = rw c.from_residual.ensures (λ part len spelled.
    let parts = field_count c.args.bytes.now part len spelled in
    c.in_err-len.ensures.none (length part) parts.0 (omega (arith, parts.2)) parts.1)

pub returns-then-len-rest-clause-none : goal.returns-then-len-rest-clause-none
returns-then-len-rest-clause-none c = λ part len spelled.
    let bytes = c.args.bytes.now in
    let parts = field_count bytes part len spelled in
    let same = fronts_same bytes parts.0 c.in_ok-len.count (length part) c.in_ok-len.len parts.1 c.in_ok-len.ensures.found in
    omega (arith, parts.2, same.1, ap length same.0, length-take parts.0 bytes, length-take c.in_ok-len.count bytes, c.in_ok-len.ensures.length)

pub returns-clause-found : goal.returns-clause-found
returns-clause-found c =
    let bytes = c.args.bytes.now in
    let size : length c.split_at-2.result.0.now ≡ c.in_ok-len.len = c.split_at-2.ensures.front_len in
    let part : take (length c.split_at-2.result.0.now) (drop c.in_ok-len.count bytes) ≡ c.split_at-2.result.0.now =
    ap (λ (n : ℕ). take n (drop c.in_ok-len.count bytes)) size ∙ ap (λ (l : List ℕ). take c.in_ok-len.len l) (sym c.split_at.ensures.back) ∙ sym c.split_at-2.ensures.front in (
      take c.in_ok-len.count bytes,
      subst (λ (n : ℕ). IsVarint (take c.in_ok-len.count bytes) n) (sym size) c.in_ok-len.ensures.found,
      take_join c.in_ok-len.count (length c.split_at-2.result.0.now) bytes ∙ ap (λ (l : List ℕ). take c.in_ok-len.count bytes ++ l) part,
    )

pub returns-in_err-len-clause-again : goal.returns-in_err-len-clause-again
returns-in_err-len-clause-again c = rw c.from_residual.ensures (λ part rest is. field_there c.args.bytes.now part rest is (rw c.from_residual.ensures at (returns-in_err-len-clause-none c)))

pub returns-then-len-rest-clause-again : goal.returns-then-len-rest-clause-again
returns-then-len-rest-clause-again c = λ part rest is. field_there c.args.bytes.now part rest is (returns-then-len-rest-clause-none c)

pub returns-clause-again : goal.returns-clause-again
returns-clause-again c = λ part rest is. part_again c.args.bytes.now part rest c.split_at-2.result.0.now (c.in_ok-len.count + length c.split_at-2.result.0.now) is (omega (arith, c.split_at-2.ensures.front_len, c.if-len-rest.false, c.split_at.ensures.back_len, c.in_ok-len.ensures.length)) (returns-clause-found c)

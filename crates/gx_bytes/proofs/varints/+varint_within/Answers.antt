use Rattle.std.proofs.Common.{◌≡◌, ◌⊎◌, ◌≤◌, ◌^◌, inl, inr, arith}
use Rattle.gx_bytes.proofs.Spellings.{front_cases, none_from_rest}
use Rattle.gx_bytes.proofs.varints.+varint_within.Goals as goal
use Rattle.gx_bytes.proofs.varints.+varint_within.Goals.{then-high-eq0-via-then-high-eq0, then-high-eq0-via-else-high-eq0+then-high}

pub returns-in_err-high-clause-none : goal.returns-in_err-high-clause-none
returns-in_err-high-clause-none t c = rw c.from_residual-in_err-high.ensures (λ n len fits spelled.
    let parts = front_cases c.args.bytes.now c.in_ok-first.first.now c.in_ok-first.rest.now n len c.in_ok-first.ensures.cases.0 c.if-first-lt128.false spelled in
    c.in_err-high.ensures.none parts.1.high parts.0 (omega (arith, parts.1.is, fits)) parts.1.spelled)

pub returns-then-high-eq0-clause-none : goal.returns-then-high-eq0-clause-none
returns-then-high-eq0-clause-none t c =
    let bad : (c.in_ok-high.high ≡ 0) ⊎ (2 ^ 57 ≤ c.in_ok-high.high) = elim c.then-high-eq0.branch [
      | then-high-eq0-via-then-high-eq0 w ↦ inl (omega arith)
      | then-high-eq0-via-else-high-eq0+then-high w ↦ inr (omega arith)
    ] in
    λ n len fits spelled.
    none_from_rest c.args.bytes.now c.in_ok-first.first.now c.in_ok-first.rest.now n len c.in_ok-high.high c.in_ok-high.len c.in_ok-first.ensures.cases.0 c.if-first-lt128.false
    c.in_ok-high.ensures.found bad fits spelled

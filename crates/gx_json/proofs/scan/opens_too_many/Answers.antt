-- More stand open behind this byte.
use Rattle.std.proofs.Common.{◌+◌, ◌<◌, ℕ, refl, subst}
use Rattle.gx_json.specs.Scan.{OpensTooMany}
use Rattle.gx_json.proofs.RunLemmas.{opened_more}
use Rattle.gx_json.proofs.scan.opens_too_many.Goals as goal

pub returns-then-count-gt-MOST_OPEN : goal.returns-then-count-gt-MOST_OPEN
returns-then-count-gt-MOST_OPEN c =
    let here = opened_more c.args.plain.now c.loop-byte.byte-index c.loop-byte.count c.open_behind-count.result c.loop-byte-test.true c.loop-byte.invariant.0 c.open_behind-count.ensures in
    let found : OpensTooMany c.args.plain.now = (c.loop-byte.byte-index + 1, subst (λ (n : ℕ). 64 < n) here c.if-count-gt-MOST_OPEN.true) in
    (λ _. found, λ _. refl)

use Rattle.std.proofs.Common.{sym, ◌∙◌}
use Rattle.std.proofs.lemmas.Bool.{false≢true}
use Rattle.gx_posting.proofs.PostingFacts.{none_spelled, not_rising, passes_row, fewer_bytes, all_passed, some_left, none_left}
use Rattle.gx_posting.proofs.read.push_rows.Goals as goal

pub returns-in_default-clause-refused : goal.returns-in_default-clause-refused
returns-in_default-clause-refused c = λ done all s rising. none_spelled _ _ _ c.rows.before _ c.rows.invariant (some_left _ (sym c.is_empty.ensures ∙ c.rows-test.true)) c.in_default.ensures all s

pub returns-then-not-is_below-clause-refused : goal.returns-then-not-is_below-clause-refused
returns-then-not-is_below-clause-refused c =
    λ done all s rising. not_rising _ _ _ c.rows.before _ _ c.in-Some.row c.rows.invariant (some_left _ (sym c.is_empty.ensures ∙ c.rows-test.true)) c.in-Some.ensures.1 c.in-Some.ensures.2 (λ below. false≢true (c.if-not-is_below.ensures.1 below)) all s rising

pub rows-smaller : goal.rows-smaller
rows-smaller c = fewer_bytes _ _ c.rows.before c.in-Some.row c.in-Some.ensures.2

pub rows-preserved : goal.rows-preserved
rows-preserved c =
    passes_row _ _ _ _ c.rows.before _ _ c.in-Some.row c.rows.invariant c.in-Some.ensures.0 c.in-Some.ensures.1 c.in-Some.ensures.2 (c.is_below.ensures.0 c.if-not-is_below.false) c.in_ok-push.ensures.ok

pub returns-clause-read : goal.returns-clause-read
returns-clause-read c = λ done. all_passed _ _ _ c.rows.before _ c.rows.invariant (none_left _ (sym c.is_empty.ensures ∙ c.rows-test.false))

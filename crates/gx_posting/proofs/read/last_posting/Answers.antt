use Rattle.std.proofs.Common.{sym, ◌∙◌}
use Rattle.std.proofs.lemmas.Bool.{false≢true}
use Rattle.gx_posting.proofs.PostingFacts.{fewer_bytes, last_none, last_some, none_behind, none_left, not_behind, passed_more, passed_none, some_left}
use Rattle.gx_posting.proofs.read.last_posting.Goals as goal

pub rows-init : goal.rows-init
rows-init c = passed_none _

pub rows-smaller : goal.rows-smaller
rows-smaller c = fewer_bytes _ _ c.rows.before c.in-Some.row c.in-Some.ensures.2

pub rows-preserved : goal.rows-preserved
rows-preserved c = passed_more _ _ c.rows.before _ _ c.in-Some.row c.rows.invariant c.in-Some.ensures.0 c.in-Some.ensures.1 c.in-Some.ensures.2 (c.is_behind.ensures.0 c.if-not-is_behind.false)

pub returns-in_default-clause-none : goal.returns-in_default-clause-none
returns-in_default-clause-none c = none_behind _ _ c.rows.before _ c.rows.invariant (some_left _ (sym c.is_empty.ensures ∙ c.rows-test.true)) c.in_default.ensures

pub returns-then-not-is_behind-clause-none : goal.returns-then-not-is_behind-clause-none
returns-then-not-is_behind-clause-none c =
    not_behind _ _ c.rows.before _ _ c.in-Some.row c.rows.invariant (some_left _ (sym c.is_empty.ensures ∙ c.rows-test.true)) c.in-Some.ensures.1 c.in-Some.ensures.2 (λ above. false≢true (c.if-not-is_behind.ensures.1 above))

pub returns-clause-some : goal.returns-clause-some
returns-clause-some c = last_some _ _ c.rows.before _ c.rows.invariant (none_left _ (sym c.is_empty.ensures ∙ c.rows-test.false))

pub returns-clause-none : goal.returns-clause-none
returns-clause-none c = last_none _ _ c.rows.before _ c.rows.invariant (none_left _ (sym c.is_empty.ensures ∙ c.rows-test.false))

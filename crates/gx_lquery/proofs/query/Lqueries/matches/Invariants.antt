use Rattle.std.proofs.Common.{◌≡◌, ℕ, ◌<◌, get_or}
use Rattle.gx_lquery.specs.declared.query.Lquery.{Lquery}
use Rattle.gx_lquery.specs.Matching.{MatchesPath}
use Rattle.gx_lquery.proofs.query.Lqueries.matches.Given as goal

abbrev pub invariant-loop-query : goal.invariant-loop-query
invariant-loop-query l = (k : ℕ) (x : Lquery) → k < l.query-index → get_or l.query-items k x ≡ x → MatchesPath x.items l.path → ⊥

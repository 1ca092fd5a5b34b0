use Rattle.std.proofs.Common.{◌≡◌}
use Rattle.bench_rows.proofs.adding.add_rows.Given as goal

abbrev pub invariant-loop-number : goal.invariant-loop-number
invariant-loop-number g l = g.P.Pages.spoiled l.pages ≡ g.P.Pages.spoiled l.fn.pages

use Rattle.std.proofs.Common.{◌≡◌}
use Rattle.bench_storage.proofs.filling.put_pages.Given as goal

abbrev pub invariant-loop-number : goal.invariant-loop-number
invariant-loop-number g l = g.P.Pages.spoiled l.pages ≡ g.P.Pages.spoiled l.fn.pages

use Rattle.std.proofs.Common.{◌≡◌, false}
use Rattle.bench_storage.proofs.committing.commit_all.Given as goal

abbrev pub invariant-loop-round : goal.invariant-loop-round
invariant-loop-round g l = g.K.Pages.spoiled l.store ≡ false

use Rattle.std.proofs.Common.{◌≡◌, take}
use Rattle.gx_gist.specs.Split.{size_of}
use Rattle.gx_gist.proofs.SplitFacts.{AllEarly}
use Rattle.gx_gist.proofs.split.cut_at_half.Given as goal

abbrev pub invariant-loop-k : goal.invariant-loop-k
invariant-loop-k l = record {
  taken : l.taken ≡ size_of l.sizes (take l.k l.places);
  early : AllEarly l.sizes l.places l.k;
}

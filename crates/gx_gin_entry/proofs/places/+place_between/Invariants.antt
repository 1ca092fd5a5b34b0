use Rattle.std.proofs.Common.{◌-◌}
use Rattle.gx_gin_entry.proofs.places.+place_between.Given as goal

abbrev pub decreases-place_between : goal.decreases-place_between
decreases-place_between l = l.end - l.from

use Rattle.std.proofs.Common.{◌≡◌, reverse, take}
use Rattle.gx_disk.specs.Events.{told_of}
use Rattle.gx_disk.specs.Picks.{picked}
use Rattle.gx_disk.specs.Vectors.{image_of}
use Rattle.gx_disk.proofs.replay.replay.Given as goal

abbrev pub invariant-loop-event : goal.invariant-loop-event
invariant-loop-event l = record {
  told : image_of l.told ≡ told_of (image_of l.start) (reverse (take l.event-index l.events));
  left : image_of l.left ≡ picked l.pick (image_of l.start) (reverse (take l.event-index l.events));
}

-- What a pick takes is something that a crash may leave.
use Rattle.std.proofs.Common.{ℕ, List, [], ◌∷◌, length, refl, arith}
use Rattle.std.proofs.lemmas.List.{places}
use Rattle.gx_words.specs.Image.{Image, Torn}
use Rattle.gx_disk.specs.Areas.{TornIn}
use Rattle.gx_disk.specs.Events.{told_of, Leaves, LeavesAfter, torn_in_whole, torn_in_none}
use Rattle.gx_disk.specs.Picks.{filled, fill_in, picked, picked_after}
use Rattle.gx_disk.specs.declared.area.Area.{Area}
use Rattle.gx_disk.specs.declared.area.Area.TheVariants.{Pages, Log}
use Rattle.gx_disk.specs.declared.event.Change.{Change}
use Rattle.gx_disk.specs.declared.event.Change.TheVariants.{Write, FailedWrite, Sync, Answer}
use Rattle.gx_disk.specs.declared.event.Event.{Event}
use Rattle.gx_disk.specs.declared.image.Pick.{Pick}
use Rattle.gx_disk.specs.declared.image.Pick.TheVariants.{Nothing, All, Filled}

torn_filled : (old : List ℕ) (at n : ℕ) → Torn at n old (filled old at n)
torn_filled old at n = record {
  no_shorter = grind (arith, places);
  no_longer = grind (arith, places);
  outside = λ k within apart. grind (arith, places, apart);
}

torn_in_filled : (area : Area) (at n : ℕ) (image : Image) → TornIn area at n image (fill_in area at n image)
torn_in_filled Pages at n image = (torn_filled image.pages at n, refl)
torn_in_filled Log at n image = (torn_filled image.log at n, refl)

leaves_after : (pick : Pick) (change : Change) (told image : Image) (images : Image → Type 0) → images image → LeavesAfter change told images (picked_after pick change told image)
leaves_after Nothing (Write area at bytes) told image images left = (image, left, torn_in_none area at (length bytes.items) image)
leaves_after All (Write area at bytes) told image images left = (image, left, torn_in_whole area at bytes.items image)
leaves_after Filled (Write area at bytes) told image images left = (image, left, torn_in_filled area at (length bytes.items) image)
leaves_after Nothing (FailedWrite area at n) told image images left = (image, left, torn_in_none area at n image)
leaves_after All (FailedWrite area at n) told image images left = (image, left, torn_in_none area at n image)
leaves_after Filled (FailedWrite area at n) told image images left = (image, left, torn_in_filled area at n image)
leaves_after pick (Sync area) told image images left = (image, left, refl)
leaves_after pick (Answer bytes) told image images left = left

pub picked_left : (pick : Pick) (start : Image) (events : List Event) → Leaves start events (picked pick start events)
picked_left pick start [] = refl
picked_left pick start (event ∷ events) = leaves_after pick event.change (told_of start events) (picked pick start events) (Leaves start events) (picked_left pick start events)

-- The image that a pick takes of those which a crash may leave.
use Rattle.std.specs.Prelude.{ℕ, ◌+◌, ◌-◌, List, [], ◌∷◌, ◌++◌, length, take, drop, replicate}
use Rattle.gx_words.specs.Image.{Image}
use Rattle.gx_disk.specs.Areas.{area_of, with_area, write_in}
use Rattle.gx_disk.specs.Events.{told_of}
use Rattle.gx_disk.specs.declared.area.Area.{Area}
use Rattle.gx_disk.specs.declared.event.Change.{Change}
use Rattle.gx_disk.specs.declared.event.Change.TheVariants.{Write, FailedWrite, Sync, Answer}
use Rattle.gx_disk.specs.declared.event.Event.{Event}
use Rattle.gx_disk.specs.declared.image.Pick.{Pick}
use Rattle.gx_disk.specs.declared.image.Pick.TheVariants.{Nothing, All, Filled}

-- all lengths arrived, and each byte in the range and past the old end is 255
abbrev pub filled : List ℕ → ℕ → ℕ → List ℕ
filled old at n = take at (old ++ replicate (at - length old) 255) ++ replicate n 255 ++ drop (at + n) old

abbrev pub fill_in : Area → ℕ → ℕ → Image → Image
fill_in area at n image = with_area area (filled (area_of area image) at n) image

-- what a write makes of the image, and what one that failed does
abbrev pub picked_write : Pick → Area → ℕ → List ℕ → Image → Image
picked_write Nothing area at bytes image = image
picked_write All area at bytes image = write_in area at bytes image
picked_write Filled area at bytes image = fill_in area at (length bytes) image

abbrev pub picked_failed : Pick → Area → ℕ → ℕ → Image → Image
picked_failed Nothing area at n image = image
picked_failed All area at n image = image
picked_failed Filled area at n image = fill_in area at n image

-- what a change makes of the image, beside what is read
abbrev pub picked_after : Pick → Change → Image → Image → Image
picked_after pick (Write area at bytes) told image = picked_write pick area at bytes.items image
picked_after pick (FailedWrite area at n) told image = picked_failed pick area at n image
picked_after pick (Sync area) told image = with_area area (area_of area told) image
picked_after pick (Answer bytes) told image = image

abbrev pub picked : Pick → Image → List Event → Image
picked pick start [] = start
picked pick start (event ∷ events) = picked_after pick event.change (told_of start events) (picked pick start events)

-- One area of an image.
use Rattle.std.specs.Prelude.{◌≡◌, ℕ, List}
use Rattle.gx_words.specs.Image.{Image, written, Torn}
use Rattle.gx_disk.specs.declared.area.Area.{Area}
use Rattle.gx_disk.specs.declared.area.Area.TheVariants.{Pages, Log}

abbrev pub area_of : Area → Image → List ℕ
area_of Pages image = image.pages
area_of Log image = image.log

abbrev pub with_area : Area → List ℕ → Image → Image
with_area Pages bytes image = record { pages = bytes; log = image.log }
with_area Log bytes image = record { pages = image.pages; log = bytes }

-- a write in one area, cut short, and nothing in the other
abbrev pub TornIn : Area → ℕ → ℕ → Image → Image → Type 0
TornIn Pages at n old new = Torn at n old.pages new.pages × (new.log ≡ old.log)
TornIn Log at n old new = Torn at n old.log new.log × (new.pages ≡ old.pages)

-- a whole write in one area
abbrev pub write_in : Area → ℕ → List ℕ → Image → Image
write_in area at bytes image = with_area area (written (area_of area image) at bytes) image

-- after a sync of an area a crash leaves there what a read gives
abbrev pub SyncedIn : Area → Image → Image → Image → Type 0
SyncedIn area told old new = new ≡ with_area area (area_of area told) old

-- nothing is pending in this area: each image has there what a read gives
abbrev pub Settled : Area → Image → (Image → Type 0) → Type 0
Settled area told images = (c : Image) → images c → area_of area c ≡ area_of area told

-- What the calls of a log leave of a disk.
use Rattle.std.specs.Prelude.{◌≡◌, ◌⊎◌, ℕ, ◌+◌, ◌≤◌, ◌↔◌, List, ◌++◌, length, Option}
use Rattle.gx_words.specs.Image.{Image, written}
use Rattle.gx_words.specs.Moments.{Through}
use Rattle.gx_disk.specs.Areas.{TornIn, Settled}
use Rattle.gx_disk.specs.declared.area.Area.TheVariants.{Log}
use Rattle.gx_disk.specs.declared.disk.Disk.{Ghosts}
use Rattle.gx_log.specs.Records.{Record, Stands, opened, laid_all, piece, HasPages}

-- at each moment from one state of the disk to a later one a crash leaves an image that has P, and nothing is answered
abbrev pub Leaves : {D : Type 0} → Ghosts D → (Image → Type 0) → D → D → Type 0
Leaves g P old new = Through g.moment g.may_have_left_since old new (λ m. P m.image × (m.bytes ≡ (g.said old).bytes))

-- what calls leave that only read
pub record Reads {D : Type 0} (g : Ghosts D) (old new : D) : Type 0 where
  pub told : g.told new ≡ g.told old
  pub images : (c : Image) → g.now_may_leave new c ↔ g.now_may_leave old c
  pub time : Leaves g (g.now_may_leave old) old new
  pub said : g.said new ≡ g.said old
  pub faults : g.faults old ≤ g.faults new

-- an image of before, with a write of n bytes in the log that may be cut short
abbrev pub FromWrite : {D : Type 0} → Ghosts D → D → ℕ → ℕ → Image → Type 0
FromWrite g old at n c = (d : Image) × g.now_may_leave old d × TornIn Log at n d c

-- what writes leave that together write n bytes of the log, one behind another
pub record Writes {D : Type 0} (g : Ghosts D) (at n : ℕ) (old new : D) : Type 0 where
  pub images : (c : Image) → g.now_may_leave new c → FromWrite g old at n c
  pub time : Leaves g (FromWrite g old at n) old new
  pub torn : g.tells → TornIn Log at n (g.told old) (g.told new)
  pub said : g.said new ≡ g.said old
  pub faults : g.faults old ≤ g.faults new

-- Of bytes that weren't written yet a front was written at this place, and the others are left; the log goes on there.
pub record Poured {D : Type 0} (g : Ghosts D) (place later : ℕ) (before after : List ℕ) (old new : D) : Type 0 where
  pub front : List ℕ
  pub split : before ≡ front ++ after
  pub goes_on : later ≡ place + length front
  pub writes : Writes g place (length front) old new
  pub told : g.tells → place ≤ length (g.told old).log → (g.told new).log ≡ written (g.told old).log place front

-- The log as read is these records, which end at the front, and behind them a gate that isn't open; and all of it is
-- on the disk.
pub record IsAtRest {D : Type 0} (g : Ghosts D) (front : ℕ) (disk : D) (records : List Record) : Type 0 where
  pub stands : Stands records (g.told disk).log
  pub at_front : front ≡ length (opened records)
  pub settled : Settled Log (g.told disk) (g.now_may_leave disk)

-- an image of before in the area Pages, whose log has the records of before or of after
abbrev pub BeforeOrAfter : {D : Type 0} → Ghosts D → D → List Record → List Record → Image → Type 0
BeforeOrAfter g old before after c =
    ((d : Image) × g.now_may_leave old d × (c.pages ≡ d.pages)) × (Stands before c.log ⊎ Stands after c.log)

-- each page that stands in the records stands so in the area Pages too, in each image
abbrev pub InPlace : {D : Type 0} → Ghosts D → D → List Record → Type 0
InPlace g disk records = (c : Image) (page : ℕ) → g.now_may_leave disk c → laid_all (piece c.pages page) page records ≡ piece c.pages page

-- the pages of an image of before
abbrev pub SamePages : {D : Type 0} → Ghosts D → D → Image → Type 0
SamePages g old c = (d : Image) × g.now_may_leave old d × ((map : ℕ → Option (List ℕ)) → HasPages d map → HasPages c map)

-- an image of before, in which the log, or both areas, may be what was read then
abbrev pub Synced : {D : Type 0} → Ghosts D → D → Image → Type 0
Synced g old c = (d : Image) × g.now_may_leave old d × ((c ≡ d) ⊎ ((c ≡ record { pages = d.pages; log = (g.told old).log }) ⊎ (c ≡ g.told old)))

-- Both areas are torn and synced apart: so of two images that a crash may leave, the pages of one with the log of the other are one too.
use Rattle.std.proofs.Common.{List, [], ◌∷◌, sym, ◌∙◌, ap, subst}
use Rattle.gx_words.specs.Image.{Image}
use Rattle.gx_disk.specs.Events.{told_of, Leaves, LeavesAfter, told_stays}
use Rattle.gx_disk.specs.declared.area.Area.{Area}
use Rattle.gx_disk.specs.declared.area.Area.TheVariants.{Pages, Log}
use Rattle.gx_disk.specs.declared.event.Change.{Change}
use Rattle.gx_disk.specs.declared.event.Change.TheVariants.{Write, FailedWrite, Sync, Answer}
use Rattle.gx_disk.specs.declared.event.Event.{Event}

abbrev mix : Image → Image → Image
mix a b = record { pages = a.pages; log = b.log }

mixed_after : (change : Change) (told : Image) (images : Image → Type 0) → ((a b : Image) → images a → images b → images (mix a b))
    → (a b : Image) → LeavesAfter change told images a → LeavesAfter change told images b → LeavesAfter change told images (mix a b)
mixed_after (Write Pages at bytes) told images closed a b left right = (mix left.0 right.0, closed left.0 right.0 left.1 right.1, (left.2.0, right.2.1))
mixed_after (Write Log at bytes) told images closed a b left right = (mix left.0 right.0, closed left.0 right.0 left.1 right.1, (right.2.0, left.2.1))
mixed_after (FailedWrite Pages at n) told images closed a b left right = (mix left.0 right.0, closed left.0 right.0 left.1 right.1, (left.2.0, right.2.1))
mixed_after (FailedWrite Log at n) told images closed a b left right = (mix left.0 right.0, closed left.0 right.0 left.1 right.1, (right.2.0, left.2.1))
mixed_after (Sync Pages) told images closed a b left right =
    (mix left.0 right.0, closed left.0 right.0 left.1 right.1, ap (λ (x : Image). mix x b) left.2 ∙ ap (λ (y : Image). record { pages = told.pages; log = y.log }) right.2)
mixed_after (Sync Log) told images closed a b left right =
    (mix left.0 right.0, closed left.0 right.0 left.1 right.1, ap (λ (x : Image). mix x b) left.2 ∙ ap (λ (y : Image). record { pages = left.0.pages; log = y.log }) right.2)
mixed_after (Answer bytes) told images closed a b left right = closed a b left right

mixed : (start : Image) (events : List Event) (a b : Image) → Leaves start events a → Leaves start events b → Leaves start events (mix a b)
mixed start [] a b left right = ap (λ (x : Image). mix x b) left ∙ ap (λ (y : Image). mix start y) right
mixed start (event ∷ events) a b left right = mixed_after event.change (told_of start events) (Leaves start events) (mixed start events) a b left right

-- what a sync leaves could be left before
pub synced_before : (start : Image) (events : List Event) (area : Area) (c : Image) → LeavesAfter (Sync area) (told_of start events) (Leaves start events) c → Leaves start events c
synced_before start events Pages c left =
    subst (λ (i : Image). Leaves start events i) (sym left.2) (mixed start events (told_of start events) left.0 (told_stays start events) left.1)
synced_before start events Log c left =
    subst (λ (i : Image). Leaves start events i) (sym left.2) (mixed start events left.0 (told_of start events) left.1 (told_stays start events))

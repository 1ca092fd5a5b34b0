-- What the kept events of a host in memory stand for. The lists have the newest event first.
use Rattle.std.specs.Prelude.{◌≡◌, ◌⊎◌, ◌<◌, ℕ, ◌+◌, ◌≤◌, List, [], ◌∷◌, ◌++◌, length, refl, nat_lt, if◌then◌else◌}
use Rattle.std.proofs.Common.{inl, inr, sym, ap, subst, arith, Bool, true, false, cond}
use Rattle.std.proofs.lemmas.List.{places}
use Rattle.gx_words.specs.Image.{Image, Torn, written}
use Rattle.gx_words.specs.Moments.{Moment, Now, Saying}
use Rattle.gx_disk.specs.Areas.{TornIn, write_in, SyncedIn}
use Rattle.gx_disk.specs.declared.area.Area.{Area}
use Rattle.gx_disk.specs.declared.area.Area.TheVariants.{Pages, Log}
use Rattle.gx_disk.specs.declared.event.Change.{Change}
use Rattle.gx_disk.specs.declared.event.Change.TheVariants.{Write, FailedWrite, Sync, Answer}
use Rattle.gx_disk.specs.declared.event.Event.{Event}

-- both areas as they are read
abbrev pub told_after : Change → Image → Image
told_after (Write area at bytes) told = write_in area at bytes.items told
told_after (FailedWrite area at n) told = told
told_after (Sync area) told = told
told_after (Answer bytes) told = told

abbrev pub told_of : Image → List Event → Image
told_of start [] = start
told_of start (event ∷ events) = told_after event.change (told_of start events)

-- what a crash then may leave
abbrev pub LeavesAfter : Change → Image → (Image → Type 0) → Image → Type 0
LeavesAfter (Write area at bytes) told images c = (d : Image) × images d × TornIn area at (length bytes.items) d c
LeavesAfter (FailedWrite area at n) told images c = (d : Image) × images d × TornIn area at n d c
LeavesAfter (Sync area) told images c = (d : Image) × images d × SyncedIn area told d c
LeavesAfter (Answer bytes) told images c = images c

abbrev pub Leaves : Image → List Event → Image → Type 0
Leaves start [] c = c ≡ start
Leaves start (event ∷ events) c = LeavesAfter event.change (told_of start events) (Leaves start events) c

-- the bytes answered by then
abbrev pub said_after : Change → List ℕ → List ℕ
said_after (Write area at bytes) said = said
said_after (FailedWrite area at n) said = said
said_after (Sync area) said = said
said_after (Answer bytes) said = said ++ bytes.items

abbrev pub said_of : List Event → List ℕ
said_of [] = []
said_of (event ∷ events) = said_after event.change (said_of events)

-- the moments during a change: while bytes are answered, some front of them is
abbrev pub During : Change → (Image → Type 0) → List ℕ → Moment Image → Type 0
During (Write area at bytes) images said m = Now images said m
During (FailedWrite area at n) images said m = Now images said m
During (Sync area) images said m = Now images said m
During (Answer bytes) images said m = Saying images said bytes.items m

-- the moments since t: at the start, during each event, and after it
abbrev pub Since : Image → List Event → ℕ → Moment Image → Type 0
Since start [] t m = (t ≤ 0) × Now (Leaves start []) [] m
Since start (event ∷ events) t m = ((t ≤ length events) × During event.change (Leaves start (event ∷ events)) (said_of events) m)
    ⊎ (((t ≤ length events + 1) × Now (Leaves start (event ∷ events)) (said_of (event ∷ events)) m) ⊎ Since start events t m)

-- what the events were after so many disk calls
abbrev pub until : ℕ → List Event → List Event
until calls [] = []
until calls (event ∷ events) = if nat_lt calls event.calls then until calls events else event ∷ events

torn_whole : (old : List ℕ) (at : ℕ) (bytes : List ℕ) → Torn at (length bytes) old (written old at bytes)
torn_whole old at bytes = record {
  no_shorter = grind (arith, places);
  no_longer = grind (arith, places);
  outside = λ k within apart. grind (arith, places, apart);
}

torn_none : (old : List ℕ) (at n : ℕ) → Torn at n old old
torn_none old at n = record { no_shorter = omega arith; no_longer = omega arith; outside = λ k within apart. refl }

pub torn_in_whole : (area : Area) (at : ℕ) (bytes : List ℕ) (told : Image) → TornIn area at (length bytes) told (write_in area at bytes told)
torn_in_whole Pages at bytes told = (torn_whole told.pages at bytes, refl)
torn_in_whole Log at bytes told = (torn_whole told.log at bytes, refl)

pub torn_in_none : (area : Area) (at n : ℕ) (told : Image) → TornIn area at n told told
torn_in_none Pages at n told = (torn_none told.pages at n, refl)
torn_in_none Log at n told = (torn_none told.log at n, refl)

pub synced_told : (area : Area) (told : Image) → SyncedIn area told told told
synced_told Pages told = refl
synced_told Log told = refl

stays_after : (change : Change) (told : Image) (images : Image → Type 0) → images told → LeavesAfter change told images (told_after change told)
stays_after (Write area at bytes) told images stays = (told, stays, torn_in_whole area at bytes.items told)
stays_after (FailedWrite area at n) told images stays = (told, stays, torn_in_none area at n told)
stays_after (Sync area) told images stays = (told, stays, synced_told area told)
stays_after (Answer bytes) told images stays = stays

-- what is read is one of the images
pub told_stays : (start : Image) (events : List Event) → Leaves start events (told_of start events)
told_stays start [] = refl
told_stays start (event ∷ events) = stays_after event.change (told_of start events) (Leaves start events) (told_stays start events)

pub counts : (start : Image) (events : List Event) (t : ℕ) (m : Moment Image) → t ≤ length events → Now (Leaves start events) (said_of events) m → Since start events t m
counts start [] t m le now = (le, now)
counts start (event ∷ events) t m le now = inr (inl (omega (arith, le), now))

none_later : (start : Image) (events : List Event) (t : ℕ) (m : Moment Image) → length events < t → Since start events t m → ⊥
none_later start [] t m later left = omega (arith, left.0)
none_later start (event ∷ events) t m later (inl during) = omega (arith, during.0)
none_later start (event ∷ events) t m later (inr (inl after)) = omega (arith, after.0)
none_later start (event ∷ events) t m later (inr (inr before)) = none_later start events t m (omega (arith, later)) before

-- since the last event there is what is now
pub only : (start : Image) (events : List Event) (m : Moment Image) → Since start events (length events) m → Now (Leaves start events) (said_of events) m
only start [] m left = left.1
only start (event ∷ events) m (inl during) = absurd (omega (arith, during.0))
only start (event ∷ events) m (inr (inl after)) = after.1
only start (event ∷ events) m (inr (inr before)) = absurd (none_later start events (length (event ∷ events)) m (omega arith) before)

cases_bool : (b : Bool) → (b ≡ true) ⊎ (b ≡ false)
cases_bool true = inl refl
cases_bool false = inr refl

-- what was left earlier counts among the moments since the start
pub earlier : (start : Image) (calls : ℕ) (events : List Event) (c : Image) → Leaves start (until calls events) c
    → Since start events 0 (record { image = c; bytes = said_of (until calls events) })
earlier start calls [] c left = (omega arith, (left, refl))
earlier start calls (event ∷ events) c left =
    elim (cases_bool (nat_lt calls event.calls)) [
      | inl skipped ↦
          let same : until calls (event ∷ events) ≡ until calls events = ap (λ (b : Bool). cond b (until calls events) (event ∷ events)) skipped in
          inr (inr (subst (λ (l : List Event). Since start events 0 (record { image = c; bytes = said_of l })) (sym same)
          (earlier start calls events c (subst (λ (l : List Event). Leaves start l c) same left))))
      | inr kept ↦
          let same : until calls (event ∷ events) ≡ event ∷ events = ap (λ (b : Bool). cond b (until calls events) (event ∷ events)) kept in
          inr (inl (omega arith, (subst (λ (l : List Event). Leaves start l c) same left, ap said_of same)))
    ]

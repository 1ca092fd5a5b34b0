-- What a host in memory is seen as.
use Rattle.std.specs.Prelude.{◌≡◌, ◌≤◌, ℕ, List, [], refl, length, reverse}
use Rattle.gx_words.specs.Causes.{Said}
use Rattle.gx_words.specs.Image.{Image}
use Rattle.gx_words.specs.Moments.{Moment, Now}
use Rattle.gx_disk.specs.Events.{Leaves, Since, said_of, told_stays, counts, only}
use Rattle.gx_disk.specs.Vectors.{image_of}
use Rattle.gx_disk.specs.declared.event.Event.{Event}
use Rattle.gx_disk.specs.declared.memory.MemoryHost.{MemoryHost}
use Rattle.std.proofs.Common.{subst}

abbrev pub host_start : MemoryHost → Image
host_start h = image_of h.start

-- both areas as they are read
abbrev pub host_told : MemoryHost → Image
host_told h = image_of h.told

-- the events, the newest first
abbrev pub host_events : MemoryHost → List Event
host_events h = reverse h.events.items

abbrev pub host_leaves : MemoryHost → Image → Type 0
host_leaves h = Leaves (host_start h) (host_events h)

abbrev pub host_moment : MemoryHost → ℕ
host_moment h = length (host_events h)

abbrev pub host_since : MemoryHost → ℕ → Moment Image → Type 0
host_since h = Since (host_start h) (host_events h)

abbrev pub host_said : MemoryHost → Said
host_said h = record { bytes = h.answered; faults = h.answer_faults }

-- A host that starts with these bytes synced, and with no calls and no faults.
pub record IsFresh (pages_bytes log_bytes listed listed_answers : List ℕ) (h : MemoryHost) : Type 0 where
  pub start : host_start h ≡ record { pages = pages_bytes; log = log_bytes }
  pub told : host_told h ≡ record { pages = pages_bytes; log = log_bytes }
  pub events : host_events h ≡ []
  pub answered : h.answered ≡ []
  pub failing : h.failing.items ≡ listed
  pub failing_answers : h.failing_answers.items ≡ listed_answers
  pub calls : h.calls ≡ 0
  pub answers : h.answers ≡ 0
  pub faults : h.faults ≡ 0
  pub answer_faults : h.answer_faults ≡ 0
  pub refused : h.refused ≡ 0

-- What no call changes.
pub record KeepsLists (old new : MemoryHost) : Type 0 where
  pub start : host_start new ≡ host_start old
  pub failing : new.failing.items ≡ old.failing.items
  pub failing_answers : new.failing_answers.items ≡ old.failing_answers.items

pub host_stays : (h : MemoryHost) → host_leaves h (host_told h)
host_stays h = subst (host_leaves h) h.replayed (told_stays (host_start h) (host_events h))

pub host_counts : (h : MemoryHost) (t : ℕ) (c : Image) → t ≤ host_moment h → host_leaves h c → host_since h t (record { image = c; bytes = h.answered })
host_counts h t c le left =
    subst (λ (said : List ℕ). host_since h t (record { image = c; bytes = said })) h.spoken (counts (host_start h) (host_events h) t (record { image = c; bytes = said_of (host_events h) }) le (left, refl))

pub host_only : (h : MemoryHost) (m : Moment Image) → host_since h (host_moment h) m → Now (host_leaves h) h.answered m
host_only h m left = subst (λ (said : List ℕ). Now (host_leaves h) said m) h.spoken (only (host_start h) (host_events h) m left)

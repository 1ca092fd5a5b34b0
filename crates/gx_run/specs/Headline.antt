-- What a run leaves: at any moment, and at its end. The words are generic over what a crash leaves, which is an image of
-- the disk, or a committed map of a store.
use Rattle.std.specs.Prelude.{◌≡◌, ◌⊎◌, ℕ, ◌+◌, ◌≤◌, Bool, List, [], ◌∷◌, ◌++◌, length, take, Result, Ok, Err}
use Rattle.gx_words.specs.Moments.{Moment}
use Rattle.gx_model.specs.Database.{Database}
use Rattle.gx_model.specs.Runs.{State, Done, committed_after, text_of}
use Rattle.gx_run.specs.declared.stop.Stop.{Stop}
use Rattle.gx_run.specs.declared.stop.Stop.TheVariants.{Answer, Disk, Memory, Broken}

-- At this moment a crash leaves what the first k pieces committed, and what was answered since the call began is a
-- front of their replies.
pub record AnyMoment {C : Type 0} (stands : C → Database → Type 0) (from : State) (before : List ℕ) (dones : List Done) (m : Moment C) : Type 0 where
  pub k : ℕ
  pub within : k ≤ length dones
  pub left : stands m.image (committed_after from (take k dones))
  pub n : ℕ
  pub answered : m.bytes ≡ before ++ take n (text_of (take k dones))

-- Whatever a crash leaves stands for this database.
abbrev pub AllStand : {C : Type 0} → (C → Database → Type 0) → (C → Type 0) → Database → Type 0
AllStand {C} stands leaves db = (c : C) → leaves c → stands c db

-- Every piece was done, and its reply was answered; whatever a crash leaves stands for what they committed.
pub record Whole {C : Type 0} (stands : C → Database → Type 0) (leaves : C → Type 0) (from : State) (count : ℕ) (dones : List Done) (before now : List ℕ) : Type 0 where
  pub all : length dones ≡ count
  pub answered : now ≡ before ++ text_of dones
  pub left : AllStand stands leaves (committed_after from dones)

-- The disk failed in a piece or behind it: the replies of the pieces before were answered, and whatever a crash leaves
-- stands for what was committed before that piece, or with it.
pub record DiskFailed {C : Type 0} (stands : C → Database → Type 0) (leaves : C → Type 0) (from : State) (dones : List Done) (before now : List ℕ) : Type 0 where
  pub k : ℕ
  pub least : k ≤ length dones
  pub most : length dones ≤ k + 1
  pub answered : now ≡ before ++ text_of (take k dones)
  pub left : (c : C) → leaves c → stands c (committed_after from (take k dones)) ⊎ stands c (committed_after from dones)

-- The last reply was answered in part.
pub record AnswerFailed {C : Type 0} (stands : C → Database → Type 0) (leaves : C → Type 0) (from : State) (dones : List Done) (before now : List ℕ) : Type 0 where
  pub earlier : List Done
  pub last : Done
  pub are : dones ≡ earlier ++ last ∷ []
  pub n : ℕ
  pub answered : now ≡ before ++ (text_of earlier ++ take n last.reply.bytes)
  pub left : AllStand stands leaves (committed_after from dones)

-- There was no memory: the replies so far were answered.
pub record LackedMemory {C : Type 0} (stands : C → Database → Type 0) (leaves : C → Type 0) (from : State) (dones : List Done) (before now : List ℕ) : Type 0 where
  pub answered : now ≡ before ++ text_of dones
  pub left : AllStand stands leaves (committed_after from dones)

abbrev pub EndsSo : {C : Type 0} → (C → Database → Type 0) → (C → Type 0) → State → ℕ → List Done → List ℕ → List ℕ → Result Bool Stop → Type 0
EndsSo stands leaves from count dones before now (Ok refused) = Whole stands leaves from count dones before now
EndsSo stands leaves from count dones before now (Err Answer) = AnswerFailed stands leaves from dones before now
EndsSo stands leaves from count dones before now (Err Disk) = DiskFailed stands leaves from dones before now
EndsSo stands leaves from count dones before now (Err Memory) = LackedMemory stands leaves from dones before now
EndsSo stands leaves from count dones before now (Err (Broken page expected found)) = ⊥

-- What a crash may leave, and how that goes on with time. The words are generic over what is left: an image of a
-- disk, or the committed pages of a store.
use Rattle.std.specs.Prelude.{◌≡◌, ◌⊎◌, ℕ, ◌≤◌, List, ◌++◌, take}

-- One moment: something that a crash then may leave, and the bytes answered to the outside by then.
pub record Moment (C : Type 0) : Type 0 where
  pub image : C
  pub bytes : List ℕ

-- Each new image is an old one after a step.
abbrev pub Follows : {C : Type 0} → (C → C → Type 0) → (C → Type 0) → (C → Type 0) → Type 0
Follows {C} step old new = (c : C) → new c → (d : C) × old d × step d c

-- Each old image after each step is a new one.
abbrev pub Reaches : {C : Type 0} → (C → C → Type 0) → (C → Type 0) → (C → Type 0) → Type 0
Reaches {C} step old new = (c d : C) → old d → step d c → new c

-- Each old image is a new one.
abbrev pub Keeps : {C : Type 0} → (C → Type 0) → (C → Type 0) → Type 0
Keeps {C} old new = (c : C) → old c → new c

-- A moment with one of these images, at which just these bytes were answered.
abbrev pub Now : {C : Type 0} → (C → Type 0) → List ℕ → Moment C → Type 0
Now images bytes m = images m.image × (m.bytes ≡ bytes)

-- A moment with one of these images, at which these bytes and a front of more were answered.
abbrev pub Saying : {C : Type 0} → (C → Type 0) → List ℕ → List ℕ → Moment C → Type 0
Saying images bytes more m = images m.image × ((n : ℕ) × (m.bytes ≡ bytes ++ take n more))

-- Time goes on in one call, from the number before to the number now. The moments since an earlier time t are those
-- that they were, all of them, and some of these, each of which counts since every moment up to the one before.
pub record Elapses {M : Type 0} (before now : ℕ) (past since : ℕ → M → Type 0) (these : M → Type 0) : Type 0 where
  pub later : before ≤ now
  pub nothing_else : (t : ℕ) (m : M) → t ≤ before → since t m → past t m ⊎ (these m × ((u : ℕ) → u ≤ before → since u m))
  pub keeps : (t : ℕ) (m : M) → t ≤ before → past t m → since t m

-- In a run of calls, from one state of an object to a later one, each moment has P, and counts since every moment up
-- to the first state's.
pub record Through {D M : Type 0} (moment : D → ℕ) (since : D → ℕ → M → Type 0) (old new : D) (P : M → Type 0) : Type 0 where
  pub later : moment old ≤ moment new
  pub each : (t : ℕ) (m : M) → t ≤ moment old → since new t m → since old t m ⊎ (P m × ((u : ℕ) → u ≤ moment old → since new u m))
  pub keeps : (t : ℕ) (m : M) → t ≤ moment old → since old t m → since new t m

-- In a run of calls time goes on, and no moment is taken back.
pub record Goes {D M : Type 0} (moment : D → ℕ) (since : D → ℕ → M → Type 0) (old new : D) : Type 0 where
  pub later : moment old ≤ moment new
  pub keeps : (t : ℕ) (m : M) → t ≤ moment old → since old t m → since new t m

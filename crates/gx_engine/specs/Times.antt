-- Moments from one state of an object to a later one.
use Rattle.std.specs.Prelude.{ℕ}
use Rattle.gx_words.specs.Moments.{Elapses}

-- time goes on from one state to another, and each new moment has P
abbrev pub Between : {D M : Type 0} → (D → ℕ) → (D → ℕ → M → Type 0) → D → D → (M → Type 0) → Type 0
Between moment since old new P = Elapses (moment old) (moment new) (since old) (since new) P

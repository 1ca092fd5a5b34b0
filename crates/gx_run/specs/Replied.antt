-- The last reply of a run.
use Rattle.std.specs.Prelude.{ℕ, List, [], ◌∷◌}
use Rattle.gx_model.specs.Runs.{Done}

-- the later of two replies: the bytes of this one, or the earlier bytes where it has none
abbrev pub later_reply : List ℕ → List ℕ → List ℕ
later_reply last [] = last
later_reply last (b ∷ bs) = b ∷ bs

-- the bytes of the last reply that has some, or the earlier bytes where there is none
abbrev pub last_reply : List ℕ → List Done → List ℕ
last_reply last [] = last
last_reply last (done ∷ dones) = last_reply (later_reply last done.reply.bytes) dones

-- Unsigned LEB128 numbers, shortest spelling only, and fields of a length and so many bytes.
use Rattle.std.specs.Prelude.{◌≡◌, ℕ, zero, suc, ◌+◌, ◌*◌, ◌/◌, ◌%◌, ◌<◌, ◌≤◌, nat_lt, List, [], ◌∷◌, ◌++◌, length, if◌then◌else◌}

-- A byte below 128 is the last, and stands for itself. One from 128 on has the low seven bits, and the bytes after it
-- stand for the rest, which isn't 0: so each number has one spelling, the shortest.
abbrev pub IsVarint : List ℕ → ℕ → Type 0
IsVarint [] n = ⊥
IsVarint (b ∷ []) n = (b < 128) × (n ≡ b)
IsVarint (b ∷ c ∷ bytes) n = (128 ≤ b) × (b < 256) × (high : ℕ) × (0 < high) × (n + 128 ≡ b + 128 * high) × IsVarint (c ∷ bytes) high

-- a number below 128 is one byte; else its low seven bits and 128 come before the bytes of the rest, in at most k bytes and one
abbrev pub groups : ℕ → ℕ → List ℕ
groups zero n = n ∷ []
groups (suc k) n = if nat_lt n 128 then n ∷ [] else (128 + n % 128) ∷ groups k (n / 128)

-- the spelling of a number
unfoldable pub varint_bytes : ℕ → List ℕ
varint_bytes n = groups n n

-- new is old with the spelling of the number at its end
abbrev pub AppendsVarint : List ℕ → List ℕ → ℕ → Type 0
AppendsVarint old new n = (bytes : List ℕ) × IsVarint bytes n × (new ≡ old ++ bytes)

-- the length as a varint, and then the part
abbrev pub IsField : List ℕ → List ℕ → Type 0
IsField bytes part = (count : List ℕ) × IsVarint count (length part) × (bytes ≡ count ++ part)

-- the field of a part
unfoldable pub field_bytes : List ℕ → List ℕ
field_bytes part = varint_bytes (length part) ++ part

-- new is old with the field of this part at its end
abbrev pub AppendsField : List ℕ → List ℕ → List ℕ → Type 0
AppendsField old new part = (bytes : List ℕ) × IsField bytes part × (new ≡ old ++ bytes)

-- new is old with more bytes at its end
abbrev pub Extends : List ℕ → List ℕ → Type 0
Extends old new = (more : List ℕ) × (new ≡ old ++ more)

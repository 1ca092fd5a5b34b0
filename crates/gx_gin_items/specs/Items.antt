-- Items that are kept short, and numbers as items.
use Rattle.std.specs.Prelude.{ℕ, ◌+◌, Bool, List, ◌∷◌, ◌++◌, length, take, nat_lt, if◌then◌else◌}
use Rattle.byteorder.specs.Endian.{big_bytes}
use Rattle.gx_bytes.specs.Hash.{hash_from}

-- FNV-1a on 32 bits
abbrev pub hash_of : List ℕ → ℕ
hash_of bytes = hash_from 2166136261 bytes

-- an item of more than 1,900 bytes
abbrev pub is_long : List ℕ → Bool
is_long item = nat_lt 1900 (length item)

-- `H` (72), the first byte, and the hash in four bytes, the highest first
abbrev pub hashed : List ℕ → List ℕ
hashed item = 72 ∷ (take 1 item ++ big_bytes 4 (hash_of item))

-- what stands for an item
abbrev pub shortened : List ℕ → List ℕ
shortened item = if is_long item then hashed item else item

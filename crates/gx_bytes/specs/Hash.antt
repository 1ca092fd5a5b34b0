-- The hash FNV-1a on 32 bits (draft-eastlake-fnv, the FNV non-cryptographic hash algorithm).
use Rattle.std.specs.Prelude.{ℕ, ◌*◌, ◌%◌, ◌^◌, List, fold, bit_xor}

-- for each byte: exclusive or, and then multiply by the prime
abbrev pub hash_byte : ℕ → ℕ → ℕ
hash_byte hash byte = bit_xor hash byte * 16777619 % 2 ^ 32

-- the hash of the bytes, continued from a hash
abbrev pub hash_from : ℕ → List ℕ → ℕ
hash_from start bytes = fold hash_byte start bytes

-- Signatures of n bytes: a hash stands for the bit that is its remainder by the number of bits.
use Rattle.std.specs.Prelude.{◌≡◌, ℕ, ◌*◌, ◌%◌, ◌==◌, Bool, true, false, List, replicate, ℤ}
use Rattle.std.specs.List.{fold}
use Rattle.std.specs.Int.{w32, cast_unsigned}
use Rattle.gx_gist.specs.declared.test.Test.{Test}
use Rattle.gx_gist.specs.declared.test.Test.TheVariants.{No, Maybe}
use Rattle.gx_sig.specs.BitSets.{bit_of, HasBit, with_bit, both, differing}

-- the hash of a number: its 32 bits without a sign
abbrev pub hash_of : ℤ → ℕ
hash_of number = cast_unsigned w32 number

-- the bit of a hash
abbrev pub bit_for : ℕ → ℕ → ℕ
bit_for n hash = hash % (8 * n)

abbrev pub with_hash : ℕ → List ℕ → ℕ → List ℕ
with_hash n key hash = with_bit key (bit_for n hash)

-- the signature of these hashes
abbrev pub sign : ℕ → List ℕ → List ℕ
sign n hashes = fold (with_hash n) (replicate n 0) hashes

-- the bit of a hash is set
abbrev pub has : ℕ → List ℕ → ℕ → Bool
has n key hash = bit_of key (bit_for n hash) == 1

-- A signature is over another where it has each of its bits.
abbrev pub IsOver : List ℕ → List ℕ → Type 0
IsOver k l = (b : ℕ) → HasBit l b → HasBit k b

-- the bits that a union adds to a key
abbrev pub growth : ℕ → List ℕ → List ℕ → ℕ
growth n key added = differing key (both key added) (8 * n)

-- Both have the same bits; the first has each bit of the second.
abbrev pub is_same : ℕ → List ℕ → List ℕ → Bool
is_same n k l = differing k l (8 * n) == 0

abbrev pub is_within : ℕ → List ℕ → List ℕ → Bool
is_within n k l = growth n k l == 0

-- what a signature says where a condition on its bits holds or doesn't
abbrev pub maybe : Bool → Test
maybe true = Maybe
maybe false = No

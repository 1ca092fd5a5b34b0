-- Items that are kept short have at most 1,900 bytes.
use Rattle.std.specs.Prelude.{◌≡◌, ◌≤◌, ℕ, Bool, true, false, List, length, take, if◌then◌else◌, refl}
use Rattle.std.proofs.Common.{arith, length-append, length-take}
use Rattle.byteorder.specs.Endian.{big_bytes}
use Rattle.gx_gin_items.specs.Items.{hash_of, is_long, hashed, shortened}

hashed_length : (item : List ℕ) → length (hashed item) ≤ 1900
hashed_length item =
    let four : length (big_bytes 4 (hash_of item)) ≡ 4 = refl in
    omega (arith, length-append (take 1 item) (big_bytes 4 (hash_of item)), length-take 1 item, four)

kept_length : (item : List ℕ) (b : Bool) → is_long item ≡ b → length (if b then hashed item else item) ≤ 1900
kept_length item true long = hashed_length item
kept_length item false short = grind arith

pub short_length : (item : List ℕ) → length (shortened item) ≤ 1900
short_length item = kept_length item (is_long item) refl

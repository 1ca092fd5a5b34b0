-- The length of the item of a key with its value.
use Rattle.std.proofs.Common.{◌≡◌, ℕ, zero, suc, ◌+◌, ◌/◌, ◌<◌, ◌≤◌, Bool, true, false, List, length, refl, sym, ap, ◌∙◌, arith, length-append}
use Rattle.std.specs.Prelude.{nat_lt, Option, Some}
use Rattle.std.proofs.lemmas.Bool.Decides.{nat_tests}
use Rattle.gx_bytes.specs.Varints.{groups, varint_bytes, field_bytes}
use Rattle.gx_hstore.specs.Map.{Pair}
use Rattle.gx_hstore_items.specs.Items.{value_item}
use Rattle.gx_gin_items.specs.Items.{is_long}
use Rattle.gx_gin_maps.specs.Tests.{pair_item}

below : (n m : ℕ) → n < m → nat_lt n m ≡ true
below n m h = grind (arith, nat_tests)

not_below : (n m : ℕ) → m ≤ n → nat_lt n m ≡ false
not_below n m h = grind (arith, nat_tests)

one_group : (k n : ℕ) → n < 128 → length (groups k n) ≡ 1
one_group zero n h = refl
one_group (suc k) n h = rw (below n 128 h) refl

two_groups : (k n : ℕ) → 128 ≤ n → n < 16384 → length (groups (suc k) n) ≡ 2
two_groups k n h below' = rw (not_below n 128 h) (omega (arith, one_group k (n / 128) (omega (arith, below'))))

pub one_byte : (n : ℕ) → n < 128 → length (varint_bytes n) ≡ 1
unfolding varint_bytes
one_byte n h = one_group n n h

pub two_bytes : (n : ℕ) → 128 ≤ n → n < 16384 → length (varint_bytes n) ≡ 2
unfolding varint_bytes
two_bytes zero h below' = absurd (omega (arith, h))
two_bytes (suc k) h below' = two_groups k (suc k) h below'

pub field_length : (part : List ℕ) → length (field_bytes part) ≡ length (varint_bytes (length part)) + length part
unfolding field_bytes
field_length part = length-append (varint_bytes (length part)) part

pub item_length : (key value : List ℕ) → length (value_item key (Some value)) ≡ length (varint_bytes (length key)) + length key + length value + 1
item_length key value = omega (arith, field_length key, length-append (field_bytes key) value)

-- the same by the lengths of both
pub long_pair : (pair : Pair) (value : List ℕ) (k v : ℕ) (long : Bool) → pair.1 ≡ Some value → k ≡ length pair.0 → v ≡ length value
    → long ≡ nat_lt 1900 (length (varint_bytes k) + k + v + 1) → long ≡ is_long (pair_item pair)
long_pair pair value k v long is kl vl e =
    let sum : length (varint_bytes k) + k + v + 1 ≡ length (value_item pair.0 (Some value)) =
    ap (λ (n : ℕ). length (varint_bytes n) + n + v + 1) kl ∙ ap (λ (m : ℕ). length (varint_bytes (length pair.0)) + length pair.0 + m + 1) vl ∙ sym (item_length pair.0 value) in
    e ∙ ap (nat_lt 1900) (sum ∙ ap (λ (o : Option (List ℕ)). length (value_item pair.0 o)) (sym is))

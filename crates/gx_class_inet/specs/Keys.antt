-- Keys: what the addresses below an item have in common.
use Rattle.std.specs.Prelude.{◌≡◌, ℕ, zero, suc, ◌-◌, ◌*◌, ◌/◌, ◌^◌, ◌<◌, ◌≤◌, ◌==◌, min, List, [], ◌∷◌, if◌then◌else◌}
use Rattle.std.specs.Bool.{beq}
use Rattle.gx_inet.specs.declared.inet.Inet.{Inet}
use Rattle.gx_inet.specs.Value.{width}
use Rattle.gx_inet.specs.Encoding.{family, address_bytes}
use Rattle.gx_class_inet.specs.declared.key.Net.{Net}
use Rattle.gx_class_inet.specs.declared.key.InetKey.{InetKey}
use Rattle.gx_class_inet.specs.declared.key.InetKey.TheVariants.{Mixed, Family}

-- the first n bits of the address
abbrev pub first : Net → ℕ → ℕ
first k n = k.address / 2 ^ (width k.v6 - n)

-- a valid key of one family: behind the bits in common stand zeros
pub record IsNet (k : Net) : Type 0 where
  pub mask : k.mask ≤ width k.v6
  pub common : k.common ≤ width k.v6
  pub address : k.address < 2 ^ width k.v6
  pub zeros : k.address ≡ first k k.common * 2 ^ (width k.v6 - k.common)

abbrev pub IsKey : InetKey → Type 0
IsKey Mixed = Unit {0}
IsKey (Family k) = IsNet k

-- the key of one address
abbrev pub leaf_net : Inet → Net
leaf_net v = record { v6 = v.v6; mask = v.mask; common = width v.v6; address = v.address }

abbrev pub leaf_key : Inet → InetKey
leaf_key v = Family (leaf_net v)

-- the greatest number of first bits, up to a limit, that two addresses of this width share
abbrev pub shared : ℕ → ℕ → ℕ → ℕ → ℕ
shared width x y zero = 0
shared width x y (suc n) = if x / 2 ^ (width - suc n) == y / 2 ^ (width - suc n) then suc n else shared width x y n

abbrev pub common_of : Net → Net → ℕ
common_of a b = shared (width a.v6) a.address b.address (min a.common b.common)

-- the key of two of one family: the lesser mask, and the bits that both have in common
abbrev pub cut_at : Net → ℕ → ℕ → Net
cut_at a mask n = record { v6 = a.v6; mask = mask; common = n; address = first a n * 2 ^ (width a.v6 - n) }

abbrev pub joined_nets : Net → Net → Net
joined_nets a b = cut_at a (min a.mask b.mask) (common_of a b)

-- the key of all that both keys stand for
abbrev pub joined : InetKey → InetKey → InetKey
joined (Family a) (Family b) = if beq a.v6 b.v6 then Family (joined_nets a b) else Mixed
joined a b = Mixed

-- a key reaches at least as far as another
pub record IsOverNet (a b : Net) : Type 0 where
  pub family : a.v6 ≡ b.v6
  pub mask : a.mask ≤ b.mask
  pub common : a.common ≤ b.common
  pub bits : first a a.common ≡ first b a.common

abbrev pub IsOver : InetKey → InetKey → Type 0
IsOver Mixed l = Unit {0}
IsOver (Family a) (Family b) = IsOverNet a b
IsOver (Family a) Mixed = ⊥

-- the bytes of a key: 0 for mixed families; else the family, the mask, the number of bits in common and the address
abbrev pub spelled : InetKey → List ℕ
spelled Mixed = 0 ∷ []
spelled (Family k) = family k.v6 ∷ k.mask ∷ k.common ∷ address_bytes k.v6 k.address

-- The operators on addresses (PostgreSQL 16, 9.12).
use Rattle.std.specs.Prelude.{◌≡◌, ℕ, ◌-◌, ◌/◌, ◌^◌, ◌<◌, ◌≤◌, min, Bool, true, false}
use Rattle.std.specs.Ordering.{bool_cmp, nat_cmp, ordering_then, is_eq, is_ne, is_lt, is_le, is_gt, is_ge}
use Rattle.std.specs.declared.cmp.Ordering.{Ordering}
use Rattle.gx_inet.specs.declared.inet.Inet.{Inet}
use Rattle.gx_inet.specs.declared.inet.InetOp.{InetOp}
use Rattle.gx_inet.specs.declared.inet.InetOp.TheVariants as ops
use Rattle.gx_inet.specs.Value.{width}

-- the first n bits of the address
abbrev pub front : Inet → ℕ → ℕ
front x n = x.address / 2 ^ (width x.v6 - n)

-- one family, and the same first n bits
abbrev pub SameFront : Inet → Inet → ℕ → Type 0
SameFront x y n = (x.v6 ≡ y.v6) × (front x n ≡ front y n)

-- `<<` and `<<=`: x is in the network of y, and has a longer mask, or one that isn't shorter
abbrev pub IsWithin : Inet → Inet → Bool → Type 0
IsWithin x y true = SameFront x y y.mask × (y.mask < x.mask)
IsWithin x y false = SameFront x y y.mask × (y.mask ≤ x.mask)

-- `&&`: the bits that both masks cover are the same
abbrev pub Meets : Inet → Inet → Type 0
Meets x y = SameFront x y (min x.mask y.mask)

-- IPv4 before IPv6, then the bits that both masks cover, then the mask, then the whole address
abbrev pub order : Inet → Inet → Ordering
order x y =
    ordering_then (bool_cmp x.v6 y.v6)
    (ordering_then (nat_cmp (front x (min x.mask y.mask)) (front y (min x.mask y.mask)))
    (ordering_then (nat_cmp x.mask y.mask) (nat_cmp x.address y.address)))

-- the operator holds of x and y: six by the order, `<<` and `<<=`, `>>` and `>>=` the other way round, and `&&`
abbrev pub Holds : InetOp → Inet → Inet → Type 0
Holds ops.Equal x y = is_eq (order x y) ≡ true
Holds ops.NotEqual x y = is_ne (order x y) ≡ true
Holds ops.Less x y = is_lt (order x y) ≡ true
Holds ops.LessEqual x y = is_le (order x y) ≡ true
Holds ops.Greater x y = is_gt (order x y) ≡ true
Holds ops.GreaterEqual x y = is_ge (order x y) ≡ true
Holds ops.Within x y = IsWithin x y true
Holds ops.WithinEqual x y = IsWithin x y false
Holds ops.Holds x y = IsWithin y x true
Holds ops.HoldsEqual x y = IsWithin y x false
Holds ops.Meets x y = Meets x y

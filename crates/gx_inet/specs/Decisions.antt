-- Decisions of the operators on addresses: each is true exactly where the operator's relation holds.
use Rattle.std.specs.Prelude.{ℕ, ◌==◌, nat_lt, nat_le, min, Bool, true, false, ◌&&◌}
use Rattle.std.specs.Bool.{beq}
use Rattle.std.specs.Ordering.{is_eq, is_ne, is_lt, is_le, is_gt, is_ge}
use Rattle.gx_inet.specs.declared.inet.Inet.{Inet}
use Rattle.gx_inet.specs.declared.inet.InetOp.{InetOp}
use Rattle.gx_inet.specs.declared.inet.InetOp.TheVariants as ops
use Rattle.gx_inet.specs.Operators.{front, order}

abbrev pub same_front : Inet → Inet → ℕ → Bool
same_front x y n = beq x.v6 y.v6 && (front x n == front y n)

abbrev pub is_within : Inet → Inet → Bool → Bool
is_within x y true = same_front x y y.mask && nat_lt y.mask x.mask
is_within x y false = same_front x y y.mask && nat_le y.mask x.mask

abbrev pub meets : Inet → Inet → Bool
meets x y = same_front x y (min x.mask y.mask)

unfoldable pub holds : InetOp → Inet → Inet → Bool
holds ops.Equal x y = is_eq (order x y)
holds ops.NotEqual x y = is_ne (order x y)
holds ops.Less x y = is_lt (order x y)
holds ops.LessEqual x y = is_le (order x y)
holds ops.Greater x y = is_gt (order x y)
holds ops.GreaterEqual x y = is_ge (order x y)
holds ops.Within x y = is_within x y true
holds ops.WithinEqual x y = is_within x y false
holds ops.Holds x y = is_within y x true
holds ops.HoldsEqual x y = is_within y x false
holds ops.Meets x y = meets x y

-- The decisions of the operators are true exactly where the relations hold.
use Rattle.std.proofs.Common.{◌≡◌, ℕ, ◌≤◌, min, Bool, true, false, arith}
use Rattle.std.specs.Prelude.{nat_le}
use Rattle.std.specs.Bool.{Decides}
use Rattle.std.specs.Cmp.{booleans_Decides}
use Rattle.std.proofs.lemmas.Bool.Decides.{Decides-eqb, Decides-ltb, Decides-and, nat_tests}
use Rattle.gx_inet.specs.declared.inet.Inet.{Inet}
use Rattle.gx_inet.specs.declared.inet.InetOp.{InetOp}
use Rattle.gx_inet.specs.declared.inet.InetOp.TheVariants as ops
use Rattle.gx_inet.specs.Operators.{front, SameFront, IsWithin, Holds}
use Rattle.gx_inet.specs.Decisions.{same_front, is_within, holds}

le : (m n : ℕ) → Decides (nat_le m n) (m ≤ n)
le m n = (λ e. grind (arith, nat_tests), λ h. grind (arith, nat_tests))

same : (x y : Inet) (n : ℕ) → Decides (same_front x y n) (SameFront x y n)
same x y n = Decides-and _ _ (booleans_Decides x.v6 y.v6) (Decides-eqb (front x n) (front y n))

within : (x y : Inet) (strict : Bool) → Decides (is_within x y strict) (IsWithin x y strict)
within x y true = Decides-and _ _ (same x y y.mask) (Decides-ltb y.mask x.mask)
within x y false = Decides-and _ _ (same x y y.mask) (le y.mask x.mask)

itself : (b : Bool) → Decides b (b ≡ true)
itself b = (λ e. e, λ e. e)

pub holds-Decides : (op : InetOp) (x y : Inet) → Decides (holds op x y) (Holds op x y)
unfolding holds
holds-Decides ops.Equal x y = itself _
holds-Decides ops.NotEqual x y = itself _
holds-Decides ops.Less x y = itself _
holds-Decides ops.LessEqual x y = itself _
holds-Decides ops.Greater x y = itself _
holds-Decides ops.GreaterEqual x y = itself _
holds-Decides ops.Within x y = within x y true
holds-Decides ops.WithinEqual x y = within x y false
holds-Decides ops.Holds x y = within y x true
holds-Decides ops.HoldsEqual x y = within y x false
holds-Decides ops.Meets x y = same x y (min x.mask y.mask)

-- What an order of values says of the least and the greatest value below a key.
use Rattle.std.specs.Prelude.{◌≡◌, Bool, true, false, not, ◌&&◌, if◌then◌else◌}
use Rattle.std.specs.Ordering.{is_eq, is_lt, is_le, is_gt, is_ge}
use Rattle.std.specs.declared.cmp.Ordering.{Ordering}
use Rattle.gx_scalar.specs.declared.operators.ScalarOp.{ScalarOp}
use Rattle.gx_scalar.specs.declared.operators.ScalarOp.TheVariants.{Equal, NotEqual, Less, LessEqual, Greater, GreaterEqual}

-- it may hold of a value from a least one to a greatest one, which stand so to the operand
abbrev pub may_accept : ScalarOp → Ordering → Ordering → Bool
may_accept Equal lo hi = is_le lo && is_ge hi
may_accept NotEqual lo hi = not (is_eq lo && is_eq hi)
may_accept Less lo hi = is_lt lo
may_accept LessEqual lo hi = is_le lo
may_accept Greater lo hi = is_gt hi
may_accept GreaterEqual lo hi = is_ge hi

-- the same where values and operand are cut, so that equal ones may be less or greater
abbrev pub may_accept_cut : ScalarOp → Ordering → Ordering → Bool
may_accept_cut Equal lo hi = is_le lo && is_ge hi
may_accept_cut NotEqual lo hi = true
may_accept_cut Less lo hi = is_le lo
may_accept_cut LessEqual lo hi = is_le lo
may_accept_cut Greater lo hi = is_ge hi
may_accept_cut GreaterEqual lo hi = is_ge hi

-- a is at most b; the lesser and the greater of two
abbrev pub IsAtMost : {T : Type 0} → (T → T → Ordering) → T → T → Type 0
IsAtMost R a b = is_gt (R a b) ≡ false

abbrev pub lesser : {T : Type 0} → (T → T → Ordering) → T → T → T
lesser R a b = if is_gt (R a b) then b else a

abbrev pub greater : {T : Type 0} → (T → T → Ordering) → T → T → T
greater R a b = if is_gt (R a b) then a else b

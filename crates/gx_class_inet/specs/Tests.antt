-- The tests of keys.
use Rattle.std.specs.Prelude.{ℕ, ◌==◌, nat_lt, nat_le, min, Bool, true, false, ◌&&◌, if◌then◌else◌}
use Rattle.std.specs.Bool.{beq}
use Rattle.std.specs.Ordering.{nat_cmp, bool_cmp, is_lt, is_le, is_gt, is_ge}
use Rattle.std.specs.declared.cmp.Ordering.{Ordering}
use Rattle.gx_gist.specs.declared.test.Test.{Test}
use Rattle.gx_gist.specs.declared.test.Test.TheVariants.{No, Maybe, Yes}
use Rattle.gx_inet.specs.declared.inet.Inet.{Inet}
use Rattle.gx_inet.specs.declared.inet.InetOp.{InetOp}
use Rattle.gx_inet.specs.declared.inet.InetOp.TheVariants as ops
use Rattle.gx_inet.specs.Operators.{front}
use Rattle.gx_inet.specs.Decisions.{holds}
use Rattle.gx_class_inet.specs.declared.key.Net.{Net}
use Rattle.gx_class_inet.specs.declared.key.InetKey.{InetKey}
use Rattle.gx_class_inet.specs.declared.key.InetKey.TheVariants.{Mixed, Family}
use Rattle.gx_class_inet.specs.Keys.{first}

-- the address of which this is the key
abbrev pub inet_of : Net → Inet
inet_of k = record { v6 = k.v6; mask = k.mask; address = k.address }

-- of the key of one address
abbrev pub leaf_answer : InetOp → InetKey → Inet → Test
leaf_answer op Mixed q = No
leaf_answer op (Family k) q = if holds op (inet_of k) q then Yes else No

-- the bits that are compared where the operand's mask and all masks below the key count
abbrev pub reach : Net → Inet → ℕ
reach k q = min k.common (min k.mask q.mask)

abbrev pub same_first : Net → Inet → ℕ → Bool
same_first k q n = first k n == front q n

-- an operator may hold of an address below a key of the operand's family
abbrev pub net_may : InetOp → Net → Inet → Bool
net_may ops.Equal k q = same_first k q k.common
net_may ops.NotEqual k q = true
net_may ops.Less k q = is_le (nat_cmp (first k (reach k q)) (front q (reach k q)))
net_may ops.LessEqual k q = is_le (nat_cmp (first k (reach k q)) (front q (reach k q)))
net_may ops.Greater k q = is_ge (nat_cmp (first k (reach k q)) (front q (reach k q)))
net_may ops.GreaterEqual k q = is_ge (nat_cmp (first k (reach k q)) (front q (reach k q)))
net_may ops.Within k q = same_first k q (min k.common q.mask)
net_may ops.WithinEqual k q = same_first k q (min k.common q.mask)
net_may ops.Holds k q = same_first k q (reach k q) && nat_lt k.mask q.mask
net_may ops.HoldsEqual k q = same_first k q (reach k q) && nat_le k.mask q.mask
net_may ops.Meets k q = same_first k q (reach k q)

-- or of an address of another family, which stands so to the operand's
abbrev pub family_may : InetOp → Ordering → Bool
family_may ops.NotEqual o = true
family_may ops.Less o = is_lt o
family_may ops.LessEqual o = is_le o
family_may ops.Greater o = is_gt o
family_may ops.GreaterEqual o = is_ge o
family_may op o = false

abbrev pub key_may : InetOp → InetKey → Inet → Bool
key_may op Mixed q = true
key_may op (Family k) q = if beq k.v6 q.v6 then net_may op k q else family_may op (bool_cmp k.v6 q.v6)

-- of the key of many
abbrev pub inner_answer : InetOp → InetKey → Inet → Test
inner_answer op k q = if key_may op k q then Maybe else No

abbrev pub key_test : Bool → InetOp → InetKey → Inet → Test
key_test at_leaf op k q = if at_leaf then leaf_answer op k q else inner_answer op k q

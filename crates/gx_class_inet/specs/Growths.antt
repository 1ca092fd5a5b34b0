-- How much a key grows where another is united with it.
use Rattle.std.specs.Prelude.{ℕ, ◌-◌, if◌then◌else◌}
use Rattle.std.specs.Bool.{beq}
use Rattle.gx_class_inet.specs.declared.key.InetKey.{InetKey}
use Rattle.gx_class_inet.specs.declared.key.InetKey.TheVariants.{Mixed, Family}
use Rattle.gx_class_inet.specs.Keys.{common_of}

-- how many bits in common are lost, and 128 where the key becomes mixed
abbrev pub growth : InetKey → InetKey → ℕ
growth Mixed l = 0
growth (Family a) Mixed = 128
growth (Family a) (Family b) = if beq a.v6 b.v6 then a.common - common_of a b else 128

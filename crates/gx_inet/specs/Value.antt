-- Addresses, and which are valid.
use Rattle.std.specs.Prelude.{ℕ, ◌^◌, ◌<◌, ◌≤◌, Bool, true, false}
use Rattle.gx_inet.specs.declared.inet.Inet.{Inet}

-- how many bits an address has: 32 of IPv4, 128 of IPv6
abbrev pub width : Bool → ℕ
width false = 32
width true = 128

-- the mask is at most the width, and the address fits it
pub record IsInet (inet : Inet) : Type 0 where
  pub mask : inet.mask ≤ width inet.v6
  pub address : inet.address < 2 ^ width inet.v6

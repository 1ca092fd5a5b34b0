-- The bytes of an address in a row.
use Rattle.std.specs.Prelude.{◌≡◌, ℕ, Bool, true, false, List, ◌∷◌, Option, None, Some, Result, Ok, Err}
use Rattle.std.specs.Int.{w32, w128, to_be_bytes}
use Rattle.std.specs.declared.alloc.AllocError.{AllocError}
use Rattle.gx_inet.specs.declared.inet.Inet.{Inet}
use Rattle.gx_inet.specs.Value.{IsInet}

-- the address in four bytes or sixteen, the highest first
abbrev pub address_bytes : Bool → ℕ → List ℕ
address_bytes false address = to_be_bytes w32 address
address_bytes true address = to_be_bytes w128 address

abbrev pub family : Bool → ℕ
family false = 4
family true = 6

-- the family, the mask and the address
abbrev pub encoded : Inet → List ℕ
encoded inet = family inet.v6 ∷ inet.mask ∷ address_bytes inet.v6 inet.address

-- the valid address with these bytes, or none where no valid address has them
abbrev pub DecodesTo : List ℕ → Result (Option Inet) AllocError → Type 0
DecodesTo bytes (Ok None) = (inet : Inet) → IsInet inet → bytes ≡ encoded inet → ⊥
DecodesTo bytes (Ok (Some inet)) = IsInet inet × (bytes ≡ encoded inet)
DecodesTo bytes (Err _) = ⊥

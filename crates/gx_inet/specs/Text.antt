-- The texts of addresses (PostgreSQL 16, 8.9.1; RFC 4291, section 2.2), and the one text that is printed.
use Rattle.std.specs.Prelude.{◌≡◌, ◌≢◌, ◌==◌, ℕ, ◌^◌, ◌<◌, ◌≤◌, ◌⊎◌, Bool, true, false, List, [], ◌∷◌, ◌++◌, length, slice_index, Result, Ok, Err, decimal, if◌then◌else◌}
use Rattle.std.specs.Int.{w32, w128, to_be_bytes}
use Rattle.std.specs.declared.net.ipv4_addr.Ipv4Addr.{Ipv4Addr}
use Rattle.std.specs.declared.net.ipv6_addr.Ipv6Addr.{Ipv6Addr}
use Rattle.std.specs.Net.Addr.{ipv4_bits, ipv6_bits, segments_of}
use Rattle.std.specs.Net.Grammar.{IsIpv4Text, IsIpv6Text}
use Rattle.std.specs.Net.Text.{ipv4_text, hex_groups_text}
use Rattle.gx_bytes.specs.declared.error.ValueError.{ValueError}
use Rattle.gx_bytes.specs.declared.error.ValueError.TheVariants.{NoValue, OutOfRange, TooDeep, Memory}
use Rattle.gx_inet.specs.declared.inet.Inet.{Inet}
use Rattle.gx_inet.specs.Value.{width, IsInet}

-- The text stands for the address in dotted decimal, or in the forms of RFC 4291: eight groups of one to
-- four hexadecimal digits, `::` for one or more groups of zero, and the last two groups in dotted decimal.
abbrev pub SpellsAddress : Bool → List ℕ → ℕ → Type 0
SpellsAddress false text address = (x : Ipv4Addr) × IsIpv4Text text x × (address ≡ ipv4_bits x)
SpellsAddress true text address = (x : Ipv6Addr) × IsIpv6Text text x × (address ≡ ipv6_bits x)

-- Nothing stands for the whole width, and 47, a slash, goes before a number of at most the width
-- without leading zeros.
abbrev pub SpellsMask : Bool → List ℕ → ℕ → Type 0
SpellsMask v6 text mask =
    ((text ≡ []) × (mask ≡ width v6)) ⊎ ((text ≡ 47 ∷ decimal mask) × (mask ≤ width v6))

-- an address, and a mask behind it
pub record SpellsInet (text : List ℕ) (inet : Inet) : Type 0 where
  pub address_text : List ℕ
  pub mask_text : List ℕ
  pub parts : text ≡ address_text ++ mask_text
  pub address : SpellsAddress inet.v6 address_text inet.address
  pub mask : SpellsMask inet.v6 mask_text inet.mask

-- what each answer of the reader says of the text
abbrev pub AnswersInet : List ℕ → Result Inet ValueError → Type 0
AnswersInet text (Ok inet) = IsInet inet × SpellsInet text inet
AnswersInet text (Err NoValue) = (inet : Inet) → SpellsInet text inet → ⊥
AnswersInet text (Err OutOfRange) = ⊥
AnswersInet text (Err TooDeep) = ⊥
AnswersInet text (Err Memory) = ⊥

-- IPv4 in decimal. IPv6 in groups in lower case without leading zeros, the longest run of at least two
-- groups of zero as `::`, of equal runs the first.
abbrev pub address_text : Bool → ℕ → List ℕ
address_text false address = ipv4_text (to_be_bytes w32 address)
address_text true address = hex_groups_text (segments_of (to_be_bytes w128 address))

-- nothing for the whole width
abbrev pub mask_text : Bool → ℕ → List ℕ
mask_text v6 mask = if mask == width v6 then [] else 47 ∷ decimal mask

-- the one printed text
abbrev pub printed : Inet → List ℕ
printed inet = address_text inet.v6 inet.address ++ mask_text inet.v6 inet.mask

-- the address fits its family
abbrev pub IsAddress : Bool → ℕ → Type 0
IsAddress v6 address = address < 2 ^ width v6

-- a byte or more, of which the first is no plus (43), and no zero (48) before another
pub record HasPlainStart (digits : List ℕ) : Type 0 where
  pub some : 0 < length digits
  pub plus : slice_index digits 0 ≢ 43
  pub zero : slice_index digits 0 ≡ 48 → length digits ≡ 1

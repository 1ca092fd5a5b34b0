-- A key has one spelling.
use Rattle.std.specs.Prelude.{◌≡◌, ◌≢◌, ℕ, ◌^◌, ◌<◌, ◌≤◌, Bool, true, false, List, length, Option, Some, None, refl}
use Rattle.std.proofs.Common.{sym, ap, ◌∙◌, arith}
use Rattle.std.specs.Int.{w32, w128, from_be_bytes}
use Rattle.std.proofs.lemmas.Nat.{from_be_bytes-to_be_bytes_4}
use Rattle.uuid.proofs.OrderLemmas.{from_be_bytes-to_be_bytes_16}
use Rattle.gx_inet.specs.Value.{width}
use Rattle.gx_inet.specs.Encoding.{family, address_bytes}
use Rattle.gx_class_inet.specs.declared.key.Net.{Net}
use Rattle.gx_class_inet.specs.declared.key.InetKey.{InetKey}
use Rattle.gx_class_inet.specs.declared.key.InetKey.TheVariants.{Mixed, Family}
use Rattle.gx_class_inet.specs.Keys.{IsNet, IsKey, spelled}

-- the valid key with these bytes, or none where they spell no key
abbrev pub ReadsTo : List ℕ → Option InetKey → Type 0
ReadsTo bytes None = (key : InetKey) → IsKey key → bytes ≢ spelled key
ReadsTo bytes (Some key) = IsKey key × (bytes ≡ spelled key)

pub family_same : (a b : Bool) → family a ≡ family b → a ≡ b
family_same true true e = refl
family_same true false e = absurd (omega (arith, e))
family_same false true e = absurd (omega (arith, e))
family_same false false e = refl

pub family_some : (a : Bool) → 0 ≡ family a → ⊥
family_some true e = omega (arith, e)
family_some false e = omega (arith, e)

pub same_address : (b : Bool) (m n : ℕ) → m < 2 ^ width b → n < 2 ^ width b → address_bytes b m ≡ address_bytes b n → m ≡ n
same_address false m n p q e = sym (from_be_bytes-to_be_bytes_4 m p) ∙ ap (from_be_bytes w32) e ∙ from_be_bytes-to_be_bytes_4 n q
same_address true m n p q e = sym (from_be_bytes-to_be_bytes_16 m p) ∙ ap (from_be_bytes w128) e ∙ from_be_bytes-to_be_bytes_16 n q

same_parts : (b c : Bool) (m n : ℕ) → b ≡ c → m < 2 ^ width b → n < 2 ^ width c → address_bytes b m ≡ address_bytes c n → m ≡ n
same_parts true true m n s p q e = same_address true m n p q e
same_parts false false m n s p q e = same_address false m n p q e
same_parts true false m n s p q e = cc s
same_parts false true m n s p q e = cc s

same_nets : (a b : Net) → a.v6 ≡ b.v6 → a.mask ≡ b.mask → a.common ≡ b.common → a.address ≡ b.address → a ≡ b
same_nets a b p q r s = λ i. record { v6 = p i; mask = q i; common = r i; address = s i }

one_net : (a b : Net) → IsNet a → IsNet b → spelled (Family a) ≡ spelled (Family b) → a ≡ b
one_net a b p q e =
    let head : family a.v6 ≡ family b.v6 = cc e in
    let mask : a.mask ≡ b.mask = cc e in
    let common : a.common ≡ b.common = cc e in
    let tail : address_bytes a.v6 a.address ≡ address_bytes b.v6 b.address = cc e in
    let same = family_same a.v6 b.v6 head in
    same_nets a b same mask common (same_parts a.v6 b.v6 a.address b.address same p.address q.address tail)

pub one_spelling : (a b : InetKey) → IsKey a → IsKey b → spelled a ≡ spelled b → a ≡ b
one_spelling Mixed Mixed p q e = refl
one_spelling Mixed (Family b) p q e = let head : 0 ≡ family b.v6 = cc e in absurd (family_some b.v6 head)
one_spelling (Family a) Mixed p q e = let head : 0 ≡ family a.v6 = cc e in absurd (family_some a.v6 head)
one_spelling (Family a) (Family b) p q e = ap Family (one_net a b p q e)

short_address : (b : Bool) (n : ℕ) → length (address_bytes b n) ≤ 16
short_address true n = omega arith
short_address false n = omega arith

pub short_spelling : (k : InetKey) → length (spelled k) ≤ 1900
short_spelling Mixed = omega arith
short_spelling (Family k) = let few = short_address k.v6 k.address in omega arith

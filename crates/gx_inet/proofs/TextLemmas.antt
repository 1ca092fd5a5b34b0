-- One address to a text, and the printed text.
use Rattle.std.proofs.Common.{◌≡◌, ◌≢◌, ℕ, zero, suc, ◌^◌, ◌<◌, ◌≤◌, Bool, true, false, List, [], ◌∷◌, ◌++◌, length, get_or, decimal, Option, None, Some, MatchOption, Result, Ok, Err, refl, sym, ap, ◌∙◌, subst, arith, inl, inr, eq-eqb, ne_eqb, append-nil}
use Rattle.std.specs.declared.net.ipv4_addr.Ipv4Addr.{Ipv4Addr}
use Rattle.std.specs.declared.net.ipv6_addr.Ipv6Addr.{Ipv6Addr}
use Rattle.std.specs.declared.net.ip_addr.IpAddr.{IpAddr}
use Rattle.std.specs.declared.net.ip_addr.IpAddr.TheVariants as Ip
use Rattle.std.specs.Net.Addr.{ipv4_bits, ipv6_bits, ipv4_octets, ipv6_segments, segments_of, IsIpv4OfBits, IsIpv6OfBits}
use Rattle.std.specs.Net.Text.{ipv4_text, hex_groups_text}
use Rattle.std.specs.Option.{ok_or}
use Rattle.std.specs.Net.Grammar.{IsIpText}
use Rattle.std.specs.Int.{w32, w128, to_be_bytes}
use Rattle.std.proofs.NetLemmas.Theorems.{IsIpText_unique}
use Rattle.std.proofs.NetLemmas.Texts.{IsDotted-ipv4_text, IsColonHex-hex_groups_text}
use Rattle.std.proofs.lemmas.Nat.{from_be_bytes-to_be_bytes_4}
use Rattle.std.proofs.lemmas.Fmt.{decimal_injective}
use Rattle.std.proofs.lemmas.Bool.{cases_eq}
use Rattle.gx_bytes.specs.declared.error.ValueError.{ValueError}
use Rattle.gx_bytes.specs.declared.error.ValueError.TheVariants.{NoValue, OutOfRange, TooDeep, Memory}
use Rattle.gx_inet.specs.declared.inet.Inet.{Inet}
use Rattle.gx_inet.specs.Value.{width, IsInet}
use Rattle.gx_inet.specs.Text.{SpellsAddress, SpellsMask, SpellsInet, AnswersInet, address_text, mask_text}
use Rattle.gx_inet.proofs.Slashes.{NoSlash, no_slash_inside, no_slash_by_index, one_cut, address_no_slash}

-- where std reads no address, none is spelled
pub no_address : (text : List ℕ) → ((a : IpAddr) → IsIpText text a → ⊥) → (v6 : Bool) (address : ℕ) → SpellsAddress v6 text address → ⊥
no_address text none false address s = none (Ip.V4 s.0) s.1
no_address text none true address s = none (Ip.V6 s.0) s.1

-- a text spells one address
pub one_address : (text : List ℕ) (v w : Bool) (a b : ℕ) → SpellsAddress v text a → SpellsAddress w text b → (v ≡ w) × (a ≡ b)
one_address text false false a b s t =
    let same : Ip.V4 s.0 ≡ Ip.V4 t.0 = IsIpText_unique text (Ip.V4 s.0) (Ip.V4 t.0) s.1 t.1 in
    let one : s.0 ≡ t.0 = cc in
    (refl, s.2 ∙ ap ipv4_bits one ∙ sym t.2)
one_address text true true a b s t =
    let same : Ip.V6 s.0 ≡ Ip.V6 t.0 = IsIpText_unique text (Ip.V6 s.0) (Ip.V6 t.0) s.1 t.1 in
    let one : s.0 ≡ t.0 = cc in
    (refl, s.2 ∙ ap ipv6_bits one ∙ sym t.2)
one_address text false true a b s t =
    let same : Ip.V4 s.0 ≡ Ip.V6 t.0 = IsIpText_unique text (Ip.V4 s.0) (Ip.V6 t.0) s.1 t.1 in
    cc
one_address text true false a b s t =
    let same : Ip.V6 s.0 ≡ Ip.V4 t.0 = IsIpText_unique text (Ip.V6 s.0) (Ip.V4 t.0) s.1 t.1 in
    cc

width-le : (v6 : Bool) → width v6 ≤ 128
width-le false = omega arith
width-le true = omega arith

-- a mask that was read and is above its family's width is no mask of the text
pub too_long : (text digits : List ℕ) (v w : Bool) (a b m n : ℕ) → SpellsAddress v text a → SpellsAddress w text b → n < 256 → digits ≡ decimal m → digits ≡ decimal n → m ≤ width v → width w < n → ⊥
too_long text digits v w a b m n s t small d e within above =
    let family : v ≡ w = (one_address text v w a b s t).0 in
    let wide = width-le v in
    let same : m ≡ n = decimal_injective m n (omega arith) (omega arith) (sym d ∙ e) in
    omega (arith, ap width family)

-- where the masks stand in two readings of one text, and what stands before them
same_parts : (v w : Bool) (a b m n : List ℕ) (x y k l : ℕ) → SpellsAddress v a x → SpellsAddress w b y → SpellsMask v m k → SpellsMask w n l → k < 256 → l < 256 → a ++ m ≡ b ++ n → (a ≡ b) × ((v ≡ w) × (x ≡ y) → k ≡ l)
same_parts v w a b m n x y k l s t (inl p) (inl q) small less e =
    let whole : a ≡ b = sym (append-nil a) ∙ ap (λ (z : List ℕ). a ++ z) (sym p.0) ∙ e ∙ ap (λ (z : List ℕ). b ++ z) q.0 ∙ append-nil b in
    (whole, λ same. p.1 ∙ ap width same.0 ∙ sym q.1)
same_parts v w a b m n x y k l s t (inl p) (inr q) small less e =
    let text : a ≡ b ++ 47 ∷ decimal l = sym (append-nil a) ∙ ap (λ (z : List ℕ). a ++ z) (sym p.0) ∙ e ∙ ap (λ (z : List ℕ). b ++ z) q.0 in
    absurd (no_slash_inside b (decimal l) (subst NoSlash text (address_no_slash v a x s)))
same_parts v w a b m n x y k l s t (inr p) (inl q) small less e =
    let text : b ≡ a ++ 47 ∷ decimal k = sym (append-nil b) ∙ ap (λ (z : List ℕ). b ++ z) (sym q.0) ∙ sym e ∙ ap (λ (z : List ℕ). a ++ z) p.0 in
    absurd (no_slash_inside a (decimal k) (subst NoSlash text (address_no_slash w b y t)))
same_parts v w a b m n x y k l s t (inr p) (inr q) small less e =
    let text : a ++ 47 ∷ decimal k ≡ b ++ 47 ∷ decimal l = ap (λ (z : List ℕ). a ++ z) (sym p.0) ∙ e ∙ ap (λ (z : List ℕ). b ++ z) q.0 in
    let cut = one_cut a b (decimal k) (decimal l) (address_no_slash v a x s) (address_no_slash w b y t) text in
    (cut.0, λ same. decimal_injective k l (omega arith) (omega arith) cut.1)

mask-lt : (v : Bool) (m : ℕ) → m ≤ width v → m < 256
mask-lt v m within = let wide = width-le v in omega arith

pub one_inet : (text : List ℕ) (x y : Inet) → IsInet x → IsInet y → SpellsInet text x → SpellsInet text y → x ≡ y
one_inet text x y vx vy s t =
    let parts = same_parts x.v6 y.v6 s.address_text t.address_text s.mask_text t.mask_text x.address y.address x.mask y.mask s.address t.address s.mask t.mask (mask-lt x.v6 x.mask vx.mask) (mask-lt y.v6 y.mask vy.mask) (sym s.parts ∙ t.parts) in
    let P : List ℕ → Type 0 = λ z. SpellsAddress y.v6 z y.address in
    let same = one_address s.address_text x.v6 y.v6 x.address y.address s.address (subst P (sym parts.0) t.address) in
    let mask = parts.1 same in
    λ i. record { v6 = same.0 i; mask = mask i; address = same.1 i }

pub same_answer : (text : List ℕ) (r s : Result Inet ValueError) → AnswersInet text r → AnswersInet text s → r ≡ s
same_answer text (Ok x) (Ok y) p q = ap Ok (one_inet text x y p.0 q.0 p.1 q.1)
same_answer text (Ok x) (Err NoValue) p q = absurd (q x p.1)
same_answer text (Err NoValue) (Ok y) p q = absurd (p y q.1)
same_answer text (Err NoValue) (Err NoValue) p q = refl
same_answer text (Err OutOfRange) s p q = absurd p
same_answer text (Err TooDeep) s p q = absurd p
same_answer text (Err Memory) s p q = absurd p
same_answer text r (Err OutOfRange) p q = absurd q
same_answer text r (Err TooDeep) p q = absurd q
same_answer text r (Err Memory) p q = absurd q

abbrev EachBelow : ℕ → List ℕ → Type 0
EachBelow b [] = Unit {0}
EachBelow b (x ∷ xs) = (x < b) × EachBelow b xs

below_at : (b : ℕ) (xs : List ℕ) → 0 < b → EachBelow b xs → (k : ℕ) → get_or xs k 0 < b
below_at b [] some each k = some
below_at b (x ∷ xs) some each zero = each.0
below_at b (x ∷ xs) some each (suc k) = below_at b xs some each.1 k

address_spells : (v6 : Bool) (address : ℕ) → address < 2 ^ width v6 → SpellsAddress v6 (address_text v6 address) address
unfolding ipv4_bits ipv6_bits
address_spells false address small =
    let octets = below_at 256 (to_be_bytes w32 address) (omega arith) (omega arith, (omega arith, (omega arith, (omega arith, tt)))) in
    (record { octets = to_be_bytes w32 address }, IsDotted-ipv4_text (to_be_bytes w32 address) refl octets, sym (from_be_bytes-to_be_bytes_4 address small))
address_spells true address small =
    let segments = below_at 65536 (segments_of (to_be_bytes w128 address)) (omega arith) (omega arith, (omega arith, (omega arith, (omega arith, (omega arith, (omega arith, (omega arith, (omega arith, tt)))))))) in
    (record { segments = segments_of (to_be_bytes w128 address) }, IsColonHex-hex_groups_text (segments_of (to_be_bytes w128 address)) refl segments, omega (arith, small))

mask_spells : (v6 : Bool) (mask : ℕ) → mask ≤ width v6 → SpellsMask v6 (mask_text v6 mask) mask
mask_spells v6 mask within = elim (cases_eq mask (width v6)) [
  | inl whole ↦ rw (eq-eqb mask (width v6) whole) (inl (refl, whole))
  | inr shorter ↦ rw (ne_eqb mask (width v6) shorter) (inr (refl, within))
]

pub printed_spells : (v6 : Bool) (mask address : ℕ) → mask ≤ width v6 → address < 2 ^ width v6 → SpellsInet (address_text v6 address ++ mask_text v6 mask) (record { v6 = v6; mask = mask; address = address })
printed_spells v6 mask address within small = record {
  address_text = address_text v6 address;
  mask_text = mask_text v6 mask;
  parts = refl;
  address = address_spells v6 address small;
  mask = mask_spells v6 mask within;
}

-- what std writes of an address with these bits
pub dotted_text_of : (a : Ipv4Addr) (bits : ℕ) → IsIpv4OfBits a bits → ipv4_text (ipv4_octets a) ≡ address_text false bits
unfolding IsIpv4OfBits
dotted_text_of a bits is = ap ipv4_text is

pub groups_text_of : (a : Ipv6Addr) (bits : ℕ) → IsIpv6OfBits a bits → hex_groups_text (ipv6_segments a) ≡ address_text true bits
unfolding IsIpv6OfBits
groups_text_of a bits is = ap hex_groups_text is

-- The reader's answers: a text without a slash and one with a slash.
pub answers_without : (text : List ℕ) (o : Option Inet) → ((i : ℕ) → i < length text → get_or text i 0 ≢ 47)
    → MatchOption o ((v6 : Bool) (address : ℕ) → SpellsAddress v6 text address → ⊥) (λ inet. IsInet inet × SpellsAddress inet.v6 text inet.address × (inet.mask ≡ width inet.v6))
    → AnswersInet text (ok_or o NoValue)
answers_without text None bare none = λ inet s. elim s.mask [
  | inl whole ↦ none inet.v6 inet.address (let P : List ℕ → Type 0 = λ z. SpellsAddress inet.v6 z inet.address in subst P (sym (append-nil s.address_text) ∙ ap (λ (z : List ℕ). s.address_text ++ z) (sym whole.0) ∙ sym s.parts) s.address)
  | inr mask ↦ no_slash_inside s.address_text (decimal inet.mask) (subst NoSlash (s.parts ∙ ap (λ (z : List ℕ). s.address_text ++ z) mask.0) (no_slash_by_index text bare))
]
answers_without text (Some inet) bare found = (found.0, record { address_text = text; mask_text = []; parts = sym (append-nil text); address = found.1; mask = inl (refl, found.2) })

pub answers_with : (text address digits : List ℕ) (o : Option Inet) → text ≡ address ++ 47 ∷ digits → ((i : ℕ) → i < length address → get_or address i 0 ≢ 47)
    → MatchOption o ((inet : Inet) → SpellsAddress inet.v6 address inet.address → digits ≡ decimal inet.mask → inet.mask ≤ width inet.v6 → ⊥) (λ inet. IsInet inet × SpellsAddress inet.v6 address inet.address × (digits ≡ decimal inet.mask))
    → AnswersInet text (ok_or o NoValue)
answers_with text address digits None parts bare none = λ inet s. elim s.mask [
  | inl whole ↦
      let all : s.address_text ≡ address ++ 47 ∷ digits = sym (append-nil s.address_text) ∙ ap (λ (z : List ℕ). s.address_text ++ z) (sym whole.0) ∙ sym s.parts ∙ parts in
      no_slash_inside address digits (subst NoSlash all (address_no_slash inet.v6 s.address_text inet.address s.address))
  | inr mask ↦
      let all : s.address_text ++ 47 ∷ decimal inet.mask ≡ address ++ 47 ∷ digits = ap (λ (z : List ℕ). s.address_text ++ z) (sym mask.0) ∙ sym s.parts ∙ parts in
      let cut = one_cut s.address_text address (decimal inet.mask) digits (address_no_slash inet.v6 s.address_text inet.address s.address) (no_slash_by_index address bare) all in
      let P : List ℕ → Type 0 = λ z. SpellsAddress inet.v6 z inet.address in
      none inet (subst P cut.0 s.address) (sym cut.1) mask.1
]
answers_with text address digits (Some inet) parts bare found = (found.0, record { address_text = address; mask_text = 47 ∷ digits; parts = parts; address = found.1; mask = inr (ap (λ (z : List ℕ). 47 ∷ z) found.2, found.0.mask) })

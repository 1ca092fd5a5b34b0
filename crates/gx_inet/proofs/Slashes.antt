-- No address has a slash in its text, so the first slash ends it.
use Rattle.std.proofs.Common.{◌≡◌, ◌≢◌, ℕ, suc, ◌<◌, ◌≤◌, Bool, true, false, List, [], ◌∷◌, ◌++◌, length, get_or, decimal, codes, refl, sym, subst, arith, inl, inr}
use Rattle.std.specs.Char.{digit_value}
use Rattle.std.specs.Str.Parse.{AllDigits}
use Rattle.std.specs.Net.Grammar.{IsDotted, IsGroupsAfter, IsColonHex}
use Rattle.std.proofs.lemmas.Fmt.{decimal_is_IsNumeral}
use Rattle.gx_inet.specs.Text.{SpellsAddress}

-- the text has no slash
abbrev pub NoSlash : List ℕ → Type 0
NoSlash [] = Unit {0}
NoSlash (c ∷ cs) = (c ≢ 47) × NoSlash cs

pub no_slash-append : (xs ys : List ℕ) → NoSlash xs → NoSlash ys → NoSlash (xs ++ ys)
no_slash-append [] ys p q = q
no_slash-append (x ∷ xs) ys p q = (p.0, no_slash-append xs ys p.1 q)

pub no_slash_inside : (xs ys : List ℕ) → NoSlash (xs ++ 47 ∷ ys) → ⊥
no_slash_inside [] ys p = p.0 refl
no_slash_inside (x ∷ xs) ys p = no_slash_inside xs ys p.1

pub no_slash_by_index : (xs : List ℕ) → ((i : ℕ) → i < length xs → get_or xs i 0 ≢ 47) → NoSlash xs
no_slash_by_index [] h = tt
no_slash_by_index (x ∷ xs) h = (h 0 (omega arith), no_slash_by_index xs (λ i l. h (suc i) (omega arith)))

-- two texts that go on behind their first slash are one in both parts
pub one_cut : (a b x y : List ℕ) → NoSlash a → NoSlash b → a ++ 47 ∷ x ≡ b ++ 47 ∷ y → (a ≡ b) × (x ≡ y)
one_cut [] [] x y p q e = (refl, cc)
one_cut [] (b ∷ bs) x y p q e = let head : b ≡ 47 = cc in absurd (q.0 head)
one_cut (a ∷ front) [] x y p q e = let head : a ≡ 47 = cc in absurd (p.0 head)
one_cut (a ∷ front) (b ∷ bs) x y p q e =
    let head : a ≡ b = cc in
    let tail : front ++ 47 ∷ x ≡ bs ++ 47 ∷ y = cc in
    let rest = one_cut front bs x y p.1 q.1 tail in
    let lists : front ≡ bs = rest.0 in
    (cc, rest.1)

digits_no_slash : (radix : ℕ) (ds : List ℕ) → radix ≤ 36 → AllDigits radix ds → NoSlash ds
digits_no_slash radix [] most d = tt
digits_no_slash radix (c ∷ cs) most d = (λ e. let low : digit_value 47 < radix = subst (λ (x : ℕ). digit_value x < radix) e d.0 in omega arith, digits_no_slash radix cs most d.1)

decimal_no_slash : (n : ℕ) → n < 256 → NoSlash (decimal n)
decimal_no_slash n small = digits_no_slash 10 (decimal n) (omega arith) (decimal_is_IsNumeral n (omega arith)).0.1

dotted_no_slash : (text octets : List ℕ) → IsDotted text octets → NoSlash text
dotted_no_slash text octets h =
    let dot : NoSlash (codes ".") = (λ e. omega arith, tt) in
    let a = decimal_no_slash h.a h.fit.0 in
    let b = decimal_no_slash h.b h.fit.1 in
    let c = decimal_no_slash h.c h.fit.2 in
    let d = decimal_no_slash h.d h.fit.3 in
    subst NoSlash (sym h.spelled)
    (no_slash-append _ _ (no_slash-append _ _ (no_slash-append _ _ (no_slash-append _ _ (no_slash-append _ _ (no_slash-append _ _ a dot) b) dot) c) dot) d)

groups_no_slash : (ipv4 : Bool) (lead text segments : List ℕ) → NoSlash lead → IsGroupsAfter ipv4 lead text segments → NoSlash text
groups_no_slash ipv4 lead text [] l h = subst NoSlash (sym h) tt
groups_no_slash ipv4 lead text (s ∷ segments) l h =
    elim h [
      | inl (group, rest, parts, digits, more) ↦
          let colon : NoSlash (codes ":") = (λ e. omega arith, tt) in
          subst NoSlash (sym parts) (no_slash-append _ rest (no_slash-append lead group l (digits_no_slash 16 group (omega arith) digits.0.0.1)) (groups_no_slash ipv4 (codes ":") rest segments colon more))
      | inr (last, octets, four, parts, dotted, value) ↦ subst NoSlash (sym parts) (no_slash-append lead last l (dotted_no_slash last octets dotted))
    ]

colon_hex_no_slash : (text segments : List ℕ) → IsColonHex text segments → NoSlash text
colon_hex_no_slash text segments h =
    elim h [
      | inl full ↦ groups_no_slash true [] text segments tt full.0
      | inr elided ↦
          let colons : NoSlash (codes "::") = (λ e. omega arith, (λ e. omega arith, tt)) in
          subst NoSlash (sym elided.spelled) (no_slash-append _ elided.tail_text (no_slash-append elided.head_text _ (groups_no_slash false [] _ elided.head tt elided.head_groups) colons) (groups_no_slash true [] _ elided.tail tt elided.tail_groups))
    ]

pub address_no_slash : (v6 : Bool) (text : List ℕ) (address : ℕ) → SpellsAddress v6 text address → NoSlash text
address_no_slash false text address s = dotted_no_slash text _ s.1
address_no_slash true text address s = colon_hex_no_slash text _ s.1

-- What follows from the spelling of a varint and of a field.
use Rattle.std.proofs.Common.{◌≡◌, ℕ, zero, suc, ◌+◌, ◌*◌, ◌/◌, ◌%◌, ◌<◌, ◌≤◌, ◌^◌, true, false, cond, List, [], ◌∷◌, ◌++◌, length, take, drop, min, inl, inr, ◌⊎◌, take-append-drop, refl, sym, ◌∙◌, ap, ap₂, subst, arith, rules, length-append, append_assoc, length-take}
use Rattle.std.proofs.lemmas.List.{take-take, take_min, take_at, append_cancel_left, same_lists, places}
use Rattle.std.proofs.Common.{Option, None, Some, IfSome, IfNone, MatchOption}
use Rattle.std.specs.Prelude.{nat_lt}
use Rattle.std.proofs.lemmas.Bool.Decides.{nat_tests}
use Rattle.gx_bytes.specs.Varints.{IsVarint, AppendsVarint, IsField, groups, varint_bytes, field_bytes}

-- one byte more in front
pub varint_cons : (b n high : ℕ) (bytes : List ℕ) → 128 ≤ b → b < 256 → 0 < high → n + 128 ≡ b + 128 * high → IsVarint bytes high → IsVarint (b ∷ bytes) n
varint_cons b n high [] from below some is spelled = absurd spelled
varint_cons b n high (c ∷ bytes) from below some is spelled = (from, below, high, some, is, spelled)

-- what stands behind a first byte that isn't the last
pub record Rest (b n : ℕ) (bytes : List ℕ) : Type 0 where
  pub high : ℕ
  pub some : 0 < high
  pub is : n + 128 ≡ b + 128 * high
  pub spelled : IsVarint bytes high

pub varint_rest : (b n : ℕ) (bytes : List ℕ) → 128 ≤ b → IsVarint (b ∷ bytes) n → Rest b n bytes
varint_rest b n [] from spelled = absurd (omega (arith, spelled.0))
varint_rest b n (c ∷ bytes) from spelled = record { high = spelled.2; some = spelled.3; is = spelled.4; spelled = spelled.5 }

-- a first byte below 128 is the last
pub varint_last : (b n : ℕ) (bytes : List ℕ) → b < 128 → IsVarint (b ∷ bytes) n → (bytes ≡ []) × (n ≡ b)
varint_last b n [] small spelled = (refl, spelled.1)
varint_last b n (c ∷ bytes) small spelled = absurd (omega (arith, spelled.0))

-- a front of bytes which is a varint has their first byte
front_rest : (b : ℕ) (rest : List ℕ) (n len : ℕ) → 128 ≤ b → IsVarint (take len (b ∷ rest)) n → (k : ℕ) × Rest b n (take k rest)
front_rest b rest n zero from spelled = absurd spelled
front_rest b rest n (suc k) from spelled = (k, varint_rest b n (take k rest) from spelled)

pub front_cases : (bytes : List ℕ) (b : ℕ) (rest : List ℕ) (n len : ℕ) → bytes ≡ b ∷ rest → 128 ≤ b → IsVarint (take len bytes) n → (k : ℕ) × Rest b n (take k rest)
front_cases bytes b rest n len is from spelled = front_rest b rest n len from (subst (λ (l : List ℕ). IsVarint (take len l) n) is spelled)

-- a number below 128 ^ k has at most k bytes
is_short : (k n : ℕ) (bytes : List ℕ) → 0 < n → n < 128 ^ k → IsVarint bytes n → length bytes ≤ k
is_short k n [] some below spelled = absurd spelled
is_short zero n (b ∷ bytes) some below spelled = absurd (omega (arith, some, below))
is_short (suc k) n (b ∷ []) some below spelled = omega arith
is_short (suc k) n (b ∷ c ∷ bytes) some below spelled =
    let smaller : spelled.2 < 128 ^ k = grind (arith, spelled.4, spelled.1, below) in
    omega (arith, is_short k spelled.2 (c ∷ bytes) spelled.3 smaller spelled.5)

pub varint_short : (n : ℕ) (bytes : List ℕ) → n < 2 ^ 64 → IsVarint bytes n → length bytes ≤ 10
varint_short n [] fits spelled = absurd spelled
varint_short n (b ∷ []) fits spelled = omega arith
varint_short n (b ∷ c ∷ bytes) fits spelled =
    is_short 10 n (b ∷ c ∷ bytes) (omega (arith, spelled.0, spelled.3, spelled.4)) (omega (arith, fits)) spelled

-- a varint at the front is one at the front of the first ten bytes
pub varint_front : (bytes : List ℕ) (n len m : ℕ) → n < 2 ^ 64 → m ≡ min (length bytes) 10 → IsVarint (take len bytes) n → (k : ℕ) × IsVarint (take k (take m bytes)) n
varint_front bytes n len m fits is spelled =
    let k = length (take len bytes) in
    let short : k ≤ 10 = varint_short n (take len bytes) fits spelled in
    let within : k ≡ min len (length bytes) = length-take len bytes in
    let same : take k (take m bytes) ≡ take len bytes = take-take k m bytes (omega (arith, short, within, is)) ∙ ap (λ (j : ℕ). take j bytes) within ∙ take_min len bytes in
    (k, subst (λ (l : List ℕ). IsVarint l n) (sym same) spelled)

-- no spelling begins another
pub varints_same : (a b x y : List ℕ) (m n : ℕ) → IsVarint a m → IsVarint b n → a ++ x ≡ b ++ y → (a ≡ b) × (m ≡ n) × (x ≡ y)
varints_same [] b x y m n left right same = absurd left
varints_same (c ∷ a) [] x y m n left right same = absurd right
varints_same (c ∷ []) (d ∷ []) x y m n left right same =
    let heads : c ≡ d = cc in
    (ap (λ (h : ℕ). h ∷ []) heads, left.1 ∙ heads ∙ sym right.1, cc)
varints_same (c ∷ []) (d ∷ e ∷ b) x y m n left right same = let heads : c ≡ d = cc in absurd (omega (arith, left.0, right.0, heads))
varints_same (c ∷ e ∷ a) (d ∷ []) x y m n left right same = let heads : c ≡ d = cc in absurd (omega (arith, left.0, right.0, heads))
varints_same (c ∷ e ∷ a) (d ∷ f ∷ b) x y m n left right same =
    let heads : c ≡ d = cc in
    let tails : (e ∷ a) ++ x ≡ (f ∷ b) ++ y = cc in
    let rest = varints_same (e ∷ a) (f ∷ b) x y left.2 right.2 left.5 right.5 tails in
    let lists : c ∷ e ∷ a ≡ d ∷ f ∷ b = cc (heads, rest.0) in
    (lists, omega (arith, left.4, right.4, heads, rest.1), rest.2)

pub fields_same : (a b x y p q : List ℕ) → IsField a p → IsField b q → a ++ x ≡ b ++ y → (a ≡ b) × (p ≡ q) × (x ≡ y)
fields_same a b x y p q left right same =
    let whole : left.0 ++ (p ++ x) ≡ right.0 ++ (q ++ y) =
    sym (append_assoc left.0 p x) ∙ ap (λ (l : List ℕ). l ++ x) (sym left.2) ∙ same ∙ ap (λ (l : List ℕ). l ++ y) right.2 ∙ append_assoc right.0 q y in
    let counts = varints_same left.0 right.0 (p ++ x) (q ++ y) (length p) (length q) left.1 right.1 whole in
    let parts : p ≡ q = sym (take_at p x (length p) refl) ∙ ap (λ (l : List ℕ). take (length p) l) counts.2 ∙ take_at q y (length p) (sym counts.1) in
    let rests : x ≡ y = append_cancel_left p x y (counts.2 ∙ ap (λ (l : List ℕ). l ++ y) (sym parts)) in
    (left.2 ∙ cc (counts.0, parts) ∙ sym right.2, parts, rests)

-- where the number of the bytes behind the first is too small or too great, there is none
pub none_from_rest : (bytes : List ℕ) (b : ℕ) (rest : List ℕ) (n len high found : ℕ) → bytes ≡ b ∷ rest → 128 ≤ b → IsVarint (take found rest) high
    → (high ≡ 0) ⊎ (2 ^ 57 ≤ high) → n < 2 ^ 64 → IsVarint (take len bytes) n → ⊥
none_from_rest bytes b rest n len high found is from read bad fits spelled =
    let parts = front_cases bytes b rest n len is from spelled in
    let whole : take parts.0 rest ++ drop parts.0 rest ≡ take found rest ++ drop found rest = take-append-drop parts.0 rest ∙ sym (take-append-drop found rest) in
    let same = varints_same (take parts.0 rest) (take found rest) (drop parts.0 rest) (drop found rest) parts.1.high high parts.1.spelled read whole in
    elim bad [
      | inl none ↦ omega (arith, same.1, none, parts.1.some)
      | inr great ↦ omega (arith, same.1, great, parts.1.is, fits, from)
    ]

pub take_join : (m n : ℕ) (l : List ℕ) → take (m + n) l ≡ take m l ++ take n (drop m l)
take_join m n l = same_lists _ _ (search (rules, places)) (λ k d h. grind (arith, places))

-- a field at the front has its count at the front, and ends within the bytes
pub field_count : (bytes part : List ℕ) (len : ℕ) → IsField (take len bytes) part → (k : ℕ) × IsVarint (take k bytes) (length part) × (k + length part ≤ length bytes)
field_count bytes part len (count, spelled, is) =
    let k = length count in
    let size : k + length part ≡ min len (length bytes) = sym (length-append count part) ∙ sym (ap length is) ∙ length-take len bytes in
    let front : take k bytes ≡ count = sym (take-take k len bytes (omega (arith, size))) ∙ ap (λ (l : List ℕ). take k l) is ∙ take_at count part k refl in
    (k, subst (λ (l : List ℕ). IsVarint l (length part)) (sym front) spelled, omega (arith, size))

-- two varints at the front are one
pub fronts_same : (bytes : List ℕ) (j k m n : ℕ) → IsVarint (take j bytes) m → IsVarint (take k bytes) n → (take j bytes ≡ take k bytes) × (m ≡ n)
fronts_same bytes j k m n left right =
    let same = varints_same (take j bytes) (take k bytes) (drop j bytes) (drop k bytes) m n left right (take-append-drop j bytes ∙ sym (take-append-drop k bytes)) in
    (same.0, same.1)

pub none_weaker : {T P Q : Type 0} (o : Option T) → (P → Q) → IfNone o P → IfNone o Q
none_weaker None weaker p = weaker p
none_weaker (Some x) weaker p = p

pub one_varint : (a b : List ℕ) (n : ℕ) → IsVarint a n → IsVarint b n → a ≡ b
one_varint [] b n v w = absurd v
one_varint (c ∷ a) [] n v w = absurd w
one_varint (c ∷ []) (d ∷ []) n v w = ap (λ (x : ℕ). x ∷ []) (sym v.1 ∙ w.1)
one_varint (c ∷ []) (d ∷ e ∷ b) n v w = absurd (omega (arith, v.0, v.1, w.0, w.3, w.4))
one_varint (c ∷ e ∷ a) (d ∷ []) n v w = absurd (omega (arith, w.0, w.1, v.0, v.3, v.4))
one_varint (c ∷ e ∷ a) (d ∷ f ∷ b) n v w =
    let heads : c ≡ d = omega (arith, v.0, v.1, v.4, w.0, w.1, w.4) in
    let highs : v.2 ≡ w.2 = omega (arith, v.4, w.4, heads) in
    let P : ℕ → Type 0 = λ h. IsVarint (e ∷ a) h in
    ap₂ (λ (x : ℕ) (xs : List ℕ). x ∷ xs) heads (one_varint (e ∷ a) (f ∷ b) w.2 (subst P highs v.5) w.5)

pub one_field : (a b part : List ℕ) → IsField a part → IsField b part → a ≡ b
one_field a b part f g = f.2 ∙ ap (λ (l : List ℕ). l ++ part) (one_varint f.0 g.0 (length part) f.1 g.1) ∙ sym g.2

groups_are : (k n : ℕ) → n ≤ k → IsVarint (groups k n) n
groups_are zero n small = (omega arith, refl)
groups_are (suc k) n small =
    elim (nat_lt n 128) as (λ b. nat_lt n 128 ≡ b → IsVarint (cond b (n ∷ []) ((128 + n % 128) ∷ groups k (n / 128))) n) [
      | true ↦ λ e. (grind (arith, nat_tests), refl)
      | false ↦ λ e.
          let large : 128 ≤ n = grind (arith, nat_tests) in
          varint_cons (128 + n % 128) n (n / 128) (groups k (n / 128)) (omega arith) (omega arith) (omega arith) (omega arith) (groups_are k (n / 128) (omega arith))
    ] refl

pub varint_is : (n : ℕ) → IsVarint (varint_bytes n) n
unfolding varint_bytes
varint_is n = groups_are n n (omega arith)

pub varint_only : (bytes : List ℕ) (n : ℕ) → IsVarint bytes n → bytes ≡ varint_bytes n
varint_only bytes n spelled = one_varint bytes (varint_bytes n) n spelled (varint_is n)

pub field_is : (part : List ℕ) → IsField (field_bytes part) part
unfolding field_bytes
field_is part = (varint_bytes (length part), varint_is (length part), refl)

pub field_only : (bytes part : List ℕ) → IsField bytes part → bytes ≡ field_bytes part
field_only bytes part spelled = one_field bytes (field_bytes part) part spelled (field_is part)

-- a front that is a spelling, where the bytes begin with the spelling of n, is that one
front_again : (bytes rest : List ℕ) (n m len : ℕ) → bytes ≡ varint_bytes n ++ rest → len ≤ length bytes → IsVarint (take len bytes) m → (m ≡ n) × (len ≡ length (varint_bytes n))
front_again bytes rest n m len is within spelled =
    let same = varints_same (take len bytes) (varint_bytes n) (drop len bytes) rest m n spelled (varint_is n) (take-append-drop len bytes ∙ is) in
    (same.1, omega (arith, ap length same.0, length-take len bytes, within))

-- what is read of the first ten bytes is the number that the bytes begin with
pub number_again : (bytes rest : List ℕ) (n m : ℕ) (read : Option (ℕ × ℕ)) → n < 2 ^ 64 → m ≡ min (length bytes) 10 → bytes ≡ varint_bytes n ++ rest
    → IfSome read (λ found. found.1 ≤ length (take m bytes)) → IfSome read (λ found. IsVarint (take found.1 (take m bytes)) found.0) → IfNone read ((k len : ℕ) → k < 2 ^ 64 → IsVarint (take len (take m bytes)) k → ⊥)
    → MatchOption read ⊥ (λ found. (found.0 ≡ n) × (found.1 ≡ length (varint_bytes n)))
number_again bytes rest n m None fits least is within found none =
    let whole : take (length (varint_bytes n)) bytes ≡ varint_bytes n = ap (λ (l : List ℕ). take (length (varint_bytes n)) l) is ∙ take_at (varint_bytes n) rest (length (varint_bytes n)) refl in
    let at = varint_front bytes n (length (varint_bytes n)) m fits least (subst (λ (l : List ℕ). IsVarint l n) (sym whole) (varint_is n)) in
    none n at.0 fits at.1
number_again bytes rest n m (Some (k, len)) fits least is within found none =
    let size = length-take m bytes in
    let short : len ≤ m = omega (arith, within, size, least) in
    let same : take len (take m bytes) ≡ take len bytes = take-take len m bytes short in
    front_again bytes rest n k len is (omega (arith, short, least)) (subst (λ (l : List ℕ). IsVarint l k) same found)

-- bytes that begin with the field of a part begin with a field
pub field_there : (bytes part rest : List ℕ) → bytes ≡ field_bytes part ++ rest → ((p : List ℕ) (len : ℕ) → IsField (take len bytes) p → ⊥) → ⊥
field_there bytes part rest is none =
    let whole : take (length (field_bytes part)) bytes ≡ field_bytes part = ap (λ (l : List ℕ). take (length (field_bytes part)) l) is ∙ take_at (field_bytes part) rest (length (field_bytes part)) refl in
    none part (length (field_bytes part)) (subst (λ (l : List ℕ). IsField l part) (sym whole) (field_is part))

pub part_again : (bytes part rest found : List ℕ) (len : ℕ) → bytes ≡ field_bytes part ++ rest → len ≤ length bytes → IsField (take len bytes) found → (found ≡ part) × (len ≡ length (field_bytes part))
part_again bytes part rest found len is within spelled =
    let same = fields_same (take len bytes) (field_bytes part) (drop len bytes) rest found part spelled (field_is part) (take-append-drop len bytes ∙ is) in
    (same.1, omega (arith, ap length same.0, length-take len bytes, within))

-- what was appended is the spelling
pub appends_varint : (old new : List ℕ) (n : ℕ) → AppendsVarint old new n → new ≡ old ++ varint_bytes n
appends_varint old new n a = a.2 ∙ ap (λ (l : List ℕ). old ++ l) (varint_only a.0 n a.1)

pub after_count : (old counted new part : List ℕ) → counted ≡ old ++ varint_bytes (length part) → new ≡ counted ++ part → new ≡ old ++ field_bytes part
unfolding field_bytes
after_count old counted new part count is = is ∙ ap (λ (l : List ℕ). l ++ part) count ∙ append_assoc old (varint_bytes (length part)) part

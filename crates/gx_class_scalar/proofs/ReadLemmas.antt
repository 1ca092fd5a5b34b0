-- Bytes that spell no key of the type.
use Rattle.std.proofs.Common.{◌≡◌, ℕ, ◌^◌, ◌<◌, ◌≤◌, ◌⊎◌, inl, inr, Bool, true, false, nat_lt, List, [], ◌∷◌, ◌++◌, length, take, drop, refl, sym, ap, ap₂, subst, ◌∙◌, arith, true≢false, append-nil, take-append-drop, ℤ, ◌≤ℤ◌, ◌<ℤ◌, FitsSigned, of_z, w32, w64, Ordering, Less, Equal, Greater}
use Rattle.std.specs.Prelude.{Some, None}
use Rattle.std.specs.Int.{w128, to_le_bytes, to_be_bytes}
use Rattle.std.specs.Ordering.{nat_cmp, int_cmp, is_gt}
use Rattle.std.proofs.lemmas.Cmp.{ranked, int_ranked}
use Rattle.std.proofs.lemmas.Int.{ints}
use Rattle.gx_bytes.specs.Days.{IsDateDay}
use Rattle.gx_scalar.specs.declared.scalar.ScalarKind.{ScalarKind}
use Rattle.gx_scalar.specs.declared.scalar.ScalarKind.TheVariants as kinds
use Rattle.gx_class_scalar.specs.declared.key.Part.{Part}
use Rattle.gx_class_scalar.specs.declared.key.ScalarKey.{ScalarKey}
use Rattle.gx_class_scalar.specs.declared.key.ScalarKey.TheVariants.{Int4, Int8, Date, Uuid, Cut}
use Rattle.gx_class_scalar.specs.Orders.{IsAtMost}
use Rattle.gx_class_scalar.specs.Keys.{IsPart, IsKey, part_cmp, size_bytes, flag_of, part_bytes, spelled}
use Rattle.gx_class_scalar.specs.Readings.{ReadsTo, part_with}
use Rattle.gx_class_scalar.specs.Spellings.{four_same, eight_same, sixteen_same, size_at, spread, one_part, fits4, fits8, date_fits}

not_gt_int : (a b : ℤ) (r : Ordering) → r ≡ int_cmp a b → is_gt r ≡ false → b <ℤ a → ⊥
not_gt_int a b Less e h lt = let m = int_ranked a b Less e in omega (arith, ints)
not_gt_int a b Equal e h lt = let m = int_ranked a b Equal e in omega (arith, ints)
not_gt_int a b Greater e h lt = true≢false h

at_most_int : (a b : ℤ) (r : Ordering) → r ≡ int_cmp a b → a ≤ℤ b → is_gt r ≡ false
at_most_int a b Less e h = refl
at_most_int a b Equal e h = refl
at_most_int a b Greater e h = let m = int_ranked a b Greater e in absurd (omega (arith, ints))

not_gt_nat : (a b : ℕ) (r : Ordering) → r ≡ nat_cmp a b → is_gt r ≡ false → b < a → ⊥
not_gt_nat a b Less e h lt = let m = ranked a b Less e in omega arith
not_gt_nat a b Equal e h lt = let m = ranked a b Equal e in omega arith
not_gt_nat a b Greater e h lt = true≢false h

le_int : (a b : ℤ) → IsAtMost int_cmp a b → a ≤ℤ b
le_int a b h = le_of a b (int_cmp a b) refl h
  where
    le_of : (a b : ℤ) (r : Ordering) → r ≡ int_cmp a b → is_gt r ≡ false → a ≤ℤ b
    le_of a b Less e h = let m = int_ranked a b Less e in omega (arith, ints)
    le_of a b Equal e h = let m = int_ranked a b Equal e in omega (arith, ints)
    le_of a b Greater e h = absurd (true≢false h)

-- the lesser above the greater
pub int4_crossed : (bytes front back : List ℕ) (lo hi : ℤ) → FitsSigned w32 lo → FitsSigned w32 hi → front ≡ take 4 bytes → back ≡ drop 4 bytes
    → front ≡ to_le_bytes w32 (of_z w32 lo) → back ≡ to_le_bytes w32 (of_z w32 hi) → hi <ℤ lo → ReadsTo kinds.Int4 bytes None
int4_crossed bytes front back lo hi fl fh ef eb el eh lt (Int4 a b) p e =
    let low = four_same lo a fl (fits4 a p.1) (sym el ∙ ef ∙ ap (take 4) e) in
    let high = four_same hi b fh (fits4 b p.2) (sym eh ∙ eb ∙ ap (drop 4) e) in
    let P : ℤ → Type 0 = λ z. hi <ℤ z in
    let Q : ℤ → Type 0 = λ z. z <ℤ a in
    not_gt_int a b (int_cmp a b) refl p.3 (subst Q high (subst P low lt))
int4_crossed bytes front back lo hi fl fh ef eb el eh lt (Int8 a b) p e = cc p.0
int4_crossed bytes front back lo hi fl fh ef eb el eh lt (Date a b) p e = cc p.0
int4_crossed bytes front back lo hi fl fh ef eb el eh lt (Uuid a b) p e = cc p.0
int4_crossed bytes front back lo hi fl fh ef eb el eh lt (Cut a b) p e = elim p.0 [ inl k ↦ cc k | inr k ↦ cc k ]

pub int8_crossed : (bytes front back : List ℕ) (lo hi : ℤ) → FitsSigned w64 lo → FitsSigned w64 hi → front ≡ take 8 bytes → back ≡ drop 8 bytes
    → front ≡ to_le_bytes w64 (of_z w64 lo) → back ≡ to_le_bytes w64 (of_z w64 hi) → hi <ℤ lo → ReadsTo kinds.Int8 bytes None
int8_crossed bytes front back lo hi fl fh ef eb el eh lt (Int8 a b) p e =
    let low = eight_same lo a fl (fits8 a p.1) (sym el ∙ ef ∙ ap (take 8) e) in
    let high = eight_same hi b fh (fits8 b p.2) (sym eh ∙ eb ∙ ap (drop 8) e) in
    let P : ℤ → Type 0 = λ z. hi <ℤ z in
    let Q : ℤ → Type 0 = λ z. z <ℤ a in
    not_gt_int a b (int_cmp a b) refl p.3 (subst Q high (subst P low lt))
int8_crossed bytes front back lo hi fl fh ef eb el eh lt (Int4 a b) p e = cc p.0
int8_crossed bytes front back lo hi fl fh ef eb el eh lt (Date a b) p e = cc p.0
int8_crossed bytes front back lo hi fl fh ef eb el eh lt (Uuid a b) p e = cc p.0
int8_crossed bytes front back lo hi fl fh ef eb el eh lt (Cut a b) p e = elim p.0 [ inl k ↦ cc k | inr k ↦ cc k ]

pub int8_read : (bytes front back : List ℕ) (lo hi : ℤ) → FitsSigned w64 lo → FitsSigned w64 hi → front ≡ take 8 bytes → back ≡ drop 8 bytes
    → front ≡ to_le_bytes w64 (of_z w64 lo) → back ≡ to_le_bytes w64 (of_z w64 hi) → lo ≤ℤ hi → ReadsTo kinds.Int8 bytes (Some (Int8 lo hi))
int8_read bytes front back lo hi fl fh ef eb el eh le = (
  (refl, (omega (arith, ints), omega (arith, ints)), (omega (arith, ints), omega (arith, ints)), at_most_int lo hi (int_cmp lo hi) refl le),
  sym (take-append-drop 8 bytes) ∙ ap₂ (λ (x y : List ℕ). x ++ y) (sym ef ∙ el) (sym eb ∙ eh),
)

pub uuid_crossed : (bytes front back : List ℕ) (lo hi : ℕ) → lo < 2 ^ 128 → hi < 2 ^ 128 → front ≡ take 16 bytes → back ≡ drop 16 bytes
    → front ≡ to_be_bytes w128 lo → back ≡ to_be_bytes w128 hi → hi < lo → ReadsTo kinds.Uuid bytes None
uuid_crossed bytes front back lo hi fl fh ef eb el eh lt (Uuid a b) p e =
    let low = sixteen_same lo a fl p.1 (sym el ∙ ef ∙ ap (take 16) e) in
    let high = sixteen_same hi b fh p.2 (sym eh ∙ eb ∙ ap (drop 16) e) in
    not_gt_nat a b (nat_cmp a b) refl p.3 (omega arith)
uuid_crossed bytes front back lo hi fl fh ef eb el eh lt (Int4 a b) p e = cc p.0
uuid_crossed bytes front back lo hi fl fh ef eb el eh lt (Int8 a b) p e = cc p.0
uuid_crossed bytes front back lo hi fl fh ef eb el eh lt (Date a b) p e = cc p.0
uuid_crossed bytes front back lo hi fl fh ef eb el eh lt (Cut a b) p e = elim p.0 [ inl k ↦ cc k | inr k ↦ cc k ]

pub date_refused : (bytes front back : List ℕ) (lo hi : ℤ) → FitsSigned w32 lo → FitsSigned w32 hi → front ≡ take 4 bytes → back ≡ drop 4 bytes
    → front ≡ to_le_bytes w32 (of_z w32 lo) → back ≡ to_le_bytes w32 (of_z w32 hi) → (IsDateDay lo × IsDateDay hi × (lo ≤ℤ hi) → ⊥) → ReadsTo kinds.Date bytes None
date_refused bytes front back lo hi fl fh ef eb el eh none (Date a b) p e =
    let low = four_same lo a fl (date_fits a p.1) (sym el ∙ ef ∙ ap (take 4) e) in
    let high = four_same hi b fh (date_fits b p.2) (sym eh ∙ eb ∙ ap (drop 4) e) in
    let P : ℤ → Type 0 = λ z. IsDateDay z × IsDateDay hi × (z ≤ℤ hi) in
    let Q : ℤ → Type 0 = λ z. IsDateDay a × IsDateDay z × (a ≤ℤ z) in
    none (subst P (sym low) (subst Q (sym high) (p.1, p.2, le_int a b p.3)))
date_refused bytes front back lo hi fl fh ef eb el eh none (Int4 a b) p e = cc p.0
date_refused bytes front back lo hi fl fh ef eb el eh none (Int8 a b) p e = cc p.0
date_refused bytes front back lo hi fl fh ef eb el eh none (Uuid a b) p e = cc p.0
date_refused bytes front back lo hi fl fh ef eb el eh none (Cut a b) p e = elim p.0 [ inl k ↦ cc k | inr k ↦ cc k ]

-- a length without a flag behind the bytes
pub no_flag : (bytes behind rest : List ℕ) (size : ℕ) → size ≤ 900 → bytes ≡ size_bytes size ++ behind → rest ≡ drop size behind
    → ((more : Bool) (x : List ℕ) → rest ≡ flag_of more ∷ x → ⊥) → (p : Part) (x : List ℕ) → IsPart p → bytes ≡ part_bytes p ++ x → ⊥
no_flag bytes behind rest size small parts cut_ none p x v e =
    let both = sym parts ∙ e ∙ spread p x in
    let sizes = size_at size (length p.bytes) behind (p.bytes ++ flag_of p.more ∷ x) (nat_lt size 128) (nat_lt (length p.bytes) 128) refl refl small v.size both in
    none p.more x (cut_ ∙ ap₂ (λ k t. drop k t) sizes.0 sizes.1 ∙ dropped p.bytes (flag_of p.more ∷ x))
  where
    dropped : (a x : List ℕ) → drop (length a) (a ++ x) ≡ x
    dropped [] x = refl
    dropped (a ∷ as') x = dropped as' x

-- a key of a text or a byte string begins with the part that was read
record Second (low : Part) (behind : List ℕ) : Type 0 where
  high : Part
  valid : IsPart high
  bytes : behind ≡ part_bytes high
  rises : IsAtMost part_cmp low high

second_of : (kind : ScalarKind) (bytes behind : List ℕ) (low : Part) → (kind ≡ kinds.Text) ⊎ (kind ≡ kinds.Bytea) → IsPart low → bytes ≡ part_bytes low ++ behind
    → (key : ScalarKey) → IsKey kind key → bytes ≡ spelled key → Second low behind
second_of kind bytes behind low is v parts (Cut a b) p e =
    let same = one_part low a behind (part_bytes b) v p.1 (sym parts ∙ e) in
    let P : Part → Type 0 = λ t. IsAtMost part_cmp t b in
    record { high = b; valid = p.2; bytes = same.1; rises = subst P (sym same.0) p.3 }
second_of kind bytes behind low is v parts (Int4 a b) p e = elim is [ inl k ↦ cc (sym k ∙ p.0) | inr k ↦ cc (sym k ∙ p.0) ]
second_of kind bytes behind low is v parts (Int8 a b) p e = elim is [ inl k ↦ cc (sym k ∙ p.0) | inr k ↦ cc (sym k ∙ p.0) ]
second_of kind bytes behind low is v parts (Date a b) p e = elim is [ inl k ↦ cc (sym k ∙ p.0) | inr k ↦ cc (sym k ∙ p.0) ]
second_of kind bytes behind low is v parts (Uuid a b) p e = elim is [ inl k ↦ cc (sym k ∙ p.0) | inr k ↦ cc (sym k ∙ p.0) ]

pub no_second : (kind : ScalarKind) (bytes behind : List ℕ) (low : Part) → (kind ≡ kinds.Text) ⊎ (kind ≡ kinds.Bytea) → IsPart low → bytes ≡ part_bytes low ++ behind
    → ((p : Part) (x : List ℕ) → IsPart p → behind ≡ part_bytes p ++ x → ⊥) → ReadsTo kind bytes None
no_second kind bytes behind low is v parts none key p e =
    let s = second_of kind bytes behind low is v parts key p e in
    none s.high [] s.valid (s.bytes ∙ sym (append-nil (part_bytes s.high)))

pub more_behind : (kind : ScalarKind) (bytes behind rest : List ℕ) (low high : Part) → (kind ≡ kinds.Text) ⊎ (kind ≡ kinds.Bytea) → IsPart low → IsPart high → bytes ≡ part_bytes low ++ behind
    → behind ≡ part_bytes high ++ rest → (rest ≡ [] → ⊥) → ReadsTo kind bytes None
more_behind kind bytes behind rest low high is v w parts second some key p e =
    let s = second_of kind bytes behind low is v parts key p e in
    let same = one_part high s.high rest [] w s.valid (sym second ∙ s.bytes ∙ sym (append-nil (part_bytes s.high))) in
    some same.1

pub parts_crossed : (kind : ScalarKind) (bytes behind rest : List ℕ) (low high : Part) → (kind ≡ kinds.Text) ⊎ (kind ≡ kinds.Bytea) → IsPart low → IsPart high → bytes ≡ part_bytes low ++ behind
    → behind ≡ part_bytes high ++ rest → is_gt (part_cmp low high) ≡ true → ReadsTo kind bytes None
parts_crossed kind bytes behind rest low high is v w parts second above key p e =
    let s = second_of kind bytes behind low is v parts key p e in
    let same = one_part high s.high rest [] w s.valid (sym second ∙ s.bytes ∙ sym (append-nil (part_bytes s.high))) in
    let P : Part → Type 0 = λ t. IsAtMost part_cmp low t in
    true≢false (sym above ∙ subst P (sym same.0) s.rises)

-- One map to its bytes, one list of bytes to a map, and the steps of both.
use Rattle.std.proofs.Common.{◌≡◌, ◌≢◌, ℕ, ◌+◌, ◌<◌, List, [], ◌∷◌, ◌++◌, length, length-append, get_or, take, drop, take-append-drop, Option, None, Some, refl, sym, ap, ap₂, ◌∙◌, subst, arith, append_assoc, append-nil}
use Rattle.std.proofs.lemmas.List.{take_at, take_more}
use Rattle.gx_bytes.specs.Varints.{IsVarint, IsField, AppendsField}
use Rattle.gx_bytes.proofs.Spellings.{fields_same, one_field as same_field}
use Rattle.gx_hstore.specs.Map.{Pair, IsHstore}
use Rattle.gx_hstore.specs.Encoding.{IsValue, TakesEntry, IsEncoded, AppendsEncoded}
use Rattle.gx_hstore.specs.Steps.{TakesField, TakesValue, AppendsEntry}

-- ---- fields in front

pub field_taken : (bytes part : List ℕ) (len : ℕ) → IsField (take len bytes) part → TakesField bytes part (drop len bytes)
field_taken bytes part len f = (take len bytes, f, sym (take-append-drop len bytes))

pub no_field : (bytes : List ℕ) → ((part : List ℕ) (len : ℕ) → IsField (take len bytes) part → ⊥) → (part rest : List ℕ) → TakesField bytes part rest → ⊥
no_field bytes none part rest t =
    let P : List ℕ → Type 0 = λ f. IsField f part in
    let front : take (length t.0) bytes ≡ t.0 = ap (take (length t.0)) t.2 ∙ take_at t.0 rest (length t.0) refl in
    none part (length t.0) (subst P (sym front) t.1)

pub one_field : (bytes p q r s : List ℕ) → TakesField bytes p r → TakesField bytes q s → (p ≡ q) × (r ≡ s)
one_field bytes p q r s t u = let same = fields_same t.0 u.0 r s p q t.1 u.1 (sym t.2 ∙ u.2) in (same.1, same.2)

some_field : (field part : List ℕ) → IsField field part → 0 < length field
some_field field part (count, number, is) = let some = some_varint count (length part) number in omega (arith, some, ap length is, length-append count part)
  where
    some_varint : (count : List ℕ) (n : ℕ) → IsVarint count n → 0 < length count
    some_varint [] n v = absurd v
    some_varint (b ∷ count) n v = omega arith

-- ---- values in front

pub value_taken : (bytes inner part rest : List ℕ) → bytes ≡ 1 ∷ inner → TakesField inner part rest → TakesValue bytes (Some part) rest
value_taken bytes inner part rest e t = (1 ∷ t.0, (t.0, t.1, refl), e ∙ ap (λ (l : List ℕ). 1 ∷ l) t.2)

pub no_value : (bytes : List ℕ) → ((rest : List ℕ) → bytes ≢ 0 ∷ rest) → ((rest : List ℕ) → bytes ≢ 1 ∷ rest) → (value : Option (List ℕ)) (rest : List ℕ) → TakesValue bytes value rest → ⊥
no_value bytes zeros ones None rest t = zeros rest (t.2 ∙ ap (λ (l : List ℕ). l ++ rest) t.1)
no_value bytes zeros ones (Some value) rest t = let inner = t.1 in ones (inner.0 ++ rest) (t.2 ∙ ap (λ (l : List ℕ). l ++ rest) inner.2)

pub no_value_field : (bytes inner : List ℕ) → bytes ≡ 1 ∷ inner → ((part rest : List ℕ) → TakesField inner part rest → ⊥) → (value : Option (List ℕ)) (rest : List ℕ) → TakesValue bytes value rest → ⊥
no_value_field bytes inner e none None rest t =
    let heads : 1 ∷ inner ≡ 0 ∷ rest = sym e ∙ t.2 ∙ ap (λ (l : List ℕ). l ++ rest) t.1 in
    let one : ℕ = 1 in
    let head : one ≡ 0 = cc in
    omega (arith, head)
no_value_field bytes inner e none (Some value) rest t =
    let field = t.1 in
    let both : 1 ∷ inner ≡ 1 ∷ (field.0 ++ rest) = sym e ∙ t.2 ∙ ap (λ (l : List ℕ). l ++ rest) field.2 in
    let tail : inner ≡ field.0 ++ rest = cc in
    none value rest (field.0, field.1, tail)

pub one_value : (bytes : List ℕ) (v w : Option (List ℕ)) (r s : List ℕ) → TakesValue bytes v r → TakesValue bytes w s → (v ≡ w) × (r ≡ s)
one_value bytes None None r s t u =
    let both : 0 ∷ r ≡ 0 ∷ s = ap (λ (l : List ℕ). l ++ r) (sym t.1) ∙ sym t.2 ∙ u.2 ∙ ap (λ (l : List ℕ). l ++ s) u.1 in
    (refl, cc)
one_value bytes None (Some w) r s t u = absurd (null_or_value bytes w r s t u)
  where
    null_or_value : (bytes w r s : List ℕ) → TakesValue bytes None r → TakesValue bytes (Some w) s → ⊥
    null_or_value bytes w r s t u =
        let inner = u.1 in
        let zero : ℕ = 0 in
        let both : zero ∷ r ≡ 1 ∷ (inner.0 ++ s) = ap (λ (l : List ℕ). l ++ r) (sym t.1) ∙ sym t.2 ∙ u.2 ∙ ap (λ (l : List ℕ). l ++ s) inner.2 in
        let head : zero ≡ 1 = cc in
        omega (arith, head)
one_value bytes (Some v) None r s t u = absurd (value_or_null bytes v r s t u)
  where
    value_or_null : (bytes v r s : List ℕ) → TakesValue bytes (Some v) r → TakesValue bytes None s → ⊥
    value_or_null bytes v r s t u =
        let inner = t.1 in
        let one : ℕ = 1 in
        let both : one ∷ (inner.0 ++ r) ≡ 0 ∷ s = ap (λ (l : List ℕ). l ++ r) (sym inner.2) ∙ sym t.2 ∙ u.2 ∙ ap (λ (l : List ℕ). l ++ s) u.1 in
        let head : one ≡ 0 = cc in
        omega (arith, head)
one_value bytes (Some v) (Some w) r s t u =
    let f = t.1 in
    let g = u.1 in
    let both : 1 ∷ (f.0 ++ r) ≡ 1 ∷ (g.0 ++ s) = ap (λ (l : List ℕ). l ++ r) (sym f.2) ∙ sym t.2 ∙ u.2 ∙ ap (λ (l : List ℕ). l ++ s) g.2 in
    let tail : f.0 ++ r ≡ g.0 ++ s = cc in
    let same = fields_same f.0 g.0 r s v w f.1 g.1 tail in
    (ap Some same.1, same.2)

-- ---- entries in front

entry_parts : (bytes : List ℕ) (p : Pair) (rest : List ℕ) → TakesEntry bytes p rest → (behind : List ℕ) × TakesField bytes p.0 behind × TakesValue behind p.1 rest
entry_parts bytes p rest t = (t.value ++ rest, (t.key, t.key_is, t.parts), (t.value, t.value_is, refl))

pub no_entry_key : (bytes : List ℕ) → ((part rest : List ℕ) → TakesField bytes part rest → ⊥) → (p : Pair) (rest : List ℕ) → TakesEntry bytes p rest → ⊥
no_entry_key bytes none p rest t = let parts = entry_parts bytes p rest t in none p.0 parts.0 parts.1

pub no_entry_value : (bytes key behind : List ℕ) → TakesField bytes key behind → ((value : Option (List ℕ)) (rest : List ℕ) → TakesValue behind value rest → ⊥) → (p : Pair) (rest : List ℕ) → TakesEntry bytes p rest → ⊥
no_entry_value bytes key behind f none p rest t =
    let parts = entry_parts bytes p rest t in
    let same : parts.0 ≡ behind = (one_field bytes p.0 key parts.0 behind parts.1 f).1 in
    let P : List ℕ → Type 0 = λ b. TakesValue b p.1 rest in
    none p.1 rest (subst P same parts.2)

one_entry : (bytes : List ℕ) (p q : Pair) (r s : List ℕ) → TakesEntry bytes p r → TakesEntry bytes q s → (p ≡ q) × (r ≡ s)
one_entry bytes p q r s t u =
    let x = entry_parts bytes p r t in
    let y = entry_parts bytes q s u in
    let keys = one_field bytes p.0 q.0 x.0 y.0 x.1 y.1 in
    let P : List ℕ → Type 0 = λ b. TakesValue b p.1 r in
    let values = one_value y.0 p.1 q.1 r s (subst P keys.1 x.2) y.2 in
    (ap₂ (λ (k : List ℕ) (v : Option (List ℕ)). (k, v)) keys.0 values.0, values.1)

pub length-entry : (bytes : List ℕ) (p : Pair) (rest : List ℕ) → TakesEntry bytes p rest → length rest < length bytes
length-entry bytes p rest t = omega (arith, some_field t.key p.0 t.key_is, ap length t.parts, length-append t.key (t.value ++ rest), length-append t.value rest)

-- ---- steps of the decoder

pub entry_found : (bytes more : List ℕ) (p : Pair) → TakesEntry bytes p more → (later : List Pair) → IsEncoded more later → IsEncoded bytes (p ∷ later)
entry_found bytes more p t later e = (more, t, e)

pub entry_only : (bytes more : List ℕ) (p : Pair) → TakesEntry bytes p more → (all : List Pair) → IsEncoded bytes all → (later : List Pair) × IsEncoded more later × (all ≡ p ∷ later)
entry_only bytes more p t [] e = absurd (omega (arith, length-entry bytes p more t, ap length e))
entry_only bytes more p t (q ∷ all) e =
    let one = one_entry bytes q p e.0 more e.1 t in
    let P : List ℕ → Type 0 = λ b. IsEncoded b all in
    (all, subst P one.1 e.2, ap (λ (x : Pair). x ∷ all) one.0)

pub no_entries : (bytes : List ℕ) → 0 < length bytes → ((p : Pair) (rest : List ℕ) → TakesEntry bytes p rest → ⊥) → (all : List Pair) → IsEncoded bytes all → ⊥
no_entries bytes some none [] e = omega (arith, some, ap length e)
no_entries bytes some none (p ∷ all) e = none p e.0 e.1

-- ---- one map to its bytes

pub one_map_encoded : (bytes : List ℕ) (a b : List Pair) → IsEncoded bytes a → IsEncoded bytes b → a ≡ b
one_map_encoded bytes [] [] e f = refl
one_map_encoded bytes [] (q ∷ b) e f = absurd (omega (arith, length-entry bytes q f.0 f.1, ap length e))
one_map_encoded bytes (p ∷ a) [] e f = absurd (omega (arith, length-entry bytes p e.0 e.1, ap length f))
one_map_encoded bytes (p ∷ a) (q ∷ b) e f =
    let one = one_entry bytes p q e.0 f.0 e.1 f.1 in
    let P : List ℕ → Type 0 = λ l. IsEncoded l a in
    ap₂ (λ (x : Pair) (xs : List Pair). x ∷ xs) one.0 (one_map_encoded f.0 a b (subst P one.1 e.2) f.2)

-- pairs that are no valid map, and no other map
pub not_valid : (bytes : List ℕ) (pairs : List Pair) → IsEncoded bytes pairs → (IsHstore pairs → ⊥) → (hstore : List Pair) → IsHstore hstore → IsEncoded bytes hstore → ⊥
not_valid bytes pairs e none hstore v f = none (subst IsHstore (one_map_encoded bytes hstore pairs f e) v)

-- ---- one list of bytes to a map

value_bytes : (a b : List ℕ) (value : Option (List ℕ)) → IsValue a value → IsValue b value → a ≡ b
value_bytes a b None v w = v ∙ sym w
value_bytes a b (Some value) v w = v.2 ∙ ap (λ (l : List ℕ). 1 ∷ l) (same_field v.0 w.0 value v.1 w.1) ∙ sym w.2

pub one_bytes : (a b : List ℕ) (hstore : List Pair) → IsEncoded a hstore → IsEncoded b hstore → a ≡ b
one_bytes a b [] e f = e ∙ sym f
one_bytes a b (p ∷ pairs) e f =
    let t = e.1 in
    let u = f.1 in
    t.parts ∙ ap₂ (λ (x y : List ℕ). x ++ y) (same_field t.key u.key p.0 t.key_is u.key_is) (ap₂ (λ (x y : List ℕ). x ++ y) (value_bytes t.value u.value p.1 t.value_is u.value_is) (one_bytes e.0 f.0 pairs e.2 f.2)) ∙ sym u.parts

-- ---- steps of the encoder

pub null_appended : (old mid new key : List ℕ) (p : Pair) → p.1 ≡ None → key ≡ p.0 → AppendsField old mid key → new ≡ mid ++ 0 ∷ [] → AppendsEntry old new p
null_appended old mid new key p n k f e =
    let P : List ℕ → Type 0 = λ l. IsField f.0 l in
    let Q : Option (List ℕ) → Type 0 = λ v. IsValue (0 ∷ []) v in
    (f.0 ++ 0 ∷ [], record { key = f.0; key_is = subst P k f.1; value = 0 ∷ []; value_is = subst Q (sym n) refl; parts = refl }, e ∙ ap (λ (l : List ℕ). l ++ 0 ∷ []) f.2 ∙ append_assoc old f.0 (0 ∷ []))

pub value_appended : (old mid next new key value : List ℕ) (p : Pair) → p.1 ≡ Some value → key ≡ p.0 → AppendsField old mid key → next ≡ mid ++ 1 ∷ [] → AppendsField next new value → AppendsEntry old new p
value_appended old mid next new key value p n k f e g =
    let P : List ℕ → Type 0 = λ l. IsField f.0 l in
    let Q : Option (List ℕ) → Type 0 = λ v. IsValue (1 ∷ g.0) v in (
      f.0 ++ 1 ∷ g.0,
      record { key = f.0; key_is = subst P k f.1; value = 1 ∷ g.0; value_is = subst Q (sym n) (g.0, g.1, refl); parts = ap (λ (l : List ℕ). f.0 ++ l) (sym (append-nil (1 ∷ g.0))) },
      g.2 ∙ ap (λ (l : List ℕ). l ++ g.0) (e ∙ ap (λ (l : List ℕ). l ++ 1 ∷ []) f.2) ∙ append_assoc (old ++ f.0) (1 ∷ []) g.0 ∙ append_assoc old f.0 (1 ∷ g.0),
    )

-- an entry behind entries
encoded_more : (bytes last : List ℕ) (pairs : List Pair) (p : Pair) → IsEncoded bytes pairs → TakesEntry last p [] → IsEncoded (bytes ++ last) (pairs ++ p ∷ [])
encoded_more bytes last [] p e t = let P : List ℕ → Type 0 = λ b. IsEncoded (b ++ last) (p ∷ []) in subst P (sym e) ([], t, refl)
encoded_more bytes last (q ∷ pairs) p e t =
    let u = e.1 in (
      e.0 ++ last,
      record {
        key = u.key;
        key_is = u.key_is;
        value = u.value;
        value_is = u.value_is;
        parts = ap (λ (l : List ℕ). l ++ last) u.parts ∙ append_assoc u.key (u.value ++ e.0) last ∙ ap (λ (l : List ℕ). u.key ++ l) (append_assoc u.value e.0 last);
      },
      encoded_more e.0 last pairs p e.2 t,
    )

pub entry_appended_at : (old mid new : List ℕ) (pairs : List Pair) (i : ℕ) (p : Pair) → i < length pairs → p ≡ get_or pairs i p → AppendsEncoded old mid (take i pairs) → AppendsEntry mid new p → AppendsEncoded old new (take (i + 1) pairs)
entry_appended_at old mid new pairs i p within is e t =
    let more : take (i + 1) pairs ≡ take i pairs ++ p ∷ [] = take_more pairs i p within ∙ ap (λ (x : Pair). take i pairs ++ x ∷ []) (sym is) in
    let P : List Pair → Type 0 = λ l. AppendsEncoded old new l in
    subst P (sym more) (entry_appended old mid new (take i pairs) p e t)
  where
    entry_appended : (old mid new : List ℕ) (pairs : List Pair) (p : Pair) → AppendsEncoded old mid pairs → AppendsEntry mid new p → AppendsEncoded old new (pairs ++ p ∷ [])
    entry_appended old mid new pairs p e t =
        (e.0 ++ t.0, encoded_more e.0 t.0 pairs p e.1 t.1, t.2 ∙ ap (λ (l : List ℕ). l ++ t.0) e.2 ∙ append_assoc old e.0 t.0)

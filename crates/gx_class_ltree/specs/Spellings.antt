-- Keys as bytes: each has one spelling.
use Rattle.std.specs.Prelude.{◌≡◌, ◌≢◌, ℕ, suc, ◌+◌, ◌≤◌, Bool, true, false, List, [], ◌∷◌, ◌++◌, length, Option, Some, None, refl}
use Rattle.std.proofs.Common.{sym, ap, ◌∙◌, inl, inr, arith, append_assoc, length-append}
use Rattle.std.proofs.lemmas.List.Sums.{sum_by-cons}
use Rattle.gx_bytes.specs.Varints.{varint_bytes, field_bytes}
use Rattle.gx_bytes.proofs.Spellings.{varint_is, varint_short, field_is, fields_same}
use Rattle.gx_ltree.specs.Text.{printed, dots}
use Rattle.gx_ltree.proofs.TextLemmas.{one_path, printed_parts}
use Rattle.gx_sig.specs.BitSets.{IsSignatureLength}
use Rattle.gx_class_ltree.specs.declared.key.Part.{Part}
use Rattle.gx_class_ltree.specs.declared.key.LtreeKey.{LtreeKey}
use Rattle.gx_class_ltree.specs.Keys.{room_of, IsPart, IsKey}

-- a byte 1 where a path goes on, else 0
abbrev pub flag : Bool → ℕ
flag true = 1
flag false = 0

-- the text of a part's path as a field, and whether it goes on
abbrev pub part_bytes : Part → List ℕ
part_bytes p = field_bytes (printed p.path) ++ flag p.cut ∷ []

-- the least part, the greatest part, and the bytes of the signature
abbrev pub spelled : {n : ℕ} → LtreeKey n → List ℕ
spelled k = part_bytes k.low ++ (part_bytes k.high ++ k.sig)

-- the same by the texts
abbrev pub texts_bytes : List ℕ → Bool → List ℕ → Bool → List ℕ → List ℕ
texts_bytes low low_cut high high_cut sig = field_bytes low ++ flag low_cut ∷ (field_bytes high ++ flag high_cut ∷ sig)

-- the valid key with these bytes, or none where they spell no key
abbrev pub ReadsTo : (n : ℕ) → List ℕ → Option (LtreeKey n) → Type 0
ReadsTo n bytes None = (key : LtreeKey n) → IsKey n key → bytes ≢ spelled key
ReadsTo n bytes (Some key) = IsKey n key × (bytes ≡ spelled key)

part_before : (p : Part) (rest : List ℕ) → part_bytes p ++ rest ≡ field_bytes (printed p.path) ++ flag p.cut ∷ rest
part_before p rest = append_assoc (field_bytes (printed p.path)) (flag p.cut ∷ []) rest

pub spelled_texts : {n : ℕ} (k : LtreeKey n) → spelled k ≡ texts_bytes (printed k.low.path) k.low.cut (printed k.high.path) k.high.cut k.sig
spelled_texts k =
    part_before k.low (part_bytes k.high ++ k.sig) ∙ ap (λ (x : List ℕ). field_bytes (printed k.low.path) ++ flag k.low.cut ∷ x) (part_before k.high k.sig)

-- What stands at the front is one text and one flag.
flag_same : (a b : Bool) → flag a ≡ flag b → a ≡ b
flag_same true true e = refl
flag_same true false e = absurd (omega (arith, e))
flag_same false true e = absurd (omega (arith, e))
flag_same false false e = refl

pub one_text : (p q x y : List ℕ) (a b : Bool) → field_bytes p ++ flag a ∷ x ≡ field_bytes q ++ flag b ∷ y → (p ≡ q) × (a ≡ b) × (x ≡ y)
one_text p q x y a b e =
    let same = fields_same (field_bytes p) (field_bytes q) (flag a ∷ x) (flag b ∷ y) p q (field_is p) (field_is q) e in
    let head : flag a ≡ flag b = cc same.2 in
    let tail : x ≡ y = cc same.2 in
    (same.1, flag_same a b head, tail)

pub one_part : (p q : Part) → IsPart p → IsPart q → printed p.path ≡ printed q.path → p.cut ≡ q.cut → p ≡ q
one_part p q v w e f =
    let same = one_path (printed p.path) p.path q.path (record { valid = v.valid; is = refl }) (record { valid = w.valid; is = e }) in
    λ i. record { path = same i; cut = f i }

pub one_spelling : (n : ℕ) (a b : LtreeKey n) → IsKey n a → IsKey n b → spelled a ≡ spelled b → a ≡ b
one_spelling n a b p q e =
    let all = sym (spelled_texts a) ∙ e ∙ spelled_texts b in
    let first = one_text (printed a.low.path) (printed b.low.path) (field_bytes (printed a.high.path) ++ flag a.high.cut ∷ a.sig) (field_bytes (printed b.high.path) ++ flag b.high.cut ∷ b.sig) a.low.cut b.low.cut all in
    let second = one_text (printed a.high.path) (printed b.high.path) a.sig b.sig a.high.cut b.high.cut first.2 in
    let low = one_part a.low b.low p.low q.low first.0 first.1 in
    let high = one_part a.high b.high p.high q.high second.0 second.1 in
    let sig : a.sig ≡ b.sig = second.2 in
    λ i. record { low = low i; high = high i; sig = sig i }

-- A text takes less than its part has room for.
room-label : (label : List ℕ) (path : List (List ℕ)) → room_of (label ∷ path) ≡ length label + 2 + room_of path
room-label label path = sum_by-cons (λ (l : List ℕ). length l + 2) label path

less : (l d r all room : ℕ) → all ≡ suc (l + d) → room ≡ l + 2 + r → d ≤ r → all ≤ room
less l d r all room e f h = omega (arith, e, f, h)

less_yet : (l d r all room : ℕ) → all ≡ l + d → room ≡ l + 2 + r → d ≤ r → all ≤ room
less_yet l d r all room e f h = omega (arith, e, f, h)

length-dots : (path : List (List ℕ)) → length (dots path) ≤ room_of path
length-dots [] = omega arith
length-dots (label ∷ path) =
    less (length label) (length (dots path)) (room_of path) (length (dots (label ∷ path))) (room_of (label ∷ path)) (ap suc (length-append label (dots path))) (room-label label path) (length-dots path)

length-printed : (path : List (List ℕ)) → length (printed path) ≤ room_of path
length-printed [] = omega arith
length-printed (label ∷ path) =
    less_yet (length label) (length (dots path)) (room_of path) (length (printed (label ∷ path))) (room_of (label ∷ path)) (ap length (printed_parts label path) ∙ length-append label (dots path)) (room-label label path)
    (length-dots path)

length-field : (text : List ℕ) → length text ≤ 600 → length (field_bytes text) ≤ 610
unfolding field_bytes
length-field text few =
    let count = varint_short (length text) (varint_bytes (length text)) (omega (arith, few)) (varint_is (length text)) in
    omega (arith, count, few, length-append (varint_bytes (length text)) text)

part_short : (p : Part) → IsPart p → length (part_bytes p) ≤ 611
part_short p v =
    let text = length-printed p.path in
    let room = v.short in
    let few = length-field (printed p.path) (omega (arith, text, room)) in
    omega (arith, few, length-append (field_bytes (printed p.path)) (flag p.cut ∷ []))

short_sig : (n : ℕ) → IsSignatureLength n → n ≤ 252
short_sig n = elim [
  | inl e ↦ omega (arith, e)
  | inr (inl e) ↦ omega (arith, e)
  | inr (inr (inl e)) ↦ omega (arith, e)
  | inr (inr (inr (inl e))) ↦ omega (arith, e)
  | inr (inr (inr (inr (inl e)))) ↦ omega (arith, e)
  | inr (inr (inr (inr (inr (inl e))))) ↦ omega (arith, e)
  | inr (inr (inr (inr (inr (inr (inl e)))))) ↦ omega (arith, e)
  | inr (inr (inr (inr (inr (inr (inr e)))))) ↦ omega (arith, e)
]

pub short_spelling : (n : ℕ) (k : LtreeKey n) → IsSignatureLength n → IsKey n k → length (spelled k) ≤ 1900
short_spelling n k long p =
    let low = part_short k.low p.low in
    let high = part_short k.high p.high in
    let few = short_sig n long in
    let sig = p.sig.long in
    omega (arith, low, high, few, sig, length-append (part_bytes k.low) (part_bytes k.high ++ k.sig), length-append (part_bytes k.high) k.sig)

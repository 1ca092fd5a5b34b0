-- The bytes of an array are its own.
use Rattle.std.proofs.Common.{◌≡◌, ◌≢◌, ℕ, ◌+◌, ◌*◌, ◌^◌, ◌<◌, Result, Ok, Err, OnOk, List, [], ◌∷◌, ◌++◌, length, take, drop, refl, sym, ap, ap₂, ◌∙◌, subst, arith, append_assoc, append-nil, length-append, take-append-drop, ℤ, FitsSigned, w32, of_z, to_z, to_z-of_z}
use Rattle.std.proofs.Math.Facts.{Fits-of_z}
use Rattle.std.specs.Int.{from_le_bytes}
use Rattle.std.proofs.lemmas.Int.{ints}
use Rattle.std.proofs.lemmas.Nat.{from_le_bytes-to_le_bytes_4}
use borrow.Author.Differences.{fits_in}
use Rattle.gx_bytes.specs.Varints.{IsVarint, AppendsVarint}
use Rattle.gx_bytes.proofs.Spellings.{varints_same}
use Rattle.gx_intarr.specs.Arrays.{IsInt4, IsArray, number_bytes, items_bytes, IsEncoding, AppendsArray}

pub int4_fits : (n : ℤ) → IsInt4 n → FitsSigned w32 n
int4_fits n w = fits_in w32 n (omega (arith, ints, w.0, w.1))

four_same : (m n : ℤ) → IsInt4 m → IsInt4 n → number_bytes m ≡ number_bytes n → m ≡ n
four_same m n v w e =
    let fm = int4_fits m v in
    let fn = int4_fits n w in
    let a = Fits-of_z fm in
    let b = Fits-of_z fn in
    let bits : of_z w32 m ≡ of_z w32 n =
    sym (from_le_bytes-to_le_bytes_4 (of_z w32 m) (omega (arith, a))) ∙ ap (from_le_bytes w32) e ∙ from_le_bytes-to_le_bytes_4 (of_z w32 n) (omega (arith, b)) in
    sym (to_z-of_z fm) ∙ ap (to_z w32) bits ∙ to_z-of_z fn

length-number : (n : ℤ) (rest : List ℕ) → length (number_bytes n ++ rest) ≡ length rest + 4
length-number n rest = omega arith

pub length-items : (items : List ℤ) → length (items_bytes items) ≡ length items * 4
length-items [] = refl
length-items (n ∷ items) = omega (arith, length-number n (items_bytes items), length-items items)

one_items : (a b : List ℤ) → IsArray a → IsArray b → items_bytes a ≡ items_bytes b → a ≡ b
one_items [] [] p q e = refl
one_items [] (n ∷ b) p q e = absurd (omega (arith, ap length e, length-number n (items_bytes b)))
one_items (m ∷ a) [] p q e = absurd (omega (arith, ap length e, length-number m (items_bytes a)))
one_items (m ∷ a) (n ∷ b) p q e =
    let front : number_bytes m ≡ number_bytes n = ap (take 4) e in
    let rest : items_bytes a ≡ items_bytes b = ap (drop 4) e in
    ap₂ (λ (c : ℤ) (cs : List ℤ). c ∷ cs) (four_same m n p.0 q.0 front) (one_items a b p.1 q.1 rest)

pub one_encoding : (bytes : List ℕ) (a b : List ℤ) → IsArray a → IsArray b → IsEncoding bytes a → IsEncoding bytes b → a ≡ b
one_encoding bytes a b p q s t =
    one_items a b p q (varints_same s.0 t.0 (items_bytes a) (items_bytes b) (length a) (length b) s.1 t.1 (sym s.2 ∙ t.2)).2

-- the numbers read so far, and the rest
pub record HasItems (bytes : List ℕ) (items : List ℤ) (rest : List ℕ) : Type 0 where
  pub valid : IsArray items
  pub parts : bytes ≡ items_bytes items ++ rest

array-push : (items : List ℤ) (n : ℤ) → IsArray items → IsInt4 n → IsArray (items ++ n ∷ [])
array-push [] n p q = (q, tt)
array-push (m ∷ items) n p q = (p.0, array-push items n p.1 q)

items_bytes-push : (items : List ℤ) (n : ℤ) (rest : List ℕ) → items_bytes (items ++ n ∷ []) ++ rest ≡ items_bytes items ++ (number_bytes n ++ rest)
items_bytes-push [] n rest = ap (λ (x : List ℕ). x ++ rest) (append-nil (number_bytes n))
items_bytes-push (m ∷ items) n rest =
    append_assoc (number_bytes m) (items_bytes (items ++ n ∷ [])) rest ∙ ap (λ (x : List ℕ). number_bytes m ++ x) (items_bytes-push items n rest) ∙ sym (append_assoc (number_bytes m) (items_bytes items) (number_bytes n ++ rest))

-- where one to three bytes are left, the bytes are no numbers
pub bytes_left : (bytes rest : List ℕ) (items : List ℤ) → HasItems bytes items rest → 0 < length rest → length rest < 4 → (others : List ℤ) → bytes ≡ items_bytes others → ⊥
bytes_left bytes rest items h some few others e =
    omega (arith, ap length h.parts, ap length e, length-append (items_bytes items) rest, length-items items, length-items others)

-- the count of an encoding is at its front
front_is : (count rest : List ℕ) → take (length count) (count ++ rest) ≡ count
front_is [] rest = refl
front_is (c ∷ count) rest = ap (λ (x : List ℕ). c ∷ x) (front_is count rest)

pub no_count : (bytes : List ℕ) → length bytes < 2 ^ 64 → ((n len : ℕ) → n < 2 ^ 64 → IsVarint (take len bytes) n → ⊥) → (items : List ℤ) → IsArray items → IsEncoding bytes items → ⊥
no_count bytes small none items valid s =
    let few : length items < 2 ^ 64 = omega (arith, ap length s.2, length-append s.0 (items_bytes items), length-items items) in
    let same : take (length s.0) bytes ≡ s.0 = ap (take (length s.0)) s.2 ∙ front_is s.0 (items_bytes items) in
    none (length items) (length s.0) few (subst (λ (x : List ℕ). IsVarint x (length items)) (sym same) s.1)

-- the count that was read, and what stands behind it
behind_count : (bytes : List ℕ) (n len : ℕ) (items : List ℤ) → IsVarint (take len bytes) n → IsEncoding bytes items → (n ≡ length items) × (drop len bytes ≡ items_bytes items)
behind_count bytes n len items v s =
    let same = varints_same (take len bytes) s.0 (drop len bytes) (items_bytes items) n (length items) v s.1 (take-append-drop len bytes ∙ s.2) in
    (same.1, same.2)

pub no_numbers : (bytes rest : List ℕ) (n len : ℕ) → IsVarint (take len bytes) n → rest ≡ drop len bytes → ((items : List ℤ) → rest ≡ items_bytes items → ⊥) → (items : List ℤ) → IsArray items → IsEncoding bytes items → ⊥
no_numbers bytes rest n len v e none items valid s = none items (e ∙ (behind_count bytes n len items v s).1)

pub other_count : (bytes rest : List ℕ) (n len : ℕ) (found : List ℤ) → IsVarint (take len bytes) n → rest ≡ drop len bytes → rest ≡ items_bytes found → length found ≢ n → (items : List ℤ) → IsArray items → IsEncoding bytes items → ⊥
other_count bytes rest n len found v e f ne items valid s =
    let same = behind_count bytes n len items v s in
    let all : items_bytes found ≡ items_bytes items = sym f ∙ e ∙ same.1 in
    ne (omega (arith, ap length all, length-items found, length-items items, same.0))

pub on_more : {T E : Type 0} (r : Result T E) (P Q : Type 0) → (P → Q) → OnOk r P → OnOk r Q
on_more (Ok x) P Q f p = f p
on_more (Err e) P Q f p = p

-- a count and numbers behind it
pub appends : (old mid new : List ℕ) (items first second : List ℤ) → first ≡ items → second ≡ items → AppendsVarint old mid (length first) → new ≡ mid ++ items_bytes second → AppendsArray old new items
appends old mid new items first second e f v g = (
  v.0 ++ items_bytes items,
  (v.0, subst (λ (l : List ℤ). IsVarint v.0 (length l)) e v.1, refl),
  g ∙ ap (λ (l : List ℤ). mid ++ items_bytes l) f ∙ ap (λ (t : List ℕ). t ++ items_bytes items) v.2 ∙ append_assoc old v.0 (items_bytes items),
)

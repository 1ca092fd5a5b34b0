-- One text spells one scalar, and the printed text spells it.
use Rattle.std.proofs.Common.{◌≡◌, ◌≢◌, ℕ, ◌^◌, ◌<◌, ◌/◌, ◌%◌, map, inl, inr, List, [], ◌∷◌, All, Some, Result, Ok, Err, refl, sym, ◌∙◌, ap, subst, arith, ℤ}
use Rattle.std.specs.Int.{w128, to_be_bytes, from_be_bytes}
use Rattle.std.proofs.lemmas.Int.{ints}
use Rattle.std.proofs.lemmas.List.Elements.{All-nil, All-cons}
use Rattle.uuid.specs.Text.{hyphenated_text, lower}
use Rattle.uuid.proofs.RoundTrips.{parses_hyphenated}
use Rattle.uuid.proofs.OrderLemmas.{from_be_bytes-to_be_bytes_16}
use Rattle.hex.specs.Hex.{encode_lower, decode_of}
use Rattle.hex.specs.declared.error.FromHexError.{FromHexError}
use Rattle.gx_bytes.specs.declared.error.ValueError.{ValueError}
use Rattle.gx_bytes.specs.declared.error.ValueError.TheVariants.{NoValue, OutOfRange, TooDeep, Memory}
use Rattle.gx_bytes.specs.Blanks.{core_of}
use Rattle.gx_bytes.specs.Wholes.{SpellsWhole, IsWithin, IsOutside}
use Rattle.gx_bytes.specs.Days.{SpellsDay, IsDateForm, IsInCalendar, AnswersDay}
use Rattle.gx_bytes.proofs.WholeLemmas.{one_whole, whole_printed}
use Rattle.gx_bytes.proofs.DayLemmas.{one_day, day_printed, one_answer as one_day_answer}
use Rattle.gx_scalar.specs.declared.scalar.Scalar.{Scalar}
use Rattle.gx_scalar.specs.declared.scalar.Scalar.TheVariants.{Int4, Int8, Text, Bytea, Date, Uuid}
use Rattle.gx_scalar.specs.declared.scalar.ScalarKind.{ScalarKind}
use Rattle.gx_scalar.specs.declared.scalar.ScalarKind.TheVariants as kinds
use Rattle.gx_scalar.specs.Values.{kind_of, IsValid, IsScalar, least_int4, greatest_int4, least_int8, greatest_int8}
use Rattle.gx_scalar.specs.Texts.{ArePairs, SpellsBytea, SpellsUuid, Spells, LeavesRange, AnswersScalar, printed}
use Rattle.gx_scalar.proofs.Pairs.{one_bytes, pairs_printed, pairs_small, pairs_decoded}

-- a number isn't both within bounds and outside of them
not_both : (least greatest n : ℤ) → IsWithin least greatest n → IsOutside least greatest n → ⊥
not_both least greatest n within (inl below) = let low = within.0 in omega (arith, ints)
not_both least greatest n within (inr above) = let high = within.1 in omega (arith, ints)

one_number : (text : List ℕ) (least greatest n m : ℤ) → SpellsWhole text n → IsWithin least greatest n → SpellsWhole text m → IsOutside least greatest m → ⊥
one_number text least greatest n m a within b outside =
    let P : ℤ → Type 0 = λ z. IsOutside least greatest z in
    not_both least greatest n within (subst P (one_whole text m n b a) outside)

-- a day that a text spells is in the calendar
one_form_day : (text : List ℕ) (n : ℤ) → SpellsDay text n → (y m d : ℕ) → IsDateForm (core_of text) y m d → (IsInCalendar y m d → ⊥) → ⊥
one_form_day text n s y m d form none =
    let spelled : AnswersDay text (Ok n) = s in
    let outside : AnswersDay text (Err OutOfRange) = (y, m, d, form, none) in
    let same : Ok n ≡ Err OutOfRange = one_day_answer text (Ok n) (Err OutOfRange) spelled outside in
    cc same

stays : (a : Scalar) (text : List ℕ) → IsValid a → Spells text a → LeavesRange (kind_of a) text → ⊥
stays (Int4 n) text valid s l = one_number text least_int4 greatest_int4 n l.0 s valid l.1 l.2
stays (Int8 n) text valid s l = one_number text least_int8 greatest_int8 n l.0 s valid l.1 l.2
stays (Text bytes) text valid s l = l
stays (Bytea bytes) text valid s l = l
stays (Date n) text valid s l = one_form_day text n s l.0 l.1 l.2 l.3 l.4
stays (Uuid n) text valid s l = l

-- no text spells a scalar of the type and leaves its range
pub stays_in : (kind : ScalarKind) (a : Scalar) (text : List ℕ) → IsScalar kind a → Spells text a → LeavesRange kind text → ⊥
stays_in kind a text is s l = let P : ScalarKind → Type 0 = λ k. LeavesRange k text in stays a text is.1 s (subst P (sym is.0) l)

one_bytea : (text a b : List ℕ) → SpellsBytea text a → SpellsBytea text b → a ≡ b
one_bytea text a b p q =
    let both : 92 ∷ 120 ∷ p.digits ≡ 92 ∷ 120 ∷ q.digits = sym p.parts ∙ q.parts in
    let same : q.digits ≡ p.digits = cc both in
    one_bytes p.digits a b p.pairs (rw (← same) q.pairs)

one_uuid : (text : List ℕ) (m n : ℕ) → SpellsUuid text m → SpellsUuid text n → m ≡ n
one_uuid text m n a b =
    let both : Some a.0 ≡ Some b.0 = sym a.1 ∙ b.1 in
    let same : a.0 ≡ b.0 = cc both in
    a.2 ∙ ap (from_be_bytes w128) same ∙ sym b.2

-- a text spells one scalar of a type
one_scalar : (text : List ℕ) (a b : Scalar) → kind_of a ≡ kind_of b → Spells text a → Spells text b → a ≡ b
one_scalar text (Int4 m) (Int4 n) k a b = ap Int4 (one_whole text m n a b)
one_scalar text (Int8 m) (Int8 n) k a b = ap Int8 (one_whole text m n a b)
one_scalar text (Text x) (Text y) k a b = ap Text (sym a ∙ b)
one_scalar text (Bytea x) (Bytea y) k a b = ap Bytea (one_bytea text x y a b)
one_scalar text (Date m) (Date n) k a b = ap Date (one_day text m n a b)
one_scalar text (Uuid m) (Uuid n) k a b = ap Uuid (one_uuid text m n a b)
one_scalar text a b k s t = absurd (cc k)

pub one_answer : (kind : ScalarKind) (text : List ℕ) (r s : Result Scalar ValueError) → AnswersScalar kind text r → AnswersScalar kind text s → r ≢ Err Memory → s ≢ Err Memory → r ≡ s
one_answer kind text (Ok x) (Ok y) a b _ _ = ap Ok (one_scalar text x y (a.0.0 ∙ sym b.0.0) a.1 b.1)
one_answer kind text (Ok x) (Err NoValue) a b _ _ = absurd (b.0 x a.0 a.1)
one_answer kind text (Ok x) (Err OutOfRange) a b _ _ = absurd (stays_in kind x text a.0 a.1 b)
one_answer kind text (Err NoValue) (Ok y) a b _ _ = absurd (a.0 y b.0 b.1)
one_answer kind text (Err NoValue) (Err NoValue) a b _ _ = refl
one_answer kind text (Err NoValue) (Err OutOfRange) a b _ _ = absurd (a.1 b)
one_answer kind text (Err OutOfRange) (Ok y) a b _ _ = absurd (stays_in kind y text b.0 b.1 a)
one_answer kind text (Err OutOfRange) (Err NoValue) a b _ _ = absurd (b.1 a)
one_answer kind text (Err OutOfRange) (Err OutOfRange) a b _ _ = refl
one_answer kind text (Err TooDeep) s a b _ _ = absurd a
one_answer kind text (Err Memory) s a b wanted _ = absurd (wanted refl)
one_answer kind text r (Err TooDeep) a b _ _ = absurd b
one_answer kind text r (Err Memory) a b _ wanted = absurd (wanted refl)

-- the fault of a day is the fault of the scalar
pub day_fault : (text : List ℕ) (fault : ValueError) → AnswersDay text (Err fault) → AnswersScalar kinds.Date text (Err fault)
day_fault text NoValue h = (no_day text h, λ l. h l.0 l.1 l.2 l.3)
  where
    no_day : (text : List ℕ) → AnswersDay text (Err NoValue) → (scalar : Scalar) → IsScalar kinds.Date scalar → Spells text scalar → ⊥
    no_day text h (Date n) is s = h s.year s.month s.day s.form
    no_day text h a is s = cc is.0
day_fault text OutOfRange h = h
day_fault text TooDeep h = h
day_fault text Memory h = absurd h

-- pairs of digits behind the mark are read as their bytes
pub bytea_read : (text digits bytes copy : List ℕ) → text ≡ 92 ∷ 120 ∷ digits → ArePairs digits bytes → copy ≡ bytes → AnswersScalar kinds.Bytea text (Ok (Bytea copy))
bytea_read text digits bytes copy parts pairs same =
    let P : List ℕ → Type 0 = λ b. AnswersScalar kinds.Bytea text (Ok (Bytea b)) in
    subst P (sym same) ((refl, pairs_small digits bytes pairs), record { digits = digits; parts = parts; pairs = pairs })

-- and digits that aren't pairs as nothing
pub bytea_refused : (text digits : List ℕ) (fault : FromHexError) → text ≡ 92 ∷ 120 ∷ digits → decode_of digits ≡ Err fault → (bytes : List ℕ) → SpellsBytea text bytes → ⊥
bytea_refused text digits fault parts refused bytes s =
    let both : 92 ∷ 120 ∷ digits ≡ 92 ∷ 120 ∷ s.digits = sym parts ∙ s.parts in
    let same : digits ≡ s.digits = cc both in
    let read : decode_of digits ≡ Ok bytes = ap decode_of same ∙ pairs_decoded s.digits bytes s.pairs in
    cc (sym read ∙ refused)

pub no_bytea : (text : List ℕ) → ((bytes : List ℕ) → SpellsBytea text bytes → ⊥) → AnswersScalar kinds.Bytea text (Err NoValue)
no_bytea text h = (none text h, λ l. l)
  where
    none : (text : List ℕ) → ((bytes : List ℕ) → SpellsBytea text bytes → ⊥) → (scalar : Scalar) → IsScalar kinds.Bytea scalar → Spells text scalar → ⊥
    none text h (Bytea bytes) is s = h bytes s
    none text h a is s = cc is.0

mod_small : (xs : List ℕ) → All (λ b. b < 256) (map (λ x. x % 256) xs)
mod_small [] = All-nil (λ b. b < 256)
mod_small (x ∷ xs) = All-cons (λ b. b < 256) (x % 256) (map (λ y. y % 256) xs) (omega arith) (mod_small xs)

sixteen_small : (n : ℕ) → All (λ b. b < 256) (to_be_bytes w128 n)
sixteen_small n = mod_small (n / 1329227995784915872903807060280344576 ∷ n / 5192296858534827628530496329220096 ∷ n / 20282409603651670423947251286016 ∷ n / 79228162514264337593543950336 ∷ n / 309485009821345068724781056 ∷ n / 1208925819614629174706176 ∷ n / 4722366482869645213696 ∷ n / 18446744073709551616 ∷ n / 72057594037927936 ∷ n / 281474976710656 ∷ n / 1099511627776 ∷ n / 4294967296 ∷ n / 16777216 ∷ n / 65536 ∷ n / 256 ∷ n ∷ [])

uuid_printed : (n : ℕ) → n < 2 ^ 128 → SpellsUuid (hyphenated_text lower (to_be_bytes w128 n)) n
uuid_printed n fits =
    (to_be_bytes w128 n, sym (parses_hyphenated lower (to_be_bytes w128 n) (inl refl) refl (sixteen_small n)), sym (from_be_bytes-to_be_bytes_16 n fits))

pub scalar_printed : (scalar : Scalar) → IsValid scalar → Spells (printed scalar) scalar
scalar_printed (Int4 n) valid = whole_printed n (let low = valid.0 in let high = valid.1 in (omega (arith, ints), omega (arith, ints)))
scalar_printed (Int8 n) valid = whole_printed n valid
scalar_printed (Text bytes) valid = refl
scalar_printed (Bytea bytes) valid = record { digits = encode_lower bytes; parts = refl; pairs = pairs_printed bytes valid }
scalar_printed (Date n) valid = day_printed n valid
scalar_printed (Uuid n) valid = uuid_printed n valid

-- Fields at the front of bytes, and rows that go on from there.
use Rattle.std.proofs.Common.{◌≡◌, ◌≢◌, ◌==◌, ℕ, suc, ◌+◌, ◌<◌, ◌≤◌, true, false, true≢false, ne_eqb, get_or, add-one, List, [], ◌∷◌, ◌++◌, length, take, drop, take-append-drop, Option, None, Some, option_map, Result, Ok, Err, OnOk, refl, sym, ap, ◌∙◌, subst, arith, append_assoc, append-nil}
use Rattle.std.proofs.lemmas.List.{take_at, drop_all, map-append}
use Rattle.std.proofs.Math.Seq.{drop-cons}
use Rattle.gx_bytes.proofs.Spellings.{fields_same}
use Rattle.gx_bytes.specs.Varints as varints
use Rattle.gx_value.specs.declared.types.ColumnType.{ColumnType}
use Rattle.gx_value.specs.Types.{family_of}
use Rattle.gx_value.specs.declared.types.ColumnType.TheVariants as column
use Rattle.gx_value.specs.declared.value.Value.{Value}
use Rattle.gx_value.specs.Values.{Datum, datum_of, row_of, IsOfFamily, AreFields}
use Rattle.gx_value.specs.Rows.{IsEncoded, IsFieldBytes, AppendsValue, AppendsField, IsRowBytes, TakesPart, TakesField, SpellsRow}

-- ---- parts in front

pub part_taken : (bytes part : List ℕ) (len : ℕ) → varints.IsField (take len bytes) part → TakesPart bytes part (drop len bytes)
part_taken bytes part len f = (take len bytes, f, sym (take-append-drop len bytes))

pub no_part : (bytes : List ℕ) → ((part : List ℕ) (len : ℕ) → varints.IsField (take len bytes) part → ⊥) → (part rest : List ℕ) → TakesPart bytes part rest → ⊥
no_part bytes none part rest t =
    let P : List ℕ → Type 0 = λ f. varints.IsField f part in
    let front : take (length t.0) bytes ≡ t.0 = ap (take (length t.0)) t.2 ∙ take_at t.0 rest (length t.0) refl in
    none part (length t.0) (subst P (sym front) t.1)

-- ---- fields in front

pub value_taken : (kind : ColumnType) (bytes more part rest : List ℕ) (d : Datum) → bytes ≡ 1 ∷ more → TakesPart more part rest → IsOfFamily (family_of kind) d → IsEncoded part d → TakesField kind bytes (Some d) rest
value_taken kind bytes more part rest d e t valid encoded =
    record { front = 1 ∷ t.0; is_field = valid; is_front = (part, t.0, encoded, t.1, refl); parts = e ∙ ap (λ (l : List ℕ). 1 ∷ l) t.2 }

pub no_field : (kind : ColumnType) (bytes : List ℕ) → ((rest : List ℕ) → bytes ≢ 0 ∷ rest) → ((rest : List ℕ) → bytes ≢ 1 ∷ rest) → (v : Option Datum) (rest : List ℕ) → TakesField kind bytes v rest → ⊥
no_field kind bytes zeros ones None rest t = zeros rest (t.parts ∙ ap (λ (l : List ℕ). l ++ rest) t.is_front)
no_field kind bytes zeros ones (Some d) rest t =
    let inner = t.is_front in ones (inner.1 ++ rest) (t.parts ∙ ap (λ (l : List ℕ). l ++ rest) inner.4)

-- what stands behind byte 1 is the value's field and the rest
behind_one : (kind : ColumnType) (bytes more : List ℕ) → bytes ≡ 1 ∷ more → (v : Option Datum) (rest : List ℕ) → TakesField kind bytes v rest
    → (d : Datum) × (part : List ℕ) × IsOfFamily (family_of kind) d × IsEncoded part d × TakesPart more part rest
behind_one kind bytes more e None rest t =
    let heads : 1 ∷ more ≡ 0 ∷ rest = sym e ∙ t.parts ∙ ap (λ (l : List ℕ). l ++ rest) t.is_front in
    let one : ℕ = 1 in
    let head : one ≡ 0 = cc in
    absurd (omega (arith, head))
behind_one kind bytes more e (Some d) rest t =
    let inner = t.is_front in
    let both : 1 ∷ more ≡ 1 ∷ (inner.1 ++ rest) = sym e ∙ t.parts ∙ ap (λ (l : List ℕ). l ++ rest) inner.4 in
    let tail : more ≡ inner.1 ++ rest = cc in
    (d, inner.0, t.is_field, inner.2, (inner.1, inner.3, tail))

pub no_field_part : (kind : ColumnType) (bytes more : List ℕ) → bytes ≡ 1 ∷ more → ((part rest : List ℕ) → TakesPart more part rest → ⊥) → (v : Option Datum) (rest : List ℕ) → TakesField kind bytes v rest → ⊥
no_field_part kind bytes more e none v rest t = let x = behind_one kind bytes more e v rest t in none x.1 rest x.4

one_part : (bytes p q r s : List ℕ) → TakesPart bytes p r → TakesPart bytes q s → (p ≡ q) × (r ≡ s)
one_part bytes p q r s t u = let same = fields_same t.0 u.0 r s p q t.1 u.1 (sym t.2 ∙ u.2) in (same.1, same.2)

pub no_value : (kind : ColumnType) (bytes more part behind : List ℕ) → bytes ≡ 1 ∷ more → TakesPart more part behind → ((d : Datum) → IsOfFamily (family_of kind) d → IsEncoded part d → ⊥) → (v : Option Datum) (rest : List ℕ) → TakesField kind bytes v rest → ⊥
no_value kind bytes more part behind e found none v rest t =
    let x = behind_one kind bytes more e v rest t in
    let same : x.1 ≡ part = (one_part more x.1 part rest behind x.4 found).0 in
    let P : List ℕ → Type 0 = λ p. IsEncoded p x.0 in
    none x.0 x.2 (subst P same x.3)

-- what stands behind a field is one
pub one_rest : (bytes a b x y : List ℕ) (v w : Option Datum) → IsFieldBytes a v → IsFieldBytes b w → bytes ≡ a ++ x → bytes ≡ b ++ y → (a ≡ b) × (x ≡ y)
one_rest bytes a b x y None None f g p q =
    let both : 0 ∷ x ≡ 0 ∷ y = ap (λ (l : List ℕ). l ++ x) (sym f) ∙ sym p ∙ q ∙ ap (λ (l : List ℕ). l ++ y) g in
    (f ∙ sym g, cc)
one_rest bytes a b x y None (Some d) f g p q =
    let zero : ℕ = 0 in
    let both : zero ∷ x ≡ 1 ∷ (g.1 ++ y) = ap (λ (l : List ℕ). l ++ x) (sym f) ∙ sym p ∙ q ∙ ap (λ (l : List ℕ). l ++ y) g.4 in
    let head : zero ≡ 1 = cc in
    absurd (omega (arith, head))
one_rest bytes a b x y (Some d) None f g p q =
    let one : ℕ = 1 in
    let both : one ∷ (f.1 ++ x) ≡ 0 ∷ y = ap (λ (l : List ℕ). l ++ x) (sym f.4) ∙ sym p ∙ q ∙ ap (λ (l : List ℕ). l ++ y) g in
    let head : one ≡ 0 = cc in
    absurd (omega (arith, head))
one_rest bytes a b x y (Some d) (Some e) f g p q =
    let both : 1 ∷ (f.1 ++ x) ≡ 1 ∷ (g.1 ++ y) = ap (λ (l : List ℕ). l ++ x) (sym f.4) ∙ sym p ∙ q ∙ ap (λ (l : List ℕ). l ++ y) g.4 in
    let tail : f.1 ++ x ≡ g.1 ++ y = cc in
    let same = fields_same f.1 g.1 x y f.0 g.0 f.3 g.3 tail in
    (f.4 ∙ ap (λ (l : List ℕ). 1 ∷ l) same.0 ∙ sym g.4, same.2)

-- ---- a row is written

-- byte 1, and the bytes of the value as a field
pub value_pushed : {E : Type 0} (r : Result (Unit {0}) E) (old one new part scratch : List ℕ) (d : Datum) → AppendsValue [] scratch d → part ≡ scratch → one ≡ old ++ 1 ∷ []
    → OnOk r (varints.AppendsField one new part) → OnOk r (AppendsField old new (Some d))
value_pushed (Err e) old one new part scratch d v same p a = tt
value_pushed (Ok x) old one new part scratch d v same p a =
    let P : List ℕ → Type 0 = λ b. IsEncoded b d in
    (1 ∷ a.0, (part, a.0, subst P (sym (same ∙ v.2)) v.1, a.1, refl), a.2 ∙ ap (λ (l : List ℕ). l ++ a.0) p ∙ append_assoc old (1 ∷ []) a.0)

-- the bytes so far, and those of the fields that are left, are the row's
pub record Written (row : List (Option Datum)) (bytes : List ℕ) (left : List (Option Datum)) : Type 0 where
  pub valid : AreFields left
  pub goes : (more : List ℕ) → IsRowBytes more left → IsRowBytes (bytes ++ more) row

written_more : (row left : List (Option Datum)) (bytes longer : List ℕ) (v : Option Datum) → Written row bytes (v ∷ left) → AppendsField bytes longer v → Written row longer left
written_more row left bytes longer v w a =
    let P : List ℕ → Type 0 = λ l. IsRowBytes l row in
    record {
      valid = w.valid.1;
      goes = λ more r.
          subst P (sym (ap (λ (l : List ℕ). l ++ more) a.2 ∙ append_assoc bytes a.0 more)) (w.goes (a.0 ++ more) (a.0, more, a.1, r, refl));
    }

all_written : (row : List (Option Datum)) (bytes : List ℕ) → Written row bytes [] → IsRowBytes bytes row
all_written row bytes w = let P : List ℕ → Type 0 = λ l. IsRowBytes l row in subst P (append-nil bytes) (w.goes [] refl)

-- ---- a row is read

-- the fields so far, and a row of the types that are left in the bytes that are left, are a row of the whole, and each is such a row
pub record Read (kinds : List ColumnType) (bytes : List ℕ) (fields : List (Option Datum)) (left : List ColumnType) (rest : List ℕ) : Type 0 where
  pub goes : (more : List (Option Datum)) → SpellsRow left rest more → SpellsRow kinds bytes (fields ++ more)
  pub only : (row : List (Option Datum)) → SpellsRow kinds bytes row → (more : List (Option Datum)) × SpellsRow left rest more

field_and_row : (kind : ColumnType) (left : List ColumnType) (bytes rest : List ℕ) (v : Option Datum) (more : List (Option Datum)) → TakesField kind bytes v rest → SpellsRow left rest more → SpellsRow (kind ∷ left) bytes (v ∷ more)
field_and_row kind left bytes rest v more t r =
    record { is_row = (t.is_field, r.is_row); is_bytes = (t.front, rest, t.is_front, r.is_bytes, t.parts) }

-- a row begins with a field
first_field : (kind : ColumnType) (left : List ColumnType) (bytes : List ℕ) (row : List (Option Datum)) → SpellsRow (kind ∷ left) bytes row
    → (v : Option Datum) × (rest : List ℕ) × (more : List (Option Datum)) × TakesField kind bytes v rest × SpellsRow left rest more
first_field kind left bytes [] r = absurd r.is_row
first_field kind left bytes (v ∷ more) r =
    let b = r.is_bytes in
    (v, b.1, more, record { front = b.0; is_field = r.is_row.0; is_front = b.2; parts = b.4 }, record { is_row = r.is_row.1; is_bytes = b.3 })

read_more : (kinds : List ColumnType) (bytes : List ℕ) (fields : List (Option Datum)) (kind : ColumnType) (left : List ColumnType) (rest after : List ℕ) (v : Option Datum)
    → Read kinds bytes fields (kind ∷ left) rest → TakesField kind rest v after → Read kinds bytes (fields ++ v ∷ []) left after
read_more kinds bytes fields kind left rest after v h t = record {
  goes = λ more r.
      let P : List (Option Datum) → Type 0 = λ l. SpellsRow kinds bytes l in
      subst P (sym (append_assoc fields (v ∷ []) more)) (h.goes (v ∷ more) (field_and_row kind left rest after v more t r));
  only = λ row r.
      let whole = h.only row r in
      let x = first_field kind left rest whole.0 whole.1 in
      let same : x.1 ≡ after = (one_rest rest x.3.front t.front x.1 after x.0 v x.3.is_front t.is_front x.3.parts t.parts).1 in
      let P : List ℕ → Type 0 = λ l. SpellsRow left l x.2 in
      (x.2, subst P same x.4);
}

no_row : (kinds : List ColumnType) (bytes : List ℕ) (fields : List (Option Datum)) (kind : ColumnType) (left : List ColumnType) (rest : List ℕ)
    → Read kinds bytes fields (kind ∷ left) rest → ((v : Option Datum) (after : List ℕ) → TakesField kind rest v after → ⊥) → (row : List (Option Datum)) → SpellsRow kinds bytes row → ⊥
no_row kinds bytes fields kind left rest h none row r =
    let whole = h.only row r in
    let x = first_field kind left rest whole.0 whole.1 in
    none x.0 x.1 x.3

-- a row of no columns has no bytes
no_columns : (rest : List ℕ) (more : List (Option Datum)) → SpellsRow [] rest more → rest ≡ []
no_columns rest [] r = r.is_bytes
no_columns rest (v ∷ more) r = absurd r.is_row

row_read : (kinds : List ColumnType) (bytes : List ℕ) (fields : List (Option Datum)) (rest : List ℕ) → Read kinds bytes fields [] rest → rest ≡ [] → SpellsRow kinds bytes fields
row_read kinds bytes fields rest h e =
    let P : List (Option Datum) → Type 0 = λ l. SpellsRow kinds bytes l in
    subst P (append-nil fields) (h.goes [] (record { is_row = tt; is_bytes = e }))

bytes_left : (kinds : List ColumnType) (bytes : List ℕ) (fields : List (Option Datum)) (rest : List ℕ) → Read kinds bytes fields [] rest → (rest ≡ [] → ⊥) → (row : List (Option Datum)) → SpellsRow kinds bytes row → ⊥
bytes_left kinds bytes fields rest h some row r = let whole = h.only row r in some (no_columns rest whole.0 whole.1)

-- ---- the steps of both loops

drop_next : {X : Type 0} (xs : List X) (i : ℕ) (x d : X) → i < length xs → x ≡ get_or xs i d → drop i xs ≡ x ∷ drop (i + 1) xs
drop_next xs i x d below is = drop-cons xs i d below ∙ ap (λ y. y ∷ drop (suc i) xs) (sym is) ∙ ap (λ j. x ∷ drop j xs) (sym (add-one i))

pub value_written : (values : List (Option Value)) (bytes longer : List ℕ) (i : ℕ) (v : Option Value) → i < length values → v ≡ get_or values i v
    → Written (row_of values) bytes (row_of (drop i values)) → AppendsField bytes longer (option_map datum_of v) → Written (row_of values) longer (row_of (drop (i + 1) values))
value_written values bytes longer i v below is h a =
    let P : List (Option Value) → Type 0 = λ l. Written (row_of values) bytes (row_of l) in
    written_more (row_of values) (row_of (drop (i + 1) values)) bytes longer (option_map datum_of v) (subst P (drop_next values i v v below is) h) a

pub values_written : (values : List (Option Value)) (bytes : List ℕ) (i : ℕ) → length values ≤ i → Written (row_of values) bytes (row_of (drop i values)) → IsRowBytes bytes (row_of values)
values_written values bytes i above h =
    let P : List (Option Value) → Type 0 = λ l. Written (row_of values) bytes (row_of l) in
    all_written (row_of values) bytes (subst P (drop_all i values above) h)

pub value_read : (kinds : List ColumnType) (bytes : List ℕ) (fields longer : List (Option Value)) (i : ℕ) (rest after : List ℕ) (v : Option Value) → i < length kinds
    → Read kinds bytes (row_of fields) (drop i kinds) rest → TakesField (get_or kinds i column.Int4) rest (option_map datum_of v) after → longer ≡ fields ++ v ∷ []
    → Read kinds bytes (row_of longer) (drop (i + 1) kinds) after
value_read kinds bytes fields longer i rest after v below h t is =
    let kind = get_or kinds i column.Int4 in
    let P : List ColumnType → Type 0 = λ l. Read kinds bytes (row_of fields) l rest in
    let Q : List (Option Datum) → Type 0 = λ l. Read kinds bytes l (drop (i + 1) kinds) after in
    subst Q (sym (ap row_of is ∙ map-append (option_map datum_of) fields (v ∷ [])))
    (read_more kinds bytes (row_of fields) kind (drop (i + 1) kinds) rest after (option_map datum_of v) (subst P (drop_next kinds i kind column.Int4 below refl) h) t)

pub no_value_read : (kinds : List ColumnType) (bytes : List ℕ) (fields : List (Option Value)) (i : ℕ) (rest : List ℕ) → i < length kinds
    → Read kinds bytes (row_of fields) (drop i kinds) rest → ((v : Option Datum) (after : List ℕ) → TakesField (get_or kinds i column.Int4) rest v after → ⊥)
    → (row : List (Option Datum)) → SpellsRow kinds bytes row → ⊥
no_value_read kinds bytes fields i rest below h none =
    let kind = get_or kinds i column.Int4 in
    let P : List ColumnType → Type 0 = λ l. Read kinds bytes (row_of fields) l rest in
    no_row kinds bytes (row_of fields) kind (drop (i + 1) kinds) rest (subst P (drop_next kinds i kind column.Int4 below refl) h) none

no_length : (t : List ℕ) → true ≡ (length t == 0) → t ≡ []
no_length [] e = refl
no_length (x ∷ t) e = absurd (true≢false (e ∙ ne_eqb (length (x ∷ t)) 0 (omega arith)))

some_length : (t : List ℕ) → false ≡ (length t == 0) → t ≡ [] → ⊥
some_length t e is = true≢false (ap (λ (l : List ℕ). length l == 0) (sym is) ∙ sym e)

pub values_read : (kinds : List ColumnType) (bytes : List ℕ) (fields : List (Option Value)) (i : ℕ) (rest : List ℕ) → length kinds ≤ i
    → Read kinds bytes (row_of fields) (drop i kinds) rest → true ≡ (length rest == 0) → SpellsRow kinds bytes (row_of fields)
values_read kinds bytes fields i rest above h e =
    let P : List ColumnType → Type 0 = λ l. Read kinds bytes (row_of fields) l rest in
    row_read kinds bytes (row_of fields) rest (subst P (drop_all i kinds above) h) (no_length rest e)

pub bytes_behind : (kinds : List ColumnType) (bytes : List ℕ) (fields : List (Option Value)) (i : ℕ) (rest : List ℕ) → length kinds ≤ i
    → Read kinds bytes (row_of fields) (drop i kinds) rest → false ≡ (length rest == 0) → (row : List (Option Datum)) → SpellsRow kinds bytes row → ⊥
bytes_behind kinds bytes fields i rest above h e =
    let P : List ColumnType → Type 0 = λ l. Read kinds bytes (row_of fields) l rest in
    bytes_left kinds bytes (row_of fields) rest (subst P (drop_all i kinds above) h) (some_length rest e)

-- Bytes are those of one row at most, and a row has one list of bytes, by the laws of the types.
use Rattle.std.proofs.Common.{◌≡◌, ℕ, List, [], ◌∷◌, ◌++◌, ℤ, Option, None, Some, Result, Ok, Err, ◌≢◌, refl, sym, ap, ap₂, ◌∙◌, subst, arith}
use Rattle.serde_json.specs.Data.{Data}
use Rattle.serde_json.specs.Written.{compact_text}
use Rattle.gx_bytes.specs.declared.error.ValueError.{ValueError}
use Rattle.gx_bytes.specs.declared.error.ValueError.TheVariants.{Memory}
use Rattle.gx_bytes.specs.Varints as varints
use Rattle.gx_bytes.proofs.Spellings.{fields_same}
use Rattle.gx_scalar.specs.declared.scalar.Scalar.{Scalar}
use Rattle.gx_scalar.specs.declared.scalar.ScalarKind.{ScalarKind}
use Rattle.gx_scalar.specs.Values.{IsScalar}
use Rattle.gx_scalar.specs.Encodings as scalars
use Rattle.gx_range.specs.declared.range.Range.{Range}
use Rattle.gx_range.specs.declared.range.RangeKind.{RangeKind}
use Rattle.gx_range.specs.Values.{IsRange}
use Rattle.gx_range.specs.Encodings as ranges
use Rattle.gx_inet.specs.declared.inet.Inet.{Inet}
use Rattle.gx_inet.specs.Value.{IsInet}
use Rattle.gx_inet.specs.Encoding as addresses
use Rattle.gx_ltree.specs.Path.{IsPath}
use Rattle.gx_ltree.specs.Text as paths
use Rattle.gx_hstore.specs.Map.{Pair}
use Rattle.gx_hstore.specs.Encoding as maps
use Rattle.gx_json.specs.Valid.{IsDocument}
use Rattle.gx_intarr.specs.Arrays as arrays
use Rattle.gx_value.specs.declared.types.ColumnType.{ColumnType}
use Rattle.gx_value.specs.declared.types.Family.{Family}
use Rattle.gx_value.specs.declared.types.Family.TheVariants as family
use Rattle.gx_value.specs.Types.{family_of}
use Rattle.gx_value.specs.Values.{Datum, scalar, range, inet, path, hstore, int_array, json, IsOfFamily, IsField}
use Rattle.gx_value.specs.Rows.{IsEncoded, IsFieldBytes, IsRowBytes, SpellsRow}
use Rattle.gx_value.proofs.RowLemmas.{one_rest}

-- the laws of the types: bytes have one value, and of a path, a map and an array one list of bytes
pub record Laws : Type 0 where
  pub one_scalar : (kind : ScalarKind) (a b : Scalar) → IsScalar kind a → IsScalar kind b → scalars.encoded a ≡ scalars.encoded b → a ≡ b
  pub one_range : (kind : RangeKind) (a b : Range) → IsRange kind a → IsRange kind b → ranges.encoded a ≡ ranges.encoded b → a ≡ b
  pub one_inet : (a b : Inet) → IsInet a → IsInet b → addresses.encoded a ≡ addresses.encoded b → a ≡ b
  pub one_path : (a b : List (List ℕ)) → IsPath a → IsPath b → paths.printed a ≡ paths.printed b → a ≡ b
  pub one_map : (bytes : List ℕ) (a b : List Pair) → maps.IsEncoded bytes a → maps.IsEncoded bytes b → a ≡ b
  pub one_document : (a b : Data) → IsDocument a → IsDocument b → compact_text a ≡ compact_text b → a ≡ b
  pub one_array : (bytes : List ℕ) (a b : List ℤ) → arrays.IsArray a → arrays.IsArray b → arrays.IsEncoding bytes a → arrays.IsEncoding bytes b → a ≡ b
  pub map_bytes : (a b : List ℕ) (hstore : List Pair) → maps.IsEncoded a hstore → maps.IsEncoded b hstore → a ≡ b
  pub number_bytes : (a b : List ℕ) (n : ℕ) → varints.IsVarint a n → varints.IsVarint b n → a ≡ b
  pub part_bytes : (a b part : List ℕ) → varints.IsField a part → varints.IsField b part → a ≡ b

-- a text has one answer, so it is the printed text of one path
pub one_path : ((text : List ℕ) (r s : Result (List (List ℕ)) ValueError) → r ≢ Err Memory → s ≢ Err Memory → paths.AnswersPath text r → paths.AnswersPath text s → r ≡ s)
    → (a b : List (List ℕ)) → IsPath a → IsPath b → paths.printed a ≡ paths.printed b → a ≡ b
one_path one a b p q same =
    let none : (x : List (List ℕ)) → Ok x ≢ Err Memory = λ x e. cc in
    let both : Ok a ≡ Ok b = one (paths.printed a) (Ok a) (Ok b) (none a) (none b) (record { valid = p; is = refl }) (record { valid = q; is = same }) in
    cc

one_datum : Laws → (f : Family) (bytes : List ℕ) (a b : Datum) → IsOfFamily f a → IsOfFamily f b → IsEncoded bytes a → IsEncoded bytes b → a ≡ b
one_datum laws (family.Scalar kind) bytes (scalar a) (scalar b) p q x y = ap scalar (laws.one_scalar kind a b p q (sym x ∙ y))
one_datum laws (family.Range kind) bytes (range a) (range b) p q x y = ap range (laws.one_range kind a b p q (sym x ∙ y))
one_datum laws family.Inet bytes (inet a) (inet b) p q x y = ap inet (laws.one_inet a b p q (sym x ∙ y))
one_datum laws family.Path bytes (path a) (path b) p q x y = ap path (laws.one_path a b p q (sym x ∙ y))
one_datum laws family.Hstore bytes (hstore a) (hstore b) p q x y = ap hstore (laws.one_map bytes a b x y)
one_datum laws family.Json bytes (json a) (json b) p q x y = ap json (laws.one_document a b p q (sym x ∙ y))
one_datum laws family.IntArray bytes (int_array a) (int_array b) p q x y = ap int_array (laws.one_array bytes a b p q x y)
one_datum laws (family.Scalar kind) bytes (scalar a) _ p q x y = absurd q
one_datum laws (family.Range kind) bytes (range a) _ p q x y = absurd q
one_datum laws family.Inet bytes (inet a) _ p q x y = absurd q
one_datum laws family.Path bytes (path a) _ p q x y = absurd q
one_datum laws family.Hstore bytes (hstore a) _ p q x y = absurd q
one_datum laws family.Json bytes (json a) _ p q x y = absurd q
one_datum laws family.IntArray bytes (int_array a) _ p q x y = absurd q
one_datum laws _ bytes _ b p q x y = absurd p

datum_bytes : Laws → (a b : List ℕ) (d : Datum) → IsEncoded a d → IsEncoded b d → a ≡ b
datum_bytes laws a b (scalar s) x y = x ∙ sym y
datum_bytes laws a b (range r) x y = x ∙ sym y
datum_bytes laws a b (inet i) x y = x ∙ sym y
datum_bytes laws a b (path p) x y = x ∙ sym y
datum_bytes laws a b (hstore h) x y = laws.map_bytes a b h x y
datum_bytes laws a b (json d) x y = x ∙ sym y
datum_bytes laws a b (int_array items) x y =
    x.2 ∙ ap (λ (l : List ℕ). l ++ arrays.items_bytes items) (laws.number_bytes x.0 y.0 _ x.1 y.1) ∙ sym y.2

field_bytes : Laws → (a b : List ℕ) (v : Option Datum) → IsFieldBytes a v → IsFieldBytes b v → a ≡ b
field_bytes laws a b None x y = x ∙ sym y
field_bytes laws a b (Some d) x y =
    let values : x.0 ≡ y.0 = datum_bytes laws x.0 y.0 d x.2 y.2 in
    let P : List ℕ → Type 0 = λ v. varints.IsField x.1 v in
    x.4 ∙ ap (λ (l : List ℕ). 1 ∷ l) (laws.part_bytes x.1 y.1 y.0 (subst P values x.3) y.3) ∙ sym y.4

pub row_bytes : Laws → (row : List (Option Datum)) (a b : List ℕ) → IsRowBytes a row → IsRowBytes b row → a ≡ b
row_bytes laws [] a b x y = x ∙ sym y
row_bytes laws (v ∷ row) a b x y =
    x.4 ∙ ap₂ (λ (f r : List ℕ). f ++ r) (field_bytes laws x.0 y.0 v x.2 y.2) (row_bytes laws row x.1 y.1 x.3 y.3) ∙ sym y.4

-- a field's bytes are those of one field of the type
one_field : Laws → (kind : ColumnType) (bytes : List ℕ) (v w : Option Datum) → IsField kind v → IsField kind w → IsFieldBytes bytes v → IsFieldBytes bytes w → v ≡ w
one_field laws kind bytes None None p q x y = refl
one_field laws kind bytes None (Some e) p q x y =
    let zero : ℕ = 0 in
    let both : zero ∷ [] ≡ 1 ∷ y.1 = sym x ∙ y.4 in
    let head : zero ≡ 1 = cc in
    absurd (omega (arith, head))
one_field laws kind bytes (Some d) None p q x y =
    let one : ℕ = 1 in
    let both : one ∷ x.1 ≡ 0 ∷ [] = sym x.4 ∙ y in
    let head : one ≡ 0 = cc in
    absurd (omega (arith, head))
one_field laws kind bytes (Some d) (Some e) p q x y =
    let both : 1 ∷ x.1 ≡ 1 ∷ y.1 = sym x.4 ∙ y.4 in
    let tails : x.1 ≡ y.1 = cc in
    let values = (fields_same x.1 y.1 [] [] x.0 y.0 x.3 y.3 (ap (λ (l : List ℕ). l ++ []) tails)).1 in
    let P : List ℕ → Type 0 = λ b. IsEncoded b d in
    ap Some (one_datum laws (family_of kind) y.0 d e p q (subst P values x.2) y.2)

pub row_of_bytes : Laws → (kinds : List ColumnType) (bytes : List ℕ) (a b : List (Option Datum)) → SpellsRow kinds bytes a → SpellsRow kinds bytes b → a ≡ b
row_of_bytes laws [] bytes [] [] p q = refl
row_of_bytes laws [] bytes [] (w ∷ b) p q = absurd q.is_row
row_of_bytes laws [] bytes (v ∷ a) b p q = absurd p.is_row
row_of_bytes laws (kind ∷ kinds) bytes [] b p q = absurd p.is_row
row_of_bytes laws (kind ∷ kinds) bytes (v ∷ a) [] p q = absurd q.is_row
row_of_bytes laws (kind ∷ kinds) bytes (v ∷ a) (w ∷ b) p q =
    let x = p.is_bytes in
    let y = q.is_bytes in
    let same = one_rest bytes x.0 y.0 x.1 y.1 v w x.2 y.2 x.4 y.4 in
    let P : List ℕ → Type 0 = λ l. IsFieldBytes l v in
    let Q : List ℕ → Type 0 = λ l. SpellsRow kinds l a in
    let heads : v ≡ w = one_field laws kind y.0 v w p.is_row.0 q.is_row.0 (subst P same.0 x.2) y.2 in
    let tail : SpellsRow kinds x.1 a = record { is_row = p.is_row.1; is_bytes = x.3 } in
    ap₂ (λ (f : Option Datum) (r : List (Option Datum)). f ∷ r) heads (row_of_bytes laws kinds y.1 a b (subst Q same.1 tail) (record { is_row = q.is_row.1; is_bytes = y.3 }))

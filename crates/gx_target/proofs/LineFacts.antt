-- The text of a row's fields, one after another.
use Rattle.std.proofs.Common.{◌≡◌, ◌==◌, ne_eqb, ℕ, zero, suc, ◌<◌, ◌≤◌, ◌+◌, Bool, true, false, cond, get_or, List, [], ◌∷◌, ◌++◌, length, map, take, append_assoc, append-nil, Option, Some, None, option_map, slice_get, refl, sym, ap, ◌∙◌, subst, arith}
use Rattle.std.proofs.lemmas.List.{take_all, take_more, map-append, length-map, length-take-le}
use Rattle.std.proofs.lemmas.List.Elements.{filter_map-append}
use Rattle.std.proofs.lemmas.Option.{slice_get-map, slice_get_read}
use Rattle.std.specs.List.{cons_option, join_with_byte}
use Rattle.gx_value.specs.declared.fields.Column.{Column}
use Rattle.gx_value.specs.declared.value.Value.{Value}
use Rattle.gx_value.specs.Values.{Datum, datum_of, row_of, IsField, IsRow}
use Rattle.gx_model.specs.Database.{AreDistinct}
use Rattle.gx_model.specs.Replies.{field_text}
use Rattle.gx_model.specs.Values.{value_for}
use Rattle.gx_target.specs.Lines.{fields_text}
use Rattle.gx_target.specs.Places.{columns_at, HasPlaces}
use Rattle.gx_target.proofs.Lists.{all_take}
use Rattle.gx_target.proofs.TargetFacts.{names_of, kinds_of, length_columns_at, value_own}

-- ---- texts with tabs between them

abbrev pub tab_before : ℕ → List ℕ
tab_before n = cond (n == 0) [] (9 ∷ [])

some_tab : (n : ℕ) → tab_before (suc n) ≡ 9 ∷ []
some_tab n = ap (λ (b : Bool). cond b [] (9 ∷ [])) (ne_eqb (suc n) 0 (omega arith))

join_behind : (xs : List (List ℕ)) (y x : List ℕ) → join_with_byte 9 ((y ∷ xs) ++ x ∷ []) ≡ join_with_byte 9 (y ∷ xs) ++ (9 ∷ x)
join_behind [] y x = refl
join_behind (z ∷ zs) y x =
    ap (λ (l : List ℕ). y ++ (9 ∷ l)) (join_behind zs z x) ∙ sym (append_assoc y (9 ∷ join_with_byte 9 (z ∷ zs)) (9 ∷ x))

join_more : (xs : List (List ℕ)) (x : List ℕ) → join_with_byte 9 (xs ++ x ∷ []) ≡ (join_with_byte 9 xs ++ tab_before (length xs)) ++ x
join_more [] x = refl
join_more (y ∷ xs) x =
    join_behind xs y x
    ∙ sym (append_assoc (join_with_byte 9 (y ∷ xs)) (9 ∷ []) x)
    ∙ ap (λ (l : List ℕ). (join_with_byte 9 (y ∷ xs) ++ l) ++ x) (sym (some_tab (length xs)))

-- ---- the fields at places

abbrev text_of : List Column → List (Option Datum) → Column → List ℕ
text_of columns row c = field_text c.kind (value_for c.name columns row)

module _ (columns : List Column) (places : List ℕ) (row : List (Option Datum)) (distinct : AreDistinct (names_of columns)) (there : HasPlaces columns places) where
  pub texts_none : (to : List ℕ) → to ≡ to ++ fields_text columns (columns_at columns (take 0 places)) row
  texts_none to = sym (append-nil to)

  pub texts_more : (i p : ℕ) (c : Column) (v : Option Datum) (old here tabbed more : List ℕ) → i < length places → p ≡ get_or places i 0 → slice_get columns p ≡ Some c → slice_get row p ≡ Some v
      → here ≡ old ++ fields_text columns (columns_at columns (take i places)) row → tabbed ≡ here ++ tab_before i → more ≡ tabbed ++ field_text c.kind v
      → more ≡ old ++ fields_text columns (columns_at columns (take (i + 1) places)) row
  texts_more i p c v old here tabbed more below is at_column at_field before tab grown =
      let front = take i places in
      let texts = map (text_of columns row) (columns_at columns front) in
      let joined = join_with_byte 9 texts in
      let next : take (i + 1) places ≡ front ++ p ∷ [] = take_more places i 0 below ∙ ap (λ (q : ℕ). front ++ q ∷ []) (sym is) in
      let columns_are : columns_at columns (take (i + 1) places) ≡ columns_at columns front ++ c ∷ [] =
      ap (columns_at columns) next ∙ filter_map-append (slice_get columns) front (p ∷ [])
      ∙ ap (λ (o : Option Column). columns_at columns front ++ cons_option o []) at_column in
      let text : text_of columns row c ≡ field_text c.kind v = ap (field_text c.kind) (value_own columns row p c v distinct at_column at_field) in
      let texts_are : map (text_of columns row) (columns_at columns (take (i + 1) places)) ≡ texts ++ field_text c.kind v ∷ [] =
      ap (map (text_of columns row)) columns_are ∙ map-append (text_of columns row) (columns_at columns front) (c ∷ [])
      ∙ ap (λ (t : List ℕ). texts ++ t ∷ []) text in
      let long : i ≤ length places = omega arith in
      let count : length texts ≡ i =
      length-map (columns_at columns front) (text_of columns row) ∙ length_columns_at columns front (all_take (λ q. q < length columns) places i there) ∙ length-take-le i places long in
      let whole : join_with_byte 9 (map (text_of columns row) (columns_at columns (take (i + 1) places))) ≡ (joined ++ tab_before i) ++ field_text c.kind v =
      ap (join_with_byte 9) texts_are ∙ join_more texts (field_text c.kind v) ∙ ap (λ (n : ℕ). (joined ++ tab_before n) ++ field_text c.kind v) count in
      grown
      ∙ ap (λ (l : List ℕ). l ++ field_text c.kind v) (tab ∙ ap (λ (l : List ℕ). l ++ tab_before i) before ∙ append_assoc old joined (tab_before i))
      ∙ append_assoc old (joined ++ tab_before i) (field_text c.kind v)
      ∙ ap (λ (l : List ℕ). old ++ l) (sym whole)

  pub texts_all : (i : ℕ) (old here : List ℕ) → length places ≤ i → here ≡ old ++ fields_text columns (columns_at columns (take i places)) row → here ≡ old ++ fields_text columns (columns_at columns places) row
  texts_all i old here above before = before ∙ ap (λ (ps : List ℕ). old ++ fields_text columns (columns_at columns ps) row) (take_all i places above)

-- ---- the fields of a row

pub field_count : (columns : List Column) (fields : List (Option Value)) → IsRow (kinds_of columns) (row_of fields) → length fields ≡ length columns
field_count [] [] valid = refl
field_count [] (f ∷ fs) valid = absurd valid
field_count (x ∷ xs) [] valid = absurd valid
field_count (x ∷ xs) (f ∷ fs) valid = ap suc (field_count xs fs valid.1)

pub field_valid : (columns : List Column) (fields : List (Option Value)) (p : ℕ) (d : Column) (v : Option Value) → IsRow (kinds_of columns) (row_of fields) → p < length columns → v ≡ get_or fields p v
    → IsField (get_or columns p d).kind (option_map datum_of v)
field_valid [] fields p d v valid below is = absurd (omega arith)
field_valid (x ∷ xs) [] p d v valid below is = absurd valid
field_valid (x ∷ xs) (f ∷ fs) zero d v valid below is =
    let P : Option Value → Type 0 = λ w. IsField x.kind (option_map datum_of w) in
    subst P (sym is) valid.0
field_valid (x ∷ xs) (f ∷ fs) (suc p) d v valid below is = field_valid xs fs p d v valid.1 (omega arith) is

pub column_read : (columns : List Column) (p : ℕ) (c : Column) → p < length columns → c ≡ get_or columns p c → slice_get columns p ≡ Some c
column_read columns p c below is = slice_get_read columns (length columns) p c refl below is

pub field_read : (fields : List (Option Value)) (p : ℕ) (v : Option Value) → p < length fields → v ≡ get_or fields p v → slice_get (row_of fields) p ≡ Some (option_map datum_of v)
field_read fields p v below is =
    slice_get-map (option_map datum_of) fields p ∙ ap (λ (o : Option (Option Value)). option_map (option_map datum_of) o) (slice_get_read fields (length fields) p v refl below is)

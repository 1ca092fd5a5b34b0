-- Rows with only the fields of some columns.
use Rattle.std.proofs.Common.{◌≡◌, ℕ, ◌+◌, ◌≤◌, zero, suc, Bool, true, false, if◌then◌else◌, List, [], ◌∷◌, ◌++◌, length, take, drop, Option, None, Some, option_and_then, slice_set, refl, sym, ◌∙◌, ap, subst, append_assoc, append-nil, arith}
use Rattle.std.specs.List.{slice_get}
use Rattle.std.specs.Prelude.{Result, Ok, Err, IfOk}
use Rattle.std.proofs.lemmas.List.{length-map, take-append-drop, take_at}
use Rattle.gx_bytes.specs.Varints.{IsField}
use Rattle.gx_bytes.proofs.Spellings.{fields_same}
use Rattle.gx_value.specs.declared.fields.Column.{Column}
use Rattle.gx_value.specs.declared.types.ColumnType.{ColumnType}
use Rattle.gx_value.specs.Rows.{IsFieldBytes, IsRowBytes, SpellsRow}
use Rattle.gx_value.specs.Values.{Datum, IsRow}
use Rattle.gx_model.specs.Truth.{Bound, And, Or, Not, Atom, IsNull, Truth, and_of, is_true, not_of, or_of, selects, truth, truth_of_atom, truth_of_null}
use Rattle.gx_plan.specs.Bounds.{kinds_of}
use Rattle.gx_pages.specs.declared.error.PageError.{PageError}
use Rattle.gx_pages.specs.declared.error.PageError.TheVariants.{Broken}
use Rattle.gx_query.specs.Walks.{Breaks}
use Rattle.gx_query.specs.Wanted.{Covers, CoversWhere, is_wanted, narrowed}

-- Marks that are added take none away.
pub covers_kept : (old new : List Bool) → ((n : ℕ) → is_wanted old n ≡ true → is_wanted new n ≡ true) → (b : Bound) → Covers old b → Covers new b
covers_kept old new kept (And a b) covers = (covers_kept old new kept a covers.0, covers_kept old new kept b covers.1)
covers_kept old new kept (Or a b) covers = (covers_kept old new kept a covers.0, covers_kept old new kept b covers.1)
covers_kept old new kept (Not a) covers = covers_kept old new kept a covers
covers_kept old new kept (Atom place op operand) covers = kept place covers
covers_kept old new kept (IsNull place negated) covers = kept place covers

same_field : (ws : List Bool) (row : List (Option Datum)) (n : ℕ) → is_wanted ws n ≡ true → slice_get (narrowed ws row) n ≡ slice_get row n
same_field [] row n wanted = refl
same_field (w ∷ ws) [] n wanted = refl
same_field (true ∷ ws) (field ∷ row) zero wanted = refl
same_field (false ∷ ws) (field ∷ row) zero wanted = absurd (let e = wanted in cc)
same_field (true ∷ ws) (field ∷ row) (suc n) wanted = same_field ws row n wanted
same_field (false ∷ ws) (field ∷ row) (suc n) wanted = same_field ws row n wanted

-- What a condition is of a row depends on the fields that it names.
same_truth : (ws : List Bool) (b : Bound) (row : List (Option Datum)) → Covers ws b → truth b (narrowed ws row) ≡ truth b row
same_truth ws (And a b) row covers = λ i. and_of (same_truth ws a row covers.0 i) (same_truth ws b row covers.1 i)
same_truth ws (Or a b) row covers = λ i. or_of (same_truth ws a row covers.0 i) (same_truth ws b row covers.1 i)
same_truth ws (Not a) row covers = ap (λ (t : Truth). not_of t) (same_truth ws a row covers)
same_truth ws (Atom place op operand) row covers = ap (λ (f : Option (Option Datum)). truth_of_atom op (option_and_then (λ field. field) f) operand) (same_field ws row place covers)
same_truth ws (IsNull place negated) row covers = ap (λ (f : Option (Option Datum)). truth_of_null (option_and_then (λ field. field) f) negated) (same_field ws row place covers)

pub same_selected : (ws : List Bool) (condition : Option Bound) (row : List (Option Datum)) → CoversWhere ws condition → selects condition (narrowed ws row) ≡ selects condition row
same_selected ws None row covers = refl
same_selected ws (Some condition) row covers = ap (λ (t : Truth). is_true t) (same_truth ws condition row covers)

pub narrowed_row : (kinds : List ColumnType) (ws : List Bool) (row : List (Option Datum)) → IsRow kinds row → IsRow kinds (narrowed ws row)
narrowed_row kinds [] row is = is
narrowed_row kinds (w ∷ ws) [] is = is
narrowed_row [] (w ∷ ws) (field ∷ row) is = absurd is
narrowed_row (kind ∷ kinds) (true ∷ ws) (field ∷ row) is = (is.0, narrowed_row kinds ws row is.1)
narrowed_row (kind ∷ kinds) (false ∷ ws) (field ∷ row) is = (tt, narrowed_row kinds ws row is.1)

pub row_long : (kinds : List ColumnType) (row : List (Option Datum)) → IsRow kinds row → length row ≡ length kinds
row_long [] [] is = refl
row_long [] (field ∷ row) is = absurd is
row_long (kind ∷ kinds) [] is = absurd is
row_long (kind ∷ kinds) (field ∷ row) is = let rest = row_long kinds row is.1 in omega (arith, rest)

-- Fields at the front of bytes.

pub no_front : (bytes more : List ℕ) → bytes ≡ 1 ∷ more → ((part : List ℕ) (len : ℕ) → IsField (take len more) part → ⊥) → (v : Option Datum) (front rest : List ℕ) → IsFieldBytes front v → bytes ≡ front ++ rest → ⊥
no_front bytes more one none None front rest is e =
    let at_one : ℕ = 1 in
    let both : at_one ∷ more ≡ 0 ∷ rest = sym one ∙ e ∙ ap (λ (l : List ℕ). l ++ rest) is in
    let head : at_one ≡ 0 = cc in
    absurd (omega (arith, head))
no_front bytes more one none (Some d) front rest is e =
    let both : 1 ∷ more ≡ 1 ∷ (is.1 ++ rest) = sym one ∙ e ∙ ap (λ (l : List ℕ). l ++ rest) is.4 in
    let tail : more ≡ is.1 ++ rest = cc in
    let part : take (length is.1) more ≡ is.1 = ap (λ (l : List ℕ). take (length is.1) l) tail ∙ take_at is.1 rest (length is.1) refl in
    none is.0 (length is.1) (subst (λ (l : List ℕ). IsField l is.0) (sym part) is.3)

one_more : (n : ℕ) (x : ℕ) (xs : List ℕ) → (take (1 + n) (x ∷ xs) ≡ x ∷ take n xs) × (drop (1 + n) (x ∷ xs) ≡ drop n xs)
one_more n x xs = let same : 1 + n ≡ suc n = omega arith in rw same (refl, refl)

pub front_is : (bytes more found first second : List ℕ) (n : ℕ) → bytes ≡ 1 ∷ more → IsField (take n more) found → first ≡ take (1 + n) bytes → second ≡ drop (1 + n) bytes
    → (v : Option Datum) (front rest : List ℕ) → IsFieldBytes front v → bytes ≡ front ++ rest → (first ≡ front) × (second ≡ rest)
front_is bytes more found first second n one field left right None front rest is e =
    let at_one : ℕ = 1 in
    let both : at_one ∷ more ≡ 0 ∷ rest = sym one ∙ e ∙ ap (λ (l : List ℕ). l ++ rest) is in
    let head : at_one ≡ 0 = cc in
    absurd (omega (arith, head))
front_is bytes more found first second n one field left right (Some d) front rest is e =
    let both : 1 ∷ more ≡ 1 ∷ (is.1 ++ rest) = sym one ∙ e ∙ ap (λ (l : List ℕ). l ++ rest) is.4 in
    let tail : more ≡ is.1 ++ rest = cc in
    let same = fields_same (take n more) is.1 (drop n more) rest found is.0 field is.3 (take-append-drop n more ∙ tail) in
    let cut = one_more n 1 more in (
      left ∙ ap (λ (l : List ℕ). take (1 + n) l) one ∙ cut.0 ∙ ap (λ (l : List ℕ). 1 ∷ l) same.0 ∙ sym is.4,
      right ∙ ap (λ (l : List ℕ). drop (1 + n) l) one ∙ cut.1 ∙ same.2,
    )

-- a row's bytes with one field more
narrowed_more : (want : Bool) (ws : List Bool) (v : Option Datum) (row : List (Option Datum)) (front added : List ℕ) → IsFieldBytes front v → IsRowBytes added (narrowed ws row)
    → IsRowBytes ((if want then front else (0 ∷ [])) ++ added) (narrowed (want ∷ ws) (v ∷ row))
narrowed_more true ws v row front added is rest = (front, added, is, rest, refl)
narrowed_more false ws v row front added is rest = (0 ∷ [], added, refl, rest, refl)

-- what is appended for a row
abbrev pub Narrows : List Bool → List ℕ → List ℕ → List ℕ → Bool → Type 0
Narrows ws bytes old new so = (row : List (Option Datum)) → IsRowBytes bytes row → length row ≡ length ws → (so ≡ true) × ((added : List ℕ) × (new ≡ old ++ added) × IsRowBytes added (narrowed ws row))

pub narrows_none : (ws : List Bool) (bytes old : List ℕ) → ws ≡ [] → Narrows ws bytes old old true
narrows_none ws bytes old none = subst (λ (l : List Bool). Narrows l bytes old old true) (sym none) here
  where
    here : Narrows [] bytes old old true
    here [] is long = (refl, ([], sym (append-nil old), refl))
    here (v ∷ row) is long = absurd (omega (arith, long))

pub narrows_more : (ws more : List Bool) (want so : Bool) (bytes front rest old mid new : List ℕ) → ws ≡ want ∷ more
    → ((v : Option Datum) (f r : List ℕ) → IsFieldBytes f v → bytes ≡ f ++ r → (front ≡ f) × (rest ≡ r)) → mid ≡ old ++ (if want then front else (0 ∷ []))
    → Narrows more rest mid new so → Narrows ws bytes old new so
narrows_more ws more want so bytes front rest old mid new is one pushed narrows = subst (λ (l : List Bool). Narrows l bytes old new so) (sym is) here
  where
    here : Narrows (want ∷ more) bytes old new so
    here [] bytes_are long = absurd (omega (arith, long))
    here (v ∷ row) bytes_are long =
        let same = one v bytes_are.0 bytes_are.1 bytes_are.2 bytes_are.4 in
        let behind = narrows row (subst (λ (l : List ℕ). IsRowBytes l row) (sym same.1) bytes_are.3) (omega (arith, long)) in
        let piece : List ℕ = if want then front else (0 ∷ []) in (
          behind.0,
          (
            piece ++ behind.1.0,
            behind.1.1 ∙ ap (λ (l : List ℕ). l ++ behind.1.0) pushed ∙ append_assoc old piece behind.1.0,
            narrowed_more want more v row front behind.1.0 (subst (λ (l : List ℕ). IsFieldBytes l v) (sym same.0) bytes_are.2) behind.1.2,
          ),
        )

-- bytes without a field at the front are those of no row
pub narrows_never : (ws more : List Bool) (want : Bool) (bytes old new : List ℕ) → ws ≡ want ∷ more → ((v : Option Datum) (f r : List ℕ) → IsFieldBytes f v → bytes ≡ f ++ r → ⊥) → Narrows ws bytes old new false
narrows_never ws more want bytes old new is none = subst (λ (l : List Bool). Narrows l bytes old new false) (sym is) here
  where
    here : Narrows (want ∷ more) bytes old new false
    here [] bytes_are long = absurd (omega (arith, long))
    here (v ∷ row) bytes_are long = absurd (none v bytes_are.0 bytes_are.1 bytes_are.2 bytes_are.4)

-- the row of the narrowed bytes
pub row_narrowed : (columns : List Column) (wanted ws : List Bool) (bytes old new : List ℕ) (so : Bool) → ws ≡ wanted → length wanted ≡ length columns → old ≡ [] → Narrows ws bytes old new so
    → (fields : List (Option Datum)) → SpellsRow (kinds_of columns) bytes fields → (so ≡ true) × SpellsRow (kinds_of columns) new (narrowed wanted fields)
row_narrowed columns wanted ws bytes old new so is long empty narrows fields spells =
    let width : length fields ≡ length ws =
    (let a = row_long (kinds_of columns) fields spells.is_row in let b = length-map columns (λ (k : Column). k.kind) in let e = ap (λ (l : List Bool). length l) is in omega (arith, a, b, e, long)) in
    let n = narrows fields spells.is_bytes width in (
      n.0,
      record {
        is_row = narrowed_row (kinds_of columns) wanted fields spells.is_row;
        is_bytes = subst (λ (l : List ℕ). IsRowBytes l (narrowed wanted fields)) (sym (n.1.1 ∙ ap (λ (l : List ℕ). l ++ n.1.0) empty))
            (subst (λ (l : List Bool). IsRowBytes n.1.0 (narrowed l fields)) is n.1.2);
      },
    )

-- Marks.

pub set_wanted : (ws : List Bool) (place : ℕ) → is_wanted (slice_set ws place true) place ≡ true
set_wanted [] place = refl
set_wanted (w ∷ ws) zero = refl
set_wanted (w ∷ ws) (suc place) = set_wanted ws place

pub still_wanted : (ws : List Bool) (place n : ℕ) → is_wanted ws n ≡ true → is_wanted (slice_set ws place true) n ≡ true
still_wanted [] place n is = refl
still_wanted (w ∷ ws) zero zero is = refl
still_wanted (w ∷ ws) zero (suc n) is = is
still_wanted (w ∷ ws) (suc place) zero is = is
still_wanted (w ∷ ws) (suc place) (suc n) is = still_wanted ws place n is

pub past_wanted : (ws : List Bool) (place : ℕ) → length ws ≤ place → is_wanted ws place ≡ true
past_wanted [] place past = refl
past_wanted (w ∷ ws) zero past = absurd (omega (arith, past))
past_wanted (w ∷ ws) (suc place) past = past_wanted ws place (omega (arith, past))

-- Answers of a look at a row.

pub breaks_at : (e : PageError) (page : ℕ) (broken : Type 0) → e ≡ Broken page 1 0 → broken → Breaks broken e
breaks_at e page broken is so = let at_one : ℕ = 1 in subst (λ (k : PageError). Breaks broken k) (sym is) ((λ same. absurd (let head : at_one ≡ 0 = same in omega (arith, head))), so)

pub no_and_yes : (so : Bool) → so ≡ false → so ≡ true → ⊥
no_and_yes true fails holds = absurd (let e = fails in cc)
no_and_yes false fails holds = absurd (let e = holds in cc)

-- what is said of an Ok, where it says more
pub ok_weaker : {T E : Type 0} (r : Result T E) (A B : T → Type 0) → ((x : T) → A x → B x) → IfOk r A → IfOk r B
ok_weaker (Ok x) A B weaker says = weaker x says
ok_weaker (Err e) A B weaker says = tt

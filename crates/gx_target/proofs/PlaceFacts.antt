-- Names as places, and the columns at places.
use Rattle.std.proofs.Common.{◌≡◌, inl, inr, ℕ, ◌<◌, ◌≤◌, ◌+◌, true, false, is_none, get_or, List, [], ◌∷◌, ◌++◌, length, take, drop, append_assoc, append-nil, Option, Some, None, slice_get, refl, sym, ap, ◌∙◌, subst}
use Rattle.std.proofs.lemmas.List.{drop_all, take_more}
use Rattle.std.proofs.lemmas.List.Elements.{filter_map-append}
use Rattle.std.proofs.lemmas.List.Folds.{find_at}
use Rattle.std.proofs.lemmas.Option.{slice_get_past, get_or_from_slice_get}
use Rattle.std.specs.List.{filter_map, cons_option, list_any, position_or_len}
use Rattle.std.specs.Str.{bytes_eq}
use Rattle.gx_value.specs.declared.fields.Column.{Column}
use Rattle.gx_model.specs.Checks.{Find}
use Rattle.gx_model.specs.Database.{column_named, place_of, is_column}
use Rattle.gx_model.specs.Faults.{asked_checks, listed_checks}
use Rattle.gx_target.specs.Places.{columns_at, HasPlaces, ArePlaces}
use Rattle.gx_target.proofs.Lists.{all_push, drop_next, none_above, place_below, there_is}

-- ---- a name's place

-- the column at the place of a name is the one of the name
pub record IsAt (columns : List Column) (name : List ℕ) (i : ℕ) : Type 0 where
  pub below : i < length columns
  pub column : Column
  pub named : column_named columns name ≡ Some column
  pub at : slice_get columns i ≡ Some column

pub place_is : (columns : List Column) (name : List ℕ) (i : ℕ) → place_of columns name ≡ Some i → IsAt columns name i
place_is columns name i e =
    let found = place_below (is_column name) columns i e in
    let there = there_is columns i found.1 in
    record {
      below = found.1;
      column = there.0;
      named = find_at (is_column name) columns ∙ ap (slice_get columns) found.0 ∙ there.1;
      at = there.1;
    }

pub no_place : (columns : List Column) (name : List ℕ) → place_of columns name ≡ None → column_named columns name ≡ None
no_place columns name e =
    find_at (is_column name) columns ∙ slice_get_past columns (position_or_len (is_column name) columns) (none_above (is_column name) columns e)

-- ---- names, one after another

-- These are places, and the columns that the names that are left name are those that are missing.
pub record Placed (columns : List Column) (names : List (List ℕ)) (places : List ℕ) (rest : List (List ℕ)) : Type 0 where
  pub there : HasPlaces columns places
  pub named : columns_at columns places ++ filter_map (column_named columns) rest ≡ filter_map (column_named columns) names

placed_more : (columns : List Column) (names : List (List ℕ)) (places longer : List ℕ) (name : List ℕ) (rest : List (List ℕ)) (i : ℕ)
    → Placed columns names places (name ∷ rest) → IsAt columns name i → longer ≡ places ++ i ∷ [] → Placed columns names longer rest
placed_more columns names places longer name rest i h at grown =
    let others = filter_map (column_named columns) rest in
    let one : columns_at columns (i ∷ []) ≡ at.column ∷ [] = ap (λ (o : Option Column). cons_option o []) at.at in
    let more : columns_at columns longer ≡ columns_at columns places ++ at.column ∷ [] =
    ap (columns_at columns) grown ∙ filter_map-append (slice_get columns) places (i ∷ []) ∙ ap (λ (l : List Column). columns_at columns places ++ l) one in
    record {
      there = subst (HasPlaces columns) (sym grown) (all_push (λ place. place < length columns) places i h.there at.below);
      named =
          ap (λ (l : List Column). l ++ others) more
          ∙ append_assoc (columns_at columns places) (at.column ∷ []) others
          ∙ ap (λ (o : Option Column). columns_at columns places ++ cons_option o others) (sym at.named)
          ∙ h.named;
    }

placed_all : (columns : List Column) (names : List (List ℕ)) (places : List ℕ) → Placed columns names places [] → ArePlaces columns (Some names) places
placed_all columns names places h = record { there = h.there; named = sym (append-nil (columns_at columns places)) ∙ h.named }

-- ---- SELECT: what the checks of the names that are left find is what all find

pub record Asked (columns : List Column) (names : List (List ℕ)) (places : List ℕ) (rest : List (List ℕ)) : Type 0 where
  pub finds : (found : Option ℕ) → Find (asked_checks columns (Some rest)) found → Find (asked_checks columns (Some names)) found
  pub placed : Placed columns names places rest

pub asked_none : (columns : List Column) (names : List (List ℕ)) → Asked columns names [] names
asked_none columns names = record { finds = λ found f. f; placed = record { there = tt; named = refl } }

module _ (columns : List Column) (names : List (List ℕ)) (places : List ℕ) (i : ℕ) (name d : List ℕ) (below : i < length names) (is : name ≡ get_or names i d) (h : Asked columns names places (drop i names)) where
  next_asked : Asked columns names places (name ∷ drop (i + 1) names)
  next_asked = let P : List (List ℕ) → Type 0 = λ l. Asked columns names places l in subst P (drop_next names i name d below is) h

  pub asked_unknown : place_of columns name ≡ None → Find (asked_checks columns (Some names)) (Some 4)
  asked_unknown none = next_asked.finds (Some 4) (inr (4, (ap is_none (no_place columns name none), refl), refl))

  pub asked_more : (place : ℕ) (longer : List ℕ) → place_of columns name ≡ Some place → longer ≡ places ++ place ∷ [] → Asked columns names longer (drop (i + 1) names)
  asked_more place longer found grown =
      let at = place_is columns name place found in
      record {
        finds = λ f g. next_asked.finds f (inl (ap is_none at.named, g));
        placed = placed_more columns names places longer name (drop (i + 1) names) place next_asked.placed at grown;
      }

pub all_asked : (columns : List Column) (names : List (List ℕ)) (places : List ℕ) (i : ℕ) → length names ≤ i → Asked columns names places (drop i names)
    → Find (asked_checks columns (Some names)) None × ArePlaces columns (Some names) places
all_asked columns names places i above h =
    let P : List (List ℕ) → Type 0 = λ l. Asked columns names places l in
    let whole = subst P (drop_all i names above) h in
    (whole.finds None refl, placed_all columns names places whole.placed)

-- ---- INSERT: the same, with the names before

pub record Listed (columns : List Column) (names : List (List ℕ)) (places : List ℕ) (before rest : List (List ℕ)) : Type 0 where
  pub finds : (found : Option ℕ) → Find (listed_checks columns before rest) found → Find (listed_checks columns [] names) found
  pub placed : Placed columns names places rest

pub listed_none : (columns : List Column) (names : List (List ℕ)) → Listed columns names [] [] names
listed_none columns names = record { finds = λ found f. f; placed = record { there = tt; named = refl } }

module _ (columns : List Column) (names : List (List ℕ)) (places : List ℕ) (i : ℕ) (name d : List ℕ) (below : i < length names) (is : name ≡ get_or names i d) (h : Listed columns names places (take i names) (drop i names)) where
  next_listed : Listed columns names places (take i names) (name ∷ drop (i + 1) names)
  next_listed = let P : List (List ℕ) → Type 0 = λ l. Listed columns names places (take i names) l in subst P (drop_next names i name d below is) h

  pub listed_unknown : place_of columns name ≡ None → Find (listed_checks columns [] names) (Some 4)
  listed_unknown none = next_listed.finds (Some 4) (inr (4, (ap is_none (no_place columns name none), refl), refl))

  module _ (place : ℕ) (found : place_of columns name ≡ Some place) where
    at : IsAt columns name place
    at = place_is columns name place found

    pub listed_twice : list_any (bytes_eq name) (take i names) ≡ true → Find (listed_checks columns [] names) (Some 5)
    listed_twice twice = next_listed.finds (Some 5) (inl (ap is_none at.named, inr (5, (twice, refl), refl)))

    pub listed_more : (longer : List ℕ) → list_any (bytes_eq name) (take i names) ≡ false → longer ≡ places ++ place ∷ [] → Listed columns names longer (take (i + 1) names) (drop (i + 1) names)
    listed_more longer new grown =
        let before : take (i + 1) names ≡ take i names ++ name ∷ [] = take_more names i d below ∙ ap (λ (n : List ℕ). take i names ++ n ∷ []) (sym is) in
        let P : Option ℕ → List (List ℕ) → Type 0 = λ f ns. Find (listed_checks columns ns (drop (i + 1) names)) f in
        record {
          finds = λ f g. next_listed.finds f (inl (ap is_none at.named, inl (new, subst (P f) before g)));
          placed = placed_more columns names places longer name (drop (i + 1) names) place next_listed.placed at grown;
        }

pub all_listed : (columns : List Column) (names : List (List ℕ)) (places : List ℕ) (i : ℕ) → length names ≤ i → Listed columns names places (take i names) (drop i names)
    → Find (listed_checks columns [] names) None × ArePlaces columns (Some names) places
all_listed columns names places i above h =
    let P : List (List ℕ) → Type 0 = λ l. Listed columns names places (take i names) l in
    let whole = subst P (drop_all i names above) h in
    (whole.finds None refl, placed_all columns names places whole.placed)

-- ---- all columns

pub record Counted (columns : List Column) (places : List ℕ) (i : ℕ) : Type 0 where
  pub there : HasPlaces columns places
  pub columns_are : columns_at columns places ++ drop i columns ≡ columns

pub counted_none : (columns : List Column) → Counted columns [] 0
counted_none columns = record { there = tt; columns_are = refl }

pub counted_more : (columns : List Column) (places longer : List ℕ) (i : ℕ) → i < length columns → Counted columns places i → longer ≡ places ++ i ∷ [] → Counted columns longer (i + 1)
counted_more columns places longer i below h grown =
    let at = there_is columns i below in
    let one : columns_at columns (i ∷ []) ≡ at.0 ∷ [] = ap (λ (o : Option Column). cons_option o []) at.1 in
    let more : columns_at columns longer ≡ columns_at columns places ++ at.0 ∷ [] =
    ap (columns_at columns) grown ∙ filter_map-append (slice_get columns) places (i ∷ []) ∙ ap (λ (l : List Column). columns_at columns places ++ l) one in
    record {
      there = subst (HasPlaces columns) (sym grown) (all_push (λ place. place < length columns) places i h.there below);
      columns_are =
          ap (λ (l : List Column). l ++ drop (i + 1) columns) more
          ∙ append_assoc (columns_at columns places) (at.0 ∷ []) (drop (i + 1) columns)
          ∙ ap (λ (l : List Column). columns_at columns places ++ l) (sym (drop_next columns i at.0 at.0 below (sym (get_or_from_slice_get columns i at.0 at.0 at.1))))
          ∙ h.columns_are;
    }

pub all_counted : (columns : List Column) (places : List ℕ) (i : ℕ) → length columns ≤ i → Counted columns places i → ArePlaces columns None places
all_counted columns places i above h =
    record {
      there = h.there;
      named = sym (append-nil (columns_at columns places)) ∙ ap (λ (l : List Column). columns_at columns places ++ l) (sym (drop_all i columns above)) ∙ h.columns_are;
    }

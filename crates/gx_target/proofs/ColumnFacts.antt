-- The columns of a new table, word by word.
use Rattle.std.proofs.Common.{◌≡◌, inl, inr, ℕ, ◌<◌, ◌≤◌, ◌+◌, true, false, is_none, get_or, List, [], ◌∷◌, ◌++◌, length, map, drop, append_assoc, append-nil, Option, Some, None, option_map, refl, sym, ap, ◌∙◌, subst}
use Rattle.std.proofs.lemmas.List.{map-append, drop_all}
use Rattle.std.specs.List.{filter_map, cons_option, list_any}
use Rattle.std.specs.Str.{bytes_eq}
use Rattle.gx_parse.specs.declared.statement.ColumnWord.{ColumnWord}
use Rattle.gx_value.specs.declared.fields.Column.{Column}
use Rattle.gx_value.specs.declared.types.ColumnType.{ColumnType}
use Rattle.gx_model.specs.Checks.{Find}
use Rattle.gx_model.specs.Faults.{new_column_checks, type_of}
use Rattle.gx_model.specs.Steps.{column_of}
use Rattle.gx_target.proofs.Lists.{any_map, drop_next}
use Rattle.gx_target.proofs.TargetFacts.{names_of}

-- What the checks of the words that are left find is what all find, and the columns of these words are those that are missing.
pub record Made (words : List ColumnWord) (columns : List Column) (rest : List ColumnWord) : Type 0 where
  pub finds : (found : Option ℕ) → Find (new_column_checks (names_of columns) rest) found → Find (new_column_checks [] words) found
  pub makes : columns ++ filter_map column_of rest ≡ filter_map column_of words

pub made_none : (words : List ColumnWord) → Made words [] words
made_none words = record { finds = λ found f. f; makes = refl }

module _ (words : List ColumnWord) (columns : List Column) (i : ℕ) (w d : ColumnWord) (below : i < length words) (is : w ≡ get_or words i d) (h : Made words columns (drop i words)) where
  next : Made words columns (w ∷ drop (i + 1) words)
  next = let P : List ColumnWord → Type 0 = λ l. Made words columns l in subst P (drop_next words i w d below is) h

  pub named_twice : list_any (λ (c : Column). bytes_eq w.name c.name) columns ≡ true → Find (new_column_checks [] words) (Some 5)
  named_twice twice = next.finds (Some 5) (inr (5, (any_map (bytes_eq w.name) (λ (c : Column). c.name) columns ∙ twice, refl), refl))

  module _ (new : list_any (λ (c : Column). bytes_eq w.name c.name) columns ≡ false) where
    pub unknown_type : type_of w.kind ≡ None → Find (new_column_checks [] words) (Some 6)
    unknown_type unknown = next.finds (Some 6) (inl (any_map (bytes_eq w.name) (λ (c : Column). c.name) columns ∙ new, inr (6, (ap is_none unknown, refl), refl)))

    pub made_more : (kind : ColumnType) (longer : List Column) → type_of w.kind ≡ Some kind → longer ≡ columns ++ record { name = w.name; kind = kind } ∷ [] → Made words longer (drop (i + 1) words)
    made_more kind longer known grown =
        let column : Column = record { name = w.name; kind = kind } in
        let rest = drop (i + 1) words in
        let made : column_of w ≡ Some column = ap (option_map (λ (k : ColumnType). let c : Column = record { name = w.name; kind = k } in c)) known in
        let names : names_of longer ≡ names_of columns ++ w.name ∷ [] = ap names_of grown ∙ map-append (λ (c : Column). c.name) columns (column ∷ []) in
        let P : Option ℕ → List (List ℕ) → Type 0 = λ found ns. Find (new_column_checks ns rest) found in
        record {
          finds = λ found f. next.finds found (inl (any_map (bytes_eq w.name) (λ (c : Column). c.name) columns ∙ new, inl (ap is_none known, subst (P found) names f)));
          makes =
              ap (λ (l : List Column). l ++ filter_map column_of rest) grown
              ∙ append_assoc columns (column ∷ []) (filter_map column_of rest)
              ∙ ap (λ (o : Option Column). columns ++ cons_option o (filter_map column_of rest)) (sym made)
              ∙ next.makes;
        }

pub all_made : (words : List ColumnWord) (columns : List Column) (i : ℕ) → length words ≤ i → Made words columns (drop i words) → Find (new_column_checks [] words) None × (columns ≡ filter_map column_of words)
all_made words columns i above h =
    let P : List ColumnWord → Type 0 = λ l. Made words columns l in
    let whole = subst P (drop_all i words above) h in
    (whole.finds None refl, sym (append-nil columns) ∙ whole.makes)

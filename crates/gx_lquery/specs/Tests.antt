-- Tests that tell which labels and paths match.
use Rattle.std.specs.Prelude.{◌==◌, ℕ, leb, Bool, true, false, not, ◌&&◌, ◌||◌, List, [], ◌∷◌, ◌++◌, length, take, Option, None, Some, if◌then◌else◌, bytes_eq}
use Rattle.std.specs.List.{list_any}
use Rattle.gx_lquery.specs.declared.variant.Variant.{Variant}
use Rattle.gx_lquery.specs.declared.query.LqueryItem.{LqueryItem}
use Rattle.gx_lquery.specs.declared.query.Lquery.{Lquery}
use Rattle.gx_lquery.specs.Matching.{folded}

-- a label of the variant's length, or where it is a prefix a longer one, with the same letters at the front
abbrev pub matches_variant : Variant → List ℕ → Bool
matches_variant variant label =
    (leb (length variant.label) (length label) && (variant.prefix || length label == length variant.label))
    && bytes_eq (folded variant.caseless (take (length variant.label) label)) (folded variant.caseless variant.label)

abbrev pub matches_item : LqueryItem → List ℕ → Bool
matches_item item label =
    let some = list_any (λ v. matches_variant v label) item.variants in item.star || (if item.negated then not some else some)

abbrev pub all_match : LqueryItem → List (List ℕ) → Bool
all_match item [] = true
all_match item (label ∷ labels) = matches_item item label && all_match item labels

abbrev pub is_at_most : ℕ → Option ℕ → Bool
is_at_most count None = true
is_at_most count (Some most) = leb count most

abbrev pub fits_item : LqueryItem → List (List ℕ) → Bool
fits_item item group = leb item.least (length group) && (is_at_most (length group) item.most && all_match item group)

-- at some place of the path, what stands before it passes one test, and what stands behind it another
abbrev pub some_cut : (List (List ℕ) → Bool) → (List (List ℕ) → Bool) → List (List ℕ) → List (List ℕ) → Bool
some_cut before behind front [] = before front && behind []
some_cut before behind front (label ∷ path) =
    (before front && behind (label ∷ path)) || some_cut before behind (front ++ label ∷ []) path

-- a group for each item, one behind another
abbrev pub matches_path : List LqueryItem → List (List ℕ) → Bool
matches_path [] [] = true
matches_path [] (label ∷ path) = false
matches_path (item ∷ items) path = some_cut (fits_item item) (matches_path items) [] path

abbrev pub matches_any : List Lquery → List (List ℕ) → Bool
matches_any queries path = list_any (λ query. matches_path query.items path) queries

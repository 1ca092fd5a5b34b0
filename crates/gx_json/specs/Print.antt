-- The printed text of a document (PostgreSQL 16, 8.14).
use Rattle.std.specs.Prelude.{◌≡◌, ◌==◌, ℕ, ◌<◌, ◌⊎◌, Bool, true, false, if◌then◌else◌, nat_lt, List, [], ◌∷◌, ◌++◌, length, filter, IsPermutation}
use Rattle.std.specs.List.{AllByRecursion}
use Rattle.std.specs.List.Sorted.{IsNonDecreasingBy}
use Rattle.json.specs.Token.{Token}
use Rattle.json.specs.Print.{quoted, token_text}
use Rattle.serde_json.specs.Data.{Data, null, boolean, number, string, array, object, Items, no_items, item, Members, no_members, member}
use Rattle.serde_json.specs.Written.{number_text}
use Rattle.gx_json.specs.Valid.{IsBelow}

-- a key, and the printed text of its value
abbrev pub Entry : Type 0
Entry = List ℕ × List ℕ

-- a key with what belongs to it, put before the first pair whose key is no shorter
abbrev pub put_by_length : {X : Type 0} → List ℕ × X → List (List ℕ × X) → List (List ℕ × X)
put_by_length p [] = p ∷ []
put_by_length p (q ∷ pairs) = if nat_lt (length q.0) (length p.0) then q ∷ put_by_length p pairs else p ∷ q ∷ pairs

-- shorter keys first, and keys of one length as they stand, which is by their bytes in a document
abbrev pub shorter_first : {X : Type 0} → List (List ℕ × X) → List (List ℕ × X)
shorter_first [] = []
shorter_first (p ∷ pairs) = put_by_length p (shorter_first pairs)

abbrev pub of_length : ℕ → List Entry → List Entry
of_length n entries = filter (λ e. length e.0 == n) entries

-- the same entries by the lengths of their keys, and those of one length in the same order
pub record IsShorterFirst (entries sorted : List Entry) : Type 0 where
  pub same : IsPermutation entries sorted
  pub rising : IsNonDecreasingBy (λ (e : Entry). length e.0) sorted
  pub stable : (n : ℕ) → of_length n sorted ≡ of_length n entries

-- a shorter key, or one of the same length that is below by its bytes
abbrev pub IsBefore : Entry → Entry → Type 0
IsBefore e f = (length e.0 < length f.0) ⊎ ((length e.0 ≡ length f.0) × IsBelow e.0 f.0)

-- each entry is before all later ones
abbrev pub AreByLengthThenBytes : List Entry → Type 0
AreByLengthThenBytes [] = Unit {0}
AreByLengthThenBytes (e ∷ entries) = AllByRecursion (IsBefore e) entries × AreByLengthThenBytes entries

-- a comma and a space, where something stands before
abbrev pub separator : Bool → List ℕ
separator later = if later then 44 ∷ 32 ∷ [] else []

-- each key with a colon and a space behind it, and its value
abbrev pub entries_text : Bool → List Entry → List ℕ
entries_text later [] = []
entries_text later (e ∷ entries) = separator later ++ (quoted e.0 ++ 58 ∷ 32 ∷ (e.1 ++ entries_text true entries))

abbrev mutual
  -- strings with the escapes that `serde_json` writes
  pub printed : Data → List ℕ
  printed null = token_text Token.null
  printed (boolean b) = token_text (Token.boolean b)
  printed (number n) = number_text n
  printed (string s) = quoted s
  printed (array ds) = 91 ∷ (printed_items false ds ++ 93 ∷ [])
  printed (object ms) = 123 ∷ (entries_text false (shorter_first (entries_of ms)) ++ 125 ∷ [])

  pub printed_items : Bool → Items → List ℕ
  printed_items later no_items = []
  printed_items later (item d ds) = separator later ++ (printed d ++ printed_items true ds)

  pub entries_of : Members → List Entry
  entries_of no_members = []
  entries_of (member k d ms) = (k, printed d) ∷ entries_of ms

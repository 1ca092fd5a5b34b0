-- Decisions of the operators on documents: each is true exactly where the operator's relation holds.
use Rattle.std.specs.Prelude.{ℕ, ◌==◌, Bool, true, false, ◌&&◌, ◌||◌, List, bytes_eq}
use Rattle.std.specs.Bool.{beq}
use Rattle.std.specs.Ordering.{int_eq}
use Rattle.std.specs.List.{list_all, list_any}
use Rattle.std.specs.Float.Ieee.{Float, nan, inf, fin}
use Rattle.serde_json.specs.Data.{Num, unsigned, negative, float, Data, null, boolean, number, string, array, object, Items, no_items, item, Members, no_members, member}
use Rattle.gx_json.specs.Operators.{Question, Contains, Has, HasAll, HasAny}

-- the same number
abbrev pub same_float : Float → Float → Bool
same_float nan nan = true
same_float (inf a) (inf b) = beq a b
same_float (fin a m e) (fin b n f) = beq a b && (m == n && int_eq e f)
same_float _ _ = false

abbrev pub same_number : Num → Num → Bool
same_number (unsigned m) (unsigned n) = m == n
same_number (negative m) (negative n) = int_eq m n
same_number (float x) (float y) = same_float x y
same_number _ _ = false

-- the same scalar
abbrev pub same_scalar : Data → Data → Bool
same_scalar null null = true
same_scalar (boolean a) (boolean b) = beq a b
same_scalar (number m) (number n) = same_number m n
same_scalar (string s) (string t) = bytes_eq s t
same_scalar _ _ = false

abbrev pub some_item : (Data → Bool) → Items → Bool
some_item test no_items = false
some_item test (item d ds) = test d || some_item test ds

abbrev pub some_member : List ℕ → (Data → Bool) → Members → Bool
some_member key test no_members = false
some_member key test (member k d ms) = (bytes_eq k key && test d) || some_member key test ms

-- an array whose elements pass, and an object whose members do
abbrev pub if_array : Data → (Items → Bool) → Bool
if_array (array vs) test = test vs
if_array _ test = false

abbrev pub if_object : Data → (Members → Bool) → Bool
if_object (object vs) test = test vs
if_object _ test = false

abbrev pub has_key : List ℕ → Data → Bool
has_key key (string s) = bytes_eq s key
has_key key (array ds) = some_item (λ d. same_scalar d (string key)) ds
has_key key (object ms) = some_member key (λ _. true) ms
has_key key _ = false

abbrev mutual
  pub covers : Data → Data → Bool
  covers v null = same_scalar v null
  covers v (boolean b) = same_scalar v (boolean b)
  covers v (number n) = same_scalar v (number n)
  covers v (string s) = same_scalar v (string s)
  covers v (array qs) = if_array v (λ vs. cover_items vs qs)
  covers v (object qs) = if_object v (λ vs. cover_members vs qs)

  pub cover_items : Items → Items → Bool
  cover_items vs no_items = true
  cover_items vs (item q qs) = some_item (λ v. covers v q) vs && cover_items vs qs

  pub cover_members : Members → Members → Bool
  cover_members vs no_members = true
  cover_members vs (member k q qs) = some_member k (λ v. covers v q) vs && cover_members vs qs

abbrev pub is_scalar : Data → Bool
is_scalar (array ds) = false
is_scalar (object ms) = false
is_scalar _ = true

abbrev pub contains_document : Data → Data → Bool
contains_document v q =
    covers v q || (is_scalar q && if_array v (λ vs. some_item (λ d. same_scalar d q) vs))

unfoldable pub holds : Question → Data → Bool
holds (Contains other) v = contains_document v other
holds (Has key) v = has_key key v
holds (HasAll keys) v = list_all (λ key. has_key key v) keys
holds (HasAny keys) v = list_any (λ key. has_key key v) keys

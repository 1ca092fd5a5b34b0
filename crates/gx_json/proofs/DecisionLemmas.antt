-- The decisions of the operators are true exactly where the relations hold.
use Rattle.std.proofs.Common.{◌≡◌, ℕ, ◌==◌, Bool, true, false, ◌&&◌, List, Any, bytes_eq, refl, sym, ap, subst, true≢false}
use Rattle.std.specs.Bool.{Decides, beq}
use Rattle.std.specs.Cmp.{booleans_Decides}
use Rattle.std.specs.Ordering.{int_eq}
use Rattle.std.specs.List.{list_all, list_any}
use Rattle.std.specs.Float.Ieee.{Float, nan, inf, fin}
use Rattle.std.proofs.lemmas.Bool.Decides.{Decides-eqb, Decides-int_eq, Decides-like, Decides-and, Decides-or, Decides-by_and}
use Rattle.std.proofs.lemmas.List.Folds.{Any-from_list_any, list_any-from_Any}
use Rattle.std.proofs.lemmas.Slice.Eq.{bytes_eq-Decides}
use Rattle.serde_json.specs.Data.{Num, unsigned, negative, float, Data, null, boolean, number, string, array, object, Items, no_items, item, Members, no_members, member}
use Rattle.gx_json.specs.Operators.{SomeItem, SomeMember, HasKey, Covers, CoverItems, CoverMembers, IsScalar, Question, Contains, Has, HasAll, HasAny, Holds}
use Rattle.gx_json.specs.Decisions.{same_float, same_number, same_scalar, some_item, some_member, if_array, if_object, has_key, covers, cover_items, cover_members, is_scalar, holds}

yes : Decides true (Unit {0})
yes = (λ _. tt, λ _. refl)

no : {P : Type 0} → (P → ⊥) → Decides false P
no none = (λ e. absurd (true≢false (sym e)), λ p. absurd (none p))

-- ---- equal scalars

floats : (x y : Float) → Decides (same_float x y) (x ≡ y)
floats nan nan = (λ _. refl, λ _. refl)
floats nan (inf b) = no (λ e. let f : ⊥ = cc in f)
floats nan (fin b n f) = no (λ e. let f : ⊥ = cc in f)
floats (inf a) nan = no (λ e. let f : ⊥ = cc in f)
floats (inf a) (inf b) = Decides-like (same_float (inf a) (inf b)) (λ e. ap inf e) (λ e. cc) (booleans_Decides a b)
floats (inf a) (fin b n f) = no (λ e. let f : ⊥ = cc in f)
floats (fin a m e) nan = no (λ e. let f : ⊥ = cc in f)
floats (fin a m e) (inf b) = no (λ e. let f : ⊥ = cc in f)
floats (fin a m e) (fin b n f) =
    Decides-like (same_float (fin a m e) (fin b n f)) (λ h. let first = h.0 in let second = h.1.0 in let third = h.1.1 in cc) (λ h. (cc, (cc, cc)))
    (Decides-and (beq a b) (m == n && int_eq e f) (booleans_Decides a b) (Decides-and (m == n) (int_eq e f) (Decides-eqb m n) (Decides-int_eq e f)))

numbers : (m n : Num) → Decides (same_number m n) (m ≡ n)
numbers (unsigned m) (unsigned n) = Decides-like (same_number (unsigned m) (unsigned n)) (λ e. ap unsigned e) (λ e. cc) (Decides-eqb m n)
numbers (unsigned m) (negative n) = no (λ e. let f : ⊥ = cc in f)
numbers (unsigned m) (float y) = no (λ e. let f : ⊥ = cc in f)
numbers (negative m) (unsigned n) = no (λ e. let f : ⊥ = cc in f)
numbers (negative m) (negative n) = Decides-like (same_number (negative m) (negative n)) (λ e. ap negative e) (λ e. cc) (Decides-int_eq m n)
numbers (negative m) (float y) = no (λ e. let f : ⊥ = cc in f)
numbers (float x) (unsigned n) = no (λ e. let f : ⊥ = cc in f)
numbers (float x) (negative n) = no (λ e. let f : ⊥ = cc in f)
numbers (float x) (float y) = Decides-like (same_number (float x) (float y)) (λ e. ap float e) (λ e. cc) (floats x y)

nulls : (v : Data) → Decides (same_scalar v null) (v ≡ null)
nulls null = (λ _. refl, λ _. refl)
nulls (boolean a) = no (λ e. let f : ⊥ = cc in f)
nulls (number m) = no (λ e. let f : ⊥ = cc in f)
nulls (string s) = no (λ e. let f : ⊥ = cc in f)
nulls (array ds) = no (λ e. let f : ⊥ = cc in f)
nulls (object ms) = no (λ e. let f : ⊥ = cc in f)

booleans : (v : Data) (b : Bool) → Decides (same_scalar v (boolean b)) (v ≡ boolean b)
booleans null b = no (λ e. let f : ⊥ = cc in f)
booleans (boolean a) b = Decides-like (same_scalar (boolean a) (boolean b)) (λ e. ap boolean e) (λ e. cc) (booleans_Decides a b)
booleans (number m) b = no (λ e. let f : ⊥ = cc in f)
booleans (string s) b = no (λ e. let f : ⊥ = cc in f)
booleans (array ds) b = no (λ e. let f : ⊥ = cc in f)
booleans (object ms) b = no (λ e. let f : ⊥ = cc in f)

all_numbers : (v : Data) (n : Num) → Decides (same_scalar v (number n)) (v ≡ number n)
all_numbers null n = no (λ e. let f : ⊥ = cc in f)
all_numbers (boolean a) n = no (λ e. let f : ⊥ = cc in f)
all_numbers (number m) n = Decides-like (same_scalar (number m) (number n)) (λ e. ap number e) (λ e. cc) (numbers m n)
all_numbers (string s) n = no (λ e. let f : ⊥ = cc in f)
all_numbers (array ds) n = no (λ e. let f : ⊥ = cc in f)
all_numbers (object ms) n = no (λ e. let f : ⊥ = cc in f)

strings : (v : Data) (t : List ℕ) → Decides (same_scalar v (string t)) (v ≡ string t)
strings null t = no (λ e. let f : ⊥ = cc in f)
strings (boolean a) t = no (λ e. let f : ⊥ = cc in f)
strings (number m) t = no (λ e. let f : ⊥ = cc in f)
strings (string s) t = Decides-like (same_scalar (string s) (string t)) (λ e. ap string e) (λ e. cc) (bytes_eq-Decides s t)
strings (array ds) t = no (λ e. let f : ⊥ = cc in f)
strings (object ms) t = no (λ e. let f : ⊥ = cc in f)

-- ---- elements and members

items : (test : Data → Bool) (P : Data → Type 0) → ((d : Data) → Decides (test d) (P d)) → (ds : Items) → Decides (some_item test ds) (SomeItem P ds)
items test P each no_items = no (λ f. f)
items test P each (item d ds) = Decides-or (test d) (some_item test ds) (each d) (items test P each ds)

members : (key : List ℕ) (test : Data → Bool) (P : Data → Type 0) → ((d : Data) → Decides (test d) (P d)) → (ms : Members) → Decides (some_member key test ms) (SomeMember key P ms)
members key test P each no_members = no (λ f. f)
members key test P each (member k d ms) =
    Decides-or (bytes_eq k key && test d) (some_member key test ms) (Decides-and (bytes_eq k key) (test d) (bytes_eq-Decides k key) (each d)) (members key test P each ms)

same_items : (a b : Items) → array a ≡ array b → a ≡ b
same_items a b e = cc

same_members : (a b : Members) → object a ≡ object b → a ≡ b
same_members a b e = cc

in_array : (v : Data) (test : Items → Bool) (P : Items → Type 0) → ((vs : Items) → Decides (test vs) (P vs)) → Decides (if_array v test) ((vs : Items) × (v ≡ array vs) × P vs)
in_array null test P each = no (λ h. let e = h.1 in let f : ⊥ = cc in f)
in_array (boolean a) test P each = no (λ h. let e = h.1 in let f : ⊥ = cc in f)
in_array (number m) test P each = no (λ h. let e = h.1 in let f : ⊥ = cc in f)
in_array (string s) test P each = no (λ h. let e = h.1 in let f : ⊥ = cc in f)
in_array (array vs) test P each = Decides-like (test vs) (λ p. (vs, refl, p)) (λ h. subst P (sym (same_items vs h.0 h.1)) h.2) (each vs)
in_array (object ms) test P each = no (λ h. let e = h.1 in let f : ⊥ = cc in f)

in_object : (v : Data) (test : Members → Bool) (P : Members → Type 0) → ((vs : Members) → Decides (test vs) (P vs)) → Decides (if_object v test) ((vs : Members) × (v ≡ object vs) × P vs)
in_object null test P each = no (λ h. let e = h.1 in let f : ⊥ = cc in f)
in_object (boolean a) test P each = no (λ h. let e = h.1 in let f : ⊥ = cc in f)
in_object (number m) test P each = no (λ h. let e = h.1 in let f : ⊥ = cc in f)
in_object (string s) test P each = no (λ h. let e = h.1 in let f : ⊥ = cc in f)
in_object (array ds) test P each = no (λ h. let e = h.1 in let f : ⊥ = cc in f)
in_object (object vs) test P each = Decides-like (test vs) (λ p. (vs, refl, p)) (λ h. subst P (sym (same_members vs h.0 h.1)) h.2) (each vs)

-- ---- the operators

keys : (key : List ℕ) (v : Data) → Decides (has_key key v) (HasKey key v)
keys key null = no (λ f. f)
keys key (boolean b) = no (λ f. f)
keys key (number n) = no (λ f. f)
keys key (string s) = bytes_eq-Decides s key
keys key (array ds) = items (λ d. same_scalar d (string key)) (λ d. d ≡ string key) (λ d. strings d key) ds
keys key (object ms) = members key (λ _. true) (λ _. Unit {0}) (λ _. yes) ms

mutual
  covered : (q v : Data) → Decides (covers v q) (Covers v q)
  covered null v = nulls v
  covered (boolean b) v = booleans v b
  covered (number n) v = all_numbers v n
  covered (string s) v = strings v s
  covered (array qs) v = in_array v (λ vs. cover_items vs qs) (λ vs. CoverItems vs qs) (λ vs. items_covered qs vs)
  covered (object qs) v = in_object v (λ vs. cover_members vs qs) (λ vs. CoverMembers vs qs) (λ vs. members_covered qs vs)

  items_covered : (qs vs : Items) → Decides (cover_items vs qs) (CoverItems vs qs)
  items_covered no_items vs = yes
  items_covered (item q qs) vs =
      Decides-and (some_item (λ v. covers v q) vs) (cover_items vs qs) (items (λ v. covers v q) (λ v. Covers v q) (λ v. covered q v) vs) (items_covered qs vs)

  members_covered : (qs vs : Members) → Decides (cover_members vs qs) (CoverMembers vs qs)
  members_covered no_members vs = yes
  members_covered (member k q qs) vs =
      Decides-and (some_member k (λ v. covers v q) vs) (cover_members vs qs) (members k (λ v. covers v q) (λ v. Covers v q) (λ v. covered q v) vs) (members_covered qs vs)

-- an array with the other, a scalar, as an element
element : (v q : Data) → ((d : Data) → Decides (same_scalar d q) (d ≡ q)) → Decides (if_array v (λ vs. some_item (λ d. same_scalar d q) vs)) ((vs : Items) × (v ≡ array vs) × SomeItem (λ d. d ≡ q) vs)
element v q each = in_array v (λ vs. some_item (λ d. same_scalar d q) vs) (λ vs. SomeItem (λ d. d ≡ q) vs) (λ vs. items (λ d. same_scalar d q) (λ d. d ≡ q) each vs)

scalar_element : (v q : Data) → Decides (is_scalar q && if_array v (λ vs. some_item (λ d. same_scalar d q) vs)) (IsScalar q × ((vs : Items) × (v ≡ array vs) × SomeItem (λ d. d ≡ q) vs))
scalar_element v null = Decides-and true _ yes (element v null nulls)
scalar_element v (boolean b) = Decides-and true _ yes (element v (boolean b) (λ d. booleans d b))
scalar_element v (number n) = Decides-and true _ yes (element v (number n) (λ d. all_numbers d n))
scalar_element v (string s) = Decides-and true _ yes (element v (string s) (λ d. strings d s))
scalar_element v (array qs) = no (λ h. h.0)
scalar_element v (object qs) = no (λ h. h.0)

some_key : (ks : List (List ℕ)) (v : Data) → Decides (list_any (λ key. has_key key v) ks) (Any (λ key. HasKey key v) ks)
some_key ks v = (
  λ e. let some = Any-from_list_any (λ key. has_key key v) ks e in (some.0, some.1, some.2, some.3, (keys some.1 v).0 some.4),
  λ some. list_any-from_Any (λ key. has_key key v) ks (some.0, some.1, some.2, some.3, (keys some.1 v).1 some.4),
)

pub holds-Decides : (question : Question) (v : Data) → Decides (holds question v) (Holds question v)
unfolding holds
holds-Decides (Contains q) v = Decides-or (covers v q) (is_scalar q && if_array v (λ vs. some_item (λ d. same_scalar d q) vs)) (covered q v) (scalar_element v q)
holds-Decides (Has key) v = keys key v
holds-Decides (HasAll ks) v =
    Decides-by_and (λ key. has_key key v) (λ key. HasKey key v) (list_all (λ key. has_key key v)) (λ key. keys key v) refl (λ _ _. refl) ks
holds-Decides (HasAny ks) v = some_key ks v

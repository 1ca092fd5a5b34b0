-- Where a map has a key with a value, it has both items.
use Rattle.std.specs.Prelude.{◌≡◌, ℕ, Bool, true, false, cond, List, [], ◌∷◌, ◌++◌, Option, Some, None, Contains, bytes_eq, refl}
use Rattle.std.proofs.Common.{sym, ap, ◌∙◌, subst, arith}
use Rattle.std.proofs.lemmas.List.Elements.{Contains-append_left, Contains-append_right}
use Rattle.std.proofs.lemmas.Slice.Eq.{bytes_eq-Decides}
use Rattle.gx_hstore.specs.Map.{Pair, find}
use Rattle.gx_hstore_items.specs.Items.{key_item, value_item, pair_items, items}

-- The items of a key with this value are among these.
abbrev pub HasItems : List (List ℕ) → List ℕ → Option (List ℕ) → Type 0
HasItems all key value = Contains all (key_item key) × Contains all (value_item key value)

own_items : (p : Pair) (more : List (List ℕ)) → HasItems (pair_items p ++ more) p.0 p.1
own_items p more = (Contains-append_left (pair_items p) more (key_item p.0) (0, omega arith, refl), Contains-append_left (pair_items p) more (value_item p.0 p.1) (1, omega arith, refl))

none_found : (value : Option (List ℕ)) → None ≡ Some value → ⊥
none_found value e = cc e

same_value : (a b : Option (List ℕ)) → Some a ≡ Some b → a ≡ b
same_value a b e = cc e

by_test : (p : Pair) (pairs : List Pair) (key : List ℕ) (value : Option (List ℕ)) (b : Bool) → bytes_eq key p.0 ≡ b → cond b (Some p.1) (find key pairs) ≡ Some value
    → (find key pairs ≡ Some value → HasItems (items pairs) key value) → HasItems (items (p ∷ pairs)) key value
by_test p pairs key value true same found below =
    let k : p.0 ≡ key = sym ((bytes_eq-Decides key p.0).0 same) in
    subst (λ (x : List ℕ). HasItems (items (p ∷ pairs)) x value) k (subst (λ (v : Option (List ℕ)). HasItems (items (p ∷ pairs)) p.0 v) (same_value p.1 value found) (own_items p (items pairs)))
by_test p pairs key value false other found below =
    let here = below found in
    (Contains-append_right (pair_items p) (items pairs) (key_item key) here.0, Contains-append_right (pair_items p) (items pairs) (value_item key value) here.1)

pub items_of_found : (pairs : List Pair) (key : List ℕ) (value : Option (List ℕ)) → find key pairs ≡ Some value → HasItems (items pairs) key value
items_of_found [] key value e = absurd (none_found value e)
items_of_found (p ∷ pairs) key value e = by_test p pairs key value (bytes_eq key p.0) refl e (items_of_found pairs key value)

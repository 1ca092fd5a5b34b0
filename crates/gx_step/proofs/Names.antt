-- Names that differ, said in the model's way and in the catalog's.
use Rattle.std.proofs.Common.{◌≡◌, ◌≢◌, ℕ, Bool, true, false, ◌||◌, List, [], ◌∷◌, refl, sym, ◌∙◌}
use Rattle.std.specs.Prelude.{bytes_eq}
use Rattle.std.specs.List.{AllByRecursion, list_any}
use Rattle.std.proofs.lemmas.Slice.Eq.{bytes_eq-Decides}
use Rattle.gx_catalog.specs.Validity as catalogs
use Rattle.gx_model.specs.Database as model

pub or_false : (a b : Bool) → (a || b) ≡ false → (a ≡ false) × (b ≡ false)
or_false true b same = cc
or_false false b same = (refl, same)

not_or : (a b : Bool) → a ≡ false → b ≡ false → (a || b) ≡ false
not_or true b x y = cc
not_or false b x y = y

is_false : (b : Bool) → (b ≡ true → ⊥) → b ≡ false
is_false true never = absurd (never refl)
is_false false never = refl

none_among : (name : List ℕ) (names : List (List ℕ)) → AllByRecursion (λ other. other ≢ name) names → list_any (bytes_eq name) names ≡ false
none_among name [] differ = refl
none_among name (other ∷ names) differ =
    not_or (bytes_eq name other) (list_any (bytes_eq name) names) (is_false (bytes_eq name other) (λ yes. differ.0 (sym ((bytes_eq-Decides name other).0 yes)))) (none_among name names differ.1)

all_differ : (name : List ℕ) (names : List (List ℕ)) → list_any (bytes_eq name) names ≡ false → AllByRecursion (λ other. other ≢ name) names
all_differ name [] none = tt
all_differ name (other ∷ names) none =
    let parts = or_false (bytes_eq name other) (list_any (bytes_eq name) names) none in
    ((λ same. let yes : bytes_eq name other ≡ true = (bytes_eq-Decides name other).1 (sym same) in let never : true ≡ false = sym yes ∙ parts.0 in absurd (apart never)), all_differ name names parts.1)
  where
    apart : true ≡ false → ⊥
    apart e = cc

pub to_model : (names : List (List ℕ)) → catalogs.AreDistinct names → model.AreDistinct names
to_model [] distinct = tt
to_model (name ∷ names) distinct = (none_among name names distinct.0, to_model names distinct.1)

pub to_catalog : (names : List (List ℕ)) → model.AreDistinct names → catalogs.AreDistinct names
to_catalog [] distinct = tt
to_catalog (name ∷ names) distinct = (all_differ name names distinct.0, to_catalog names distinct.1)

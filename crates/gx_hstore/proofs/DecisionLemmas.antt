-- The decisions of the operators are true exactly where the relations hold.
use Rattle.std.proofs.Common.{◌≡◌, ℕ, zero, suc, ◌<◌, true, false, cond, List, [], ◌∷◌, length, get_or, Option, None, Some, bytes_eq, refl, sym, ap, ◌∙◌, subst, arith, true≢false}
use Rattle.std.specs.Bool.{Decides}
use Rattle.std.specs.List.{list_all}
use Rattle.std.proofs.lemmas.Bool.Decides.{Decides-like, Decides-by_and}
use Rattle.std.proofs.lemmas.List.Folds.{Any-from_list_any, list_any-from_Any}
use Rattle.std.proofs.lemmas.Slice.Eq.{bytes_eq-Decides}
use Rattle.gx_hstore.specs.Map.{Pair, find}
use Rattle.gx_hstore.specs.Operators.{HasKey, ContainsMap, Question, Contains, Has, HasAll, HasAny, Holds}
use Rattle.gx_hstore.specs.Decisions.{same_value, same_found, has_key, contains_map, holds}

no : {P : Type 0} → (P → ⊥) → Decides false P
no none = (λ e. absurd (true≢false (sym e)), λ p. absurd (none p))

values : (a b : Option (List ℕ)) → Decides (same_value a b) (a ≡ b)
values None None = (λ _. refl, λ _. refl)
values None (Some b) = no (λ e. let f : ⊥ = cc in f)
values (Some a) None = no (λ e. let f : ⊥ = cc in f)
values (Some a) (Some b) = Decides-like (same_value (Some a) (Some b)) (λ e. ap Some e) (λ e. cc) (bytes_eq-Decides a b)

found : (a b : Option (Option (List ℕ))) → Decides (same_found a b) (a ≡ b)
found None None = (λ _. refl, λ _. refl)
found None (Some b) = no (λ e. let f : ⊥ = cc in f)
found (Some a) None = no (λ e. let f : ⊥ = cc in f)
found (Some a) (Some b) = Decides-like (same_found (Some a) (Some b)) (λ e. ap Some e) (λ e. cc) (values a b)

-- a key that is looked up is that of a pair
each_key : (hstore whole other : List Pair) → ((k : ℕ) (d : Pair) → k < length other → find (get_or other k d).0 hstore ≡ find (get_or other k d).0 whole)
    → (key : List ℕ) (value : Option (List ℕ)) → find key other ≡ Some value → find key hstore ≡ find key whole
each_key hstore whole [] each key value e = let f : ⊥ = cc in absurd f
each_key hstore whole (p ∷ other) each key value e =
    elim (bytes_eq key p.0) as (λ b. bytes_eq key p.0 ≡ b → cond b (Some p.1) (find key other) ≡ Some value → find key hstore ≡ find key whole) [
      | true ↦ λ t _. let P : List ℕ → Type 0 = λ k. find k hstore ≡ find k whole in subst P (sym ((bytes_eq-Decides key p.0).0 t)) (each 0 p (omega arith))
      | false ↦ λ _ f. each_key hstore whole other (λ k d within. each (suc k) d (omega arith)) key value f
    ] refl e

-- the key of a pair is found
key_there : (other : List Pair) (k : ℕ) (d : Pair) → k < length other → (value : Option (List ℕ)) × (find (get_or other k d).0 other ≡ Some value)
key_there [] k d within = absurd (omega arith)
key_there (p ∷ other) zero d within =
    let same : bytes_eq p.0 p.0 ≡ true = (bytes_eq-Decides p.0 p.0).1 refl in
    (p.1, ap (λ b. cond b (Some p.1) (find p.0 other)) same)
key_there (p ∷ other) (suc k) d within =
    let key = (get_or other k d).0 in
    let more = key_there other k d (omega arith) in
    elim (bytes_eq key p.0) as (λ b. (value : Option (List ℕ)) × (cond b (Some p.1) (find key other) ≡ Some value)) [
      | true ↦ (p.1, refl)
      | false ↦ more
    ]

maps : (hstore other : List Pair) → Decides (contains_map hstore other) (ContainsMap hstore other)
maps hstore other =
    Decides-like (contains_map hstore other)
    (λ all key value e. each_key hstore other other (λ k d within. all k d within) key value e ∙ e)
    (λ contains k d within. let there = key_there other k d within in contains (get_or other k d).0 there.0 there.1 ∙ sym there.1)
    (Decides-by_and (λ (p : Pair). same_found (find p.0 hstore) (find p.0 other)) (λ (p : Pair). find p.0 hstore ≡ find p.0 other) (list_all (λ (p : Pair). same_found (find p.0 hstore) (find p.0 other))) (λ p. found (find p.0 hstore) (find p.0 other)) refl (λ _ _. refl) other)

pub holds-Decides : (question : Question) (hstore : List Pair) → Decides (holds question hstore) (Holds question hstore)
unfolding holds
holds-Decides (Contains other) hstore = maps hstore other
holds-Decides (Has key) hstore = (λ e. e, λ e. e)
holds-Decides (HasAll keys) hstore =
    Decides-by_and (λ key. has_key hstore key) (λ key. HasKey hstore key) (list_all (λ key. has_key hstore key)) (λ key. (λ e. e, λ e. e)) refl (λ _ _. refl) keys
holds-Decides (HasAny keys) hstore = (Any-from_list_any (λ key. has_key hstore key) keys, list_any-from_Any (λ key. has_key hstore key) keys)

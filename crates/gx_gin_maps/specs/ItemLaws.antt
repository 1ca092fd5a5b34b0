-- Items of maps tell keys and values, where they aren't shortened.
use Rattle.std.specs.Prelude.{◌≡◌, ◌≢◌, ℕ, Bool, true, false, List, [], ◌∷◌, map, drop, Option, None, Some, Contains, IsSome, slice_index, if◌then◌else◌, refl}
use Rattle.std.proofs.Common.{sym, ap, ◌∙◌, subst, inl, inr, arith, true≢false}
use Rattle.std.proofs.lemmas.List.Elements.{All-contains}
use Rattle.gx_bytes.specs.Varints.{field_bytes}
use Rattle.gx_bytes.proofs.Spellings.{fields_same, field_is}
use Rattle.gx_hstore.specs.Map.{Pair, find, IsMap}
use Rattle.gx_hstore.specs.Operators.{HasKey}
use Rattle.gx_hstore.proofs.MapLemmas.{contains_each}
use Rattle.gx_hstore_items.specs.Items as hstore
use Rattle.gx_hstore_items.specs.Items.{key_item, value_item, pair_items}
use Rattle.gx_gin_items.specs.Items.{is_long, hashed, shortened}
use Rattle.gx_gin_items.specs.ListLaws.{none_in, in_cases, of_map, of_flat_map}
use Rattle.gx_gin_maps.specs.Tests.{pair_item}

-- the first byte, 0 where there is none
abbrev first : List ℕ → ℕ
first item = slice_index item 0

-- an item that isn't shortened, and doesn't begin as a shortened one does, stands for itself alone
kept_by : (y s : List ℕ) (b : Bool) → is_long y ≡ b → (first s ≡ 72 → ⊥) → (if b then hashed y else y) ≡ s → y ≡ s
kept_by y s true long other e = absurd (other (sym (ap first e)))
kept_by y s false long other e = e

short_is : (s : List ℕ) (b : Bool) → is_long s ≡ b → b ≡ false → (if b then hashed s else s) ≡ s
short_is s true long e = absurd (true≢false e)
short_is s false long e = refl

kept : (y s : List ℕ) → is_long s ≡ false → (first s ≡ 72 → ⊥) → shortened y ≡ shortened s → y ≡ s
kept y s short other e = kept_by y s (is_long y) refl other (e ∙ short_is s (is_long s) refl short)

pub in_short : (items : List (List ℕ)) (s : List ℕ) → is_long s ≡ false → (first s ≡ 72 → ⊥) → Contains (map shortened items) (shortened s) → Contains items s
in_short items s short other c =
    let made = of_map shortened items (shortened s) c in
    subst (λ (x : List ℕ). Contains items x) (kept made.from s short other made.is) made.in'

-- the first bytes of items differ
pub key_first : (key : List ℕ) → first (key_item key) ≡ 72 → ⊥
key_first key e = omega (arith, e)

value_first : (key : List ℕ) (value : Option (List ℕ)) → first (value_item key value) ≡ 72 → ⊥
value_first key None e = omega (arith, e)
value_first key (Some value) e = omega (arith, e)

key_or_value : (j key : List ℕ) (value : Option (List ℕ)) → value_item key value ≡ key_item j → ⊥
key_or_value j key None e = let f : 78 ≡ 75 = ap first e in omega (arith, f)
key_or_value j key (Some value) e = let f : 80 ≡ 75 = ap first e in omega (arith, f)

-- an item of a key with its value tells both
pub record IsSamePair (j key : List ℕ) (x value : Option (List ℕ)) : Type 0 where
  pub same_key : j ≡ key
  pub same_value : x ≡ value

one_value : (j key : List ℕ) (x value : Option (List ℕ)) → value_item j x ≡ value_item key value → IsSamePair j key x value
one_value j key None None e = record { same_key = ap (drop 1) e; same_value = refl }
one_value j key None (Some b) e = let f : 78 ≡ 80 = ap first e in absurd (omega (arith, f))
one_value j key (Some a) None e = let f : 80 ≡ 78 = ap first e in absurd (omega (arith, f))
one_value j key (Some a) (Some b) e =
    let parts = fields_same (field_bytes j) (field_bytes key) a b j key (field_is j) (field_is key) (ap (drop 1) e) in
    record { same_key = parts.1; same_value = ap Some parts.2 }

-- a pair of a map is found
found_in : (pairs : List Pair) → IsMap pairs → (p : Pair) → Contains pairs p → find p.0 pairs ≡ Some p.1
found_in pairs is p c = All-contains (λ (r : Pair). find r.0 pairs ≡ Some r.1) pairs p ((contains_each pairs pairs is).1 (λ key value e. e)) c

some_is : (key : List ℕ) (pairs : List Pair) (value : Option (List ℕ)) → find key pairs ≡ Some value → HasKey pairs key
some_is key pairs value e = subst (λ (o : Option (Option (List ℕ))). IsSome o) (sym e) refl

-- The items of a map tell its keys, and its keys with their values.
pub key_of_item : (pairs : List Pair) (key : List ℕ) → IsMap pairs → Contains (hstore.items pairs) (key_item key) → HasKey pairs key
key_of_item pairs key is c =
    let part = of_flat_map pair_items pairs (key_item key) c in
    elim (in_cases (key_item part.from.0) (key_item key) (value_item part.from.0 part.from.1 ∷ []) part.has) [
      | inl e ↦ subst (λ (k : List ℕ). HasKey pairs k) (ap (drop 1) e) (some_is part.from.0 pairs part.from.1 (found_in pairs is part.from part.in'))
      | inr more ↦ elim (in_cases (value_item part.from.0 part.from.1) (key_item key) [] more) [
        | inl e ↦ absurd (key_or_value key part.from.0 part.from.1 e)
        | inr none ↦ absurd (none_in (key_item key) none)
      ]
    ]

pub value_of_item : (pairs : List Pair) (key : List ℕ) (value : Option (List ℕ)) → IsMap pairs → Contains (hstore.items pairs) (value_item key value) → find key pairs ≡ Some value
value_of_item pairs key value is c =
    let part = of_flat_map pair_items pairs (value_item key value) c in
    elim (in_cases (key_item part.from.0) (value_item key value) (value_item part.from.0 part.from.1 ∷ []) part.has) [
      | inl e ↦ absurd (key_or_value part.from.0 key value (sym e))
      | inr more ↦ elim (in_cases (value_item part.from.0 part.from.1) (value_item key value) [] more) [
        | inl e ↦ (
            let same = one_value part.from.0 key part.from.1 value e in
            subst (λ (v : Option (List ℕ)). find key pairs ≡ Some v) same.same_value
            (subst (λ (k : List ℕ). find k pairs ≡ Some part.from.1) same.same_key (found_in pairs is part.from part.in'))
            )
        | inr none ↦ absurd (none_in (value_item key value) none)
      ]
    ]

-- the same of items that are kept short
pub key_of_short : (pairs : List Pair) (key : List ℕ) → IsMap pairs → is_long (key_item key) ≡ false → Contains (map shortened (hstore.items pairs)) (shortened (key_item key)) → HasKey pairs key
key_of_short pairs key is short c = key_of_item pairs key is (in_short (hstore.items pairs) (key_item key) short (key_first key) c)

pub value_of_short : (pairs : List Pair) (p : Pair) → IsMap pairs → is_long (pair_item p) ≡ false → Contains (map shortened (hstore.items pairs)) (shortened (pair_item p)) → find p.0 pairs ≡ Some p.1
value_of_short pairs p is short c = value_of_item pairs p.0 p.1 is (in_short (hstore.items pairs) (pair_item p) short (value_first p.0 p.1) c)

-- The place of an item, found from the front.
use Rattle.std.proofs.Common.{◌≡◌, ℕ, suc, ◌+◌, ◌<◌, true, false, List, [], ◌∷◌, length, drop, get_or, refl, ap, ◌∙◌, arith, add-one, drop-cons}
use Rattle.std.specs.Str.{bytes_eq}
use Rattle.gx_gin_items.specs.Tests.{place_in}

-- the items before a place aren't the one that is sought
abbrev pub Passed : List (List ℕ) → List ℕ → ℕ → Type 0
Passed items item at = place_in items item ≡ at + place_in (drop at items) item

first_is : (other item : List ℕ) (rest : List (List ℕ)) → bytes_eq other item ≡ true → place_in (other ∷ rest) item ≡ 0
first_is other item rest e = rw e refl

first_isnt : (other item : List ℕ) (rest : List (List ℕ)) → bytes_eq other item ≡ false → place_in (other ∷ rest) item ≡ suc (place_in rest item)
first_isnt other item rest e = rw e refl

at_place : (items : List (List ℕ)) (at : ℕ) → at < length items → drop at items ≡ get_or items at [] ∷ drop (at + 1) items
at_place items at below = rw add-one (drop-cons items at [] below)

pub found : (items : List (List ℕ)) (item : List ℕ) (at : ℕ) → at < length items → Passed items item at → bytes_eq (get_or items at []) item ≡ true → at ≡ place_in items item
found items item at below passed e =
    let first : place_in (drop at items) item ≡ 0 = ap (λ (l : List (List ℕ)). place_in l item) (at_place items at below) ∙ first_is (get_or items at []) item (drop (at + 1) items) e in
    omega (arith, first, passed)

pub passed : (items : List (List ℕ)) (item : List ℕ) (at : ℕ) → at < length items → Passed items item at → bytes_eq (get_or items at []) item ≡ false → Passed items item (at + 1)
passed items item at below before e =
    let first : place_in (drop at items) item ≡ suc (place_in (drop (at + 1) items) item) =
    ap (λ (l : List (List ℕ)). place_in l item) (at_place items at below) ∙ first_isnt (get_or items at []) item (drop (at + 1) items) e in
    omega (arith, first, before)

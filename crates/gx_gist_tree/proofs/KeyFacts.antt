-- The keys of items.
use Rattle.std.proofs.Common.{◌≡◌, ℕ, zero, suc, ◌+◌, ◌<◌, ◌≤◌, List, [], ◌∷◌, ◌++◌, length, map, take, drop, get_or, Option, Some, None, All, refl, sym, ◌∙◌, ap, subst, length-drop, arith}
use Rattle.std.specs.List.{AllZip}
use Rattle.std.specs.Prelude.{MatchOption}
use Rattle.gx_gist.specs.Spelled.{SpellsNone, IsSpelled}
use Rattle.std.proofs.lemmas.List.{take_more}
use Rattle.std.proofs.lemmas.List.Elements.{All-head, All-tail, All-nil, All-cons}
use Rattle.gx_gist_tree.specs.Insertion.{AreKeys, IsKeyOf, IsUnion}
use Rattle.gx_gist_tree.specs.Trees.{united_from}

pub length_map : {X Y : Type 0} (f : X → Y) (xs : List X) → length (map f xs) ≡ length xs
length_map f [] = refl
length_map f (x ∷ xs) = ap (λ (n : ℕ). suc n) (length_map f xs)

-- one more pair
zip_push : {A B : Type 0} (R : A → B → Type 0) (xs : List A) (ys : List B) (x : A) (y : B) → AllZip R xs ys → R x y → AllZip R (xs ++ x ∷ []) (ys ++ y ∷ [])
zip_push R [] [] x y all one = (one, tt)
zip_push R [] (b ∷ ys) x y all one = absurd all
zip_push R (a ∷ xs) [] x y all one = absurd all
zip_push R (a ∷ xs) (b ∷ ys) x y all one = (all.0, zip_push R xs ys x y all.1 one)

pub zip_more : {A B : Type 0} (R : A → B → Type 0) (xs : List A) (ys : List B) (i : ℕ) (x : A) (y : B) → i < length xs → x ≡ get_or xs i x → AllZip R (take i xs) ys → R x y → AllZip R (take (i + 1) xs) (ys ++ y ∷ [])
zip_more {A} {B} R xs ys i x y below is all one =
    subst (λ (l : List A). AllZip R l (ys ++ y ∷ [])) (sym (take_more xs i x below ∙ ap (λ (a : A). take i xs ++ a ∷ []) (sym is))) (zip_push R (take i xs) ys x y all one)

-- what stands beside a place
pub beside_at : {A B : Type 0} (R : A → B → Type 0) (xs : List A) (ys : List B) (i : ℕ) (x : A) → AllZip R xs ys → i < length xs → x ≡ get_or xs i x → (y : B) × R x y
beside_at R [] ys i x all below is = absurd (omega (arith, below))
beside_at R (a ∷ xs) [] i x all below is = absurd all
beside_at {A} R (a ∷ xs) (b ∷ ys) zero x all below is = (b, subst (λ (z : A). R z b) (sym is) all.0)
beside_at R (a ∷ xs) (b ∷ ys) (suc i) x all below is = beside_at R xs ys i x all.1 (omega (arith, below)) is

module _ {K : Type 0} (valid : K → Type 0) (bytes : K → List ℕ) (head : ℕ) where
  -- all keys that were read are valid
  pub keys_valid : (items : List (List ℕ)) (keys : List K) → AreKeys valid bytes head items keys → All valid keys
  keys_valid [] [] are = All-nil valid
  keys_valid [] (key ∷ keys) are = absurd are
  keys_valid (item ∷ items) [] are = absurd are
  keys_valid (item ∷ items) (key ∷ keys) are = All-cons valid key keys are.0.0 (keys_valid items keys are.1)

  pub keys_many : (items : List (List ℕ)) (keys : List K) → AreKeys valid bytes head items keys → length keys ≡ length items
  keys_many [] [] are = refl
  keys_many [] (key ∷ keys) are = absurd are
  keys_many (item ∷ items) [] are = absurd are
  keys_many (item ∷ items) (key ∷ keys) are = ap (λ (n : ℕ). suc n) (keys_many items keys are.1)

  pub item_small : (short : (k : K) → valid k → length (bytes k) ≤ 1900) → head ≤ 18 → (item : List ℕ) (key : K) → IsKeyOf valid bytes head item key → 4 + length item ≤ 1922
  item_small short low item key is =
      let s = short key is.0 in
      let e = ap (λ (l : List ℕ). length l) is.2 in
      let d = length-drop head item in
      let h = is.1 in
      omega (arith, s, e, d, h, low)

  -- no item is large
  pub items_small : (short : (k : K) → valid k → length (bytes k) ≤ 1900) → head ≤ 18 → (items : List (List ℕ)) (keys : List K) → AreKeys valid bytes head items keys → All (λ item. 4 + length item ≤ 1922) items
  items_small short low [] [] are = All-nil (λ (item : List ℕ). 4 + length item ≤ 1922)
  items_small short low [] (key ∷ keys) are = absurd are
  items_small short low (item ∷ items) [] are = absurd are
  items_small short low (item ∷ items) (key ∷ keys) are =
      All-cons (λ (i : List ℕ). 4 + length i ≤ 1922) item items (item_small short low item key are.0) (items_small short low items keys are.1)

  -- Items that are written with these keys are read with them, and with no others.
  module _ {X : Type 0} (f : X → List ℕ) (k : X → K) where
    abbrev pub Spells : X → Type 0
    Spells x = valid (k x) × (head ≤ length (f x)) × (drop head (f x) ≡ bytes (k x))

    pub keys_there : (xs : List X) → All Spells xs → AreKeys valid bytes head (map f xs) (map k xs)
    keys_there [] all = tt
    keys_there (x ∷ xs) all = (All-head Spells x xs all, keys_there xs (All-tail Spells x xs all))

    pub keys_one : (one : (a b : K) → valid a → valid b → bytes a ≡ bytes b → a ≡ b) (xs : List X) (keys : List K) → All Spells xs → AreKeys valid bytes head (map f xs) keys → keys ≡ map k xs
    keys_one one [] [] all are = refl
    keys_one one [] (key ∷ keys) all are = absurd are
    keys_one one (x ∷ xs) [] all are = absurd are
    keys_one one (x ∷ xs) (key ∷ keys) all are =
        let here = All-head Spells x xs all in
        let first : key ≡ k x = one key (k x) are.0.0 here.0 (sym are.0.2 ∙ here.2) in
        let rest = keys_one one xs keys (All-tail Spells x xs all) are.1 in
        ap (λ (a : K). a ∷ keys) first ∙ ap (λ (l : List K). k x ∷ l) rest

-- keys united one by one, with one key more
pub united_more : {K : Type 0} (union : K → K → K) (key : K) (keys : List K) (more : K) → united_from union key (keys ++ more ∷ []) ≡ union (united_from union key keys) more
united_more union key [] more = refl
united_more union key (k ∷ ks) more = united_more union (union key k) ks more

pub union_more : {K : Type 0} (union : K → K → K) (keys : List K) (key more : K) → IsUnion union keys key → IsUnion union (keys ++ more ∷ []) (union key more)
union_more {K} union keys key more is = (
  is.0,
  is.1 ++ more ∷ [],
  ap (λ (l : List K). l ++ more ∷ []) is.2,
  ap (λ (a : K). union a more) is.3 ∙ sym (united_more union is.0 is.1 more),
)

-- what is read from the bytes of a key
pub read_key : {K : Type 0} (valid : K → Type 0) (spelling : K → List ℕ) → ((a b : K) → valid a → valid b → spelling a ≡ spelling b → a ≡ b) → (bytes : List ℕ) (found : Option K)
    → MatchOption found (SpellsNone valid spelling bytes) (IsSpelled valid spelling bytes) → (key : K) → valid key → bytes ≡ spelling key → found ≡ Some key
read_key valid spelling one bytes None none key v is = absurd (none key v is)
read_key {K} valid spelling one bytes (Some a) has key v is = ap (λ (x : K). Some x) (one a key has.0 v (sym has.1 ∙ is))

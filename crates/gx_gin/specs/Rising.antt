-- Lists of byte strings that rise.
use Rattle.std.specs.Prelude.{◌≡◌, ℕ, List, [], ◌∷◌}
use Rattle.std.specs.Ordering.{nat_cmp}
use Rattle.std.specs.Cmp.Lexicographic.{slice_cmp}
use Rattle.std.specs.declared.cmp.Ordering.{Ordering}
use Rattle.std.specs.declared.cmp.Ordering.TheVariants.{Less, Equal, Greater}

-- x comes before y in the order of bytes, a prefix first
abbrev pub IsBefore : List ℕ → List ℕ → Type 0
IsBefore x y = slice_cmp nat_cmp x y ≡ Less

-- each string comes before the next
abbrev pub IsRising : List (List ℕ) → Type 0
IsRising [] = Unit {0}
IsRising (x ∷ []) = Unit {0}
IsRising (x ∷ y ∷ ys) = IsBefore x y × IsRising (y ∷ ys)

-- x stands so to y, the first of others, among which it is later put
abbrev pub placed : Ordering → List ℕ → List ℕ → List (List ℕ) → List (List ℕ) → List (List ℕ)
placed Less x y ys later = x ∷ y ∷ ys
placed Equal x y ys later = y ∷ ys
placed Greater x y ys later = y ∷ later

-- one more in its place, if it isn't there
abbrev pub put_in : List ℕ → List (List ℕ) → List (List ℕ)
put_in x [] = x ∷ []
put_in x (y ∷ ys) = placed (slice_cmp nat_cmp x y) x y ys (put_in x ys)

-- these strings in rising order, each once
abbrev pub rising_of : List (List ℕ) → List (List ℕ)
rising_of [] = []
rising_of (x ∷ xs) = put_in x (rising_of xs)

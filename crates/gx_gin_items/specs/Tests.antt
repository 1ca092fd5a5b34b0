-- What flags say of a query.
use Rattle.std.specs.Prelude.{ℕ, suc, Bool, true, false, List, [], ◌∷◌, slice_index_or, if◌then◌else◌}
use Rattle.std.specs.Str.{bytes_eq}
use Rattle.gx_gin.specs.declared.wanted.Mode.{Mode}
use Rattle.gx_gin.specs.declared.wanted.Mode.TheVariants.{Default}
use Rattle.gx_gist.specs.declared.test.Test.{Test}
use Rattle.gx_gist.specs.declared.test.Test.TheVariants.{No, Maybe, Yes}
use Rattle.std.specs.List.{list_any, list_all}

-- each wanted item was found; some was
abbrev pub all_found : List Bool → Bool
all_found found = list_all (λ f. f) found

abbrev pub some_found : List Bool → Bool
some_found found = list_any (λ f. f) found

-- No where it doesn't hold, else Yes, or Maybe
abbrev pub sure : Bool → Test
sure true = Yes
sure false = No

abbrev pub maybe : Bool → Test
maybe true = Maybe
maybe false = No

-- the place of an item, which is their number where it isn't among them
abbrev pub place_in : List (List ℕ) → List ℕ → ℕ
place_in [] item = 0
place_in (other ∷ items) item = if bytes_eq other item then 0 else suc (place_in items item)

-- the flag of an item
abbrev pub flag_of : List (List ℕ) → List Bool → List ℕ → Bool
flag_of wanted found item = slice_index_or found (place_in wanted item) false

-- one mode where a query asks for nothing, else Default
abbrev pub unless_empty : {X : Type 0} → Mode → List X → Mode
unless_empty mode [] = mode
unless_empty mode (x ∷ xs) = Default

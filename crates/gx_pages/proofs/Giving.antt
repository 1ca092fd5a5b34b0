-- Pages from the first on.
use Rattle.std.proofs.Common.{◌≡◌, ℕ, ◌+◌, ◌<◌, ◌==◌, if◌then◌else◌, List, [], ◌∷◌, length, take, get_or, refl, arith}
use Rattle.std.proofs.lemmas.Grind.{common_steps}
use Rattle.std.proofs.lemmas.List.{places}

pub given_more : (pages : List (List ℕ)) (i n : ℕ) (page zeros : List ℕ) → i < length pages → page ≡ get_or pages i page
    → get_or (take (i + 1) pages) n zeros ≡ (if n == i then page else get_or (take i pages) n zeros)
given_more pages i n page zeros within is = grind (arith, common_steps, places)

pub first_given : (pages : List (List ℕ)) (zeros : List ℕ) → 0 < length pages → get_or pages 0 zeros ≡ get_or pages 0 []
first_given [] zeros some = absurd (omega (arith, some))
first_given (page ∷ pages) zeros some = refl

-- A map that stands for a database lacks no page below its count.
use Rattle.std.proofs.Common.{◌≡◌, ◌⊎◌, inl, inr, ℕ, ◌<◌, ◌≤◌, Bool, true, false, nat_lt, List, Option, Some, None, refl, arith}
use Rattle.std.specs.Prelude.{IsSome}
use Rattle.std.proofs.lemmas.Bool.Decides.{nat_tests}
use Rattle.gx_words.specs.PageMap.{PageMap}
use Rattle.gx_pages.specs.Pages.{HasNoGap}
use Rattle.gx_model.specs.Database.{Database}
use Rattle.gx_database.specs.Standing.{StandsFor}
use Rattle.gx_database.proofs.There.{all_there}

there_not : (o : Option (List ℕ)) → o ≡ None → IsSome o → ⊥
there_not None e h = cc
there_not (Some x) e h = cc

-- Below a page that is there none is lacking.
pub no_gap : (map : PageMap) (db : Database) → StandsFor map db → HasNoGap map
no_gap map db s n k lt there =
    elim (nat_or k s.count) [
      | inl below ↦ all_there map db s n (omega (arith, lt, below))
      | inr above ↦ absurd (there_not (map k) (s.ends k above) there)
    ]
  where
    nat_or : (a b : ℕ) → (a < b) ⊎ (b ≤ a)
    nat_or a b = cases (nat_lt a b) refl
      where
        cases : (t : Bool) → nat_lt a b ≡ t → (a < b) ⊎ (b ≤ a)
        cases true e = inl (grind (arith, nat_tests))
        cases false e = inr (grind (arith, nat_tests))

-- Pages that were seen.
use Rattle.std.proofs.Common.{◌≡◌, ◌≢◌, ⊎_elim, ℕ, true, eqb, List, [], ◌∷◌, sym}
use Rattle.std.specs.List.{AllByRecursion, list_any}
use Rattle.std.proofs.lemmas.Bool.Decides.{eqb_tells}

pub met_before : (page : ℕ) (pages : List ℕ) → list_any (λ y. eqb y page) pages ≡ true → AllByRecursion (λ other. page ≢ other) pages → ⊥
met_before page [] met all = cc
met_before page (x ∷ xs) met all =
    ⊎_elim (λ same. all.0 (sym same.1)) (λ other. met_before page xs (let f = other.0 in rw f at met) all.1) (eqb_tells x page)

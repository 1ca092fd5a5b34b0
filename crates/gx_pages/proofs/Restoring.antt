-- Pages that are put back one after another.
use Rattle.std.proofs.Common.{◌≡◌, ℕ, ◌<◌, ◌==◌, Bool, true, false, cond, if◌then◌else◌, List, [], ◌∷◌, length, Option, Some, None, Box, refl, ap, arith}
use Rattle.std.specs.Map.{lookup}
use Rattle.std.specs.declared.alloc.Global.{Global}
use Rattle.std.specs.Ordering.{nat_cmp}
use Rattle.std.specs.BTreeMap.{is_at}
use Rattle.std.proofs.lemmas.Grind.{common_steps}
use Rattle.gx_pages.specs.Contents.{bytes_of, saved_or}

-- once a saved page is put back, and is no longer saved, each page is what it was at the last commit
pub put_back : (pages pages' : ℕ → Option (Box (List ℕ) Global)) (saved saved' : ℕ → Option (Option (Box (List ℕ) Global))) (page : ℕ) (old : Option (Box (List ℕ) Global))
    → ((n : ℕ) → pages' n ≡ (if n == page then old else pages n)) → saved page ≡ Some old
    → ((n : ℕ) → saved' n ≡ cond (is_at (nat_cmp page) n) None (saved n))
    → (n : ℕ) → saved_or (bytes_of (pages' n)) (saved' n) ≡ saved_or (bytes_of (pages n)) (saved n)
put_back pages pages' saved saved' page old one was rest n = grind (arith, common_steps, one n, rest n)

-- a list whose length isn't above 0
pub no_entries : {E : Type 0} (entries : List E) → (0 < length entries → false ≡ true) → entries ≡ []
no_entries [] none = refl
no_entries (e ∷ entries) none = let impossible : false ≡ true = none (omega arith) in cc

-- where nothing is saved, the pages are those of the last commit
pub none_saved : (now : List ℕ) (test : ℕ → Bool) (entries : List (ℕ × Option (Box (List ℕ) Global))) → entries ≡ [] → saved_or now (lookup test entries) ≡ now
none_saved now test entries none = ap (λ (es : List (ℕ × Option (Box (List ℕ) Global))). saved_or now (lookup test es)) none

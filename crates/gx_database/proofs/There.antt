-- No page below the count is lacking.
use Rattle.std.proofs.Common.{◌≡◌, ℕ, ◌+◌, ◌<◌, ◌≤◌, zero, suc, List, [], ◌∷◌, ◌++◌, Option, Some, refl, sym, subst, arith, ⊎_elim}
use Rattle.std.specs.Prelude.{IsSome}
use Rattle.std.specs.List.{AllByRecursion, range_with_len}
use Rattle.std.proofs.lemmas.Bool.Decides.{eqb_tells}
use Rattle.gx_words.specs.PageMap.{PageMap}
use Rattle.gx_pages.specs.Frees.{IsFreeChain}
use Rattle.gx_pages.proofs.Footprints.{hit, times, hit_none, times_one, times-permutation, all_join}
use Rattle.gx_chain.specs.Chains.{Link, AreLinkedTo, pages_of}
use Rattle.gx_model.specs.Database.{Database}
use Rattle.gx_database.specs.Heaps.{Stored, StoresHeap}
use Rattle.gx_database.specs.Parts.{feet_of}
use Rattle.gx_database.specs.Standing.{StandsFor}

is_some : {A : Type 0} (o : Option A) (x : A) → o ≡ Some x → IsSome o
is_some {A = A} o x e = let P : Option A → Type 0 = λ p. IsSome p in let there : IsSome (Some x) = refl in subst P (sym e) there

-- what is so of all that stand in a list
times_in : (Q : ℕ → Type 0) (xs : List ℕ) (n : ℕ) → 1 ≤ times n xs → AllByRecursion Q xs → Q n
times_in Q [] n h all = absurd (omega arith)
times_in Q (x ∷ xs) n h all =
    ⊎_elim (λ same. subst Q (sym same.1) all.0)
    (λ other. let none : hit n x ≡ 0 = hit_none n x other.1 in times_in Q xs n (omega arith) all.1)
    (eqb_tells n x)

range_has : (a len n : ℕ) → a ≤ n → n < a + len → 1 ≤ times n (range_with_len a len)
range_has a zero n low high = absurd (omega arith)
range_has a (suc len) n low high =
    ⊎_elim (λ same. let here = at_first n a (range_with_len (a + 1) len) same.1 in here)
    (λ other. let rest = range_has (a + 1) len n (above n a other.1 low) (omega arith) in omega arith)
    (eqb_tells n a)
  where
    at_first : (n a : ℕ) (xs : List ℕ) → n ≡ a → 1 ≤ times n (a ∷ xs)
    at_first n a xs e = let one = times_one n xs in let least : 1 ≤ times n (n ∷ xs) = omega arith in subst (λ (m : ℕ). 1 ≤ times n (m ∷ xs)) e least

    above : (n a : ℕ) → (n ≡ a → ⊥) → a ≤ n → a + 1 ≤ n
    above n a differ le = omega arith

links_there : (pages : PageMap) (kind end : ℕ) (links : List Link) → AreLinkedTo pages kind end links → AllByRecursion (λ page. IsSome (pages page)) (pages_of links)
links_there pages kind end [] h = tt
links_there pages kind end (link ∷ links) h = (is_some (pages link.0) _ h.0.is, links_there pages kind end links h.1)

free_there : (pages : PageMap) (first : ℕ) (free : List ℕ) → IsFreeChain pages first free → AllByRecursion (λ page. IsSome (pages page)) free
free_there pages first [] h = tt
free_there pages first (page ∷ free) h = (is_some (pages page) _ h.2.2, free_there pages h.2.0 free h.2.3)

heaps_there : (pages : PageMap) (count : ℕ) (heaps : List Stored) → AllByRecursion (StoresHeap pages count) heaps → AllByRecursion (λ page. IsSome (pages page)) (feet_of heaps)
heaps_there pages count [] h = tt
heaps_there pages count (x ∷ heaps) h =
    let s = h.0 in
    all_join (λ page. IsSome (pages page)) x.feet (feet_of heaps)
    (subst (λ (feet : List ℕ). AllByRecursion (λ page. IsSome (pages page)) feet) (sym s.stand) (links_there pages 2 0 s.links s.held.linked)) (heaps_there pages count heaps h.1)

pub all_there : (pages : PageMap) (db : Database) (s : StandsFor pages db) (page : ℕ) → page < s.count → IsSome (pages page)
all_there pages db s page below =
    let Q : ℕ → Type 0 = λ n. IsSome (pages n) in
    let c = s.parts.catalog in
    let feet : AllByRecursion Q s.feet = subst (λ (xs : List ℕ). AllByRecursion Q xs) (sym c.stand) (links_there pages 3 0 c.links c.linked) in
    let stored : AllByRecursion Q (feet_of s.stored) = heaps_there pages s.count s.stored s.parts.stored in
    let free : AllByRecursion Q s.free = free_there pages s.parts.frees.first s.free s.parts.frees.chain in
    let zero_there : Q 0 = is_some (pages 0) s.header.header s.header.at_zero in
    let rest : AllByRecursion Q (s.feet ++ feet_of s.stored ++ s.free) = all_join Q (s.feet ++ feet_of s.stored) s.free (all_join Q s.feet (feet_of s.stored) feet stored) free in
    let e = times-permutation page (0 ∷ s.feet ++ feet_of s.stored ++ s.free) (range_with_len 0 s.count) s.parts.once in
    let r = range_has 0 s.count page (omega arith) (omega arith) in
    times_in Q (0 ∷ (s.feet ++ feet_of s.stored ++ s.free)) page (omega arith) (zero_there, rest)

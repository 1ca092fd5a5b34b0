-- The free pages after one was taken or given.
use Rattle.std.proofs.Common.{◌≡◌, ◌≢◌, inl, inr, ℕ, ◌+◌, ◌^◌, ◌<◌, List, [], ◌∷◌, length, take, drop, replicate, Some, refl, sym, ◌∙◌, ap, subst, arith}
use Rattle.std.specs.List.{AllByRecursion}
use Rattle.std.proofs.lemmas.Grind.{common_steps}
use Rattle.gx_bytes.specs.Fields.{le64, paste, le64-same}
use Rattle.gx_words.specs.PageMap.{PageMap, with_page}
use Rattle.gx_pages.specs.Databases.{grown, unchained, chained}
use Rattle.gx_pages.specs.Frees.{HasFirst, IsFreeChain, IsFreeList, IsFull, StartsBroken, KeepsHeader, Taken, Given, free_page_of}
use Rattle.gx_pages.specs.Contents.{Contents, below}
use Rattle.gx_pages.proofs.FreePages.{next_same, next_field}
use Rattle.gx_pages.proofs.Maps as maps
use Rattle.gx_pages.proofs.Headers.{Stays, count_keeps, count_stays, first_has, first_stays}

some_same : {X : Type 0} (x y : X) → Some x ≡ Some y → x ≡ y
some_same x y same = cc

-- what two writes leave at a page
pub at_zero : (map : PageMap) (page : ℕ) (h b : List ℕ) → page ≢ 0 → with_page (with_page map 0 h) page b 0 ≡ Some h
at_zero map page h b other = grind (arith, common_steps)

pub at_page : (map : PageMap) (page : ℕ) (h b : List ℕ) → with_page (with_page map 0 h) page b page ≡ Some b
at_page map page h b = grind (arith, common_steps)

pub at_others : (map : PageMap) (page : ℕ) (h b : List ℕ) (n : ℕ) → n ≢ 0 → n ≢ page → with_page (with_page map 0 h) page b n ≡ map n
at_others map page h b n nonzero other = grind (arith, common_steps)

pub keeps_header : (map : PageMap) (page : ℕ) (h k b : List ℕ) → map 0 ≡ Some h → page ≢ 0 → Stays h k → KeepsHeader map (with_page (with_page map 0 k) page b)
keeps_header map page h k b there other stays before is =
    let same : h ≡ before = some_same h before (sym there ∙ is) in
    (k, at_zero map page k b other, stays.size ∙ ap length same, stays.front ∙ ap (λ (l : List ℕ). take 8 l) same, stays.behind ∙ ap (λ (l : List ℕ). drop 24 l) same)

pub keeps_same : (map new : PageMap) → new ≡ map → KeepsHeader map new
keeps_same map new same before is = (before, (λ i. same i 0) ∙ is, refl, refl, refl)

-- no page is left, and nothing changed
pub full_after : (old new : PageMap) (before after pages : ℕ) → (new ≡ old) × (after ≡ before) → pages ≡ 2 ^ 50 → before ≡ 2 ^ 50
    → ((page : ℕ) (free : List ℕ) → IsFreeList old before (page ∷ free) → ⊥) → IsFull (Unit {0}) new after pages
full_after old new before after pages same greatest counted none = record {
  greatest = greatest;
  counted = same.1 ∙ counted;
  none_free = λ told page free list.
      none page free
      (subst (λ (n : ℕ). IsFreeList old n (page ∷ free)) same.1 (subst (λ (m : PageMap). IsFreeList m after (page ∷ free)) same.0 list));
}

-- a chain of which no page changed
chain_same : (old new : PageMap) (page first : ℕ) (pages : List ℕ) → ((n : ℕ) → n ≢ 0 → n ≢ page → new n ≡ old n) → AllByRecursion (λ other. page ≢ other) pages
    → IsFreeChain old first pages → IsFreeChain new first pages
chain_same old new page first [] others apart chain = chain
chain_same old new page first (p ∷ pages) others apart chain =
    let other : p ≢ page = λ same. apart.0 (sym same) in
    (chain.0, chain.1, (chain.2.0, chain.2.1, others p chain.1 other ∙ chain.2.2, chain_same old new page chain.2.0 pages others apart.1 chain.2.3))

module _ (map : PageMap) (count : ℕ) (h : List ℕ) (first : ℕ) (there : map 0 ≡ Some h) (has : HasFirst h first) (fits : first < 2 ^ 64) where
  pub first_is : (free : List ℕ) (f : IsFreeList map count free) → f.first ≡ first
  first_is free f =
      let same : f.header ≡ h = some_same f.header h (sym f.at_zero ∙ there) in
      le64-same f.first first f.fits fits (sym f.at_first ∙ ap (λ (l : List ℕ). take 8 (drop 16 l)) same ∙ has)

  pub none_free : first ≡ 0 → (free : List ℕ) → IsFreeList map count free → free ≡ []
  none_free none [] f = refl
  none_free none (page ∷ free) f = absurd (f.chain.1 (sym f.chain.0 ∙ first_is (page ∷ free) f ∙ none))

  pub one_free : first ≡ 0 → (page : ℕ) (free : List ℕ) → IsFreeList map count (page ∷ free) → ⊥
  one_free none page free f = f.chain.1 (sym f.chain.0 ∙ first_is (page ∷ free) f ∙ none)

  pub some_free : first ≢ 0 → IsFreeList map count [] → ⊥
  some_free some f = some (sym (first_is [] f) ∙ f.chain)

  -- the page at the count was taken
  pub grown_taken : first ≡ 0 → 0 < count → length h ≡ 8192 → (free : List ℕ) → IsFreeList map count free
      → (rest : List ℕ) × Taken map (grown map h count) count (count + 1) count free rest
  grown_taken none some size free f =
      let nonzero : count ≢ 0 = omega (arith, some) in (
        [],
        record {
          nonzero = nonzero;
          others = at_others map count (paste h 8 (le64 (count + 1))) (replicate 8192 0);
          frees = record {
            header = paste h 8 (le64 (count + 1));
            at_zero = at_zero map count (paste h 8 (le64 (count + 1))) (replicate 8192 0) nonzero;
            first = first;
            fits = fits;
            at_first = count_keeps h (count + 1) size first has;
            chain = none;
            apart = tt;
            below = tt;
          };
          from = inl (none_free none free f, refl, refl, refl);
        },
      )

  -- the first free page was taken
  pub unchained_taken : (next : ℕ) → first ≢ 0 → next < 2 ^ 64 → map first ≡ Some (free_page_of next) → length h ≡ 8192 → (free : List ℕ) → IsFreeList map count free
      → (rest : List ℕ) × Taken map (unchained map h first next) count count first free rest
  unchained_taken next some small written size [] f = absurd (some_free some f)
  unchained_taken next some small written size (page ∷ free) f =
      let is : first ≡ page = sym (first_is (page ∷ free) f) ∙ f.chain.0 in
      let spelled : free_page_of f.chain.2.0 ≡ free_page_of next = some_same (free_page_of f.chain.2.0) (free_page_of next) (sym f.chain.2.2 ∙ ap map (sym is) ∙ written) in
      let follows : f.chain.2.0 ≡ next = free_same f.chain.2.0 next f.chain.2.1 small spelled in
      let k = paste h 16 (le64 next) in
      let apart = subst (λ (p : ℕ). AllByRecursion (λ other. p ≢ other) free) (sym is) f.apart.0 in
      let others : (n : ℕ) → n ≢ 0 → n ≢ first → unchained map h first next n ≡ map n = at_others map first k (replicate 8192 0) in (
        free,
        record {
          nonzero = some;
          others = others;
          frees = record {
            header = k;
            at_zero = at_zero map first k (replicate 8192 0) some;
            first = next;
            fits = small;
            at_first = first_has h next size;
            chain = chain_same map (unchained map h first next) first next free others apart (subst (λ (n : ℕ). IsFreeChain map n free) follows f.chain.2.3);
            apart = f.apart.1;
            below = f.below.1;
          };
          from = inr (ap (λ (p : ℕ). p ∷ free) (sym is), refl);
        },
      )
    where
      free_same : (m n : ℕ) → m < 2 ^ 64 → n < 2 ^ 64 → free_page_of m ≡ free_page_of n → m ≡ n
      free_same m n small fits same = next_same m n (free_page_of m) small fits (next_field m) same

  -- a page was given
  pub chained_given : (page : ℕ) → page ≢ 0 → page < count → page < 2 ^ 64 → length h ≡ 8192 → (free : List ℕ) → IsFreeList map count free
      → AllByRecursion (λ other. page ≢ other) free → Given map (chained map h page first) count page free
  chained_given page nonzero within small size free f apart =
      let k = paste h 16 (le64 page) in
      let others : (n : ℕ) → n ≢ 0 → n ≢ page → chained map h page first n ≡ map n = at_others map page k (free_page_of first) in
      let chain = chain_same map (chained map h page first) page first free others apart (subst (λ (n : ℕ). IsFreeChain map n free) (first_is free f) f.chain) in
      record {
        others = others;
        frees = record {
          header = k;
          at_zero = at_zero map page k (free_page_of first) nonzero;
          first = page;
          fits = small;
          at_first = first_has h page size;
          chain = (refl, nonzero, (first, fits, at_page map page k (free_page_of first), chain));
          apart = (apart, f.apart);
          below = (within, f.below);
        };
      }

-- What a taken page's clauses ask of the map.
pub record Took (map new : PageMap) (count later page : ℕ) : Type 0 where
  pub zeros : new page ≡ Some (replicate 8192 0)
  pub others : (n : ℕ) → n ≢ 0 → n ≢ page → new n ≡ map n
  pub taken : (free : List ℕ) → IsFreeList map count free → (rest : List ℕ) × Taken map new count later page free rest
  pub header : KeepsHeader map new

pub took_grown : (map new : PageMap) (count later page : ℕ) (h : List ℕ) (first : ℕ) → map 0 ≡ Some h → HasFirst h first → first < 2 ^ 64 → first ≡ 0 → 0 < count → length h ≡ 8192
    → new ≡ grown map h count → page ≡ count → later ≡ count + 1 → Took map new count later page
took_grown map new count later page h first there has fits none some size is at by =
    let nonzero : count ≢ 0 = omega (arith, some) in
    let k = paste h 8 (le64 (count + 1)) in
    let took : Took map (grown map h count) count (count + 1) count = record {
      zeros = at_page map count k (replicate 8192 0);
      others = at_others map count k (replicate 8192 0);
      taken = grown_taken map count h first there has fits none some size;
      header = keeps_header map count h k (replicate 8192 0) there nonzero (count_stays h (count + 1) size);
    } in
    subst (λ (p : ℕ). Took map new count later p) (sym at) (subst (λ (n : ℕ). Took map new count n count) (sym by) (subst (λ (m : PageMap). Took map m count (count + 1) count) (sym is) took))

pub took_unchained : (map new : PageMap) (count later page : ℕ) (h : List ℕ) (first next : ℕ) → map 0 ≡ Some h → HasFirst h first → first < 2 ^ 64 → first ≢ 0 → length h ≡ 8192
    → next < 2 ^ 64 → map first ≡ Some (free_page_of next) → new ≡ unchained map h first next → page ≡ first → later ≡ count → Took map new count later page
took_unchained map new count later page h first next there has fits nonzero size small written is at by =
    let k = paste h 16 (le64 next) in
    let took : Took map (unchained map h first next) count count first = record {
      zeros = at_page map first k (replicate 8192 0);
      others = at_others map first k (replicate 8192 0);
      taken = unchained_taken map count h first there has fits next nonzero small written size;
      header = keeps_header map first h k (replicate 8192 0) there nonzero (first_stays h next size);
    } in
    subst (λ (p : ℕ). Took map new count later p) (sym at) (subst (λ (n : ℕ). Took map new count n first) (sym by) (subst (λ (m : PageMap). Took map m count count first) (sym is) took))

-- the header's first free page isn't one
pub starts_broken : (contents : Contents) (count : ℕ) (h : List ℕ) (first : ℕ) → below count contents 0 ≡ Some h → HasFirst h first → first < 2 ^ 64 → first ≢ 0
    → (first < count → (next : ℕ) → next < 2 ^ 64 → contents first ≢ free_page_of next) → StartsBroken (below count contents) count
starts_broken contents count h first there has fits nonzero no_page = record {
  header = h;
  at_zero = there;
  first = first;
  fits = fits;
  at_first = has;
  some = nonzero;
  no_page = λ within next small written. no_page within next small (some_same (contents first) (free_page_of next) (sym (maps.at_page contents count first within) ∙ written));
}

-- The maps of pages in memory, after writes.
use Rattle.std.proofs.Common.{◌≡◌, ◌≢◌, ℕ, ◌+◌, ◌^◌, ◌<◌, ◌≤◌, List, Some, sym, ◌∙◌, ap, subst, arith}
use Rattle.std.proofs.lemmas.Grind.{common_steps}
use Rattle.gx_words.specs.PageMap.{with_page}
use Rattle.gx_pages.specs.Contents.{Contents, IsCounted, with_bytes, below}
use Rattle.gx_pages.specs.Frees.{HasCount}

pub at_zero : (contents : Contents) (count : ℕ) → 0 < count → below count contents 0 ≡ Some (contents 0)
at_zero contents count some = grind (arith, common_steps)

pub at_page : (contents : Contents) (count page : ℕ) → page < count → below count contents page ≡ Some (contents page)
at_page contents count page within = grind (arith, common_steps)

-- two writes below the count
pub written_both : (contents : Contents) (count page : ℕ) (h b : List ℕ) → 0 < count → page < count
    → below count (with_bytes (with_bytes contents 0 h) page b) ≡ with_page (with_page (below count contents) 0 h) page b
written_both contents count page h b some within = λ i n. each n i
  where
    each : (n : ℕ) → below count (with_bytes (with_bytes contents 0 h) page b) n ≡ with_page (with_page (below count contents) 0 h) page b n
    each n = grind (arith, common_steps)

pub map_both : (old new : Contents) (count later page : ℕ) (h k b d : List ℕ) → later ≡ count → new ≡ with_bytes (with_bytes old 0 h) page b → h ≡ k → b ≡ d → 0 < count → page < count
    → below later new ≡ with_page (with_page (below count old) 0 k) page d
map_both old new count later page h k b d same is header bytes some within =
    ap (λ (n : ℕ). below n new) same
    ∙ ap (λ (contents : Contents). below count contents) is
    ∙ ap (λ (l : List ℕ). below count (with_bytes (with_bytes old 0 l) page b)) header
    ∙ ap (λ (l : List ℕ). below count (with_bytes (with_bytes old 0 k) page l)) bytes
    ∙ written_both old count page k d some within

-- two writes, the second at the count
pub written_more : (contents : Contents) (count : ℕ) (h b : List ℕ) → 0 < count
    → below (count + 1) (with_bytes (with_bytes contents 0 h) count b) ≡ with_page (with_page (below count contents) 0 h) count b
written_more contents count h b some = λ i n. each n i
  where
    each : (n : ℕ) → below (count + 1) (with_bytes (with_bytes contents 0 h) count b) n ≡ with_page (with_page (below count contents) 0 h) count b n
    each n = grind (arith, common_steps)

pub counted_after : (old new : Contents) (count page : ℕ) (h b : List ℕ) → new ≡ with_bytes (with_bytes old 0 h) page b → page ≢ 0
    → HasCount h count → 0 < count → count ≤ 2 ^ 50 → IsCounted new count
counted_after old new count page h b is other has some bounded =
    let zero : new 0 ≡ h = (λ i. is i 0) ∙ first in
    record { some = some; bounded = bounded; header = subst (λ (l : List ℕ). HasCount l count) (sym zero) has }
  where
    first : with_bytes (with_bytes old 0 h) page b 0 ≡ h
    first = grind (arith, common_steps)

pub counted_same : (old new : Contents) (count later : ℕ) → new ≡ old → later ≡ count → IsCounted old count → IsCounted new later
counted_same old new count later is at counted = subst (λ (n : ℕ). IsCounted new n) (sym at) (subst (λ (c : Contents). IsCounted c count) (sym is) counted)

pub map_same : (old new : Contents) (count later : ℕ) → new ≡ old → later ≡ count → below later new ≡ below count old
map_same old new count later is at = ap (λ (n : ℕ). below n new) at ∙ ap (λ (c : Contents). below count c) is

-- one write of another page than page 0
pub map_one : (old new : Contents) (count later page : ℕ) (b : List ℕ) → later ≡ count → new ≡ with_bytes old page b → page < count
    → below later new ≡ with_page (below count old) page b
map_one old new count later page b at is within = ap (λ (n : ℕ). below n new) at ∙ ap (λ (c : Contents). below count c) is ∙ (λ i n. each n i)
  where
    each : (n : ℕ) → below count (with_bytes old page b) n ≡ with_page (below count old) page b n
    each n = grind (arith, common_steps)

pub counted_other : (old new : Contents) (count later page : ℕ) (b : List ℕ) → new ≡ with_bytes old page b → later ≡ count → page ≢ 0 → IsCounted old count → IsCounted new later
counted_other old new count later page b is at other counted =
    let zero : new 0 ≡ old 0 = (λ i. is i 0) ∙ same in
    subst (λ (n : ℕ). IsCounted new n) (sym at) (record { some = counted.some; bounded = counted.bounded; header = subst (λ (l : List ℕ). HasCount l count) (sym zero) counted.header })
  where
    same : with_bytes old page b 0 ≡ old 0
    same = grind (arith, common_steps)

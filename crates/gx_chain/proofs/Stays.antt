-- A chain that stays while others change, and the chain of an empty database.
use Rattle.std.proofs.Common.{◌≡◌, ◌≢◌, ℕ, ◌<◌, ◌≤◌, List, [], ◌∷◌, ◌++◌, replicate, Some, refl, sym, ◌∙◌, ap, append-nil, lit<, lit≤, arith}
use Rattle.std.specs.List.{AllByRecursion}
use Rattle.gx_bytes.specs.Fields.{le16, le64}
use Rattle.gx_words.specs.PageMap.{PageMap}
use Rattle.gx_pages.specs.declared.store.Pages.{Ghosts}
use Rattle.gx_pages.specs.Databases.{catalog_page}
use Rattle.gx_pages.specs.Frees.{IsApart}
use Rattle.gx_pages.specs.Footprints.{IsOutside, KeepsPages}
use Rattle.gx_pages.proofs.Footprints as feet
use Rattle.gx_slot.specs.Slots.{spelling}
use Rattle.gx_chain.specs.declared.chain.Chain.{Chain}
use Rattle.gx_chain.specs.Chains.{Link, Holds, HoldsBeside, pages_of, slots}
use Rattle.gx_chain.proofs.Links.{linked_some, linked_stays}

pub holds_same : (old new : PageMap) (count later kind : ℕ) (chain : Chain) (links : List Link) → AllByRecursion (λ page. new page ≡ old page) (pages_of links) → count ≤ later
    → Holds old count kind chain links → Holds new later kind chain links
holds_same old new count later kind chain links same more held = record {
  linked = linked_stays old new kind 0 links same held.linked;
  apart = held.apart;
  below = feet.all_weaker (λ (page : ℕ). page < count) (λ (page : ℕ). page < later) (pages_of links) (λ page here. omega (arith, here, more)) held.below;
  some = held.some;
  first = held.first;
  last = held.last;
  bound = held.bound;
}

same_each : (old new : PageMap) (count : ℕ) (others : List ℕ) (pages : List ℕ) → ((page : ℕ) → page ≢ 0 → page < count → IsOutside page others → new page ≡ old page)
    → AllByRecursion (λ page. page ≢ 0) pages → AllByRecursion (λ page. page < count) pages → AllByRecursion (λ page. IsOutside page others) pages
    → AllByRecursion (λ page. new page ≡ old page) pages
same_each old new count others [] stays some below outside = tt
same_each old new count others (page ∷ pages) stays some below outside =
    (stays page some.0 below.0 outside.0, same_each old new count others pages stays some.1 below.1 outside.1)

pub same_beside : {P : Type 0} (g : Ghosts P) (old new : P) (pages before free after rest : List ℕ) → KeepsPages g old new before free after rest → IsApart (before ++ free ++ pages)
    → AllByRecursion (λ page. page ≢ 0) pages → AllByRecursion (λ page. page < g.count old) pages → AllByRecursion (λ page. g.map new page ≡ g.map old page) pages
same_beside g old new pages before free after rest keeps apart some below =
    same_each (g.map old) (g.map new) (g.count old) (before ++ free) pages keeps.others some below (feet.apart_each (before ++ free) pages apart)

pub apart_beside : {P : Type 0} (g : Ghosts P) (old new : P) (pages before free after rest : List ℕ) → KeepsPages g old new before free after rest → IsApart (before ++ free ++ pages)
    → AllByRecursion (λ page. page < g.count old) (before ++ free ++ pages) → IsApart (pages ++ rest)
apart_beside g old new pages before free after rest keeps apart below =
    let all = feet.kept_beside g old new before free after rest pages keeps apart below in
    feet.once_apart (pages ++ rest) (λ n. omega (
      arith,
      feet.times-append n pages rest,
      feet.times-append n (after ++ rest) pages,
      feet.times-append n after rest,
      feet.apart_once (after ++ rest ++ pages) all n,
    ))

pub stays_beside : {P : Type 0} (g : Ghosts P) (old new : P) (kind : ℕ) (chain : Chain) (links : List Link) (before free after rest : List ℕ) → HoldsBeside g old kind chain links free
    → KeepsPages g old new before free after rest → IsApart (before ++ free ++ pages_of links) → AllByRecursion (λ page. page < g.count old) before
    → HoldsBeside g new kind chain links rest
stays_beside g old new kind chain links before free after rest held keeps apart below =
    let small : ℕ → Type 0 = λ page. page < g.count old in
    let all = feet.all_join small (before ++ free) (pages_of links) (feet.all_join small before free below held.frees.below) held.held.below in
    record {
      held = holds_same (g.map old) (g.map new) (g.count old) (g.count new) kind chain links
          (same_beside g old new (pages_of links) before free after rest keeps apart (linked_some (g.map old) kind 0 links held.held.linked) held.held.below) keeps.grows held.held;
      frees = keeps.frees;
      apart = apart_beside g old new (pages_of links) before free after rest keeps apart all;
    }

-- the spelling of a slot page without items
pub catalog_spelled : catalog_page ≡ spelling (slots 3 0 [])
unfolding catalog_page spelling le16
catalog_spelled = ap (λ (l : List ℕ). 3 ∷ 0 ∷ le16 0 ++ le16 8192 ++ le16 0 ++ le64 0 ++ l) (sym (append-nil (replicate {A = ℕ} 8176 0)))

pub empty_holds : (map : PageMap) (count : ℕ) → map 1 ≡ Some catalog_page → 1 < count → Holds map count 3 (record { first = 1; last = 1; pages = 1 }) ((1, []) ∷ [])
empty_holds map count is below = record {
  linked = (
    record {
      some = λ same. omega (arith, same);
      is = is ∙ ap (λ (l : List ℕ). Some l) catalog_spelled;
      fits = record { kind = lit< tt; level = lit< tt; next = lit< tt; room = lit≤ tt };
    },
    tt,
  );
  apart = (tt, tt);
  below = (below, tt);
  some = lit< tt;
  first = refl;
  last = refl;
  bound = lit≤ tt;
}

-- A walk that gives the pages of a chain back.
use Rattle.std.proofs.Common.{◌≡◌, ◌≢◌, ℕ, ◌+◌, ◌<◌, ◌≤◌, List, [], ◌∷◌, ◌++◌, length, Some, refl, sym, ◌∙◌, ap, subst, append_assoc, append-nil, length-append, arith}
use Rattle.std.specs.List.{AllByRecursion}
use Rattle.std.specs.List.Sorted.{IsPermutation}
use Rattle.std.proofs.lemmas.List.{map-append}
use Rattle.std.proofs.lemmas.List.Sorted.{IsPermutation-refl, IsPermutation-trans, IsPermutation-cons, IsPermutation-middle}
use Rattle.gx_pages.specs.declared.store.Pages.{Ghosts}
use Rattle.gx_pages.specs.Frees.{IsApart, IsFreeList, KeepsHeader, Given}
use Rattle.gx_pages.specs.Footprints.{IsOutside, ChangesOnly, KeepsPages, grown}
use Rattle.gx_pages.proofs.Footprints as feet
use Rattle.gx_slot.specs.Slots.{Slots, Fits, IsSlotPage, spelling}
use Rattle.gx_chain.specs.declared.chain.Chain.{Chain}
use Rattle.gx_chain.specs.Chains.{Link, AreLinked, HoldsBeside, first_of, pages_of, slots}
use Rattle.gx_chain.proofs.Links.{linked_some, linked_stays, none_next, pages_end}

-- the pages `done` are given, those that are left are linked still, and these are free
pub record Drops {P : Type 0} (g : Ghosts P) (old now : P) (kind : ℕ) (links : List Link) (free : List ℕ) (page count : ℕ) : Type 0 where
  pub done : List Link
  pub left : List Link
  pub rest : List ℕ
  pub cut : links ≡ done ++ left
  pub linked : AreLinked (g.map now) kind left
  pub at : page ≡ first_of left
  pub frees : IsFreeList (g.map now) (g.count now) rest
  pub moved : IsPermutation (pages_of done ++ free) rest
  pub others : ChangesOnly (g.map old) (g.map now) (pages_of links)
  pub header : KeepsHeader (g.map old) (g.map now)
  pub len : length done ≡ count

module _ {P : Type 0} (g : Ghosts P) (old : P) (kind : ℕ) (chain : Chain) (links : List Link) (free : List ℕ) (held : HoldsBeside g old kind chain links free) where
  pub drops_none : Drops g old old kind links free chain.first 0
  drops_none = record {
    done = [];
    left = links;
    rest = free;
    cut = refl;
    linked = held.held.linked;
    at = held.held.first;
    frees = held.frees;
    moved = IsPermutation-refl free;
    others = λ page some outside. refl;
    header = feet.header_none (g.map old);
    len = refl;
  }

  module _ (now : P) (page count : ℕ) (drops : Drops g old now kind links free page count) where
    apart_cut : (left : List Link) → drops.left ≡ left → IsApart (pages_of drops.done ++ pages_of left ++ free)
    apart_cut left is =
        subst (λ (l : List ℕ). IsApart (l ++ free))
        (ap (λ (l : List Link). pages_of l) (drops.cut ∙ ap (λ (l : List Link). drops.done ++ l) is) ∙ map-append (λ (l : Link). l.0) drops.done left) held.apart

    -- A page is left: it is linked.
    module _ (link : Link) (left : List Link) (is : drops.left ≡ link ∷ left) (same_count : g.count now ≡ g.count old) where
      linked : AreLinked (g.map now) kind (link ∷ left)
      linked = subst (λ (l : List Link). AreLinked (g.map now) kind l) is drops.linked

      at_link : page ≡ link.0
      at_link = drops.at ∙ ap (λ (l : List Link). first_of l) is

      below_link : link.0 < g.count now
      below_link =
          let below : AllByRecursion (λ (n : ℕ). n < g.count old) (pages_of drops.done ++ pages_of (link ∷ left)) =
          subst (λ (l : List ℕ). AllByRecursion (λ (n : ℕ). n < g.count old) l)
          (ap (λ (l : List Link). pages_of l) (drops.cut ∙ ap (λ (l : List Link). drops.done ++ l) is) ∙ map-append (λ (l : Link). l.0) drops.done (link ∷ left)) held.held.below in
          let here = (feet.all_right (λ (n : ℕ). n < g.count old) (pages_of drops.done) (pages_of (link ∷ left)) below).0 in omega arith

      sound : (page ≢ 0 → page < g.count now → (bytes : List ℕ) → g.map now page ≡ Some bytes → ¬ IsSlotPage bytes kind) → ⊥
      sound broken =
          broken (λ none. linked.0.some (sym at_link ∙ none)) (omega (arith, at_link, below_link)) (spelling (slots kind (first_of left) link.1)) (ap (λ (n : ℕ). g.map now n) at_link ∙ linked.0.is)
          (slots kind (first_of left) link.1, refl, linked.0.fits, refl)

      -- the page stands nowhere else
      once_left : IsOutside page (pages_of left)
      once_left = feet.none_outside page (pages_of left) (
          let P' : ℕ → Type 0 = λ n. feet.times n (pages_of left) ≡ 0 in
          subst P' (sym at_link) (omega (
            arith,
            feet.apart_once (pages_of drops.done ++ pages_of (link ∷ left) ++ free) (apart_cut (link ∷ left) is) link.0,
            feet.times-append link.0 (pages_of drops.done ++ pages_of (link ∷ left)) free,
            feet.times-append link.0 (pages_of drops.done) (pages_of (link ∷ left)),
            feet.times_one link.0 (pages_of left),
          ))
          )

      once_free : IsOutside page drops.rest
      once_free = feet.none_outside page drops.rest (
          let P' : ℕ → Type 0 = λ n. feet.times n drops.rest ≡ 0 in
          subst P' (sym at_link) (omega (
            arith,
            feet.apart_once (pages_of drops.done ++ pages_of (link ∷ left) ++ free) (apart_cut (link ∷ left) is) link.0,
            feet.times-append link.0 (pages_of drops.done ++ pages_of (link ∷ left)) free,
            feet.times-append link.0 (pages_of drops.done) (pages_of (link ∷ left)),
            feet.times_one link.0 (pages_of left),
            feet.times-permutation link.0 (pages_of drops.done ++ free) drops.rest drops.moved,
            feet.times-append link.0 (pages_of drops.done) free,
          ))
          )

      -- it is given
      module _ (new : P) (next : ℕ) (found : Slots) (one : (s : Slots) → g.map now page ≡ Some (spelling s) → Fits s → found ≡ s) (goes : next ≡ found.next)
          (only : (n : ℕ) → n ≢ 0 → n ≢ page → g.map new n ≡ g.map now n) (header : KeepsHeader (g.map now) (g.map new)) (count_same : g.count new ≡ g.count now)
          (given : (list : List ℕ) → IsFreeList (g.map now) (g.count now) list → AllByRecursion (λ other. page ≢ other) list → Given (g.map now) (g.map new) (g.count now) page list) where
        stays : AllByRecursion (λ n. g.map new n ≡ g.map now n) (pages_of left)
        stays = feet.all_same (g.map now) (g.map new) (page ∷ []) (pages_of left) (λ n some outside. only n some outside.0) (linked_some (g.map now) kind 0 left linked.1)
            (feet.all_weaker (λ (n : ℕ). page ≢ n) (λ (n : ℕ). IsOutside n (page ∷ [])) (pages_of left) (λ n differ. ((λ same. differ (sym same)), tt)) once_left)

        moved : IsPermutation (pages_of (drops.done ++ link ∷ []) ++ free) (page ∷ drops.rest)
        moved =
            let first : pages_of (drops.done ++ link ∷ []) ++ free ≡ pages_of drops.done ++ page ∷ free =
            ap (λ (l : List ℕ). l ++ free) (pages_end drops.done link) ∙ append_assoc (pages_of drops.done) (link.0 ∷ []) free ∙ ap (λ (n : ℕ). pages_of drops.done ++ n ∷ free) (sym at_link) in
            subst (λ (l : List ℕ). IsPermutation l (page ∷ drops.rest)) (sym first)
            (IsPermutation-trans (pages_of drops.done ++ page ∷ free) (page ∷ (pages_of drops.done ++ free)) (page ∷ drops.rest) (IsPermutation-middle (pages_of drops.done) page free)
            (IsPermutation-cons page (pages_of drops.done ++ free) drops.rest drops.moved))

        in_links : (n : ℕ) → IsOutside n (pages_of links) → n ≢ page
        in_links n outside =
            let cut : IsOutside n (pages_of drops.done ++ pages_of (link ∷ left)) =
            subst (λ (l : List ℕ). IsOutside n l)
            (ap (λ (l : List Link). pages_of l) (drops.cut ∙ ap (λ (l : List Link). drops.done ++ l) is) ∙ map-append (λ (l : Link). l.0) drops.done (link ∷ left)) outside in
            λ same. (feet.all_right (λ (other : ℕ). n ≢ other) (pages_of drops.done) (pages_of (link ∷ left)) cut).0 (same ∙ at_link)

        more : Drops g old new kind links free next (count + 1)
        more = record {
          done = drops.done ++ link ∷ [];
          left = left;
          rest = page ∷ drops.rest;
          cut = drops.cut ∙ ap (λ (l : List Link). drops.done ++ l) is ∙ sym (append_assoc drops.done (link ∷ []) left);
          linked = linked_stays (g.map now) (g.map new) kind 0 left stays linked.1;
          at = goes ∙ ap (λ (s : Slots). s.next) (one (slots kind (first_of left) link.1) (ap (λ (n : ℕ). g.map now n) at_link ∙ linked.0.is) linked.0.fits);
          frees = subst (λ (n : ℕ). IsFreeList (g.map new) n (page ∷ drops.rest)) (sym count_same) (given drops.rest drops.frees once_free).frees;
          moved = moved;
          others = λ n some outside. only n some (in_links n outside) ∙ drops.others n some outside;
          header = feet.header_join (g.map old) (g.map now) (g.map new) drops.header header;
          len = (let len = drops.len in omega (arith, len, length-append drops.done (link ∷ [])));
        }

    -- All pages are given.
    all_given : drops.left ≡ [] → g.count now ≡ g.count old → KeepsPages g old now (pages_of links) free [] drops.rest
    all_given none same_count =
        let all : links ≡ drops.done = drops.cut ∙ ap (λ (l : List Link). drops.done ++ l) none ∙ append-nil drops.done in
        feet.keeps_of g old now (pages_of links) free [] drops.rest (omega (arith, same_count))
        (subst (λ (l : List ℕ). ChangesOnly (g.map old) (g.map now) l) (sym (append-nil (pages_of links))) drops.others) drops.header drops.frees
        (subst (λ (l : List ℕ). IsPermutation l drops.rest)
        (sym (ap (λ (l : List Link). pages_of l ++ free ++ grown (g.count old) (g.count now)) all
        ∙ ap (λ (l : List ℕ). pages_of drops.done ++ free ++ l) (feet.same_count (g.count old) (g.count now) (sym same_count)) ∙ append-nil (pages_of drops.done ++ free)))
        drops.moved)

    pub ended : page ≡ 0 → g.count now ≡ g.count old → (rest : List ℕ) × KeepsPages g old now (pages_of links) free [] rest
    ended zero same_count = (drops.rest, all_given (none_next (g.map now) kind drops.left drops.linked (sym drops.at ∙ zero)) same_count)

    no_more : (left : List Link) → drops.left ≡ left → length links ≤ count → first_of left ≡ 0
    no_more [] is enough = refl
    no_more (link ∷ left) is enough =
        let len = drops.len in
        let all : length links ≡ length drops.done + length (link ∷ left) = ap (λ (l : List Link). length l) (drops.cut ∙ ap (λ (l : List Link). drops.done ++ l) is) ∙ length-append drops.done (link ∷ left) in
        absurd (omega (arith, len, all, enough))

    pub walked : chain.pages ≤ count → page ≡ 0
    walked enough = let bound = held.held.bound in drops.at ∙ no_more drops.left refl (omega (arith, bound, enough))

    pub drops_sound : page ≢ 0 → g.count now ≡ g.count old → (page ≢ 0 → page < g.count now → (bytes : List ℕ) → g.map now page ≡ Some bytes → ¬ IsSlotPage bytes kind) → ⊥
    drops_sound some same_count broken = at_left drops.left refl
      where
        at_left : (left : List Link) → drops.left ≡ left → ⊥
        at_left [] is = some (drops.at ∙ ap (λ (l : List Link). first_of l) is)
        at_left (link ∷ left) is = sound link left is same_count broken

    pub drops_more : (new : P) (next : ℕ) (found : Slots) → page ≢ 0 → g.count now ≡ g.count old → ((s : Slots) → g.map now page ≡ Some (spelling s) → Fits s → found ≡ s) → next ≡ found.next
        → ((n : ℕ) → n ≢ 0 → n ≢ page → g.map new n ≡ g.map now n) → KeepsHeader (g.map now) (g.map new) → g.count new ≡ g.count now
        → ((list : List ℕ) → IsFreeList (g.map now) (g.count now) list → AllByRecursion (λ other. page ≢ other) list → Given (g.map now) (g.map new) (g.count now) page list)
        → Drops g old new kind links free next (count + 1)
    drops_more new next found some same_count one goes only header count_same given = at_left drops.left refl
      where
        at_left : (left : List Link) → drops.left ≡ left → Drops g old new kind links free next (count + 1)
        at_left [] is = absurd (some (drops.at ∙ ap (λ (l : List Link). first_of l) is))
        at_left (link ∷ left) is = more link left is same_count new next found one goes only header count_same given

-- A walk that reads the items of a chain.
use Rattle.std.proofs.Common.{◌≡◌, ◌≢◌, ◌⊎◌, inl, inr, ⊎_elim, ℕ, ◌+◌, ◌<◌, ◌≤◌, List, [], ◌∷◌, ◌++◌, length, Some, refl, sym, ◌∙◌, ap, subst, append-nil, length-append, arith}
use Rattle.std.specs.List.{AllByRecursion}
use Rattle.std.proofs.lemmas.List.{map-append, length-map}
use Rattle.gx_words.specs.PageMap.{PageMap}
use Rattle.gx_pages.specs.Frees.{IsApart}
use Rattle.gx_pages.proofs.Footprints as feet
use Rattle.gx_slot.specs.Slots.{Slots, Fits, IsSlotPage, spelling}
use Rattle.gx_chain.specs.declared.chain.Chain.{Chain}
use Rattle.gx_chain.specs.declared.entry.Entry.{Entry}
use Rattle.gx_chain.specs.Chains.{Link, IsLink, AreLinked, AreLinkedTo, Holds, BeginsNone, entries_at, entries_of, first_of, first_to, pages_of, slots}
use Rattle.gx_chain.proofs.Links.{Begins, begins, last_mid, linked_apart, linked_more, pages_end}
use Rattle.gx_chain.proofs.Entries.{entries_end}

-- The pages `done` are read, each names the one behind it, the last of them this one; the mark is one of them.
pub record Walks (map : PageMap) (total kind first page : ℕ) (entries : List Entry) (passed : List ℕ) (mark count : ℕ) : Type 0 where
  pub done : List Link
  pub linked : AreLinkedTo map kind page done
  pub starts : first ≡ first_to page done
  pub below : AllByRecursion (λ n. n < total) (pages_of done)
  pub read : entries ≡ entries_of done
  pub stand : passed ≡ pages_of done
  pub len : length done ≡ count
  pub some : (count ≡ 0) ⊎ (page ≢ 0)
  pub marked : (mark ≡ 0) ⊎ (0 < feet.times mark (pages_of done))

pub walks_none : (map : PageMap) (total kind first : ℕ) → Walks map total kind first first [] [] 0 0
walks_none map total kind first =
    record { done = []; linked = tt; starts = refl; below = tt; read = refl; stand = refl; len = refl; some = inl refl; marked = inl refl }

module _ (map : PageMap) (total kind first page : ℕ) (entries : List Entry) (passed : List ℕ) (mark count : ℕ) (walks : Walks map total kind first page entries passed mark count) where
  -- where a chain begins at the first page, it goes on with this one
  module _ (chain : Chain) (links : List Link) (at_first : chain.first ≡ first) (held : Holds map total kind chain links) where
    goes_on : Begins map kind page walks.done links
    goes_on = begins map kind page walks.done links walks.linked held.linked (sym walks.starts ∙ sym at_first ∙ held.first)

    all_pages : pages_of links ≡ pages_of walks.done ++ pages_of goes_on.left
    all_pages = ap (λ (l : List Link). pages_of l) goes_on.cut ∙ map-append (λ (l : Link). l.0) walks.done goes_on.left

    at_left : (left : List Link) → goes_on.left ≡ left → (link : Link) × (more : List Link) × (goes_on.left ≡ link ∷ more)
    at_left [] none =
        let zero_page : page ≡ 0 = goes_on.at ∙ ap (λ (l : List Link). first_of l) none in
        let long = ap (λ (l : List Link). length l) (goes_on.cut ∙ ap (λ (l : List Link). walks.done ++ l) none ∙ append-nil walks.done) in
        let len = walks.len in
        let some = held.some in
        absurd (⊎_elim (λ empty. omega (arith, empty, long, len, some)) (λ other. other zero_page) walks.some)
    at_left (link ∷ more) is = (link, more, is)

    abbrev next_link : (link : Link) × (more : List Link) × (goes_on.left ≡ link ∷ more)
    next_link = at_left goes_on.left refl

    linked_left : AreLinked map kind (next_link.0 ∷ next_link.1)
    linked_left = subst (λ (l : List Link). AreLinked map kind l) next_link.2 goes_on.linked

    at_link : page ≡ next_link.0.0
    at_link = goes_on.at ∙ ap (λ (l : List Link). first_of l) next_link.2

    is_there : map page ≡ Some (spelling (slots kind (first_of next_link.1) next_link.0.1))
    is_there = ap (λ (n : ℕ). map n) at_link ∙ linked_left.0.is

    page_some : page ≢ 0
    page_some none = linked_left.0.some (sym at_link ∙ none)

    page_below : page < total
    page_below =
        let below : AllByRecursion (λ (n : ℕ). n < total) (pages_of walks.done ++ pages_of (next_link.0 ∷ next_link.1)) =
        subst (λ (l : List ℕ). AllByRecursion (λ (n : ℕ). n < total) l) (all_pages ∙ ap (λ (l : List Link). pages_of walks.done ++ pages_of l) next_link.2) held.below in
        let here = (feet.all_right (λ (n : ℕ). n < total) (pages_of walks.done) (pages_of (next_link.0 ∷ next_link.1)) below).0 in omega (arith, here, at_link)

    -- the page is read well
    sound : (page ≢ 0 → page < total → (bytes : List ℕ) → map page ≡ Some bytes → ¬ IsSlotPage bytes kind) → ⊥
    sound broken =
        broken page_some page_below (spelling (slots kind (first_of next_link.1) next_link.0.1)) is_there (slots kind (first_of next_link.1) next_link.0.1, refl, linked_left.0.fits, refl)

    -- it has level 0
    flat : (found : Slots) → ((s : Slots) → map page ≡ Some (spelling s) → Fits s → found ≡ s) → found.level ≡ 0
    flat found one = ap (λ (s : Slots). s.level) (one (slots kind (first_of next_link.1) next_link.0.1) is_there linked_left.0.fits)

    -- it isn't the mark
    no_mark : page ≢ mark
    no_mark same =
        let apart : IsApart (pages_of walks.done ++ pages_of (next_link.0 ∷ next_link.1)) =
        subst (λ (l : List ℕ). IsApart l) (all_pages ∙ ap (λ (l : List Link). pages_of walks.done ++ pages_of l) next_link.2) held.apart in
        ⊎_elim (λ none. page_some (same ∙ none))
        (λ marked.
        let there : 0 < feet.times page (pages_of walks.done) = subst (λ (n : ℕ). 0 < feet.times n (pages_of walks.done)) (sym same) marked in
        let here : feet.times page (pages_of (next_link.0 ∷ next_link.1)) ≡ 1 + feet.times page (pages_of next_link.1) =
        ap (λ (n : ℕ). feet.times page (n ∷ pages_of next_link.1)) (sym at_link) ∙ feet.times_one page (pages_of next_link.1) in
        omega (
          arith,
          there,
          here,
          feet.times-append page (pages_of walks.done) (pages_of (next_link.0 ∷ next_link.1)),
          feet.apart_once (pages_of walks.done ++ pages_of (next_link.0 ∷ next_link.1)) apart page,
        ))
        walks.marked

    -- and not so many were read
    no_end : total ≤ count → ⊥
    no_end enough =
        let few = feet.apart_few total (pages_of links) held.apart held.below in
        let all = ap (λ (l : List Link). length l) (goes_on.cut ∙ ap (λ (l : List Link). walks.done ++ l) next_link.2) in
        let len = walks.len in
        omega (arith, few, all, len, enough, length-append walks.done (next_link.0 ∷ next_link.1), length-map links (λ (l : Link). l.0))

  pub walks_sound : (page ≢ 0 → page < total → (bytes : List ℕ) → map page ≡ Some bytes → ¬ IsSlotPage bytes kind) → BeginsNone map total kind first
  walks_sound broken chain links at_first held = sound chain links at_first held broken

  pub walks_flat : (found : Slots) → ((s : Slots) → map page ≡ Some (spelling s) → Fits s → found ≡ s) → found.level ≢ 0 → BeginsNone map total kind first
  walks_flat found one other chain links at_first held = other (flat chain links at_first held found one)

  pub walks_round : page ≡ mark → BeginsNone map total kind first
  walks_round same chain links at_first held = no_mark chain links at_first held same

  pub walks_long : total ≤ count → BeginsNone map total kind first
  walks_long enough chain links at_first held = no_end chain links at_first held enough

  -- one more page is read
  module _ (next : ℕ) (found : Slots) (is : map page ≡ Some (spelling found)) (fits : Fits found) (kind_is : found.kind ≡ kind) (level_is : found.level ≡ 0) (next_is : next ≡ found.next)
      (page_is : page ≢ 0) (below_is : page < total) (more : List Entry) (read : more ≡ entries ++ entries_at page 0 found.items) (later : List ℕ) (stand : later ≡ passed ++ page ∷ []) where
    same_found : found ≡ slots kind next found.items
    same_found = λ i. record { kind = kind_is i; level = level_is i; next = sym next_is i; items = found.items }

    link : IsLink map kind next (page, found.items)
    link = record {
      some = page_is;
      is = is ∙ ap (λ (s : Slots). Some (spelling s)) same_found;
      fits = subst (λ (s : Slots). Fits s) same_found fits;
    }

    abbrev now : List Link
    now = walks.done ++ (page, found.items) ∷ []

    linked_now : AreLinkedTo map kind next now
    linked_now = linked_more map kind page next walks.done (page, found.items) refl walks.linked link

    below_now : AllByRecursion (λ n. n < total) (pages_of now)
    below_now = subst (λ (l : List ℕ). AllByRecursion (λ (n : ℕ). n < total) l) (sym (pages_end walks.done (page, found.items)))
        (feet.all_join (λ (n : ℕ). n < total) (pages_of walks.done) (page ∷ []) walks.below (below_is, tt))

    read_now : more ≡ entries_of now
    read_now = read ∙ ap (λ (l : List Entry). l ++ entries_at page 0 found.items) walks.read ∙ sym (entries_end walks.done page found.items)

    stand_now : later ≡ pages_of now
    stand_now = stand ∙ ap (λ (l : List ℕ). l ++ page ∷ []) walks.stand ∙ sym (pages_end walks.done (page, found.items))

    starts_now : (done : List Link) → first ≡ first_to page done → first ≡ first_to next (done ++ (page, found.items) ∷ [])
    starts_now [] at = at
    starts_now (l ∷ done) at = at

    marked_now : (m : ℕ) → (m ≡ mark) ⊎ (m ≡ page) → (m ≡ 0) ⊎ (0 < feet.times m (pages_of now))
    marked_now m moves =
        let all = feet.times-append m (pages_of walks.done) (page ∷ []) in
        let same = ap (λ (l : List ℕ). feet.times m l) (pages_end walks.done (page, found.items)) in
        ⊎_elim
        (λ stays. ⊎_elim (λ none. inl (stays ∙ none))
        (λ there. inr (let here : 0 < feet.times m (pages_of walks.done) = subst (λ (n : ℕ). 0 < feet.times n (pages_of walks.done)) (sym stays) there in omega (arith, here, all, same))) walks.marked)
        (λ goes. inr (
        let here : feet.times m (page ∷ []) ≡ 1 + feet.times m [] = ap (λ (n : ℕ). feet.times m (n ∷ [])) (sym goes) ∙ feet.times_one m [] in
        omega (arith, here, all, same)))
        moves

    pub walks_more : (m : ℕ) → (m ≡ mark) ⊎ (m ≡ page) → next ≢ 0 → Walks map total kind first next more later m (count + 1)
    walks_more m moves goes = record {
      done = now;
      linked = linked_now;
      starts = starts_now walks.done walks.starts;
      below = below_now;
      read = read_now;
      stand = stand_now;
      len = (let len = walks.len in omega (arith, len, length-append walks.done ((page, found.items) ∷ [])));
      some = inr goes;
      marked = marked_now m moves;
    }

    -- it is the last one
    pub walks_end : next ≡ 0 → (links : List Link) × Holds map total kind (record { first = first; last = page; pages = count + 1 }) links × (more ≡ entries_of links) × (count + 1 ≡ length links) × (later ≡ pages_of links)
    walks_end ends =
        let linked : AreLinked map kind now = subst (λ (n : ℕ). AreLinkedTo map kind n now) ends linked_now in
        let long = length-append walks.done ((page, found.items) ∷ []) in
        let len = walks.len in (
          now,
          record {
            linked = linked;
            apart = linked_apart map kind now linked;
            below = below_now;
            some = omega (arith, long);
            first = subst (λ (n : ℕ). first ≡ first_to n now) ends (starts_now walks.done walks.starts);
            last = sym (last_mid 0 walks.done (page, found.items) []);
            bound = omega (arith, long, len);
          },
          read_now,
          omega (arith, long, len),
          stand_now,
        )

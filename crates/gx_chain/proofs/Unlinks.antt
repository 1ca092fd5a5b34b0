-- A page is taken out of a chain and given back.
use Rattle.std.proofs.Common.{◌≡◌, ◌≢◌, ℕ, ◌<◌, ◌≤◌, List, [], ◌∷◌, ◌++◌, length, Option, Some, refl, sym, ◌∙◌, ap, subst, append_assoc, append-nil, length-append, arith}
use Rattle.std.specs.List.{AllByRecursion}
use Rattle.std.specs.List.Sorted.{IsPermutation}
use Rattle.std.proofs.lemmas.List.Sorted.{IsPermutation-trans, IsPermutation-sym, IsPermutation-middle}
use Rattle.gx_words.specs.PageMap.{PageMap, with_page}
use Rattle.gx_pages.specs.declared.store.Pages.{Ghosts}
use Rattle.gx_pages.specs.Frees.{IsApart, IsFreeList, KeepsHeader, Given}
use Rattle.gx_pages.specs.Footprints.{IsOutside, ChangesOnly, KeepsPages}
use Rattle.gx_pages.proofs.Footprints as feet
use Rattle.gx_slot.specs.Slots.{Slots, Fits, spelling}
use Rattle.gx_chain.specs.declared.chain.Chain.{Chain}
use Rattle.gx_chain.specs.Chains.{Link, IsLink, AreLinked, HoldsBeside, first_of, last_to, pages_of, slots}
use Rattle.gx_chain.proofs.Links.{first_same, last_mid, linked_mid, linked_same, linked_some, linked_stays, pages_mid}

-- The lists of pages: one of the middle goes to the free ones.
moved : (xs ys free : List ℕ) (page : ℕ) → IsPermutation (xs ++ page ∷ ys ++ free) (xs ++ ys ++ page ∷ free)
moved xs ys free page =
    let left : xs ++ page ∷ ys ++ free ≡ xs ++ page ∷ (ys ++ free) = append_assoc xs (page ∷ ys) free in
    let right : page ∷ (xs ++ (ys ++ free)) ≡ page ∷ (xs ++ ys ++ free) = ap (λ (l : List ℕ). page ∷ l) (sym (append_assoc xs ys free)) in
    subst (λ (l : List ℕ). IsPermutation l (xs ++ ys ++ page ∷ free)) (sym left)
    (IsPermutation-trans (xs ++ page ∷ (ys ++ free)) (page ∷ (xs ++ ys ++ free)) (xs ++ ys ++ page ∷ free)
    (subst (λ (l : List ℕ). IsPermutation (xs ++ page ∷ (ys ++ free)) l) right (IsPermutation-middle xs page (ys ++ free)))
    (IsPermutation-sym (xs ++ ys ++ page ∷ free) (page ∷ (xs ++ ys ++ free)) (IsPermutation-middle (xs ++ ys) page free)))

module _ {P : Type 0} (g : Ghosts P) (old new : P) (kind : ℕ) (chain : Chain) (page : ℕ) (middle : PageMap) (free : List ℕ)
    (only : (n : ℕ) → n ≢ 0 → n ≢ page → g.map new n ≡ middle n) (header : KeepsHeader middle (g.map new)) (count : g.count new ≡ g.count old)
    (given : (list : List ℕ) → IsFreeList middle (g.count old) list → AllByRecursion (λ other. page ≢ other) list → Given middle (g.map new) (g.count old) page list) where
  -- what stays of the pages, in front and behind
  module _ (xs : List ℕ) (back : List Link) (items : List (Option (List ℕ))) (chain_pages : List ℕ) (cut : chain_pages ≡ xs ++ page ∷ pages_of back) (apart : IsApart (chain_pages ++ free)) where
    abbrev kept : List ℕ
    kept = xs ++ pages_of back

    move : IsPermutation (chain_pages ++ free) (kept ++ page ∷ free)
    move = subst (λ (l : List ℕ). IsPermutation (l ++ free) (kept ++ page ∷ free)) (sym cut) (moved xs (pages_of back) free page)

    pub apart_kept : IsApart (kept ++ page ∷ free)
    apart_kept = feet.apart_moved (chain_pages ++ free) (kept ++ page ∷ free) move apart

    pub once_free : IsOutside page free
    once_free = feet.apart_behind kept page free apart_kept

    pub once_kept : IsOutside page kept
    once_kept = feet.apart_before kept page free apart_kept

    pub keeps : ChangesOnly (g.map old) (g.map new) chain_pages → KeepsHeader (g.map old) (g.map new) → IsFreeList (g.map new) (g.count new) (page ∷ free)
        → KeepsPages g old new chain_pages free kept (page ∷ free)
    keeps changes head frees =
        feet.keeps_of g old new chain_pages free kept (page ∷ free) (omega (arith, count)) (λ n some outside. changes n some (feet.all_left (λ (other : ℕ). n ≢ other) chain_pages kept outside)) head frees
        (subst (λ (l : List ℕ). IsPermutation l (kept ++ page ∷ free))
        (sym (ap (λ (l : List ℕ). chain_pages ++ free ++ l) (feet.same_count (g.count old) (g.count new) (sym count)) ∙ append-nil (chain_pages ++ free))) move)

  -- the first page
  module _ (next : ℕ) (same_map : middle ≡ g.map old) (back : List Link) (items : List (Option (List ℕ))) (held : HoldsBeside g old kind chain ((page, items) ∷ back) free)
      (at_next : next ≡ first_of back) (goes : next ≢ 0) where
    abbrev shorter : Chain
    shorter = record { first = next; last = chain.last; pages = chain.pages }

    out : IsOutside page (pages_of back)
    out = once_kept [] back items (page ∷ pages_of back) refl held.apart

    stays : (n : ℕ) → n ≢ 0 → n ≢ page → g.map new n ≡ g.map old n
    stays n some other = only n some other ∙ ap (λ (m : PageMap). m n) same_map

    same_back : AllByRecursion (λ n. g.map new n ≡ g.map old n) (pages_of back)
    same_back = feet.all_same (g.map old) (g.map new) (page ∷ []) (pages_of back) (λ n some outside. stays n some outside.0) (linked_some (g.map old) kind 0 back held.held.linked.1)
        (feet.all_weaker (λ (n : ℕ). page ≢ n) (λ (n : ℕ). IsOutside n (page ∷ [])) (pages_of back) (λ n differ. ((λ same. differ (sym same)), tt)) out)

    frees_first : IsFreeList (g.map new) (g.count new) (page ∷ free)
    frees_first = subst (λ (n : ℕ). IsFreeList (g.map new) n (page ∷ free)) (sym count)
        (given free (subst (λ (m : PageMap). IsFreeList m (g.count old) free) (sym same_map) held.frees) (once_free [] back items (page ∷ pages_of back) refl held.apart)).frees

    last_back : (l : List Link) → next ≡ first_of l → last_to page l ≡ last_to 0 l
    last_back [] at = absurd (goes at)
    last_back (link ∷ l) at = refl

    any_back : (l : List Link) → next ≡ first_of l → 0 < length l
    any_back [] at = absurd (goes at)
    any_back (link ∷ l) at = omega arith

    pub unlinked_first : HoldsBeside g new kind shorter back (page ∷ free) × KeepsPages g old new (page ∷ pages_of back) free (pages_of back) (page ∷ free)
    unlinked_first = (
      record {
        held = record {
          linked = linked_stays (g.map old) (g.map new) kind 0 back same_back held.held.linked.1;
          apart = held.held.apart.1;
          below = subst (λ (n : ℕ). AllByRecursion (λ (p : ℕ). p < n) (pages_of back)) (sym count) held.held.below.1;
          some = any_back back at_next;
          first = at_next;
          last = held.held.last ∙ last_back back at_next;
          bound = (let bound = held.held.bound in omega (arith, bound));
        };
        frees = frees_first;
        apart = apart_kept [] back items (page ∷ pages_of back) refl held.apart;
      },
      keeps [] back items (page ∷ pages_of back) refl held.apart (λ n some outside. stays n some outside.0) (subst (λ (m : PageMap). KeepsHeader m (g.map new)) same_map header) frees_first,
    )

  -- a page behind another one
  module _ (before next : ℕ) (found : Slots) (bytes : List ℕ) (one : (s : Slots) → g.map old before ≡ Some (spelling s) → Fits s → found ≡ s)
      (spelled : bytes ≡ spelling (record found { next = next })) (fits : Fits (record found { next = next })) (put : middle ≡ with_page (g.map old) before bytes) where
    module _ (front back : List Link) (others items : List (Option (List ℕ))) (held : HoldsBeside g old kind chain (front ++ (before, others) ∷ (page, items) ∷ back) free)
        (at_next : next ≡ first_of back) where
      abbrev was : List Link
      was = front ++ (before, others) ∷ (page, items) ∷ back

      abbrev is : List Link
      is = front ++ (before, others) ∷ back

      linked : AreLinked (g.map old) kind ((before, others) ∷ (page, items) ∷ back)
      linked = linked_mid (g.map old) kind front (before, others) ((page, items) ∷ back) held.held.linked

      abbrev head : List ℕ
      head = pages_of front ++ before ∷ []

      cut_was : pages_of was ≡ head ++ page ∷ pages_of back
      cut_was = pages_mid front (before, others) ((page, items) ∷ back) ∙ sym (append_assoc (pages_of front) (before ∷ []) (page ∷ pages_of back))

      cut_is : pages_of is ≡ head ++ pages_of back
      cut_is = pages_mid front (before, others) back ∙ sym (append_assoc (pages_of front) (before ∷ []) (pages_of back))

      apart_all : IsApart (head ++ pages_of back ++ page ∷ free)
      apart_all = apart_kept head back items (pages_of was) cut_was held.apart

      page_out : IsOutside page (head ++ pages_of back)
      page_out = once_kept head back items (pages_of was) cut_was held.apart

      page_before : before ≢ page
      page_before same =
          (feet.all_right (λ (n : ℕ). page ≢ n) (pages_of front) (before ∷ []) (feet.all_left (λ (n : ℕ). page ≢ n) head (pages_of back) page_out)).0 (sym same)

      apart_before : IsApart (pages_of front ++ before ∷ (pages_of back ++ page ∷ free))
      apart_before = subst (λ (l : List ℕ). IsApart l)
          (append_assoc (pages_of front ++ before ∷ []) (pages_of back) (page ∷ free) ∙ append_assoc (pages_of front) (before ∷ []) (pages_of back ++ page ∷ free)) apart_all

      before_back : IsOutside before (pages_of back ++ page ∷ free)
      before_back = feet.apart_behind (pages_of front) before (pages_of back ++ page ∷ free) apart_before

      stays_two : (n : ℕ) → n ≢ 0 → n ≢ page → n ≢ before → g.map new n ≡ g.map old n
      stays_two n some other another = only n some other ∙ ap (λ (m : PageMap). m n) put ∙ feet.with_other (g.map old) before bytes n another

      same_two : (pages : List ℕ) → AllByRecursion (λ n. n ≢ 0) pages → IsOutside page pages → IsOutside before pages → AllByRecursion (λ n. g.map new n ≡ g.map old n) pages
      same_two [] some one two = tt
      same_two (n ∷ pages) some one two = (stays_two n some.0 (λ same. one.0 (sym same)) (λ same. two.0 (sym same)), same_two pages some.1 one.1 two.1)

      is_slots : found ≡ slots kind page others
      is_slots = one (slots kind page others) linked.0.is linked.0.fits

      is_next : record found { next = next } ≡ slots kind (first_of back) others
      is_next = ap (λ (s : Slots). record s { next = next }) is_slots ∙ ap (λ (n : ℕ). slots kind n others) at_next

      new_link : IsLink (g.map new) kind (first_of back) (before, others)
      new_link = record {
        some = linked.0.some;
        is = only before linked.0.some page_before ∙ ap (λ (m : PageMap). m before) put ∙ feet.with_same (g.map old) before bytes ∙ ap (λ (l : List ℕ). Some l) (spelled ∙ ap (λ (s : Slots). spelling s) is_next);
        fits = subst (λ (s : Slots). Fits s) is_next fits;
      }

      some_front : AllByRecursion (λ n. n ≢ 0) (pages_of front)
      some_front = feet.all_left (λ (n : ℕ). n ≢ 0) (pages_of front) (before ∷ page ∷ pages_of back)
          (subst (λ (l : List ℕ). AllByRecursion (λ (n : ℕ). n ≢ 0) l) (pages_mid front (before, others) ((page, items) ∷ back)) (linked_some (g.map old) kind 0 was held.held.linked))

      same_front : AllByRecursion (λ n. g.map new n ≡ g.map old n) (pages_of front)
      same_front = same_two (pages_of front) some_front
          (feet.all_left (λ (n : ℕ). page ≢ n) (pages_of front) (before ∷ []) (feet.all_left (λ (n : ℕ). page ≢ n) head (pages_of back) page_out))
          (feet.apart_before (pages_of front) before (pages_of back ++ page ∷ free) apart_before)

      same_back_two : AllByRecursion (λ n. g.map new n ≡ g.map old n) (pages_of back)
      same_back_two = same_two (pages_of back) (linked_some (g.map old) kind 0 back linked.1.1)
          (feet.all_right (λ (n : ℕ). page ≢ n) head (pages_of back) page_out) (feet.all_left (λ (n : ℕ). before ≢ n) (pages_of back) (page ∷ free) before_back)

      frees_two : IsFreeList (g.map new) (g.count new) (page ∷ free)
      frees_two = subst (λ (n : ℕ). IsFreeList (g.map new) n (page ∷ free)) (sym count)
          (given free
          (subst (λ (m : PageMap). IsFreeList m (g.count old) free) (sym put)
          (feet.free_list_put (g.map old) (g.count old) before bytes free linked.0.some
          (feet.all_right (λ (n : ℕ). before ≢ n) (pages_of back ++ page ∷ []) free
          (subst (λ (l : List ℕ). IsOutside before l) (sym (append_assoc (pages_of back) (page ∷ []) free)) before_back)) held.frees))
          (once_free head back items (pages_of was) cut_was held.apart)).frees

      below_is : AllByRecursion (λ n. n < g.count new) (pages_of is)
      below_is =
          let all = subst (λ (l : List ℕ). AllByRecursion (λ (n : ℕ). n < g.count old) l) cut_was held.held.below in
          subst (λ (n : ℕ). AllByRecursion (λ (p : ℕ). p < n) (pages_of is)) (sym count)
          (subst (λ (l : List ℕ). AllByRecursion (λ (n : ℕ). n < g.count old) l) (sym cut_is)
          (feet.all_join (λ (n : ℕ). n < g.count old) head (pages_of back) (feet.all_left (λ (n : ℕ). n < g.count old) head (page ∷ pages_of back) all)
          (feet.all_right (λ (n : ℕ). n < g.count old) head (page ∷ pages_of back) all).1))

      -- the chain that ends where it has to now
      pub unlinked_to : (ends : Chain) → ends.first ≡ chain.first → ends.last ≡ last_to before back → length is ≤ ends.pages
          → HoldsBeside g new kind ends is (page ∷ free) × KeepsPages g old new (pages_of was) free (pages_of is) (page ∷ free)
      unlinked_to ends at_first at_last at_most = (
        record {
          held = record {
            linked = linked_same (g.map old) (g.map new) kind front (before, others) (before, others) ((page, items) ∷ back) back refl same_front held.held.linked
                (new_link, linked_stays (g.map old) (g.map new) kind 0 back same_back_two linked.1.1);
            apart = feet.apart_left (pages_of is) (page ∷ free) (subst (λ (l : List ℕ). IsApart (l ++ page ∷ free)) (sym cut_is) apart_all);
            below = below_is;
            some = omega (arith, length-append front ((before, others) ∷ back));
            first = at_first ∙ held.held.first ∙ first_same front (before, others) (before, others) ((page, items) ∷ back) back refl;
            last = at_last ∙ sym (last_mid 0 front (before, others) back);
            bound = at_most;
          };
          frees = frees_two;
          apart = subst (λ (l : List ℕ). IsApart (l ++ page ∷ free)) (sym cut_is) apart_all;
        },
        subst (λ (l : List ℕ). KeepsPages g old new (pages_of was) free l (page ∷ free)) (sym cut_is)
            (keeps head back items (pages_of was) cut_was held.apart
            (λ n some outside.
            let all = subst (λ (l : List ℕ). IsOutside n l) cut_was outside in
            stays_two n some (feet.all_right (λ (other : ℕ). n ≢ other) head (page ∷ pages_of back) all).0
            (feet.all_right (λ (other : ℕ). n ≢ other) (pages_of front) (before ∷ []) (feet.all_left (λ (other : ℕ). n ≢ other) head (page ∷ pages_of back) all)).0)
            (feet.header_join (g.map old) middle (g.map new)
            (feet.header_same (g.map old) (g.map old) middle (feet.header_none (g.map old)) (ap (λ (m : PageMap). m 0) put ∙ feet.with_other (g.map old) before bytes 0 (λ same. linked.0.some (sym same)))) header)
            frees_two),
      )

      pub unlinked_inner : first_of back ≢ 0 → HoldsBeside g new kind chain is (page ∷ free) × KeepsPages g old new (pages_of was) free (pages_of is) (page ∷ free)
      unlinked_inner goes =
          unlinked_to chain refl (held.held.last ∙ last_mid 0 front (before, others) ((page, items) ∷ back) ∙ last_goes back goes)
          (let bound = held.held.bound in omega (arith, bound, length-append front ((before, others) ∷ (page, items) ∷ back), length-append front ((before, others) ∷ back)))
        where
          last_goes : (l : List Link) → first_of l ≢ 0 → last_to page l ≡ last_to before l
          last_goes [] goes = absurd (goes refl)
          last_goes (link ∷ l) goes = refl

-- The pages of a heap on a walk.
use Rattle.std.proofs.Common.{◌≡◌, ◌≢◌, ◌⊎◌, inl, inr, ⊎_elim, ℕ, ◌+◌, ◌<◌, ◌≤◌, ◌==◌, List, [], ◌∷◌, ◌++◌, length, map, refl, sym, ◌∙◌, ap, subst, append_assoc, append-nil, arith}
use Rattle.std.proofs.lemmas.List.{length-append, length-map}
use Rattle.std.proofs.lemmas.Grind.{flat_map-append}
use Rattle.std.specs.List.{AllByRecursion, AllZip}
use Rattle.gx_words.specs.PageMap.{PageMap}
use Rattle.gx_pages.specs.declared.store.Pages.{Ghosts}
use Rattle.gx_pages.specs.Frees.{IsApart}
use Rattle.gx_pages.proofs.Footprints.{all_right, apart_before, outside_none, times, times-append, times_one}
use Rattle.gx_chain.specs.Chains.{Link, AreLinkedTo, first_of, pages_of}
use Rattle.gx_heap.specs.declared.heap.Heap.{Heap}
use Rattle.gx_heap.specs.Heaps.{Row, HoldsHeap, first_page, rows_in, rows_on}
use Rattle.gx_query.proofs.Lists.{kept}

links_some : (map : PageMap) (kind end : ℕ) (links : List Link) → AreLinkedTo map kind end links → AllByRecursion (λ page. page ≢ 0) (pages_of links)
links_some map kind end [] linked = tt
links_some map kind end (link ∷ links) linked = (linked.0.some, links_some map kind end links linked.1)

first_pages : (links : List Link) → first_page (pages_of links) ≡ first_of links
first_pages [] = refl
first_pages (link ∷ links) = refl

-- the pages that were passed, among them the mark, and those that are left, of which this is the first
pub record Passed (feet : List ℕ) (page mark counter : ℕ) : Type 0 where
  pub front : List ℕ
  pub back : List ℕ
  pub cut : feet ≡ front ++ back
  pub first : page ≡ first_page back
  pub many : length front ≡ counter
  pub marked : (mark ≡ 0) ⊎ (0 < times mark front)

-- one of them is next
pub record Next (feet : List ℕ) (page : ℕ) (front back : List ℕ) : Type 0 where
  pub behind : List ℕ
  pub is : back ≡ page ∷ behind
  pub cut : feet ≡ front ++ page ∷ behind

module _ {P : Type 0} (g : Ghosts P) (pages : P) (heap : Heap) (rows : List Row) (feet free : List ℕ) (held : HoldsHeap g pages heap rows feet free) where
  feet_some : AllByRecursion (λ page. page ≢ 0) feet
  feet_some = subst (λ (l : List ℕ). AllByRecursion (λ page. page ≢ 0) l) (sym held.stand) (links_some (g.map pages) 2 0 held.links held.held.held.linked)

  feet_few : length feet ≤ heap.next
  feet_few =
      let same : length feet ≡ length held.links = ap (λ (l : List ℕ). length l) held.stand ∙ length-map held.links (λ (link : Link). link.0) in
      let bound = held.held.held.bound in omega (arith, same, bound)

  pub its_first : heap.first ≡ first_page feet
  its_first = held.held.held.first ∙ sym (first_pages held.links) ∙ ap (λ (l : List ℕ). first_page l) (sym held.stand)

  abbrev pub at_start : (mark : ℕ) → mark ≡ 0 → Passed feet heap.first mark 0
  at_start mark none = record { front = []; back = feet; cut = refl; first = its_first; many = refl; marked = inl none }

  -- page 0 stands behind the last one
  none_behind : (front back : List ℕ) → feet ≡ front ++ back → first_page back ≡ 0 → back ≡ []
  none_behind front [] cut zero = refl
  none_behind front (page ∷ back) cut zero =
      absurd ((all_right (λ (p : ℕ). p ≢ 0) front (page ∷ back) (subst (λ (l : List ℕ). AllByRecursion (λ p. p ≢ 0) l) cut feet_some)).0 zero)

  pub whole : (page mark counter : ℕ) (passed : Passed feet page mark counter) → page ≡ 0 → passed.front ≡ feet
  whole page mark counter passed zero =
      let none = none_behind passed.front passed.back passed.cut (sym passed.first ∙ zero) in
      sym (passed.cut ∙ ap (λ (l : List ℕ). passed.front ++ l) none ∙ append-nil passed.front)

  next_of : (front back : List ℕ) (page : ℕ) → feet ≡ front ++ back → page ≡ first_page back → page ≢ 0 → Next feet page front back
  next_of front [] page cut first some = absurd (some first)
  next_of front (other ∷ behind) page cut first some =
      let is : other ∷ behind ≡ page ∷ behind = ap (λ (n : ℕ). n ∷ behind) (sym first) in
      record { behind = behind; is = is; cut = cut ∙ ap (λ (l : List ℕ). front ++ l) is }

  pub next : (page mark counter : ℕ) (passed : Passed feet page mark counter) → page ≢ 0 → Next feet page passed.front passed.back
  next page mark counter passed some = next_of passed.front passed.back page passed.cut passed.first some

  -- no more pages are passed than the heap may have
  pub ends : (page mark counter : ℕ) → Passed feet page mark counter → heap.next ≤ counter → page ≢ 0 → ⊥
  ends page mark counter passed many some =
      let there = next page mark counter passed some in
      let long : length feet ≡ length passed.front + length (page ∷ there.behind) = ap (λ (l : List ℕ). length l) there.cut ∙ length-append passed.front (page ∷ there.behind) in
      let few = feet_few in let front = passed.many in absurd (omega (arith, long, few, front, many))

  -- a page that is next isn't the mark
  pub round : (page mark counter : ℕ) → Passed feet page mark counter → page ≢ 0 → page ≡ mark → ⊥
  round page mark counter passed some same =
      let there = next page mark counter passed some in
      let apart : IsApart (passed.front ++ page ∷ there.behind) = subst (λ (l : List ℕ). IsApart l) (sym held.stand ∙ there.cut) held.held.held.apart in
      let out = outside_none page passed.front (apart_before passed.front page there.behind apart) in
      ⊎_elim (λ none. some (same ∙ none))
      (λ met. let here : 0 < times page passed.front = subst (λ (n : ℕ). 0 < times n passed.front) (sym same) met in absurd (omega (arith, here, out)))
      passed.marked

  -- the mark stays, or goes to the page
  pub its_mark : (front : List ℕ) (page mark later : ℕ) → (mark ≡ 0) ⊎ (0 < times mark front) → (later ≡ mark) ⊎ (later ≡ page) → (later ≡ 0) ⊎ (0 < times later (front ++ page ∷ []))
  its_mark front page mark later marked moves =
      let all = times-append later front (page ∷ []) in
      ⊎_elim
      (λ stays. ⊎_elim (λ none. inl (stays ∙ none))
      (λ met. inr (let here : 0 < times later front = subst (λ (n : ℕ). 0 < times n front) (sym stays) met in omega (arith, here, all))) marked)
      (λ goes. inr (
      let here : times later (page ∷ []) ≡ 1 + times later [] = ap (λ (n : ℕ). times later (n ∷ [])) (sym goes) ∙ times_one later [] in
      omega (arith, here, all)))
      moves

  pub its_cut : (front behind : List ℕ) (page : ℕ) → feet ≡ front ++ page ∷ behind → feet ≡ (front ++ page ∷ []) ++ behind
  its_cut front behind page cut = cut ∙ sym (append_assoc front (page ∷ []) behind)

  pub its_many : (front : List ℕ) (page counter : ℕ) → length front ≡ counter → length (front ++ page ∷ []) ≡ counter + 1
  its_many front page counter many = let long = length-append front (page ∷ []) in omega (arith, long, many)

  abbrev pub moved : (page mark counter : ℕ) (passed : Passed feet page mark counter) (there : Next feet page passed.front passed.back) (later : ℕ) → later ≡ first_page there.behind
      → (on : ℕ) → (on ≡ mark) ⊎ (on ≡ page) → Passed feet later on (counter + 1)
  moved page mark counter passed there later first on moves = record {
    front = passed.front ++ page ∷ [];
    back = there.behind;
    cut = its_cut passed.front there.behind page there.cut;
    first = first;
    many = its_many passed.front page counter passed.many;
    marked = its_mark passed.front page mark on passed.marked moves;
  }

-- the rows of one more page
pub rows_more : (front : List ℕ) (page : ℕ) (rows : List Row) → rows_in (front ++ page ∷ []) rows ≡ rows_in front rows ++ rows_on page rows
rows_more front page rows = flat_map-append (λ (p : ℕ). rows_on p rows) front (page ∷ []) ∙ ap (λ (l : List Row). rows_in front rows ++ l) (append-nil (rows_on page rows))

-- what goes with all rows goes in a part with those of a page
pub on_page : {B : Type 0} (R : Row → B → Type 0) (page : ℕ) (rows : List Row) (ys : List B) → AllZip R rows ys → (zs : List B) × AllZip R (rows_on page rows) zs
on_page R page rows ys all = kept R (λ (row : Row). row.0.page == page) rows ys all

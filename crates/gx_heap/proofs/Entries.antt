-- The items of a heap's pages as rows.
use Rattle.std.proofs.Common.{◌≡◌, ◌≢◌, inl, inr, ⊎_elim, ℕ, ◌+◌, ◌<◌, ◌≤◌, ◌==◌, Bool, true, false, zero, suc, List, [], ◌∷◌, ◌++◌, length, map, take, drop, Option, Some, None, slice_set, refl, sym, ◌∙◌, ap, subst, append_assoc, append-nil, length-append, arith}
use Rattle.std.specs.List.{AllByRecursion, filter}
use Rattle.std.proofs.lemmas.Bool.Decides.{eqb_tells}
use Rattle.std.proofs.lemmas.List.{map-append}
use Rattle.gx_bytes.specs.Fields.{of64}
use Rattle.gx_pages.specs.declared.row.RowRef.{RowRef}
use Rattle.gx_pages.specs.Frees.{IsApart}
use Rattle.gx_pages.specs.Footprints.{IsOutside}
use Rattle.gx_pages.specs.Rows.{IsRising}
use Rattle.gx_pages.proofs.Footprints as feet
use Rattle.gx_slot.specs.Slots.{item_at}
use Rattle.gx_chain.specs.declared.entry.Entry.{Entry}
use Rattle.gx_chain.specs.Chains.{Link, entries_at, entries_of, first_of, pages_of}
use Rattle.gx_chain.proofs.Entries.{entries_append, entries_more, entries_none, entries_some}
use Rattle.gx_chain.proofs.Links.{pages_mid}
use Rattle.gx_heap.specs.Heaps.{Row, AreFilled, AreUsed, Empties, IsIn, first_page, refs, row_of, rows_of, rows_on, rows_in, without}
use Rattle.gx_heap.proofs.Rows.{filter_all, filter_join, filter_none, in_left, other_than, rising_filter, without_one}

-- a page and what stands before and behind it
pub entries_mid : (front : List Link) (link : Link) (back : List Link) → entries_of (front ++ link ∷ back) ≡ entries_of front ++ (entries_at link.0 0 link.1 ++ entries_of back)
entries_mid front link back = entries_append front (link ∷ back)

pub rows_mid : (front : List Link) (link : Link) (back : List Link) → rows_of (front ++ link ∷ back) ≡ rows_of front ++ (map row_of (entries_at link.0 0 link.1) ++ rows_of back)
rows_mid front link back =
    ap (λ (l : List Entry). map row_of l) (entries_mid front link back) ∙ map-append row_of (entries_of front) (entries_at link.0 0 link.1 ++ entries_of back)
    ∙ ap (λ (l : List Row). rows_of front ++ l) (map-append row_of (entries_at link.0 0 link.1) (entries_of back))

-- an item that stands in a slot, and what is left where it is emptied
pub record Cut (items : List (Option (List ℕ))) (slot : ℕ) (item : List ℕ) : Type 0 where
  pub before : List (Option (List ℕ))
  pub behind : List (Option (List ℕ))
  pub was : items ≡ before ++ Some item ∷ behind
  pub is : slice_set items slot None ≡ before ++ None ∷ behind
  pub at : slot ≡ length before

pub cut : (items : List (Option (List ℕ))) (slot : ℕ) (item : List ℕ) → item_at items slot ≡ Some item → Cut items slot item
cut [] slot item is = absurd (let never : None ≡ Some item = is in cc)
cut (x ∷ items) zero item is =
    record { before = []; behind = items; was = ap (λ (y : Option (List ℕ)). y ∷ items) is; is = refl; at = refl }
cut (x ∷ items) (suc slot) item is =
    let rest = cut items slot item is in
    let at = rest.at in
    record {
      before = x ∷ rest.before;
      behind = rest.behind;
      was = ap (λ (l : List (Option (List ℕ))). x ∷ l) rest.was;
      is = ap (λ (l : List (Option (List ℕ))). x ∷ l) rest.is;
      at = omega (arith, at);
    }

-- the entries of a page where one is emptied
module _ (page slot : ℕ) (items : List (Option (List ℕ))) (item : List ℕ) (c : Cut items slot item) where
  abbrev entry : Entry
  entry = record { page = page; slot = slot; item = item }

  pub entries_was : entries_at page 0 items ≡ entries_at page 0 c.before ++ entry ∷ entries_at page (slot + 1) c.behind
  entries_was = ap (λ (l : List (Option (List ℕ))). entries_at page 0 l) c.was ∙ entries_more page 0 slot c.before (Some item ∷ c.behind) (let at = c.at in omega (arith, at))

  pub entries_is : entries_at page 0 (slice_set items slot None) ≡ entries_at page 0 c.before ++ entries_at page (slot + 1) c.behind
  entries_is = ap (λ (l : List (Option (List ℕ))). entries_at page 0 l) c.is ∙ entries_more page 0 slot c.before (None ∷ c.behind) (let at = c.at in omega (arith, at))

-- one slot is emptied
module _ (front : List Link) (page slot : ℕ) (back : List Link) (items : List (Option (List ℕ))) (item : List ℕ) (is : item_at items slot ≡ Some item) where
  abbrev c : Cut items slot item
  c = cut items slot item is

  abbrev xs : List Entry
  xs = entries_of front ++ entries_at page 0 c.before

  abbrev ys : List Entry
  ys = entries_at page (slot + 1) c.behind ++ entries_of back

  abbrev one : Entry
  one = record { page = page; slot = slot; item = item }

  was_entries : entries_of (front ++ (page, items) ∷ back) ≡ xs ++ one ∷ ys
  was_entries =
      entries_mid front (page, items) back ∙ ap (λ (l : List Entry). entries_of front ++ (l ++ entries_of back)) (entries_was page slot items item c)
      ∙ ap (λ (l : List Entry). entries_of front ++ l) (append_assoc (entries_at page 0 c.before) (one ∷ entries_at page (slot + 1) c.behind) (entries_of back))
      ∙ sym (append_assoc (entries_of front) (entries_at page 0 c.before) (one ∷ ys))

  is_entries : entries_of (front ++ (page, slice_set items slot None) ∷ back) ≡ xs ++ ys
  is_entries =
      entries_mid front (page, slice_set items slot None) back ∙ ap (λ (l : List Entry). entries_of front ++ (l ++ entries_of back)) (entries_is page slot items item c)
      ∙ ap (λ (l : List Entry). entries_of front ++ l) (append_assoc (entries_at page 0 c.before) (entries_at page (slot + 1) c.behind) (entries_of back))
      ∙ sym (append_assoc (entries_of front) (entries_at page 0 c.before) ys)

  pub emptied_rows : IsRising (refs (rows_of (front ++ (page, items) ∷ back)))
      → rows_of (front ++ (page, slice_set items slot None) ∷ back) ≡ filter (other_than (of64 (take 8 item))) (rows_of (front ++ (page, items) ∷ back))
  emptied_rows rising =
      let was : rows_of (front ++ (page, items) ∷ back) ≡ map row_of xs ++ row_of one ∷ map row_of ys =
      ap (λ (l : List Entry). map row_of l) was_entries ∙ map-append row_of xs (one ∷ ys) in
      ap (λ (l : List Entry). map row_of l) is_entries ∙ map-append row_of xs ys
      ∙ sym (without_one (map row_of xs) (row_of one) (map row_of ys) (subst (λ (l : List Row). IsRising (refs l)) was rising))
      ∙ ap (λ (l : List Row). filter (other_than (of64 (take 8 item))) l) (sym was)

  pub emptied_whole : AllByRecursion (λ e. 8 ≤ length e.item) (entries_of (front ++ (page, items) ∷ back))
      → AllByRecursion (λ e. 8 ≤ length e.item) (entries_of (front ++ (page, slice_set items slot None) ∷ back))
  emptied_whole whole =
      let W : List Entry → Type 0 = λ l. AllByRecursion (λ (e : Entry). 8 ≤ length e.item) l in
      let all = subst W was_entries whole in
      subst W (sym is_entries)
      (feet.all_join (λ (e : Entry). 8 ≤ length e.item) xs ys (feet.all_left (λ (e : Entry). 8 ≤ length e.item) xs (one ∷ ys) all)
      (feet.all_right (λ (e : Entry). 8 ≤ length e.item) xs (one ∷ ys) all).1)

  -- it has eight bytes at least
  pub whole_at : AllByRecursion (λ e. 8 ≤ length e.item) (entries_of (front ++ (page, items) ∷ back)) → 8 ≤ length item
  whole_at whole =
      let W : List Entry → Type 0 = λ l. AllByRecursion (λ (e : Entry). 8 ≤ length e.item) l in
      (feet.all_right (λ (e : Entry). 8 ≤ length e.item) xs (one ∷ ys) (subst W was_entries whole)).0

-- several slots are emptied
pub record Emptied (front : List Link) (page : ℕ) (back : List Link) (gone : List RowRef) (old new : List (Option (List ℕ))) : Type 0 where
  pub rows : rows_of (front ++ (page, new) ∷ back) ≡ without gone (rows_of (front ++ (page, old) ∷ back))
  pub rising : IsRising (refs (rows_of (front ++ (page, new) ∷ back)))
  pub whole : AllByRecursion (λ e. 8 ≤ length e.item) (entries_of (front ++ (page, new) ∷ back))

pub emptied : (front : List Link) (page : ℕ) (back : List Link) (gone : List RowRef) (old new : List (Option (List ℕ))) → Empties page gone old new
    → IsRising (refs (rows_of (front ++ (page, old) ∷ back))) → AllByRecursion (λ e. 8 ≤ length e.item) (entries_of (front ++ (page, old) ∷ back)) → Emptied front page back gone old new
emptied front page back [] old new same rising whole = record {
  rows = ap (λ (l : List (Option (List ℕ))). rows_of (front ++ (page, l) ∷ back)) same;
  rising = subst (λ (l : List (Option (List ℕ))). IsRising (refs (rows_of (front ++ (page, l) ∷ back)))) (sym same) rising;
  whole = subst (λ (l : List (Option (List ℕ))). AllByRecursion (λ (e : Entry). 8 ≤ length e.item) (entries_of (front ++ (page, l) ∷ back))) (sym same) whole;
}
emptied front page back (at ∷ gone) old new empties rising whole =
    let item = empties.1.0 in
    let one : rows_of (front ++ (page, slice_set old at.slot None) ∷ back) ≡ filter (other_than at.number) (rows_of (front ++ (page, old) ∷ back)) =
    emptied_rows front page at.slot back old item empties.1.1 rising
    ∙ ap (λ (n : ℕ). filter (other_than n) (rows_of (front ++ (page, old) ∷ back))) empties.1.2 in
    let rest = emptied front page back gone (slice_set old at.slot None) new empties.2
    (subst (λ (l : List Row). IsRising (refs l)) (sym one) (rising_filter (other_than at.number) (rows_of (front ++ (page, old) ∷ back)) rising))
    (emptied_whole front page at.slot back old item empties.1.1 whole) in
    record { rows = rest.rows ∙ ap (λ (l : List Row). without gone l) one; rising = rest.rising; whole = rest.whole }

pub empties_more : (page : ℕ) (run : List RowRef) (at : RowRef) (old mid new : List (Option (List ℕ))) → Empties page run old mid → at.page ≡ page
    → (item : List ℕ) × (item_at mid at.slot ≡ Some item) × (of64 (take 8 item) ≡ at.number) → new ≡ slice_set mid at.slot None → Empties page (run ++ at ∷ []) old new
empties_more page [] at old mid new same here item is =
    (here, subst (λ (l : List (Option (List ℕ))). (i : List ℕ) × (item_at l at.slot ≡ Some i) × (of64 (take 8 i) ≡ at.number)) same item, is ∙ ap (λ (l : List (Option (List ℕ))). slice_set l at.slot None) same)
empties_more page (first ∷ run) at old mid new empties here item is =
    (empties.0, empties.1, empties_more page run at (slice_set old first.slot None) mid new empties.2 here item is)

-- where a row stands
pub record Place (links : List Link) (row : Row) : Type 0 where
  pub front : List Link
  pub items : List (Option (List ℕ))
  pub back : List Link
  pub item : List ℕ
  pub cut : links ≡ front ++ (row.0.page, items) ∷ back
  pub there : item_at items row.0.slot ≡ Some item
  pub number : of64 (take 8 item) ≡ row.0.number
  pub bytes : drop 8 item ≡ row.1

record Slot (page from : ℕ) (items : List (Option (List ℕ))) (row : Row) : Type 0 where
  pub slot : ℕ
  pub item : List ℕ
  pub there : item_at items slot ≡ Some item
  pub at : row.0.slot ≡ from + slot
  pub on : page ≡ row.0.page
  pub number : of64 (take 8 item) ≡ row.0.number
  pub bytes : drop 8 item ≡ row.1

in_page : (page from : ℕ) (items : List (Option (List ℕ))) (row : Row) → IsIn row (map row_of (entries_at page from items)) → Slot page from items row
in_page page from [] row is = absurd is
in_page page from (None ∷ items) row is =
    let rest = in_page page (from + 1) items row is in
    record { slot = suc rest.slot; item = rest.item; there = rest.there; at = (let at = rest.at in omega (arith, at)); on = rest.on; number = rest.number; bytes = rest.bytes }
in_page page from (Some item ∷ items) row is =
    ⊎_elim
    (λ same. record {
      slot = zero;
      item = item;
      there = refl;
      at = (let at : from ≡ row.0.slot = ap (λ (r : Row). r.0.slot) same in omega (arith, at));
      on = ap (λ (r : Row). r.0.page) same;
      number = ap (λ (r : Row). r.0.number) same;
      bytes = ap (λ (r : Row). r.1) same;
    })
    (λ rest.
    let found = in_page page (from + 1) items row rest in
    record { slot = suc found.slot; item = found.item; there = found.there; at = (let at = found.at in omega (arith, at)); on = found.on; number = found.number; bytes = found.bytes })
    is

pub place : (links : List Link) (row : Row) → IsIn row (rows_of links) → Place links row
place [] row is = absurd is
place (link ∷ links) row is =
    ⊎_elim
    (λ here.
    let found = in_page link.0 0 link.1 row here in
    let first : link ≡ (row.0.page, link.1) = λ i. (found.on i, link.1) in
    let slot : found.slot ≡ row.0.slot = (let at = found.at in omega (arith, at)) in
    record {
      front = [];
      items = link.1;
      back = links;
      item = found.item;
      cut = ap (λ (l : Link). l ∷ links) first;
      there = ap (λ (n : ℕ). item_at link.1 n) (sym slot) ∙ found.there;
      number = found.number;
      bytes = found.bytes;
    })
    (λ there.
    let rest = place links row there in
    record {
      front = link ∷ rest.front;
      items = rest.items;
      back = rest.back;
      item = rest.item;
      cut = ap (λ (l : List Link). link ∷ l) rest.cut;
      there = rest.there;
      number = rest.number;
      bytes = rest.bytes;
    })
    (in_left row (map row_of (entries_at link.0 0 link.1)) (rows_of links)
    (subst (λ (l : List Row). IsIn row l) (map-append row_of (entries_at link.0 0 link.1) (entries_of links)) is))

-- one page stands at one place
pub one_place : (front others : List Link) (page : ℕ) (items more : List (Option (List ℕ))) (back rest : List Link) → IsApart (pages_of (front ++ (page, items) ∷ back))
    → front ++ (page, items) ∷ back ≡ others ++ (page, more) ∷ rest → items ≡ more
one_place [] [] page items more back rest apart same = let first : (page, items) ≡ (page, more) = (cc) in ap (λ (l : Link). l.1) first
one_place [] (other ∷ others) page items more back rest apart same =
    let first : (page, items) ≡ other = (cc) in
    let tails : back ≡ others ++ (page, more) ∷ rest = (cc) in
    absurd (never apart.0 tails)
  where
    never : IsOutside page (pages_of back) → back ≡ others ++ (page, more) ∷ rest → ⊥
    never out tails =
        (feet.all_right (λ (n : ℕ). page ≢ n) (pages_of others) (page ∷ pages_of rest)
        (subst (λ (l : List ℕ). IsOutside page l) (ap (λ (l : List Link). pages_of l) tails ∙ pages_mid others (page, more) rest) out)).0 refl
one_place (link ∷ front) [] page items more back rest apart same =
    let first : link ≡ (page, more) = (cc) in
    absurd (
    (feet.all_right (λ (n : ℕ). link.0 ≢ n) (pages_of front) (page ∷ pages_of back)
    (subst (λ (l : List ℕ). IsOutside link.0 l) (pages_mid front (page, items) back) apart.0)).0 (ap (λ (l : Link). l.0) first))
one_place (link ∷ front) (other ∷ others) page items more back rest apart same =
    one_place front others page items more back rest apart.1 (cc)

-- the rows of one page
pub on_page : (page other from : ℕ) (items : List (Option (List ℕ))) → page ≡ other → AllByRecursion (λ row. (row.0.page == page) ≡ true) (map row_of (entries_at other from items))
on_page page other from [] same = tt
on_page page other from (None ∷ items) same = on_page page other (from + 1) items same
on_page page other from (Some item ∷ items) same =
    (⊎_elim (λ holds. holds.0) (λ fails. absurd (fails.1 (sym same))) (eqb_tells other page), on_page page other (from + 1) items same)

off_page : (page other from : ℕ) (items : List (Option (List ℕ))) → page ≢ other → AllByRecursion (λ row. (row.0.page == page) ≡ false) (map row_of (entries_at other from items))
off_page page other from [] differ = tt
off_page page other from (None ∷ items) differ = off_page page other (from + 1) items differ
off_page page other from (Some item ∷ items) differ =
    (⊎_elim (λ holds. absurd (differ (sym holds.1))) (λ fails. fails.0) (eqb_tells other page), off_page page other (from + 1) items differ)

rows_outside : (page : ℕ) (links : List Link) → IsOutside page (pages_of links) → rows_on page (rows_of links) ≡ []
rows_outside page [] out = refl
rows_outside page (link ∷ links) out =
    ap (λ (l : List Row). rows_on page l) (map-append row_of (entries_at link.0 0 link.1) (entries_of links))
    ∙ filter_join (λ (row : Row). row.0.page == page) (map row_of (entries_at link.0 0 link.1)) (rows_of links)
    ∙ ap (λ (l : List Row). l ++ rows_on page (rows_of links)) (filter_none (λ (row : Row). row.0.page == page) (map row_of (entries_at link.0 0 link.1)) (off_page page link.0 0 link.1 out.0))
    ∙ rows_outside page links out.1

pub rows_on_page : (front : List Link) (page : ℕ) (items : List (Option (List ℕ))) (back : List Link) → IsApart (pages_of (front ++ (page, items) ∷ back))
    → rows_on page (rows_of (front ++ (page, items) ∷ back)) ≡ map row_of (entries_at page 0 items)
rows_on_page front page items back apart =
    let mid : IsApart (pages_of front ++ page ∷ pages_of back) = subst (λ (l : List ℕ). IsApart l) (pages_mid front (page, items) back) apart in
    let test : Row → Bool = λ row. row.0.page == page in
    ap (λ (l : List Row). filter test l) (rows_mid front (page, items) back)
    ∙ filter_join test (rows_of front) (map row_of (entries_at page 0 items) ++ rows_of back)
    ∙ ap (λ (l : List Row). l ++ filter test (map row_of (entries_at page 0 items) ++ rows_of back)) (rows_outside page front (feet.apart_before (pages_of front) page (pages_of back) mid))
    ∙ filter_join test (map row_of (entries_at page 0 items)) (rows_of back)
    ∙ ap (λ (l : List Row). l ++ filter test (rows_of back)) (filter_all test (map row_of (entries_at page 0 items)) (on_page page page 0 items refl))
    ∙ ap (λ (l : List Row). map row_of (entries_at page 0 items) ++ l) (rows_outside page back (feet.apart_behind (pages_of front) page (pages_of back) mid))
    ∙ append-nil (map row_of (entries_at page 0 items))

-- page by page
pub rows_in_pages : (front left : List Link) → IsApart (pages_of (front ++ left)) → rows_in (pages_of left) (rows_of (front ++ left)) ≡ rows_of left
rows_in_pages front [] apart = refl
rows_in_pages front (link ∷ left) apart =
    let regroup : front ++ link ∷ left ≡ (front ++ link ∷ []) ++ left = sym (append_assoc front (link ∷ []) left) in
    ap (λ (l : List Row). l ++ rows_in (pages_of left) (rows_of (front ++ link ∷ left))) (rows_on_page front link.0 link.1 left apart)
    ∙ ap (λ (l : List Row). map row_of (entries_at link.0 0 link.1) ++ l)
    (ap (λ (l : List Link). rows_in (pages_of left) (rows_of l)) regroup
    ∙ rows_in_pages (front ++ link ∷ []) left (subst (λ (l : List Link). IsApart (pages_of l)) regroup apart))
    ∙ sym (map-append row_of (entries_at link.0 0 link.1) (entries_of left))

-- the item in a slot has eight bytes at least
pub whole_on : (page slot : ℕ) (items : List (Option (List ℕ))) (item : List ℕ) → item_at items slot ≡ Some item → AllByRecursion (λ e. 8 ≤ length e.item) (entries_at page 0 items) → 8 ≤ length item
whole_on page slot items item is whole =
    let here = cut items slot item is in
    let W : List Entry → Type 0 = λ l. AllByRecursion (λ (e : Entry). 8 ≤ length e.item) l in
    (feet.all_right (λ (e : Entry). 8 ≤ length e.item) (entries_at page 0 here.before) (record { page = page; slot = slot; item = item } ∷ entries_at page (slot + 1) here.behind)
    (subst W (entries_was page slot items item here) whole)).0

-- a slot with an item is an entry
pub filled_at : (page from : ℕ) (items : List (Option (List ℕ))) (slot : ℕ) (item : List ℕ) → item_at items slot ≡ Some item → entries_at page from items ≢ []
filled_at page from [] slot item is none = let never : None ≡ Some item = is in cc
filled_at page from (None ∷ items) zero item is none = let never : None ≡ Some item = is in cc
filled_at page from (None ∷ items) (suc slot) item is none = filled_at page (from + 1) items slot item is none
filled_at page from (Some other ∷ items) slot item is none = cc

-- the rows of a page, slot by slot
pub rows_some : (old now new : List Row) (page : ℕ) (items : List (Option (List ℕ))) (k : ℕ) (item : List ℕ) → k < length items → item_at items k ≡ Some item
    → now ≡ old ++ map row_of (entries_at page 0 (take k items)) → new ≡ now ++ row_of (record { page = page; slot = k; item = item }) ∷ []
    → new ≡ old ++ map row_of (entries_at page 0 (take (k + 1) items))
rows_some old now new page items k item below is before pushed =
    let e : Entry = record { page = page; slot = k; item = item } in
    let first : List Entry = entries_at page 0 (take k items) in
    let step : first ++ e ∷ [] ≡ entries_at page 0 (take (k + 1) items) = entries_some [] first (first ++ e ∷ []) page items k item below is refl refl in
    pushed ∙ ap (λ (l : List Row). l ++ row_of e ∷ []) before ∙ append_assoc old (map row_of first) (row_of e ∷ [])
    ∙ ap (λ (l : List Row). old ++ l) (sym (map-append row_of first (e ∷ [])) ∙ ap (λ (l : List Entry). map row_of l) step)

pub rows_none : (old now : List Row) (page : ℕ) (items : List (Option (List ℕ))) (k : ℕ) → k < length items → item_at items k ≡ None
    → now ≡ old ++ map row_of (entries_at page 0 (take k items)) → now ≡ old ++ map row_of (entries_at page 0 (take (k + 1) items))
rows_none old now page items k below is before =
    before ∙ ap (λ (l : List Entry). old ++ map row_of l) (entries_none [] (entries_at page 0 (take k items)) page items k below is refl)

-- a page of the footprint
pub record Split (links : List Link) (page : ℕ) (back : List ℕ) : Type 0 where
  pub before : List Link
  pub items : List (Option (List ℕ))
  pub behind : List Link
  pub cut : links ≡ before ++ (page, items) ∷ behind
  pub next : first_page back ≡ first_of behind

pub split_feet : (links : List Link) (front : List ℕ) (page : ℕ) (back : List ℕ) → front ++ page ∷ back ≡ pages_of links → Split links page back
split_feet [] [] page back same = absurd (let never = same in cc)
split_feet [] (x ∷ front) page back same = absurd (let never = same in cc)
split_feet (link ∷ links) [] page back same =
    let first : page ≡ link.0 = (cc) in
    let tails : back ≡ pages_of links = (cc) in
    let one : link ≡ (page, link.1) = λ i. (sym first i, link.1) in
    record { before = []; items = link.1; behind = links; cut = ap (λ (l : Link). l ∷ links) one; next = ap (λ (l : List ℕ). first_page l) tails ∙ firsts links }
  where
    firsts : (links : List Link) → first_page (pages_of links) ≡ first_of links
    firsts [] = refl
    firsts (link ∷ links) = refl
split_feet (link ∷ links) (x ∷ front) page back same =
    let rest = split_feet links front page back (cc) in
    record { before = link ∷ rest.before; items = rest.items; behind = rest.behind; cut = ap (λ (l : List Link). link ∷ l) rest.cut; next = rest.next }

-- each page but the last has a row
some_row : (page from : ℕ) (items : List (Option (List ℕ))) → entries_at page from items ≢ [] → (row : Row) × IsIn row (map row_of (entries_at page from items)) × (row.0.page ≡ page)
some_row page from [] some = absurd (some refl)
some_row page from (None ∷ items) some = some_row page (from + 1) items some
some_row page from (Some item ∷ items) some = (row_of (record { page = page; slot = from; item = item }), inl refl, refl)

right_in : (row : Row) (first more : List Row) → IsIn row more → IsIn row (first ++ more)
right_in row [] more is = is
right_in row (x ∷ first) more is = inr (right_in row first more is)

left_in : (row : Row) (first more : List Row) → IsIn row first → IsIn row (first ++ more)
left_in row [] more is = absurd is
left_in row (x ∷ first) more is = ⊎_elim (λ same. inl same) (λ rest. inr (left_in row first more rest)) is

pub used : (rows : List Row) (links : List Link) → AreFilled links → ((row : Row) → IsIn row (rows_of links) → IsIn row rows) → AreUsed (pages_of links) rows
used rows links filled all [] last cut = tt
used rows [] filled all (x ∷ front) last cut = absurd (let never = cut in cc)
used rows (link ∷ []) filled all (x ∷ front) last cut = absurd (let long = ap (λ (l : List ℕ). length l) cut in omega (arith, long, length-append front (last ∷ [])))
used rows (link ∷ next ∷ links) filled all (x ∷ front) last cut =
    let first : link.0 ≡ x = (cc) in
    let here = some_row link.0 0 link.1 filled.0 in
    let cut_rows : rows_of (link ∷ next ∷ links) ≡ map row_of (entries_at link.0 0 link.1) ++ rows_of (next ∷ links) = map-append row_of (entries_at link.0 0 link.1) (entries_of (next ∷ links)) in (
      (here.0.0, (here.0.1, all here.0 (subst (λ (l : List Row). IsIn here.0 l) (sym cut_rows) (left_in here.0 (map row_of (entries_at link.0 0 link.1)) (rows_of (next ∷ links)) here.1))), here.2 ∙ first),
      used rows (next ∷ links) filled.1 (λ row is. all row (subst (λ (l : List Row). IsIn row l) (sym cut_rows) (right_in row (map row_of (entries_at link.0 0 link.1)) (rows_of (next ∷ links)) is))) front last (cc),
    )

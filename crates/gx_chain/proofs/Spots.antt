-- The page and the slot of an item of a chain.
use Rattle.std.proofs.Common.{◌≡◌, ◌≢◌, ◌⊎◌, inl, inr, ⊎_elim, ℕ, ◌+◌, zero, suc, List, [], ◌∷◌, ◌++◌, Option, Some, None, slice_set, refl, sym, ◌∙◌, ap, append_assoc, arith}
use Rattle.gx_slot.specs.Slots.{item_at}
use Rattle.gx_chain.specs.declared.entry.Entry.{Entry}
use Rattle.gx_chain.specs.Chains.{Link, entries_at, entries_of}

-- the item stands on this page, and this comes of it where another one or none stands in its slot
record Here (page k : ℕ) (items : List (Option (List ℕ))) (rest front back : List Entry) (e : Entry) : Type 0 where
  pub place : ℕ
  pub page_is : e.page ≡ page
  pub slot_is : e.slot ≡ k + place
  pub is : item_at items place ≡ Some e.item
  pub gives : (x : Option (List ℕ)) → entries_at page k (slice_set items place x) ++ rest ≡ front ++ (entries_at page (k + place) (x ∷ []) ++ back)

-- it stands behind the page
record There (page k : ℕ) (items : List (Option (List ℕ))) (rest front back : List Entry) (e : Entry) : Type 0 where
  pub more : List Entry
  pub front_is : front ≡ entries_at page k items ++ more
  pub rest_is : rest ≡ more ++ e ∷ back

further : (k n : ℕ) → k + 1 + n ≡ k + suc n
further k n = omega arith

spot_in : (page k : ℕ) (items : List (Option (List ℕ))) (rest front back : List Entry) (e : Entry) → entries_at page k items ++ rest ≡ front ++ e ∷ back
    → Here page k items rest front back e ⊎ There page k items rest front back e
spot_in page k [] rest front back e same = inr (record { more = front; front_is = refl; rest_is = same })
spot_in page k (None ∷ items) rest front back e same =
    ⊎_elim
    (λ here. inl (record {
      place = suc here.place;
      page_is = here.page_is;
      slot_is = here.slot_is ∙ further k here.place;
      is = here.is;
      gives = λ x. here.gives x ∙ ap (λ (n : ℕ). front ++ (entries_at page n (x ∷ []) ++ back)) (further k here.place);
    }))
    (λ there. inr (record { more = there.more; front_is = there.front_is; rest_is = there.rest_is }))
    (spot_in page (k + 1) items rest front back e same)
spot_in page k (Some i ∷ items) rest [] back e same =
    let one : Entry = record { page = page; slot = k; item = i } in
    let head : one ≡ e = cc in
    let tail : entries_at page (k + 1) items ++ rest ≡ back = cc in
    let at : k ≡ k + 0 = omega arith in
    inl (record {
      place = 0;
      page_is = sym (ap (λ (f : Entry). f.page) head);
      slot_is = sym (ap (λ (f : Entry). f.slot) head) ∙ at;
      is = ap (λ (f : Entry). Some f.item) head;
      gives = λ x. first x tail ∙ ap (λ (n : ℕ). entries_at page n (x ∷ []) ++ back) at;
    })
  where
    first : (x : Option (List ℕ)) → entries_at page (k + 1) items ++ rest ≡ back → entries_at page k (x ∷ items) ++ rest ≡ entries_at page k (x ∷ []) ++ back
    first None tail = tail
    first (Some j) tail = ap (λ (l : List Entry). record { page = page; slot = k; item = j } ∷ l) tail
spot_in page k (Some i ∷ items) rest (f ∷ front) back e same =
    let one : Entry = record { page = page; slot = k; item = i } in
    let head : one ≡ f = cc in
    let tail : entries_at page (k + 1) items ++ rest ≡ front ++ e ∷ back = cc in
    ⊎_elim
    (λ here. inl (record {
      place = suc here.place;
      page_is = here.page_is;
      slot_is = here.slot_is ∙ further k here.place;
      is = here.is;
      gives = λ x. ap (λ (l : List Entry). one ∷ l) (here.gives x ∙ ap (λ (n : ℕ). front ++ (entries_at page n (x ∷ []) ++ back)) (further k here.place))
          ∙ ap (λ (g : Entry). g ∷ (front ++ (entries_at page (k + suc here.place) (x ∷ []) ++ back))) head;
    }))
    (λ there. inr (record {
      more = there.more;
      front_is = ap (λ (l : List Entry). f ∷ l) there.front_is ∙ ap (λ (g : Entry). g ∷ (entries_at page (k + 1) items ++ there.more)) (sym head);
      rest_is = there.rest_is;
    }))
    (spot_in page (k + 1) items rest front back e tail)

-- The page of an item among those of a chain, and what the items are where another one or none stands in its slot.
pub record Spot (links : List Link) (page slot : ℕ) (item : List ℕ) (front back : List Entry) : Type 0 where
  pub before : List Link
  pub items : List (Option (List ℕ))
  pub behind : List Link
  pub cut : links ≡ before ++ (page, items) ∷ behind
  pub is : item_at items slot ≡ Some item
  pub gives : (x : Option (List ℕ)) → entries_of (before ++ (page, slice_set items slot x) ∷ behind) ≡ front ++ (entries_at page slot (x ∷ []) ++ back)

none_there : (front back : List Entry) (e : Entry) → [] ≡ front ++ e ∷ back → ⊥
none_there [] back e same = cc
none_there (f ∷ front) back e same = cc

first_page : (link : Link) (links : List Link) (front back : List Entry) (page slot : ℕ) (item : List ℕ)
    → Here link.0 0 link.1 (entries_of links) front back (record { page = page; slot = slot; item = item }) → Spot (link ∷ links) page slot item front back
first_page link links front back page slot item here =
    let at : here.place ≡ slot = (let is = here.slot_is in omega (arith, is)) in
    let on : link.0 ≡ page = sym here.page_is in
    record {
      before = [];
      items = link.1;
      behind = links;
      cut = λ i. (on i, link.1) ∷ links;
      is = ap (λ (n : ℕ). item_at link.1 n) (sym at) ∙ here.is;
      gives = λ x.
          ap (λ (n : ℕ). entries_at n 0 (slice_set link.1 slot x) ++ entries_of links) (sym on)
          ∙ ap (λ (n : ℕ). entries_at link.0 0 (slice_set link.1 n x) ++ entries_of links) (sym at)
          ∙ here.gives x
          ∙ ap (λ (n : ℕ). front ++ (entries_at link.0 n (x ∷ []) ++ back)) (sym here.slot_is)
          ∙ ap (λ (n : ℕ). front ++ (entries_at n slot (x ∷ []) ++ back)) on;
    }

pub spot_of : (links : List Link) (front back : List Entry) (page slot : ℕ) (item : List ℕ) → entries_of links ≡ front ++ record { page = page; slot = slot; item = item } ∷ back
    → Spot links page slot item front back
spot_of [] front back page slot item same = absurd (none_there front back (record { page = page; slot = slot; item = item }) same)
spot_of (link ∷ links) front back page slot item same =
    ⊎_elim
    (λ here. first_page link links front back page slot item here)
    (λ there.
    let rest = spot_of links there.more back page slot item there.rest_is in
    record {
      before = link ∷ rest.before;
      items = rest.items;
      behind = rest.behind;
      cut = ap (λ (l : List Link). link ∷ l) rest.cut;
      is = rest.is;
      gives = λ x.
          ap (λ (l : List Entry). entries_at link.0 0 link.1 ++ l) (rest.gives x)
          ∙ sym (append_assoc (entries_at link.0 0 link.1) there.more (entries_at page slot (x ∷ []) ++ back))
          ∙ ap (λ (l : List Entry). l ++ (entries_at page slot (x ∷ []) ++ back)) (sym there.front_is);
    })
    (spot_in link.0 0 link.1 (entries_of links) front back (record { page = page; slot = slot; item = item }) same)

-- a slot with an item is an entry
pub filled_at : (page from : ℕ) (items : List (Option (List ℕ))) (slot : ℕ) (item : List ℕ) → item_at items slot ≡ Some item → entries_at page from items ≢ []
filled_at page from [] slot item is none = let never : None ≡ Some item = is in cc
filled_at page from (None ∷ items) zero item is none = let never : None ≡ Some item = is in cc
filled_at page from (None ∷ items) (suc slot) item is none = filled_at page (from + 1) items slot item is none
filled_at page from (Some other ∷ items) slot item is none = cc

-- The items of a chain in order, where pages are cut.
use Rattle.std.proofs.Common.{◌≡◌, ℕ, ◌+◌, ◌<◌, zero, suc, List, [], ◌∷◌, ◌++◌, length, take, Option, Some, None, refl, sym, ◌∙◌, ap, subst, append_assoc, append-nil, add-one, arith}
use Rattle.std.proofs.lemmas.Grind.{flat_map-append}
use Rattle.gx_slot.specs.Slots.{item_at}
use Rattle.gx_chain.specs.declared.entry.Entry.{Entry}
use Rattle.gx_chain.specs.Chains.{Link, entries_at, entries_of}

pub take_item : (items : List (Option (List ℕ))) (k : ℕ) → k < length items → take (k + 1) items ≡ take k items ++ item_at items k ∷ []
take_item [] k below = absurd (omega arith)
take_item (item ∷ items) zero below = refl
take_item (item ∷ items) (suc k) below =
    let rest : take (suc k) items ≡ take k items ++ item_at items k ∷ [] =
    subst (λ (n : ℕ). take n items ≡ take k items ++ item_at items k ∷ []) (add-one k) (take_item items k (omega arith)) in
    ap (λ (n : ℕ). take n (item ∷ items)) (add-one (suc k)) ∙ ap (λ (l : List (Option (List ℕ))). item ∷ l) rest

pub entries_more : (page slot n : ℕ) (items more : List (Option (List ℕ))) → n ≡ slot + length items → entries_at page slot (items ++ more) ≡ entries_at page slot items ++ entries_at page n more
entries_more page slot n [] more at = let same : n ≡ slot = omega (arith, at) in rw same refl
entries_more page slot n (None ∷ items) more at = entries_more page (slot + 1) n items more (omega (arith, at))
entries_more page slot n (Some item ∷ items) more at =
    ap (λ (l : List Entry). record { page = page; slot = slot; item = item } ∷ l) (entries_more page (slot + 1) n items more (omega (arith, at)))

take_length : (items : List (Option (List ℕ))) (k : ℕ) → k < length items → length (take k items) ≡ k
take_length [] k below = absurd (omega arith)
take_length (item ∷ items) zero below = refl
take_length (item ∷ items) (suc k) below = let rest = take_length items k (omega arith) in omega (arith, rest)

entries_step : (page : ℕ) (items : List (Option (List ℕ))) (k : ℕ) → k < length items → entries_at page 0 (take (k + 1) items) ≡ entries_at page 0 (take k items) ++ entries_at page k (item_at items k ∷ [])
entries_step page items k below =
    ap (λ (l : List (Option (List ℕ))). entries_at page 0 l) (take_item items k below)
    ∙ entries_more page 0 k (take k items) (item_at items k ∷ []) (let len = take_length items k below in omega (arith, len))

pub entries_some : (old now new : List Entry) (page : ℕ) (items : List (Option (List ℕ))) (k : ℕ) (item : List ℕ) → k < length items → item_at items k ≡ Some item
    → now ≡ old ++ entries_at page 0 (take k items) → new ≡ now ++ record { page = page; slot = k; item = item } ∷ [] → new ≡ old ++ entries_at page 0 (take (k + 1) items)
entries_some old now new page items k item below is before pushed =
    pushed ∙ ap (λ (l : List Entry). l ++ record { page = page; slot = k; item = item } ∷ []) before
    ∙ append_assoc old (entries_at page 0 (take k items)) (record { page = page; slot = k; item = item } ∷ [])
    ∙ ap (λ (l : List Entry). old ++ l)
    (sym (entries_step page items k below ∙ ap (λ (i : Option (List ℕ)). entries_at page 0 (take k items) ++ entries_at page k (i ∷ [])) is))

pub entries_none : (old now : List Entry) (page : ℕ) (items : List (Option (List ℕ))) (k : ℕ) → k < length items → item_at items k ≡ None
    → now ≡ old ++ entries_at page 0 (take k items) → now ≡ old ++ entries_at page 0 (take (k + 1) items)
entries_none old now page items k below is before =
    before ∙ ap (λ (l : List Entry). old ++ l)
    (sym (entries_step page items k below ∙ ap (λ (i : Option (List ℕ)). entries_at page 0 (take k items) ++ entries_at page k (i ∷ [])) is ∙ append-nil (entries_at page 0 (take k items))))

pub entries_append : (links more : List Link) → entries_of (links ++ more) ≡ entries_of links ++ entries_of more
entries_append links more = flat_map-append (λ (l : Link). entries_at l.0 0 l.1) links more

pub entries_end : (front : List Link) (page : ℕ) (items : List (Option (List ℕ))) → entries_of (front ++ (page, items) ∷ []) ≡ entries_of front ++ entries_at page 0 items
entries_end front page items = entries_append front ((page, items) ∷ []) ∙ ap (λ (l : List Entry). entries_of front ++ l) (append-nil (entries_at page 0 items))

-- an item was added on the last page
pub entries_here : (front : List Link) (page slot : ℕ) (items : List (Option (List ℕ))) (item : List ℕ) → slot ≡ length items
    → entries_of (front ++ (page, items ++ Some item ∷ []) ∷ []) ≡ entries_of (front ++ (page, items) ∷ []) ++ record { page = page; slot = slot; item = item } ∷ []
entries_here front page slot items item at =
    entries_end front page (items ++ Some item ∷ []) ∙ ap (λ (l : List Entry). entries_of front ++ l) (entries_more page 0 slot items (Some item ∷ []) (omega (arith, at)))
    ∙ sym (append_assoc (entries_of front) (entries_at page 0 items) (record { page = page; slot = slot; item = item } ∷ []))
    ∙ ap (λ (l : List Entry). l ++ record { page = page; slot = slot; item = item } ∷ []) (sym (entries_end front page items))

-- An item is added on the last page.
use Rattle.std.proofs.Common.{◌≡◌, inl, ℕ, List, [], ◌∷◌, ◌++◌, length, Option, Some, refl, sym, ◌∙◌, ap, subst, length-append, arith}
use Rattle.gx_pages.specs.declared.store.Pages.{Ghosts}
use Rattle.gx_pages.specs.Footprints.{KeepsPages}
use Rattle.gx_slot.specs.Slots.{Slots, Fits, spelling, with_item}
use Rattle.gx_chain.specs.declared.chain.Chain.{Chain}
use Rattle.gx_chain.specs.Chains.{Link, IsLink, HoldsBeside, HasRoom, Adds, entries_of, first_of, pages_of, slots}
use Rattle.gx_chain.proofs.Entries.{entries_here}
use Rattle.gx_chain.proofs.Links.{ends_of, linked_last, same_slots, taken_push}

-- what an added item makes of a chain
abbrev pub Added : {P : Type 0} → Ghosts P → P → P → ℕ → Chain → Chain → ℕ → ℕ → List ℕ → List Link → List ℕ → Type 0
Added g old new kind chain longer page slot item links free =
    (later : List Link) × (rest : List ℕ) × HoldsBeside g new kind longer later rest × Adds links later page slot item
    × (entries_of later ≡ entries_of links ++ record { page = page; slot = slot; item = item } ∷ [])
    × KeepsPages g old new (pages_of links) free (pages_of later) rest × (chain.pages ≡ length links → longer.pages ≡ length later)

module _ {P : Type 0} (g : Ghosts P) (old new : P) (kind : ℕ) (chain : Chain) (free : List ℕ) (item : List ℕ) (slot : ℕ) (found added : Slots)
    (one : (s : Slots) → g.map old chain.last ≡ Some (spelling s) → Fits s → found ≡ s)
    (is : added ≡ with_item found (Some item)) (fits : Fits added) (place : slot ≡ length found.items)
    (puts : (front back : List Link) (items : List (Option (List ℕ))) (free : List ℕ) → HoldsBeside g old added.kind chain (front ++ (chain.last, items) ∷ back) free
    → added ≡ slots added.kind (first_of back) added.items
    → HoldsBeside g new added.kind chain (front ++ (chain.last, added.items) ∷ back) free
    × KeepsPages g old new (pages_of (front ++ (chain.last, items) ∷ back)) free (pages_of (front ++ (chain.last, added.items) ∷ back)) free) where
  module _ (front : List Link) (items : List (Option (List ℕ))) (held : HoldsBeside g old kind chain (front ++ (chain.last, items) ∷ []) free) where
    link : IsLink (g.map old) kind 0 (chain.last, items)
    link = linked_last (g.map old) kind front (chain.last, items) held.held.linked

    is_slots : found ≡ slots kind 0 items
    is_slots = one (slots kind 0 items) link.is link.fits

    is_added : added ≡ slots kind 0 (items ++ Some item ∷ [])
    is_added = same_slots found (slots kind 0 items) (Some item) added is_slots is

    kinds : added.kind ≡ kind
    kinds = ap (λ (s : Slots). s.kind) is_added

    more : added.items ≡ items ++ Some item ∷ []
    more = ap (λ (s : Slots). s.items) is_added

    at : slot ≡ length items
    at = place ∙ ap (λ (s : Slots). length s.items) is_slots

    room : HasRoom items item
    room = let fit = (subst (λ (s : Slots). Fits s) is_added fits).room in omega (arith, fit, taken_push items item)

    here : Added g old new kind chain chain chain.last slot item (front ++ (chain.last, items) ∷ []) free
    here =
        let held_then = puts front [] items free (subst (λ (k : ℕ). HoldsBeside g old k chain (front ++ (chain.last, items) ∷ []) free) (sym kinds) held)
        (is_added ∙ λ i. slots (sym kinds i) 0 (sym more i)) in (
          front ++ (chain.last, items ++ Some item ∷ []) ∷ [],
          free,
          subst (λ (k : ℕ). HoldsBeside g new k chain (front ++ (chain.last, items ++ Some item ∷ []) ∷ []) free) kinds
              (subst (λ (l : List (Option (List ℕ))). HoldsBeside g new added.kind chain (front ++ (chain.last, l) ∷ []) free) more held_then.0),
          record { front = front; last = (chain.last, items); was = refl; is = inl (room, refl, at, refl) },
          entries_here front chain.last slot items item at,
          subst (λ (l : List (Option (List ℕ))). KeepsPages g old new (pages_of (front ++ (chain.last, items) ∷ [])) free (pages_of (front ++ (chain.last, l) ∷ [])) free) more held_then.1,
          λ all. omega (arith, all, length-append front ((chain.last, items) ∷ []), length-append front ((chain.last, items ++ Some item ∷ []) ∷ [])),
        )

  pub added_here : (links : List Link) → HoldsBeside g old kind chain links free → Added g old new kind chain chain chain.last slot item links free
  added_here links held =
      let ends = ends_of (g.map old) (g.count old) kind chain links held.held in
      subst (λ (l : List Link). Added g old new kind chain chain chain.last slot item l free) (sym ends.ends)
      (here ends.front ends.items (subst (λ (l : List Link). HoldsBeside g old kind chain l free) ends.ends held))

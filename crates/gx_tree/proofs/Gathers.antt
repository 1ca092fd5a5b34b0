-- Items of a page that are gathered slot by slot.
use Rattle.std.proofs.Common.{◌≡◌, ◌≢◌, ℕ, zero, suc, ◌+◌, ◌<◌, ◌≤◌, List, [], ◌∷◌, ◌++◌, length, map, take, drop, slice_get, Option, Some, None, refl, sym, ◌∙◌, ap, subst, append_assoc, append-nil, length-append, arith}
use Rattle.std.proofs.lemmas.List.{drop-append-le, drop_all, length-map, length-take-le, take_all}
use Rattle.gx_slot.specs.Slots.{item_at}
use Rattle.gx_tree.specs.Paging.{listed, replaced}
use Rattle.gx_tree.proofs.Weights.{below_at, more_at}

pub item_slice : (items : List (List ℕ)) (slot : ℕ) → item_at (map (λ item. Some item) items) slot ≡ slice_get items slot
item_slice [] zero = refl
item_slice [] (suc slot) = refl
item_slice (x ∷ items) zero = refl
item_slice (x ∷ items) (suc slot) = item_slice items slot

pub slot_item : (its : List (Option (List ℕ))) (items : List (List ℕ)) (slot : ℕ) (item : Option (List ℕ)) → its ≡ map (λ item. Some item) items → item ≡ item_at its slot → slice_get items slot ≡ item
slot_item its items slot item are is = sym (item_slice items slot) ∙ ap (λ (l : List (Option (List ℕ))). item_at l slot) (sym are) ∙ sym is

pub no_slot : (items : List (List ℕ)) (slot : ℕ) → slot < length items → slice_get items slot ≡ None → ⊥
no_slot [] slot below none = omega (arith, below)
no_slot (x ∷ items) zero below none = let e : Some x ≡ None = none in cc
no_slot (x ∷ items) (suc slot) below none = no_slot items slot (omega (arith, below)) none

-- the items from one slot on so far
pub slots_none : (old : List (List ℕ)) (items : List (List ℕ)) (from : ℕ) → from ≤ length items → old ≡ old ++ drop from (take from items)
slots_none old items from below =
    sym (append-nil old) ∙ ap (λ (l : List (List ℕ)). old ++ l) (sym (drop_all from (take from items) (omega (arith, length-take-le from items below))))

pub slots_more : (old to items : List (List ℕ)) (from slot : ℕ) (item : List ℕ) → from ≤ slot → slice_get items slot ≡ Some item → to ≡ old ++ drop from (take slot items)
    → to ++ item ∷ [] ≡ old ++ drop from (take (slot + 1) items)
slots_more old to items from slot item low at so_far =
    let below = below_at items slot item at in
    let size : length (take slot items) ≡ slot = length-take-le slot items (omega (arith, below)) in
    ap (λ (l : List (List ℕ)). l ++ item ∷ []) so_far ∙ append_assoc old (drop from (take slot items)) (item ∷ [])
    ∙ ap (λ (l : List (List ℕ)). old ++ l)
    (sym (drop-append-le from (take slot items) (item ∷ []) (omega (arith, low, size))) ∙ ap (λ (l : List (List ℕ)). drop from l) (sym (more_at items slot item at)))

pub count_of : (its : List (Option (List ℕ))) (items : List (List ℕ)) (count : ℕ) → its ≡ map (λ item. Some item) items → count ≡ length its → count ≡ length items
count_of its items count are is = is ∙ ap (λ (l : List (Option (List ℕ))). length l) are ∙ length-map items (λ (item : List ℕ). Some item)

pub gathered : (items a b c made : List (List ℕ)) (place behind count : ℕ) (one : List ℕ) (other : Option (List ℕ)) → behind ≤ length items → count ≡ length items → a ≡ [] ++ drop 0 (take place items) → b ≡ a ++ one ∷ [] → c ≡ b ++ listed other
    → made ≡ c ++ drop behind (take count items) → made ≡ replaced items place behind (one ∷ listed other)
gathered items a b c made place behind count one other low many first second third last =
    let all : take count items ≡ items = take_all count items (omega (arith, many)) in
    last
    ∙ ap (λ (l : List (List ℕ)). c ++ drop behind l) all
    ∙ ap (λ (l : List (List ℕ)). l ++ drop behind items) (third ∙ ap (λ (l : List (List ℕ)). l ++ listed other) (second ∙ ap (λ (l : List (List ℕ)). l ++ one ∷ []) first)
    ∙ append_assoc (take place items) (one ∷ []) (listed other))

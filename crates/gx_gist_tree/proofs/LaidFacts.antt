-- Items that are laid out anew, at equal slots and items.
use Rattle.std.proofs.Common.{◌≡◌, ◌⊎◌, ℕ, ◌≤◌, List, [], ◌∷◌, ◌++◌, length, Result, Ok, Err, is_ok, false, ◌∙◌, ap, subst, append_assoc, arith}
use Rattle.std.specs.Prelude.{OnErr}
use Rattle.gx_pages.specs.declared.error.PageError.{PageError}
use Rattle.gx_pages.specs.declared.error.PageError.TheVariants.{Broken, Memory}
use Rattle.gx_slot.specs.Slots.{Slots, taken}
use Rattle.gx_gist_tree.specs.declared.change.Arranged.{Arranged}
use Rattle.gx_gist_tree.specs.Insertion.{AreKeys, IsLaid, head_len, items_but, items_in}
use Rattle.gx_gist_tree.proofs.Picks.{somes}
use Rattle.gx_gist_tree.proofs.RoomFacts.{taken_push}

pub err_kept : {T E : Type 0} (r : Result T E) (Q : Type 0) → is_ok r ≡ false → OnErr r Q → Q
err_kept (Ok x) Q is h = cc
err_kept (Err x) Q is h = h

module _ {K : Type 0} (valid : K → Type 0) (union : K → K → K) (bytes : K → List ℕ) where
  pub laid_at : (level : ℕ) (xs ys : List (List ℕ)) (new : Slots) (now : Arranged K) → xs ≡ ys → IsLaid valid union bytes level xs new now → IsLaid valid union bytes level ys new now
  laid_at level xs ys new now same laid = subst (λ (l : List (List ℕ)). IsLaid valid union bytes level l new now) same laid

  -- all items of slots and one more
  pub laid_with : (a b : Slots) (x y : List ℕ) (new : Slots) (now : Arranged K) → a ≡ b → x ≡ y → IsLaid valid union bytes a.level (items_in a.items ++ x ∷ []) new now
      → IsLaid valid union bytes b.level (items_in b.items ++ y ∷ []) new now
  laid_with a b x y new now same_slots same_item laid =
      subst (λ (s : Slots). IsLaid valid union bytes s.level (items_in s.items ++ y ∷ []) new now) same_slots
      (subst (λ (i : List ℕ). IsLaid valid union bytes a.level (items_in a.items ++ i ∷ []) new now) same_item laid)

  pub cause_with : (a b : Slots) (x y : List ℕ) (e : PageError) (page : ℕ) → a ≡ b → x ≡ y
      → (e ≡ Memory) ⊎ ((e ≡ Broken page 1 0) × ((keys : List K) → AreKeys valid bytes (head_len a.level) (items_in a.items ++ x ∷ []) keys → ⊥))
      → (e ≡ Memory) ⊎ ((e ≡ Broken page 1 0) × ((keys : List K) → AreKeys valid bytes (head_len b.level) (items_in b.items ++ y ∷ []) keys → ⊥))
  cause_with a b x y e page same_slots same_item cause =
      subst (λ (s : Slots). (e ≡ Memory) ⊎ ((e ≡ Broken page 1 0) × ((keys : List K) → AreKeys valid bytes (head_len s.level) (items_in s.items ++ y ∷ []) keys → ⊥))) same_slots
      (subst (λ (i : List ℕ). (e ≡ Memory) ⊎ ((e ≡ Broken page 1 0) × ((keys : List K) → AreKeys valid bytes (head_len a.level) (items_in a.items ++ i ∷ []) keys → ⊥))) same_item cause)

  -- all items but one, and one more
  pub laid_but : (slot : ℕ) (a b : Slots) (x y : List ℕ) (new : Slots) (now : Arranged K) → a ≡ b → x ≡ y → IsLaid valid union bytes a.level (items_but a.items slot ++ x ∷ []) new now
      → IsLaid valid union bytes b.level (items_but b.items slot ++ y ∷ []) new now
  laid_but slot a b x y new now same_slots same_item laid =
      subst (λ (s : Slots). IsLaid valid union bytes s.level (items_but s.items slot ++ y ∷ []) new now) same_slots
      (subst (λ (i : List ℕ). IsLaid valid union bytes a.level (items_but a.items slot ++ i ∷ []) new now) same_item laid)

  pub cause_but : (slot : ℕ) (a b : Slots) (x y : List ℕ) (e : PageError) (page : ℕ) → a ≡ b → x ≡ y
      → (e ≡ Memory) ⊎ ((e ≡ Broken page 1 0) × ((keys : List K) → AreKeys valid bytes (head_len a.level) (items_but a.items slot ++ x ∷ []) keys → ⊥))
      → (e ≡ Memory) ⊎ ((e ≡ Broken page 1 0) × ((keys : List K) → AreKeys valid bytes (head_len b.level) (items_but b.items slot ++ y ∷ []) keys → ⊥))
  cause_but slot a b x y e page same_slots same_item cause =
      subst (λ (s : Slots). (e ≡ Memory) ⊎ ((e ≡ Broken page 1 0) × ((keys : List K) → AreKeys valid bytes (head_len s.level) (items_but s.items slot ++ y ∷ []) keys → ⊥))) same_slots
      (subst (λ (i : List ℕ). (e ≡ Memory) ⊎ ((e ≡ Broken page 1 0) × ((keys : List K) → AreKeys valid bytes (head_len a.level) (items_but a.items slot ++ i ∷ []) keys → ⊥))) same_item cause)

-- room for one more item, and for two
pub room_one : (items now : List (List ℕ)) (item : List ℕ) → now ≡ items ++ item ∷ [] → taken (somes items) ≤ 8176 → length item ≤ 1918 → taken (somes now) ≤ 12000
room_one items now item is room small = let same = ap (λ (l : List (List ℕ)). taken (somes l)) is in omega (arith, same, taken_push items item, room, small)

pub room_two : (items more now : List (List ℕ)) (one other : List ℕ) → more ≡ items ++ one ∷ [] → now ≡ more ++ other ∷ [] → taken (somes items) ≤ 8176 → length one ≤ 1908 → length other ≤ 1908 → taken (somes now) ≤ 12000
room_two items more now one other first second room small_one small_other =
    let a = ap (λ (l : List (List ℕ)). taken (somes l)) first in
    let b = ap (λ (l : List (List ℕ)). taken (somes l)) second in
    omega (arith, a, b, taken_push items one, taken_push more other, room, small_one, small_other)

pub two_more : (base items more now : List (List ℕ)) (one other : List ℕ) → items ≡ base → more ≡ items ++ one ∷ [] → now ≡ more ++ other ∷ [] → now ≡ base ++ one ∷ other ∷ []
two_more base items more now one other is first second =
    second ∙ ap (λ (l : List (List ℕ)). l ++ other ∷ []) (first ∙ ap (λ (l : List (List ℕ)). l ++ one ∷ []) is) ∙ append_assoc base (one ∷ []) (other ∷ [])

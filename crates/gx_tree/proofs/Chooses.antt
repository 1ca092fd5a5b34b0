-- The slot that halving ends at.
use Rattle.std.proofs.Common.{◌≡◌, ◌≢◌, ◌⊎◌, inl, inr, ⊎_elim, ℕ, zero, suc, ◌+◌, ◌<◌, ◌≤◌, List, [], ◌∷◌, ◌++◌, length, map, take, drop, get_or, Bool, true, false, Option, Some, None, refl, sym, ◌∙◌, ap, subst, length-append, arith}
use Rattle.std.specs.Prelude.{MatchBool}
use Rattle.std.proofs.lemmas.List.{drop_all, length-take-le, take_at}
use Rattle.gx_bytes.specs.Fields.{le64, length-le64}
use Rattle.gx_slot.specs.Slots.{item_at}
use Rattle.gx_tree.specs.Changing.{AreLinks, Chosen, IsRange, Reaches}
use Rattle.gx_tree.specs.Orders.{AtMost, IsUnder, Order, next}
use Rattle.gx_tree.specs.Trees.{link}
use Rattle.gx_tree.proofs.Linked.{item_link}
use Rattle.gx_tree.proofs.Lists.{At, at_place}

under_drop : (order : Order) (own : List ℕ) (items : List (List ℕ × ℕ)) (i : ℕ) → ((d : List ℕ × ℕ) → order.Less own (get_or items i d).0) → IsUnder order (next None (drop i items)) own
under_drop order own [] zero less = tt
under_drop order own [] (suc i) less = tt
under_drop order own (x ∷ items) zero less = less x
under_drop order own (x ∷ items) (suc i) less = under_drop order own items i less

pub chosen : (order : Order) (own : List ℕ) (items : List (List ℕ × ℕ)) (slot end : ℕ) → end ≡ slot + 1 → slot < length items → (slot ≡ 0) ⊎ ((d : List ℕ × ℕ) → AtMost order (get_or items slot d).0 own)
    → (end ≡ length items) ⊎ ((d : List ℕ × ℕ) → order.Less own (get_or items end d).0) → Chosen order own items slot
chosen order own items slot end next_slot below low high =
    let place = at_place items slot below in
    record {
      front = take slot items;
      item = place.item;
      back = drop (slot + 1) items;
      cut = place.cut;
      place = sym (length-take-le slot items (omega (arith, below)));
      reaches = ⊎_elim
          (λ none. inl (ap (λ (n : ℕ). take n items) none))
          (λ most. inr (subst (λ (x : List ℕ × ℕ). AtMost order x.0 own) (place.is ([], 0)) (most ([], 0))))
          low;
      before = ⊎_elim
          (λ ends. subst (λ (l : List (List ℕ × ℕ)). IsUnder order (next None l) own) (sym (drop_all (slot + 1) items (omega (arith, ends, next_slot)))) tt)
          (λ less. subst (λ (n : ℕ). IsUnder order (next None (drop n items)) own) next_slot (under_drop order own items end less))
          high;
    }

-- the item in a slot, where items name pages
pub key_item : (its : List (Option (List ℕ))) (items : List (List ℕ × ℕ)) (slot : ℕ) (d : List ℕ × ℕ) → its ≡ map link items → slot < length items → item_at its slot ≡ Some ((get_or items slot d).0 ++ le64 (get_or items slot d).1)
key_item its items slot d are below = ap (λ (l : List (Option (List ℕ))). item_at l slot) are ∙ item_link items slot d below

pub no_key : (its : List (Option (List ℕ))) (items : List (List ℕ × ℕ)) (slot : ℕ) → its ≡ map link items → slot < length items → item_at its slot ≡ None → ⊥
no_key its items slot are below none = let e : None ≡ Some ((get_or items slot ([], 0)).0 ++ le64 (get_or items slot ([], 0)).1) = sym none ∙ key_item its items slot ([], 0) are below in cc

pub key_read : (its : List (Option (List ℕ))) (items : List (List ℕ × ℕ)) (slot : ℕ) (d : List ℕ × ℕ) (item : List ℕ) → its ≡ map link items → slot < length items → item_at its slot ≡ Some item
    → item ≡ (get_or items slot d).0 ++ le64 (get_or items slot d).1
key_read its items slot d item are below is = let e : Some item ≡ Some ((get_or items slot d).0 ++ le64 (get_or items slot d).1) = sym is ∙ key_item its items slot d are below in cc

pub key_long : (item key : List ℕ) (n : ℕ) → item ≡ key ++ le64 n → length item ≡ length key + 8
key_long item key n is = ap (λ (l : List ℕ). length l) is ∙ length-append key (le64 n) ∙ ap (λ (k : ℕ). length key + k) (length-le64 n)

pub key_front : (item key : List ℕ) (n end : ℕ) → item ≡ key ++ le64 n → end + 8 ≡ length item → take end item ≡ key
key_front item key n end is size = ap (λ (l : List ℕ). take end l) is ∙ take_at key (le64 n) end (let e = key_long item key n is in omega (arith, e, size))

pub reaches_at : (order : Order) (own : List ℕ) (items : List (List ℕ × ℕ)) (slot : ℕ) (key : List ℕ) (yes : Bool) → MatchBool yes (AtMost order key own) (order.Less own key) → ((d : List ℕ × ℕ) → key ≡ (get_or items slot d).0)
    → Reaches order own items slot yes
reaches_at order own items slot key true found is = λ d. subst (λ (k : List ℕ). AtMost order k own) (is d) found
reaches_at order own items slot key false found is = λ d. subst (λ (k : List ℕ). order.Less own k) (is d) found

pub link_key : (order : Order) (items : List (List ℕ × ℕ)) (slot : ℕ) (d : List ℕ × ℕ) → AreLinks order items → slot < length items → order.IsKey (get_or items slot d).0
link_key order [] slot d links below = absurd (omega (arith, below))
link_key order (x ∷ items) zero d links below = links.0.0
link_key order (x ∷ items) (suc slot) d links below = link_key order items slot d links.1 (omega (arith, below))

pub some_same : {X : Type 0} (x y : X) → Some x ≡ Some y → x ≡ y
some_same x y same = cc

pub range_low : (order : Order) (own : List ℕ) (items : List (List ℕ × ℕ)) (slot middle end : ℕ) → IsRange order own items slot end → Reaches order own items middle true → IsRange order own items middle end
range_low order own items slot middle end range reaches = record { low = inr reaches; high = range.high; within = range.within }

pub range_high : (order : Order) (own : List ℕ) (items : List (List ℕ × ℕ)) (slot middle end : ℕ) → IsRange order own items slot end → middle ≤ end → Reaches order own items middle false → IsRange order own items slot middle
range_high order own items slot middle end range few reaches = record { low = range.low; high = inr reaches; within = (let w = range.within in omega (arith, w, few)) }

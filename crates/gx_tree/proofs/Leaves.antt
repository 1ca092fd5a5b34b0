-- A page of level 0 whose items are written again.
use Rattle.std.proofs.Common.{◌≡◌, ◌≢◌, ℕ, zero, suc, ◌+◌, ◌-◌, ◌*◌, ◌<◌, ◌≤◌, List, [], ◌∷◌, ◌++◌, length, map, take, drop, slice_get, Option, Some, None, refl, sym, ◌∙◌, ap, subst, append_assoc, append-nil, length-append, arith}
use Rattle.std.specs.Prelude.{IfSome, MatchOption}
use Rattle.std.specs.List.{AllByRecursion}
use Rattle.std.proofs.lemmas.List.{drop-drop, take-append-drop}
use Rattle.gx_pages.specs.declared.store.Pages.{Ghosts}
use Rattle.gx_pages.specs.Footprints.{IsOutside}
use Rattle.gx_pages.proofs.Footprints as feet
use Rattle.gx_slot.specs.Slots.{Slots}
use Rattle.gx_tree.specs.declared.changing.Sibling.{Sibling}
use Rattle.gx_tree.specs.declared.writing.Right.{Right}
use Rattle.gx_tree.specs.Changing.{Begins, Ends}
use Rattle.gx_tree.specs.Orders.{IsFrom, IsLawful, IsUnder, Order}
use Rattle.gx_tree.specs.Paging.{CanSplit, Parted, replaced, weight}
use Rattle.gx_tree.specs.Trees.{Node, slots_of}
use Rattle.gx_tree.proofs.Leaf.{leaf_none, leaf_some}
use Rattle.gx_tree.proofs.Relinks.{Left}
use Rattle.gx_tree.proofs.Weights.{taken_weight, weight-append}

pub option_none : {X : Type 0} (o : Option X) (N : Type 0) (F : X → Type 0) → o ≡ None → MatchOption o N F → N
option_none {X} o N F is found = subst (λ (x : Option X). MatchOption x N F) is found

pub option_some : {X : Type 0} (o : Option X) (N : Type 0) (F : X → Type 0) (x : X) → o ≡ Some x → MatchOption o N F → F x
option_some {X} o N F x is found = subst (λ (y : Option X). MatchOption y N F) is found

weight_drop : (n : ℕ) (xs : List (List ℕ)) → weight (drop n xs) ≤ weight xs
weight_drop n xs = omega (arith, ap (λ (l : List (List ℕ)). weight l) (sym (take-append-drop n xs)) ∙ weight-append (take n xs) (drop n xs))

module _ {P : Type 0} (g : Ghosts P) (order : Order) (law : IsLawful order) (own : List ℕ) (allows : List ℕ → Type 0) (edits : List (List ℕ) → List (List ℕ) → Type 0) (kind page : ℕ) (least end : Option (List ℕ))
    (old : P) (node : Node 0) (free : List ℕ) (begins : Begins g old order own allows kind 0 page least end node free) where
  pub leaf_allowed : AllByRecursion allows node.1
  leaf_allowed = subst (λ (l : List (List ℕ)). AllByRecursion allows l) (append-nil node.1) begins.allowed

  pub leaf_outside : IsOutside page free
  leaf_outside = subst (λ (n : ℕ). IsOutside n free) begins.begins begins.apart.0

  pub leaf_below : page < g.count old
  leaf_below = subst (λ (n : ℕ). n < g.count old) begins.begins begins.below.0

  pub leaf_split : (place behind : ℕ) (item : List ℕ) → place ≤ behind → order.AreIn least end (replaced node.1 place behind (item ∷ [])) → CanSplit 1 (replaced node.1 place behind (item ∷ []))
  leaf_split place behind item low are =
      let each : AllByRecursion (λ (i : List ℕ). 4 + length i ≤ 2420) (replaced node.1 place behind (item ∷ [])) =
      feet.all_weaker (λ (i : List ℕ). length i ≤ 2416) (λ (i : List ℕ). 4 + length i ≤ 2420) (replaced node.1 place behind (item ∷ [])) (λ i few. omega (arith, few)) (law.small least end (replaced node.1 place behind (item ∷ [])) are) in
      let here : 4 + length item ≤ 2420 =
      (feet.all_right (λ (i : List ℕ). 4 + length i ≤ 2420) (take place node.1) (item ∷ []) (feet.all_left (λ (i : List ℕ). 4 + length i ≤ 2420) (take place node.1 ++ item ∷ []) (drop behind node.1) each)).0 in
      let room = begins.stand.0.fits.room in
      let was = taken_weight node.1 in
      let cut = ap (λ (l : List (List ℕ)). weight l) (sym (take-append-drop place node.1)) ∙ weight-append (take place node.1) (drop place node.1) in
      let past : drop (behind - place) (drop place node.1) ≡ drop behind node.1 = drop-drop (behind - place) place node.1 ∙ ap (λ (n : ℕ). drop n node.1) (let e : place + (behind - place) ≡ behind = omega (arith, low) in e) in
      let tail = weight_drop (behind - place) (drop place node.1) in
      let same = ap (λ (l : List (List ℕ)). weight l) past in
      let whole = weight-append (take place node.1 ++ item ∷ []) (drop behind node.1) in
      let front = weight-append (take place node.1) (item ∷ []) in
      record { bound = 2420; extra = 2420; each = each; room = omega (arith, here, room, was, cut, tail, same, whole, front); narrow = omega arith; many = omega arith }

  module _ (new : P) (items made : List (List ℕ)) (are : order.AreIn least end items) (done : edits node.1 items) (made_is : made ≡ items) (right : Option Right) (left : Left g old new kind 0 1 page made free right) where
    Here : Option Right → Type 0
    Here o = Left g old new kind 0 1 page items free o

    here : Left g old new kind 0 1 page items free right
    here = subst (λ (l : List (List ℕ)). Left g old new kind 0 1 page l free right) made_is left

    pub leaves_none : right ≡ None → Ends g old new order edits kind 0 page least end node free None
    leaves_none is =
        let parts = subst (λ (o : Option Right). Left g old new kind 0 1 page items free o) is here in
        leaf_none g order law own allows edits kind page least end old new node free begins items are done parts.0 parts.1

    pub leaves_some : (r : Right) (s : Sibling) → right ≡ Some r → s.page ≡ r.page
        → ((least end : Option (List ℕ)) → order.AreIn least end made → (item : List ℕ) × (slice_get made r.place ≡ Some item) × order.IsLeast item s.key) → Ends g old new order edits kind 0 page least end node free (Some s)
    leaves_some r s is same keyed =
        let parts = subst (λ (o : Option Right). Left g old new kind 0 1 page items free o) is here in
        let key = keyed least end (subst (λ (l : List (List ℕ)). order.AreIn least end l) (sym made_is) are) in
        let at : slice_get items (length parts.1.left) ≡ Some key.0 = ap (λ (l : List (List ℕ)). slice_get l (length parts.1.left)) (sym made_is) ∙ ap (λ (n : ℕ). slice_get made n) (sym parts.2) ∙ key.1 in
        leaf_some g order law own allows edits kind page least end old new node free begins items are done s r.page same parts.0 parts.1 key.0 at key.2

    pub leaves_below : (r : Right) → right ≡ Some r → r.place < length made
    leaves_below r is =
        let parts = subst (λ (o : Option Right). Left g old new kind 0 1 page items free o) is here in
        let size = ap (λ (l : List (List ℕ)). length l) parts.1.cut in
        let same = ap (λ (l : List (List ℕ)). length l) made_is in
        let many = parts.1.there.2 in
        let place = parts.2 in
        omega (arith, size, same, many, place, length-append parts.1.left parts.1.right)

-- items around a place
pub slice_cut : (items : List (List ℕ)) (place : ℕ) (item : List ℕ) → slice_get items place ≡ Some item → (front : List (List ℕ)) × (back : List (List ℕ)) × (items ≡ front ++ item ∷ back)
slice_cut [] zero item is = absurd (let e : None ≡ Some item = is in cc)
slice_cut [] (suc place) item is = absurd (let e : None ≡ Some item = is in cc)
slice_cut (x ∷ items) zero item is = ([], items, (let e : Some x ≡ Some item = is in let f : x ≡ item = cc in ap (λ (y : List ℕ). y ∷ items) f))
slice_cut (x ∷ items) (suc place) item is = let rest = slice_cut items place item is in (x ∷ rest.0, rest.1, ap (λ (l : List (List ℕ)). x ∷ l) rest.2)

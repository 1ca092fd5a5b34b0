-- Items of level 0 below pages whose keys rise.
use Rattle.std.proofs.Common.{◌≡◌, ◌≢◌, ℕ, zero, suc, ◌+◌, ◌<◌, ◌≤◌, List, [], ◌∷◌, ◌++◌, length, map, Option, Some, None, refl, sym, ◌∙◌, ap, subst, append_assoc, append-nil, arith}
use Rattle.gx_tree.specs.Orders.{AtMost, IsFrom, IsKeyed, IsLawful, IsUnder, Keys, Order, next}
use Rattle.gx_tree.specs.Trees.{Node, children, entries_of}
use Rattle.gx_tree.proofs.Keyed.{from_on, keys_from, under_end}
use Rattle.gx_tree.proofs.Kids.{entries_append, kids, kids_of}

pub entries_none : (level : ℕ) → entries_of level [] ≡ []
entries_none zero = refl
entries_none (suc level) = entries_none level

module _ (order : Order) (law : IsLawful order) where
  keys_entries : (level : ℕ) → ((least end : Option (List ℕ)) (node : Node level) → IsKeyed order level least end node → order.AreIn least end (entries_of level (node ∷ [])))
      → (least end : Option (List ℕ)) (items : List (List ℕ × Node level)) → Keys order (IsKeyed order level) least end items → order.AreIn least end (entries_of level (kids level items))
  keys_entries level each least end [] keys = subst (λ (l : List (List ℕ)). order.AreIn least end l) (sym (entries_none level)) (law.none least end)
  keys_entries level each least end (x ∷ []) keys =
      law.lower (Some x.0) least end (entries_of level (x.1 ∷ [])) (λ k most. from_on order law least x.0 k keys.1 most) (each (Some x.0) end x.1 keys.3)
  keys_entries level each least end (x ∷ (y ∷ ys)) keys =
      let rest : order.AreIn (Some y.0) end (entries_of level (kids level (y ∷ ys))) =
      keys_entries level each (Some y.0) end (y ∷ ys) (keys_from order law (IsKeyed order level) (Some x.0) (Some y.0) end y ys (law.itself y.0) keys.4) in
      let whole = law.join (Some x.0) end y.0 (entries_of level (x.1 ∷ [])) (entries_of level (kids level (y ∷ ys))) (each (Some x.0) (Some y.0) x.1 keys.3) rest keys.4.1
      (under_end order law (IsKeyed order level) (Some x.0) end y ys keys.4) in
      subst (λ (l : List (List ℕ)). order.AreIn least end l) (sym (entries_append level (x.1 ∷ []) (kids level (y ∷ ys))))
      (law.lower (Some x.0) least end (entries_of level (x.1 ∷ []) ++ entries_of level (kids level (y ∷ ys))) (λ k most. from_on order law least x.0 k keys.1 most) whole)

  pub keyed_entries : (level : ℕ) (least end : Option (List ℕ)) (node : Node level) → IsKeyed order level least end node → order.AreIn least end (entries_of level (node ∷ []))
  keyed_entries zero least end node keyed = subst (λ (l : List (List ℕ)). order.AreIn least end l) (sym (append-nil node.1)) keyed
  keyed_entries (suc level) least end node keyed =
      subst (λ (l : List (Node level)). order.AreIn least end (entries_of level l)) (sym (kids_of level node.0 node.1)) (keys_entries level (keyed_entries level) least end node.1 keyed)

  pub kids_entries : (level : ℕ) (least end : Option (List ℕ)) (items : List (List ℕ × Node level)) → Keys order (IsKeyed order level) least end items → order.AreIn least end (entries_of level (kids level items))
  kids_entries level least end items keys = keys_entries level (keyed_entries level) least end items keys

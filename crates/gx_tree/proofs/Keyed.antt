-- Keys that rise, cut and joined.
use Rattle.std.proofs.Common.{◌≡◌, ◌⊎◌, inl, inr, ⊎_elim, ℕ, zero, suc, ◌+◌, ◌<◌, ◌≤◌, List, [], ◌∷◌, ◌++◌, length, map, Option, Some, None, refl, sym, ◌∙◌, ap, subst, append_assoc, append-nil, arith}
use Rattle.std.specs.List.{AllByRecursion}
use Rattle.gx_tree.specs.Orders.{AtMost, IsFrom, IsKeyed, IsLawful, IsUnder, Keys, Order, next}
use Rattle.gx_tree.specs.Changing.{IsLesser}
use Rattle.gx_tree.specs.Trees.{Node}

module _ (order : Order) (law : IsLawful order) where
  pub most_less : (a b c : List ℕ) → AtMost order a b → order.Less b c → order.Less a c
  most_less a b c first second = law.most_less a b c first second

  pub less_most : (a b c : List ℕ) → order.Less a b → AtMost order b c → order.Less a c
  less_most a b c first second = law.less_most a b c first second

  pub most_most : (a b c : List ℕ) → AtMost order a b → AtMost order b c → AtMost order a c
  most_most a b c first second = law.most_most a b c first second

  pub from_on : (least : Option (List ℕ)) (a b : List ℕ) → IsFrom order least a → AtMost order a b → IsFrom order least b
  from_on None a b from most = tt
  from_on (Some l) a b from most = most_most l a b from most

  pub under_on : (end : Option (List ℕ)) (a b : List ℕ) → AtMost order a b → IsUnder order end b → IsUnder order end a
  under_on None a b most under = tt
  under_on (Some e) a b most under = most_less a b e most under

  -- the lesser of two keys
  pub lesser_most : (own old key : List ℕ) → IsLesser order own old key → AtMost order key old
  lesser_most own old key lesser =
      ⊎_elim (λ kept. subst (λ (x : List ℕ). AtMost order x old) (sym kept.1) (law.itself old)) (λ lower. subst (λ (x : List ℕ). AtMost order x old) (sym lower.1) (law.less_is_most own old lower.0)) lesser

  pub lesser_own : (own old key : List ℕ) → IsLesser order own old key → AtMost order key own
  lesser_own own old key lesser =
      ⊎_elim (λ kept. subst (λ (x : List ℕ). AtMost order x own) (sym kept.1) kept.0) (λ lower. subst (λ (x : List ℕ). AtMost order x own) (sym lower.1) (law.itself own)) lesser

  pub lesser_key : (own old key : List ℕ) → IsLesser order own old key → order.IsKey own → order.IsKey old → order.IsKey key
  lesser_key own old key lesser mine theirs =
      ⊎_elim (λ kept. subst (λ (x : List ℕ). order.IsKey x) (sym kept.1) theirs) (λ lower. subst (λ (x : List ℕ). order.IsKey x) (sym lower.1) mine) lesser

  pub lesser_from : (least : Option (List ℕ)) (own old key : List ℕ) → IsLesser order own old key → IsFrom order least own → IsFrom order least old → IsFrom order least key
  lesser_from least own old key lesser mine theirs =
      ⊎_elim (λ kept. subst (λ (x : List ℕ). IsFrom order least x) (sym kept.1) theirs) (λ lower. subst (λ (x : List ℕ). IsFrom order least x) (sym lower.1) mine) lesser

  module _ {N : Type 0} (below : Option (List ℕ) → Option (List ℕ) → N → Type 0) where
    pub under_end : (least end : Option (List ℕ)) (item : List ℕ × N) (items : List (List ℕ × N)) → Keys order below least end (item ∷ items) → IsUnder order end item.0
    under_end least end item [] keys = keys.2
    under_end least end item (y ∷ ys) keys = under_on end item.0 y.0 (law.less_is_most item.0 y.0 keys.2) (under_end (Some item.0) end y ys keys.4)

    pub keys_lower : (least lower end : Option (List ℕ)) (items : List (List ℕ × N)) → ((key : List ℕ) → IsFrom order least key → IsFrom order lower key) → Keys order below least end items → Keys order below lower end items
    keys_lower least lower end [] falls keys = tt
    keys_lower least lower end (x ∷ xs) falls keys = (keys.0, falls x.0 keys.1, keys.2, keys.3, keys.4)

    -- the first item from a bound on
    pub keys_from : (least lower end : Option (List ℕ)) (item : List ℕ × N) (items : List (List ℕ × N)) → IsFrom order lower item.0 → Keys order below least end (item ∷ items) → Keys order below lower end (item ∷ items)
    keys_from least lower end item items from keys = (keys.0, from, keys.2, keys.3, keys.4)

    next_cut : (end : Option (List ℕ)) (front : List (List ℕ × N)) (item : List ℕ × N) (back : List (List ℕ × N)) → next end (front ++ item ∷ back) ≡ next (Some item.0) front
    next_cut end [] item back = refl
    next_cut end (x ∷ front) item back = refl

    pub next_join : (end : Option (List ℕ)) (front items : List (List ℕ × N)) → next end (front ++ items) ≡ next (next end items) front
    next_join end [] items = refl
    next_join end (x ∷ front) items = refl

  -- an item among others
  pub record KeysAt {N : Type 0} (below : Option (List ℕ) → Option (List ℕ) → N → Type 0) (least end : Option (List ℕ)) (front : List (List ℕ × N)) (item : List ℕ × N) (back : List (List ℕ × N)) : Type 0 where
    pub before : Keys order below least (Some item.0) front
    pub key : order.IsKey item.0
    pub from : IsFrom order least item.0
    pub under : IsUnder order (next end back) item.0
    pub here : below (Some item.0) (next end back) item.1
    pub behind : Keys order below (Some item.0) end back

  module _ {N : Type 0} (below : Option (List ℕ) → Option (List ℕ) → N → Type 0) where
    pub keys_at : (least end : Option (List ℕ)) (front : List (List ℕ × N)) (item : List ℕ × N) (back : List (List ℕ × N)) → Keys order below least end (front ++ item ∷ back) → KeysAt below least end front item back
    keys_at least end [] item back keys = record { before = tt; key = keys.0; from = keys.1; under = keys.2; here = keys.3; behind = keys.4 }
    keys_at least end (x ∷ front) item back keys =
        let rest = keys_at (Some x.0) end front item back keys.4 in
        let same : next end (front ++ item ∷ back) ≡ next (Some item.0) front = next_cut below end front item back in
        record {
          before = (
            keys.0,
            keys.1,
            subst (λ (b : Option (List ℕ)). IsUnder order b x.0) same keys.2,
            subst (λ (b : Option (List ℕ)). below (Some x.0) b x.1) same keys.3,
            rest.before,
          );
          key = rest.key;
          from = from_on least x.0 item.0 keys.1 rest.from;
          under = rest.under;
          here = rest.here;
          behind = rest.behind;
        }

    pub keys_join : (least end : Option (List ℕ)) (front items : List (List ℕ × N)) (key : List ℕ) → Keys order below least (Some key) front → IsFrom order least key → next end items ≡ Some key
        → ((l : Option (List ℕ)) → IsFrom order l key → Keys order below l end items) → Keys order below least end (front ++ items)
    keys_join least end [] items key keys from at tail = tail least from
    keys_join least end (x ∷ front) items key keys from at tail =
        let same : next (Some key) front ≡ next end (front ++ items) = ap (λ (b : Option (List ℕ)). next b front) (sym at) ∙ sym (next_join below end front items) in (
          keys.0,
          keys.1,
          subst (λ (b : Option (List ℕ)). IsUnder order b x.0) same keys.2,
          subst (λ (b : Option (List ℕ)). below (Some x.0) b x.1) same keys.3,
          keys_join (Some x.0) end front items key keys.4 (law.less_is_most x.0 key (under_end below least (Some key) x front keys)) at tail,
        )

    -- Keys up to the first of others, and those.
    pub keys_append : (least end : Option (List ℕ)) (old : List ℕ) (front back : List (List ℕ × N)) → ((k : List ℕ) → AtMost order old k → IsFrom order least k) → Keys order below least (next end back) front
        → Keys order below (Some old) end back → Keys order below least end (front ++ back)
    keys_append least end old front [] falls keys behind = subst (λ (l : List (List ℕ × N)). Keys order below least end l) (sym (append-nil front)) keys
    keys_append least end old front (b ∷ back) falls keys behind =
        keys_join least end front (b ∷ back) b.0 keys (falls b.0 behind.1) refl (λ l from. keys_from below (Some old) l end b back from behind)

  -- keys below a page, where the bound before them falls
  pub keyed_lower : (level : ℕ) (least lower end : Option (List ℕ)) (node : Node level) → ((key : List ℕ) → IsFrom order least key → IsFrom order lower key) → IsKeyed order level least end node → IsKeyed order level lower end node
  keyed_lower zero least lower end node falls keyed = law.lower least lower end node.1 falls keyed
  keyed_lower (suc level) least lower end node falls keyed = keys_lower (IsKeyed order level) least lower end node.1 falls keyed

  -- what stands for an item where it and what is behind it were changed
  module _ {N : Type 0} (below : Option (List ℕ) → Option (List ℕ) → N → Type 0) (least end : Option (List ℕ)) (front : List (List ℕ × N)) (item : List ℕ × N) (back : List (List ℕ × N))
      (at : KeysAt below least end front item back) (own key : List ℕ) (lesser : IsLesser order own item.0 key) (mine : order.IsKey own) (from : IsFrom order least own)
      (reached : (front ≡ []) ⊎ AtMost order item.0 own) where
    front_keys : Keys order below least (Some key) front
    front_keys =
        ⊎_elim
        (λ kept. subst (λ (k : List ℕ). Keys order below least (Some k) front) (sym kept.1) at.before)
        (λ lower. ⊎_elim
        (λ none. subst (λ (l : List (List ℕ × N)). Keys order below least (Some key) l) (sym none) tt)
        (λ most. absurd (law.strict own (less_most own item.0 own lower.0 most)))
        reached)
        lesser

    key_under : (right : List (List ℕ × N)) → IsUnder order (next None right) key → IsUnder order (next (next end back) right) key
    key_under [] later = under_on (next end back) key item.0 (lesser_most own item.0 key lesser) at.under
    key_under (r ∷ right) later = later

    pub keys_changed : (left : N) (right : List (List ℕ × N)) → below (Some key) (next (next end back) right) left → Keys order below (Some key) (next end back) right → IsUnder order (next None right) key
        → Keys order below least end (front ++ (key, left) ∷ (right ++ back))
    keys_changed left right here others later =
        let same : next (next end back) right ≡ next end (right ++ back) = sym (next_join below end right back) in
        keys_join below least end front ((key, left) ∷ (right ++ back)) key front_keys (lesser_from least own item.0 key lesser from at.from) refl
        (λ l more. (
          lesser_key own item.0 key lesser mine at.key,
          more,
          subst (λ (b : Option (List ℕ)). IsUnder order b key) same (key_under right later),
          subst (λ (b : Option (List ℕ)). below (Some key) b left) same here,
          keys_append below (Some key) end item.0 right back (λ k most. most_most key item.0 k (lesser_most own item.0 key lesser) most) others at.behind,
        ))

  -- Keys that are cut: those before, and from the first of the others on.
  module _ {N : Type 0} (below : Option (List ℕ) → Option (List ℕ) → N → Type 0) where
    pub all_keys : (least end : Option (List ℕ)) (items : List (List ℕ × N)) → Keys order below least end items → AllByRecursion (λ item. order.IsKey item.0) items
    all_keys least end [] keys = tt
    all_keys least end (x ∷ xs) keys = (keys.0, all_keys (Some x.0) end xs keys.4)

    pub keys_strict : (least : Option (List ℕ)) (key : List ℕ) (front : List (List ℕ × N)) → 0 < length front → Keys order below least (Some key) front → (l : List ℕ) → least ≡ Some l → order.Less l key
    keys_strict least key [] some keys l is = absurd (omega (arith, some))
    keys_strict least key (x ∷ front) some keys l is =
        most_less l x.0 key (subst (λ (b : Option (List ℕ)). IsFrom order b x.0) is keys.1) (under_end below least (Some key) x front keys)

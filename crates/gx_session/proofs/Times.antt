-- The moments of calls, one behind another.
use Rattle.std.proofs.Common.{inl, inr, ℕ, ◌≤◌, arith}
use Rattle.gx_engine.specs.Times.{Between}

at_most_on : (a b c : ℕ) → a ≤ b → b ≤ c → a ≤ c
at_most_on a b c x y = omega (arith, x, y)

module _ {D M : Type 0} (moment : D → ℕ) (since : D → ℕ → M → Type 0) where
  -- no call
  pub still : (d : D) (P : M → Type 0) → Between moment since d d P
  still d P = record { later = omega arith; nothing_else = λ t m le s. inl s; keeps = λ t m le s. s }

  -- what has P has R
  pub becomes : (old new : D) (P R : M → Type 0) → ((m : M) → P m → R m) → Between moment since old new P → Between moment since old new R
  becomes old new P R p a = record {
    later = a.later;
    nothing_else = λ t m le s. elim (a.nothing_else t m le s) [ inl before ↦ inl before | inr h ↦ inr (p m h.0, h.1) ];
    keeps = a.keeps;
  }

  -- one call, and then another
  pub joins : (old mid new : D) (P Q R : M → Type 0) → ((m : M) → P m → R m) → ((m : M) → Q m → R m) → Between moment since old mid P → Between moment since mid new Q → Between moment since old new R
  joins old mid new P Q R p q a b = record {
    later = omega (arith, a.later, b.later);
    nothing_else = λ t m le s.
        let on = λ (u : ℕ) (l : u ≤ moment old). at_most_on u (moment old) (moment mid) l a.later in
        elim (b.nothing_else t m (on t le) s) [
          | inl past ↦ elim (a.nothing_else t m le past) [ inl before ↦ inl before | inr h ↦ inr (p m h.0, λ u l. b.keeps u m (on u l) (h.1 u l)) ]
          | inr h ↦ inr (q m h.0, λ u l. h.1 u (on u l))
        ];
    keeps = λ t m le s. b.keeps t m (at_most_on t (moment old) (moment mid) le a.later) (a.keeps t m le s);
  }

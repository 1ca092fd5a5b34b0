-- How a run of calls is put together from its calls.
use Rattle.std.proofs.Common.{inl, inr, ⊎_elim, ℕ, ◌≤◌, arith}
use Rattle.gx_words.specs.Moments.{Elapses, Through}

at_most_on : (a b c : ℕ) → a ≤ b → b ≤ c → a ≤ c
at_most_on a b c x y = omega (arith, x, y)

module _ {D M : Type 0} (moment : D → ℕ) (since : D → ℕ → M → Type 0) where
  -- before the first call
  pub no_call : (d : D) (P : M → Type 0) → Through moment since d d P
  no_call d P = record { later = omega arith; each = λ t m le left. inl left; keeps = λ t m le past. past }

  -- one call, whose moments have P
  pub one_call : (old new : D) (these P : M → Type 0) → Elapses (moment old) (moment new) (since old) (since new) these
      → ((m : M) → these m → P m) → Through moment since old new P
  one_call old new these P time here = record {
    later = time.later;
    each = λ t m le left. ⊎_elim (λ past. inl past) (λ now. inr (here m now.0, now.1)) (time.nothing_else t m le left);
    keeps = time.keeps;
  }

  -- a run, and then another
  pub then_run : (old mid new : D) (P : M → Type 0) → Through moment since old mid P → Through moment since mid new P → Through moment since old new P
  then_run old mid new P first second = record {
    later = omega (arith, first.later, second.later);
    each = λ t m le left.
        let on = λ (u : ℕ) (l : u ≤ moment old). at_most_on u (moment old) (moment mid) l first.later in
        ⊎_elim
        (λ past. ⊎_elim (λ before. inl before) (λ then. inr (then.0, λ u l. second.keeps u m (on u l) (then.1 u l))) (first.each t m le past))
        (λ now. inr (now.0, λ u l. now.1 u (on u l)))
        (second.each t m (on t le) left);
    keeps = λ t m le past. second.keeps t m (omega (arith, le, first.later)) (first.keeps t m le past);
  }

  -- what has P has Q
  pub through_weaker : (old new : D) (P Q : M → Type 0) → ((m : M) → P m → Q m) → Through moment since old new P → Through moment since old new Q
  through_weaker old new P Q weaker run = record {
    later = run.later;
    each = λ t m le left. ⊎_elim (λ past. inl past) (λ now. inr (weaker m now.0, now.1)) (run.each t m le left);
    keeps = run.keeps;
  }

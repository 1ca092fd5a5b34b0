-- Small facts of lists and answers.
use Rattle.std.proofs.Common.{◌≡◌, ℕ, true, List, ◌∷◌, sym, true≢false, Result, Ok, Err, OnOk, is_ok}

-- the first bytes of two lists that are the same
pub heads : (a b : ℕ) (x y : List ℕ) → a ∷ x ≡ b ∷ y → a ≡ b
heads a b x y e = cc

-- what a call says that was Ok
pub on_ok : {T E : Type 0} (r : Result T E) (P : Type 0) → is_ok r ≡ true → OnOk r P → P
on_ok (Ok x) P e p = p
on_ok (Err e) P wrong p = absurd (true≢false (sym wrong))

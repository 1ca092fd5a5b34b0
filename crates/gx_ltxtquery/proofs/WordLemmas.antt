-- A word at the front of a text is one.
use Rattle.std.proofs.Common.{◌≡◌, ℕ, zero, suc, ◌<◌, ◌≤◌, true, false, List, [], ◌∷◌, length, get_or, take, drop, arith}
use Rattle.std.specs.List.{AllByRecursion}
use Rattle.gx_lquery.specs.Text.{is_mark}
use Rattle.gx_ltxtquery.specs.Words.{StopsMarks}

abbrev pub AreMarks : List ℕ → Type 0
AreMarks marks = AllByRecursion (λ c. is_mark c ≡ true) marks

pub more_marks : (n : ℕ) (xs : List ℕ) → AreMarks (take n xs) → n < length xs → is_mark (get_or xs n 0) ≡ true → AreMarks (take (suc n) xs)
more_marks zero [] p l e = absurd (omega arith)
more_marks zero (x ∷ xs) p l e = (e, tt)
more_marks (suc n) [] p l e = absurd (omega arith)
more_marks (suc n) (x ∷ xs) p l e = (p.0, more_marks n xs p.1 (omega arith) e)

pub stops_at : (n : ℕ) (xs : List ℕ) → n < length xs → is_mark (get_or xs n 0) ≡ false → StopsMarks (drop n xs)
stops_at zero [] l e = absurd (omega arith)
stops_at zero (x ∷ xs) l e = e
stops_at (suc n) [] l e = absurd (omega arith)
stops_at (suc n) (x ∷ xs) l e = stops_at n xs (omega arith) e

pub stops_end : (n : ℕ) (xs : List ℕ) → length xs ≤ n → StopsMarks (drop n xs)
stops_end zero [] l = tt
stops_end zero (x ∷ xs) l = absurd (omega arith)
stops_end (suc n) [] l = tt
stops_end (suc n) (x ∷ xs) l = stops_end n xs (omega arith)

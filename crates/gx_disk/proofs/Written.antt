-- Lists of bytes after a write.
use Rattle.std.proofs.Common.{◌≡◌, ℕ, ◌+◌, ◌-◌, List, ◌++◌, length, take, drop, replicate, sym, ◌∙◌, ap, arith}
use Rattle.std.proofs.lemmas.List.{same_lists, places, take_at}

-- bytes in the place of others of a list that is long enough, be it longer than the old one by its filling
pub placed : (old more : List ℕ) (at n end fill : ℕ) → n ≡ length more → end ≡ at + n
    → take at (old ++ replicate (end - length old) fill) ++ more ++ drop (at + n) (old ++ replicate (end - length old) fill)
    ≡ take at (old ++ replicate (at - length old) fill) ++ more ++ drop (at + n) old
placed old more at n end fill size is = same_lists _ _ (grind (arith, places)) (λ k d h. grind (arith, places))

-- a vector that was passed as a slice of the same length
pub passed : (len : ℕ) (new items : List ℕ) → len ≡ length new → take len (new ++ drop (length new) items) ≡ new
passed len new items size = take_at new (drop (length new) items) len (sym size)

pub placed_from : (old more from : List ℕ) (at n end fill : ℕ) → from ≡ old ++ replicate (end - length old) fill → n ≡ length more → end ≡ at + n
    → take at from ++ more ++ drop (at + n) from ≡ take at (old ++ replicate (at - length old) fill) ++ more ++ drop (at + n) old
placed_from old more from at n end fill is size ends =
    ap (λ (l : List ℕ). take at l ++ more ++ drop (at + n) l) is ∙ placed old more at n end fill size ends

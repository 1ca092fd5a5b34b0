-- Headers with another number in one field.
use Rattle.std.proofs.Common.{◌≡◌, ℕ, ◌+◌, ◌≤◌, List, length, take, drop, ◌∙◌, ap, arith}
use Rattle.std.proofs.lemmas.List.{same_lists, places}
use Rattle.gx_bytes.specs.Fields.{le64, paste, length-le64}
use Rattle.gx_pages.specs.Frees.{HasCount, HasFirst}

pub length_pasted : (h x : List ℕ) (at : ℕ) → at + length x ≤ length h → length (paste h at x) ≡ length h
length_pasted h x at fits = grind (arith, places)

-- the field itself
pasted_field : (h x : List ℕ) (at n : ℕ) → length x ≡ n → at + n ≤ length h → take n (drop at (paste h at x)) ≡ x
pasted_field h x at n size fits = same_lists _ _ (grind (arith, places)) (λ k d in_range. grind (arith, places))

-- bytes before the field, and behind it
pasted_before : (h x : List ℕ) (at from n : ℕ) → at + length x ≤ length h → from + n ≤ at → take n (drop from (paste h at x)) ≡ take n (drop from h)
pasted_before h x at from n fits apart = same_lists _ _ (grind (arith, places)) (λ k d in_range. grind (arith, places))

pasted_front : (h x : List ℕ) (at n : ℕ) → at + length x ≤ length h → n ≤ at → take n (paste h at x) ≡ take n h
pasted_front h x at n fits apart = same_lists _ _ (grind (arith, places)) (λ k d in_range. grind (arith, places))

pasted_behind : (h x : List ℕ) (at from : ℕ) → at + length x ≤ length h → at + length x ≤ from → drop from (paste h at x) ≡ drop from h
pasted_behind h x at from fits apart = same_lists _ _ (grind (arith, places)) (λ k d in_range. grind (arith, places))

-- all but the count and the first free page stays
pub record Stays (h k : List ℕ) : Type 0 where
  pub size : length k ≡ length h
  pub front : take 8 k ≡ take 8 h
  pub behind : drop 24 k ≡ drop 24 h

module _ (h : List ℕ) (n : ℕ) (size : length h ≡ 8192) where
  eight : length (le64 n) ≡ 8
  eight = length-le64 n

  pub count_has : HasCount (paste h 8 (le64 n)) n
  count_has = pasted_field h (le64 n) 8 8 eight (omega (arith, size))

  pub count_keeps : (first : ℕ) → HasFirst h first → HasFirst (paste h 8 (le64 n)) first
  count_keeps first has =
      ap (λ (l : List ℕ). take 8 l) (pasted_behind h (le64 n) 8 16 (omega (arith, size, eight)) (omega (arith, eight))) ∙ has

  pub count_stays : Stays h (paste h 8 (le64 n))
  count_stays = record {
    size = length_pasted h (le64 n) 8 (omega (arith, size, eight));
    front = pasted_front h (le64 n) 8 8 (omega (arith, size, eight)) (omega arith);
    behind = pasted_behind h (le64 n) 8 24 (omega (arith, size, eight)) (omega (arith, eight));
  }

  pub first_has : HasFirst (paste h 16 (le64 n)) n
  first_has = pasted_field h (le64 n) 16 8 eight (omega (arith, size))

  pub first_keeps : (count : ℕ) → HasCount h count → HasCount (paste h 16 (le64 n)) count
  first_keeps count has = pasted_before h (le64 n) 16 8 8 (omega (arith, size, eight)) (omega arith) ∙ has

  pub first_stays : Stays h (paste h 16 (le64 n))
  first_stays = record {
    size = length_pasted h (le64 n) 16 (omega (arith, size, eight));
    front = pasted_front h (le64 n) 16 8 (omega (arith, size, eight)) (omega arith);
    behind = pasted_behind h (le64 n) 16 24 (omega (arith, size, eight)) (omega (arith, eight));
  }

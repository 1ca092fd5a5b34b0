-- Lists of intervals of whole numbers: they rise, are disjoint and have numbers of int4.
use Rattle.std.specs.Prelude.{ℕ, zero, suc, ◌+◌, ◌-◌, nat_lt, Bool, true, ◌&&◌, ℤ, pos, int_le, int_lt, ◌≤ℤ◌, ◌+ℤ◌, ◌-ℤ◌, unsigned_abs, List, [], ◌∷◌, length, slice_index_or, sum_by, if◌then◌else◌}
use Rattle.std.specs.Int.{int_min, int_max}
use Rattle.std.specs.List.{list_any, fold}
use Rattle.gx_intarr.specs.Arrays.{least, greatest}
use Rattle.gx_class_intset.specs.declared.interval.Interval.{Interval}

-- the interval of one number
abbrev pub single : ℤ → Interval
single n = record { least = n; greatest = n }

-- an interval has the number; some interval of a list has it
abbrev pub within : ℤ → Interval → Bool
within n i = int_le i.least n && int_le n i.greatest

abbrev pub has : List Interval → ℤ → Bool
has is n = list_any (within n) is

-- No interval is empty, the first begins at the floor or above it, each other behind the one before it, and all end within int4.
abbrev pub AreAbove : ℤ → List Interval → Type 0
AreAbove floor [] = Unit {0}
AreAbove floor (i ∷ is) = (floor ≤ℤ i.least) × (i.least ≤ℤ i.greatest) × (i.greatest ≤ℤ greatest) × AreAbove (i.greatest +ℤ pos 1) is

-- they rise, are disjoint and have numbers of int4
abbrev pub AreIntervals : List Interval → Type 0
AreIntervals is = AreAbove least is

-- the numbers of a list, each once, in rising order
abbrev pub with_number : ℤ → List ℤ → List ℤ
with_number n [] = n ∷ []
with_number n (m ∷ ms) = if int_lt n m then n ∷ m ∷ ms else (if int_lt m n then m ∷ with_number n ms else m ∷ ms)

abbrev pub distinct : List ℤ → List ℤ
distinct [] = []
distinct (n ∷ ns) = with_number n (distinct ns)

-- the least interval over both
abbrev pub hull : Interval → Interval → Interval
hull i j = record { least = int_min i.least j.least; greatest = int_max i.greatest j.greatest }

-- one more interval, joined with those that it overlaps
abbrev pub put : Interval → List Interval → List Interval
put i [] = i ∷ []
put i (j ∷ js) = if int_lt i.greatest j.least then i ∷ j ∷ js else (if int_lt j.greatest i.least then j ∷ put i js else put (hull i j) js)

-- all intervals of both lists, overlapping ones joined
abbrev pub together : List Interval → List Interval → List Interval
together a b = fold (λ is i. put i is) a b

-- from the last number of each interval to the first of the next
abbrev pub gap : Interval → Interval → ℕ
gap i j = unsigned_abs (j.least -ℤ i.greatest)

abbrev pub gaps : List Interval → List ℕ
gaps [] = []
gaps (i ∷ []) = []
gaps (i ∷ j ∷ js) = gap i j ∷ gaps (j ∷ js)

-- the place of the least number, the first of equal ones: behind the first number where one of the others is less
abbrev pub first_least : List ℕ → ℕ
first_least [] = zero
first_least (g ∷ gs) = if nat_lt (slice_index_or gs (first_least gs) g) g then suc (first_least gs) else zero

-- from the least of one to the greatest of another
abbrev pub across : Interval → Interval → Interval
across i j = record { least = i.least; greatest = j.greatest }

-- the interval at a place joined with its neighbour
abbrev pub join_at : ℕ → List Interval → List Interval
join_at k [] = []
join_at k (i ∷ []) = i ∷ []
join_at zero (i ∷ j ∷ js) = across i j ∷ js
join_at (suc k) (i ∷ j ∷ js) = i ∷ join_at k (j ∷ js)

-- the two neighbours with the least gap joined, the first of such pairs
abbrev pub join_closest : List Interval → List Interval
join_closest is = join_at (first_least (gaps is)) is

-- so many times
abbrev pub joins : ℕ → List Interval → List Interval
joins zero is = is
joins (suc n) is = join_closest (joins n is)

-- joined until there are r at most: each time there is one less
abbrev pub reduced : ℕ → List Interval → List Interval
reduced r is = joins (length is - r) is

-- how many numbers an interval has, and intervals together
abbrev pub size : Interval → ℕ
size i = unsigned_abs (i.greatest -ℤ i.least) + 1

abbrev pub total : List Interval → ℕ
total is = sum_by size is

-- the test that they rise, from a floor on
abbrev pub rises : ℤ → List Interval → Bool
rises floor [] = true
rises floor (i ∷ is) = (int_le floor i.least && int_le i.least i.greatest) && rises (i.greatest +ℤ pos 1) is

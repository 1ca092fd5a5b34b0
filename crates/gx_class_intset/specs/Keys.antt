-- The class gist__int_ops: keys are lists of intervals, at most r, with a flag that is set where they have exactly the elements of one array.
use Rattle.std.specs.Prelude.{◌≡◌, ℕ, ◌-◌, ◌≤◌, nat_le, true, false, ℤ, pos, ◌-ℤ◌, unsigned_abs, List, [], ◌∷◌, length, map}
use Rattle.gx_class_intset.specs.declared.interval.Interval.{Interval}
use Rattle.gx_class_intset.specs.declared.interval.IntKey.{IntKey}
use Rattle.gx_class_intset.specs.Intervals.{single, has, AreIntervals, distinct, together, reduced, total}

-- how many intervals a class allows
abbrev pub IsLimit : ℕ → Type 0
IsLimit r = (1 ≤ r) × (r ≤ 200)

pub record IsKey (r : ℕ) (k : IntKey) : Type 0 where
  pub rise : AreIntervals k.intervals
  pub few : length k.intervals ≤ r

-- the key of an array: each distinct element is an interval, and it is exact where no two are joined
abbrev pub leaf_key : ℕ → List ℤ → IntKey
leaf_key r items = record { exact = nat_le (length (distinct items)) r; intervals = reduced r (map single (distinct items)) }

-- the key of all that both keys stand for: never exact
abbrev pub union : ℕ → IntKey → IntKey → IntKey
union r a b = record { exact = false; intervals = reduced r (together a.intervals b.intervals) }

-- each number in an interval of l is in one of k
abbrev pub IsOver : IntKey → IntKey → Type 0
IsOver k l = (n : ℤ) → has l.intervals n ≡ true → has k.intervals n ≡ true

-- how many more numbers the union's intervals have
abbrev pub growth : ℕ → IntKey → IntKey → ℕ
growth r key added = total (union r key added).intervals - total key.intervals

-- where the first interval begins, 0 where there is none; how far a key begins from another
abbrev pub begins : List Interval → ℤ
begins [] = pos 0
begins (i ∷ is) = i.least

abbrev pub far : IntKey → IntKey → ℕ
far a b = unsigned_abs (begins a.intervals -ℤ begins b.intervals)

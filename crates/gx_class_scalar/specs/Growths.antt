-- How much a key grows where another is united with it.
use Rattle.std.specs.Prelude.{ℕ, ◌+◌, ◌-◌, ◌^◌, min, List, [], ◌∷◌, slice_index, ℤ, ◌-ℤ◌, int_lt, unsigned_abs, if◌then◌else◌}
use Rattle.std.specs.Int.{w64, from_be_bytes}
use Rattle.gx_class_scalar.specs.declared.key.Part.{Part}
use Rattle.gx_class_scalar.specs.declared.key.ScalarKey.{ScalarKey}
use Rattle.gx_class_scalar.specs.declared.key.ScalarKey.TheVariants.{Int4, Int8, Date, Uuid, Cut}

-- how far the second number lies above the first, and 0 where it doesn't
abbrev pub rise : ℤ → ℤ → ℕ
rise a b = if int_lt a b then unsigned_abs (b -ℤ a) else 0

-- the first eight bytes as a number, the first the highest; zeros stand behind a shorter value
abbrev pub head : List ℕ → ℕ
head bytes =
    from_be_bytes w64 (slice_index bytes 0 ∷ slice_index bytes 1 ∷ slice_index bytes 2 ∷ slice_index bytes 3
    ∷ slice_index bytes 4 ∷ slice_index bytes 5 ∷ slice_index bytes 6 ∷ slice_index bytes 7 ∷ [])

abbrev pub cut_growth : List ℕ → List ℕ → Part → Part → ℕ
cut_growth low high c d = (head low - head c.bytes) + (head d.bytes - head high)

-- how far the least value falls and the greatest rises, together at most the greatest number of 128 bits
abbrev pub growth : ScalarKey → ScalarKey → ℕ
growth (Int4 a b) (Int4 c d) = rise c a + rise b d
growth (Int8 a b) (Int8 c d) = rise c a + rise b d
growth (Date a b) (Date c d) = rise c a + rise b d
growth (Uuid a b) (Uuid c d) = min ((a - c) + (d - b)) (2 ^ 128 - 1)
growth (Cut a b) (Cut c d) = cut_growth a.bytes b.bytes c d
growth a b = 0

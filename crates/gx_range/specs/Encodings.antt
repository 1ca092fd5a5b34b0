-- Ranges as bytes.
use Rattle.std.specs.Prelude.{◌≡◌, ℕ, ◌+◌, Bool, true, List, [], ◌∷◌, ◌++◌, ℤ, Option, Some, None, is_some, if◌then◌else◌}
use Rattle.std.specs.Int.{w64, to_le_bytes, cast_unsigned}
use Rattle.gx_range.specs.declared.range.Range.{Range}
use Rattle.gx_range.specs.declared.range.Range.TheVariants.{Empty, Span}
use Rattle.gx_range.specs.declared.range.RangeKind.{RangeKind}
use Rattle.gx_range.specs.declared.range.RangeKind.TheVariants.{Int8}
use Rattle.gx_range.specs.Values.{IsRange, fits}

-- 2 for a lower bound and 4 for an upper one
abbrev pub flags : Bool → Bool → ℕ
flags lower upper = (if lower then 2 else 0) + (if upper then 4 else 0)

-- eight bytes, the lowest first
abbrev pub bound_bytes : Option ℤ → List ℕ
bound_bytes None = []
bound_bytes (Some n) = to_le_bytes w64 (cast_unsigned w64 n)

-- byte 1 for the empty range; else the flags, the lower bound and the upper
abbrev pub encoded : Range → List ℕ
encoded Empty = 1 ∷ []
encoded (Span l u) = flags (is_some l) (is_some u) ∷ (bound_bytes l ++ bound_bytes u)

-- the valid range with these bytes, or none where no valid range has them
abbrev pub DecodesTo : RangeKind → List ℕ → Option Range → Type 0
DecodesTo kind bytes None = (range : Range) → IsRange kind range → bytes ≡ encoded range → ⊥
DecodesTo kind bytes (Some range) = IsRange kind range × (bytes ≡ encoded range)

-- the bytes are those of two bounds, which are there as is said
pub record AreBounds (bytes : List ℕ) (lower upper : Bool) (l u : Option ℤ) : Type 0 where
  pub has_lower : is_some l ≡ lower
  pub has_upper : is_some u ≡ upper
  pub fits_lower : fits Int8 l ≡ true
  pub fits_upper : fits Int8 u ≡ true
  pub parts : bytes ≡ bound_bytes l ++ bound_bytes u

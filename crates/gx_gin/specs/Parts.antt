-- Strings as parts of one list of bytes.
use Rattle.std.specs.Prelude.{ℕ, ◌-◌, ◌≤◌, List, length, take, drop}
use Rattle.std.specs.List.{AllByRecursion}
use Rattle.gx_gin.specs.declared.strings.Part.{Part}

abbrev pub cut : List ℕ → Part → List ℕ
cut bytes part = take (part.to - part.from) (drop part.from bytes)

-- each part lies in the bytes
abbrev pub LieIn : List ℕ → List Part → Type 0
LieIn bytes parts = AllByRecursion (λ part. (part.from ≤ part.to) × (part.to ≤ length bytes)) parts

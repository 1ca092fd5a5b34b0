-- Which key some bytes are read as.
use Rattle.std.specs.Prelude.{◌≡◌, ◌≢◌, ℕ, Bool, List, Option, Some, None}
use Rattle.gx_scalar.specs.declared.scalar.ScalarKind.{ScalarKind}
use Rattle.gx_class_scalar.specs.declared.key.Part.{Part}
use Rattle.gx_class_scalar.specs.declared.key.ScalarKey.{ScalarKey}
use Rattle.gx_class_scalar.specs.Keys.{IsKey, spelled}

-- the valid key with these bytes, or none where they spell no key of the type
abbrev pub ReadsTo : ScalarKind → List ℕ → Option ScalarKey → Type 0
ReadsTo kind bytes None = (key : ScalarKey) → IsKey kind key → bytes ≢ spelled key
ReadsTo kind bytes (Some key) = IsKey kind key × (bytes ≡ spelled key)

abbrev pub part_with : List ℕ → Bool → Part
part_with bytes more = record { bytes = bytes; more = more }

-- The texts of paths.
use Rattle.std.specs.Prelude.{◌≡◌, ℕ, List, ◌∷◌, ◌++◌, length, Option, None, Some, Result, Ok, Err}
use Rattle.std.specs.List.{AllByRecursion, flat_map, join_with_byte}
use Rattle.std.specs.declared.alloc.AllocError.{AllocError}
use Rattle.gx_bytes.specs.declared.error.ValueError.{ValueError}
use Rattle.gx_bytes.specs.declared.error.ValueError.TheVariants.{NoValue, OutOfRange, TooDeep, Memory}
use Rattle.gx_ltree.specs.Label.{IsLabel, StopsLabel}
use Rattle.gx_ltree.specs.Path.{IsPath}

-- the labels with a dot (46) between them; nothing for the empty path
abbrev pub printed : List (List ℕ) → List ℕ
printed path = join_with_byte 46 path

-- the labels with a dot before each
abbrev pub dots : List (List ℕ) → List ℕ
dots labels = flat_map (λ label. 46 ∷ label) labels

pub record SpellsPath (text : List ℕ) (path : List (List ℕ)) : Type 0 where
  pub valid : IsPath path
  pub is : text ≡ printed path

-- The text begins with 65,536 labels, whatever comes after the last of them.
pub record HasTooMany (text : List ℕ) : Type 0 where
  pub labels : List (List ℕ)
  pub rest : List ℕ
  pub parts : text ≡ printed labels ++ rest
  pub each : AllByRecursion IsLabel labels
  pub count : length labels ≡ 65536
  pub stops : StopsLabel rest

-- what each answer of the reader says of the text
abbrev pub AnswersPath : List ℕ → Result (List (List ℕ)) ValueError → Type 0
AnswersPath text (Ok path) = SpellsPath text path
AnswersPath text (Err NoValue) = ((path : List (List ℕ)) → SpellsPath text path → ⊥) × (HasTooMany text → ⊥)
AnswersPath text (Err OutOfRange) = HasTooMany text
AnswersPath text (Err TooDeep) = ⊥
AnswersPath text (Err Memory) = Unit {0}

-- the valid path whose text the bytes are, or none where there is none
abbrev pub DecodesTo : List ℕ → Result (Option (List (List ℕ))) AllocError → Type 0
DecodesTo bytes (Ok None) = (path : List (List ℕ)) → SpellsPath bytes path → ⊥
DecodesTo bytes (Ok (Some path)) = SpellsPath bytes path
DecodesTo bytes (Err _) = Unit {0}

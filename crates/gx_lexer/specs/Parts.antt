-- What a script is made of: the cut said by its parts, and not byte by byte.
use Rattle.std.specs.Prelude.{◌≡◌, ◌≢◌, ℕ, List, [], ◌∷◌, ◌++◌}
use Rattle.std.specs.List.{flat_map}

-- a byte for itself, a text between quotes, or a comment without the line feed behind it
pub data Part : Type 0 where
  plain : ℕ → Part
  text : List ℕ → Part
  comment : List ℕ → Part

abbrev pub spelled : Part → List ℕ
spelled (plain b) = b ∷ []
spelled (text t) = 39 ∷ t ++ 39 ∷ []
spelled (comment t) = 45 ∷ 45 ∷ t

abbrev pub Lacks : ℕ → List ℕ → Type 0
Lacks x [] = Unit {0}
Lacks x (b ∷ bs) = (b ≢ x) × Lacks x bs

-- no bytes, or another byte first
abbrev pub BeginsNot : ℕ → List ℕ → Type 0
BeginsNot x [] = Unit {0}
BeginsNot x (b ∷ bs) = b ≢ x

-- no bytes, or this byte first
abbrev pub EndsAt : ℕ → List ℕ → Type 0
EndsAt x [] = Unit {0}
EndsAt x (b ∷ bs) = b ≡ x

-- The part may stand before these bytes. A plain byte is no `;` and no quote, and no `-` before a `-`. A comment goes on to the end of its line.
abbrev pub Fits : Part → List ℕ → Type 0
Fits (plain b) after = (b ≢ 59) × (b ≢ 39) × (b ≡ 45 → BeginsNot 45 after)
Fits (text t) after = Lacks 39 t
Fits (comment t) after = Lacks 10 t × EndsAt 10 after

abbrev pub AreParts : List Part → List ℕ → Type 0
AreParts [] after = Unit {0}
AreParts (p ∷ ps) after = Fits p (flat_map spelled ps ++ after) × AreParts ps after

-- nothing, or a text that no quote closes
abbrev pub IsOpenText : List ℕ → Type 0
IsOpenText [] = Unit {0}
IsOpenText (b ∷ bs) = (b ≡ 39) × Lacks 39 bs

-- The script is these pieces, each with a `;` behind it, and the rest. No `;` stands in a piece or in the rest but in a text or a comment.
abbrev pub AreCut : List ℕ → List (List ℕ) → List ℕ → Type 0
AreCut script [] rest = (script ≡ rest) × (parts : List Part) × (tail : List ℕ) × (rest ≡ flat_map spelled parts ++ tail) × AreParts parts tail × IsOpenText tail
AreCut script (p ∷ ps) rest = (after : List ℕ) × (script ≡ p ++ 59 ∷ after) × (parts : List Part) × (p ≡ flat_map spelled parts) × AreParts parts (59 ∷ after) × AreCut after ps rest

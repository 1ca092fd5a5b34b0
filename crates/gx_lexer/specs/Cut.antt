-- The pieces of a script: it is cut at each `;` that stands in no text and no comment.
use Rattle.std.specs.Prelude.{ℕ, suc, Bool, false, ◌==◌, if◌then◌else◌, List, [], ◌∷◌, ◌++◌}
use Rattle.gx_lexer.specs.declared.cutter.Mode.{Mode}
use Rattle.gx_lexer.specs.declared.cutter.Mode.TheVariants.{Plain, Dash, Text, Comment}

-- The pieces that a `;` ends, without it, and the rest.
pub record Cuts : Type 0 where
  pub pieces : List (List ℕ)
  pub rest : List ℕ

-- what begins at a byte outside texts and comments, where a `-` begins `dash`
abbrev pub begun : ℕ → Mode → Mode
begun b dash = if b == 39 then Text else (if b == 45 then dash else Plain)

-- What a byte leaves open. Two quotes within a text close it and open another.
abbrev pub mode_after : Mode → ℕ → Mode
mode_after Plain b = begun b Dash
mode_after Dash b = begun b Comment
mode_after Text b = if b == 39 then Plain else Text
mode_after Comment b = if b == 10 then Plain else Comment

-- whether the byte is a `;` in no text and no comment
abbrev pub ends : Mode → ℕ → Bool
ends Plain b = b == 59
ends Dash b = b == 59
ends Text b = false
ends Comment b = false

-- how many bytes stand before the first that ends a piece
abbrev pub front_len : Mode → List ℕ → ℕ
front_len mode [] = 0
front_len mode (b ∷ bs) = if ends mode b then 0 else suc (front_len (mode_after mode b) bs)

-- a byte at the front of the first piece, or of the rest where there is none
abbrev pub onto_first : ℕ → List (List ℕ) → List ℕ → Cuts
onto_first b [] rest = record { pieces = []; rest = b ∷ rest }
onto_first b (p ∷ ps) rest = record { pieces = (b ∷ p) ∷ ps; rest = rest }

abbrev pub onto : ℕ → Cuts → Cuts
onto b cuts = onto_first b cuts.pieces cuts.rest

-- a piece before the others
abbrev pub and_piece : List ℕ → Cuts → Cuts
and_piece p cuts = record { pieces = p ∷ cuts.pieces; rest = cuts.rest }

-- the cut of bytes behind others that left this open
unfoldable pub cut_in : Mode → List ℕ → Cuts
cut_in mode [] = record { pieces = []; rest = [] }
cut_in mode (b ∷ bs) = if ends mode b then and_piece [] (cut_in (mode_after mode b) bs) else onto b (cut_in (mode_after mode b) bs)

abbrev pub cut : List ℕ → Cuts
cut script = cut_in Plain script

-- the statements of a script: its pieces, and the rest as the last one
abbrev pub statements : List ℕ → List (List ℕ)
statements script = (cut script).pieces ++ (cut script).rest ∷ []

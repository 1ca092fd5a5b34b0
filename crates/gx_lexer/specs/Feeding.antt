-- What a cutter knows of the bytes that it was fed, and what it makes of a piece.
use Rattle.std.specs.Prelude.{◌≡◌, ℕ, ◌+◌, Bool, false, nat_le, if◌then◌else◌, List, ◌++◌, length, map, fold, Option, Some, None}
use Rattle.gx_lexer.specs.declared.cutter.Mode.{Mode}
use Rattle.gx_lexer.specs.declared.cutter.Mode.TheVariants.{Plain}
use Rattle.gx_lexer.specs.declared.piece.Piece.{Piece}
use Rattle.gx_lexer.specs.declared.piece.Piece.TheVariants as piece
use Rattle.gx_lexer.specs.Cut.{mode_after, cut}

-- the greatest length of a piece, 1,048,576 bytes
abbrev pub longest : ℕ
longest = 1048576

-- a piece as it is handed on: its bytes, or a mark that it is too long
abbrev pub piece_of : List ℕ → Piece
piece_of bytes = if nat_le (length bytes) longest then piece.Text bytes else piece.TooLong

-- the pieces that end in the script
abbrev pub pieces_of : List ℕ → List Piece
pieces_of script = map piece_of (cut script).pieces

-- the last piece, behind the last `;`
abbrev pub last_of : List ℕ → Piece
last_of script = piece_of (cut script).rest

-- what a cutter holds: what the last byte left open, and the bytes since the last `;` while they aren't too many
pub record Standing : Type 0 where
  pub mode : Mode
  pub kept : Option (List ℕ)
  pub spoiled : Bool

abbrev pub mark : Option (List ℕ) → Piece
mark None = piece.TooLong
mark (Some bytes) = piece.Text bytes

-- the bytes where they aren't too many
abbrev pub kept_of : List ℕ → Option (List ℕ)
kept_of bytes = if nat_le (length bytes) longest then Some bytes else None

-- the cutter was fed this script, in chunks of any size
pub record Fed (cutter : Standing) (script : List ℕ) : Type 0 where
  pub mode : cutter.mode ≡ fold mode_after Plain script
  pub kept : cutter.kept ≡ kept_of (cut script).rest

-- The cutter, which was fed the script, was fed the chunk too, and the pieces that end in the chunk were added.
pub record CutsOn (cutter : Standing) (script chunk : List ℕ) (before after : List Piece) : Type 0 where
  pub added : List Piece
  pub fed : Fed cutter (script ++ chunk)
  pub pieces : pieces_of (script ++ chunk) ≡ pieces_of script ++ added
  pub appended : after ≡ before ++ added

-- more bytes behind those that are kept, while they aren't too many
abbrev pub longer_by : Option (List ℕ) → List ℕ → Option (List ℕ)
longer_by None more = None
longer_by (Some bytes) more = if nat_le (length bytes + length more) longest then Some (bytes ++ more) else None

-- whatever script the first cutter was fed, it was fed these bytes too, and is no less sound
pub record Feeds (first now : Standing) (done : List ℕ) (before after : List Piece) : Type 0 where
  pub sound : now.spoiled ≡ false
  pub cuts : (script : List ℕ) → Fed first script → CutsOn now script done before after

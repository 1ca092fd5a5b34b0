-- White space round a text, and texts cut at a byte.
use Rattle.std.specs.Prelude.{◌≡◌, ℕ, ◌-◌, false, true, List, [], ◌∷◌, ◌++◌, ◌≢◌, All, length, slice_index, if◌then◌else◌}
use Rattle.std.specs.Char.{is_ascii_whitespace}

-- the text from its first byte on that isn't white space: space, tab, line feed, form feed, carriage return
abbrev pub without_leading_blank : List ℕ → List ℕ
without_leading_blank [] = []
without_leading_blank (c ∷ cs) =
    if is_ascii_whitespace c then without_leading_blank cs else c ∷ cs

-- a byte with what is kept of the text behind it: white space before nothing is dropped
abbrev pub kept_before : ℕ → List ℕ → List ℕ
kept_before c [] = if is_ascii_whitespace c then [] else c ∷ []
kept_before c (d ∷ ds) = c ∷ d ∷ ds

-- the text up to its last byte that isn't white space
abbrev pub without_trailing_blank : List ℕ → List ℕ
without_trailing_blank [] = []
without_trailing_blank (c ∷ cs) = kept_before c (without_trailing_blank cs)

-- the text without the white space at its ends
unfoldable pub core_of : List ℕ → List ℕ
core_of text = without_trailing_blank (without_leading_blank text)

-- neither the first nor the last byte is white space
pub record IsBare (text : List ℕ) : Type 0 where
  pub first : is_ascii_whitespace (slice_index text 0) ≡ false
  pub last : is_ascii_whitespace (slice_index text (length text - 1)) ≡ false

-- each byte is white space
abbrev pub IsBlank : List ℕ → Type 0
IsBlank text = All (λ c. is_ascii_whitespace c ≡ true) text

-- a text is white space, a core, and white space
pub record Trims (text core : List ℕ) : Type 0 where
  pub before : List ℕ
  pub after : List ℕ
  pub parts : text ≡ before ++ (core ++ after)
  pub blank_before : IsBlank before
  pub blank_after : IsBlank after
  pub bare : IsBare core

-- the bytes before the first such byte, and those behind it
pub record CutsAt (byte : ℕ) (bytes front rest : List ℕ) : Type 0 where
  pub parts : bytes ≡ front ++ byte ∷ rest
  pub absent : All (λ c. c ≢ byte) front

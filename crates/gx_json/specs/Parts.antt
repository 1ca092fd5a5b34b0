-- What a text is made of: what is outside of its strings, and the numbers there, said by parts and not byte by byte.
use Rattle.std.specs.Prelude.{◌≡◌, ◌≢◌, ℕ, true, false, List, [], ◌∷◌, ◌++◌, map}
use Rattle.std.specs.List.{flat_map, AllByRecursion}
use Rattle.gx_json.specs.Scan.{begins_run, is_run_byte}

-- of a string, a byte that is no quote (34) and no backslash (92), or a backslash with the byte behind it
pub data Character : Type 0 where
  plain : ℕ → Character
  escape : ℕ → Character

abbrev pub spelled_character : Character → List ℕ
spelled_character (plain b) = b ∷ []
spelled_character (escape b) = 92 ∷ b ∷ []

abbrev pub IsCharacter : Character → Type 0
IsCharacter (plain b) = (b ≢ 34) × (b ≢ 92)
IsCharacter (escape b) = Unit {0}

abbrev pub spelled_characters : List Character → List ℕ
spelled_characters s = flat_map spelled_character s

-- of a text, a byte that is no quote, or a string
pub data Part : Type 0 where
  byte : ℕ → Part
  string : List Character → Part

abbrev pub spelled : Part → List ℕ
spelled (byte b) = b ∷ []
spelled (string s) = 34 ∷ (spelled_characters s ++ 34 ∷ [])

abbrev pub IsPart : Part → Type 0
IsPart (byte b) = b ≢ 34
IsPart (string s) = AllByRecursion IsCharacter s

-- At the end of a text stands nothing more, or a string that no quote closes; behind the last of its characters there may be a backslash.
pub data End : Type 0 where
  nothing : End
  unclosed : List Character → End
  unclosed_escape : List Character → End

abbrev pub spelled_end : End → List ℕ
spelled_end nothing = []
spelled_end (unclosed s) = 34 ∷ spelled_characters s
spelled_end (unclosed_escape s) = 34 ∷ (spelled_characters s ++ 92 ∷ [])

abbrev pub IsEnd : End → Type 0
IsEnd nothing = Unit {0}
IsEnd (unclosed s) = AllByRecursion IsCharacter s
IsEnd (unclosed_escape s) = AllByRecursion IsCharacter s

-- the text is these parts, one behind another, and this end
pub record IsMadeOf (text : List ℕ) (parts : List Part) (end : End) : Type 0 where
  pub are_parts : AllByRecursion IsPart parts
  pub is_end : IsEnd end
  pub spells : text ≡ flat_map spelled parts ++ spelled_end end

-- what a part leaves outside of strings: the byte, or the opening quote of the string
abbrev pub outside_of : Part → ℕ
outside_of (byte b) = b
outside_of (string s) = 34

abbrev pub outside_of_end : End → List ℕ
outside_of_end nothing = []
outside_of_end (unclosed s) = 34 ∷ []
outside_of_end (unclosed_escape s) = 34 ∷ []

-- the same of all parts and the end
abbrev pub all_outside : List Part → End → List ℕ
all_outside parts end = map outside_of parts ++ outside_of_end end

-- no byte begins a number
abbrev pub NoneBegins : List ℕ → Type 0
NoneBegins bytes = AllByRecursion (λ c. begins_run c ≡ false) bytes

-- a byte that begins a number, and then bytes of numbers
abbrev pub IsRun : List ℕ → Type 0
IsRun [] = ⊥
IsRun (c ∷ cs) = (begins_run c ≡ true) × AllByRecursion (λ d. is_run_byte d ≡ true) cs

-- nothing, or a byte first that is none of a number
abbrev pub EndsRun : List ℕ → Type 0
EndsRun [] = Unit {0}
EndsRun (c ∷ cs) = is_run_byte c ≡ false

-- the text is these runs, with bytes before each and behind the last that begin no number; no run can be longer
abbrev pub HasRuns : List ℕ → List (List ℕ) → Type 0
HasRuns text [] = NoneBegins text
HasRuns text (run ∷ more) =
    (before rest : List ℕ) × (text ≡ before ++ (run ++ rest)) × NoneBegins before × IsRun run × EndsRun rest × HasRuns rest more

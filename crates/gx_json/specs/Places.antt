-- The text outside of strings, for a reader that stands at some place.
use Rattle.std.specs.Prelude.{◌≡◌, ◌==◌, ℕ, List, ◌∷◌, ◌++◌, take, drop, if◌then◌else◌}
use Rattle.gx_json.specs.declared.scan.Place.{Place}
use Rattle.gx_json.specs.declared.scan.Place.TheVariants.{Outside, Inside, Escaped}
use Rattle.gx_json.specs.Scan.{outside, inside, escaped, runs, runs_from}

abbrev pub kept : Place → List ℕ → List ℕ
kept Outside rest = outside rest
kept Inside rest = inside rest
kept Escaped rest = escaped rest

abbrev pub next_place : Place → ℕ → Place
next_place Outside c = if c == 34 then Inside else Outside
next_place Inside c = if c == 34 then Outside else (if c == 92 then Escaped else Inside)
next_place Escaped c = Inside

-- So many bytes of a number stand in front: they end a run that has begun, whatever it is so far.
abbrev pub RunsFor : ℕ → List ℕ → Type 0
RunsFor count text = (run : List ℕ) → runs_from run text ≡ (run ++ take count text) ∷ runs (drop count text)

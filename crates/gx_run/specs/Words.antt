-- The words that the program is called with.
use Rattle.std.specs.Prelude.{ℕ, true, false, ◌&&◌, if◌then◌else◌, List, [], ◌∷◌, codes, Option, Some, None}
use Rattle.std.specs.Str.{bytes_eq}
use Rattle.gx_run.specs.declared.words.Command.{Command}
use Rattle.gx_run.specs.declared.words.Command.TheVariants.{Init, Run, Try}

-- The command of the words:
--     try     init FILE     run FILE     init FILE --overwrite
-- There is none for other words.
abbrev pub command_of : List (List ℕ) → Option Command
command_of [] = None
command_of (word ∷ []) = if bytes_eq word (codes "try") then Some Try else None
command_of (word ∷ file ∷ []) = if bytes_eq word (codes "init") then Some (Init false) else (if bytes_eq word (codes "run") then Some Run else None)
command_of (word ∷ file ∷ option ∷ []) = if bytes_eq word (codes "init") && bytes_eq option (codes "--overwrite") then Some (Init true) else None
command_of (word ∷ file ∷ option ∷ more ∷ words) = None

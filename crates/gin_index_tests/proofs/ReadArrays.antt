-- What is read as an array has int4 for its elements.
use Rattle.std.proofs.Common.{ℕ, ℤ, List, [], ◌∷◌, Result, Ok, Err, IfOk}
use Rattle.gx_bytes.specs.declared.error.ValueError.{ValueError}
use Rattle.gx_bytes.specs.declared.error.ValueError.TheVariants.{NoValue, OutOfRange, TooDeep, Memory}
use Rattle.gx_intarr.specs.Arrays.{IsArray, AreNumbers, AnswersArray}

are_int4 : (texts : List (List ℕ)) (items : List ℤ) → AreNumbers texts items → IsArray items
are_int4 [] [] h = tt
are_int4 [] (n ∷ items) h = absurd h
are_int4 (t ∷ texts) [] h = absurd h
are_int4 (t ∷ texts) (n ∷ items) h = (h.0.1, are_int4 texts items h.1)

pub is_array : (text : List ℕ) (r : Result (List ℤ) ValueError) → AnswersArray text r → IfOk r IsArray
is_array text (Ok items) h = are_int4 h.texts items h.numbers
is_array text (Err NoValue) h = tt
is_array text (Err OutOfRange) h = tt
is_array text (Err TooDeep) h = absurd h
is_array text (Err Memory) h = tt

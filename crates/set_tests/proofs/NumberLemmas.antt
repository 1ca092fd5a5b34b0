-- Numbers that were read are int4.
use Rattle.std.proofs.Common.{ℕ, List, [], ◌∷◌, ℤ}
use Rattle.gx_intarr.specs.Arrays.{IsArray, AreNumbers}

pub are_int4 : (texts : List (List ℕ)) (items : List ℤ) → AreNumbers texts items → IsArray items
are_int4 [] [] read = tt
are_int4 [] (n ∷ items) read = absurd read
are_int4 (text ∷ texts) [] read = absurd read
are_int4 (text ∷ texts) (n ∷ items) read = (read.0.1, are_int4 texts items read.1)

-- What checks find, one list behind another.
use Rattle.std.proofs.Common.{inl, inr, ℕ, List, [], ◌∷◌, ◌++◌, Option, Some, None, refl}
use Rattle.gx_model.specs.Checks.{Check, Find}
use Rattle.gx_model.specs.Refusals.{Refuses}
use Rattle.gx_model.specs.declared.refusal.Refusal.{Refusal}
use Rattle.gx_model.specs.declared.refusal.Refusal.TheVariants.{Fault, Memory}

-- behind checks that pass
pub find_behind : (front rest : List Check) (found : Option ℕ) → Find front None → Find rest found → Find (front ++ rest) found
find_behind [] rest found p q = q
find_behind (c ∷ cs) rest found (inl p) q = inl (p.0, find_behind cs rest found p.1 q)
find_behind (c ∷ cs) rest found (inr p) q = cc

-- a fault in front
pub find_front : (front rest : List Check) (n : ℕ) → Find front (Some n) → Find (front ++ rest) (Some n)
find_front [] rest n p = cc
find_front (c ∷ cs) rest n (inl p) = inl (p.0, find_front cs rest n p.1)
find_front (c ∷ cs) rest n (inr p) = inr p

-- checks that all pass are passed in front and behind
pub found_front : (front rest : List Check) → Find (front ++ rest) None → Find front None
found_front [] rest p = refl
found_front (c ∷ cs) rest (inl p) = inl (p.0, found_front cs rest p.1)
found_front (c ∷ cs) rest (inr p) = cc

pub refuse_behind : (front rest : List Check) (r : Refusal) → Find front None → Refuses rest r → Refuses (front ++ rest) r
refuse_behind front rest (Fault n) p q = find_behind front rest (Some n) p q
refuse_behind front rest Memory p q = tt

pub refuse_front : (front rest : List Check) (r : Refusal) → Refuses front r → Refuses (front ++ rest) r
refuse_front front rest (Fault n) p = find_front front rest n p
refuse_front front rest Memory p = tt

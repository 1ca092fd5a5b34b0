-- What is cut of a front of a script is cut of the whole.
use Rattle.std.proofs.Common.{◌≡◌, ℕ, Bool, true, false, cond, List, [], ◌∷◌, ◌++◌, refl, sym, ◌∙◌, ap, subst, append_assoc}
use Rattle.gx_lexer.specs.declared.cutter.Mode.{Mode}
use Rattle.gx_lexer.specs.Cut.{Cuts, mode_after, ends, onto_first, onto, and_piece, cut_in, cut, statements}

-- the pieces of q begin with those of p
abbrev Begins : Cuts → Cuts → Type 0
Begins p q = (more : List (List ℕ)) × (q.pieces ≡ p.pieces ++ more)

onto_begins_at : (b : ℕ) (ps qs more : List (List ℕ)) (r s : List ℕ) → qs ≡ ps ++ more → Begins (onto_first b ps r) (onto_first b qs s)
onto_begins_at b [] qs more r s e = ((onto_first b qs s).pieces, refl)
onto_begins_at b (p ∷ ps) qs more r s e = (more, rw e refl)

onto_begins : (b : ℕ) (p q : Cuts) → Begins p q → Begins (onto b p) (onto b q)
onto_begins b p q h = onto_begins_at b p.pieces q.pieces h.0 p.rest q.rest h.1

at_byte : (t : Bool) (b : ℕ) (p q : Cuts) → Begins p q → Begins (cond t (and_piece [] p) (onto b p)) (cond t (and_piece [] q) (onto b q))
at_byte true b p q h = (h.0, ap (λ (ps : List (List ℕ)). [] ∷ ps) h.1)
at_byte false b p q h = onto_begins b p q h

begins : (mode : Mode) (bs more : List ℕ) → Begins (cut_in mode bs) (cut_in mode (bs ++ more))
unfolding cut_in
begins mode [] more = ((cut_in mode more).pieces, refl)
begins mode (b ∷ bs) more = at_byte (ends mode b) b (cut_in (mode_after mode b) bs) (cut_in (mode_after mode b) (bs ++ more)) (begins (mode_after mode b) bs more)

pub cut_front : (front more : List ℕ) → Begins (cut front) (cut (front ++ more))
cut_front front more = begins _ front more

-- the pieces of a front are the first statements of the whole
pub first_statements : (script front left : List ℕ) → script ≡ front ++ left → (more : List (List ℕ)) × (statements script ≡ (cut front).pieces ++ more)
first_statements script front left e =
    let k = cut_front front left in
    let rest : List (List ℕ) = (cut (front ++ left)).rest ∷ [] in
    let P : List ℕ → Type 0 = λ s. (more : List (List ℕ)) × (statements s ≡ (cut front).pieces ++ more) in
    subst P (sym e) (k.0 ++ rest, ap (λ (ps : List (List ℕ)). ps ++ rest) k.1 ∙ append_assoc (cut front).pieces k.0 rest)

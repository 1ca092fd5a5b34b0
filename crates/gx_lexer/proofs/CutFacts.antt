-- The cut, byte by byte.
use Rattle.std.proofs.Common.{◌≡◌, ℕ, Bool, true, false, cond, List, [], ◌∷◌, ◌++◌, fold, refl, ◌∙◌, ap}
use Rattle.gx_lexer.specs.declared.cutter.Mode.{Mode}
use Rattle.gx_lexer.specs.Cut.{Cuts, mode_after, ends, onto_first, onto, and_piece, cut_in, cut}

-- bytes put onto a cut, one by one, the last one first
abbrev pub prefixed : List ℕ → Cuts → Cuts
prefixed [] p = p
prefixed (b ∷ bs) p = onto b (prefixed bs p)

pub prefixed-append : (xs ys : List ℕ) (p : Cuts) → prefixed (xs ++ ys) p ≡ prefixed xs (prefixed ys p)
prefixed-append [] ys p = refl
prefixed-append (x ∷ xs) ys p = ap (λ (q : Cuts). onto x q) (prefixed-append xs ys p)

pub prefixed_piece : (bs piece : List ℕ) (p : Cuts) → prefixed bs (and_piece piece p) ≡ and_piece (bs ++ piece) p
prefixed_piece [] piece p = refl
prefixed_piece (b ∷ bs) piece p = rw (prefixed_piece bs piece p) refl

pub prefixed_rest : (bs rest : List ℕ) → prefixed bs (record { pieces = []; rest = rest }) ≡ record { pieces = []; rest = bs ++ rest }
prefixed_rest [] rest = refl
prefixed_rest (b ∷ bs) rest = rw (prefixed_rest bs rest) refl

pub cut_end : (b : ℕ) (bs : List ℕ) → b ≡ 59 → cut (b ∷ bs) ≡ and_piece [] (cut bs)
unfolding cut_in
cut_end b bs e = rw e refl

-- a byte behind a cut, which ends its last piece or belongs to it
abbrev pub and_byte : Bool → Cuts → ℕ → Cuts
and_byte true c b = record { pieces = c.pieces ++ c.rest ∷ []; rest = [] }
and_byte false c b = record { pieces = c.pieces; rest = c.rest ++ b ∷ [] }

onto_byte : (t : Bool) (x b : ℕ) (ps : List (List ℕ)) (r : List ℕ)
    → onto x (and_byte t (record { pieces = ps; rest = r }) b) ≡ and_byte t (onto_first x ps r) b
onto_byte true x b [] r = refl
onto_byte true x b (p ∷ ps) r = refl
onto_byte false x b [] r = refl
onto_byte false x b (p ∷ ps) r = refl

over : (e t : Bool) (x b : ℕ) (c : Cuts)
    → cond e (and_piece [] (and_byte t c b)) (onto x (and_byte t c b)) ≡ and_byte t (cond e (and_piece [] c) (onto x c)) b
over true true x b c = refl
over true false x b c = refl
over false t x b c = onto_byte t x b c.pieces c.rest

at_end : (t : Bool) (b : ℕ) → cond t (and_piece [] (record { pieces = []; rest = [] })) (onto b (record { pieces = []; rest = [] })) ≡ and_byte t (record { pieces = []; rest = [] }) b
at_end true b = refl
at_end false b = refl

pub one_more : (mode : Mode) (bs : List ℕ) (b : ℕ) → cut_in mode (bs ++ b ∷ []) ≡ and_byte (ends (fold mode_after mode bs) b) (cut_in mode bs) b
unfolding cut_in
one_more mode [] b = at_end (ends mode b) b
one_more mode (x ∷ bs) b =
    ap (λ (c : Cuts). cond (ends mode x) (and_piece [] c) (onto x c)) (one_more (mode_after mode x) bs b)
    ∙ over (ends mode x) (ends (fold mode_after (mode_after mode x) bs) b) x b (cut_in (mode_after mode x) bs)

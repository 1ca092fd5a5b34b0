-- Texts cut at a byte, and split into pieces.
use Rattle.std.proofs.Common.{◌≡◌, ◌≢◌, ℕ, List, [], ◌∷◌, ◌++◌, None, Some, All, refl, sym, ap, ap₂, ◌∙◌, subst, eq-eqb, ne_eqb, append_assoc}
use Rattle.std.specs.List.{AllZip}
use Rattle.std.proofs.lemmas.List.Elements.{All-head, All-tail}
use Rattle.gx_bytes.specs.Blanks.{CutsAt}
use Rattle.gx_lquery.specs.Text.{split, cut}

cut_at_first : (c : ℕ) (front rest : List ℕ) → All (λ x. x ≢ c) front → cut c (front ++ c ∷ rest) ≡ Some (front, rest)
cut_at_first c [] rest none = rw (eq-eqb c c refl) refl
cut_at_first c (x ∷ front) rest none =
    rw (ne_eqb x c (All-head (λ y. y ≢ c) x front none), cut_at_first c front rest (All-tail (λ y. y ≢ c) x front none)) refl

pub cut_found : (c : ℕ) (text front rest : List ℕ) → CutsAt c text front rest → cut c text ≡ Some (front, rest)
cut_found c text front rest h = ap (cut c) h.parts ∙ cut_at_first c front rest h.absent

pub cut_none : (c : ℕ) (text : List ℕ) → All (λ x. x ≢ c) text → cut c text ≡ None
cut_none c [] none = refl
cut_none c (x ∷ text) none =
    rw (ne_eqb x c (All-head (λ y. y ≢ c) x text none), cut_none c text (All-tail (λ y. y ≢ c) x text none)) refl

split_at_first : (c : ℕ) (front rest : List ℕ) → All (λ x. x ≢ c) front → split c (front ++ c ∷ rest) ≡ front ∷ split c rest
split_at_first c [] rest none = rw (eq-eqb c c refl) refl
split_at_first c (x ∷ front) rest none =
    rw (ne_eqb x c (All-head (λ y. y ≢ c) x front none), split_at_first c front rest (All-tail (λ y. y ≢ c) x front none)) refl

pub split_found : (c : ℕ) (text front rest : List ℕ) → CutsAt c text front rest → split c text ≡ front ∷ split c rest
split_found c text front rest h = ap (split c) h.parts ∙ split_at_first c front rest h.absent

pub split_none : (c : ℕ) (text : List ℕ) → All (λ x. x ≢ c) text → split c text ≡ text ∷ []
split_none c [] none = refl
split_none c (x ∷ text) none =
    rw (ne_eqb x c (All-head (λ y. y ≢ c) x text none), split_none c text (All-tail (λ y. y ≢ c) x text none)) refl

zip_push : {B : Type 0} (R : List ℕ → B → Type 0) (ps : List (List ℕ)) (vs : List B) (p : List ℕ) (v : B) → AllZip R ps vs → R p v → AllZip R (ps ++ p ∷ []) (vs ++ v ∷ [])
zip_push R [] [] p v a r = (r, tt)
zip_push R [] (w ∷ vs) p v a r = absurd a
zip_push R (q ∷ ps) [] p v a r = absurd a
zip_push R (q ∷ ps) (w ∷ vs) p v a r = (a.0, zip_push R ps vs p v a.1 r)

zip_none : {B : Type 0} (R : List ℕ → B → Type 0) (ps : List (List ℕ)) (p : List ℕ) (more : List (List ℕ)) (vs : List B) → ((v : B) → R p v → ⊥) → AllZip R (ps ++ p ∷ more) vs → ⊥
zip_none R [] p more [] none a = a
zip_none R [] p more (v ∷ vs) none a = none v a.0
zip_none R (q ∷ ps) p more [] none a = a
zip_none R (q ∷ ps) p more (v ∷ vs) none a = zip_none R ps p more vs none a.1

-- the pieces read so far have these values
pub record HasSplit {B : Type 0} (R : List ℕ → B → Type 0) (c : ℕ) (text rest : List ℕ) (values : List B) : Type 0 where
  pub done : List (List ℕ)
  pub parts : split c text ≡ done ++ split c rest
  pub each : AllZip R done values

pub split_start : {B : Type 0} (R : List ℕ → B → Type 0) (c : ℕ) (text : List ℕ) → HasSplit R c text text []
split_start R c text = record { done = []; parts = refl; each = tt }

pub split_more : {B : Type 0} (R : List ℕ → B → Type 0) (c : ℕ) (text rest piece after : List ℕ) (values : List B) (v : B) → HasSplit R c text rest values → CutsAt c rest piece after → R piece v → HasSplit R c text after (values ++ v ∷ [])
split_more R c text rest piece after values v h cuts r = record {
  done = h.done ++ piece ∷ [];
  parts = h.parts ∙ ap (λ (t : List (List ℕ)). h.done ++ t) (split_found c rest piece after cuts) ∙ sym (append_assoc h.done (piece ∷ []) (split c after));
  each = zip_push R h.done values piece v h.each r;
}

pub split_last : {B : Type 0} (R : List ℕ → B → Type 0) (c : ℕ) (text rest : List ℕ) (values : List B) (v : B) → HasSplit R c text rest values → All (λ x. x ≢ c) rest → R rest v → AllZip R (split c text) (values ++ v ∷ [])
split_last R c text rest values v h none r =
    let parts : split c text ≡ h.done ++ rest ∷ [] = h.parts ∙ ap (λ (t : List (List ℕ)). h.done ++ t) (split_none c rest none) in
    subst (λ (ps : List (List ℕ)). AllZip R ps (values ++ v ∷ [])) (sym parts) (zip_push R h.done values rest v h.each r)

-- where a piece has no value, the text has none
pub split_wrong : {B : Type 0} (R : List ℕ → B → Type 0) (c : ℕ) (text rest piece after : List ℕ) (values : List B) → HasSplit R c text rest values → CutsAt c rest piece after → ((v : B) → R piece v → ⊥) → (all : List B) → AllZip R (split c text) all → ⊥
split_wrong R c text rest piece after values h cuts none all a =
    let parts : split c text ≡ h.done ++ piece ∷ split c after = h.parts ∙ ap (λ (t : List (List ℕ)). h.done ++ t) (split_found c rest piece after cuts) in
    zip_none R h.done piece (split c after) all none (subst (λ (ps : List (List ℕ)). AllZip R ps all) parts a)

pub split_wrong_last : {B : Type 0} (R : List ℕ → B → Type 0) (c : ℕ) (text rest : List ℕ) (values : List B) → HasSplit R c text rest values → All (λ x. x ≢ c) rest → ((v : B) → R rest v → ⊥) → (all : List B) → AllZip R (split c text) all → ⊥
split_wrong_last R c text rest values h whole none all a =
    let parts : split c text ≡ h.done ++ rest ∷ [] = h.parts ∙ ap (λ (t : List (List ℕ)). h.done ++ t) (split_none c rest whole) in
    zip_none R h.done rest [] all none (subst (λ (ps : List (List ℕ)). AllZip R ps all) parts a)

-- two lists of values of the same pieces are one
pub one_zip : {B : Type 0} (R : List ℕ → B → Type 0) → ((p : List ℕ) (v w : B) → R p v → R p w → v ≡ w) → (ps : List (List ℕ)) (vs ws : List B) → AllZip R ps vs → AllZip R ps ws → vs ≡ ws
one_zip R one [] [] [] a b = refl
one_zip R one [] (v ∷ vs) ws a b = absurd a
one_zip R one [] [] (w ∷ ws) a b = absurd b
one_zip R one (p ∷ ps) [] ws a b = absurd a
one_zip R one (p ∷ ps) (v ∷ vs) [] a b = absurd b
one_zip R one (p ∷ ps) (v ∷ vs) (w ∷ ws) a b = ap₂ (λ x xs. x ∷ xs) (one p v w a.0 b.0) (one_zip R one ps vs ws a.1 b.1)

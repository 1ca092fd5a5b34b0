-- What a reader of a list has read: any reading of the whole goes on from there.
use Rattle.std.proofs.Common.{◌≡◌, ℕ, List, [], ◌∷◌, ◌++◌, sym, ap, ◌∙◌, subst, append_assoc, append-nil, Option, None, Some, MatchOption}

-- R says what a text spells; `done` is read, and `rest` comes behind it.
pub record Continues {X : Type 0} (R : List ℕ → List X → Type 0) (text : List ℕ) (done : List X) (rest : List ℕ) : Type 0 where
  pub found : (later : List X) → R rest later → R text (done ++ later)
  pub only : (all : List X) → R text all → (later : List X) × R rest later × (all ≡ done ++ later)

-- one element more
pub step : {X : Type 0} (R : List ℕ → List X → Type 0) (text rest more : List ℕ) (done : List X) (x : X) → Continues R text done rest
    → ((later : List X) → R more later → R rest (x ∷ later)) → ((all : List X) → R rest all → (later : List X) × R more later × (all ≡ x ∷ later)) → Continues R text (done ++ x ∷ []) more
step R text rest more done x h f o = record {
  found = λ later r. subst (R text) (sym (append_assoc done (x ∷ []) later)) (h.found (x ∷ later) (f later r));
  only = λ all r.
      let behind = h.only all r in
      let next = o behind.0 behind.1 in
      (next.0, next.1, behind.2 ∙ ap (λ l. done ++ l) next.2 ∙ sym (append_assoc done (x ∷ []) next.0));
}

-- nothing comes behind what is read
pub ended : {X : Type 0} (R : List ℕ → List X → Type 0) (text rest : List ℕ) (done : List X) → Continues R text done rest → R rest [] → R text done
ended R text rest done h r = subst (R text) (append-nil done) (h.found [] r)

-- the rest spells nothing, and so the text doesn't
pub refused : {X : Type 0} (R : List ℕ → List X → Type 0) (text rest : List ℕ) (done : List X) → Continues R text done rest → ((later : List X) → R rest later → ⊥) → (all : List X) → R text all → ⊥
refused R text rest done h none all r = let behind = h.only all r in none behind.0 behind.1

pub match_weaker : {X P P' : Type 0} {Q Q' : X → Type 0} (o : Option X) → MatchOption o P Q → (P → P') → ((x : X) → Q x → Q' x) → MatchOption o P' Q'
match_weaker None m p q = p m
match_weaker (Some x) m p q = q x m

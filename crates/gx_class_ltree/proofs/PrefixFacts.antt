-- The prefixes of a path one by one.
use Rattle.std.proofs.Common.{◌≡◌, ℕ, zero, suc, ◌+◌, ◌≤◌, Bool, true, false, ◌||◌, List, [], ◌∷◌, length, take, drop, map, refl, sym, ap, ap₂, ◌∙◌, arith, add-one}
use Rattle.std.proofs.lemmas.List.{take_all}
use Rattle.std.specs.List.{list_any}
use Rattle.gx_class_ltree.specs.Tests.{prefixes}

drop-mapped : (label : List ℕ) (k : ℕ) (ps : List (List (List ℕ))) → drop k (map (λ s. label ∷ s) ps) ≡ map (λ s. label ∷ s) (drop k ps)
drop-mapped label zero ps = refl
drop-mapped label (suc k) [] = refl
drop-mapped label (suc k) (p ∷ ps) = drop-mapped label k ps

pub prefix_at : (k : ℕ) (path : List (List ℕ)) → k ≤ length path → drop k (prefixes path) ≡ take k path ∷ drop (suc k) (prefixes path)
prefix_at zero [] h = refl
prefix_at zero (label ∷ path) h = refl
prefix_at (suc k) [] h = absurd (omega (arith, h))
prefix_at (suc k) (label ∷ path) h =
    drop-mapped label k (prefixes path) ∙ ap (map (λ s. label ∷ s)) (prefix_at k path (omega (arith, h)))
    ∙ ap (λ (ps : List (List (List ℕ))). (label ∷ take k path) ∷ ps) (sym (drop-mapped label (suc k) (prefixes path)))

pub no_more : (path : List (List ℕ)) → drop (suc (length path)) (prefixes path) ≡ []
no_more [] = refl
no_more (label ∷ path) = drop-mapped label (suc (length path)) (prefixes path) ∙ ap (map (λ s. label ∷ s)) (no_more path)

-- Whether one of them passes.
pub found_here : (f : List (List ℕ) → Bool) (path : List (List ℕ)) (k : ℕ) (all b : Bool) → k ≤ length path → all ≡ list_any f (drop k (prefixes path)) → b ≡ f (take k path) → b ≡ true → true ≡ all
found_here f path k all b h e g t =
    sym (e ∙ ap (list_any f) (prefix_at k path h) ∙ ap (λ (x : Bool). x || list_any f (drop (suc k) (prefixes path))) (sym g ∙ t))

pub not_here : (f : List (List ℕ) → Bool) (path : List (List ℕ)) (k : ℕ) (all b : Bool) → k ≤ length path → all ≡ list_any f (drop k (prefixes path)) → b ≡ f (take k path) → b ≡ false
    → all ≡ list_any f (drop (k + 1) (prefixes path))
not_here f path k all b h e g t =
    e ∙ ap (list_any f) (prefix_at k path h) ∙ ap (λ (x : Bool). x || list_any f (drop (suc k) (prefixes path))) (sym g ∙ t) ∙ ap (λ (n : ℕ). list_any f (drop n (prefixes path))) (sym (add-one k))

or_false : (b : Bool) → (b || false) ≡ b
or_false true = refl
or_false false = refl

pub last_here : (f : List (List ℕ) → Bool) (path : List (List ℕ)) (k : ℕ) (all b : Bool) → k ≡ length path → all ≡ list_any f (drop k (prefixes path)) → b ≡ f path → b ≡ all
last_here f path k all b same e g =
    let end : drop (length path) (prefixes path) ≡ path ∷ [] =
    prefix_at (length path) path (omega arith) ∙ ap₂ (λ (p : List (List ℕ)) (ps : List (List (List ℕ))). p ∷ ps) (take_all (length path) path (omega arith)) (no_more path) in
    sym (e ∙ ap (λ (n : ℕ). list_any f (drop n (prefixes path))) same ∙ ap (list_any f) end ∙ or_false (f path) ∙ sym g)

-- Steps over two lists of labels, and over printed labels.
use Rattle.std.proofs.Common.{◌≡◌, ◌==◌, ℕ, suc, ◌-◌, ◌<◌, ◌≤◌, Bool, true, false, not, bytes_eq, List, [], ◌∷◌, ◌++◌, length, get_or, take, drop, Result, is_ok, OnOk, ◌↔◌, refl, sym, ap, ap₂, ◌∙◌, arith, true≢false, ne_eqb, Ok, Err}
use Rattle.std.proofs.lemmas.List.{take_all}
use Rattle.std.proofs.lemmas.Slice.Eq.{bytes_eq-Decides}
use Rattle.gx_ltree.specs.Operators.{IsPrefix}
use Rattle.gx_ltree.specs.Text.{printed, dots}
use Rattle.gx_ltree.proofs.TextLemmas.{printed_parts}

-- the elements behind the first
abbrev pub rest_of : List (List ℕ) → List (List ℕ)
rest_of xs = take (length xs - 1) (drop 1 xs)

rest_is : (x : List ℕ) (xs : List (List ℕ)) → rest_of (x ∷ xs) ≡ xs
rest_is x xs = take_all (suc (length xs) - 1) xs (omega arith)

first_is : (x : List ℕ) (a : List ℕ) (xs : List (List ℕ)) → x ≡ get_or (a ∷ xs) 0 x → x ≡ a
first_is x a xs e = e

pub prefix_step : (a b : List (List ℕ)) (x y : List ℕ) → 1 ≤ length a → 1 ≤ length b → x ≡ get_or a 0 x → y ≡ get_or b 0 y → x ≡ y → IsPrefix (rest_of a) (rest_of b) ↔ IsPrefix a b
prefix_step [] b x y some more p q e = absurd (omega arith)
prefix_step (x' ∷ a) [] x y some more p q e = absurd (omega arith)
prefix_step (x' ∷ a) (y' ∷ b) x y some more p q e =
    let head : y' ≡ x' = sym q ∙ sym e ∙ p in (
      λ h. (h.0, ap₂ (λ (c : List ℕ) (cs : List (List ℕ)). c ∷ cs) head (sym (rest_is y' b) ∙ h.1 ∙ ap (λ (t : List (List ℕ)). t ++ h.0) (rest_is x' a))),
      λ h. (h.0, rest_is y' b ∙ (let tails : y' ∷ b ≡ x' ∷ (a ++ h.0) = h.1 in let behind : b ≡ a ++ h.0 = cc in behind) ∙ ap (λ (t : List (List ℕ)). t ++ h.0) (sym (rest_is x' a))),
    )

-- what a call says that was Ok
pub on_ok : {T E : Type 0} (r : Result T E) (P : Type 0) → is_ok r ≡ true → OnOk r P → P
on_ok (Ok x) P e p = p
on_ok (Err e) P wrong p = absurd (true≢false (sym wrong))

-- bytes that aren't told apart are the same
pub same_bytes : (a b : List ℕ) (r : Bool) → r ≡ not (bytes_eq a b) → r ≡ false → a ≡ b
same_bytes a b r e f = (bytes_eq-Decides a b).0 (go (bytes_eq a b) (sym e ∙ f))
  where
    go : (x : Bool) → not x ≡ false → x ≡ true
    go true e = refl
    go false e = sym e

pub empty_after : (t : List ℕ) → true ≡ (length t == 0) → length t ≡ 0
empty_after [] e = refl
empty_after (x ∷ t) e = absurd (true≢false (e ∙ ne_eqb (length (x ∷ t)) 0 (omega arith)))

pub more_after : (t : List ℕ) → false ≡ (length t == 0) → 0 < length t
more_after [] e = absurd (true≢false (sym e))
more_after (x ∷ t) e = omega arith

-- a first label and the others behind dots
pub printed_first : (labels : List (List ℕ)) (first : List ℕ) → 1 ≤ length labels → first ≡ get_or labels 0 first → first ++ dots (rest_of labels) ≡ printed labels
printed_first [] first some e = absurd (omega arith)
printed_first (x ∷ labels) first some e = ap₂ (λ (a b : List ℕ). a ++ b) e (ap dots (rest_is x labels)) ∙ sym (printed_parts x labels)

pub prefix_all : (a b : List (List ℕ)) → length a < 1 → IsPrefix a b
prefix_all [] b e = (b, refl)
prefix_all (x ∷ a) b e = absurd (omega arith)

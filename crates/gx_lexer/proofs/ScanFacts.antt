-- A word that is folded into an array, and a text that is found whole.
use Rattle.std.proofs.Common.{◌≡◌, ℕ, ◌+◌, ◌-◌, ◌<◌, Bool, not, ◌==◌, false, List, [], ◌∷◌, ◌++◌, length, map, take, drop, get_or, set, Some, refl, sym, ◌∙◌, ap, subst, arith}
use Rattle.std.specs.List.{prefix_len}
use Rattle.std.proofs.lemmas.Grind.{common_steps}
use Rattle.std.proofs.lemmas.List.{take_more, take_more_set, map-append, length-set}
use Rattle.gx_lexer.specs.declared.token.Token.TheVariants.{Text}
use Rattle.gx_lexer.specs.Letters.{folded}
use Rattle.gx_lexer.specs.Tokens.{text_of}
use Rattle.gx_lexer.proofs.QuoteFacts.{found_plain}

-- the array has 63 bytes, of which the first are those of the word so far
pub record FoldedTo (word others : List ℕ) (first i : ℕ) : Type 0 where
  pub size : length word ≡ 63
  pub front : take (i + 1) word ≡ map folded (first ∷ take i others)

pub folded_more : (word others : List ℕ) (first i r : ℕ) → length others < 63 → i < length others → r ≡ folded (get_or others i 0) → FoldedTo word others first i
    → FoldedTo (set word (i + 1) r) others first (i + 1)
folded_more word others first i r few l e f =
    let s = f.size in
    let below : i + 1 < length word = omega arith in
    let more : map folded (first ∷ take (i + 1) others) ≡ map folded (first ∷ take i others) ++ r ∷ [] =
    ap (λ (xs : List ℕ). map folded (first ∷ xs)) (take_more others i 0 l) ∙ map-append folded (first ∷ take i others) (get_or others i 0 ∷ []) ∙ ap (λ (x : ℕ). map folded (first ∷ take i others) ++ x ∷ []) (sym e) in
    record {
      size = length-set word (i + 1) r ∙ s;
      front = take_more_set word (i + 1) r below ∙ ap (λ (xs : List ℕ). xs ++ r ∷ []) f.front ∙ sym more;
    }

slice_from : (bs : List ℕ) (n : ℕ) → take (length bs - n) (drop n bs) ≡ drop n bs
slice_from bs n = grind (arith, common_steps)

pub text_plain : (bs text : List ℕ) (n : ℕ) (r : Bool) → n ≡ prefix_len (λ b. not (b == 39)) bs → n < length bs → r ≡ (get_or (take (length bs - (n + 1)) (drop (n + 1) bs)) 0 0 == 39) → r ≡ false
    → text ≡ take n bs → (Some (Text text), n + 1) ≡ text_of bs
text_plain bs text n r is l e f t =
    let P : List ℕ → Type 0 = λ xs. (get_or xs 0 0 == 39) ≡ false in
    ap (λ (x : List ℕ). (Some (Text x), n + 1)) t ∙ sym (found_plain bs n is l (subst P (slice_from bs (n + 1)) (sym e ∙ f)))

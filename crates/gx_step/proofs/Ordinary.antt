-- Replies with a space are neither empty nor that to CHECKPOINT.
use Rattle.std.proofs.Common.{◌≡◌, ◌≢◌, ℕ, ◌==◌, Bool, true, false, ◌||◌, List, [], ◌∷◌, ◌++◌, refl, ◌∙◌, ap, subst}
use Rattle.std.specs.Prelude.{codes}
use Rattle.std.proofs.lemmas.List.Folds.{list_any-append}
use Rattle.std.proofs.lemmas.List.{append_cancel_right}
use Rattle.std.specs.Fmt.{decimal}
use Rattle.gx_model.specs.Replies.{Reply, accepted, line, refusal, syntax_error}
use Rattle.gx_step.specs.Doing.{IsOrdinary, has_space}

or_true : (b : Bool) → (b || true) ≡ true
or_true true = refl
or_true false = refl

clash : false ≡ true → ⊥
clash e = cc

pub in_front : (xs ys : List ℕ) → has_space xs ≡ true → has_space (xs ++ ys) ≡ true
in_front xs ys h = list_any-append (λ b. b == 32) xs ys ∙ ap (λ (c : Bool). c || has_space ys) h

pub in_back : (xs ys : List ℕ) → has_space ys ≡ true → has_space (xs ++ ys) ≡ true
in_back xs ys h = list_any-append (λ b. b == 32) xs ys ∙ (ap (λ (c : Bool). has_space xs || c) h ∙ or_true (has_space xs))

pub with_space : (reply : Reply) → has_space reply.bytes ≡ true → IsOrdinary reply
with_space reply h = record {
  some = λ e. clash (subst (λ (xs : List ℕ). has_space xs ≡ true) e h);
  other = λ e. clash (subst (λ (xs : List ℕ). has_space xs ≡ true) e h);
}

pub counted : (lines word : List ℕ) (n : ℕ) → has_space word ≡ true → IsOrdinary (accepted (lines ++ line (word ++ decimal n)))
counted lines word n h = with_space _ (in_back lines (line (word ++ decimal n)) (in_front (word ++ decimal n) (10 ∷ []) (in_front word (decimal n) h)))

pub refused : (n : ℕ) → IsOrdinary (refusal n)
refused n = with_space _ (in_front (codes "ERROR E" ++ decimal n) (10 ∷ []) (in_front (codes "ERROR E") (decimal n) refl))

pub wrong : (at : ℕ) → IsOrdinary (syntax_error at)
wrong at = with_space _ (in_front (codes "ERROR E1 AT " ++ decimal at) (10 ∷ []) (in_front (codes "ERROR E1 AT ") (decimal at) refl))

-- a line that isn't CHECKPOINT's
pub told : (text : List ℕ) → text ≢ codes "CHECKPOINT" → IsOrdinary (accepted (line text))
told text h = record { some = not_empty text; other = λ e. h (append_cancel_right text (codes "CHECKPOINT") (10 ∷ []) e) }
  where
    not_empty : (xs : List ℕ) → (xs ++ 10 ∷ []) ≢ []
    not_empty [] = λ e. cc
    not_empty (x ∷ xs) = λ e. cc

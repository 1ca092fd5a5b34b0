-- Lists of so many words.
use Rattle.std.proofs.Common.{◌≡◌, ℕ, ◌<◌, ◌≤◌, List, [], ◌∷◌, length, get_or, map, String, sym, ◌∙◌, ap, arith}
use Rattle.std.specs.Global.{Global}
use Rattle.std.specs.String.{string_bytes}

pub one_word : (ws : List (String Global)) (w : String Global) → 1 ≤ length ws → length ws < 2 → w ≡ get_or ws 0 w → map string_bytes ws ≡ string_bytes w ∷ []
one_word [] w a b d = absurd (omega arith)
one_word (x ∷ []) w a b d = ap (λ (s : String Global). string_bytes s ∷ []) (sym d)
one_word (x ∷ y ∷ ws) w a b d = absurd (omega arith)

pub two_words : (ws : List (String Global)) (w : String Global) → 2 ≤ length ws → length ws < 3 → w ≡ get_or ws 0 w → (file : List ℕ) × (map string_bytes ws ≡ string_bytes w ∷ file ∷ [])
two_words [] w a b d = absurd (omega arith)
two_words (x ∷ []) w a b d = absurd (omega arith)
two_words (x ∷ y ∷ []) w a b d = (string_bytes y, ap (λ (s : String Global). string_bytes s ∷ string_bytes y ∷ []) (sym d))
two_words (x ∷ y ∷ z ∷ ws) w a b d = absurd (omega arith)

pub three_words : (ws : List (String Global)) (w o : String Global) → 3 ≤ length ws → length ws < 4 → w ≡ get_or ws 0 w → o ≡ get_or ws 2 o
    → (file : List ℕ) × (map string_bytes ws ≡ string_bytes w ∷ file ∷ string_bytes o ∷ [])
three_words [] w o a b d e = absurd (omega arith)
three_words (x ∷ []) w o a b d e = absurd (omega arith)
three_words (x ∷ y ∷ []) w o a b d e = absurd (omega arith)
three_words (x ∷ y ∷ z ∷ []) w o a b d e =
    (string_bytes y, ap (λ (s : String Global). string_bytes s ∷ string_bytes y ∷ string_bytes z ∷ []) (sym d) ∙ ap (λ (s : String Global). string_bytes w ∷ string_bytes y ∷ string_bytes s ∷ []) (sym e))
three_words (x ∷ y ∷ z ∷ v ∷ ws) w o a b d e = absurd (omega arith)

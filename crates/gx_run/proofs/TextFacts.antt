-- Pieces as they are handed on, and the texts that they are made of.
use Rattle.std.proofs.Common.{◌≡◌, ℕ, List, [], ◌∷◌, ◌++◌, map, length, drop, refl, ◌∙◌, ap, arith}
use Rattle.gx_lexer.specs.declared.piece.Piece.{Piece}
use Rattle.gx_lexer.specs.Feeding.{piece_of}

head_or : Piece → List Piece → Piece
head_or d [] = d
head_or d (x ∷ xs) = x

head_same : (x y : Piece) (xs ys : List Piece) → x ∷ xs ≡ y ∷ ys → x ≡ y
unfolding head_or
head_same x y xs ys e = ap (λ (l : List Piece). head_or x l) e

tail_same : (x y : Piece) (xs ys : List Piece) → x ∷ xs ≡ y ∷ ys → xs ≡ ys
tail_same x y xs ys e = ap (λ (l : List Piece). drop 1 l) e

-- Texts of pieces, and of others behind them.
pub record Parted (texts : List (List ℕ)) (xs ys : List Piece) : Type 0 where
  pub front : List (List ℕ)
  pub behind : List (List ℕ)
  pub whole : texts ≡ front ++ behind
  pub front_of : map piece_of front ≡ xs
  pub behind_of : map piece_of behind ≡ ys

parted_at : (text : List ℕ) (x : Piece) (texts : List (List ℕ)) (xs ys : List Piece) → piece_of text ≡ x → Parted texts xs ys → Parted (text ∷ texts) (x ∷ xs) ys
parted_at text x texts xs ys e p = record {
  front = text ∷ p.front;
  behind = p.behind;
  whole = ap (λ (l : List (List ℕ)). text ∷ l) p.whole;
  front_of = ap (λ (y : Piece). y ∷ map piece_of p.front) e ∙ ap (λ (l : List Piece). x ∷ l) p.front_of;
  behind_of = p.behind_of;
}

pub parted : (texts : List (List ℕ)) (xs ys : List Piece) → map piece_of texts ≡ xs ++ ys → Parted texts xs ys
parted texts [] ys e = record { front = []; behind = texts; whole = refl; front_of = refl; behind_of = e }
parted [] (x ∷ xs) ys e = absurd (let l = ap (λ (l : List Piece). length l) e in omega (arith, l))
parted (text ∷ texts) (x ∷ xs) ys e =
    parted_at text x texts xs ys (head_same (piece_of text) x (map piece_of texts) (xs ++ ys) e) (parted texts xs ys (tail_same (piece_of text) x (map piece_of texts) (xs ++ ys) e))

-- the text of one piece
pub record Text (texts : List (List ℕ)) (x : Piece) : Type 0 where
  pub text : List ℕ
  pub are : texts ≡ text ∷ []
  pub of : piece_of text ≡ x

pub one_text : (texts : List (List ℕ)) (x : Piece) → map piece_of texts ≡ x ∷ [] → Text texts x
one_text [] x e = absurd (let l = ap (λ (l : List Piece). length l) e in omega (arith, l))
one_text (text ∷ []) x e = record { text = text; are = refl; of = head_same (piece_of text) x [] [] e }
one_text (text ∷ other ∷ texts) x e = absurd (let l = ap (λ (l : List Piece). length l) e in omega (arith, l))

pub no_text : (texts : List (List ℕ)) → map piece_of texts ≡ [] → texts ≡ []
no_text [] e = refl
no_text (text ∷ texts) e = absurd (let l = ap (λ (l : List Piece). length l) e in omega (arith, l))

-- A piece has one statement or one fault.
use Rattle.std.proofs.Common.{◌≡◌, ◌⊎◌, inl, inr, ℕ, ◌<◌, List, [], ◌∷◌, ◌++◌, length, map, refl, sym, ◌∙◌, ap, subst, append_assoc, arith}
use Rattle.std.proofs.lemmas.List.{append-nil, map-append}
use Rattle.gx_lexer.specs.declared.token.Token.{Token}
use Rattle.gx_lexer.specs.Tokens.{tokens_of}
use Rattle.gx_parse.specs.Answers.{Answer, says, wrong_at, too_deep, answer_of, text_len}
use Rattle.gx_parse.specs.Faults.{plain, IsText, IsSaid, FirstFault, up_to, IsWrongAt, IsTooDeep}
use Rattle.gx_parse.specs.Grammar.{Says, Continues}
use Rattle.gx_parse.specs.Outcomes.{Limits, limits}
use Rattle.gx_parse.specs.Said.{Said}
use Rattle.gx_parse.proofs.FaultFacts.{said, said_again, wrong, deep, text_within}

module _ {X : Type 0} where
  -- where two fronts of a list end, with the element behind each
  data Fronts (f : List X) (x : X) (g : List X) (y : X) : Type 0 where
    same : f ≡ g → x ≡ y → Fronts f x g y
    longer : (c : List X) → g ≡ f ++ x ∷ c → Fronts f x g y
    shorter : (c : List X) → f ≡ g ++ y ∷ c → Fronts f x g y

  head_same : (x y : X) (xs ys : List X) → x ∷ xs ≡ y ∷ ys → x ≡ y
  head_same x y xs ys e = cc

  tail_same : (x y : X) (xs ys : List X) → x ∷ xs ≡ y ∷ ys → xs ≡ ys
  tail_same x y xs ys e = cc

  on_fronts : (a b : X) (f g : List X) (x y : X) → a ≡ b → Fronts f x g y → Fronts (a ∷ f) x (b ∷ g) y
  on_fronts a b f g x y e (same p q) = let P : X → Type 0 = λ z. Fronts (a ∷ f) x (z ∷ g) y in subst P e (same (ap (λ (xs : List X). a ∷ xs) p) q)
  on_fronts a b f g x y e (longer c p) = longer c (ap (λ (z : X). z ∷ g) (sym e) ∙ ap (λ (xs : List X). a ∷ xs) p)
  on_fronts a b f g x y e (shorter c p) = shorter c (ap (λ (z : X). z ∷ f) e ∙ ap (λ (xs : List X). b ∷ xs) p)

  fronts : (f b g d : List X) (x y : X) → f ++ x ∷ b ≡ g ++ y ∷ d → Fronts f x g y
  fronts [] b [] d x y e = same refl (head_same x y b d e)
  fronts [] b (h ∷ g) d x y e = longer g (ap (λ (z : X). z ∷ g) (sym (head_same x h b (g ++ y ∷ d) e)))
  fronts (h ∷ f) b [] d x y e = shorter f (ap (λ (z : X). z ∷ f) (head_same h y (f ++ x ∷ b) d e))
  fronts (h ∷ f) b (k ∷ g) d x y e = on_fronts h k f g x y (head_same h k (f ++ x ∷ b) (g ++ y ∷ d) e) (fronts f b g d x y (tail_same h k (f ++ x ∷ b) (g ++ y ∷ d) e))

-- what goes on has fronts that go on
begins : (lim : Limits) (a b : List Token) → Continues lim (a ++ b) → Continues lim a
begins lim a b c =
    let P : List Token → Type 0 = λ ts. Says lim ts c.1 in
    (b ++ c.0, c.1, subst P (append_assoc a b c.0) c.2)

-- tokens that stand behind a front, with one of them first
plain_more : (f c : List (ℕ × Token)) (at : ℕ) (t : Token) → plain (f ++ (at, t) ∷ c) ≡ (plain f ++ t ∷ []) ++ plain c
plain_more f c at t = map-append (λ (x : ℕ × Token). x.1) f ((at, t) ∷ c) ∙ sym (append_assoc (plain f) (t ∷ []) (plain c))

stops_before : (lim : Limits) (f g c : List (ℕ × Token)) (at : ℕ) (t : Token) → g ≡ f ++ (at, t) ∷ c → Continues lim (plain g) → (Continues lim (plain f ++ t ∷ []) → ⊥) → ⊥
stops_before lim f g c at t e goes ends =
    let P : List Token → Type 0 = λ ts. Continues lim ts in
    ends (begins lim (plain f ++ t ∷ []) (plain c) (subst P (ap (λ (xs : List (ℕ × Token)). plain xs) e ∙ plain_more f c at t) goes))

-- tokens have one first fault
record One (xs : List (ℕ × Token)) (m n : ℕ) (f : FirstFault xs m) (g : FirstFault xs n) : Type 0 where
  place : m ≡ n
  tokens : up_to xs m f ≡ up_to xs n g

one_fault : (xs : List (ℕ × Token)) (m n : ℕ) (f : FirstFault xs m) (g : FirstFault xs n) → One xs m n f g
one_fault xs m n f g = by (fronts f.front f.behind g.front g.behind (m, f.token) (n, g.token) (sym f.parts ∙ g.parts))
  where
    by : Fronts f.front (m, f.token) g.front (n, g.token) → One xs m n f g
    by (same p q) = record {
      place = ap (λ (x : ℕ × Token). x.0) q;
      tokens = ap (λ (ys : List (ℕ × Token)). plain ys ++ f.token ∷ []) p ∙ ap (λ (x : ℕ × Token). plain g.front ++ x.1 ∷ []) q;
    }
    by (longer c p) = absurd (stops_before limits f.front g.front c m f.token p g.goes f.ends)
    by (shorter c p) = absurd (stops_before limits g.front f.front c n g.token p f.goes g.ends)

-- tokens that begin a statement have no fault
no_fault : (xs : List (ℕ × Token)) (m : ℕ) (f : FirstFault xs m) → Continues limits (plain xs) → ⊥
no_fault xs m f goes = stops_before limits f.front xs f.behind m f.token f.parts goes f.ends

goes_as_said : (ts : List Token) (x : Said) → Says limits ts x → Continues limits ts
goes_as_said ts x s = let P : List Token → Type 0 = λ us. Says limits us x in ([], x, subst P (sym (append-nil ts)) s)

-- a fault that the tokens have is one fault, and no statement is said
said_or_wrong : (piece : List ℕ) (x : Said) (at : ℕ) → IsSaid piece x → IsWrongAt piece at → ⊥
said_or_wrong piece x at s (inl w) = let e = s.0 in let l = w.0 in omega arith
said_or_wrong piece x at s (inr (inl w)) = no_fault (tokens_of piece) at w.1.0 (goes_as_said (plain (tokens_of piece)) x s.1)
said_or_wrong piece x at s (inr (inr w)) = w.3 x s.1

said_or_deep : (piece : List ℕ) (x : Said) → IsSaid piece x → IsTooDeep piece → ⊥
said_or_deep piece x s d = no_fault (tokens_of piece) d.1.0 d.1.1 (goes_as_said (plain (tokens_of piece)) x s.1)

deep_or_wrong : (piece : List ℕ) (at : ℕ) → IsTooDeep piece → IsWrongAt piece at → ⊥
deep_or_wrong piece at d (inl w) = let e = d.0 in let l = w.0 in omega arith
deep_or_wrong piece at d (inr (inl w)) =
    let o = one_fault (tokens_of piece) d.1.0 at d.1.1 w.1.0 in
    let P : List Token → Type 0 = λ ts. Continues d.1.2 ts in
    w.1.1 d.1.2 (subst P o.tokens d.1.3)
deep_or_wrong piece at d (inr (inr w)) = no_fault (tokens_of piece) d.1.0 d.1.1 w.2

one_place : (piece : List ℕ) (m n : ℕ) → IsWrongAt piece m → IsWrongAt piece n → m ≡ n
one_place piece m n (inl w) (inl v) = w.1 ∙ sym v.1
one_place piece m n (inl w) (inr (inl v)) = let l = w.0 in let e = v.0 in absurd (omega arith)
one_place piece m n (inl w) (inr (inr v)) = let l = w.0 in let e = v.0 in absurd (omega arith)
one_place piece m n (inr (inl w)) (inl v) = let l = v.0 in let e = w.0 in absurd (omega arith)
one_place piece m n (inr (inl w)) (inr (inl v)) = (one_fault (tokens_of piece) m n w.1.0 v.1.0).place
one_place piece m n (inr (inl w)) (inr (inr v)) = absurd (no_fault (tokens_of piece) m w.1.0 v.2)
one_place piece m n (inr (inr w)) (inl v) = let l = v.0 in let e = w.0 in absurd (omega arith)
one_place piece m n (inr (inr w)) (inr (inl v)) = absurd (no_fault (tokens_of piece) n v.1.0 w.2)
one_place piece m n (inr (inr w)) (inr (inr v)) = w.1 ∙ sym v.1

wrong_in : (piece : List ℕ) (at : ℕ) (a : Answer) → answer_of piece ≡ a → IsWrongAt piece at → a ≡ wrong_at at
wrong_in piece at (says x) e w = absurd (said_or_wrong piece x at (said piece x (text_within piece) e) w)
wrong_in piece at (wrong_at n) e w = ap wrong_at (one_place piece n at (wrong piece n (text_within piece) e) w)
wrong_in piece at too_deep e w = absurd (deep_or_wrong piece at (deep piece (text_within piece) e) w)

deep_in : (piece : List ℕ) (a : Answer) → answer_of piece ≡ a → IsTooDeep piece → a ≡ too_deep
deep_in piece (says x) e d = absurd (said_or_deep piece x (said piece x (text_within piece) e) d)
deep_in piece (wrong_at n) e d = absurd (deep_or_wrong piece n d (wrong piece n (text_within piece) e))
deep_in piece too_deep e d = refl

pub says_it : (piece : List ℕ) (x : Said) → (answer_of piece ≡ says x → IsSaid piece x) × (IsSaid piece x → answer_of piece ≡ says x)
says_it piece x = (λ e. said piece x (text_within piece) e, said_again piece x)

pub is_wrong : (piece : List ℕ) (at : ℕ) → (answer_of piece ≡ wrong_at at → IsWrongAt piece at) × (IsWrongAt piece at → answer_of piece ≡ wrong_at at)
is_wrong piece at = (λ e. wrong piece at (text_within piece) e, λ w. wrong_in piece at (answer_of piece) refl w)

pub is_deep : (piece : List ℕ) → (answer_of piece ≡ too_deep → IsTooDeep piece) × (IsTooDeep piece → answer_of piece ≡ too_deep)
is_deep piece = (λ e. deep piece (text_within piece) e, λ d. deep_in piece (answer_of piece) refl d)

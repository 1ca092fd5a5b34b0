-- Formulas over words, and when they are true.
use Rattle.std.specs.Prelude.{Bool, not, ◌&&◌, ◌||◌, ◌⊎◌}

pub data Tree (W : Type 0) : Type 0 where
  Word : W → Tree W
  Not : Tree W → Tree W
  And : Tree W → Tree W → Tree W
  Or : Tree W → Tree W → Tree W

-- where P says which words are true
abbrev pub IsTrueWhere : {W : Type 0} → (W → Type 0) → Tree W → Type 0
IsTrueWhere P (Word w) = P w
IsTrueWhere P (Not t) = IsTrueWhere P t → ⊥
IsTrueWhere P (And t u) = IsTrueWhere P t × IsTrueWhere P u
IsTrueWhere P (Or t u) = IsTrueWhere P t ⊎ IsTrueWhere P u

-- the test of the same, from a test of words
abbrev pub is_true_where : {W : Type 0} → (W → Bool) → Tree W → Bool
is_true_where p (Word w) = p w
is_true_where p (Not t) = not (is_true_where p t)
is_true_where p (And t u) = is_true_where p t && is_true_where p u
is_true_where p (Or t u) = is_true_where p t || is_true_where p u

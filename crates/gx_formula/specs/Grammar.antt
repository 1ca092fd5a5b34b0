-- The grammar of formulas, its limits, and what the reader answers.
--   sum     = product { "|" product }
--   product = operand { "&" operand }
--   operand = word | "!" operand | "(" sum ")"
-- Several `&`, or several `|`, that follow one another are grouped from the left.
use Rattle.std.specs.Prelude.{◌≡◌, ℕ, ◌+◌, ◌<◌, ◌≤◌, ◌⊎◌, List, [], ◌∷◌, ◌++◌, length, drop, Result, Ok, Err}
use Rattle.gx_bytes.specs.declared.error.ValueError.{ValueError}
use Rattle.gx_bytes.specs.declared.error.ValueError.TheVariants.{NoValue, OutOfRange, TooDeep, Memory}
use Rattle.gx_formula.specs.declared.sign.Sign.{Sign}
use Rattle.gx_formula.specs.declared.sign.Sign.TheVariants as sign
use Rattle.gx_formula.specs.Formula as formula
use Rattle.gx_formula.specs.Formula.{Tree}
use Rattle.gx_formula.specs.Tokens.{Token, Word, Mark, IsBlank, Begins, IsMadeOf}

pub data Part : Type 0 where
  Operand : Part
  Product : Part
  Sum : Part

-- the tokens spell the formula, as this part of the grammar
pub data Spells (W : Type 0) : Part → List (Token W) → Tree W → Type 0 where
  word : (w : W) → Spells W Operand (Word w ∷ []) (formula.Word w)
  negation : (x : List (Token W)) (t : Tree W) → Spells W Operand x t → Spells W Operand (Mark sign.Not ∷ x) (formula.Not t)
  parenthesis : (x : List (Token W)) (t : Tree W) → Spells W Sum x t → Spells W Operand (Mark sign.Open ∷ (x ++ Mark sign.Close ∷ [])) t
  one_operand : (x : List (Token W)) (t : Tree W) → Spells W Operand x t → Spells W Product x t
  conjunction : (x y : List (Token W)) (t u : Tree W) → Spells W Product x t → Spells W Operand y u → Spells W Product (x ++ Mark sign.And ∷ y) (formula.And t u)
  one_product : (x : List (Token W)) (t : Tree W) → Spells W Product x t → Spells W Sum x t
  disjunction : (x y : List (Token W)) (t u : Tree W) → Spells W Sum x t → Spells W Product y u → Spells W Sum (x ++ Mark sign.Or ∷ y) (formula.Or t u)

-- some formula begins with these tokens
abbrev pub CanBegin : {W : Type 0} → List (Token W) → Type 0
CanBegin {W} tokens = (more : List (Token W)) × (tree : Tree W) × Spells W Sum (tokens ++ more) tree

-- the end of an operand ends each `!` before it
abbrev pub ended : List Sign → List Sign
ended [] = []
ended (sign.Not ∷ signs) = ended signs
ended (sign.And ∷ signs) = sign.And ∷ signs
ended (sign.Or ∷ signs) = sign.Or ∷ signs
ended (sign.Open ∷ signs) = sign.Open ∷ signs
ended (sign.Close ∷ signs) = sign.Close ∷ signs

-- The `!` and `(` that stand open behind a token, the last first: a `!` until its operand has ended, a `(` until its `)`.
abbrev pub open_behind : {W : Type 0} → List Sign → Token W → List Sign
open_behind signs (Word w) = ended signs
open_behind signs (Mark sign.Not) = sign.Not ∷ signs
open_behind signs (Mark sign.Open) = sign.Open ∷ signs
open_behind signs (Mark sign.Close) = ended (drop 1 signs)
open_behind signs (Mark sign.And) = signs
open_behind signs (Mark sign.Or) = signs

abbrev pub open_after : {W : Type 0} → List Sign → List (Token W) → List Sign
open_after signs [] = signs
open_after signs (t ∷ tokens) = open_after (open_behind signs t) tokens

-- how many `&` and `|` are there
abbrev pub one_operator : {W : Type 0} → Token W → ℕ
one_operator (Word w) = 0
one_operator (Mark sign.Not) = 0
one_operator (Mark sign.And) = 1
one_operator (Mark sign.Or) = 1
one_operator (Mark sign.Open) = 0
one_operator (Mark sign.Close) = 0

abbrev pub operators : {W : Type 0} → List (Token W) → ℕ
operators [] = 0
operators (t ∷ tokens) = one_operator t + operators tokens

-- at most 64 stand open at the end, and at most 1,024 operators are there
pub record IsSmall {W : Type 0} (tokens : List (Token W)) : Type 0 where
  pub depth : length (open_after [] tokens) ≤ 64
  pub operators : operators tokens ≤ 1024

-- the same of each front of the tokens
abbrev pub IsWithin : {W : Type 0} → List (Token W) → Type 0
IsWithin {W} tokens = (front more : List (Token W)) → tokens ≡ front ++ more → IsSmall front

-- the text is made of tokens that spell the formula, within the limits
pub record SpellsFormula {W : Type 0} (Takes : List ℕ → W → List ℕ → Type 0) (text : List ℕ) (tree : Tree W) : Type 0 where
  pub tokens : List (Token W)
  pub made : IsMadeOf Takes text tokens
  pub spelled : Spells W Sum tokens tree
  pub within : IsWithin tokens

-- the text begins with tokens with which some formula begins, and of these 65 stand open, or 1,025 are operators
pub record IsTooDeep {W : Type 0} (Takes : List ℕ → W → List ℕ → Type 0) (text : List ℕ) : Type 0 where
  pub tokens : List (Token W)
  pub rest : List ℕ
  pub begins : Begins Takes text tokens rest
  pub can_begin : CanBegin tokens
  pub deep : (64 < length (open_after [] tokens)) ⊎ (1024 < operators tokens)

-- the text begins with tokens, within the limits, behind which a word may stand, and a word but for its value stands there
pub record HasFar {W : Type 0} (Takes : List ℕ → W → List ℕ → Type 0) (IsFar : List ℕ → Type 0) (text : List ℕ) : Type 0 where
  pub tokens : List (Token W)
  pub blank : List ℕ
  pub core : List ℕ
  pub begins : Begins Takes text tokens (blank ++ core)
  pub white : IsBlank blank
  pub far : IsFar core
  pub may_stand : (w : W) × CanBegin (tokens ++ Word w ∷ [])
  pub within : IsWithin tokens

-- what each answer of the reader says of the text: the first fault by place is answered
abbrev pub AnswersFormula : {W : Type 0} → (List ℕ → W → List ℕ → Type 0) → (List ℕ → Type 0) → List ℕ → Result (Tree W) ValueError → Type 0
AnswersFormula Takes IsFar text (Ok tree) = SpellsFormula Takes text tree
AnswersFormula {W} Takes IsFar text (Err NoValue) =
    ((tree : Tree W) → SpellsFormula Takes text tree → ⊥) × (HasFar Takes IsFar text → ⊥) × (IsTooDeep Takes text → ⊥)
AnswersFormula Takes IsFar text (Err OutOfRange) = HasFar Takes IsFar text
AnswersFormula Takes IsFar text (Err TooDeep) = IsTooDeep Takes text
AnswersFormula Takes IsFar text (Err Memory) = Unit {0}

-- the same of a reader of queries, each with its formula
abbrev pub AnswersQuery : {Q W : Type 0} → (Q → Tree W) → (List ℕ → W → List ℕ → Type 0) → (List ℕ → Type 0) → List ℕ → Result Q ValueError → Type 0
AnswersQuery tree Takes IsFar text (Ok query) = SpellsFormula Takes text (tree query)
AnswersQuery tree Takes IsFar text (Err fault) = AnswersFormula Takes IsFar text (Err fault)

-- the same formula, or the same fault
abbrev pub AreAlike : {Q W : Type 0} → (Q → Tree W) → Result Q ValueError → Result Q ValueError → Type 0
AreAlike tree (Ok q) (Ok p) = tree q ≡ tree p
AreAlike tree (Ok q) (Err e) = ⊥
AreAlike tree (Err e) (Ok p) = ⊥
AreAlike tree (Err e) (Err f) = e ≡ f

-- what each answer says of a word at the front of the text
abbrev pub AnswersWord : {W : Type 0} → (List ℕ → W → List ℕ → Type 0) → (List ℕ → Type 0) → List ℕ → Result (W × List ℕ) ValueError → Type 0
AnswersWord Takes IsFar text (Ok x) = Takes text x.0 x.1
AnswersWord {W} Takes IsFar text (Err NoValue) = ((w : W) (rest : List ℕ) → Takes text w rest → ⊥) × (IsFar text → ⊥)
AnswersWord Takes IsFar text (Err OutOfRange) = IsFar text
AnswersWord Takes IsFar text (Err TooDeep) = ⊥
AnswersWord Takes IsFar text (Err Memory) = Unit {0}

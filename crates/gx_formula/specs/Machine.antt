-- The reader as a machine that takes one token after another.
use Rattle.std.specs.Prelude.{◌≡◌, ℕ, ◌+◌, ◌<◌, ◌≤◌, ◌⊎◌, List, [], ◌∷◌, length, map, reverse, Option, None, Some, option_map}
use Rattle.gx_bytes.specs.declared.error.ValueError.{ValueError}
use Rattle.gx_bytes.specs.declared.error.ValueError.TheVariants.{NoValue, OutOfRange, TooDeep, Memory}
use Rattle.gx_formula.specs.declared.sign.Sign.{Sign}
use Rattle.gx_formula.specs.declared.sign.Sign.TheVariants as sign
use Rattle.gx_formula.specs.Formula as formula
use Rattle.gx_formula.specs.Formula.{Tree}
use Rattle.gx_formula.specs.Tokens.{Token, Word, Mark}
use Rattle.gx_formula.specs.Grammar.{one_operator}
use Rattle.gx_formula.specs.declared.parser.Parser.{Parser}
use Rattle.gx_formula.specs.declared.parser.Pending.{Pending}
use Rattle.gx_formula.specs.declared.parser.Pending.TheVariants as pending

-- A `!`; a `(`, with what stands before it in its group.
pub data Frame (W : Type 0) : Type 0 where
  Negation : Frame W
  Group : Option (Tree W) → Option (Tree W) → Frame W

-- What stands open, the last first, and of the group that is open the conjunctions joined so far and the operands of the last one; where no
-- operand is wanted, the operand that has ended.
pub data State (W : Type 0) : Type 0 where
  Wanted : List (Frame W) → Option (Tree W) → Option (Tree W) → State W
  Behind : List (Frame W) → Option (Tree W) → Option (Tree W) → Tree W → State W

abbrev pub with_product : {W : Type 0} → Option (Tree W) → Tree W → Tree W
with_product None t = t
with_product (Some p) t = formula.And p t

abbrev pub with_sum : {W : Type 0} → Option (Tree W) → Tree W → Tree W
with_sum None t = t
with_sum (Some s) t = formula.Or s t

-- each `!` before an operand, and what stands open behind it
abbrev pub negated : {W : Type 0} → List (Frame W) → Tree W → Tree W
negated [] t = t
negated (Negation ∷ stack) t = negated stack (formula.Not t)
negated (Group s p ∷ stack) t = t

abbrev pub unnegated : {W : Type 0} → List (Frame W) → List (Frame W)
unnegated [] = []
unnegated (Negation ∷ stack) = unnegated stack
unnegated (Group s p ∷ stack) = Group s p ∷ stack

-- the state behind an operand
abbrev pub put_operand : {W : Type 0} → List (Frame W) → Option (Tree W) → Option (Tree W) → Tree W → State W
put_operand stack sum product t = Behind (unnegated stack) sum product (negated stack t)

abbrev pub closed : {W : Type 0} → List (Frame W) → Tree W → Option (State W)
closed [] t = None
closed (Negation ∷ stack) t = None
closed (Group s p ∷ stack) t = Some (put_operand stack s p t)

abbrev pub step : {W : Type 0} → State W → Token W → Option (State W)
step (Wanted stack sum product) (Word w) = Some (put_operand stack sum product (formula.Word w))
step (Wanted stack sum product) (Mark sign.Not) = Some (Wanted (Negation ∷ stack) sum product)
step (Wanted stack sum product) (Mark sign.And) = None
step (Wanted stack sum product) (Mark sign.Or) = None
step (Wanted stack sum product) (Mark sign.Open) = Some (Wanted (Group sum product ∷ stack) None None)
step (Wanted stack sum product) (Mark sign.Close) = None
step (Behind stack sum product t) (Word w) = None
step (Behind stack sum product t) (Mark sign.Not) = None
step (Behind stack sum product t) (Mark sign.And) = Some (Wanted stack sum (Some (with_product product t)))
step (Behind stack sum product t) (Mark sign.Or) = Some (Wanted stack (Some (with_sum sum (with_product product t))) None)
step (Behind stack sum product t) (Mark sign.Open) = None
step (Behind stack sum product t) (Mark sign.Close) = closed stack (with_sum sum (with_product product t))

abbrev pub run : {W : Type 0} → Option (State W) → List (Token W) → Option (State W)
run o [] = o
run None (t ∷ tokens) = None
run (Some s) (t ∷ tokens) = run (step s t) tokens

-- the formula at the end
abbrev pub value : {W : Type 0} → State W → Option (Tree W)
value (Wanted stack sum product) = None
value (Behind [] sum product t) = Some (with_sum sum (with_product product t))
value (Behind (f ∷ stack) sum product t) = None

abbrev pub sign_of_frame : {W : Type 0} → Frame W → Sign
sign_of_frame Negation = sign.Not
sign_of_frame (Group s p) = sign.Open

abbrev pub stack_of : {W : Type 0} → State W → List (Frame W)
stack_of (Wanted stack sum product) = stack
stack_of (Behind stack sum product t) = stack

-- the state that the reader keeps in a vector, the last at the end
abbrev pub frame_of : {F W : Type 0} → (F → Tree W) → Pending F → Frame W
frame_of tree pending.Not = Negation
frame_of tree (pending.Group s p) = Group (option_map tree s) (option_map tree p)

abbrev pub frames : {F W : Type 0} → (F → Tree W) → List (Pending F) → List (Frame W)
frames tree items = reverse (map (frame_of tree) items)

abbrev pub state_of : {W : Type 0} → List (Frame W) → Option (Tree W) → Option (Tree W) → Option (Tree W) → State W
state_of stack sum product None = Wanted stack sum product
state_of stack sum product (Some t) = Behind stack sum product t

abbrev pub parsed : {F W : Type 0} → (F → Tree W) → Parser F → State W
parsed tree p = state_of (frames tree p.stack.items) (option_map tree p.sum) (option_map tree p.product) (option_map tree p.operand)

-- what the reader keeps is within the limits
abbrev pub IsLimited : {F : Type 0} → Parser F → Type 0
IsLimited p = (length p.stack.items ≤ 64) × (p.operators ≤ 1024)

-- the token leads from the first to the second
pub record IsStep {F W : Type 0} (tree : F → Tree W) (p : Parser F) (token : Token W) (q : Parser F) : Type 0 where
  pub steps : step (parsed tree p) token ≡ Some (parsed tree q)
  pub operators : q.operators ≡ p.operators + one_operator token
  pub limited : IsLimited q

abbrev pub IsWanted : {W : Type 0} → State W → Type 0
IsWanted (Wanted stack sum product) = Unit {0}
IsWanted (Behind stack sum product t) = ⊥

-- what the fault of a sign says, of a word, and of the end
abbrev pub FailsSign : {W : Type 0} → State W → ℕ → Sign → ValueError → Type 0
FailsSign s count sign NoValue = step s (Mark sign) ≡ None
FailsSign s count sign OutOfRange = ⊥
FailsSign {W} s count sign TooDeep =
    (u : State W) × (step s (Mark sign) ≡ Some u) × ((64 < length (stack_of u)) ⊎ (1024 < count + one_operator {W = W} (Mark sign)))
FailsSign s count sign Memory = Unit {0}

abbrev pub FailsWord : {W : Type 0} → (List ℕ → W → List ℕ → Type 0) → (List ℕ → Type 0) → List ℕ → State W → ValueError → Type 0
FailsWord {W} Takes IsFar core s NoValue =
    ((w : W) (rest : List ℕ) → Takes core w rest → step s (Word w) ≡ None) × (IsFar core → (w : W) → step s (Word w) ≡ None)
FailsWord Takes IsFar core s OutOfRange = IsFar core × IsWanted s
FailsWord Takes IsFar core s TooDeep = ⊥
FailsWord Takes IsFar core s Memory = Unit {0}

abbrev pub FailsEnd : {W : Type 0} → State W → ValueError → Type 0
FailsEnd s NoValue = value s ≡ None
FailsEnd s OutOfRange = ⊥
FailsEnd s TooDeep = ⊥
FailsEnd s Memory = Unit {0}

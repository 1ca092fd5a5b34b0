-- The machine reads what the grammar spells, and what it has read can be gone on with.
use Rattle.std.proofs.Common.{◌≡◌, ℕ, zero, suc, ◌+◌, ◌≤◌, List, [], ◌∷◌, ◌++◌, length, map, Option, None, Some, refl, sym, ap, ap₂, ◌∙◌, subst, arith, append_assoc, append-nil}
use Rattle.gx_formula.specs.declared.sign.Sign.{Sign}
use Rattle.gx_formula.specs.declared.sign.Sign.TheVariants as sign
use Rattle.gx_formula.specs.Formula as formula
use Rattle.gx_formula.specs.Formula.{Tree}
use Rattle.gx_formula.specs.Tokens.{Token, Word, Mark}
use Rattle.gx_formula.specs.Grammar.{Part, Operand, Product, Sum, Spells, word, negation, parenthesis, one_operand, conjunction, one_product, disjunction, CanBegin, ended, open_behind, open_after, one_operator, operators}
use Rattle.gx_formula.specs.Machine.{Frame, Negation, Group, State, Wanted, Behind, with_product, with_sum, negated, unnegated, put_operand, step, run, value, sign_of_frame, stack_of}

-- nothing read
abbrev pub start : (W : Type 0) → State W
start W = Wanted [] None None

-- no `!` is the last that stands open
abbrev pub IsGroup : {W : Type 0} → List (Frame W) → Type 0
IsGroup [] = Unit {0}
IsGroup (Negation ∷ stack) = ⊥
IsGroup (Group s p ∷ stack) = Unit {0}

module _ (W : Type 0) where
  pub group_put : (stack : List (Frame W)) (sum product : Option (Tree W)) (t : Tree W) → IsGroup stack → put_operand stack sum product t ≡ Behind stack sum product t
  group_put [] sum product t g = refl
  group_put (Negation ∷ stack) sum product t g = absurd g
  group_put (Group s p ∷ stack) sum product t g = refl

  pub put_group : (stack : List (Frame W)) → IsGroup (unnegated stack)
  put_group [] = tt
  put_group (Negation ∷ stack) = put_group stack
  put_group (Group s p ∷ stack) = tt

  run-none : (tokens : List (Token W)) → run {W = W} None tokens ≡ None
  run-none [] = refl
  run-none (t ∷ tokens) = refl

  pub run-append : (o : Option (State W)) (xs ys : List (Token W)) → run o (xs ++ ys) ≡ run (run o xs) ys
  run-append o [] ys = refl
  run-append None (t ∷ xs) ys = sym (run-none ys)
  run-append (Some s) (t ∷ xs) ys = run-append (step s t) xs ys

-- the machine reads a part of the grammar
abbrev Reads : {W : Type 0} → Part → List (Token W) → Tree W → Type 0
Reads {W} Operand x t =
    (stack : List (Frame W)) (sum product : Option (Tree W)) (rest : List (Token W)) → run (Some (Wanted stack sum product)) (x ++ rest) ≡ run (Some (put_operand stack sum product t)) rest
Reads {W} Product x t =
    (stack : List (Frame W)) (sum : Option (Tree W)) (rest : List (Token W)) → IsGroup stack
    → (q : Option (Tree W)) × (u : Tree W) × (with_product q u ≡ t) × (run (Some (Wanted stack sum None)) (x ++ rest) ≡ run (Some (Behind stack sum q u)) rest)
Reads {W} Sum x t =
    (stack : List (Frame W)) (rest : List (Token W)) → IsGroup stack
    → (s : Option (Tree W)) × (q : Option (Tree W)) × (u : Tree W) × (with_sum s (with_product q u) ≡ t) × (run (Some (Wanted stack None None)) (x ++ rest) ≡ run (Some (Behind stack s q u)) rest)

reads : {W : Type 0} {part : Part} {x : List (Token W)} {t : Tree W} → Spells W part x t → Reads part x t
reads (word w) = λ stack sum product rest. refl
reads (negation x t s) = λ stack sum product rest. reads s (Negation ∷ stack) sum product rest
reads {W} (parenthesis x t s) = λ stack sum product rest.
    let inner : Option (State W) = Some (Wanted (Group sum product ∷ stack) None None) in
    let r = reads s (Group sum product ∷ stack) (Mark sign.Close ∷ rest) tt in
    ap (run inner) (append_assoc x (Mark sign.Close ∷ []) rest) ∙ r.4 ∙ ap (λ (u : Tree W). run (Some (put_operand stack sum product u)) rest) r.3
reads {W} (one_operand x t s) = λ stack sum rest g. (None, t, refl, reads s stack sum None rest ∙ ap (λ (u : State W). run (Some u) rest) (group_put W stack sum None t g))
reads {W} (conjunction x y t u s v) = λ stack sum rest g.
    let a = reads s stack sum (Mark sign.And ∷ (y ++ rest)) g in
    let b = reads v stack sum (Some (with_product a.0 a.1)) rest in
    let from : Option (State W) = Some (Wanted stack sum None) in (
      Some (with_product a.0 a.1),
      u,
      ap (λ (z : Tree W). formula.And z u) a.2,
      ap (run from) (append_assoc x (Mark sign.And ∷ y) rest) ∙ a.3 ∙ b ∙ ap (λ (z : State W). run (Some z) rest) (group_put W stack sum (Some (with_product a.0 a.1)) u g),
    )
reads (one_product x t s) = λ stack rest g. let a = reads s stack None rest g in (None, a.0, a.1, a.2, a.3)
reads {W} (disjunction x y t u s v) = λ stack rest g.
    let a = reads s stack (Mark sign.Or ∷ (y ++ rest)) g in
    let b = reads v stack (Some (with_sum a.0 (with_product a.1 a.2))) rest g in
    let from : Option (State W) = Some (Wanted stack None None) in (
      Some (with_sum a.0 (with_product a.1 a.2)),
      b.0,
      b.1,
      ap₂ (λ (p q : Tree W). formula.Or p q) a.3 b.2,
      ap (run from) (append_assoc x (Mark sign.Or ∷ y) rest) ∙ a.4 ∙ b.3,
    )

-- what stands before an operand in a group
abbrev InSum : {W : Type 0} → Option (Tree W) → List (Token W) → Type 0
InSum None a = a ≡ []
InSum {W} (Some s) a = (x : List (Token W)) × (a ≡ x ++ Mark sign.Or ∷ []) × Spells W Sum x s

abbrev InProduct : {W : Type 0} → Option (Tree W) → List (Token W) → Type 0
InProduct None b = b ≡ []
InProduct {W} (Some p) b = (x : List (Token W)) × (b ≡ x ++ Mark sign.And ∷ []) × Spells W Product x p

-- tokens behind which an operand is wanted
abbrev pub Wants : {W : Type 0} → List (Frame W) → Option (Tree W) → Option (Tree W) → List (Token W) → Type 0
Wants {W} [] s p x = (a : List (Token W)) × (b : List (Token W)) × (x ≡ a ++ b) × InSum s a × InProduct p b
Wants {W} (Negation ∷ stack) s p x = (y : List (Token W)) × (x ≡ y ++ Mark sign.Not ∷ []) × Wants stack s p y
Wants {W} (Group g h ∷ stack) s p x =
    (y : List (Token W)) × (a : List (Token W)) × (b : List (Token W)) × (x ≡ y ++ (Mark sign.Open ∷ (a ++ b))) × Wants stack g h y × InSum s a × InProduct p b

-- tokens that lead to a state
abbrev pub Means : {W : Type 0} → State W → List (Token W) → Type 0
Means (Wanted stack s p) x = Wants stack s p x
Means {W} (Behind stack s p t) x = (y : List (Token W)) × (c : List (Token W)) × (x ≡ y ++ c) × IsGroup stack × Wants stack s p y × Spells W Operand c t

module _ (W : Type 0) where
  put_means : (stack : List (Frame W)) (s p : Option (Tree W)) (t : Tree W) (x c : List (Token W)) → Wants stack s p x → Spells W Operand c t → Means (put_operand stack s p t) (x ++ c)
  put_means [] s p t x c w o = (x, c, refl, tt, w, o)
  put_means (Negation ∷ stack) s p t x c w o =
      subst (Means (put_operand stack s p (formula.Not t))) (sym (append_assoc w.0 (Mark sign.Not ∷ []) c) ∙ ap (λ (z : List (Token W)). z ++ c) (sym w.1))
      (put_means stack s p (formula.Not t) w.0 (Mark sign.Not ∷ c) w.2 (negation c t o))
  put_means (Group g h ∷ stack) s p t x c w o = (x, c, refl, tt, w, o)

  -- the group that is open, and what else may stand in it
  record Opened (stack : List (Frame W)) (s p : Option (Tree W)) (x : List (Token W)) : Type 0 where
    pub y : List (Token W)
    pub a : List (Token W)
    pub b : List (Token W)
    pub parts : x ≡ y ++ (a ++ b)
    pub in_sum : InSum s a
    pub in_product : InProduct p b
    pub again : (g h : Option (Tree W)) (m n : List (Token W)) → InSum g m → InProduct h n → Wants stack g h (y ++ (m ++ n))

  opened : (stack : List (Frame W)) (s p : Option (Tree W)) (x : List (Token W)) → IsGroup stack → Wants stack s p x → Opened stack s p x
  opened [] s p x g w = record { y = []; a = w.0; b = w.1; parts = w.2; in_sum = w.3; in_product = w.4; again = λ u v m n f h. (m, n, refl, f, h) }
  opened (Negation ∷ stack) s p x g w = absurd g
  opened (Group k l ∷ stack) s p x g w = record {
    y = w.0 ++ Mark sign.Open ∷ [];
    a = w.1;
    b = w.2;
    parts = w.3 ∙ sym (append_assoc w.0 (Mark sign.Open ∷ []) (w.1 ++ w.2));
    in_sum = w.5;
    in_product = w.6;
    again = λ u v m n f h. (w.0, m, n, append_assoc w.0 (Mark sign.Open ∷ []) (m ++ n), w.4, f, h);
  }

  joined_product : (p : Option (Tree W)) (t : Tree W) (b c : List (Token W)) → InProduct p b → Spells W Operand c t → Spells W Product (b ++ c) (with_product p t)
  joined_product None t b c e o = subst (λ (z : List (Token W)). Spells W Product (z ++ c) t) (sym e) (one_operand c t o)
  joined_product (Some q) t b c i o =
      subst (λ (z : List (Token W)). Spells W Product z (formula.And q t)) (sym (append_assoc i.0 (Mark sign.And ∷ []) c) ∙ ap (λ (z : List (Token W)). z ++ c) (sym i.1)) (conjunction i.0 c q t i.2 o)

  joined_sum : (s : Option (Tree W)) (t : Tree W) (a c : List (Token W)) → InSum s a → Spells W Product c t → Spells W Sum (a ++ c) (with_sum s t)
  joined_sum None t a c e o = subst (λ (z : List (Token W)). Spells W Sum (z ++ c) t) (sym e) (one_product c t o)
  joined_sum (Some q) t a c i o =
      subst (λ (z : List (Token W)). Spells W Sum z (formula.Or q t)) (sym (append_assoc i.0 (Mark sign.Or ∷ []) c) ∙ ap (λ (z : List (Token W)). z ++ c) (sym i.1)) (disjunction i.0 c q t i.2 o)

  some_one : {A : Type 0} (x y : A) → Some x ≡ Some y → x ≡ y
  some_one x y e = cc

  regroup_and : (y a b c d : List (Token W)) → y ++ (a ++ ((b ++ c) ++ d)) ≡ ((y ++ (a ++ b)) ++ c) ++ d
  regroup_and y a b c d = simp append_assoc

  regroup_or : (y a b c d : List (Token W)) → y ++ (((a ++ (b ++ c)) ++ d) ++ []) ≡ ((y ++ (a ++ b)) ++ c) ++ d
  regroup_or y a b c d = ap (λ (z : List (Token W)). y ++ z) (append-nil ((a ++ (b ++ c)) ++ d)) ∙ simp append_assoc

  regroup_close : (y a b c d : List (Token W)) (o : Token W) → y ++ (o ∷ ((a ++ (b ++ c)) ++ d)) ≡ ((y ++ (o ∷ (a ++ b))) ++ c) ++ d
  regroup_close y a b c d o = simp append_assoc

  pub step_means : (s u : State W) (t : Token W) (x : List (Token W)) → Means s x → step s t ≡ Some u → Means u (x ++ t ∷ [])
  step_means (Wanted stack s p) u (Word w) x m e =
      subst (λ (z : State W). Means z (x ++ Word w ∷ [])) (some_one (put_operand stack s p (formula.Word w)) u e) (put_means stack s p (formula.Word w) x (Word w ∷ []) m (word w))
  step_means (Wanted stack s p) u (Mark sign.Not) x m e =
      subst (λ (z : State W). Means z (x ++ Mark sign.Not ∷ [])) (some_one (Wanted (Negation ∷ stack) s p) u e) (x, refl, m)
  step_means (Wanted stack s p) u (Mark sign.Open) x m e =
      subst (λ (z : State W). Means z (x ++ Mark sign.Open ∷ [])) (some_one (Wanted (Group s p ∷ stack) None None) u e) (x, [], [], refl, m, refl, refl)
  step_means (Wanted stack s p) u (Mark sign.And) x m e = cc
  step_means (Wanted stack s p) u (Mark sign.Or) x m e = cc
  step_means (Wanted stack s p) u (Mark sign.Close) x m e = cc
  step_means (Behind stack s p t) u (Word w) x m e = cc
  step_means (Behind stack s p t) u (Mark sign.Not) x m e = cc
  step_means (Behind stack s p t) u (Mark sign.Open) x m e = cc
  step_means (Behind stack s p t) u (Mark sign.And) x m e =
      let o = opened stack s p m.0 m.3 m.4 in
      let whole : ((o.y ++ (o.a ++ o.b)) ++ m.1) ++ Mark sign.And ∷ [] ≡ x ++ Mark sign.And ∷ [] = ap (λ (z : List (Token W)). z ++ Mark sign.And ∷ []) (ap (λ (z : List (Token W)). z ++ m.1) (sym o.parts) ∙ sym m.2) in
      subst (λ (z : State W). Means z (x ++ Mark sign.And ∷ [])) (some_one (Wanted stack s (Some (with_product p t))) u e)
      (subst (Wants stack s (Some (with_product p t))) (regroup_and o.y o.a o.b m.1 (Mark sign.And ∷ []) ∙ whole)
      (o.again s (Some (with_product p t)) o.a ((o.b ++ m.1) ++ Mark sign.And ∷ []) o.in_sum (o.b ++ m.1, refl, joined_product p t o.b m.1 o.in_product m.5)))
  step_means (Behind stack s p t) u (Mark sign.Or) x m e =
      let o = opened stack s p m.0 m.3 m.4 in
      let v = with_sum s (with_product p t) in
      let whole : ((o.y ++ (o.a ++ o.b)) ++ m.1) ++ Mark sign.Or ∷ [] ≡ x ++ Mark sign.Or ∷ [] = ap (λ (z : List (Token W)). z ++ Mark sign.Or ∷ []) (ap (λ (z : List (Token W)). z ++ m.1) (sym o.parts) ∙ sym m.2) in
      subst (λ (z : State W). Means z (x ++ Mark sign.Or ∷ [])) (some_one (Wanted stack (Some v) None) u e)
      (subst (Wants stack (Some v) None) (regroup_or o.y o.a o.b m.1 (Mark sign.Or ∷ []) ∙ whole)
      (o.again (Some v) None ((o.a ++ (o.b ++ m.1)) ++ Mark sign.Or ∷ []) [] (o.a ++ (o.b ++ m.1), refl, joined_sum s (with_product p t) o.a (o.b ++ m.1) o.in_sum (joined_product p t o.b m.1 o.in_product m.5)) refl))
  step_means (Behind [] s p t) u (Mark sign.Close) x m e = cc
  step_means (Behind (Negation ∷ stack) s p t) u (Mark sign.Close) x m e = cc
  step_means (Behind (Group g h ∷ stack) s p t) u (Mark sign.Close) x m e =
      let w = m.4 in
      let v = with_sum s (with_product p t) in
      let inner = joined_sum s (with_product p t) w.1 (w.2 ++ m.1) w.5 (joined_product p t w.2 m.1 w.6 m.5) in
      let all = Mark sign.Open ∷ ((w.1 ++ (w.2 ++ m.1)) ++ Mark sign.Close ∷ []) in
      let whole : ((w.0 ++ (Mark sign.Open ∷ (w.1 ++ w.2))) ++ m.1) ++ Mark sign.Close ∷ [] ≡ x ++ Mark sign.Close ∷ [] = ap (λ (z : List (Token W)). z ++ Mark sign.Close ∷ []) (ap (λ (z : List (Token W)). z ++ m.1) (sym w.3) ∙ sym m.2) in
      subst (λ (z : State W). Means z (x ++ Mark sign.Close ∷ [])) (some_one (put_operand stack g h v) u e)
      (subst (Means (put_operand stack g h v)) (regroup_close w.0 w.1 w.2 m.1 (Mark sign.Close ∷ []) (Mark sign.Open) ∙ whole)
      (put_means stack g h v w.0 all w.4 (parenthesis (w.1 ++ (w.2 ++ m.1)) v inner)))

  first_step : (P : Type 0) (o : Option (State W)) (u : State W) (y : List (Token W)) → run o y ≡ Some u → ((v : State W) → o ≡ Some v → run (Some v) y ≡ Some u → P) → P
  first_step P None u y e f = absurd (let none : None ≡ Some u = sym (run-none W y) ∙ e in cc)
  first_step P (Some v) u y e f = f v refl e

  run_means : (y x : List (Token W)) (s u : State W) → Means s x → run (Some s) y ≡ Some u → Means u (x ++ y)
  run_means [] x s u m e = subst (λ (z : List (Token W)). Means u z) (sym (append-nil x)) (subst (λ (z : State W). Means z x) (some_one s u e) m)
  run_means (t ∷ y) x s u m e = first_step (Means u (x ++ t ∷ y)) (step s t) u y e (λ v f g. subst (Means u) (append_assoc x (t ∷ []) y) (run_means y (x ++ t ∷ []) v u (step_means s v t x m f) g))

  -- what the machine has read
  pub read_means : (x : List (Token W)) (s : State W) → run (Some (start W)) x ≡ Some s → Means s x
  read_means x s e = run_means x [] (start W) s ([], [], refl, refl, refl) e

  pub value_spelled : (s : State W) (x : List (Token W)) (t : Tree W) → Means s x → value s ≡ Some t → Spells W Sum x t
  value_spelled (Wanted stack s p) x t m e = cc
  value_spelled (Behind [] s p u) x t m e =
      let w = m.4 in
      let all = joined_sum s (with_product p u) w.0 (w.1 ++ m.1) w.3 (joined_product p u w.1 m.1 w.4 m.5) in
      let whole : w.0 ++ (w.1 ++ m.1) ≡ x = sym (append_assoc w.0 w.1 m.1) ∙ ap (λ (z : List (Token W)). z ++ m.1) (sym w.2) ∙ sym m.2 in
      subst (λ (z : List (Token W)). Spells W Sum z t) whole (subst (Spells W Sum (w.0 ++ (w.1 ++ m.1))) (some_one (with_sum s (with_product p u)) t e) all)
  value_spelled (Behind (f ∷ stack) s p u) x t m e = cc

  -- a front of what some formula begins with
  pub front_can : (x y : List (Token W)) → CanBegin (x ++ y) → CanBegin x
  front_can x y c = (y ++ c.0, c.1, subst (λ (z : List (Token W)). Spells W Sum z c.1) (append_assoc x y c.0) c.2)

  no_longer : (stack : List (Frame W)) → length (unnegated stack) ≤ length stack
  no_longer [] = omega arith
  no_longer (Negation ∷ stack) = omega (arith, no_longer stack)
  no_longer (Group s p ∷ stack) = omega arith

  behind_can : (n : ℕ) (stack : List (Frame W)) (s p : Option (Tree W)) (t : Tree W) (x : List (Token W)) → length stack ≤ n → Means (Behind stack s p t) x → CanBegin x
  behind_can n [] s p t x l m = ([], with_sum s (with_product p t), subst (λ (z : List (Token W)). Spells W Sum z (with_sum s (with_product p t))) (sym (append-nil x)) (value_spelled (Behind [] s p t) x (with_sum s (with_product p t)) m refl))
  behind_can n (Negation ∷ stack) s p t x l m = absurd m.3
  behind_can zero (Group g h ∷ stack) s p t x l m = absurd (omega arith)
  behind_can (suc n) (Group g h ∷ stack) s p t x l m =
      let v = with_sum s (with_product p t) in
      front_can x (Mark sign.Close ∷ [])
      (behind_can n (unnegated stack) g h (negated stack v) (x ++ Mark sign.Close ∷ []) (omega (arith, no_longer stack)) (step_means (Behind (Group g h ∷ stack) s p t) (put_operand stack g h v) (Mark sign.Close) x m refl))

  wanted_can : (w : W) (stack : List (Frame W)) (s p : Option (Tree W)) (x : List (Token W)) → Means (Wanted stack s p) x → CanBegin (x ++ Word w ∷ [])
  wanted_can w stack s p x m =
      behind_can (length (unnegated stack)) (unnegated stack) s p (negated stack (formula.Word w)) (x ++ Word w ∷ []) (omega arith) (step_means (Wanted stack s p) (put_operand stack s p (formula.Word w)) (Word w) x m refl)

  state_can : (w : W) (s : State W) (x : List (Token W)) → Means s x → CanBegin x
  state_can w (Wanted stack s p) x m = front_can x (Word w ∷ []) (wanted_can w stack s p x m)
  state_can w (Behind stack s p t) x m = behind_can (length stack) stack s p t x (omega arith) m

  -- some formula begins with what the machine has read, and behind a state that wants an operand a word may stand
  pub read_can : (w : W) (s : State W) (x : List (Token W)) → run (Some (start W)) x ≡ Some s → CanBegin x
  read_can w s x e = state_can w s x (read_means x s e)

  pub word_can : (w : W) (stack : List (Frame W)) (s p : Option (Tree W)) (x : List (Token W)) → run (Some (start W)) x ≡ Some (Wanted stack s p) → CanBegin (x ++ Word w ∷ [])
  word_can w stack s p x e = wanted_can w stack s p x (read_means x (Wanted stack s p) e)

  -- the machine reads each formula to its end
  pub record Ends (x : List (Token W)) (t : Tree W) : Type 0 where
    pub state : State W
    pub ran : run (Some (start W)) x ≡ Some state
    pub value : value state ≡ Some t

  pub spelled_runs : (x : List (Token W)) (t : Tree W) → Spells W Sum x t → Ends x t
  spelled_runs x t s =
      let r = reads s [] [] tt in
      record { state = Behind [] r.0 r.1 r.2; ran = ap (run (Some (start W))) (sym (append-nil x)) ∙ r.4; value = ap Some r.3 }

  pub one_tree : (x : List (Token W)) (t u : Tree W) → Spells W Sum x t → Spells W Sum x u → t ≡ u
  one_tree x t u s v =
      let a = spelled_runs x t s in
      let b = spelled_runs x u v in
      some_one t u (sym a.value ∙ ap value (some_one a.state b.state (sym a.ran ∙ b.ran)) ∙ b.value)

  -- no formula goes on where the machine stops
  pub stops : (s : State W) (t : Token W) (x m : List (Token W)) → run (Some (start W)) x ≡ Some s → step s t ≡ None → CanBegin (x ++ t ∷ m) → ⊥
  stops s t x m ran none c =
      let end = spelled_runs ((x ++ t ∷ m) ++ c.0) c.1 c.2 in
      let runs : run (Some (start W)) ((x ++ t ∷ m) ++ c.0) ≡ None =
      run-append W (Some (start W)) (x ++ t ∷ m) c.0 ∙ ap (λ (o : Option (State W)). run o c.0) (run-append W (Some (start W)) x (t ∷ m) ∙ ap (λ (o : Option (State W)). run o (t ∷ m)) ran ∙ ap (λ (o : Option (State W)). run o m) none ∙ run-none W m) ∙ run-none W c.0 in
      let wrong : None ≡ Some end.state = sym runs ∙ end.ran in
      cc

  -- what stands open
  ended_signs : (stack : List (Frame W)) → ended (map sign_of_frame stack) ≡ map sign_of_frame (unnegated stack)
  ended_signs [] = refl
  ended_signs (Negation ∷ stack) = ended_signs stack
  ended_signs (Group s p ∷ stack) = refl

  abbrev signs : State W → List Sign
  signs s = map sign_of_frame (stack_of s)

  same_signs : (s u : State W) (x : List Sign) → s ≡ u → x ≡ signs s → x ≡ signs u
  same_signs s u x e f = f ∙ ap signs e

  step_signs : (s u : State W) (t : Token W) → step s t ≡ Some u → open_behind (signs s) t ≡ signs u
  step_signs (Wanted stack s p) u (Word w) e = same_signs (put_operand stack s p (formula.Word w)) u _ (some_one _ u e) (ended_signs stack)
  step_signs (Wanted stack s p) u (Mark sign.Not) e = same_signs (Wanted (Negation ∷ stack) s p) u _ (some_one _ u e) refl
  step_signs (Wanted stack s p) u (Mark sign.Open) e = same_signs (Wanted (Group s p ∷ stack) None None) u _ (some_one _ u e) refl
  step_signs (Wanted stack s p) u (Mark sign.And) e = cc
  step_signs (Wanted stack s p) u (Mark sign.Or) e = cc
  step_signs (Wanted stack s p) u (Mark sign.Close) e = cc
  step_signs (Behind stack s p t) u (Word w) e = cc
  step_signs (Behind stack s p t) u (Mark sign.Not) e = cc
  step_signs (Behind stack s p t) u (Mark sign.Open) e = cc
  step_signs (Behind stack s p t) u (Mark sign.And) e = same_signs (Wanted stack s (Some (with_product p t))) u _ (some_one _ u e) refl
  step_signs (Behind stack s p t) u (Mark sign.Or) e = same_signs (Wanted stack (Some (with_sum s (with_product p t))) None) u _ (some_one _ u e) refl
  step_signs (Behind [] s p t) u (Mark sign.Close) e = cc
  step_signs (Behind (Negation ∷ stack) s p t) u (Mark sign.Close) e = cc
  step_signs (Behind (Group g h ∷ stack) s p t) u (Mark sign.Close) e = same_signs (put_operand stack g h (with_sum s (with_product p t))) u _ (some_one _ u e) (ended_signs stack)

  run_signs : (x : List (Token W)) (s u : State W) → run (Some s) x ≡ Some u → open_after (signs s) x ≡ signs u
  run_signs [] s u e = ap signs (some_one s u e)
  run_signs (t ∷ x) s u e = first_step (open_after (open_behind (signs s) t) x ≡ signs u) (step s t) u x e (λ v f g. ap (λ (z : List Sign). open_after z x) (step_signs s v t f) ∙ run_signs x v u g)

  pub read_signs : (x : List (Token W)) (s : State W) → run (Some (start W)) x ≡ Some s → open_after [] x ≡ map sign_of_frame (stack_of s)
  read_signs x s e = run_signs x (start W) s e

  pub operators-push : (x : List (Token W)) (t : Token W) → operators (x ++ t ∷ []) ≡ operators x + one_operator t
  operators-push [] t = omega arith
  operators-push (y ∷ x) t = omega (arith, operators-push x t)

-- What the reader knows of a text on the way and at each end.
use Rattle.std.proofs.Common.{◌≡◌, ◌≢◌, ℕ, ◌+◌, ◌<◌, ◌≤◌, ◌⊎◌, inl, inr, List, [], ◌∷◌, ◌++◌, length, Option, None, Some, Result, Ok, Err, refl, sym, ap, ap₂, ◌∙◌, subst, arith, append-nil}
use Rattle.std.proofs.lemmas.List.{length-map}
use Rattle.gx_bytes.specs.declared.error.ValueError.{ValueError}
use Rattle.gx_bytes.specs.declared.error.ValueError.TheVariants.{NoValue, OutOfRange, TooDeep, Memory}
use Rattle.gx_formula.specs.Formula.{Tree}
use Rattle.gx_formula.specs.Tokens.{Token, Word, IsBlank, AreWords, TakesToken, Begins}
use Rattle.gx_formula.specs.Grammar.{Sum, Spells, open_after, one_operator, operators, CanBegin, IsSmall, IsWithin, SpellsFormula, IsTooDeep, HasFar, AnswersFormula, AnswersQuery, AreAlike}
use Rattle.gx_formula.specs.Machine.{Frame, State, Wanted, step, run, value, sign_of_frame, stack_of}
use Rattle.gx_formula.proofs.MachineLemmas.{start, run-append, read_means, value_spelled, front_can, read_can, word_can, spelled_runs, one_tree, stops, read_signs, operators-push}
use Rattle.gx_bytes.proofs.SingleAnswers.{IsSingle, same_answer}
use Rattle.gx_formula.proofs.TokenLemmas.{no_token, far_token, far_blank, compare, begins_more}

-- a front of some tokens and one more is a front of the tokens, or all
front_push : {A : Type 0} (xs : List A) (t : A) (front more : List A) → xs ++ t ∷ [] ≡ front ++ more → ((rest : List A) × (xs ≡ front ++ rest)) ⊎ (front ≡ xs ++ t ∷ [])
front_push xs t [] more e = inl (xs, refl)
front_push [] t (f ∷ []) more e = let head : f ≡ t = cc in inr (ap (λ z. z ∷ []) head)
front_push [] t (f ∷ g ∷ front) more e = cc
front_push (x ∷ xs) t (f ∷ front) more e =
    let head : f ≡ x = cc in
    let tail : xs ++ t ∷ [] ≡ front ++ more = cc in
    elim (front_push xs t front more tail) [
      | inl p ↦ inl (p.0, ap₂ (λ c cs. c ∷ cs) (sym head) p.1)
      | inr p ↦ inr (ap₂ (λ c cs. c ∷ cs) head p)
    ]

module _ (W : Type 0) (Takes : List ℕ → W → List ℕ → Type 0) where
  -- the tokens read so far, the state that they lead to, and how many of them are operators
  pub record SoFar (text rest : List ℕ) (s : State W) (count : ℕ) : Type 0 where
    pub done : List (Token W)
    pub begins : Begins Takes text done rest
    pub ran : run (Some (start W)) done ≡ Some s
    pub counted : count ≡ operators done
    pub within : IsWithin done

  none_within : IsWithin {W = W} []
  none_within [] more e = record { depth = omega arith; operators = omega arith }
  none_within (t ∷ front) more e = cc

  pub begin : (text : List ℕ) → SoFar text text (start W) 0
  begin text = record { done = []; begins = refl; ran = refl; counted = refl; within = none_within }

  within_push : (xs : List (Token W)) (t : Token W) → IsWithin xs → IsSmall (xs ++ t ∷ []) → IsWithin (xs ++ t ∷ [])
  within_push xs t w small front more e = elim (front_push xs t front more e) [
    | inl p ↦ w front p.0 p.1
    | inr p ↦ subst IsSmall (sym p) small
  ]

  ran_push : (xs : List (Token W)) (t : Token W) (s u : State W) → run (Some (start W)) xs ≡ Some s → step s t ≡ Some u → run (Some (start W)) (xs ++ t ∷ []) ≡ Some u
  ran_push xs t s u e f = run-append W (Some (start W)) xs (t ∷ []) ∙ ap (λ (o : Option (State W)). run o (t ∷ [])) e ∙ f

  depth_is : (xs : List (Token W)) (s : State W) → run (Some (start W)) xs ≡ Some s → length (open_after [] xs) ≡ length (stack_of s)
  depth_is xs s e = ap length (read_signs W xs s e) ∙ length-map (stack_of s) sign_of_frame

  pub one_more : (text rest after : List ℕ) (s u : State W) (t : Token W) (m n : ℕ) → SoFar text rest s m → TakesToken Takes rest t after → step s t ≡ Some u
      → length (stack_of u) ≤ 64 → n ≡ m + one_operator t → n ≤ 1024 → SoFar text after u n
  one_more text rest after s u t m n h takes on small e few =
      let ran = ran_push h.done t s u h.ran on in
      let counted : n ≡ operators (h.done ++ t ∷ []) = omega (arith, e, h.counted, operators-push W h.done t) in
      let depth = depth_is (h.done ++ t ∷ []) u ran in
      record {
        done = h.done ++ t ∷ [];
        begins = begins_more W Takes h.done t text rest after h.begins takes;
        ran = ran;
        counted = counted;
        within = within_push h.done t h.within (record { depth = omega (arith, depth, small); operators = omega (arith, counted, few) });
      }

  pub goes_too_deep : (w : W) (text rest after : List ℕ) (s u : State W) (t : Token W) (m : ℕ) → SoFar text rest s m → TakesToken Takes rest t after → step s t ≡ Some u
      → (64 < length (stack_of u)) ⊎ (1024 < m + one_operator t) → IsTooDeep Takes text
  goes_too_deep w text rest after s u t m h takes on deep =
      let ran = ran_push h.done t s u h.ran on in
      let depth = depth_is (h.done ++ t ∷ []) u ran in
      let count = operators-push W h.done t in
      record {
        tokens = h.done ++ t ∷ [];
        rest = after;
        begins = begins_more W Takes h.done t text rest after h.begins takes;
        can_begin = read_can W w u (h.done ++ t ∷ []) ran;
        deep = elim deep [ inl more ↦ inl (omega (arith, depth, more)) | inr more ↦ inr (omega (arith, h.counted, count, more)) ];
      }

  pub all_read : (text rest : List ℕ) (s : State W) (m : ℕ) (tree : Tree W) → SoFar text rest s m → IsBlank rest → value s ≡ Some tree → SpellsFormula Takes text tree
  all_read text rest s m tree h blank e = record {
    tokens = h.done;
    made = (rest, h.begins, blank);
    spelled = value_spelled W s h.done tree (read_means W h.done s h.ran) e;
    within = h.within;
  }

  pub far_read : (w : W) (IsFar : List ℕ → Type 0) (text rest blank core : List ℕ) (stack : List (Frame W)) (sum product : Option (Tree W)) (m : ℕ) → SoFar text rest (Wanted stack sum product) m → rest ≡ blank ++ core → IsBlank blank → IsFar core → HasFar Takes IsFar text
  far_read w IsFar text rest blank core stack sum product m h e white far = record {
    tokens = h.done;
    blank = blank;
    core = core;
    begins = subst (Begins Takes text h.done) e h.begins;
    white = white;
    far = far;
    may_stand = (w, word_can W w stack sum product h.done h.ran);
    within = h.within;
  }

module _ (W : Type 0) (Takes : List ℕ → W → List ℕ → Type 0) (IsFar : List ℕ → Type 0) (words : AreWords Takes IsFar) where
  -- tokens of which too many stand open, or too many are operators, aren't within the limits
  not_within : (xs ys more : List (Token W)) → IsWithin xs → xs ≡ ys ++ more → (64 < length (open_after [] ys)) ⊎ (1024 < operators ys) → ⊥
  not_within xs ys more w e deep =
      let small = w ys more e in
      elim deep [ inl d ↦ omega (arith, d, small.depth) | inr d ↦ omega (arith, d, small.operators) ]

  -- nothing begins with white space alone
  blank_ends : (text rest : List ℕ) (more : List (Token W)) → IsBlank text → Begins Takes text more rest → more ≡ []
  blank_ends text rest [] p b = refl
  blank_ends text rest (t ∷ more) p b = absurd (no_token W Takes IsFar words t text b.0 p b.1)

  -- the end of the reading, where no token goes on
  pub record Ends (rest : List ℕ) (s : State W) : Type 0 where
    pub tokens : (t : Token W) (after : List ℕ) → TakesToken Takes rest t after → step s t ≡ None
    pub end : IsBlank rest → value s ≡ None
    pub far : (blank core : List ℕ) → rest ≡ blank ++ core → IsBlank blank → IsFar core → (w : W) → step s (Word w) ≡ None

  -- some formula begins with the tokens that were read and with more of them
  goes_on : (text rest other : List ℕ) (s : State W) (m : ℕ) (h : SoFar W Takes text rest s m) → Ends rest s → (ys : List (Token W)) (t : Token W) (more : List (Token W)) → ys ≡ h.done ++ t ∷ more → Begins Takes rest (t ∷ more) other → CanBegin ys → ⊥
  goes_on text rest other s m h end ys t more e b can = stops W s t h.done more h.ran (end.tokens t b.0 b.1) (subst CanBegin e can)

  no_formula : (text rest : List ℕ) (s : State W) (m : ℕ) → SoFar W Takes text rest s m → Ends rest s → (tree : Tree W) → SpellsFormula Takes text tree → ⊥
  no_formula text rest s m h end tree f = elim (compare W Takes IsFar words f.tokens h.done text f.made.0 rest f.made.1 h.begins) [
    | inl p ↦ after p.0 p.1 p.2
    | inr p ↦ before p.0 p.1 p.2
  ]
    where
      same : f.tokens ≡ h.done → IsBlank rest → ⊥
      same e blank =
          let ends = spelled_runs W f.tokens tree f.spelled in
          let states : Some ends.state ≡ Some s = sym ends.ran ∙ ap (run (Some (start W))) e ∙ h.ran in
          let state : ends.state ≡ s = cc in
          let wrong : Some tree ≡ None = sym ends.value ∙ ap value state ∙ end.end blank in
          cc

      after : (more : List (Token W)) → f.tokens ≡ h.done ++ more → Begins Takes rest more f.made.0 → ⊥
      after [] e b = same (e ∙ append-nil h.done) (subst IsBlank (sym b) f.made.2)
      after (t ∷ more) e b = goes_on text rest f.made.0 s m h end f.tokens t more e b ([], tree, subst (λ (z : List (Token W)). Spells W Sum z tree) (sym (append-nil f.tokens)) f.spelled)

      before : (more : List (Token W)) → h.done ≡ f.tokens ++ more → Begins Takes f.made.0 more rest → ⊥
      before more e b =
          let none = blank_ends f.made.0 rest more f.made.2 b in
          same (sym (e ∙ ap (λ (z : List (Token W)). f.tokens ++ z) none ∙ append-nil f.tokens)) (subst IsBlank (subst (λ (z : List (Token W)). Begins Takes f.made.0 z rest) none b) f.made.2)

  no_far : (text rest : List ℕ) (s : State W) (m : ℕ) → SoFar W Takes text rest s m → Ends rest s → HasFar Takes IsFar text → ⊥
  no_far text rest s m h end f = elim (compare W Takes IsFar words f.tokens h.done text (f.blank ++ f.core) rest f.begins h.begins) [
    | inl p ↦ after p.0 p.1 p.2
    | inr p ↦ before p.0 p.1 p.2
  ]
    where
      same : f.tokens ≡ h.done → rest ≡ f.blank ++ f.core → ⊥
      same e is =
          stops W s (Word f.may_stand.0) h.done [] h.ran (end.far f.blank f.core is f.white f.far f.may_stand.0) (subst (λ (z : List (Token W)). CanBegin (z ++ Word f.may_stand.0 ∷ [])) e f.may_stand.1)

      after : (more : List (Token W)) → f.tokens ≡ h.done ++ more → Begins Takes rest more (f.blank ++ f.core) → ⊥
      after [] e b = same (e ∙ append-nil h.done) b
      after (t ∷ more) e b = goes_on text rest (f.blank ++ f.core) s m h end f.tokens t more e b (front_can W f.tokens (Word f.may_stand.0 ∷ []) f.may_stand.1)

      before : (more : List (Token W)) → h.done ≡ f.tokens ++ more → Begins Takes (f.blank ++ f.core) more rest → ⊥
      before [] e b = same (sym (e ∙ append-nil f.tokens)) (sym b)
      before (t ∷ more) e b = far_token W Takes IsFar words t (f.blank ++ f.core) f.blank f.core b.0 refl f.white f.far b.1

  no_depth : (text rest : List ℕ) (s : State W) (m : ℕ) → SoFar W Takes text rest s m → Ends rest s → IsTooDeep Takes text → ⊥
  no_depth text rest s m h end d = elim (compare W Takes IsFar words d.tokens h.done text d.rest rest d.begins h.begins) [
    | inl p ↦ after p.0 p.1 p.2
    | inr p ↦ not_within h.done d.tokens p.0 h.within p.1 d.deep
  ]
    where
      after : (more : List (Token W)) → d.tokens ≡ h.done ++ more → Begins Takes rest more d.rest → ⊥
      after [] e b = not_within h.done d.tokens [] h.within (sym (e ∙ append-nil h.done) ∙ sym (append-nil d.tokens)) d.deep
      after (t ∷ more) e b = goes_on text rest d.rest s m h end d.tokens t more e b d.can_begin

  pub no_value : (text rest : List ℕ) (s : State W) (m : ℕ) → SoFar W Takes text rest s m → Ends rest s → AnswersFormula Takes IsFar text (Err NoValue)
  no_value text rest s m h end = (no_formula text rest s m h end, no_far text rest s m h end, no_depth text rest s m h end)

  -- the answers exclude one another
  spelled_not_far : (text : List ℕ) (tree : Tree W) → SpellsFormula Takes text tree → HasFar Takes IsFar text → ⊥
  spelled_not_far text tree s f = elim (compare W Takes IsFar words s.tokens f.tokens text s.made.0 (f.blank ++ f.core) s.made.1 f.begins) [
    | inl p ↦ after p.0 p.2
    | inr p ↦ before p.0 p.2
  ]
    where
      after : (more : List (Token W)) → Begins Takes (f.blank ++ f.core) more s.made.0 → ⊥
      after [] b = far_blank W Takes IsFar words s.made.0 f.blank f.core (sym b) f.far s.made.2
      after (t ∷ more) b = far_token W Takes IsFar words t (f.blank ++ f.core) f.blank f.core b.0 refl f.white f.far b.1

      before : (more : List (Token W)) → Begins Takes s.made.0 more (f.blank ++ f.core) → ⊥
      before [] b = far_blank W Takes IsFar words s.made.0 f.blank f.core b f.far s.made.2
      before (t ∷ more) b = no_token W Takes IsFar words t s.made.0 b.0 s.made.2 b.1

  spelled_not_deep : (text : List ℕ) (tree : Tree W) → SpellsFormula Takes text tree → IsTooDeep Takes text → ⊥
  spelled_not_deep text tree s d = elim (compare W Takes IsFar words s.tokens d.tokens text s.made.0 d.rest s.made.1 d.begins) [
    | inl p ↦ not_within s.tokens d.tokens p.0 s.within p.1 d.deep
    | inr p ↦
        let none = blank_ends s.made.0 d.rest p.0 s.made.2 p.2 in
        not_within s.tokens d.tokens [] s.within (sym (p.1 ∙ ap (λ (z : List (Token W)). s.tokens ++ z) none ∙ append-nil s.tokens) ∙ sym (append-nil d.tokens)) d.deep
  ]

  far_not_deep : (text : List ℕ) → HasFar Takes IsFar text → IsTooDeep Takes text → ⊥
  far_not_deep text f d = elim (compare W Takes IsFar words f.tokens d.tokens text (f.blank ++ f.core) d.rest f.begins d.begins) [
    | inl p ↦ not_within f.tokens d.tokens p.0 f.within p.1 d.deep
    | inr p ↦ after p.0 p.1 p.2
  ]
    where
      after : (more : List (Token W)) → d.tokens ≡ f.tokens ++ more → Begins Takes (f.blank ++ f.core) more d.rest → ⊥
      after [] e b = not_within f.tokens d.tokens [] f.within (sym (e ∙ append-nil f.tokens) ∙ sym (append-nil d.tokens)) d.deep
      after (t ∷ more) e b = far_token W Takes IsFar words t (f.blank ++ f.core) f.blank f.core b.0 refl f.white f.far b.1

  one_formula : (text : List ℕ) (t u : Tree W) → SpellsFormula Takes text t → SpellsFormula Takes text u → t ≡ u
  one_formula text t u s v = elim (compare W Takes IsFar words s.tokens v.tokens text s.made.0 v.made.0 s.made.1 v.made.1) [
    | inl p ↦
        let none = blank_ends v.made.0 s.made.0 p.0 v.made.2 p.2 in
        same (p.1 ∙ ap (λ (z : List (Token W)). v.tokens ++ z) none ∙ append-nil v.tokens)
    | inr p ↦
        let none = blank_ends s.made.0 v.made.0 p.0 s.made.2 p.2 in
        same (sym (p.1 ∙ ap (λ (z : List (Token W)). s.tokens ++ z) none ∙ append-nil s.tokens))
  ]
    where
      same : s.tokens ≡ v.tokens → t ≡ u
      same e = one_tree W v.tokens t u (subst (λ (z : List (Token W)). Spells W Sum z t) e s.spelled) v.spelled

  abbrev Faults : {Q : Type 0} → List ℕ → Result Q ValueError → Type 0
  Faults text (Ok q) = ⊥
  Faults text (Err fault) = AnswersFormula Takes IsFar text (Err fault)

  single_fault : {Q : Type 0} (text : List ℕ) → IsSingle (Faults {Q = Q} text)
  single_fault text = record {
    one = λ v w a b. absurd a;
    no_value = λ v a b. a;
    out_of_range = λ v a b. a;
    too_deep = λ v a b. a;
    none_or_out = λ none far. none.1 far;
    none_or_deep = λ none deep. none.2 deep;
    out_or_deep = far_not_deep text;
  }

  fault_one : (Q : Type 0) (e f : ValueError) → (let r : Result Q ValueError = Err e in r ≡ Err f) → e ≡ f
  fault_one Q e f s = cc

  -- and two answers to a query's text are alike
  pub alike : (Q : Type 0) (tree : Q → Tree W) (text : List ℕ) (r s : Result Q ValueError) → r ≢ Err Memory → s ≢ Err Memory → AnswersQuery tree Takes IsFar text r → AnswersQuery tree Takes IsFar text s → AreAlike tree r s
  alike Q tree text (Ok q) (Ok p) m n a b = one_formula text (tree q) (tree p) a b
  alike Q tree text (Ok q) (Err NoValue) m n a b = b.0 (tree q) a
  alike Q tree text (Ok q) (Err OutOfRange) m n a b = spelled_not_far text (tree q) a b
  alike Q tree text (Ok q) (Err TooDeep) m n a b = spelled_not_deep text (tree q) a b
  alike Q tree text (Ok q) (Err Memory) m n a b = absurd (n refl)
  alike Q tree text (Err NoValue) (Ok p) m n a b = a.0 (tree p) b
  alike Q tree text (Err OutOfRange) (Ok p) m n a b = spelled_not_far text (tree p) b a
  alike Q tree text (Err TooDeep) (Ok p) m n a b = spelled_not_deep text (tree p) b a
  alike Q tree text (Err Memory) (Ok p) m n a b = absurd (m refl)
  alike Q tree text (Err e) (Err f) m n a b = fault_one Q e f (same_answer (Faults text) (single_fault text) (Err e) (Err f) m n a b)

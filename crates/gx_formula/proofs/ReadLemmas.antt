-- Each token that is read, and each end.
use Rattle.std.proofs.Common.{◌≡◌, ◌==◌, ℕ, ◌<◌, inl, inr, Bool, true, false, if◌then◌else◌, List, [], ◌∷◌, ◌++◌, length, None, Some, option_map, Result, Ok, Err, MatchResult, refl, sym, ap, ◌∙◌, subst, arith, true≢false, length-append, ne_eqb}
use Rattle.std.specs.Char.{is_ascii_whitespace}
use Rattle.std.proofs.lemmas.Bool.{cases_Bool}
use Rattle.gx_bytes.specs.Blanks.{without_leading_blank}
use Rattle.gx_bytes.specs.declared.error.ValueError.{ValueError}
use Rattle.gx_bytes.specs.declared.error.ValueError.TheVariants.{NoValue, OutOfRange, TooDeep, Memory}
use Rattle.gx_formula.specs.declared.sign.Sign.{Sign}
use Rattle.gx_formula.specs.declared.parser.Parser.{Parser}
use Rattle.gx_formula.specs.Formula.{Tree}
use Rattle.gx_formula.specs.Tokens.{sign_of, Token, Word, Mark, IsBlank, AreWords, StandsFor, TakesToken}
use Rattle.gx_formula.specs.Grammar.{AnswersFormula}
use Rattle.gx_formula.specs.Machine.{State, Wanted, Behind, step, value, frames, state_of, stack_of, parsed, IsStep, FailsSign, FailsWord, FailsEnd}
use Rattle.gx_formula.proofs.TokenLemmas.{IsBare, blanks_one, stands_bare, one_token, no_token, far_token, far_blank, one_far}
use Rattle.gx_formula.proofs.AnswerLemmas.{SoFar, one_more, goes_too_deep, all_read, far_read, Ends, no_value}
use Rattle.gx_formula.proofs.StepLemmas.{length-frames}

split_blank : (text : List ℕ) → (blank : List ℕ) × IsBlank blank × (text ≡ blank ++ without_leading_blank text)
split_blank [] = ([], tt, refl)
split_blank (c ∷ cs) = elim (cases_Bool (is_ascii_whitespace c)) [
  | inl white ↦ let more = split_blank cs in (c ∷ more.0, (white, more.1), rw white (ap (λ (t : List ℕ). c ∷ t) more.2))
  | inr other ↦ ([], tt, rw other refl)
]

bare_core : (text : List ℕ) → 0 < length (without_leading_blank text) → IsBare (without_leading_blank text)
bare_core [] some = absurd (omega (arith, some))
bare_core (c ∷ cs) some = go (is_ascii_whitespace c) refl some (bare_core cs)
  where
    go : (b : Bool) → is_ascii_whitespace c ≡ b → 0 < length (if b then without_leading_blank cs else c ∷ cs) → (0 < length (without_leading_blank cs) → IsBare (without_leading_blank cs)) → IsBare (if b then without_leading_blank cs else c ∷ cs)
    go true e some more = more some
    go false e some more = e

all_blank : (text : List ℕ) → length (without_leading_blank text) ≡ 0 → IsBlank text
all_blank [] none = tt
all_blank (c ∷ cs) none = go (is_ascii_whitespace c) refl none (all_blank cs)
  where
    go : (b : Bool) → is_ascii_whitespace c ≡ b → length (if b then without_leading_blank cs else c ∷ cs) ≡ 0 → (length (without_leading_blank cs) ≡ 0 → IsBlank cs) → IsBlank (c ∷ cs)
    go true e none more = (e, more none)
    go false e none more = absurd (omega (arith, none))

pub no_length : (xs : List ℕ) → true ≡ (length xs == 0) → length xs ≡ 0
no_length [] e = refl
no_length (x ∷ xs) e = absurd (true≢false (e ∙ ne_eqb (length (x ∷ xs)) 0 (omega arith)))

pub some_length : (xs : List ℕ) → false ≡ (length xs == 0) → 0 < length xs
some_length [] e = absurd (true≢false (sym e))
some_length (x ∷ xs) e = omega arith

depth : {F W : Type 0} (tree : F → Tree W) (p : Parser F) → length (stack_of (parsed tree p)) ≡ length p.stack.items
depth tree p = go p.operand ∙ length-frames tree p.stack.items
  where
    go : (o : _) → length (stack_of (state_of (frames tree p.stack.items) (option_map tree p.sum) (option_map tree p.product) (option_map tree o))) ≡ length (frames tree p.stack.items)
    go None = refl
    go (Some f) = refl

module _ (W : Type 0) (Takes : List ℕ → W → List ℕ → Type 0) (IsFar : List ℕ → Type 0) (words : AreWords Takes IsFar) where
  pub takes_token : (t : Token W) (rest core after : List ℕ) → core ≡ without_leading_blank rest → StandsFor Takes t core after → TakesToken Takes rest t after
  takes_token t rest core after e s =
      let b = split_blank rest in
      record { blank = b.0; core = core; parts = b.2 ∙ ap (λ (x : List ℕ). b.0 ++ x) (sym e); white = b.1; stands = s }

  -- what stands behind a token is shorter
  pub token_shorter : (t : Token W) (rest after : List ℕ) → TakesToken Takes rest t after → length after < length rest
  token_shorter t rest after k = omega (arith, ap length k.parts, length-append k.blank k.core, go t k.stands)
    where
      go : (t : Token W) → StandsFor Takes t k.core after → length after < length k.core
      go (Word w) s = words.shorter k.core w after s
      go (Mark m) s = omega (arith, ap length s.1)

  pub goes_on : (F : Type 0) (tree : F → Tree W) (text rest after : List ℕ) (p q : Parser F) (t : Token W) → SoFar W Takes text rest (parsed tree p) p.operators → TakesToken Takes rest t after → IsStep tree p t q
      → SoFar W Takes text after (parsed tree q) q.operators
  goes_on F tree text rest after p q t h takes s =
      one_more W Takes text rest after (parsed tree p) (parsed tree q) t p.operators q.operators h takes s.steps (omega (arith, depth tree q, s.limited.0)) s.operators s.limited.1

  sign_ends : (rest after : List ℕ) (s : State W) (m : Sign) → TakesToken Takes rest (Mark m) after → step s (Mark m) ≡ None → Ends W Takes IsFar words rest s
  sign_ends rest after s m takes none = record {
    tokens = λ t x k. subst (λ (u : Token W). step s u ≡ None) (one_token W Takes IsFar words (Mark m) t rest after x takes k).0 none;
    end = λ blank. absurd (no_token W Takes IsFar words (Mark m) rest after blank takes);
    far = λ blank core e white far w. absurd (far_token W Takes IsFar words (Mark m) rest blank core after e white far takes);
  }

  pub sign_fails : (w : W) (text rest core after : List ℕ) (s : State W) (n : ℕ) (m : Sign) (fault : ValueError) → SoFar W Takes text rest s n → core ≡ without_leading_blank rest → StandsFor Takes (Mark m) core after
      → FailsSign s n m fault → AnswersFormula Takes IsFar text (Err fault)
  sign_fails w text rest core after s n m NoValue h e k f = no_value W Takes IsFar words text rest s n h (sign_ends rest after s m (takes_token (Mark m) rest core after e k) f)
  sign_fails w text rest core after s n m OutOfRange h e k f = absurd f
  sign_fails w text rest core after s n m TooDeep h e k f = goes_too_deep W Takes w text rest after s f.0 (Mark m) n h (takes_token (Mark m) rest core after e k) f.1 f.2
  sign_fails w text rest core after s n m Memory h e k f = tt

  -- the token at the front of a text that doesn't begin with a sign
  core_of : (t : Token W) (rest core after : List ℕ) → core ≡ without_leading_blank rest → 0 < length core → TakesToken Takes rest t after → StandsFor Takes t core after
  core_of t rest core after e some k =
      let b = split_blank rest in
      let bare : IsBare (without_leading_blank rest) = bare_core rest (subst (λ (x : List ℕ). 0 < length x) e some) in
      let one = blanks_one k.blank b.0 k.core (without_leading_blank rest) k.white b.1 (stands_bare W Takes IsFar words t k.core after k.stands) bare (sym k.parts ∙ b.2) in
      subst (λ (x : List ℕ). StandsFor Takes t x after) (one ∙ sym e) k.stands

  word_ends : (rest core : List ℕ) (s : State W) → core ≡ without_leading_blank rest → 0 < length core → ((c : ℕ) (more : List ℕ) → core ≡ c ∷ more → sign_of c ≡ None)
      → ((w : W) (after : List ℕ) → Takes core w after → step s (Word w) ≡ None) → (IsFar core → (w : W) → step s (Word w) ≡ None) → Ends W Takes IsFar words rest s
  word_ends rest core s e some none near far = record {
    tokens = λ t x k. go t x (core_of t rest core x e some k);
    end = λ blank. absurd (go_blank blank);
    far = λ blank other parts white f w.
        let b = split_blank rest in
        far (one_far W Takes IsFar words rest b.0 blank core other (b.2 ∙ ap (λ (x : List ℕ). b.0 ++ x) (sym e)) parts b.1 white (subst IsBare (sym e) (bare_core rest (subst (λ (x : List ℕ). 0 < length x) e some))) f) w;
  }
    where
      go : (t : Token W) (x : List ℕ) → StandsFor Takes t core x → step s t ≡ None
      go (Word w) x k = near w x k
      go (Mark m) x k = absurd (let wrong : None ≡ Some m = sym (none k.0 x k.1) ∙ k.2 in cc)

      no_core : (text : List ℕ) → IsBlank text → without_leading_blank text ≡ []
      no_core [] p = refl
      no_core (c ∷ cs) p = rw p.0 (no_core cs p.1)

      go_blank : IsBlank rest → ⊥
      go_blank p = omega (arith, some, ap length (e ∙ no_core rest p))

  pub word_fails : (text rest core : List ℕ) (s : State W) (n : ℕ) (fault : ValueError) → SoFar W Takes text rest s n → core ≡ without_leading_blank rest → 0 < length core → ((c : ℕ) (more : List ℕ) → core ≡ c ∷ more → sign_of c ≡ None)
      → W → FailsWord Takes IsFar core s fault → AnswersFormula Takes IsFar text (Err fault)
  word_fails text rest core s n NoValue h e some none w f = no_value W Takes IsFar words text rest s n h (word_ends rest core s e some none f.0 f.1)
  word_fails text rest core (Wanted stack sum product) n OutOfRange h e some none w f =
      let b = split_blank rest in
      far_read W Takes w IsFar text rest b.0 core stack sum product n h (b.2 ∙ ap (λ (x : List ℕ). b.0 ++ x) (sym e)) b.1 f.0
  word_fails text rest core (Behind stack sum product t) n OutOfRange h e some none w f = absurd f.1
  word_fails text rest core s n TooDeep h e some none w f = absurd f
  word_fails text rest core s n Memory h e some none w f = tt

  end_ends : (rest : List ℕ) (s : State W) → IsBlank rest → value s ≡ None → Ends W Takes IsFar words rest s
  end_ends rest s blank none = record {
    tokens = λ t x k. absurd (no_token W Takes IsFar words t rest x blank k);
    end = λ _. none;
    far = λ a core e white far w. absurd (far_blank W Takes IsFar words rest a core e far blank);
  }

  pub end_answers : (F : Type 0) (tree : F → Tree W) (text rest core : List ℕ) (s : State W) (n : ℕ) (r : Result F ValueError) → SoFar W Takes text rest s n → core ≡ without_leading_blank rest → length core ≡ 0
      → MatchResult r (λ f. value s ≡ Some (tree f)) (λ e. FailsEnd s e) → MatchResult r (λ f. AnswersFormula Takes IsFar text (Ok (tree f))) (λ e. AnswersFormula Takes IsFar text (Err e))
  end_answers F tree text rest core s n (Ok f) h e none a = all_read W Takes text rest s n (tree f) h (all_blank rest (sym (ap length e) ∙ none)) a
  end_answers F tree text rest core s n (Err NoValue) h e none a = no_value W Takes IsFar words text rest s n h (end_ends rest s (all_blank rest (sym (ap length e) ∙ none)) a)
  end_answers F tree text rest core s n (Err OutOfRange) h e none a = absurd a
  end_answers F tree text rest core s n (Err TooDeep) h e none a = absurd a
  end_answers F tree text rest core s n (Err Memory) h e none a = tt

-- The elements of an array text, as they are read.
use Rattle.std.proofs.Common.{◌≡◌, ◌≢◌, ℕ, List, [], ◌∷◌, ◌++◌, Result, Ok, Err, refl, sym, ap, ap₂, ◌∙◌, subst, arith}
use Rattle.std.specs.List.{AllZip, AllByRecursion}
use Rattle.std.proofs.lemmas.List.Elements.{AllZip-push}
use Rattle.gx_bytes.specs.Blanks.{core_of}
use Rattle.gx_bytes.specs.declared.error.ValueError.{ValueError}
use Rattle.gx_bytes.specs.declared.error.ValueError.TheVariants.{NoValue, OutOfRange, TooDeep, Memory}
use Rattle.gx_bytes.proofs.SingleAnswers.{IsSingle}
use Rattle.gx_intarr.specs.Runs.{Stops}
use Rattle.gx_intarr.specs.Texts.{is_plain, SpellsElement, closed, braced, SpellsTexts, AnswersTexts}
use Rattle.gx_intarr.specs.Reading.{TakesElement, SpellsElements, AnswersElements}
use Rattle.gx_intarr.proofs.RunLemmas.{heads}
use Rattle.gx_intarr.proofs.ElementLemmas.{no_brace_first, one_take, spelled_takes, takes_spelled}

-- elements with a comma before each, and a rest
abbrev pub commas : List (List ℕ) → List ℕ → List ℕ
commas [] rest = rest
commas (raw ∷ raws) rest = 44 ∷ (raw ++ commas raws rest)

closed-commas : (raws : List (List ℕ)) → closed raws ≡ commas raws (125 ∷ [])
closed-commas [] = refl
closed-commas (raw ∷ raws) = ap (λ (x : List ℕ). 44 ∷ (raw ++ x)) (closed-commas raws)

commas-push : (raws : List (List ℕ)) (raw rest : List ℕ) → commas (raws ++ raw ∷ []) rest ≡ commas raws (44 ∷ (raw ++ rest))
commas-push [] raw rest = refl
commas-push (r ∷ raws) raw rest = ap (λ (x : List ℕ). 44 ∷ (r ++ x)) (commas-push raws raw rest)

closed_stops : (raws : List (List ℕ)) → Stops is_plain (closed raws)
closed_stops [] = refl
closed_stops (raw ∷ raws) = refl

commas_stop : (raws : List (List ℕ)) (rest : List ℕ) → Stops is_plain (commas raws (44 ∷ rest))
commas_stop [] rest = refl
commas_stop (raw ∷ raws) rest = refl

no_brace : (x y : List ℕ) → 125 ∷ x ≡ 44 ∷ y → ⊥
no_brace x y e = omega (arith, heads 125 44 x y e)

-- each is an element's text
abbrev AreElements : List (List ℕ) → Type 0
AreElements raws = AllByRecursion (λ raw. (text : List ℕ) × SpellsElement raw text) raws

are_elements : (raws texts : List (List ℕ)) → AllZip SpellsElement raws texts → AreElements raws
are_elements [] [] p = tt
are_elements [] (t ∷ texts) p = absurd p
are_elements (raw ∷ raws) [] p = absurd p
are_elements (raw ∷ raws) (t ∷ texts) p = ((t, p.0), are_elements raws texts p.1)

-- an element comes next, and then the other elements
record GoesOn (rest : List ℕ) : Type 0 where
  text : List ℕ
  more : List (List ℕ)
  takes : TakesElement rest text (closed more)

-- the elements of a whole text, of which some were read
goes_on : (done raws : List (List ℕ)) (rest : List ℕ) → AreElements done → AreElements raws → closed raws ≡ commas done (44 ∷ rest) → GoesOn rest
goes_on [] [] rest p q e = absurd (no_brace [] rest e)
goes_on [] (raw ∷ raws) rest p q e =
    let all : 44 ∷ (raw ++ closed raws) ≡ 44 ∷ rest = e in
    let same : raw ++ closed raws ≡ rest = cc in
    record {
      text = q.0.0;
      more = raws;
      takes = subst (λ (x : List ℕ). TakesElement x q.0.0 (closed raws)) same (spelled_takes raw q.0.0 (closed raws) q.0.1 (closed_stops raws));
    }
goes_on (d ∷ done) [] rest p q e = absurd (no_brace [] (d ++ commas done (44 ∷ rest)) e)
goes_on (d ∷ done) (raw ∷ raws) rest p q e =
    let all : 44 ∷ (raw ++ closed raws) ≡ 44 ∷ (d ++ commas done (44 ∷ rest)) = e in
    let same : raw ++ closed raws ≡ d ++ commas done (44 ∷ rest) = cc in
    let here = spelled_takes raw q.0.0 (closed raws) q.0.1 (closed_stops raws) in
    let there = spelled_takes d p.0.0 (commas done (44 ∷ rest)) p.0.1 (commas_stop done rest) in
    let P : List ℕ → Type 0 = λ x. TakesElement x q.0.0 (closed raws) in
    let one = one_take (d ++ commas done (44 ∷ rest)) q.0.0 p.0.0 (closed raws) (commas done (44 ∷ rest)) (subst P same here) there in
    goes_on done raws rest p.1 q.1 one.1

-- the elements read so far, with a comma behind each, and the rest
pub record HasRead (text : List ℕ) (done : List (List ℕ)) (rest : List ℕ) : Type 0 where
  pub raws : List (List ℕ)
  pub each : AllZip SpellsElement raws done
  pub parts : 44 ∷ text ≡ commas raws (44 ∷ rest)

pub start : (text : List ℕ) → HasRead text [] text
start text = record { raws = []; each = tt; parts = refl }

on : (text rest : List ℕ) (done texts : List (List ℕ)) → HasRead text done rest → SpellsElements text texts → GoesOn rest
on text rest done texts h s = goes_on h.raws s.raws rest (are_elements h.raws done h.each) (are_elements s.raws texts s.each) (sym s.parts ∙ h.parts)

pub no_element : (text rest : List ℕ) (done : List (List ℕ)) → HasRead text done rest → ((x after : List ℕ) → TakesElement rest x after → ⊥) → (texts : List (List ℕ)) → SpellsElements text texts → ⊥
no_element text rest done h none texts s =
    let g = on text rest done texts h s in
    none g.text (closed g.more) g.takes

no_more : (after : List ℕ) (raws : List (List ℕ)) → after ≡ closed raws → (after ≡ 125 ∷ [] → ⊥) → ((more : List ℕ) → after ≢ 44 ∷ more) → ⊥
no_more after [] e end comma = end e
no_more after (raw ∷ raws) e end comma = comma (raw ++ closed raws) e

pub broken : (text rest x after : List ℕ) (done : List (List ℕ)) → HasRead text done rest → TakesElement rest x after → (after ≡ 125 ∷ [] → ⊥) → ((more : List ℕ) → after ≢ 44 ∷ more) → (texts : List (List ℕ)) → SpellsElements text texts → ⊥
broken text rest x after done h takes end comma texts s =
    let g = on text rest done texts h s in
    let one = one_take rest x g.text after (closed g.more) takes g.takes in
    no_more after g.more one.1 end comma

pub ends : (text rest x after : List ℕ) (done next : List (List ℕ)) → HasRead text done rest → TakesElement rest x after → after ≡ 125 ∷ [] → next ≡ done ++ x ∷ [] → SpellsElements text next
ends text rest x after done next h takes end e =
    let t = takes_spelled rest x after takes in
    record {
      raws = h.raws ++ t.0 ∷ [];
      parts = h.parts ∙ ap (λ (y : List ℕ). commas h.raws (44 ∷ y)) (t.1 ∙ ap (λ (y : List ℕ). t.0 ++ y) end) ∙ sym (commas-push h.raws t.0 (125 ∷ [])) ∙ sym (closed-commas (h.raws ++ t.0 ∷ []));
      each = subst (AllZip SpellsElement (h.raws ++ t.0 ∷ [])) (sym e) (AllZip-push SpellsElement h.raws done t.0 x h.each t.2);
    }

pub reads_more : (text rest x after more : List ℕ) (done next : List (List ℕ)) → HasRead text done rest → TakesElement rest x after → after ≡ 44 ∷ more → next ≡ done ++ x ∷ [] → HasRead text next more
reads_more text rest x after more done next h takes comma e =
    let t = takes_spelled rest x after takes in
    record {
      raws = h.raws ++ t.0 ∷ [];
      parts = h.parts ∙ ap (λ (y : List ℕ). commas h.raws (44 ∷ y)) (t.1 ∙ ap (λ (y : List ℕ). t.0 ++ y) comma) ∙ sym (commas-push h.raws t.0 (44 ∷ more));
      each = subst (AllZip SpellsElement (h.raws ++ t.0 ∷ [])) (sym e) (AllZip-push SpellsElement h.raws done t.0 x h.each t.2);
    }

-- the braces round the elements
pub in_braces : (text body : List ℕ) (texts : List (List ℕ)) → core_of text ≡ 123 ∷ body → SpellsElements body texts → SpellsTexts text texts
in_braces text body texts e s = record { raws = s.raws; parts = go s.raws s.parts; each = s.each }
  where
    go : (raws : List (List ℕ)) → 44 ∷ body ≡ closed raws → core_of text ≡ braced raws
    go [] p = absurd (no_brace [] body (sym p))
    go (raw ∷ raws) p =
        let all : 44 ∷ body ≡ 44 ∷ (raw ++ closed raws) = p in
        let same : body ≡ raw ++ closed raws = cc in
        e ∙ ap (λ (x : List ℕ). 123 ∷ x) same

pub behind_brace : (text body : List ℕ) (texts : List (List ℕ)) → core_of text ≡ 123 ∷ body → (body ≡ 125 ∷ [] → ⊥) → SpellsTexts text texts → SpellsElements body texts
behind_brace text body texts e full s = record { raws = s.raws; parts = go s.raws s.parts; each = s.each }
  where
    go : (raws : List (List ℕ)) → core_of text ≡ braced raws → 44 ∷ body ≡ closed raws
    go [] p =
        let all : 123 ∷ body ≡ 123 ∷ 125 ∷ [] = sym e ∙ p in
        let same : body ≡ 125 ∷ [] = cc in
        absurd (full same)
    go (raw ∷ raws) p =
        let all : 123 ∷ body ≡ 123 ∷ (raw ++ closed raws) = sym e ∙ p in
        let same : body ≡ raw ++ closed raws = cc in
        ap (λ (x : List ℕ). 44 ∷ x) same

-- the fault of what stands behind the brace is the text's
pub answers_elements : (text body : List ℕ) (r : Result (List (List ℕ)) ValueError) → core_of text ≡ 123 ∷ body → (body ≡ 125 ∷ [] → ⊥) → AnswersElements body r → AnswersTexts text r
answers_elements text body (Ok texts) e full a = in_braces text body texts e a
answers_elements text body (Err NoValue) e full a = λ texts s. a texts (behind_brace text body texts e full s)
answers_elements text body (Err OutOfRange) e full a = a
answers_elements text body (Err TooDeep) e full a = a
answers_elements text body (Err Memory) e full a = tt

one_closed : (raws texts others as' : List (List ℕ)) → AllZip SpellsElement raws texts → AllZip SpellsElement others as' → closed raws ≡ closed others → texts ≡ as'
one_closed [] [] [] [] p q e = refl
one_closed [] [] (o ∷ others) (a ∷ as') p q e = absurd (no_brace [] (o ++ closed others) e)
one_closed (raw ∷ raws) (t ∷ texts) [] [] p q e = absurd (no_brace [] (raw ++ closed raws) (sym e))
one_closed (raw ∷ raws) (t ∷ texts) (o ∷ others) (a ∷ as') p q e =
    let all : 44 ∷ (raw ++ closed raws) ≡ 44 ∷ (o ++ closed others) = e in
    let same : raw ++ closed raws ≡ o ++ closed others = cc in
    let P : List ℕ → Type 0 = λ x. TakesElement x t (closed raws) in
    let one = one_take (o ++ closed others) t a (closed raws) (closed others) (subst P same (spelled_takes raw t (closed raws) p.0 (closed_stops raws))) (spelled_takes o a (closed others) q.0 (closed_stops others)) in
    ap₂ (λ (c : List ℕ) (cs : List (List ℕ)). c ∷ cs) one.0 (one_closed raws texts others as' p.1 q.1 one.1)
one_closed [] (t ∷ texts) others as' p q e = absurd p
one_closed (raw ∷ raws) [] others as' p q e = absurd p
one_closed [] [] [] (a ∷ as') p q e = absurd q
one_closed [] [] (o ∷ others) [] p q e = absurd q
one_closed (raw ∷ raws) (t ∷ texts) [] (a ∷ as') p q e = absurd q
one_closed (raw ∷ raws) (t ∷ texts) (o ∷ others) [] p q e = absurd q

-- no element is the closing brace alone
full : (o t : List ℕ) (others : List (List ℕ)) → SpellsElement o t → 125 ∷ [] ≡ o ++ closed others → ⊥
full o t others s e =
    let P : List ℕ → Type 0 = λ x. TakesElement x t (closed others) in
    no_brace_first [] t (closed others) (subst P (sym e) (spelled_takes o t (closed others) s (closed_stops others)))

-- the elements in braces are those behind a comma
one_braced : (raws texts others as' : List (List ℕ)) → AllZip SpellsElement raws texts → AllZip SpellsElement others as' → braced raws ≡ braced others → closed raws ≡ closed others
one_braced [] texts [] as' p q e = refl
one_braced [] texts (o ∷ others) [] p q e = absurd q
one_braced [] texts (o ∷ others) (a ∷ as') p q e =
    let all : 123 ∷ 125 ∷ [] ≡ 123 ∷ (o ++ closed others) = e in
    let same : 125 ∷ [] ≡ o ++ closed others = cc in
    absurd (full o a others q.0 same)
one_braced (raw ∷ raws) [] [] as' p q e = absurd p
one_braced (raw ∷ raws) (t ∷ texts) [] as' p q e =
    let all : 123 ∷ 125 ∷ [] ≡ 123 ∷ (raw ++ closed raws) = sym e in
    let same : 125 ∷ [] ≡ raw ++ closed raws = cc in
    absurd (full raw t raws p.0 same)
one_braced (raw ∷ raws) texts (o ∷ others) as' p q e =
    let all : 123 ∷ (raw ++ closed raws) ≡ 123 ∷ (o ++ closed others) = e in
    let same : raw ++ closed raws ≡ o ++ closed others = cc in
    ap (λ (x : List ℕ). 44 ∷ x) same

-- a text spells one list of texts
pub one_texts : (text : List ℕ) (a b : List (List ℕ)) → SpellsTexts text a → SpellsTexts text b → a ≡ b
one_texts text a b s t = one_closed s.raws a t.raws b s.each t.each (one_braced s.raws a t.raws b s.each t.each (sym s.parts ∙ t.parts))

pub single : (text : List ℕ) → IsSingle (AnswersTexts text)
single text = record {
  one = one_texts text;
  no_value = λ texts s none. none texts s;
  out_of_range = λ texts s out. out;
  too_deep = λ texts s deep. deep;
  none_or_out = λ none out. out;
  none_or_deep = λ none deep. deep;
  out_or_deep = λ out deep. out;
}

-- Runs of bytes of a number, and brackets that stand open.
use Rattle.std.proofs.Common.{◌≡◌, ℕ, zero, suc, ◌+◌, ◌-◌, ◌<◌, ◌≤◌, Bool, true, false, not, List, [], ◌∷◌, ◌++◌, length, get_or, take, drop, None, refl, sym, ap, ◌∙◌, subst, arith, append_assoc, append-nil, true≢false, length-drop, Result, Ok, Err, MatchResult, ◌≢◌, inl, inr}
use Rattle.std.specs.List.{position, position_or_len}
use Rattle.std.proofs.lemmas.List.Sums.{fold_more, fails_before_first}
use Rattle.std.proofs.lemmas.List.{take_all, drop-drop}
use Rattle.std.proofs.lemmas.Bool.Decides.{nat_tests}
use Rattle.std.specs.List.{AllByRecursion}
use Rattle.gx_bytes.specs.declared.error.ValueError.{ValueError}
use Rattle.gx_bytes.specs.declared.error.ValueError.TheVariants.{NoValue, OutOfRange, TooDeep, Memory}
use Rattle.gx_json.specs.Scan.{begins_run, is_run_byte, runs, open_behind, opened, outside, OpensTooMany, IsInteger, HasFirstFault}
use Rattle.gx_json.specs.Text.{PassesText, IsTextFault}
use Rattle.gx_json.specs.Places.{RunsFor}

-- one sign more
pub opened_more : (signs : List ℕ) (i count next : ℕ) → i < length signs → count ≡ opened (take i signs) → next ≡ open_behind count (get_or signs i 0) → next ≡ opened (take (i + 1) signs)
opened_more signs i count next within before is =
    is ∙ ap (λ (n : ℕ). open_behind n (get_or signs i 0)) before ∙ sym (fold_more open_behind 0 signs i 0 within)

-- a byte that begins a run goes on with it
pub begins_goes_on : (c : ℕ) → begins_run c ≡ true → is_run_byte c ≡ true
begins_goes_on c h = rw h refl

no_start_from : (b : Bool) (c : ℕ) → begins_run c ≡ b → is_run_byte c ≡ false → b ≡ false
no_start_from true c e h = absurd (true≢false (sym (begins_goes_on c e) ∙ h))
no_start_from false c e h = refl

pub stops_no_start : (c : ℕ) → is_run_byte c ≡ false → begins_run c ≡ false
stops_no_start c h = no_start_from (begins_run c) c refl h

-- the first byte that passes, and none
pub nowhere : (p : ℕ → Bool) (xs : List ℕ) → position p xs ≡ None → (k : ℕ) → k < length xs → p (get_or xs k 0) ≡ false
nowhere p xs e k below =
    let past : length xs ≤ position_or_len p xs = grind (arith, nat_tests, e) in
    fails_before_first p xs k 0 (omega arith)

-- no byte begins a run
pub no_runs : (text : List ℕ) → ((k : ℕ) → k < length text → begins_run (get_or text k 0) ≡ false) → runs text ≡ []
no_runs [] h = refl
no_runs (c ∷ cs) h = let first : begins_run c ≡ false = h 0 (omega arith) in rw first (no_runs cs (λ k below. h (suc k) (omega arith)))

-- bytes of a number up to this place, and none there
pub runs_for : (text : List ℕ) (n : ℕ) → n ≤ length text → ((k : ℕ) → k < n → is_run_byte (get_or text k 0) ≡ true) → (n < length text → is_run_byte (get_or text n 0) ≡ false) → RunsFor n text
runs_for [] zero within on off run = ap (λ (l : List ℕ). l ∷ []) (sym (append-nil run))
runs_for [] (suc n) within on off run = absurd (omega arith)
runs_for (c ∷ cs) zero within on off run =
    let here : is_run_byte c ≡ false = off (omega arith) in
    let other : begins_run c ≡ false = stops_no_start c here in
    rw (here, other) (ap (λ (l : List ℕ). l ∷ runs cs) (sym (append-nil run)))
runs_for (c ∷ cs) (suc n) within on off run =
    let here : is_run_byte c ≡ true = on 0 (omega arith) in
    rw here (runs_for cs n (omega arith) (λ k below. on (suc k) (omega arith)) (λ below. off (omega arith)) (run ++ c ∷ []) ∙ ap (λ (l : List ℕ). l ∷ runs (drop n cs)) (append_assoc run (c ∷ []) (take n cs)))

-- the first run
pub first_run : (text : List ℕ) (start n : ℕ) → start < length text → begins_run (get_or text start 0) ≡ true → ((k : ℕ) → k < start → begins_run (get_or text k 0) ≡ false)
    → RunsFor n (drop (suc start) text) → runs text ≡ take (suc n) (drop start text) ∷ runs (drop n (drop (suc start) text))
first_run [] start n within here before on = absurd (omega arith)
first_run (c ∷ cs) zero n within here before on = rw here (on (c ∷ []))
first_run (c ∷ cs) (suc start) n within here before on =
    let first : begins_run c ≡ false = before 0 (omega arith) in
    rw first (first_run cs start n (omega arith) here (λ k below. before (suc k) (omega arith)) on)

pub not_false : (b : Bool) → not b ≡ false → b ≡ true
not_false true e = refl
not_false false e = absurd (true≢false e)

pub not_true : (b : Bool) → not b ≡ true → b ≡ false
not_true true e = absurd (true≢false (sym e))
not_true false e = refl

-- the same, where slices of the text are taken
pub run_there : (text : List ℕ) (start n : ℕ) → start < length text → begins_run (get_or text start 0) ≡ true → ((k : ℕ) → k < start → begins_run (get_or text k 0) ≡ false)
    → n ≤ length (take (length text - (start + 1)) (drop (start + 1) text))
    → RunsFor n (take (length text - (start + 1)) (drop (start + 1) text))
    → runs text ≡ take (start + 1 + n - start) (drop start text) ∷ runs (take (length text - (start + 1 + n)) (drop (start + 1 + n) text))
run_there text start n within here before short on =
    let one : start + 1 ≡ suc start = omega arith in
    let more : start + 1 + n ≡ suc start + n = omega arith in
    let count : suc n ≡ start + 1 + n - start = omega arith in
    let rest : take (length text - (start + 1)) (drop (start + 1) text) ≡ drop (suc start) text =
    take_all (length text - (start + 1)) (drop (start + 1) text) (omega (arith, length-drop (start + 1) text)) ∙ ap (λ (i : ℕ). drop i text) one in
    let left : take (length text - (start + 1 + n)) (drop (start + 1 + n) text) ≡ drop n (drop (suc start) text) =
    take_all (length text - (start + 1 + n)) (drop (start + 1 + n) text) (omega (arith, length-drop (start + 1 + n) text)) ∙ ap (λ (i : ℕ). drop i text) more ∙ sym (drop-drop n (suc start) text) in
    first_run text start n within here before (subst (RunsFor n) rest on)
    ∙ ap (λ (i : ℕ). take i (drop start text) ∷ runs (drop n (drop (suc start) text))) count
    ∙ ap (λ (xs : List ℕ). take (start + 1 + n - start) (drop start text) ∷ runs xs) (sym left)

-- what was found of the text
no_deep_fault : (rs : List (List ℕ)) → HasFirstFault rs TooDeep → ⊥
no_deep_fault [] h = h
no_deep_fault (r ∷ rs) h = elim h [ inl x ↦ x | inr x ↦ no_deep_fault rs x.1 ]

pub text_checked : {T : Type 0} (text plain : List ℕ) (r : Result T ValueError) → plain ≡ outside text → (OpensTooMany plain → ⊥)
    → MatchResult r (λ _. AllByRecursion IsInteger (runs plain)) (λ e. HasFirstFault (runs plain) e)
    → MatchResult r (λ _. PassesText text) (λ e. e ≢ Memory → IsTextFault text e)
text_checked text plain (Ok u) is few h = record {
  few = subst (λ (p : List ℕ). OpensTooMany p → ⊥) is few;
  integers = subst (λ (p : List ℕ). AllByRecursion IsInteger (runs p)) is h;
}
text_checked text plain (Err NoValue) is few h = λ other. (subst (λ (p : List ℕ). OpensTooMany p → ⊥) is few, subst (λ (p : List ℕ). HasFirstFault (runs p) NoValue) is h)
text_checked text plain (Err OutOfRange) is few h = λ other. (subst (λ (p : List ℕ). OpensTooMany p → ⊥) is few, subst (λ (p : List ℕ). HasFirstFault (runs p) OutOfRange) is h)
text_checked text plain (Err TooDeep) is few h = λ other. absurd (no_deep_fault (runs plain) h)
text_checked text plain (Err Memory) is few h = λ other. absurd (other refl)

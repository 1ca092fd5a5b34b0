-- One path to a text.
use Rattle.std.proofs.Common.{◌≡◌, ◌≢◌, ℕ, ◌+◌, ◌<◌, ◌≤◌, List, [], ◌∷◌, ◌++◌, length, Result, Ok, Err, refl, sym, ap, ap₂, ◌∙◌, arith, append-nil, append_assoc, length-append}
use Rattle.std.specs.List.{AllByRecursion}
use Rattle.gx_bytes.specs.declared.error.ValueError.{ValueError}
use Rattle.gx_bytes.specs.declared.error.ValueError.TheVariants.{NoValue, OutOfRange, TooDeep, Memory}
use Rattle.gx_ltree.specs.Label.{IsLabel, StopsLabel, TakesLabel}
use Rattle.gx_ltree.specs.Text.{printed, dots, SpellsPath, HasTooMany, AnswersPath}
use Rattle.gx_bytes.proofs.SingleAnswers.{IsSingle}
use Rattle.gx_ltree.proofs.LabelLemmas.{one_run, one_label, AllByRecursion-append}

pub printed_parts : (label : List ℕ) (more : List (List ℕ)) → printed (label ∷ more) ≡ label ++ dots more
printed_parts label [] = sym (append-nil label)
printed_parts label (next ∷ more) = ap (λ (t : List ℕ). label ++ 46 ∷ t) (printed_parts next more)

pub dots-append : (xs ys : List (List ℕ)) → dots (xs ++ ys) ≡ dots xs ++ dots ys
dots-append [] ys = refl
dots-append (x ∷ xs) ys = ap (λ (t : List ℕ). (46 ∷ x) ++ t) (dots-append xs ys) ∙ sym (append_assoc (46 ∷ x) (dots xs) (dots ys))

-- labels, each with a dot behind it, and a rest
abbrev pub before : List (List ℕ) → List ℕ → List ℕ
before [] rest = rest
before (label ∷ done) rest = label ++ 46 ∷ before done rest

pub before-append : (done : List (List ℕ)) (label rest : List ℕ) → before (done ++ label ∷ []) rest ≡ before done (label ++ 46 ∷ rest)
before-append [] label rest = refl
before-append (x ∷ done) label rest = ap (λ (t : List ℕ). x ++ 46 ∷ t) (before-append done label rest)

-- the labels read so far, and one more with what follows it
pub printed_before : (done : List (List ℕ)) (label rest : List ℕ) → printed (done ++ label ∷ []) ++ rest ≡ before done (label ++ rest)
printed_before [] label rest = refl
printed_before (x ∷ done) label rest =
    ap (λ (t : List ℕ). t ++ rest) (printed_parts x (done ++ label ∷ []))
    ∙ append_assoc x (dots (done ++ label ∷ [])) rest
    ∙ ap (λ (t : List ℕ). x ++ t) (go done)
  where
    go : (ls : List (List ℕ)) → dots (ls ++ label ∷ []) ++ rest ≡ 46 ∷ before ls (label ++ rest)
    go [] = ap (λ (t : List ℕ). t ++ rest) (append-nil (46 ∷ label))
    go (l ∷ ls) = append_assoc (46 ∷ l) (dots (ls ++ label ∷ [])) rest ∙ ap (λ (t : List ℕ). (46 ∷ l) ++ t) (go ls)

dots_stop : (more : List (List ℕ)) (rest : List ℕ) → StopsLabel rest → StopsLabel (dots more ++ rest)
dots_stop [] rest s = s
dots_stop (label ∷ more) rest s = refl

-- A reading of the text goes on from the labels read so far.
pub record GoesOn (done labels : List (List ℕ)) (rest tail : List ℕ) : Type 0 where
  pub label : List ℕ
  pub more : List (List ℕ)
  pub takes : TakesLabel rest label (dots more ++ tail)
  pub count : length labels ≡ length done + 1 + length more
  pub same : labels ≡ done ++ label ∷ more

goes_on : (done : List (List ℕ)) (first : List ℕ) (labels : List (List ℕ)) (rest tail : List ℕ) → AllByRecursion IsLabel done → IsLabel first → AllByRecursion IsLabel labels → StopsLabel tail → length done ≤ length labels → first ++ (dots labels ++ tail) ≡ before done rest → GoesOn done (first ∷ labels) rest tail
goes_on [] first labels rest tail d f ls s l e = record {
  label = first;
  more = labels;
  takes = record { parts = sym e; is_label = f; stops = dots_stop labels tail s };
  count = omega arith;
  same = refl;
}
goes_on (x ∷ done) first [] rest tail d f ls s l e = absurd (omega arith)
goes_on (x ∷ done) first (next ∷ labels) rest tail d f ls s l e =
    let cut = one_run first x (dots (next ∷ labels) ++ tail) (46 ∷ before done rest) f.bytes d.0.bytes refl refl e in
    let tails : (46 ∷ next) ++ (dots labels ++ tail) ≡ 46 ∷ before done rest = sym (append_assoc (46 ∷ next) (dots labels) tail) ∙ cut.1 in
    let behind : next ++ (dots labels ++ tail) ≡ before done rest = cc in
    let on = goes_on done next labels rest tail d.1 ls.0 ls.1 s (omega arith) behind in
    record {
      label = on.label;
      more = on.more;
      takes = on.takes;
      count = omega (arith, on.count);
      same = ap₂ (λ (c : List ℕ) (cs : List (List ℕ)). c ∷ cs) cut.0 on.same;
    }

-- as many labels as were read, and one more
pub reading_goes_on : (done labels : List (List ℕ)) (rest tail : List ℕ) → AllByRecursion IsLabel done → AllByRecursion IsLabel labels → StopsLabel tail → length done < length labels → printed labels ++ tail ≡ before done rest → GoesOn done labels rest tail
reading_goes_on done [] rest tail d ls s l e = absurd (omega arith)
reading_goes_on done (first ∷ labels) rest tail d ls s l e =
    goes_on done first labels rest tail d ls.0 ls.1 s (omega arith) (sym (append_assoc first (dots labels) tail) ∙ ap (λ (t : List ℕ). t ++ tail) (sym (printed_parts first labels)) ∙ e)

-- a text that is spelled whole has more labels than were read before its end
pub spelled_is_longer : (done : List (List ℕ)) (first : List ℕ) (labels : List (List ℕ)) (rest : List ℕ) → AllByRecursion IsLabel done → IsLabel first → AllByRecursion IsLabel labels → first ++ dots labels ≡ before done rest → length done ≤ length labels
spelled_is_longer [] first labels rest d f ls e = omega arith
spelled_is_longer (x ∷ done) first [] rest d f ls e =
    let cut = one_run first x [] (46 ∷ before done rest) f.bytes d.0.bytes tt refl e in
    let none : [] ≡ 46 ∷ before done rest = cut.1 in
    cc
spelled_is_longer (x ∷ done) first (next ∷ labels) rest d f ls e =
    let cut = one_run first x (dots (next ∷ labels)) (46 ∷ before done rest) f.bytes d.0.bytes refl refl e in
    let tails : (46 ∷ next) ++ dots labels ≡ 46 ∷ before done rest = cut.1 in
    let behind : next ++ dots labels ≡ before done rest = cc in
    omega (arith, spelled_is_longer done next labels rest d.1 ls.0 ls.1 behind)

-- Where the rest begins with no label, the text spells no path and hasn't too many labels.
pub ends_at : (done : List (List ℕ)) (text rest : List ℕ) → 0 < length text → text ≡ before done rest → AllByRecursion IsLabel done → length done ≤ 65535
    → ((label tail : List ℕ) → TakesLabel rest label tail → ⊥) → AnswersPath text (Err NoValue)
ends_at done text rest some parts each most none = (spelled, many)
  where
    spelled : (path : List (List ℕ)) → SpellsPath text path → ⊥
    spelled [] s = omega (arith, ap length s.is)
    spelled (first ∷ labels) s =
        let all : first ++ dots labels ≡ before done rest = sym (printed_parts first labels) ∙ sym s.is ∙ parts in
        let long = spelled_is_longer done first labels rest each s.valid.labels.0 s.valid.labels.1 all in
        let on = reading_goes_on done (first ∷ labels) rest [] each s.valid.labels tt (omega arith) (append-nil (printed (first ∷ labels)) ∙ sym s.is ∙ parts) in
        none on.label (dots on.more ++ []) on.takes

    many : HasTooMany text → ⊥
    many h =
        let on = reading_goes_on done h.labels rest h.rest each h.each h.stops (omega (arith, h.count)) (sym h.parts ∙ parts) in
        none on.label (dots on.more ++ h.rest) on.takes

-- Where neither the end nor a dot comes behind a label, the same.
pub broken_at : (done : List (List ℕ)) (text rest label tail : List ℕ) → 0 < length text → text ≡ before done rest → AllByRecursion IsLabel done → length done < 65535
    → TakesLabel rest label tail → 0 < length tail → ((more : List ℕ) → tail ≢ 46 ∷ more) → AnswersPath text (Err NoValue)
broken_at done text rest label tail some parts each few takes goes no_dot = (spelled, many)
  where
    last : (more : List (List ℕ)) (end : List ℕ) → tail ≡ dots more ++ end → more ≡ []
    last [] end e = refl
    last (m ∷ more) end e = absurd (no_dot (m ++ (dots more ++ end)) (e ∙ append_assoc (46 ∷ m) (dots more) end))

    spelled : (path : List (List ℕ)) → SpellsPath text path → ⊥
    spelled [] s = omega (arith, ap length s.is)
    spelled (first ∷ labels) s =
        let all : first ++ dots labels ≡ before done rest = sym (printed_parts first labels) ∙ sym s.is ∙ parts in
        let long = spelled_is_longer done first labels rest each s.valid.labels.0 s.valid.labels.1 all in
        let on = reading_goes_on done (first ∷ labels) rest [] each s.valid.labels tt (omega arith) (append-nil (printed (first ∷ labels)) ∙ sym s.is ∙ parts) in
        let behind : tail ≡ dots on.more ++ [] = (one_label rest label on.label tail (dots on.more ++ []) takes on.takes).1 in
        let none : on.more ≡ [] = last on.more [] behind in
        let empty : tail ≡ [] = behind ∙ ap (λ (m : List (List ℕ)). dots m ++ []) none in
        omega (arith, ap length empty)

    many : HasTooMany text → ⊥
    many h =
        let on = reading_goes_on done h.labels rest h.rest each h.each h.stops (omega (arith, h.count)) (sym h.parts ∙ parts) in
        let behind : tail ≡ dots on.more ++ h.rest = (one_label rest label on.label tail (dots on.more ++ h.rest) takes on.takes).1 in
        let none : on.more ≡ [] = last on.more h.rest behind in
        omega (arith, ap length none, on.count, h.count)

-- one more label behind those that were read
pub too_many_at : (done : List (List ℕ)) (text rest label tail : List ℕ) → text ≡ before done rest → AllByRecursion IsLabel done → length done ≡ 65535 → TakesLabel rest label tail → HasTooMany text
too_many_at done text rest label tail parts each full takes = record {
  labels = done ++ label ∷ [];
  rest = tail;
  parts = parts ∙ ap (before done) takes.parts ∙ sym (printed_before done label tail);
  each = AllByRecursion-append IsLabel done (label ∷ []) each (takes.is_label, tt);
  count = omega (arith, length-append done (label ∷ []));
  stops = takes.stops;
}

-- the last label
pub spelled_at : (done : List (List ℕ)) (text rest label tail : List ℕ) → text ≡ before done rest → AllByRecursion IsLabel done → length done < 65535 → TakesLabel rest label tail → length tail ≡ 0 → SpellsPath text (done ++ label ∷ [])
spelled_at done text rest label tail parts each few takes end = record {
  valid = record {
    labels = AllByRecursion-append IsLabel done (label ∷ []) each (takes.is_label, tt);
    most = omega (arith, length-append done (label ∷ []));
  };
  is = parts ∙ ap (before done) takes.parts ∙ sym (printed_before done label tail) ∙ ap (λ (t : List ℕ). printed (done ++ label ∷ []) ++ t) (none tail end) ∙ append-nil (printed (done ++ label ∷ []));
}
  where
    none : (t : List ℕ) → length t ≡ 0 → t ≡ []
    none [] e = refl
    none (x ∷ t) e = absurd (omega arith)

-- no text spells a path and has too many labels
pub not_both : (text : List ℕ) (path : List (List ℕ)) → SpellsPath text path → HasTooMany text → ⊥
not_both text path s h = go path h.labels s.valid.labels h.each (omega (arith, s.valid.most, h.count)) (sym s.is ∙ h.parts) h.stops
  where
    behind : (more labels : List (List ℕ)) → AllByRecursion IsLabel more → AllByRecursion IsLabel labels → length more < length labels → (rest : List ℕ) → dots more ≡ dots labels ++ rest → StopsLabel rest → ⊥
    behind more [] m l few rest e s = omega arith
    behind [] (y ∷ labels) m l few rest e s = cc
    behind (x ∷ more) (y ∷ labels) m l few rest e s =
        let tails : x ++ dots more ≡ y ++ (dots labels ++ rest) = let all : 46 ∷ (x ++ dots more) ≡ 46 ∷ (y ++ (dots labels ++ rest)) = e ∙ append_assoc (46 ∷ y) (dots labels) rest in cc in
        let cut = one_run x y (dots more) (dots labels ++ rest) m.0.bytes l.0.bytes (stop more) (dots_stop labels rest s) tails in
        behind more labels m.1 l.1 (omega arith) rest cut.1 s
      where
        stop : (m : List (List ℕ)) → StopsLabel (dots m)
        stop [] = tt
        stop (z ∷ m) = refl

    go : (p labels : List (List ℕ)) → AllByRecursion IsLabel p → AllByRecursion IsLabel labels → length p < length labels → printed p ≡ printed labels ++ h.rest → StopsLabel h.rest → ⊥
    go p [] a b few e s = omega arith
    go [] (y ∷ labels) a b few e s = omega (arith, b.0.some, ap length (e ∙ ap (λ (t : List ℕ). t ++ h.rest) (printed_parts y labels) ∙ append_assoc y (dots labels) h.rest), length-append y (dots labels ++ h.rest))
    go (x ∷ p) (y ∷ labels) a b few e s = behind (x ∷ p) (y ∷ labels) a b few h.rest (ap (λ (t : List ℕ). 46 ∷ t) (sym (printed_parts x p) ∙ e ∙ ap (λ (t : List ℕ). t ++ h.rest) (printed_parts y labels))) s

dots_one : (a b : List (List ℕ)) → AllByRecursion IsLabel a → AllByRecursion IsLabel b → dots a ≡ dots b → a ≡ b
dots_one [] [] p q e = refl
dots_one [] (y ∷ b) p q e = cc
dots_one (x ∷ a) [] p q e = cc
dots_one (x ∷ a) (y ∷ b) p q e =
    let tails : x ++ dots a ≡ y ++ dots b = let all : 46 ∷ (x ++ dots a) ≡ 46 ∷ (y ++ dots b) = e in cc in
    let cut = one_run x y (dots a) (dots b) p.0.bytes q.0.bytes (stop a) (stop b) tails in
    ap₂ (λ (c : List ℕ) (cs : List (List ℕ)). c ∷ cs) cut.0 (dots_one a b p.1 q.1 cut.1)
  where
    stop : (m : List (List ℕ)) → StopsLabel (dots m)
    stop [] = tt
    stop (z ∷ m) = refl

-- two paths have two texts
pub one_path : (text : List ℕ) (a b : List (List ℕ)) → SpellsPath text a → SpellsPath text b → a ≡ b
one_path text a b s t = go a b s.valid.labels t.valid.labels (sym s.is ∙ t.is)
  where
    go : (a b : List (List ℕ)) → AllByRecursion IsLabel a → AllByRecursion IsLabel b → printed a ≡ printed b → a ≡ b
    go [] [] p q e = refl
    go [] (y ∷ b) p q e = absurd (omega (arith, q.0.some, ap length (e ∙ printed_parts y b), length-append y (dots b)))
    go (x ∷ a) [] p q e = absurd (omega (arith, p.0.some, ap length (sym e ∙ printed_parts x a), length-append x (dots a)))
    go (x ∷ a) (y ∷ b) p q e = dots_one (x ∷ a) (y ∷ b) p q (ap (λ (t : List ℕ). 46 ∷ t) (sym (printed_parts x a) ∙ e ∙ printed_parts y b))

pub single : (text : List ℕ) → IsSingle (AnswersPath text)
single text = record {
  one = one_path text;
  no_value = λ path s none. none.0 path s;
  out_of_range = not_both text;
  too_deep = λ path s deep. absurd deep;
  none_or_out = λ none many. none.1 many;
  none_or_deep = λ none deep. deep;
  out_or_deep = λ many deep. deep;
}

-- every answer but a path and the want of memory says that there is no path
pub no_path : (text : List ℕ) (fault : ValueError) → AnswersPath text (Err fault) → fault ≢ Memory → (path : List (List ℕ)) → SpellsPath text path → ⊥
no_path text NoValue a m path s = a.0 path s
no_path text OutOfRange a m path s = not_both text path s a
no_path text TooDeep a m path s = a
no_path text Memory a m path s = m refl

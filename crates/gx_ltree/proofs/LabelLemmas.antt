-- A label at the front of a text is one.
use Rattle.std.proofs.Common.{◌≡◌, ℕ, zero, suc, ◌<◌, ◌≤◌, true, false, List, [], ◌∷◌, ◌++◌, length, get_or, take, drop, refl, sym, ap, ap₂, ◌∙◌, subst, arith, true≢false, take-append-drop, length-take-le}
use Rattle.std.specs.List.{AllByRecursion}
use Rattle.gx_ltree.specs.Label.{is_label_byte, IsLabelByte, StopsLabel, TakesLabel}

pub AllByRecursion-append : {X : Type 0} (P : X → Type 0) (xs ys : List X) → AllByRecursion P xs → AllByRecursion P ys → AllByRecursion P (xs ++ ys)
AllByRecursion-append P [] ys p q = q
AllByRecursion-append P (x ∷ xs) ys p q = (p.0, AllByRecursion-append P xs ys p.1 q)

-- bytes of a label that end where no such byte comes are the longest
pub one_run : (a b x y : List ℕ) → AllByRecursion IsLabelByte a → AllByRecursion IsLabelByte b → StopsLabel x → StopsLabel y → a ++ x ≡ b ++ y → (a ≡ b) × (x ≡ y)
one_run [] [] x y p q s t e = (refl, e)
one_run [] (b ∷ bs) x y p q s t e = absurd (true≢false (sym q.0 ∙ subst StopsLabel e s))
one_run (a ∷ front) [] x y p q s t e = absurd (true≢false (sym p.0 ∙ subst StopsLabel (sym e) t))
one_run (a ∷ front) (b ∷ bs) x y p q s t e =
    let head : a ≡ b = cc in
    let tail : front ++ x ≡ bs ++ y = cc in
    let rest = one_run front bs x y p.1 q.1 s t tail in
    (ap₂ (λ (c : ℕ) (cs : List ℕ). c ∷ cs) head rest.0, rest.1)

pub one_label : (text a b x y : List ℕ) → TakesLabel text a x → TakesLabel text b y → (a ≡ b) × (x ≡ y)
one_label text a b x y p q = one_run a b x y p.is_label.bytes q.is_label.bytes p.stops q.stops (sym p.parts ∙ q.parts)

pub more_bytes : (n : ℕ) (xs : List ℕ) → AllByRecursion IsLabelByte (take n xs) → n < length xs → is_label_byte (get_or xs n 0) ≡ true → AllByRecursion IsLabelByte (take (suc n) xs)
more_bytes zero [] p l e = absurd (omega arith)
more_bytes zero (x ∷ xs) p l e = (e, tt)
more_bytes (suc n) [] p l e = absurd (omega arith)
more_bytes (suc n) (x ∷ xs) p l e = (p.0, more_bytes n xs p.1 (omega arith) e)

pub stops_at : (n : ℕ) (xs : List ℕ) → n < length xs → is_label_byte (get_or xs n 0) ≡ false → StopsLabel (drop n xs)
stops_at zero [] l e = absurd (omega arith)
stops_at zero (x ∷ xs) l e = e
stops_at (suc n) [] l e = absurd (omega arith)
stops_at (suc n) (x ∷ xs) l e = stops_at n xs (omega arith) e

pub stops_end : (n : ℕ) (xs : List ℕ) → length xs ≤ n → StopsLabel (drop n xs)
stops_end zero [] l = tt
stops_end zero (x ∷ xs) l = absurd (omega arith)
stops_end (suc n) [] l = tt
stops_end (suc n) (x ∷ xs) l = stops_end n xs (omega arith)

-- the run of n bytes is a label exactly where its length allows
pub takes_run : (n : ℕ) (text : List ℕ) → n ≤ length text → AllByRecursion IsLabelByte (take n text) → StopsLabel (drop n text) → 0 < n → n ≤ 1000 → TakesLabel text (take n text) (drop n text)
takes_run n text within run stops some most =
    let long : length (take n text) ≡ n = length-take-le n text within in
    record {
      parts = sym (take-append-drop n text);
      is_label = record { some = omega arith; most = omega arith; bytes = run };
      stops = stops;
    }

pub no_run : (n : ℕ) (text : List ℕ) → n ≤ length text → AllByRecursion IsLabelByte (take n text) → StopsLabel (drop n text) → ((0 < n) → (n ≤ 1000) → ⊥) → (label rest : List ℕ) → TakesLabel text label rest → ⊥
no_run n text within run stops bad label rest t =
    let same = one_run (take n text) label (drop n text) rest run t.is_label.bytes stops t.stops (take-append-drop n text ∙ t.parts) in
    let long : length (take n text) ≡ n = length-take-le n text within in
    let some = t.is_label.some in
    let most = t.is_label.most in
    bad (omega (arith, ap length same.0)) (omega (arith, ap length same.0))

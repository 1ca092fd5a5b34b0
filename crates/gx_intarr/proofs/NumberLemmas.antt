-- The numbers that texts spell, from the left.
use Rattle.std.proofs.Common.{◌≡◌, ℕ, zero, suc, ◌+◌, ◌<◌, List, [], ◌∷◌, ◌++◌, length, get_or, take, drop, Result, Ok, Err, refl, sym, ap, ap₂, ◌∙◌, subst, arith, ℤ}
use Rattle.gx_bytes.specs.declared.error.ValueError.{ValueError}
use Rattle.gx_bytes.specs.declared.error.ValueError.TheVariants.{NoValue, OutOfRange, TooDeep, Memory}
use Rattle.gx_bytes.specs.Wholes.{SpellsWhole, IsOutside, AnswersWhole}
use Rattle.gx_bytes.proofs.WholeLemmas.{one_whole}
use Rattle.gx_intarr.specs.Texts.{SpellsTexts, AnswersTexts}
use Rattle.gx_intarr.specs.Arrays.{least, greatest, IsInt4, SpellsInt4, AreNumbers, LeavesRange, AnswersNumbers, SpellsArray, HasFarNumber, AnswersArray}
use Rattle.gx_bytes.proofs.SingleAnswers.{IsSingle}
use Rattle.gx_intarr.specs.Laws.{apart}
use Rattle.gx_intarr.proofs.TextLemmas.{one_texts}

pub numbers-push : (texts : List (List ℕ)) (items : List ℤ) (text : List ℕ) (n : ℤ) → AreNumbers texts items → SpellsInt4 text n → AreNumbers (texts ++ text ∷ []) (items ++ n ∷ [])
numbers-push [] [] text n p q = (q, tt)
numbers-push [] (m ∷ items) text n p q = absurd p
numbers-push (t ∷ texts) [] text n p q = absurd p
numbers-push (t ∷ texts) (m ∷ items) text n p q = (p.0, numbers-push texts items text n p.1 q)

-- the text spells no int4
abbrev IsFault : List ℕ → Type 0
IsFault text = (n : ℤ) → SpellsInt4 text n → ⊥

outside_is_fault : (text : List ℕ) (n : ℤ) → SpellsWhole text n → IsOutside least greatest n → IsFault text
outside_is_fault text n s outside m t = apart m t.1 (subst (IsOutside least greatest) (one_whole text n m s t.0) outside)

-- the number of the text behind a front
number_behind : (front : List (List ℕ)) (text : List ℕ) (rest : List (List ℕ)) (items : List ℤ) → AreNumbers (front ++ text ∷ rest) items → (n : ℤ) × SpellsInt4 text n
number_behind [] text rest [] p = absurd p
number_behind [] text rest (m ∷ items) p = (m, p.0)
number_behind (f ∷ front) text rest [] p = absurd p
number_behind (f ∷ front) text rest (m ∷ items) p = number_behind front text rest items p.1

-- the same between bounds that are those of int4
pub whole_bounds : (text : List ℕ) (low high : ℤ) (r : Result ℤ ValueError) → low ≡ least → high ≡ greatest → AnswersWhole text low high r → AnswersWhole text least greatest r
whole_bounds text low high r e f a = subst (λ (h : ℤ). AnswersWhole text least h r) f (subst (λ (l : ℤ). AnswersWhole text l high r) e a)

-- two first faults are one
one_fault : (a b : List (List ℕ)) (m n : List ℤ) (x y : List ℕ) (v w : List (List ℕ)) → AreNumbers a m → AreNumbers b n → IsFault x → IsFault y → a ++ x ∷ v ≡ b ++ y ∷ w → x ≡ y
one_fault [] [] m n x y v w p q f g e = cc
one_fault [] (b ∷ bs) m [] x y v w p q f g e = absurd q
one_fault [] (b ∷ bs) m (k ∷ n) x y v w p q f g e = let head : b ≡ x = cc in absurd (f k (subst (λ (t : List ℕ). SpellsInt4 t k) head q.0))
one_fault (a ∷ as') [] [] n x y v w p q f g e = absurd p
one_fault (a ∷ as') [] (k ∷ m) n x y v w p q f g e = let head : a ≡ y = cc in absurd (g k (subst (λ (t : List ℕ). SpellsInt4 t k) head p.0))
one_fault (a ∷ as') (b ∷ bs) [] n x y v w p q f g e = absurd p
one_fault (a ∷ as') (b ∷ bs) (k ∷ m) [] x y v w p q f g e = absurd q
one_fault (a ∷ as') (b ∷ bs) (k ∷ m) (l ∷ n) x y v w p q f g e =
    let tail : as' ++ x ∷ v ≡ bs ++ y ∷ w = cc in
    one_fault as' bs m n x y v w p.1 q.1 f g tail

-- the first text that is refused, and the fault
fault_behind : (front rest : List (List ℕ)) (text : List ℕ) (numbers : List ℤ) (fault : ValueError) → AreNumbers front numbers → AnswersWhole text least greatest (Err fault) → AnswersNumbers (front ++ text ∷ rest) (Err fault)
fault_behind front rest text numbers NoValue p a = (
  λ items s. let n = number_behind front text rest items s in a n.0 n.1.0,
  λ l.
      let far = outside_is_fault l.text l.number l.spelled l.outside in
      let same = one_fault l.front front l.numbers numbers l.text text l.rest rest l.before p far (λ n s. a n s.0) (sym l.parts) in
      a l.number (subst (λ (t : List ℕ). SpellsWhole t l.number) same l.spelled),
)
fault_behind front rest text numbers OutOfRange p a = record {
  front = front;
  numbers = numbers;
  text = text;
  rest = rest;
  number = a.0;
  parts = refl;
  before = p;
  spelled = a.1;
  outside = a.2;
}
fault_behind front rest text numbers TooDeep p a = a
fault_behind front rest text numbers Memory p a = tt

parts_at : (texts : List (List ℕ)) (i : ℕ) (d : List ℕ) → i < length texts → texts ≡ take i texts ++ get_or texts i d ∷ drop (suc i) texts
parts_at [] i d l = absurd (omega arith)
parts_at (t ∷ texts) zero d l = refl
parts_at (t ∷ texts) (suc i) d l = ap (λ (x : List (List ℕ)). t ∷ x) (parts_at texts i d (omega arith))

pub fault_at : (texts : List (List ℕ)) (i : ℕ) (text bytes : List ℕ) (numbers : List ℤ) (fault : ValueError) → i < length texts → text ≡ get_or texts i text → bytes ≡ text → AreNumbers (take i texts) numbers → AnswersWhole bytes least greatest (Err fault) → AnswersNumbers texts (Err fault)
fault_at texts i text bytes numbers fault inside e f p a =
    let P : List (List ℕ) → Type 0 = λ t. AnswersNumbers t (Err fault) in
    let Q : List ℕ → Type 0 = λ t. AnswersWhole t least greatest (Err fault) in
    subst P (sym (parts_at texts i text inside)) (fault_behind (take i texts) (drop (suc i) texts) (get_or texts i text) numbers fault p (subst Q (f ∙ e) a))

take_one : (texts : List (List ℕ)) (i : ℕ) (d : List ℕ) → i < length texts → take (suc i) texts ≡ take i texts ++ get_or texts i d ∷ []
take_one [] i d l = absurd (omega arith)
take_one (t ∷ texts) zero d l = refl
take_one (t ∷ texts) (suc i) d l = ap (λ (x : List (List ℕ)). t ∷ x) (take_one texts i d (omega arith))

pub one_more : (texts : List (List ℕ)) (i : ℕ) (text bytes : List ℕ) (numbers next : List ℤ) (n : ℤ) → i < length texts → text ≡ get_or texts i text → bytes ≡ text → AreNumbers (take i texts) numbers → SpellsWhole bytes n → IsInt4 n → next ≡ numbers ++ n ∷ [] → AreNumbers (take (i + 1) texts) next
one_more texts i text bytes numbers next n inside e f p s w g =
    let step : i + 1 ≡ suc i = omega arith in
    let P : List (List ℕ) → Type 0 = λ t. AreNumbers t next in
    let Q : List ℤ → Type 0 = λ t. AreNumbers (take i texts ++ get_or texts i text ∷ []) t in
    subst P (sym (take_one texts i text inside) ∙ ap (λ (k : ℕ). take k texts) (sym step)) (subst Q (sym g) (numbers-push (take i texts) numbers (get_or texts i text) n p (subst (λ (t : List ℕ). SpellsInt4 t n) (f ∙ e) (s, w))))

-- texts spell one list of numbers
pub one_numbers : (texts : List (List ℕ)) (a b : List ℤ) → AreNumbers texts a → AreNumbers texts b → a ≡ b
one_numbers [] [] [] p q = refl
one_numbers [] [] (n ∷ b) p q = absurd q
one_numbers [] (m ∷ a) b p q = absurd p
one_numbers (t ∷ texts) [] b p q = absurd p
one_numbers (t ∷ texts) (m ∷ a) [] p q = absurd q
one_numbers (t ∷ texts) (m ∷ a) (n ∷ b) p q = ap₂ (λ (c : ℤ) (cs : List ℤ). c ∷ cs) (one_whole t m n p.0.0 q.0.0) (one_numbers texts a b p.1 q.1)

pub stay_inside : (texts : List (List ℕ)) (items : List ℤ) → AreNumbers texts items → LeavesRange texts → ⊥
stay_inside texts items p l =
    let n = number_behind l.front l.text l.rest items (subst (λ (t : List (List ℕ)). AreNumbers t items) l.parts p) in
    outside_is_fault l.text l.number l.spelled l.outside n.0 n.1

-- the answer to the elements is that to the text
pub answers_array : (text : List ℕ) (texts : List (List ℕ)) (r : Result (List ℤ) ValueError) → SpellsTexts text texts → AnswersNumbers texts r → AnswersArray text r
answers_array text texts (Ok items) s a = record { texts = texts; spelled = s; numbers = a }
answers_array text texts (Err NoValue) s a = (
  λ items t. a.0 items (subst (λ (x : List (List ℕ)). AreNumbers x items) (one_texts text t.texts texts t.spelled s) t.numbers),
  λ f. a.1 (subst LeavesRange (one_texts text f.texts texts f.spelled s) f.leaves),
)
answers_array text texts (Err OutOfRange) s a = record { texts = texts; spelled = s; leaves = a }
answers_array text texts (Err TooDeep) s a = a
answers_array text texts (Err Memory) s a = tt

pub no_array : (text : List ℕ) (fault : ValueError) → AnswersTexts text (Err fault) → AnswersArray text (Err fault)
no_array text NoValue a = (λ items s. a s.texts s.spelled, λ f. a f.texts f.spelled)
no_array text OutOfRange a = absurd a
no_array text TooDeep a = a
no_array text Memory a = tt

not_both : (text : List ℕ) (items : List ℤ) → SpellsArray text items → HasFarNumber text → ⊥
not_both text items s f = stay_inside s.texts items s.numbers (subst LeavesRange (one_texts text f.texts s.texts f.spelled s.spelled) f.leaves)

one_array : (text : List ℕ) (a b : List ℤ) → SpellsArray text a → SpellsArray text b → a ≡ b
one_array text a b s t = one_numbers s.texts a b s.numbers (subst (λ (x : List (List ℕ)). AreNumbers x b) (one_texts text t.texts s.texts t.spelled s.spelled) t.numbers)

pub single : (text : List ℕ) → IsSingle (AnswersArray text)
single text = record {
  one = one_array text;
  no_value = λ items s none. none.0 items s;
  out_of_range = not_both text;
  too_deep = λ items s deep. deep;
  none_or_out = λ none far. none.1 far;
  none_or_deep = λ none deep. deep;
  out_or_deep = λ far deep. deep;
}

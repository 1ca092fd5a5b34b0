-- A core is read in one way.
use Rattle.std.proofs.Common.{◌≡◌, ℕ, Bool, true, false, not, ◌&&◌, List, [], ◌∷◌, ◌⊎◌, inl, inr, Option, Some, None, if◌then◌else◌, Result, Ok, Err, refl, sym, ◌∙◌, ap, subst, arith, true≢false, ℤ, ◌≤ℤ◌}
use Rattle.std.specs.Ordering.{int_eq}
use Rattle.std.proofs.lemmas.Int.{ints}
use borrow.Author.Differences.{lt-true, lt-false}
use Rattle.gx_bytes.specs.declared.error.ValueError.{ValueError}
use Rattle.gx_bytes.specs.declared.error.ValueError.TheVariants.{NoValue, OutOfRange, TooDeep, Memory}
use Rattle.gx_range.specs.declared.range.Range.{Range}
use Rattle.gx_range.specs.declared.range.Range.TheVariants.{Empty, Span}
use Rattle.gx_range.specs.declared.range.RangeKind.{RangeKind}
use Rattle.gx_range.specs.declared.steps.Form.{Form}
use Rattle.gx_range.specs.Values.{fits, rises, IsRange}
use Rattle.gx_range.specs.Bounds.{IsBound, LeavesBound, RefusesBound}
use Rattle.gx_range.specs.Texts.{IsEmptyWord, opening, closing, Begins, IsForm, crosses, meets, raised, between, steps, SpellsRange, LeavesFirst, LeavesSecond, LeavesRange, AnswersRange, RefusesBegins, RefusesForm}
use Rattle.gx_range.proofs.BoundLemmas.{one_bound, bound_stays}

one_opening : (a b : Bool) (x y : List ℕ) → opening a ∷ x ≡ opening b ∷ y → (a ≡ b) × (x ≡ y)
one_opening true true x y e = (refl, cc e)
one_opening false false x y e = (refl, cc e)
one_opening true false x y e = let head : opening true ≡ opening false = cc e in absurd (omega (arith, head))
one_opening false true x y e = let head : opening false ≡ opening true = cc e in absurd (omega (arith, head))

one_closing : (a b : Bool) (x y : List ℕ) → closing a ∷ x ≡ closing b ∷ y → (a ≡ b) × (x ≡ y)
one_closing true true x y e = (refl, cc e)
one_closing false false x y e = (refl, cc e)
one_closing true false x y e = let head : closing true ≡ closing false = cc e in absurd (omega (arith, head))
one_closing false true x y e = let head : closing false ≡ closing true = cc e in absurd (omega (arith, head))

moved : (kind : RangeKind) (a b : List ℕ) (bound : Option ℤ) (rest : List ℕ) → a ≡ b → IsBound kind a bound rest → IsBound kind b bound rest
moved kind a b bound rest e p = let P : List ℕ → Type 0 = λ t. IsBound kind t bound rest in subst P e p

moved_leaves : (kind : RangeKind) (a b : List ℕ) → a ≡ b → LeavesBound kind a → LeavesBound kind b
moved_leaves kind a b e l = let P : List ℕ → Type 0 = λ t. LeavesBound kind t in subst P e l

one_begins : (kind : RangeKind) (core : List ℕ) (c d : Bool) (l m : Option ℤ) (r s : List ℕ) → Begins kind core c l r → Begins kind core d m s → (c ≡ d) × (l ≡ m) × (r ≡ s)
one_begins kind core c d l m r s p q =
    let open' = one_opening c d p.bytes q.bytes (sym p.bracket ∙ q.bracket) in
    let same = one_bound kind p.bytes l m (44 ∷ r) (44 ∷ s) p.bound (moved kind q.bytes p.bytes m (44 ∷ s) (sym open'.1) q.bound) in
    (open'.0, same.0, cc same.1)

first_stays : (kind : RangeKind) (core : List ℕ) (c : Bool) (bytes : List ℕ) (l : Option ℤ) (behind : List ℕ) → core ≡ opening c ∷ bytes → IsBound kind bytes l behind → LeavesFirst kind core → ⊥
first_stays kind core c bytes l behind bracket p out =
    let open' = one_opening c out.0 bytes out.1 (sym bracket ∙ out.2) in
    bound_stays kind bytes l behind p (moved_leaves kind out.1 bytes (sym open'.1) out.3)

begins_stays : (kind : RangeKind) (core : List ℕ) (c : Bool) (l : Option ℤ) (r : List ℕ) → Begins kind core c l r → LeavesFirst kind core → ⊥
begins_stays kind core c l r p out = first_stays kind core c p.bytes l (44 ∷ r) p.bracket p.bound out

form_same : (f g : Form) → f.lower_closed ≡ g.lower_closed → f.lower ≡ g.lower → f.upper ≡ g.upper → f.upper_closed ≡ g.upper_closed → f ≡ g
form_same f g a b c d = λ i. record { lower_closed = a i; lower = b i; upper = c i; upper_closed = d i }

pub one_form : (kind : RangeKind) (core : List ℕ) (f g : Form) (a b : List ℕ) → IsForm kind core f a → IsForm kind core g b → (f ≡ g) × (a ≡ b)
one_form kind core f g a b p q =
    let front = one_begins kind core f.lower_closed g.lower_closed f.lower g.lower p.rest q.rest p.begins q.begins in
    let back = one_bound kind p.rest f.upper g.upper (closing f.upper_closed ∷ a) (closing g.upper_closed ∷ b) p.bound (moved kind q.rest p.rest g.upper (closing g.upper_closed ∷ b) (sym front.2) q.bound) in
    let close = one_closing f.upper_closed g.upper_closed a b back.1 in
    (form_same f g front.0 front.1 back.0 close.0, close.1)

second_stays : (kind : RangeKind) (core : List ℕ) (c : Bool) (l u : Option ℤ) (rest behind : List ℕ) → Begins kind core c l rest → IsBound kind rest u behind → LeavesSecond kind core → ⊥
second_stays kind core c l u rest behind p b out =
    let front = one_begins kind core c out.0 l out.1 rest out.2 p out.3 in
    bound_stays kind rest u behind b (moved_leaves kind out.2 rest (sym front.2) out.4)

form_stays : (kind : RangeKind) (core : List ℕ) (f : Form) (a : List ℕ) → IsForm kind core f a → LeavesFirst kind core ⊎ LeavesSecond kind core → ⊥
form_stays kind core f a p (inl out) = begins_stays kind core f.lower_closed f.lower p.rest p.begins out
form_stays kind core f a p (inr out) = second_stays kind core f.lower_closed f.lower f.upper p.rest (closing f.upper_closed ∷ a) p.begins p.bound out

-- the word `empty` has no bracket
no_bracket : (c : Bool) (bytes : List ℕ) → IsEmptyWord (opening c ∷ bytes) → ⊥
no_bracket true bytes e = true≢false (sym e)
no_bracket false bytes e = true≢false (sym e)

word_no_bracket : (core : List ℕ) (c : Bool) (bytes : List ℕ) → core ≡ opening c ∷ bytes → IsEmptyWord core → ⊥
word_no_bracket core c bytes e word = let P : List ℕ → Type 0 = λ t. IsEmptyWord t in no_bracket c bytes (subst P e word)

steps_same : (kind : RangeKind) (f g : Form) (r s : Result Range ValueError) → f ≡ g → steps kind f ≡ r → steps kind g ≡ s → r ≡ s
steps_same kind f g r s e a b = sym a ∙ ap (steps kind) e ∙ b

one_range : (kind : RangeKind) (core : List ℕ) (a b : Range) → SpellsRange kind core a → SpellsRange kind core b → a ≡ b
one_range kind core a b (inl p) (inl q) = p.1 ∙ sym q.1
one_range kind core a b (inl p) (inr q) = absurd (word_no_bracket core q.0.lower_closed q.1.begins.bytes q.1.begins.bracket p.0)
one_range kind core a b (inr p) (inl q) = absurd (word_no_bracket core p.0.lower_closed p.1.begins.bytes p.1.begins.bracket q.0)
one_range kind core a b (inr p) (inr q) =
    let same = one_form kind core p.0 q.0 [] [] p.1 q.1 in
    let both : Ok a ≡ Ok b = steps_same kind p.0 q.0 (Ok a) (Ok b) same.0 p.2 q.2 in
    cc both

range_stays : (kind : RangeKind) (core : List ℕ) (a : Range) → SpellsRange kind core a → LeavesRange kind core → ⊥
range_stays kind core a (inl p) (inl (inl out)) = word_no_bracket core out.0 out.1 out.2 p.0
range_stays kind core a (inl p) (inl (inr out)) = word_no_bracket core out.0 out.3.bytes out.3.bracket p.0
range_stays kind core a (inl p) (inr out) = word_no_bracket core out.0.lower_closed out.2.begins.bytes out.2.begins.bracket p.0
range_stays kind core a (inr p) (inl out) = form_stays kind core p.0 [] p.1 out
range_stays kind core a (inr p) (inr out) =
    let same = one_form kind core p.0 out.0 [] out.1 p.1 out.2 in
    let both : Ok a ≡ Err OutOfRange = steps_same kind p.0 out.0 (Ok a) (Err OutOfRange) same.0 p.2 out.3 in
    cc both

pub one_answer : (kind : RangeKind) (core : List ℕ) (r s : Result Range ValueError) → AnswersRange kind core r → AnswersRange kind core s → r ≡ s
one_answer kind core (Ok x) (Ok y) a b = ap Ok (one_range kind core x y a.0 b.0)
one_answer kind core (Ok x) (Err NoValue) a b = absurd (b.0 x a.0)
one_answer kind core (Ok x) (Err OutOfRange) a b = absurd (range_stays kind core x a.0 b)
one_answer kind core (Err NoValue) (Ok y) a b = absurd (a.0 y b.0)
one_answer kind core (Err NoValue) (Err NoValue) a b = refl
one_answer kind core (Err NoValue) (Err OutOfRange) a b = absurd (a.1 b)
one_answer kind core (Err OutOfRange) (Ok y) a b = absurd (range_stays kind core y b.0 a)
one_answer kind core (Err OutOfRange) (Err NoValue) a b = absurd (b.1 a)
one_answer kind core (Err OutOfRange) (Err OutOfRange) a b = refl
one_answer kind core (Err TooDeep) s a b = absurd a
one_answer kind core (Err Memory) s a b = absurd a
one_answer kind core r (Err TooDeep) a b = absurd b
one_answer kind core r (Err Memory) a b = absurd b

-- the exits of the reader
pub lower_fault : (kind : RangeKind) (core : List ℕ) (c : Bool) (bytes : List ℕ) (fault : ValueError) → core ≡ opening c ∷ bytes → RefusesBound kind bytes fault → RefusesBegins kind core fault
lower_fault kind core c bytes NoValue bracket h = (
  λ d l r p. let open' = one_opening c d bytes p.bytes (sym bracket ∙ p.bracket) in h.0 l (44 ∷ r) (moved kind p.bytes bytes l (44 ∷ r) (sym open'.1) p.bound),
  λ out. let open' = one_opening c out.0 bytes out.1 (sym bracket ∙ out.2) in h.1 (moved_leaves kind out.1 bytes (sym open'.1) out.3),
)
lower_fault kind core c bytes OutOfRange bracket h = (c, bytes, bracket, h)
lower_fault kind core c bytes TooDeep bracket h = h
lower_fault kind core c bytes Memory bracket h = h

pub no_comma : (kind : RangeKind) (core : List ℕ) (c : Bool) (bytes : List ℕ) (l : Option ℤ) (behind : List ℕ) → core ≡ opening c ∷ bytes → IsBound kind bytes l behind
    → ((rest : List ℕ) → behind ≡ 44 ∷ rest → ⊥) → RefusesBegins kind core NoValue
no_comma kind core c bytes l behind bracket p none = (
  λ d m r q.
      let open' = one_opening c d bytes q.bytes (sym bracket ∙ q.bracket) in
      let same = one_bound kind bytes l m behind (44 ∷ r) p (moved kind q.bytes bytes m (44 ∷ r) (sym open'.1) q.bound) in
      none r same.1,
  λ out. first_stays kind core c bytes l behind bracket p out,
)

pub front_fault : (kind : RangeKind) (core : List ℕ) (fault : ValueError) → RefusesBegins kind core fault → RefusesForm kind core fault
front_fault kind core NoValue h = (λ f a p. h.0 f.lower_closed f.lower p.rest p.begins, λ out. elim out [ inl first ↦ h.1 first | inr second ↦ h.0 second.0 second.1 second.2 second.3 ])
front_fault kind core OutOfRange h = inl h
front_fault kind core TooDeep h = h
front_fault kind core Memory h = h

pub upper_fault : (kind : RangeKind) (core : List ℕ) (c : Bool) (l : Option ℤ) (rest : List ℕ) (fault : ValueError) → Begins kind core c l rest → RefusesBound kind rest fault → RefusesForm kind core fault
upper_fault kind core c l rest NoValue p h = (
  λ f a q.
      let front = one_begins kind core c f.lower_closed l f.lower rest q.rest p q.begins in
      h.0 f.upper (closing f.upper_closed ∷ a) (moved kind q.rest rest f.upper (closing f.upper_closed ∷ a) (sym front.2) q.bound),
  λ out. elim out [
    | inl first ↦ begins_stays kind core c l rest p first
    | inr second ↦
        let front = one_begins kind core c second.0 l second.1 rest second.2 p second.3 in
        h.1 (moved_leaves kind second.2 rest (sym front.2) second.4)
  ],
)
upper_fault kind core c l rest OutOfRange p h = inr (c, l, rest, p, h)
upper_fault kind core c l rest TooDeep p h = h
upper_fault kind core c l rest Memory p h = h

pub no_closing : (kind : RangeKind) (core : List ℕ) (c : Bool) (l u : Option ℤ) (rest behind : List ℕ) → Begins kind core c l rest → IsBound kind rest u behind
    → ((closed : Bool) (after : List ℕ) → behind ≡ closing closed ∷ after → ⊥) → RefusesForm kind core NoValue
no_closing kind core c l u rest behind p b none = (
  λ f a q.
      let front = one_begins kind core c f.lower_closed l f.lower rest q.rest p q.begins in
      let same = one_bound kind rest u f.upper behind (closing f.upper_closed ∷ a) b (moved kind q.rest rest f.upper (closing f.upper_closed ∷ a) (sym front.2) q.bound) in
      none f.upper_closed a same.1,
  λ out. elim out [
    | inl first ↦ begins_stays kind core c l rest p first
    | inr second ↦ second_stays kind core c l u rest behind p b second
  ],
)

pub form_fault : (kind : RangeKind) (core : List ℕ) (fault : ValueError) → (IsEmptyWord core → ⊥) → RefusesForm kind core fault → AnswersRange kind core (Err fault)
form_fault kind core NoValue word h = (
  λ r s. elim s [ inl p ↦ word p.0 | inr p ↦ h.0 p.0 [] p.1 ],
  λ out. elim out [ inl early ↦ h.1 early | inr late ↦ h.0 late.0 late.1 late.2 ],
)
form_fault kind core OutOfRange word h = inl h
form_fault kind core TooDeep word h = h
form_fault kind core Memory word h = h

fault_of : (a b c d : Bool) (s : Range) (fault : ValueError) → (if a then Err NoValue else if b then Ok Empty else if not c then Err OutOfRange else if d then Ok Empty else Ok s) ≡ Err fault
    → (fault ≡ NoValue) ⊎ (fault ≡ OutOfRange)
fault_of true b c d s fault e = inl (cc e)
fault_of false true c d s fault e = absurd (cc e)
fault_of false false false d s fault e = inr (cc e)
fault_of false false true true s fault e = absurd (cc e)
fault_of false false true false s fault e = absurd (cc e)

steps_fault : (kind : RangeKind) (form : Form) (fault : ValueError) → steps kind form ≡ Err fault → (fault ≡ NoValue) ⊎ (fault ≡ OutOfRange)
steps_fault kind form fault e =
    let l = raised (not form.lower_closed) form.lower in
    let u = raised form.upper_closed form.upper in
    fault_of (crosses form.lower form.upper) (meets form.lower form.upper && not (form.lower_closed && form.upper_closed)) (fits kind l && fits kind u) (meets l u) (Span l u) fault e

no_value : (kind : RangeKind) (core : List ℕ) (form : Form) (after : List ℕ) → (IsEmptyWord core → ⊥) → IsForm kind core form after → steps kind form ≡ Err NoValue → AnswersRange kind core (Err NoValue)
no_value kind core form after word p e = (none, leaves)
  where
    none : (range : Range) → SpellsRange kind core range → ⊥
    none r (inl q) = word q.0
    none r (inr q) =
        let same = one_form kind core form q.0 after [] p q.1 in
        let both : Err NoValue ≡ Ok r = steps_same kind form q.0 (Err NoValue) (Ok r) same.0 e q.2 in
        cc both

    leaves : LeavesRange kind core → ⊥
    leaves (inl early) = form_stays kind core form after p early
    leaves (inr late) =
        let same = one_form kind core form late.0 after late.1 p late.2 in
        let both : Err NoValue ≡ Err OutOfRange = steps_same kind form late.0 (Err NoValue) (Err OutOfRange) same.0 e late.3 in
        cc both

pub step_fault : (kind : RangeKind) (core : List ℕ) (form : Form) (after : List ℕ) (fault : ValueError) → (IsEmptyWord core → ⊥) → IsForm kind core form after → steps kind form ≡ Err fault → AnswersRange kind core (Err fault)
step_fault kind core form after NoValue word p e = no_value kind core form after word p e
step_fault kind core form after OutOfRange word p e = inr (form, after, p, e)
step_fault kind core form after TooDeep word p e = elim (steps_fault kind form TooDeep e) [ inl a ↦ cc a | inr a ↦ cc a ]
step_fault kind core form after Memory word p e = elim (steps_fault kind form Memory e) [ inl a ↦ cc a | inr a ↦ cc a ]

-- something stands behind the closing bracket
pub more_behind : (kind : RangeKind) (core : List ℕ) (form : Form) (after : List ℕ) (range : Range) → (IsEmptyWord core → ⊥) → IsForm kind core form after → steps kind form ≡ Ok range → (after ≡ [] → ⊥) → AnswersRange kind core (Err NoValue)
more_behind kind core form after range word p e some = (none, leaves)
  where
    none : (r : Range) → SpellsRange kind core r → ⊥
    none r (inl q) = word q.0
    none r (inr q) = some (one_form kind core form q.0 after [] p q.1).1

    leaves : LeavesRange kind core → ⊥
    leaves (inl early) = form_stays kind core form after p early
    leaves (inr late) =
        let same = one_form kind core form late.0 after late.1 p late.2 in
        let both : Ok range ≡ Err OutOfRange = steps_same kind form late.0 (Ok range) (Err OutOfRange) same.0 e late.3 in
        cc both

-- the lower bound is not above the upper
abbrev NotAbove : Option ℤ → Option ℤ → Type 0
NotAbove (Some l) (Some u) = l ≤ℤ u
NotAbove _ _ = Unit {0}

rises_from : (l u : Option ℤ) → NotAbove l u → meets l u ≡ false → rises l u ≡ true
rises_from None u h e = refl
rises_from (Some l) None h e = refl
rises_from (Some l) (Some u) h e = grind (arith, ints)

between_valid : (kind : RangeKind) (l u : Option ℤ) (range : Range) (a b c : Bool) → fits kind l ≡ a → fits kind u ≡ b → meets l u ≡ c → NotAbove l u
    → (if not (a && b) then Err OutOfRange else if c then Ok Empty else Ok (Span l u)) ≡ Ok range → IsRange kind range
between_valid kind l u range false b c fl fu m h e = absurd (cc e)
between_valid kind l u range true false c fl fu m h e = absurd (cc e)
between_valid kind l u range true true true fl fu m h e =
    let same : Empty ≡ range = cc e in
    let P : Range → Type 0 = λ r. IsRange kind r in
    subst P same tt
between_valid kind l u range true true false fl fu m h e =
    let same : Span l u ≡ range = cc e in
    let P : Range → Type 0 = λ r. IsRange kind r in
    subst P same (fl, fu, rises_from l u h m)

true_out : (b : Bool) → (b && true) ≡ false → b ≡ false
true_out true e = e
true_out false e = refl

-- after the third step the lower bound is not above the upper
raised_below : (lc uc : Bool) (l u : Option ℤ) → crosses l u ≡ false → (meets l u && not (lc && uc)) ≡ false → NotAbove (raised (not lc) l) (raised uc u)
raised_below true uc None u x m = tt
raised_below false uc None u x m = tt
raised_below true true (Some l) None x m = tt
raised_below true false (Some l) None x m = tt
raised_below false true (Some l) None x m = tt
raised_below false false (Some l) None x m = tt
raised_below true true (Some l) (Some u) x m = let low = lt-false u l x in omega (arith, ints)
raised_below true false (Some l) (Some u) x m = let low = lt-false u l x in omega (arith, ints)
raised_below false true (Some l) (Some u) x m = let low = lt-false u l x in omega (arith, ints)
raised_below false false (Some l) (Some u) x m =
    let low = lt-false u l x in
    let le : l ≤ℤ u = omega (arith, ints) in
    let high = lt-true l u (rises_from (Some l) (Some u) le (true_out (int_eq l u) m)) in
    omega (arith, ints)

steps_valid_at : (kind : RangeKind) (l u : Option ℤ) (range : Range) (a b : Bool) → (a ≡ false → b ≡ false → NotAbove l u)
    → (if a then Err NoValue else if b then Ok Empty else between kind l u) ≡ Ok range → IsRange kind range
steps_valid_at kind l u range true b h e = absurd (cc e)
steps_valid_at kind l u range false true h e =
    let same : Empty ≡ range = cc e in
    let P : Range → Type 0 = λ r. IsRange kind r in
    subst P same tt
steps_valid_at kind l u range false false h e = between_valid kind l u range (fits kind l) (fits kind u) (meets l u) refl refl refl (h refl refl) e

pub steps_valid : (kind : RangeKind) (form : Form) (range : Range) → steps kind form ≡ Ok range → IsRange kind range
steps_valid kind form range e =
    steps_valid_at kind (raised (not form.lower_closed) form.lower) (raised form.upper_closed form.upper) range (crosses form.lower form.upper) (meets form.lower form.upper && not (form.lower_closed && form.upper_closed))
    (raised_below form.lower_closed form.upper_closed form.lower form.upper) e

pub read_whole : (kind : RangeKind) (core : List ℕ) (form : Form) (after : List ℕ) (range : Range) → IsForm kind core form after → steps kind form ≡ Ok range → after ≡ [] → AnswersRange kind core (Ok range)
read_whole kind core form after range p e none =
    let P : List ℕ → Type 0 = λ t. IsForm kind core form t in
    (inr (form, subst P none p, e), steps_valid kind form range e)

-- Runs of pieces, one behind another.
use Rattle.std.proofs.Common.{◌≡◌, ◌⊎◌, inl, inr, ℕ, ◌+◌, ◌≤◌, Bool, true, false, ◌||◌, List, [], ◌∷◌, ◌++◌, length, take, ◌==◌, Result, Ok, Err, IfOk, is_some, refl, sym, ◌∙◌, ap, subst, append_assoc, length-append, arith}
use Rattle.std.proofs.Math.Seq.{take-append-add}
use Rattle.std.proofs.lemmas.List.{append-nil, take-append-le}
use Rattle.std.proofs.lemmas.List.Concat.{flat_map-append}
use Rattle.std.proofs.lemmas.List.Folds.{list_any-append}
use Rattle.std.proofs.lemmas.Grind.{common_steps}
use Rattle.std.proofs.lemmas.Bool.Decides.{nat_tests}
use Rattle.gx_words.specs.Causes.{Said}
use Rattle.gx_words.specs.Moments.{Moment}
use Rattle.gx_engine.specs.Times.{Between}
use Rattle.gx_words.specs.PageMap.{PageMap}
use Rattle.gx_model.specs.Database.{Database}
use Rattle.gx_database.specs.Standing.{StandsFor}
use Rattle.gx_model.specs.Turns.{TurnCosts}
use Rattle.gx_model.specs.Runs.{State, Done, Does, AreDone, after, committed_after, text_of, any_refused, CostsOfRun}
use Rattle.gx_run.specs.Replied.{later_reply, last_reply}
use Rattle.gx_engine.specs.Engines.{checkpoint_reply}
use Rattle.gx_run.specs.Headline.{AnyMoment, AllStand, EndsSo}
use Rattle.gx_run.specs.Moves.{OneOf, While, Ran, Empties, Spent}
use Rattle.gx_lexer.specs.Cut.{cut, cut_in}
use Rattle.gx_run.specs.declared.stop.Stop.{Stop}
use Rattle.gx_run.specs.declared.stop.Stop.TheVariants.{Answer, Disk, Memory, Broken}

pub no_bytes : (b : Bool) (xs zs : List ℕ) → b ≡ true → b ≡ (length xs == 0) → xs ≡ zs → zs ≡ []
no_bytes b xs [] t e same = refl
no_bytes b xs (z ∷ zs) t e same =
    let l : length xs ≡ length (z ∷ zs) = ap (λ (ys : List ℕ). length ys) same in
    absurd (grind (arith, nat_tests))

or_false : (b : Bool) → (b || false) ≡ b
or_false true = refl
or_false false = refl

-- what was done, and what was done then
pub after-append : (from : State) (ds es : List Done) → after from (ds ++ es) ≡ after (after from ds) es
after-append from [] es = refl
after-append from (d ∷ ds) es = after-append d.after ds es

pub committed-append : (from : State) (ds es : List Done) → committed_after from (ds ++ es) ≡ committed_after (after from ds) es
committed-append from ds es = ap (λ (s : State). s.session.committed) (after-append from ds es)

pub done-append : (from : State) (ps qs : List (List ℕ)) (ds es : List Done) → length ds ≡ length ps → AreDone from ps ds → AreDone (after from ds) qs es → AreDone from (ps ++ qs) (ds ++ es)
done-append from [] qs [] es l a b = b
done-append from [] qs (d ∷ ds) es l a b = absurd a
done-append from (p ∷ ps) qs [] es l a b = absurd (omega (arith, l))
done-append from (p ∷ ps) qs (d ∷ ds) es l a b = (a.0, done-append d.after ps qs ds es (omega (arith, l)) a.1 b)

-- the pieces behind those that were done
pub done-more : (from : State) (ps qs : List (List ℕ)) (ds : List Done) → AreDone from ps ds → AreDone from (ps ++ qs) ds
done-more from ps qs [] a = tt
done-more from [] qs (d ∷ ds) a = absurd a
done-more from (p ∷ ps) qs (d ∷ ds) a = (a.0, done-more d.after ps qs ds a.1)

pub text-append : (ds es : List Done) → text_of (ds ++ es) ≡ text_of ds ++ text_of es
text-append ds es = flat_map-append (λ done. done.reply.bytes) ds es

pub refused-append : (ds es : List Done) → any_refused (ds ++ es) ≡ (any_refused ds || any_refused es)
refused-append ds es = list_any-append (λ done. is_some done.reply.fault) ds es

at_most_on : (a b c : ℕ) → a ≤ b → b ≤ c → a ≤ c
at_most_on a b c x y = omega (arith, x, y)

pub joins : {D M : Type 0} (moment : D → ℕ) (since : D → ℕ → M → Type 0) (old mid new : D) (P Q R : M → Type 0)
    → ((m : M) → P m → R m) → ((m : M) → Q m → R m) → Between moment since old mid P → Between moment since mid new Q → Between moment since old new R
joins moment since old mid new P Q R p q a b = record {
  later = omega (arith, a.later, b.later);
  nothing_else = λ t m le s.
      let on = λ (u : ℕ) (l : u ≤ moment old). at_most_on u (moment old) (moment mid) l a.later in
      elim (b.nothing_else t m (on t le) s) [
        | inl past ↦ elim (a.nothing_else t m le past) [ inl before ↦ inl before | inr h ↦ inr (p m h.0, λ u l. b.keeps u m (on u l) (h.1 u l)) ]
        | inr h ↦ inr (q m h.0, λ u l. h.1 u (on u l))
      ];
  keeps = λ t m le s. b.keeps t m (at_most_on t (moment old) (moment mid) le a.later) (a.keeps t m le s);
}

pub becomes : {D M : Type 0} (moment : D → ℕ) (since : D → ℕ → M → Type 0) (old new : D) (P R : M → Type 0)
    → ((m : M) → P m → R m) → Between moment since old new P → Between moment since old new R
becomes moment since old new P R p a = record {
  later = a.later;
  nothing_else = λ t m le s. elim (a.nothing_else t m le s) [ inl before ↦ inl before | inr h ↦ inr (p m h.0, h.1) ];
  keeps = a.keeps;
}

-- a moment of the first pieces is one of all
pub moment_first : {C : Type 0} (stands : C → Database → Type 0) (from : State) (before : List ℕ) (ds es : List Done) (m : Moment C)
    → AnyMoment stands from before ds m → AnyMoment stands from before (ds ++ es) m
moment_first stands from before ds es m a =
    let e : take a.k (ds ++ es) ≡ take a.k ds = take-append-le a.k ds es a.within in
    record {
      k = a.k;
      within = omega (arith, a.within, length-append ds es);
      left = rw e a.left;
      n = a.n;
      answered = rw e a.answered;
    }

-- a moment of the pieces behind them is one of all
pub moment_later : {C : Type 0} (stands : C → Database → Type 0) (from : State) (before : List ℕ) (ds es : List Done) (m : Moment C)
    → AnyMoment stands (after from ds) (before ++ text_of ds) es m → AnyMoment stands from before (ds ++ es) m
moment_later stands from before ds es m a =
    let e : take (length ds + a.k) (ds ++ es) ≡ ds ++ take a.k es = take-append-add ds es a.k in
    let t : take (length (text_of ds) + a.n) (text_of (ds ++ take a.k es)) ≡ text_of ds ++ take a.n (text_of (take a.k es)) =
    ap (λ (text : List ℕ). take (length (text_of ds) + a.n) text) (text-append ds (take a.k es)) ∙ take-append-add (text_of ds) (text_of (take a.k es)) a.n in
    record {
      k = length ds + a.k;
      within = omega (arith, a.within, length-append ds es);
      left = rw (e, committed-append from ds (take a.k es)) a.left;
      n = length (text_of ds) + a.n;
      answered = rw (e, t) (a.answered ∙ append_assoc before (text_of ds) (take a.n (text_of (take a.k es))));
    }

abbrev pub RanOk : {D : Type 0} → (D → ℕ) → (D → ℕ → Moment PageMap → Type 0) → (D → PageMap → Type 0) → (D → Said) → (D → State → Type 0) → (D → Type 0) → ℕ → ℕ → D → D → State → List (List ℕ) → Bool → Type 0
RanOk moment since leaves said is_at emptied s t old new from pieces refused = Ran moment since leaves said is_at emptied s t old new from pieces (Ok refused)

abbrev pub Saying : {D : Type 0} → (D → ℕ) → (D → ℕ → Moment PageMap → Type 0) → (D → Said) → D → D → State → List ℕ → Type 0
Saying moment since said old new at more = Between moment since old new (While at.session.committed (said old).bytes more)

abbrev pub RanErr : {D : Type 0} → (D → ℕ) → (D → ℕ → Moment PageMap → Type 0) → (D → PageMap → Type 0) → (D → Said) → (D → State → Type 0) → (D → Type 0) → ℕ → ℕ → D → D → State → List (List ℕ) → Stop → Type 0
RanErr moment since leaves said is_at emptied s t old new from pieces stop = Ran moment since leaves said is_at emptied s t old new from pieces (Err stop)

abbrev pub RanAs : {D : Type 0} → (D → ℕ) → (D → ℕ → Moment PageMap → Type 0) → (D → PageMap → Type 0) → (D → Said) → (D → State → Type 0) → (D → Type 0) → ℕ → ℕ → D → D → State → List (List ℕ) → Result Bool Stop → Type 0
RanAs moment since leaves said is_at emptied s t old new from pieces result = Ran moment since leaves said is_at emptied s t old new from pieces result

abbrev pub then_ends : Bool → Result Bool Stop → Result Bool Stop
then_ends refused (Ok one) = Ok (refused || one)
then_ends refused (Err stop) = Err stop

-- the cost of pieces, and of others behind them
pub record Costs (from : State) (ps qs : List (List ℕ)) (ds es : List Done) (n : ℕ) : Type 0 where
  pub first : ℕ
  pub second : ℕ
  pub of_first : CostsOfRun from ps ds first
  pub of_second : CostsOfRun (after from ds) qs es second
  pub both : n ≡ first + second

costs : (from : State) (ps qs : List (List ℕ)) (ds es : List Done) (n : ℕ) → length ds ≡ length ps → CostsOfRun from (ps ++ qs) (ds ++ es) n → Costs from ps qs ds es n
costs from [] qs [] es n l c = record { first = 0; second = n; of_first = refl; of_second = c; both = omega arith }
costs from [] qs (d ∷ ds) es n l c = absurd (omega (arith, l))
costs from (p ∷ ps) qs [] es n l c = absurd (omega (arith, l))
costs from (p ∷ ps) qs (d ∷ ds) es n l c =
    let k = costs d.after ps qs ds es c.1 (omega (arith, l)) c.3 in
    let e = c.4 in
    let b = k.both in
    record { first = c.0 + k.first; second = k.second; of_first = (c.0, k.first, c.2, k.of_first, refl); of_second = k.of_second; both = omega (arith, e, b) }

costs_more : (from : State) (ps qs : List (List ℕ)) (ds : List Done) (n : ℕ) → AreDone from ps ds → CostsOfRun from (ps ++ qs) ds n → (m : ℕ) × CostsOfRun from ps ds m × (m ≤ n)
costs_more from [] qs [] n a c = (0, refl, omega arith)
costs_more from [] qs (d ∷ ds) n a c = absurd a
costs_more from (p ∷ ps) qs [] n a c = (n, c, omega arith)
costs_more from (p ∷ ps) qs (d ∷ ds) n a c =
    let k = costs_more d.after ps qs ds c.1 a.1 c.3 in
    let e = c.4 in
    let l = k.2 in
    (c.0 + k.0, (c.0, k.0, c.2, k.1, refl), omega (arith, e, l))

no_more : (from : State) (ps : List (List ℕ)) (ds : List Done) → AreDone from ps ds → length ds ≤ length ps
no_more from ps [] a = omega arith
no_more from [] (d ∷ ds) a = absurd a
no_more from (p ∷ ps) (d ∷ ds) a = let h = no_more d.after ps ds a.1 in omega (arith, h)

-- one piece, done or not
spent_one : (from : State) (piece : List ℕ) (ones : List Done) (s t : ℕ) → ((n : ℕ) → TurnCosts from.session piece n → t ≤ s + n) → (n : ℕ) → CostsOfRun from (piece ∷ []) ones n → t ≤ s + n
spent_one from piece [] s t h n c = h n c
spent_one from piece (one ∷ ones) s t h n c = let l = h c.0 c.2 in let e = c.4 in omega (arith, l, e)

spent_by : (from : State) (ps qs : List (List ℕ)) (ds es : List Done) (s m t : ℕ) → length ds ≡ length ps
    → ((n : ℕ) → CostsOfRun from ps ds n → m ≤ s + n) → ((n : ℕ) → CostsOfRun (after from ds) qs es n → t ≤ m + n) → (n : ℕ) → CostsOfRun from (ps ++ qs) (ds ++ es) n → t ≤ s + n
spent_by from ps qs ds es s m t l a b n c =
    let k = costs from ps qs ds es n l c in
    let x = a k.first k.of_first in
    let y = b k.second k.of_second in
    let e = k.both in
    omega (arith, x, y, e)

spent_then : (from : State) (ps qs : List (List ℕ)) (ds es : List Done) (s m t : ℕ) (refused : Bool) (result : Result Bool Stop) → length ds ≡ length ps
    → Spent from ps ds s m (Ok refused) → Spent (after from ds) qs es m t result → Spent from (ps ++ qs) (ds ++ es) s t (then_ends refused result)
spent_then from ps qs ds es s m t refused (Ok one) l a b = spent_by from ps qs ds es s m t l a b
spent_then from ps qs ds es s m t refused (Err Answer) l a b = λ n c.
    let e : take (length (ds ++ es)) (ps ++ qs) ≡ ps ++ take (length es) qs =
    ap (λ (k : ℕ). take k (ps ++ qs)) (length-append ds es ∙ ap (λ (k : ℕ). k + length es) l) ∙ take-append-add ps qs (length es) in
    let P : List (List ℕ) → Type 0 = λ all. CostsOfRun from all (ds ++ es) n in
    spent_by from ps (take (length es) qs) ds es s m t l a b n (subst P e c)
spent_then from ps qs ds es s m t refused (Err Disk) l a b = spent_by from ps qs ds es s m t l a b
spent_then from ps qs ds es s m t refused (Err Memory) l a b = spent_by from ps qs ds es s m t l a b
spent_then from ps qs ds es s m t refused (Err (Broken page expected found)) l a b = spent_by from ps qs ds es s m t l a b

spent_over : (from : State) (ps qs : List (List ℕ)) (ds : List Done) (s t : ℕ) → AreDone from ps ds → ((n : ℕ) → CostsOfRun from ps ds n → t ≤ s + n)
    → (n : ℕ) → CostsOfRun from (ps ++ qs) ds n → t ≤ s + n
spent_over from ps qs ds s t a b n c =
    let k = costs_more from ps qs ds n a c in
    let x = b k.0 k.1 in
    let l = k.2 in
    omega (arith, x, l)

spent_more : (from : State) (ps qs : List (List ℕ)) (ds : List Done) (s t : ℕ) (stop : Stop) → AreDone from ps ds → Spent from ps ds s t (Err stop) → Spent from (ps ++ qs) ds s t (Err stop)
spent_more from ps qs ds s t Answer a b = λ n c.
    let P : List (List ℕ) → Type 0 = λ all. CostsOfRun from all ds n in
    b n (subst P (take-append-le (length ds) ps qs (no_more from ps ds a)) c)
spent_more from ps qs ds s t Disk a b = spent_over from ps qs ds s t a b
spent_more from ps qs ds s t Memory a b = spent_over from ps qs ds s t a b
spent_more from ps qs ds s t (Broken page expected found) a b = spent_over from ps qs ds s t a b

-- the last reply, and whether the log is empty then
last-append : (last : List ℕ) (ds es : List Done) → last_reply last (ds ++ es) ≡ last_reply (last_reply last ds) es
last-append last [] es = refl
last-append last (d ∷ ds) es = last-append (later_reply last d.reply.bytes) ds es

empties_then : (ds es : List Done) (A B C : Type 0) (refused : Bool) (result : Result Bool Stop) → Empties ds A B → IfOk result (λ one. Empties es B C)
    → IfOk (then_ends refused result) (λ one. Empties (ds ++ es) A C)
empties_then ds es A B C refused (Ok one) a b = λ last h e. b (last_reply last ds) (λ is. a last h is) (sym (last-append last ds es) ∙ e)
empties_then ds es A B C refused (Err stop) a b = tt

empties_after : (ds : List Done) (A B C : Type 0) (result : Result Bool Stop) → (A → B) → IfOk result (λ one. Empties ds B C) → IfOk result (λ one. Empties ds A C)
empties_after ds A B C (Ok one) k a = λ last h e. a last (λ is. k (h is)) e
empties_after ds A B C (Err stop) k a = tt

empties_by : (last bytes : List ℕ) (A B : Type 0) → (bytes ≡ [] → A → B) → (bytes ≡ checkpoint_reply → B) → (last ≡ checkpoint_reply → A) → later_reply last bytes ≡ checkpoint_reply → B
empties_by last [] A B silent spoken h e = silent refl (h e)
empties_by last (b ∷ bs) A B silent spoken h e = spoken e

one_empties : (one : Done) (A B : Type 0) → (one.reply.bytes ≡ [] → A → B) → (one.reply.bytes ≡ checkpoint_reply → B) → Empties (one ∷ []) A B
one_empties one A B silent spoken = λ last h e. empties_by last one.reply.bytes A B silent spoken h e

module _ {C : Type 0} (stands : C → Database → Type 0) (leaves : C → Type 0) (from : State) (ds es : List Done) (before mid now : List ℕ) (said : mid ≡ before ++ text_of ds) where
  answered_all : (rs : List Done) → now ≡ mid ++ text_of rs → now ≡ before ++ text_of (ds ++ rs)
  answered_all rs e = e ∙ (rw (said, text-append ds rs) (append_assoc before (text_of ds) (text_of rs)))

  left_all : AllStand stands leaves (committed_after (after from ds) es) → AllStand stands leaves (committed_after from (ds ++ es))
  left_all l = rw (committed-append from ds es) l

  pub ends_then : (m n : ℕ) (refused : Bool) (result : Result Bool Stop) → length ds ≡ m → EndsSo stands leaves (after from ds) n es mid now result
      → EndsSo stands leaves from (m + n) (ds ++ es) before now (then_ends refused result)
  ends_then m n refused (Ok one) l e = record {
    all = length-append ds es ∙ omega (arith, l, e.all);
    answered = answered_all es e.answered;
    left = left_all e.left;
  }
  ends_then m n refused (Err Answer) l e = record {
    earlier = ds ++ e.earlier;
    last = e.last;
    are = ap (λ (rs : List Done). ds ++ rs) e.are ∙ sym (append_assoc ds e.earlier (e.last ∷ []));
    n = e.n;
    answered = e.answered ∙ (rw (said, text-append ds e.earlier)
        (append_assoc before (text_of ds) (text_of e.earlier ++ take e.n e.last.reply.bytes)
        ∙ ap (λ (rs : List ℕ). before ++ rs) (sym (append_assoc (text_of ds) (text_of e.earlier) (take e.n e.last.reply.bytes)))));
    left = left_all e.left;
  }
  ends_then m n refused (Err Disk) l e =
      let k : take (length ds + e.k) (ds ++ es) ≡ ds ++ take e.k es = take-append-add ds es e.k in
      record {
        k = length ds + e.k;
        least = omega (arith, e.least, length-append ds es);
        most = omega (arith, e.most, length-append ds es);
        answered = rw k (answered_all (take e.k es) e.answered);
        left = rw (k, committed-append from ds (take e.k es), committed-append from ds es) e.left;
      }
  ends_then m n refused (Err Memory) l e = record {
    answered = answered_all es e.answered;
    left = left_all e.left;
  }
  ends_then m n refused (Err (Broken page expected found)) l e = absurd e

ends_more : {C : Type 0} (stands : C → Database → Type 0) (leaves : C → Type 0) (from : State) (m n : ℕ) (ds : List Done) (before now : List ℕ) (stop : Stop)
    → EndsSo stands leaves from m ds before now (Err stop) → EndsSo stands leaves from n ds before now (Err stop)
ends_more stands leaves from m n ds before now Answer e = e
ends_more stands leaves from m n ds before now Disk e = e
ends_more stands leaves from m n ds before now Memory e = e
ends_more stands leaves from m n ds before now (Broken page expected found) e = absurd e

-- a moment within a piece, or behind it
of_execute : (from : State) (one : Done) (bytes : List ℕ) (m : Moment PageMap) → OneOf from.session.committed one.after.session.committed bytes m → AnyMoment StandsFor from bytes (one ∷ []) m
of_execute from one bytes m (inl before, same) = record { k = 0; within = omega arith; left = before; n = 0; answered = same ∙ sym (append-nil bytes) }
of_execute from one bytes m (inr next, same) = record { k = 1; within = omega arith; left = next; n = 0; answered = same ∙ sym (append-nil bytes) }

of_answer : (from : State) (one : Done) (bytes : List ℕ) (m : Moment PageMap) → While one.after.session.committed bytes one.reply.bytes m → AnyMoment StandsFor from bytes (one ∷ []) m
of_answer from one bytes m h = record {
  k = 1;
  within = omega arith;
  left = h.0;
  n = h.1.0;
  answered = h.1.1 ∙ ap (λ (text : List ℕ). bytes ++ take h.1.0 text) (sym (append-nil one.reply.bytes));
}

none_of : (from : State) (bytes : List ℕ) (m : Moment PageMap) → OneOf from.session.committed from.session.committed bytes m → AnyMoment StandsFor from bytes [] m
none_of from bytes m (inl before, same) = record { k = 0; within = omega arith; left = before; n = 0; answered = same ∙ sym (append-nil bytes) }
none_of from bytes m (inr before, same) = record { k = 0; within = omega arith; left = before; n = 0; answered = same ∙ sym (append-nil bytes) }

-- within a piece whose outcome isn't known
of_stopped : (from : State) (ones : List Done) (bytes : List ℕ) (m : Moment PageMap) → OneOf from.session.committed (committed_after from ones) bytes m → AnyMoment StandsFor from bytes ones m
of_stopped from ones bytes m (inl before, same) = record { k = 0; within = omega arith; left = before; n = 0; answered = same ∙ sym (append-nil bytes) }
of_stopped from ones bytes m (inr next, same) =
    let all : take (length ones) ones ≡ ones = grind (arith, common_steps) in
    record { k = length ones; within = omega arith; left = rw all next; n = 0; answered = same ∙ sym (append-nil bytes) }

at_most_one : (from : State) (piece : List ℕ) (ones : List Done) → AreDone from (piece ∷ []) ones → length ones ≤ 1
at_most_one from piece [] a = omega arith
at_most_one from piece (one ∷ []) a = omega arith
at_most_one from piece (one ∷ other ∷ ones) a = absurd a.1

module _ {D : Type 0} (moment : D → ℕ) (since : D → ℕ → Moment PageMap → Type 0) (leaves : D → PageMap → Type 0) (said : D → Said) (is_at : D → State → Type 0) (emptied : D → Type 0) where
  at_then : (new : D) (from : State) (ds es : List Done) (refused : Bool) (result : Result Bool Stop) → refused ≡ any_refused ds
      → IfOk result (λ one. (one ≡ any_refused es) × is_at new (after (after from ds) es))
      → IfOk (then_ends refused result) (λ all. (all ≡ any_refused (ds ++ es)) × is_at new (after from (ds ++ es)))
  at_then new from ds es refused (Ok one) r a =
      let at : State → Type 0 = λ s. is_at new s in
      (ap (λ (b : Bool). b || one) r ∙ ap (λ (b : Bool). any_refused ds || b) a.0 ∙ sym (refused-append ds es), subst at (sym (after-append from ds es)) a.1)
  at_then new from ds es refused (Err stop) r a = tt

  -- where pieces end
  abbrev pub behind : {s t : ℕ} (old new : D) (from : State) (ps : List (List ℕ)) (refused : Bool) → Ran moment since leaves said is_at emptied s t old new from ps (Ok refused) → State
  behind old new from ps refused ran = after from ran.dones

  -- pieces, and then others
  pub ran_then : {s m t : ℕ} (old mid new : D) (from : State) (ps qs : List (List ℕ)) (refused : Bool) (result : Result Bool Stop)
      → (first : Ran moment since leaves said is_at emptied s m old mid from ps (Ok refused)) → Ran moment since leaves said is_at emptied m t mid new (after from first.dones) qs result
      → Ran moment since leaves said is_at emptied s t old new from (ps ++ qs) (then_ends refused result)
  ran_then {s} {m} {t} old mid new from ps qs refused result first second =
      let ds = first.dones in
      let es = second.dones in
      let before = (said old).bytes in
      let spoken : (said mid).bytes ≡ before ++ text_of ds = first.ends.answered in
      let ends : ℕ → Type 0 = λ n. EndsSo StandsFor (leaves new) from n (ds ++ es) before (said new).bytes (then_ends refused result) in
      record {
        dones = ds ++ es;
        done = done-append from ps qs ds es first.ends.all first.done second.done;
        moments = joins moment since old mid new (AnyMoment StandsFor from before ds) (AnyMoment StandsFor (after from ds) (said mid).bytes es) (AnyMoment StandsFor from before (ds ++ es))
            (λ m a. moment_first StandsFor from before ds es m a)
            (λ m a. let P : List ℕ → Type 0 = λ bytes. AnyMoment StandsFor (after from ds) bytes es m in moment_later StandsFor from before ds es m (subst P spoken a))
            first.moments second.moments;
        ends = subst ends (sym (length-append ps qs))
            (ends_then StandsFor (leaves new) from ds es before (said mid).bytes (said new).bytes spoken (length ps) (length qs) refused result first.ends.all second.ends);
        at = at_then new from ds es refused result first.at.0 second.at;
        empties = empties_then ds es (emptied old) (emptied mid) (emptied new) refused result first.empties second.empties;
        spent = spent_then from ps qs ds es s m t refused result first.ends.all first.spent second.spent;
      }

  -- pieces of which one stopped the run, and others behind them
  pub ran_more : {s t : ℕ} (old new : D) (from : State) (ps qs : List (List ℕ)) (stop : Stop)
      → Ran moment since leaves said is_at emptied s t old new from ps (Err stop) → Ran moment since leaves said is_at emptied s t old new from (ps ++ qs) (Err stop)
  ran_more {s} {t} old new from ps qs stop ran = record {
    dones = ran.dones;
    done = done-more from ps qs ran.dones ran.done;
    moments = ran.moments;
    ends = ends_more StandsFor (leaves new) from (length ps) (length (ps ++ qs)) ran.dones (said old).bytes (said new).bytes stop ran.ends;
    at = tt;
    empties = tt;
    spent = spent_more from ps qs ran.dones s t stop ran.done ran.spent;
  }

  -- no piece
  pub ran_none : {s : ℕ} (old : D) (from : State) → ((map : PageMap) → leaves old map → StandsFor map from.session.committed) → is_at old from
      → Ran moment since leaves said is_at emptied s s old old from [] (Ok false)
  ran_none old from left at = record {
    dones = [];
    done = tt;
    moments = record { later = omega arith; nothing_else = λ t m le s. inl s; keeps = λ t m le s. s };
    ends = record { all = refl; answered = sym (append-nil (said old).bytes); left = left };
    at = (refl, at);
    empties = λ last h e. h e;
    spent = λ n c. omega arith;
  }

  module _ (old new : D) (from : State) (same : said new ≡ said old) where
    spoken : (said new).bytes ≡ (said old).bytes ++ []
    spoken = ap (λ (s : Said). s.bytes) same ∙ sym (append-nil (said old).bytes)

    -- nothing was executed yet
    module _ (left : (map : PageMap) → leaves new map → StandsFor map from.session.committed)
        (time : Between moment since old new (OneOf from.session.committed from.session.committed (said old).bytes)) where
      still : Between moment since old new (AnyMoment StandsFor from (said old).bytes [])
      still = becomes moment since old new (OneOf from.session.committed from.session.committed (said old).bytes) (AnyMoment StandsFor from (said old).bytes [])
          (λ m h. none_of from (said old).bytes m h) time

      pub not_settled : {s : ℕ} (pieces : List (List ℕ)) → Ran moment since leaves said is_at emptied s s old new from pieces (Err Disk)
      not_settled pieces = record {
        dones = [];
        done = tt;
        moments = still;
        ends = record { k = 0; least = omega arith; most = omega arith; answered = spoken; left = λ map l. inl (left map l) };
        at = tt;
        empties = tt;
        spent = λ n c. omega arith;
      }

      pub without_memory : {s t : ℕ} (pieces : List (List ℕ)) → ((n : ℕ) → CostsOfRun from pieces [] n → t ≤ s + n) → Ran moment since leaves said is_at emptied s t old new from pieces (Err Memory)
      without_memory pieces spent = record { dones = []; done = tt; moments = still; ends = record { answered = spoken; left = left }; at = tt; empties = tt; spent = spent }

    pub not_executed : {s t : ℕ} (piece : List ℕ) (ones : List Done) → AreDone from (piece ∷ []) ones
        → ((map : PageMap) → leaves new map → StandsFor map from.session.committed ⊎ StandsFor map (committed_after from ones))
        → Between moment since old new (OneOf from.session.committed (committed_after from ones) (said old).bytes)
        → ((n : ℕ) → TurnCosts from.session piece n → t ≤ s + n)
        → Ran moment since leaves said is_at emptied s t old new from (piece ∷ []) (Err Disk)
    not_executed piece ones done left time spent = record {
      dones = ones;
      done = done;
      moments = becomes moment since old new (OneOf from.session.committed (committed_after from ones) (said old).bytes) (AnyMoment StandsFor from (said old).bytes ones)
          (λ m h. of_stopped from ones (said old).bytes m h) time;
      ends = let one = at_most_one from piece ones done in record { k = 0; least = omega arith; most = omega (arith, one); answered = spoken; left = left };
      at = tt;
      empties = tt;
      spent = spent_one from piece ones _ _ spent;
    }

    module _ (piece : List ℕ) (one : Done) (does : Does from piece one)
        (time : Between moment since old new (OneOf from.session.committed one.after.session.committed (said old).bytes)) where
      within : Between moment since old new (AnyMoment StandsFor from (said old).bytes (one ∷ []))
      within = becomes moment since old new (OneOf from.session.committed one.after.session.committed (said old).bytes) (AnyMoment StandsFor from (said old).bytes (one ∷ []))
          (λ m h. of_execute from one (said old).bytes m h) time

      -- a piece without a reply
      pub executed : {s t : ℕ} → one.reply.bytes ≡ [] → ((map : PageMap) → leaves new map → StandsFor map one.after.session.committed) → is_at new one.after
          → ((n : ℕ) → TurnCosts from.session piece n → t ≤ s + n) → (one.reply.bytes ≡ [] → emptied old → emptied new) → (one.reply.bytes ≡ checkpoint_reply → emptied new)
          → Ran moment since leaves said is_at emptied s t old new from (piece ∷ []) (Ok (is_some one.reply.fault))
      executed empty left at spent silent clean = record {
        dones = one ∷ [];
        done = (does, tt);
        moments = within;
        ends = record { all = refl; answered = spoken ∙ ap (λ (text : List ℕ). (said old).bytes ++ (text ++ [])) (sym empty); left = left };
        at = (sym (or_false (is_some one.reply.fault)), at);
        empties = one_empties one (emptied old) (emptied new) silent clean;
        spent = spent_one from piece (one ∷ []) _ _ spent;
      }

      module _ (last : D) (left : (map : PageMap) → leaves last map → StandsFor map one.after.session.committed)
          (later : Between moment since new last (While one.after.session.committed (said new).bytes one.reply.bytes)) where
        both : Between moment since old last (AnyMoment StandsFor from (said old).bytes (one ∷ []))
        both = joins moment since old new last (AnyMoment StandsFor from (said old).bytes (one ∷ [])) (While one.after.session.committed (said new).bytes one.reply.bytes)
            (AnyMoment StandsFor from (said old).bytes (one ∷ [])) (λ m a. a)
            (λ m h. let P : Said → Type 0 = λ s. While one.after.session.committed s.bytes one.reply.bytes m in of_answer from one (said old).bytes m (subst P same h))
            within later

        pub answered : {s t : ℕ} → (said last).bytes ≡ (said new).bytes ++ one.reply.bytes → is_at last one.after
            → ((n : ℕ) → TurnCosts from.session piece n → t ≤ s + n) → (one.reply.bytes ≡ [] → emptied old → emptied last) → (one.reply.bytes ≡ checkpoint_reply → emptied last)
            → Ran moment since leaves said is_at emptied s t old last from (piece ∷ []) (Ok (is_some one.reply.fault))
        answered told at spent silent clean = record {
          dones = one ∷ [];
          done = (does, tt);
          moments = both;
          ends = record {
            all = refl;
            answered = told ∙ ap (λ (s : Said). s.bytes ++ one.reply.bytes) same ∙ ap (λ (text : List ℕ). (said old).bytes ++ text) (sym (append-nil one.reply.bytes));
            left = left;
          };
          at = (sym (or_false (is_some one.reply.fault)), at);
          empties = one_empties one (emptied old) (emptied last) silent clean;
          spent = spent_one from piece (one ∷ []) _ _ spent;
        }

        pub not_answered : {s t : ℕ} (n : ℕ) → (said last).bytes ≡ (said new).bytes ++ take n one.reply.bytes → ((n : ℕ) → TurnCosts from.session piece n → t ≤ s + n)
            → Ran moment since leaves said is_at emptied s t old last from (piece ∷ []) (Err Answer)
        not_answered n told spent = record {
          dones = one ∷ [];
          done = (does, tt);
          moments = both;
          ends = record {
            earlier = [];
            last = one;
            are = refl;
            n = n;
            answered = told ∙ ap (λ (s : Said). s.bytes ++ take n one.reply.bytes) same;
            left = left;
          };
          at = tt;
          empties = tt;
          spent = spent_one from piece (one ∷ []) _ _ spent;
        }

  -- nothing was executed, and then pieces
  pub after_settling : {s t : ℕ} (old mid new : D) (from : State) (pieces : List (List ℕ)) (result : Result Bool Stop) → said mid ≡ said old
      → Between moment since old mid (OneOf from.session.committed from.session.committed (said old).bytes) → (emptied old → emptied mid)
      → Ran moment since leaves said is_at emptied s t mid new from pieces result → Ran moment since leaves said is_at emptied s t old new from pieces result
  after_settling old mid new from pieces result same time kept ran =
      let bytes = ap (λ (s : Said). s.bytes) same in
      let ends : List ℕ → Type 0 = λ before. EndsSo StandsFor (leaves new) from (length pieces) ran.dones before (said new).bytes result in
      record {
        dones = ran.dones;
        done = ran.done;
        moments = joins moment since old mid new (OneOf from.session.committed from.session.committed (said old).bytes) (AnyMoment StandsFor from (said mid).bytes ran.dones)
            (AnyMoment StandsFor from (said old).bytes ran.dones)
            (λ m h. moment_first StandsFor from (said old).bytes [] ran.dones m (none_of from (said old).bytes m h))
            (λ m a. let P : List ℕ → Type 0 = λ before. AnyMoment StandsFor from before ran.dones m in subst P bytes a)
            time ran.moments;
        ends = subst ends bytes ran.ends;
        at = ran.at;
        empties = empties_after ran.dones (emptied old) (emptied mid) (emptied new) result kept ran.empties;
        spent = ran.spent;
      }

  -- no memory, before a piece
  pub wants_memory : {s : ℕ} (old : D) (from : State) (pieces : List (List ℕ)) → ((map : PageMap) → leaves old map → StandsFor map from.session.committed)
      → Ran moment since leaves said is_at emptied s s old old from pieces (Err Memory)
  wants_memory old from pieces left =
      without_memory old old from refl left (record { later = omega arith; nothing_else = λ t m le s. inl s; keeps = λ t m le s. s }) pieces (λ n c. omega arith)

  -- nothing was fed
  pub ran_empty : {s : ℕ} (old : D) (from : State) → ((map : PageMap) → leaves old map → StandsFor map from.session.committed) → is_at old from
      → Ran moment since leaves said is_at emptied s s old old from (cut []).pieces (Ok false)
  unfolding cut_in
  ran_empty old from left at = ran_none old from left at

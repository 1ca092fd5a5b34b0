-- What a formula's answer says, where the tests of words are right.
use Rattle.std.specs.Prelude.{◌≡◌, ◌≢◌, ◌⊎◌, refl}
use Rattle.std.proofs.Common.{sym, ap, subst, ◌∙◌, inl, inr}
use Rattle.gx_gist.specs.declared.test.Test.{Test}
use Rattle.gx_gist.specs.declared.test.Test.TheVariants.{No, Maybe, Yes}
use Rattle.gx_formula.specs.Formula.{Tree, Word, Not, And, Or, IsTrueWhere}
use Rattle.gx_kleene.specs.Answers.{opposite, both, either, unsure, leaf_formula, inner_formula}

-- No is said only where it doesn't hold, Yes only where it does.
pub record IsRight (test : Test) (P : Type 0) : Type 0 where
  pub sees : P → test ≢ No
  pub sure : test ≡ Yes → P

-- the three are different
no_yes : No ≡ Yes → ⊥
no_yes e = cc e

pub maybe_no : Maybe ≡ No → ⊥
maybe_no e = cc e

pub maybe_yes : Maybe ≡ Yes → ⊥
maybe_yes e = cc e

yes_no : Yes ≡ No → ⊥
yes_no e = cc e

opposite_right : (a : Test) (P : Type 0) → IsRight a P → IsRight (opposite a) (P → ⊥)
opposite_right No P r = record { sees = λ no e. yes_no e; sure = λ e p. r.sees p refl }
opposite_right Maybe P r = record { sees = λ no e. maybe_no e; sure = λ e. absurd (maybe_yes e) }
opposite_right Yes P r = record { sees = λ no e. no (r.sure refl); sure = λ e. absurd (no_yes e) }

both_right : (a b : Test) (P Q : Type 0) → IsRight a P → IsRight b Q → IsRight (both a b) (P × Q)
both_right No b P Q r s = record { sees = λ p. r.sees p.0; sure = λ e. absurd (no_yes e) }
both_right Maybe No P Q r s = record { sees = λ p. s.sees p.1; sure = λ e. absurd (no_yes e) }
both_right Maybe Maybe P Q r s = record { sees = λ p e. maybe_no e; sure = λ e. absurd (maybe_yes e) }
both_right Maybe Yes P Q r s = record { sees = λ p e. maybe_no e; sure = λ e. absurd (maybe_yes e) }
both_right Yes b P Q r s = record { sees = λ p. s.sees p.1; sure = λ e. (r.sure refl, s.sure e) }

either_right : (a b : Test) (P Q : Type 0) → IsRight a P → IsRight b Q → IsRight (either a b) (P ⊎ Q)
either_right No b P Q r s = record { sees = elim [ inl p ↦ (λ e. r.sees p refl) | inr q ↦ s.sees q ]; sure = λ e. inr (s.sure e) }
either_right Maybe No P Q r s = record { sees = λ p e. maybe_no e; sure = λ e. absurd (maybe_yes e) }
either_right Maybe Maybe P Q r s = record { sees = λ p e. maybe_no e; sure = λ e. absurd (maybe_yes e) }
either_right Maybe Yes P Q r s = record { sees = λ p e. yes_no e; sure = λ e. inr (s.sure refl) }
either_right Yes b P Q r s = record { sees = λ p e. yes_no e; sure = λ e. inl (r.sure refl) }

-- Where the tests of words are right, so is that of the formula.
pub leaf_is_right : {W : Type 0} (test : W → Test) (P : W → Type 0) → ((w : W) → IsRight (test w) (P w)) → (t : Tree W) → IsRight (leaf_formula test t) (IsTrueWhere P t)
leaf_is_right test P right (Word w) = right w
leaf_is_right test P right (Not t) = opposite_right (leaf_formula test t) (IsTrueWhere P t) (leaf_is_right test P right t)
leaf_is_right test P right (And t u) =
    both_right (leaf_formula test t) (leaf_formula test u) (IsTrueWhere P t) (IsTrueWhere P u) (leaf_is_right test P right t) (leaf_is_right test P right u)
leaf_is_right test P right (Or t u) =
    either_right (leaf_formula test t) (leaf_formula test u) (IsTrueWhere P t) (IsTrueWhere P u) (leaf_is_right test P right t) (leaf_is_right test P right u)

unsure_sees : (a b : Test) → (a ≢ No → b ≢ No) → a ≢ No → unsure b ≢ No
unsure_sees a No s p = s p
unsure_sees a Maybe s p = maybe_no
unsure_sees a Yes s p = maybe_no

neither_no : (c d : Test) → c ≢ No → d ≢ No → both c d ≢ No
neither_no No d p q = p
neither_no Maybe No p q = q
neither_no Maybe Maybe p q = maybe_no
neither_no Maybe Yes p q = maybe_no
neither_no Yes d p q = q

both_sees : (a b c d : Test) → (a ≢ No → c ≢ No) → (b ≢ No → d ≢ No) → both a b ≢ No → both c d ≢ No
both_sees No b c d s t p = absurd (p refl)
both_sees Maybe No c d s t p = absurd (p refl)
both_sees Maybe Maybe c d s t p = neither_no c d (s p) (t p)
both_sees Maybe Yes c d s t p = neither_no c d (s maybe_no) (t yes_no)
both_sees Yes b c d s t p = neither_no c d (s yes_no) (t p)

first_no : (c d : Test) → c ≢ No → either c d ≢ No
first_no No d p = absurd (p refl)
first_no Maybe No p = maybe_no
first_no Maybe Maybe p = maybe_no
first_no Maybe Yes p = yes_no
first_no Yes d p = yes_no

second_no : (c d : Test) → d ≢ No → either c d ≢ No
second_no No d q = q
second_no Maybe No q = absurd (q refl)
second_no Maybe Maybe q = maybe_no
second_no Maybe Yes q = yes_no
second_no Yes d q = yes_no

either_sees : (a b c d : Test) → (a ≢ No → c ≢ No) → (b ≢ No → d ≢ No) → either a b ≢ No → either c d ≢ No
either_sees No b c d s t p = second_no c d (t p)
either_sees Maybe b c d s t p = first_no c d (s maybe_no)
either_sees Yes b c d s t p = first_no c d (s yes_no)

-- Where a key above the leaves says No of a word only where the leaf key does, so it is of the formula.
pub inner_sees : {W : Type 0} (leaf inner : W → Test) → ((w : W) → leaf w ≢ No → inner w ≢ No) → (t : Tree W) → leaf_formula leaf t ≢ No → inner_formula inner t ≢ No
inner_sees leaf inner sees (Word w) = unsure_sees (leaf w) (inner w) (sees w)
inner_sees leaf inner sees (Not t) = λ p. maybe_no
inner_sees leaf inner sees (And t u) =
    both_sees (leaf_formula leaf t) (leaf_formula leaf u) (inner_formula inner t) (inner_formula inner u) (inner_sees leaf inner sees t) (inner_sees leaf inner sees u)
inner_sees leaf inner sees (Or t u) =
    either_sees (leaf_formula leaf t) (leaf_formula leaf u) (inner_formula inner t) (inner_formula inner u) (inner_sees leaf inner sees t) (inner_sees leaf inner sees u)

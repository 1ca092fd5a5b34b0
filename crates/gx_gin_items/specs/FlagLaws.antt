-- What flags say of items, and reach.
use Rattle.std.specs.Prelude.{◌≡◌, ◌≢◌, ℕ, Bool, true, false, ◌||◌, List, [], ◌∷◌, Contains, refl}
use Rattle.std.specs.List.{list_any}
use Rattle.std.specs.Str.{bytes_eq}
use Rattle.std.proofs.Common.{sym, ap, ◌∙◌, subst, inl, inr, true≢false}
use Rattle.std.proofs.lemmas.List.Folds.{list_all-map}
use Rattle.std.proofs.lemmas.Slice.Eq.{bytes_eq-Decides}
use Rattle.gx_gin.specs.Reach.{is_among, flags, has_none, InReach}
use Rattle.gx_gin.specs.Rising.{rising_of}
use Rattle.gx_gin.proofs.RisingFacts.{same_strings}
use Rattle.gx_gin.specs.declared.wanted.Mode.TheVariants.{Default, IncludeEmpty}
use Rattle.gx_gist.specs.declared.test.Test.TheVariants.{No, Maybe, Yes}
use Rattle.gx_kleene.specs.Laws.{IsRight}
use Rattle.gx_gin_items.specs.Tests.{all_found, some_found, sure, maybe, flag_of}
use Rattle.gx_gin_items.specs.ListLaws.{all_true, true_all, any_true, true_any, any_map, in_cases, none_in}

-- an item is among others where it is one of them
pub among : (items : List (List ℕ)) (z : List ℕ) → Contains items z → is_among items z ≡ true
among items z c = any_true (λ other. bytes_eq other z) items z c ((bytes_eq-Decides z z).1 refl)

pub of_among : (items : List (List ℕ)) (z : List ℕ) → is_among items z ≡ true → Contains items z
of_among items z e =
    let found = true_any (λ other. bytes_eq other z) items e in
    subst (λ w. Contains items w) ((bytes_eq-Decides found.one z).0 found.is) found.in'

pub in_rising : (xs : List (List ℕ)) (z : List ℕ) → Contains xs z → is_among (rising_of xs) z ≡ true
in_rising xs z c = among (rising_of xs) z ((same_strings xs z).1 c)

pub of_rising : (xs : List (List ℕ)) (z : List ℕ) → is_among (rising_of xs) z ≡ true → Contains xs z
of_rising xs z e = (same_strings xs z).0 (of_among (rising_of xs) z e)

-- all of the wanted are found exactly where each is one of the items
pub all_are : (want have : List (List ℕ)) → ((z : List ℕ) → Contains want z → Contains have z) → all_found (flags (rising_of want) (rising_of have)) ≡ true
all_are want have each =
    list_all-map (λ f. f) (is_among (rising_of have)) (rising_of want)
    ∙ all_true (is_among (rising_of have)) (rising_of want) (λ z c. in_rising have z (each z ((same_strings want z).0 c)))

pub are_all : (want have : List (List ℕ)) → all_found (flags (rising_of want) (rising_of have)) ≡ true → (z : List ℕ) → Contains want z → Contains have z
are_all want have e z c =
    of_rising have z
    (true_all (is_among (rising_of have)) (rising_of want) (sym (list_all-map (λ f. f) (is_among (rising_of have)) (rising_of want)) ∙ e) z ((same_strings want z).1 c))

-- some of the wanted is found exactly where one is one of the items
pub some_is : (want have : List (List ℕ)) (z : List ℕ) → Contains want z → Contains have z → some_found (flags (rising_of want) (rising_of have)) ≡ true
some_is want have z c d =
    any_map (λ f. f) (is_among (rising_of have)) (rising_of want) ∙ any_true (is_among (rising_of have)) (rising_of want) z ((same_strings want z).1 c) (in_rising have z d)

pub record AreMet (want have : List (List ℕ)) : Type 0 where
  pub item : List ℕ
  pub wanted : Contains want item
  pub there : Contains have item

pub is_some : (want have : List (List ℕ)) → some_found (flags (rising_of want) (rising_of have)) ≡ true → AreMet want have
is_some want have e =
    let found = true_any (is_among (rising_of have)) (rising_of want) (sym (any_map (λ f. f) (is_among (rising_of have)) (rising_of want)) ∙ e) in
    record { item = found.one; wanted = (same_strings want found.one).0 found.in'; there = of_rising have found.one found.is }

-- where one of the wanted is one of the items, the value is in reach
pub meets : (want have : List (List ℕ)) (z : List ℕ) → Contains want z → Contains have z → InReach Default (rising_of want) (rising_of have)
meets want have z c d = any_true (is_among (rising_of have)) (rising_of want) z ((same_strings want z).1 c) (in_rising have z d)

or_left : (a b : Bool) → a ≡ true → (a || b) ≡ true
or_left a b e = rw e refl

or_right : (a b : Bool) → b ≡ true → (a || b) ≡ true
or_right true b e = refl
or_right false b e = e

pub meets_or : (want have : List (List ℕ)) (z : List ℕ) → Contains want z → Contains have z → InReach IncludeEmpty (rising_of want) (rising_of have)
meets_or want have z c d = or_left (list_any (is_among (rising_of have)) (rising_of want)) (has_none (rising_of have)) (meets want have z c d)

pub none_reached : (want : List (List ℕ)) → InReach IncludeEmpty want []
none_reached want = or_right (list_any (is_among []) want) true refl

-- the flag of a wanted item tells whether the value has it
flag_by : (b : Bool) (w z : List ℕ) (ws have : List (List ℕ)) → bytes_eq w z ≡ b → Contains (w ∷ ws) z → (Contains ws z → flag_of ws (flags ws have) z ≡ is_among have z)
    → flag_of (w ∷ ws) (flags (w ∷ ws) have) z ≡ is_among have z
flag_by true w z ws have e c rest = rw e (ap (is_among have) ((bytes_eq-Decides w z).0 e))
flag_by false w z ws have e c rest = rw e (elim (in_cases w z ws c) [
  | inl is ↦ absurd (true≢false (sym ((bytes_eq-Decides w z).1 is) ∙ e))
  | inr more ↦ rest more
])

pub flag_is : (wanted have : List (List ℕ)) (z : List ℕ) → Contains wanted z → flag_of wanted (flags wanted have) z ≡ is_among have z
flag_is [] have z c = absurd (none_in z c)
flag_is (w ∷ ws) have z c = flag_by (bytes_eq w z) w z ws have refl c (flag_is ws have z)

-- tests that are right
no_yes : No ≡ Yes → ⊥
no_yes e = cc e

yes_no : Yes ≡ No → ⊥
yes_no e = cc e

maybe_no : Maybe ≡ No → ⊥
maybe_no e = cc e

maybe_yes : Maybe ≡ Yes → ⊥
maybe_yes e = cc e

pub sure_right : (b : Bool) (P : Type 0) → (P → b ≡ true) → (b ≡ true → P) → IsRight (sure b) P
sure_right true P f g = record { sees = λ p e. yes_no e; sure = λ e. g refl }
sure_right false P f g = record { sees = λ p e. true≢false (sym (f p)); sure = λ e. absurd (no_yes e) }

pub maybe_right : (b : Bool) (P : Type 0) → (P → b ≡ true) → IsRight (maybe b) P
maybe_right true P f = record { sees = λ p e. maybe_no e; sure = λ e. absurd (maybe_yes e) }
maybe_right false P f = record { sees = λ p e. true≢false (sym (f p)); sure = λ e. absurd (no_yes e) }

pub always_maybe : (P : Type 0) → IsRight Maybe P
always_maybe P = record { sees = λ p e. maybe_no e; sure = λ e. absurd (maybe_yes e) }

-- What the laws of both classes stand on.
use Rattle.std.specs.Prelude.{◌≡◌, ◌≤◌, ℕ, Bool, true, false, List, [], ◌∷◌, length, map, All, Contains, ℤ, if◌then◌else◌, refl}
use Rattle.std.specs.Bool.{Decides}
use Rattle.std.proofs.Common.{sym, ◌∙◌, subst, arith}
use Rattle.std.proofs.lemmas.List.Elements.{All-contains, All-head, All-weaker, All-contains_itself}
use Rattle.gx_formula.specs.Formula.{Tree, is_true_where}
use Rattle.gx_formula.proofs.TruthLemmas.{truth_decided}
use Rattle.gx_intarr.specs.Arrays.{IsInt4, IsArray}
use Rattle.gx_intarr.specs.Formula.{IsTrueOf, has}
use Rattle.gx_intarr.specs.Operators.{Overlap, ContainsEach}
use Rattle.gx_intarr.proofs.ArrayLemmas.{contains_passes, passes_contains}
use Rattle.gx_gin.specs.Reach.{is_among, flags, InReach}
use Rattle.gx_gin.specs.Rising.{IsRising}
use Rattle.gx_gin.proofs.RisingFacts.{rises, same_strings}
use Rattle.gx_gin.specs.declared.wanted.Mode.TheVariants as mode
use Rattle.gx_kleene.specs.Laws.{IsRight}
use Rattle.gx_gin_items.specs.Tests.{all_found, some_found, sure, flag_of}
use Rattle.gx_gin_items.specs.ListLaws.{here, of_map, true_any}
use Rattle.gx_gin_items.specs.FlagLaws.{in_rising, of_rising, all_are, are_all, some_is, is_some, meets, meets_or, none_reached, flag_is, sure_right, maybe_right, always_maybe}
use Rattle.gx_gin_arrays.specs.declared.int_query.IntQuery.{IntQuery}
use Rattle.gx_gin_arrays.specs.declared.int_query.IntQuery.TheVariants as query
use Rattle.gx_gin_arrays.specs.Numbers.{number_item, items, numbers_in}
use Rattle.gx_gin_arrays.specs.Placed.{tree_of}
use Rattle.gx_gin_arrays.specs.Tests as tests
use Rattle.gx_gin_arrays.specs.Tests.{Holds, IsQuery, IsArrayQuery, wanted, is_true_of_none, is_true_of_flags, answer}
use Rattle.gx_gin_arrays.specs.NumberLaws.{int4_in, item_in, of_item, agree, some_number}

has_decided : (items : List ℤ) (n : ℤ) → Decides (has items n) (Contains items n)
has_decided items n = (passes_contains items n, contains_passes items n)

pub items_rise : (v : List ℤ) → IsRising (items v)
items_rise v = rises (map number_item v)

pub wanted_rise : (q : IntQuery) → IsRising (wanted q)
wanted_rise (query.Overlaps b) = items_rise b
wanted_rise (query.Contains b) = items_rise b
wanted_rise (query.Within b) = items_rise b
wanted_rise (query.Equal b) = items_rise b
wanted_rise (query.Formula p) = items_rise (numbers_in (tree_of p.formula))

four_bytes : (n : ℤ) → length (number_item n) ≤ 1900
four_bytes n = omega arith

pub items_are_short : (v : List ℤ) (item : List ℕ) → Contains (items v) item → length item ≤ 1900
items_are_short v item c =
    let made = of_map number_item v item ((same_strings (map number_item v) item).0 c) in
    subst (λ (x : List ℕ). length x ≤ 1900) made.is (four_bytes made.from)

pub is_query : (q : IntQuery) → IsArrayQuery q → IsQuery q
is_query (query.Overlaps b) valid = valid
is_query (query.Contains b) valid = valid
is_query (query.Within b) valid = valid
is_query (query.Equal b) valid = valid
is_query (query.Formula p) valid = absurd valid

-- a number of both arrays brings the second in reach of the first
meet : (b v : List ℤ) (n : ℤ) → Contains b n → Contains v n → InReach mode.Default (items b) (items v)
meet b v n c d = meets (map number_item b) (map number_item v) (number_item n) (item_in b n c) (item_in v n d)

meet_or : (b v : List ℤ) (n : ℤ) → Contains b n → Contains v n → InReach mode.IncludeEmpty (items b) (items v)
meet_or b v n c d = meets_or (map number_item b) (map number_item v) (number_item n) (item_in b n c) (item_in v n d)

within_reach : (b v : List ℤ) → ContainsEach b v → InReach mode.IncludeEmpty (items b) (items v)
within_reach b [] each = none_reached (items b)
within_reach b (n ∷ v) each = meet_or b (n ∷ v) n (All-head (λ m. Contains b m) n v each) (here n v)

formula_reach : (t : Tree ℤ) (v : List ℤ) (b : Bool) → is_true_of_none t ≡ b → IsTrueOf t v → InReach (if b then mode.All else mode.Default) (items (numbers_in t)) (items v)
formula_reach t v true e holds = refl
formula_reach t v false e holds =
    let number = true_any (has v) (numbers_in t) (some_number (has v) t ((truth_decided (has v) (λ n. Contains v n) (has_decided v) t).1 holds) e) in
    meet (numbers_in t) v number.one number.in' ((has_decided v number.one).0 number.is)

-- Where a query holds of an array, the array is in reach.
pub reach_sees : (v : List ℤ) (q : IntQuery) → Holds q v → InReach (tests.mode q) (wanted q) (items v)
reach_sees v (query.Overlaps b) any = meet b v any.1 (any.0, any.2, any.3) any.4
reach_sees v (query.Contains []) each = refl
reach_sees v (query.Contains (n ∷ b)) each = meet (n ∷ b) v n (here n b) (All-head (λ m. Contains v m) n b each)
reach_sees v (query.Within b) each = within_reach b v each
reach_sees v (query.Equal []) e = subst (λ (w : List ℤ). InReach mode.IncludeEmpty [] (items w)) (sym e) (none_reached [])
reach_sees v (query.Equal (n ∷ b)) e =
    subst (λ (w : List ℤ). InReach mode.Default (items (n ∷ b)) (items w)) (sym e) (meet (n ∷ b) (n ∷ b) n (here n b) (here n b))
reach_sees v (query.Formula p) holds = formula_reach (tree_of p.formula) v (is_true_of_none (tree_of p.formula)) refl holds

-- what is found of an operand
overlap_found : (b v : List ℤ) → IsArray b → IsArray v → some_found (flags (items b) (items v)) ≡ true → Overlap v b
overlap_found b v isb isv e =
    let met = is_some (map number_item b) (map number_item v) e in
    let made = of_map number_item b met.item met.wanted in
    let there = of_item v made.from isv (int4_in b made.from isb made.in') (subst (λ (z : List ℕ). Contains (map number_item v) z) (sym made.is) met.there) in
    (made.in'.0, made.from, made.in'.1, made.in'.2, there)

each_found : (b v : List ℤ) → ContainsEach v b → all_found (flags (items b) (items v)) ≡ true
each_found b v each =
    all_are (map number_item b) (map number_item v)
    (λ z c. let made = of_map number_item b z c in
    subst (λ (x : List ℕ). Contains (map number_item v) x) made.is (item_in v made.from (All-contains (λ m. Contains v m) b made.from each made.in')))

found_each : (b v : List ℤ) → IsArray b → IsArray v → all_found (flags (items b) (items v)) ≡ true → ContainsEach v b
found_each b v isb isv e =
    All-weaker (λ n. Contains b n) (λ n. Contains v n) (λ n c. of_item v n isv (int4_in b n isb c) (are_all (map number_item b) (map number_item v) e (number_item n) (item_in b n c))) b
    (All-contains_itself b)

same_bool : (a b : Bool) → (a ≡ true → b ≡ true) → (b ≡ true → a ≡ true) → a ≡ b
same_bool true b f g = sym (f refl)
same_bool false true f g = g refl
same_bool false false f g = refl

-- the flag of a number of the formula tells whether it is an element
flag_tells : (b v : List ℤ) (n : ℤ) → IsArray v → IsInt4 n → Contains b n → flag_of (items b) (flags (items b) (items v)) (number_item n) ≡ has v n
flag_tells b v n isv fits c =
    flag_is (items b) (items v) (number_item n) ((same_strings (map number_item b) (number_item n)).1 (item_in b n c))
    ∙ same_bool (is_among (items v) (number_item n)) (has v n)
    (λ e. (has_decided v n).1 (of_item v n isv fits (of_rising (map number_item v) (number_item n) e)))
    (λ e. in_rising (map number_item v) (number_item n) (item_in v n ((has_decided v n).0 e)))

flags_tell : (t : Tree ℤ) (v : List ℤ) → IsArray (numbers_in t) → IsArray v → is_true_of_flags (items (numbers_in t)) (flags (items (numbers_in t)) (items v)) t ≡ is_true_where (has v) t
flags_tell t v ist isv =
    agree (λ n. flag_of (items (numbers_in t)) (flags (items (numbers_in t)) (items v)) (number_item n)) (has v) t
    (λ n c. flag_tells (numbers_in t) v n isv (int4_in (numbers_in t) n ist c) c)

formula_right : (t : Tree ℤ) (v : List ℤ) → IsArray (numbers_in t) → IsArray v → IsRight (sure (is_true_of_flags (items (numbers_in t)) (flags (items (numbers_in t)) (items v)) t)) (IsTrueOf t v)
formula_right t v ist isv =
    let same = flags_tell t v ist isv in
    let decided = truth_decided (has v) (λ n. Contains v n) (has_decided v) t in
    sure_right (is_true_of_flags (items (numbers_in t)) (flags (items (numbers_in t)) (items v)) t) (IsTrueOf t v) (λ holds. same ∙ decided.1 holds) (λ e. decided.0 (sym same ∙ e))

-- Flags rule a query out only where it doesn't hold, and are sure only where it does.
pub passes_are_right : (v : List ℤ) (q : IntQuery) → IsArray v → IsQuery q → IsRight (answer q (flags (wanted q) (items v))) (Holds q v)
passes_are_right v (query.Overlaps b) isv isb =
    sure_right (some_found (flags (items b) (items v))) (Overlap v b)
    (λ any. some_is (map number_item b) (map number_item v) (number_item any.1) (item_in b any.1 (any.0, any.2, any.3)) (item_in v any.1 any.4)) (overlap_found b v isb isv)
passes_are_right v (query.Contains b) isv isb = sure_right (all_found (flags (items b) (items v))) (ContainsEach v b) (each_found b v) (found_each b v isb isv)
passes_are_right v (query.Within b) isv isb = always_maybe (ContainsEach b v)
passes_are_right v (query.Equal b) isv isb =
    maybe_right (all_found (flags (items b) (items v))) (v ≡ b)
    (λ e. subst (λ (w : List ℤ). all_found (flags (items b) (items w)) ≡ true) (sym e) (all_are (map number_item b) (map number_item b) (λ z c. c)))
passes_are_right v (query.Formula p) isv placed = formula_right (tree_of p.formula) v placed.1 isv

-- Items of numbers are their own, and formulas of them.
use Rattle.std.specs.Prelude.{◌≡◌, ℕ, ◌+◌, ◌%◌, ◌^◌, ◌<◌, Bool, true, false, not, ◌&&◌, ◌||◌, List, [], map, Contains, ℤ, refl}
use Rattle.std.specs.List.{list_any}
use Rattle.std.specs.Int.{w32, from_be_bytes}
use Rattle.std.proofs.Common.{sym, ap, ap₂, ◌∙◌, subst, arith, of_z, to_z, to_z-of_z, true≢false}
use Rattle.std.proofs.Math.Facts.{Fits-of_z}
use Rattle.std.proofs.lemmas.Nat.{from_be_bytes-to_be_bytes_4}
use Rattle.std.proofs.lemmas.List.Elements.{All-contains, All-from_recursion, Contains-append_left, Contains-append_right}
use Rattle.std.proofs.lemmas.List.Folds.{list_any-append}
use Rattle.byteorder.specs.Endian.{big_bytes}
use Rattle.gx_formula.specs.Formula.{Tree, Word, Not, And, Or, is_true_where}
use Rattle.gx_intarr.specs.Arrays.{IsInt4, IsArray}
use Rattle.gx_intarr.proofs.EncodingLemmas.{int4_fits}
use Rattle.gx_gin_items.specs.ListLaws.{here, in_map, of_map}
use Rattle.gx_gin_arrays.specs.Numbers.{number_item, numbers_in}
use Rattle.gx_gin_arrays.specs.Tests.{is_true_of_none}

turned_same : (a b : ℕ) → a < 2 ^ 32 → b < 2 ^ 32 → (a + 2 ^ 31) % 2 ^ 32 ≡ (b + 2 ^ 31) % 2 ^ 32 → a ≡ b
turned_same a b p q e = omega (arith, p, q, e)

turned_fits : (a : ℕ) → (a + 2 ^ 31) % 2 ^ 32 < 2 ^ 32
turned_fits a = omega arith

four_same : (m n : ℕ) → m < 2 ^ 32 → n < 2 ^ 32 → big_bytes 4 m ≡ big_bytes 4 n → m ≡ n
four_same m n p q e = sym (from_be_bytes-to_be_bytes_4 m p) ∙ ap (from_be_bytes w32) e ∙ from_be_bytes-to_be_bytes_4 n q

pub one_number : (m n : ℤ) → IsInt4 m → IsInt4 n → number_item m ≡ number_item n → m ≡ n
one_number m n v w e =
    let fm = int4_fits m v in
    let fn = int4_fits n w in
    let a = Fits-of_z fm in
    let b = Fits-of_z fn in
    let turned = four_same ((of_z w32 m + 2 ^ 31) % 2 ^ 32) ((of_z w32 n + 2 ^ 31) % 2 ^ 32) (turned_fits (of_z w32 m)) (turned_fits (of_z w32 n)) e in
    let bits : of_z w32 m ≡ of_z w32 n = turned_same (of_z w32 m) (of_z w32 n) (omega (arith, a)) (omega (arith, b)) turned in
    sym (to_z-of_z fm) ∙ ap (to_z w32) bits ∙ to_z-of_z fn

-- an element is an int4
pub int4_in : (v : List ℤ) (n : ℤ) → IsArray v → Contains v n → IsInt4 n
int4_in v n is c = All-contains IsInt4 v n (All-from_recursion IsInt4 v is) c

-- an item is that of an element exactly where its number is one
pub item_in : (v : List ℤ) (n : ℤ) → Contains v n → Contains (map number_item v) (number_item n)
item_in v n c = in_map number_item v n c

pub of_item : (v : List ℤ) (n : ℤ) → IsArray v → IsInt4 n → Contains (map number_item v) (number_item n) → Contains v n
of_item v n is fits c =
    let made = of_map number_item v (number_item n) c in
    subst (λ (m : ℤ). Contains v m) (one_number made.from n (int4_in v made.from is made.in') fits made.is) made.in'

-- tests that agree on a formula's numbers agree on the formula
pub agree : (p q : ℤ → Bool) (t : Tree ℤ) → ((n : ℤ) → Contains (numbers_in t) n → p n ≡ q n) → is_true_where p t ≡ is_true_where q t
agree p q (Word n) f = f n (here n [])
agree p q (Not t) f = ap not (agree p q t f)
agree p q (And t u) f =
    ap₂ (λ (a b : Bool). a && b) (agree p q t (λ n c. f n (Contains-append_left (numbers_in t) (numbers_in u) n c)))
    (agree p q u (λ n c. f n (Contains-append_right (numbers_in t) (numbers_in u) n c)))
agree p q (Or t u) f =
    ap₂ (λ (a b : Bool). a || b) (agree p q t (λ n c. f n (Contains-append_left (numbers_in t) (numbers_in u) n c)))
    (agree p q u (λ n c. f n (Contains-append_right (numbers_in t) (numbers_in u) n c)))

left_false : (a b : Bool) → (a || b) ≡ false → a ≡ false
left_false true b e = e
left_false false b e = refl

right_false : (a b : Bool) → (a || b) ≡ false → b ≡ false
right_false true b e = absurd (true≢false e)
right_false false b e = e

-- where no number passes, the formula is what it is of none
none_pass : (p : ℤ → Bool) (t : Tree ℤ) → list_any p (numbers_in t) ≡ false → is_true_where p t ≡ is_true_of_none t
none_pass p (Word n) e = left_false (p n) false e
none_pass p (Not t) e = ap not (none_pass p t e)
none_pass p (And t u) e =
    let halves = sym (list_any-append p (numbers_in t) (numbers_in u)) ∙ e in
    ap₂ (λ (a b : Bool). a && b) (none_pass p t (left_false (list_any p (numbers_in t)) (list_any p (numbers_in u)) halves))
    (none_pass p u (right_false (list_any p (numbers_in t)) (list_any p (numbers_in u)) halves))
none_pass p (Or t u) e =
    let halves = sym (list_any-append p (numbers_in t) (numbers_in u)) ∙ e in
    ap₂ (λ (a b : Bool). a || b) (none_pass p t (left_false (list_any p (numbers_in t)) (list_any p (numbers_in u)) halves))
    (none_pass p u (right_false (list_any p (numbers_in t)) (list_any p (numbers_in u)) halves))

by_test : (p : ℤ → Bool) (t : Tree ℤ) (b : Bool) → list_any p (numbers_in t) ≡ b → is_true_where p t ≡ true → is_true_of_none t ≡ false → b ≡ true
by_test p t true e holds none = refl
by_test p t false e holds none = absurd (true≢false (sym holds ∙ none_pass p t e ∙ none))

-- a formula that is true, but not of none, has a number that passes
pub some_number : (p : ℤ → Bool) (t : Tree ℤ) → is_true_where p t ≡ true → is_true_of_none t ≡ false → list_any p (numbers_in t) ≡ true
some_number p t holds none = by_test p t (list_any p (numbers_in t)) refl holds none

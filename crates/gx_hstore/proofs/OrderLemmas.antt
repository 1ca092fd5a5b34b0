-- The order of keys is total, and keys that it ties are equal.
use Rattle.std.proofs.Common.{◌≡◌, ℕ, Bool, true, false, List, length, bytes_eq, refl, sym, ap, ◌∙◌, true≢false}
use Rattle.std.specs.declared.cmp.Ordering.{Ordering}
use Rattle.std.specs.declared.cmp.Ordering.TheVariants.{Less, Equal, Greater}
use Rattle.std.specs.Cmp.{IsTotalOrder, IsEquivalence}
use Rattle.std.specs.Cmp.Lexicographic.{slice_cmp}
use Rattle.std.specs.Ordering.{nat_cmp, ordering_then, is_eq, eq_by_cmp}
use Rattle.std.proofs.lemmas.Cmp.{then_total, on_total, nat_cmp_total, nat_list_cmp_total, tied_itself}
use Rattle.std.proofs.lemmas.Map.Lookups.{exact_bytes}
use Rattle.std.proofs.lemmas.Slice.Eq.{bytes_eq-Decides}
use Rattle.gx_hstore.specs.Map.{key_order}

pub key_total : IsTotalOrder key_order
key_total = then_total (on_total (length {A = ℕ}) nat_cmp_total) nat_list_cmp_total

second_tie : (r s : Ordering) → ordering_then r s ≡ Equal → s ≡ Equal
second_tie Less s e = absurd (true≢false (sym (ap is_eq e)))
second_tie Equal s e = e
second_tie Greater s e = absurd (true≢false (sym (ap is_eq e)))

pub key_exact : (a b : List ℕ) → key_order a b ≡ Equal → a ≡ b
key_exact a b e = exact_bytes a b (second_tie (nat_cmp (length a) (length b)) (slice_cmp nat_cmp a b) e)

pub key_same : (a b : List ℕ) → a ≡ b → key_order a b ≡ Equal
key_same a b e = ap (key_order a) (sym e) ∙ tied_itself key_total a

both_ways : (s t : Bool) → (s ≡ true → t ≡ true) → (t ≡ true → s ≡ true) → s ≡ t
both_ways true t f g = sym (f refl)
both_ways false true f g = g refl
both_ways false false f g = refl

from_eq : (r : Ordering) → is_eq r ≡ true → r ≡ Equal
from_eq Less e = absurd (true≢false (sym e))
from_eq Equal e = refl
from_eq Greater e = absurd (true≢false (sym e))

-- equal bytes are what the order ties
pub same_test : (a b : List ℕ) → bytes_eq a b ≡ eq_by_cmp key_order a b
same_test a b =
    both_ways (bytes_eq a b) (eq_by_cmp key_order a b)
    (λ e. ap is_eq (key_same a b ((bytes_eq-Decides a b).0 e)))
    (λ e. (bytes_eq-Decides a b).1 (key_exact a b (from_eq (key_order a b) e)))

pub bytes_equiv : IsEquivalence bytes_eq
bytes_equiv = record {
  refl = λ x. (bytes_eq-Decides x x).1 refl;
  symm = λ x y. both_ways (bytes_eq x y) (bytes_eq y x) (λ e. (bytes_eq-Decides y x).1 (sym ((bytes_eq-Decides x y).0 e))) (λ e. (bytes_eq-Decides x y).1 (sym ((bytes_eq-Decides y x).0 e)));
  congr = λ x y z e. ap (λ w. bytes_eq w z) ((bytes_eq-Decides x y).0 e);
}

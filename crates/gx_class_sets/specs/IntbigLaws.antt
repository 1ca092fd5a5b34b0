-- What the laws of gist__intbig_ops stand on.
use Rattle.std.specs.Prelude.{◌≡◌, ◌≢◌, ℕ, Bool, true, List, map, ℤ, All, Any, Contains, refl}
use Rattle.std.specs.List.{list_any, list_all}
use Rattle.std.proofs.Common.{subst}
use Rattle.gx_gist.specs.declared.test.Test.{Test}
use Rattle.gx_gist.specs.declared.test.Test.TheVariants.{No, Maybe, Yes}
use Rattle.gx_kleene.specs.Laws as kleene
use Rattle.gx_kleene.specs.Laws.{IsRight}
use Rattle.gx_sig.specs.BitSets.{IsSignatureLength, IsSignature}
use Rattle.gx_intarr.specs.Formula.{tree_of}
use Rattle.gx_class_sets.specs.declared.int_query.IntQuery.{IntQuery}
use Rattle.gx_class_sets.specs.declared.int_query.IntQuery.TheVariants as query
use Rattle.gx_class_sets.specs.Signatures.{hash_of, has, IsOver, is_same, is_within, maybe}
use Rattle.gx_class_sets.specs.SignatureLaws.{sign_is, signed, has_over, same_itself, within_over, any_mono, all_mono, all_true, any_true, maybe_right, maybe_sees}
use Rattle.gx_class_sets.specs.IntQueries.{Holds}
use Rattle.gx_class_sets.specs.IntbigTests.{leaf_key, may_have, leaf_answer, inner_answer}

pub leaf_is_valid : (n : ℕ) (v : List ℤ) → IsSignature n (leaf_key n v)
leaf_is_valid n v = sign_is n (map hash_of v)

-- An element is there by its bit.
seen : (n : ℕ) (v : List ℤ) → IsSignatureLength n → (number : ℤ) → Contains v number → may_have n (leaf_key n v) number ≡ true
seen n v long number in' = signed hash_of n v number long in'

-- The key of an array says No only where the query doesn't hold, and Yes only where it does.
pub leaf_is_right : (n : ℕ) (v : List ℤ) (q : IntQuery) → IsSignatureLength n → IsRight (leaf_answer n (leaf_key n v) q) (Holds q v)
leaf_is_right n v (query.Overlaps b) long =
    maybe_right (list_any (may_have n (leaf_key n v)) b) (Any (λ m. Contains v m) b) (any_true (may_have n (leaf_key n v)) (λ m. Contains v m) (seen n v long) b)
leaf_is_right n v (query.Contains b) long =
    maybe_right (list_all (may_have n (leaf_key n v)) b) (All (λ m. Contains v m) b) (all_true (may_have n (leaf_key n v)) (λ m. Contains v m) (seen n v long) b)
leaf_is_right n v (query.Equal b) long =
    maybe_right (is_same n (leaf_key n v) (leaf_key n b)) (v ≡ b) (λ e. subst (λ (w : List ℤ). is_same n (leaf_key n v) (leaf_key n w) ≡ true) e (same_itself n (leaf_key n v)))
leaf_is_right n v (query.Formula q) long =
    kleene.leaf_is_right (λ m. maybe (may_have n (leaf_key n v) m)) (λ m. Contains v m)
    (λ m. maybe_right (may_have n (leaf_key n v) m) (Contains v m) (seen n v long m)) (tree_of q.formula)

-- A key over that of an array says No only where this one does.
pub inner_sees : (n : ℕ) (k l : List ℕ) (q : IntQuery) → IsSignature n k → IsOver k l → leaf_answer n l q ≢ No → inner_answer n k q ≢ No
inner_sees n k l (query.Overlaps b) s over =
    maybe_sees (list_any (may_have n l) b) (list_any (may_have n k) b) (any_mono (may_have n l) (may_have n k) (λ m. has_over n k l (hash_of m) over) b)
inner_sees n k l (query.Contains b) s over =
    maybe_sees (list_all (may_have n l) b) (list_all (may_have n k) b) (all_mono (may_have n l) (may_have n k) (λ m. has_over n k l (hash_of m) over) b)
inner_sees n k l (query.Equal b) s over =
    maybe_sees (is_same n l (leaf_key n b)) (is_within n k (leaf_key n b)) (within_over n k l (leaf_key n b) s (leaf_is_valid n b) over)
inner_sees n k l (query.Formula q) s over =
    kleene.inner_sees (λ m. maybe (may_have n l m)) (λ m. maybe (may_have n k m))
    (λ m. maybe_sees (may_have n l m) (may_have n k m) (has_over n k l (hash_of m) over)) (tree_of q.formula)

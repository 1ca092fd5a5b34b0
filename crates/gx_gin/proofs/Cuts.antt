-- Parts of bytes: as more bytes are added, and in rising order.
use Rattle.std.proofs.Common.{◌≡◌, ◌↔◌, ℕ, ◌+◌, ◌-◌, ◌<◌, ◌≤◌, Bool, true, false, cond, zero, suc, List, [], ◌∷◌, ◌++◌, length, take, drop, map, refl, sym, ◌∙◌, ap, subst, arith, length-drop, Contains, get_or}
use Rattle.std.specs.Prelude.{IsPermutation, IsSortedBy}
use Rattle.std.specs.Str.{bytes_eq}
use Rattle.std.specs.List.{dedup, dedup_from}
use Rattle.std.specs.List.Sorted.{IsSorted, IsStrictlySortedBy}
use Rattle.std.specs.Ordering.{nat_cmp, is_lt}
use Rattle.std.specs.Cmp.Lexicographic.{slice_cmp, texts_ties}
use Rattle.std.proofs.lemmas.Cmp.{nat_list_cmp_total, nat_list_eq_equiv}
use Rattle.std.proofs.lemmas.List.{drop-append-le, take-append-le, drop_at, take_all, get_or-map, length-map}
use Rattle.std.proofs.lemmas.List.Kept.{Contains-dedup, Contains-from_dedup, IsStrictlySortedBy-dedup}
use Rattle.std.proofs.lemmas.List.Sorted.{IsPermutation-map, IsPermutation-sym, Contains-permutation}
use Rattle.std.proofs.lemmas.Map.Lookups.{exact_bytes}
use Rattle.std.proofs.lemmas.Map.Views.{tells_apart}
use Rattle.gx_gin.specs.declared.strings.Part.{Part}
use Rattle.gx_gin.specs.Parts.{cut, LieIn}
use Rattle.gx_gin.specs.Rising.{IsRising, rising_of}
use Rattle.gx_gin.proofs.RisingFacts.{one_list, rises, same_strings}

pub strings_push : (parts : List Part) (bytes more : List ℕ) (part : Part) → LieIn bytes parts → part.from ≡ length bytes → part.to ≡ length bytes + length more
    → map (cut (bytes ++ more)) (parts ++ part ∷ []) ≡ map (cut bytes) parts ++ more ∷ []
strings_push [] bytes more part lie from to =
    let there : take (part.to - part.from) (drop part.from (bytes ++ more)) ≡ more =
    ap (λ (l : List ℕ). take (part.to - part.from) l) (drop_at bytes more part.from (sym from)) ∙ take_all (part.to - part.from) more (omega (arith, from, to)) in
    ap (λ (l : List ℕ). l ∷ []) there
strings_push (p ∷ parts) bytes more part lie from to =
    let within : p.from ≤ length bytes = omega (arith, lie.0.0, lie.0.1) in
    let here : take (p.to - p.from) (drop p.from (bytes ++ more)) ≡ take (p.to - p.from) (drop p.from bytes) =
    ap (λ (l : List ℕ). take (p.to - p.from) l) (drop-append-le p.from bytes more within)
    ∙ take-append-le (p.to - p.from) (drop p.from bytes) more (omega (arith, lie.0.0, lie.0.1, length-drop p.from bytes)) in
    let rest = strings_push parts bytes more part lie.1 from to in
    λ i. here i ∷ rest i

-- parts without those that repeat the one before are the strings without these
abbrev pub same_part : List ℕ → Part → Part → Bool
same_part bytes p q = bytes_eq (cut bytes p) (cut bytes q)

kept_more : (f : Part → List ℕ) (b : Bool) (xs ys : List Part) (us vs : List (List ℕ)) → map f xs ≡ us → map f ys ≡ vs → map f (cond b xs ys) ≡ cond b us vs
kept_more f true xs ys us vs p q = p
kept_more f false xs ys us vs p q = q

kept_from : (bytes : List ℕ) (p : Part) (ps : List Part) → map (cut bytes) (dedup_from (same_part bytes) p ps) ≡ dedup_from bytes_eq (cut bytes p) (map (cut bytes) ps)
kept_from bytes p [] = refl
kept_from bytes p (q ∷ ps) =
    kept_more (cut bytes) (same_part bytes q p) _ _ _ _ (kept_from bytes p ps) (ap (λ (l : List (List ℕ)). cut bytes p ∷ l) (kept_from bytes q ps))

kept : (bytes : List ℕ) (ps : List Part) → map (cut bytes) (dedup (same_part bytes) ps) ≡ dedup bytes_eq (map (cut bytes) ps)
kept bytes [] = refl
kept bytes (p ∷ ps) = kept_from bytes p ps

-- sorted parts are sorted strings
sorted_strings : (f : Part → List ℕ) (ps : List Part) → IsSortedBy (λ p q. is_lt (slice_cmp nat_cmp (f p) (f q))) ps → IsSorted (slice_cmp nat_cmp) (map f ps)
sorted_strings f ps up k d low below =
    let long : length (map f ps) ≡ length ps = length-map ps f in
    let none : Part = record { from = 0; to = 0 } in
    rw (get_or-map f ps (k + 1) none d (omega arith), get_or-map f ps k none d (omega arith)) (up k none low (omega arith))

rising_from_strict : (xs : List (List ℕ)) → IsStrictlySortedBy (slice_cmp nat_cmp) xs → IsRising xs
unfolding IsStrictlySortedBy
rising_from_strict [] up = tt
rising_from_strict (x ∷ []) up = tt
rising_from_strict (x ∷ y ∷ ys) up = (up.0.0, rising_from_strict (y ∷ ys) up.1)

exact : (x y : List ℕ) → bytes_eq x y ≡ true → x ≡ y
exact x y e = tells_apart exact_bytes x y (sym (texts_ties x y) ∙ e)

-- sorted, and without those that repeat, the strings rise, each once
pub made : (bytes : List ℕ) (old sorted parts : List Part) → IsPermutation old sorted → IsSortedBy (λ p q. is_lt (slice_cmp nat_cmp (cut bytes p) (cut bytes q))) sorted
    → parts ≡ dedup (same_part bytes) sorted → IsRising (map (cut bytes) parts) × (map (cut bytes) parts ≡ rising_of (map (cut bytes) old))
made bytes old sorted parts perm up is =
    let given = map (cut bytes) old in
    let strings = map (cut bytes) sorted in
    let moved : IsPermutation given strings = IsPermutation-map (cut bytes) old sorted perm in
    let back = IsPermutation-sym given strings moved in
    let once : map (cut bytes) parts ≡ dedup bytes_eq strings = ap (map (cut bytes)) is ∙ kept bytes sorted in
    let rising : IsRising (dedup bytes_eq strings) = rising_from_strict (dedup bytes_eq strings) (IsStrictlySortedBy-dedup nat_list_cmp_total texts_ties strings (sorted_strings (cut bytes) sorted up)) in
    let same : (z : List ℕ) → Contains (dedup bytes_eq strings) z ↔ Contains (rising_of given) z = λ z. (
      λ h. (same_strings given z).1 (Contains-permutation strings given z back (Contains-from_dedup bytes_eq strings z h)),
      λ h. Contains-dedup nat_list_eq_equiv exact strings z (Contains-permutation given strings z moved ((same_strings given z).0 h)),
    ) in
    let P : List (List ℕ) → Type 0 = λ l. IsRising l in
    (subst P (sym once) rising, once ∙ one_list (dedup bytes_eq strings) (rising_of given) rising (rises given) same)

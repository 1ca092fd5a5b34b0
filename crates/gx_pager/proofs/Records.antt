-- The record of a unit's pages.
use Rattle.std.proofs.Common.{◌≡◌, inl, inr, ℕ, ◌+◌, ◌^◌, ◌<◌, ◌≤◌, ◌==◌, ◌≢◌, Bool, true, false, cond, is_some, List, [], ◌∷◌, ◌++◌, length, Option, Some, None, Box, refl, sym, ◌∙◌, ap, subst, arith}
use Rattle.std.specs.declared.alloc.Global.{Global}
use Rattle.std.specs.Ordering.{nat_cmp, is_eq}
use Rattle.std.specs.declared.cmp.Ordering.{Ordering}
use Rattle.std.specs.declared.cmp.Ordering.TheVariants.{Less, Equal, Greater}
use Rattle.std.specs.BTreeMap.{is_at}
use Rattle.std.specs.Map.{lookup, keys_of}
use Rattle.std.specs.List.{AllByRecursion}
use Rattle.std.specs.List.Sorted.{IsStrictlySortedBy}
use Rattle.std.specs.Cmp.{nat_cmp_is}
use Rattle.std.proofs.lemmas.Bool.{cases_eq}
use Rattle.std.proofs.lemmas.Grind.{common_steps}
use Rattle.gx_bytes.specs.Fields.{le64}
use Rattle.gx_log.specs.Records.{Record, laid, laid_all, page_in, record_of}
use Rattle.gx_log.proofs.Laying.{laid_all_push, lay_one, cmp_same, lt_or_gt}
use Rattle.gx_pager.specs.Layers.{over}

abbrev pub Pages : Type 0
Pages = List (ℕ × Box (List ℕ) Global)

less : (a b : ℕ) → nat_cmp a b ≡ Less → a < b
less a b is = elim (cases_eq a b) [
  | inl same ↦ let equal : Equal ≡ nat_cmp a b = nat_cmp_is a b Equal same in let wrong : Equal ≡ Less = equal ∙ is in absurd (apart wrong)
  | inr other ↦ elim (lt_or_gt a b other) [
    | inl below ↦ below
    | inr above ↦ let greater : Greater ≡ nat_cmp a b = nat_cmp_is a b Greater above in let wrong : Greater ≡ Less = greater ∙ is in absurd (apart' wrong)
  ]
]
  where
    apart : Equal ≡ Less → ⊥
    apart same = cc

    apart' : Greater ≡ Less → ⊥
    apart' same = cc

rising : (keys : List ℕ) (from to : ℕ) → from ≤ to → AllByRecursion (λ k. from ≤ k) keys → AllByRecursion (λ k. k < to) keys → IsStrictlySortedBy nat_cmp keys → length keys + from ≤ to
unfolding IsStrictlySortedBy
rising [] from to le above below sorted = omega (arith, le)
rising (k ∷ keys) from to le above below sorted =
    omega (arith, above.0, rising keys (k + 1) to (omega (arith, below.0)) (all_above k keys sorted.0) below.1 sorted.1)
  where
    all_above : (k : ℕ) (keys : List ℕ) → AllByRecursion (λ y. nat_cmp k y ≡ Less) keys → AllByRecursion (λ y. k + 1 ≤ y) keys
    all_above k [] all = tt
    all_above k (y ∷ keys) all = (omega (arith, less k y all.0), all_above k keys all.1)

-- each entry is found
pub all_low : (entries : Pages) (most : ℕ) → ((n : ℕ) → is_some (lookup (is_at (nat_cmp n)) entries) ≡ true → n < most) → AllByRecursion (λ k. k < most) (keys_of entries)
all_low [] most low = tt
all_low (e ∷ entries) most low = (low e.0 (first e.0 e.1 entries), all_low entries most (λ n some. low n (later n e.0 e.1 entries some)))
  where
    first : (k : ℕ) (bytes : Box (List ℕ) Global) (rest : Pages) → is_some (lookup (is_at (nat_cmp k)) ((k, bytes) ∷ rest)) ≡ true
    first k bytes rest =
        let same : is_eq (nat_cmp k k) ≡ true = ap is_eq (sym (nat_cmp_is k k Equal refl)) in
        ap (λ (b : Bool). is_some (cond b (Some bytes) (lookup (is_at (nat_cmp k)) rest))) same

    or_some : (b : Bool) (bytes : Box (List ℕ) Global) (o : Option (Box (List ℕ) Global)) → is_some o ≡ true → is_some (cond b (Some bytes) o) ≡ true
    or_some true bytes o some = refl
    or_some false bytes o some = some

    later : (n k : ℕ) (bytes : Box (List ℕ) Global) (rest : Pages) → is_some (lookup (is_at (nat_cmp n)) rest) ≡ true → is_some (lookup (is_at (nat_cmp n)) ((k, bytes) ∷ rest)) ≡ true
    later n k bytes rest some = or_some (is_at (nat_cmp n) k) bytes (lookup (is_at (nat_cmp n)) rest) some

all_zero : (keys : List ℕ) → AllByRecursion (λ k. 0 ≤ k) keys
all_zero [] = tt
all_zero (k ∷ keys) = (omega arith, all_zero keys)

length_keys : (entries : Pages) → length (keys_of entries) ≡ length entries
length_keys [] = refl
length_keys (e ∷ entries) = let more = length_keys entries in omega (arith, more)

-- a unit has at most 2^50 pages
pub few : (entries : Pages) → ((n : ℕ) → is_some (lookup (is_at (nat_cmp n)) entries) ≡ true → n < 2 ^ 50) → IsStrictlySortedBy nat_cmp (keys_of entries) → length entries ≤ 2 ^ 50
few entries low sorted =
    omega (arith, length_keys entries, rising (keys_of entries) 0 (2 ^ 50) (omega arith) (all_zero (keys_of entries)) (all_low entries (2 ^ 50) low) sorted)

lookup_none : (entries : Pages) (page : ℕ) → AllByRecursion (λ y. nat_cmp page y ≡ Less) (keys_of entries) → lookup (is_at (nat_cmp page)) entries ≡ None
lookup_none [] page all = refl
lookup_none (e ∷ entries) page all =
    ap (λ (o : Ordering). cond (is_eq o) (Some e.1) (lookup (is_at (nat_cmp page)) entries)) all.0 ∙ lookup_none entries page all.1

pub unequal : (a b : ℕ) → (a ≡ b → ⊥) → (a == b) ≡ false
unequal a b other = grind (arith, common_steps, other)

-- the record's entries, laid over what stood there
pub laid_record : (entries : Pages) → IsStrictlySortedBy nat_cmp (keys_of entries) → AllByRecursion (λ k. k < 2 ^ 50) (keys_of entries)
    → (before : Option (List ℕ)) (page : ℕ) → laid before page (record_of entries) ≡ over (page_in (lookup (is_at (nat_cmp page)) entries)) before
unfolding IsStrictlySortedBy
laid_record [] sorted low before page = refl
laid_record (e ∷ entries) sorted low before page =
    let here : Option (List ℕ) = cond (is_eq (nat_cmp e.0 page)) (Some e.1.value) before in
    let one : here ≡ laid before page ((le64 e.0, e.1.value) ∷ []) = lay_one before here page e.0 (le64 e.0) e.1.value e.1.value refl low.0 refl refl in
    let rest = laid_record entries sorted.1 low.1 here page in
    ap (λ (o : Option (List ℕ)). laid o page (record_of entries)) (sym one) ∙ rest ∙ joined e.0 e.1 entries before page sorted.0
  where
    joined : (k : ℕ) (kept : Box (List ℕ) Global) (entries : Pages) (before : Option (List ℕ)) (page : ℕ) → AllByRecursion (λ y. nat_cmp k y ≡ Less) (keys_of entries)
        → over (page_in (lookup (is_at (nat_cmp page)) entries)) (cond (is_eq (nat_cmp k page)) (Some kept.value) before)
        ≡ over (page_in (cond (is_eq (nat_cmp page k)) (Some kept) (lookup (is_at (nat_cmp page)) entries))) before
    joined k kept entries before page all = elim (cases_eq k page) [
      | inl same ↦
          let none : lookup (is_at (nat_cmp page)) entries ≡ None = subst (λ (n : ℕ). lookup (is_at (nat_cmp n)) entries ≡ None) same (lookup_none entries k all) in
          let left : is_eq (nat_cmp k page) ≡ true = ap is_eq (sym (nat_cmp_is k page Equal same)) in
          let right : is_eq (nat_cmp page k) ≡ true = ap is_eq (sym (nat_cmp_is page k Equal (sym same))) in
          ap (λ (o : Option (Box (List ℕ) Global)). over (page_in o) (cond (is_eq (nat_cmp k page)) (Some kept.value) before)) none
          ∙ ap (λ (b : Bool). cond b (Some kept.value) before) left
          ∙ sym (ap (λ (b : Bool). over (page_in (cond b (Some kept) (lookup (is_at (nat_cmp page)) entries))) before) right)
      | inr other ↦
          let left : is_eq (nat_cmp k page) ≡ false = cmp_same k page ∙ unequal k page other in
          let right : is_eq (nat_cmp page k) ≡ false = cmp_same page k ∙ unequal page k (λ same. other (sym same)) in
          ap (λ (b : Bool). over (page_in (lookup (is_at (nat_cmp page)) entries)) (cond b (Some kept.value) before)) left
          ∙ sym (ap (λ (b : Bool). over (page_in (cond b (Some kept) (lookup (is_at (nat_cmp page)) entries))) before) right)
    ]

-- one record more
pub laid_more : (records : List Record) (entries : Pages) (overlay : ℕ → Option (List ℕ)) → IsStrictlySortedBy nat_cmp (keys_of entries)
    → ((n : ℕ) → is_some (lookup (is_at (nat_cmp n)) entries) ≡ true → n < 2 ^ 50)
    → ((before : Option (List ℕ)) (n : ℕ) → laid_all before n records ≡ over (overlay n) before)
    → (before : Option (List ℕ)) (n : ℕ) → laid_all before n (records ++ record_of entries ∷ []) ≡ over (over (page_in (lookup (is_at (nat_cmp n)) entries)) (overlay n)) before
laid_more records entries overlay sorted low laid_so before n =
    laid_all_push before n records (record_of entries)
    ∙ ap (λ (o : Option (List ℕ)). laid o n (record_of entries)) (laid_so before n)
    ∙ laid_record entries sorted (all_low entries (2 ^ 50) low) (over (overlay n) before) n
    ∙ sym (assoc (page_in (lookup (is_at (nat_cmp n)) entries)) (overlay n) before)
  where
    assoc : (a b c : Option (List ℕ)) → over (over a b) c ≡ over a (over b c)
    assoc None b c = refl
    assoc (Some page) b c = refl

at_last : {X : Type 0} (P : ℕ → Type 0) (done rest : List (ℕ × X)) (k : ℕ) (v : X) → AllByRecursion P (keys_of (done ++ (k, v) ∷ rest)) → P k
at_last P [] rest k v all = all.0
at_last P (e ∷ done) rest k v all = at_last P done rest k v all.1

-- an entry of a sorted list is found, and those before it have other keys
pub found_at : {X : Type 0} (done rest : List (ℕ × X)) (k : ℕ) (v : X) → IsStrictlySortedBy nat_cmp (keys_of (done ++ (k, v) ∷ rest))
    → (lookup (is_at (nat_cmp k)) (done ++ (k, v) ∷ rest) ≡ Some v) × AllByRecursion (λ e. e.0 ≢ k) done
unfolding IsStrictlySortedBy
found_at [] rest k v sorted =
    let same : is_eq (nat_cmp k k) ≡ true = ap is_eq (sym (nat_cmp_is k k Equal refl)) in
    (ap (λ (b : Bool). cond b (Some v) (lookup (is_at (nat_cmp k)) rest)) same, tt)
found_at (e ∷ done) rest k v sorted =
    let below : e.0 < k = less e.0 k (at_last (λ (y : ℕ). nat_cmp e.0 y ≡ Less) done rest k v sorted.0) in
    let test : is_eq (nat_cmp k e.0) ≡ false = cmp_same k e.0 ∙ unequal k e.0 (λ same. omega (arith, below, same)) in
    let more = found_at done rest k v sorted.1 in
    (ap (λ (b : Bool). cond b (Some e.1) (lookup (is_at (nat_cmp k)) (done ++ (k, v) ∷ rest))) test ∙ more.0, ((λ same. omega (arith, below, same)), more.1))

-- How images are laid over others, entry by entry and record by record.
use Rattle.std.proofs.Common.{◌≡◌, ◌⊎◌, inl, inr, ◌<◌, ◌^◌, ◌≤◌, ℕ, ◌+◌, ◌*◌, List, [], ◌∷◌, ◌++◌, Option, Some, Bool, true, false, cond, nat_lt, ◌==◌, ◌&&◌, take, drop, refl, sym, ◌∙◌, ap, arith, eq-eqb}
use Rattle.std.specs.Prelude.{Box}
use Rattle.std.specs.declared.alloc.Global.{Global}
use Rattle.std.specs.Ordering.{nat_cmp, is_eq}
use Rattle.std.specs.Cmp.{nat_cmp_is}
use Rattle.std.specs.declared.cmp.Ordering.TheVariants.{Less, Equal, Greater}
use Rattle.std.proofs.lemmas.Bool.{cases_eq}
use Rattle.std.proofs.lemmas.Bool.Decides.{nat_tests}
use Rattle.std.proofs.lemmas.List.{drop-drop}
use Rattle.gx_bytes.specs.Fields.{le64, of64, of64-le64}
use Rattle.gx_log.specs.Places.{cut}
use Rattle.gx_log.proofs.Cutting.{cut_more}
use Rattle.gx_log.specs.Records.{Entry, Record, laid, laid_all, page_in}

pub laid_push : (before : Option (List ℕ)) (page : ℕ) (entries : Record) (entry : Entry) → laid before page (entries ++ entry ∷ []) ≡ laid (laid before page entries) page (entry ∷ [])
laid_push before page [] entry = refl
laid_push before page (e ∷ entries) entry = laid_push (cond (nat_lt (of64 e.0) (2 ^ 50) && (of64 e.0 == page)) (Some e.1) before) page entries entry

pub laid_all_push : (before : Option (List ℕ)) (page : ℕ) (records : List Record) (entries : Record) → laid_all before page (records ++ entries ∷ []) ≡ laid (laid_all before page records) page entries
laid_all_push before page [] entries = refl
laid_all_push before page (r ∷ records) entries = laid_all_push (laid before page r) page records entries

pub cases_bool : (b : Bool) → (b ≡ true) ⊎ (b ≡ false)
cases_bool true = inl refl
cases_bool false = inr refl

pub lt_or_gt : (k q : ℕ) → (k ≡ q → ⊥) → (k < q) ⊎ (q < k)
lt_or_gt k q apart = elim (cases_bool (nat_lt k q)) [
  | inl below ↦ inl (grind (arith, nat_tests, below))
  | inr not_below ↦ inr (grind (arith, nat_tests, not_below, apart))
]

-- the order of numbers tells the same as their test
pub cmp_same : (k q : ℕ) → is_eq (nat_cmp k q) ≡ (k == q)
cmp_same k q = elim (cases_eq k q) [
  | inl same ↦
      let test : (k == q) ≡ true = eq-eqb k q same in
      ap is_eq (sym (nat_cmp_is k q Equal same)) ∙ sym test
  | inr apart ↦
      let test : (k == q) ≡ false = grind (arith, nat_tests, apart) in
      elim (lt_or_gt k q apart) [
        | inl below ↦ ap is_eq (sym (nat_cmp_is k q Less below)) ∙ sym test
        | inr above ↦ ap is_eq (sym (nat_cmp_is k q Greater above)) ∙ sym test
      ]
]

in_chosen : (b : Bool) (there : Box (List ℕ) Global) (before : Option (Box (List ℕ) Global)) → page_in (cond b (Some there) before) ≡ cond b (Some there.value) (page_in before)
in_chosen true there before = refl
in_chosen false there before = refl

-- one entry laid over what stood there
pub lay_one : (before got : Option (List ℕ)) (page number : ℕ) (field bytes there : List ℕ) → field ≡ le64 number → number < 2 ^ 50 → there ≡ bytes
    → got ≡ cond (is_eq (nat_cmp number page)) (Some there) before → got ≡ laid before page ((field, bytes) ∷ [])
lay_one before got page number field bytes there is small same update =
    let reads : of64 field ≡ number = ap of64 is ∙ of64-le64 number (omega (arith, small)) in
    let below : nat_lt number (2 ^ 50) ≡ true = grind (arith, nat_tests, small) in
    let test : (nat_lt (of64 field) (2 ^ 50) && (of64 field == page)) ≡ (number == page) =
    ap (λ (n : ℕ). nat_lt n (2 ^ 50) && (n == page)) reads ∙ ap (λ (b : Bool). b && (number == page)) below in
    update ∙ ap (λ (b : Bool). cond b (Some there) before) (cmp_same number page ∙ sym test)
    ∙ ap (λ (l : List ℕ). cond (nat_lt (of64 field) (2 ^ 50) && (of64 field == page)) (Some l) before) same

-- the same of pages in boxes
pub lay_boxed : (before got : Option (Box (List ℕ) Global)) (page number : ℕ) (field bytes : List ℕ) (there : Box (List ℕ) Global) → field ≡ le64 number → number < 2 ^ 50
    → there.value ≡ bytes → got ≡ cond (is_eq (nat_cmp number page)) (Some there) before → page_in got ≡ laid (page_in before) page ((field, bytes) ∷ [])
lay_boxed before got page number field bytes there is small same update =
    lay_one (page_in before) (page_in got) page number field bytes there.value is small same (ap page_in update ∙ in_chosen (is_eq (nat_cmp number page)) there before)

-- an entry of a page from 2^50 on is passed by
pub lay_none : (before : Option (List ℕ)) (page number : ℕ) (field bytes : List ℕ) → field ≡ le64 number → number < 2 ^ 64 → 2 ^ 50 ≤ number → before ≡ laid before page ((field, bytes) ∷ [])
lay_none before page number field bytes is fits great =
    let reads : of64 field ≡ number = ap of64 is ∙ of64-le64 number fits in
    let above : nat_lt number (2 ^ 50) ≡ false = grind (arith, nat_tests, great) in
    let test : (nat_lt (of64 field) (2 ^ 50) && (of64 field == page)) ≡ false =
    ap (λ (n : ℕ). nat_lt n (2 ^ 50) && (n == page)) reads ∙ ap (λ (b : Bool). b && (number == page)) above in
    ap (λ (b : Bool). cond b (Some bytes) before) (sym test)

-- one entry more
pub lay_step : (log : List ℕ) (from k at page : ℕ) (before now new : Option (List ℕ)) → at ≡ from + 8200 * k → now ≡ laid before page (cut 8 8192 k (drop from log))
    → new ≡ laid now page ((take 8 (drop at log), take 8192 (drop (at + 8) log)) ∷ []) → new ≡ laid before page (cut 8 8192 (k + 1) (drop from log))
lay_step log from k at page before now new is so_far step =
    let one : drop (8200 * k) (drop from log) ≡ drop at log = drop-drop (8200 * k) from log ∙ ap (λ (n : ℕ). drop n log) (sym is) in
    let place : from + (8200 * k + 8) ≡ at + 8 = omega (arith, is) in
    let two : drop (8200 * k + 8) (drop from log) ≡ drop (at + 8) log = drop-drop (8200 * k + 8) from log ∙ ap (λ (n : ℕ). drop n log) place in
    step ∙ ap (λ (b : Option (List ℕ)). laid b page ((take 8 (drop at log), take 8192 (drop (at + 8) log)) ∷ [])) so_far
    ∙ ap (λ (l : List ℕ). laid (laid before page (cut 8 8192 k (drop from log))) page ((take 8 l, take 8192 (drop (at + 8) log)) ∷ [])) (sym one)
    ∙ ap (λ (l : List ℕ). laid (laid before page (cut 8 8192 k (drop from log))) page ((take 8 (drop (8200 * k) (drop from log)), take 8192 l) ∷ [])) (sym two)
    ∙ sym (laid_push before page (cut 8 8192 k (drop from log)) (take 8 (drop (8200 * k) (drop from log)), take 8192 (drop (8200 * k + 8) (drop from log))))
    ∙ ap (λ (r : Record). laid before page r) (sym (cut_more 8 8192 k (drop from log)))

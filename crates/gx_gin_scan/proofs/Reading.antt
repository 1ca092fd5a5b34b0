-- Reading the rows of keys one by one.
use Rattle.std.proofs.Common.{◌≡◌, ℕ, zero, suc, ◌+◌, ◌≤◌, List, [], ◌∷◌, ◌++◌, map, take, Some, None, sym, ◌∙◌, ap, subst, arith}
use Rattle.std.specs.Prelude.{slice_get}
use Rattle.std.proofs.lemmas.List.{map-append}
use Rattle.gx_words.specs.PageMap.{PageMap}
use Rattle.gx_gin_scan.specs.Gins.{HoldsLists}
use Rattle.gx_gin_scan.specs.Lists.{Lists, rows_under}
use Rattle.gx_gin_scan.specs.Searches.{item_key, lists_of, pages_read}

pub take_got : {X : Type 0} (xs : List X) (i : ℕ) (x : X) → slice_get xs i ≡ Some x → take (i + 1) xs ≡ take i xs ++ x ∷ []
take_got [] i x got = let e : None ≡ Some x = got in cc
take_got (y ∷ xs) zero x got = let e : Some y ≡ Some x = got in let same : y ≡ x = cc in ap (λ (z : _). z ∷ []) same
take_got (y ∷ xs) (suc i) x got =
    let e : suc i + 1 ≡ suc (i + 1) = omega arith in
    rw e (ap (λ (l : List _). y ∷ l) (take_got xs i x got))

pub lists_push : (lists : Lists) (items : List (List ℕ)) (i : ℕ) (item : List ℕ) → slice_get items i ≡ Some item → lists_of lists (take (i + 1) items) ≡ lists_of lists (take i items) ++ rows_under lists (item_key item) ∷ []
lists_push lists items i item got =
    ap (λ (l : List (List ℕ)). lists_of lists l) (take_got items i item got) ∙ map-append (λ (k : List ℕ). rows_under lists (item_key k)) (take i items) (item ∷ [])

-- the same at an equal map and count
pub lists_at : (old new : PageMap) (m n root : ℕ) (lists : Lists) (feet : List ℕ) → new ≡ old → n ≡ m → HoldsLists old m root lists feet → HoldsLists new n root lists feet
lists_at old new m n root lists feet map count held =
    subst (λ (p : PageMap). HoldsLists p n root lists feet) (sym map) (subst (λ (k : ℕ). HoldsLists old k root lists feet) (sym count) held)

abbrev pub Bounds : PageMap → ℕ → ℕ → List (List ℕ) → ℕ → ℕ → Type 0
Bounds now count root keys before later = (lists : Lists) (feet : List ℕ) (held : HoldsLists now count root lists feet) → later ≤ before + pages_read now count root lists feet held keys

pub bounds_at : (old new : PageMap) (m n root : ℕ) (keys : List (List ℕ)) (before later : ℕ) → new ≡ old → n ≡ m → Bounds new n root keys before later → Bounds old m root keys before later
bounds_at old new m n root keys before later map count bounds =
    subst (λ (p : PageMap). Bounds p m root keys before later) map (subst (λ (k : ℕ). Bounds new k root keys before later) count bounds)

reads_append : (now : PageMap) (count root : ℕ) (lists : Lists) (feet : List ℕ) (held : HoldsLists now count root lists feet) (xs ys : List (List ℕ))
    → pages_read now count root lists feet held (xs ++ ys) ≡ pages_read now count root lists feet held xs + pages_read now count root lists feet held ys
reads_append now count root lists feet held [] ys = omega arith
reads_append now count root lists feet held (x ∷ xs) ys = let rest = reads_append now count root lists feet held xs ys in omega (arith, rest)

pub bounds_join : (now : PageMap) (count root : ℕ) (xs ys : List (List ℕ)) (before mid later : ℕ) → Bounds now count root xs before mid → Bounds now count root ys mid later → Bounds now count root (xs ++ ys) before later
bounds_join now count root xs ys before mid later first second = λ lists feet held.
    let a = first lists feet held in
    let b = second lists feet held in
    let both = reads_append now count root lists feet held xs ys in
    omega (arith, a, b, both)

pub bounds_same : (now : PageMap) (count root : ℕ) (xs ys : List (List ℕ)) (before later : ℕ) → xs ≡ ys → Bounds now count root xs before later → Bounds now count root ys before later
bounds_same now count root xs ys before later same bounds = subst (λ (l : List (List ℕ)). Bounds now count root l before later) same bounds

pub keys_push : (items : List (List ℕ)) (i : ℕ) (item : List ℕ) → slice_get items i ≡ Some item → map item_key (take i items) ++ item_key item ∷ [] ≡ map item_key (take (i + 1) items)
keys_push items i item got = sym (ap (λ (l : List (List ℕ)). map item_key l) (take_got items i item got) ∙ map-append item_key (take i items) (item ∷ []))

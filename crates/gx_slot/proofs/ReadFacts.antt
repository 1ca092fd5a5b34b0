-- Slots as they are read, one by one.
use Rattle.std.proofs.Common.{◌≡◌, ◌≢◌, ℕ, ◌+◌, ◌*◌, ◌^◌, ◌<◌, ◌≤◌, zero, suc, List, [], ◌∷◌, ◌++◌, length, take, drop, replicate, slice_set, slice_index, Option, Some, None, IsSome, true, false, Result, Ok, Err, is_err, OnOk, OnErr, refl, sym, ◌∙◌, ap, subst, length-append, arith}
use Rattle.std.proofs.lemmas.List.{append-nil}
use Rattle.gx_bytes.specs.Fields.{le16, le64, of16, paste, length-le16}
use Rattle.gx_slot.specs.Slots.{Slots, packed, taken, growth, joined, slot_of, slots_of, item_at, read, IsSlotPage, with_item, GrowsBy}
use Rattle.gx_slot.proofs.PartFacts.{paste_part}
use Rattle.gx_slot.proofs.SlotFacts.{is_read}
use Rattle.gx_slot.proofs.PutFacts.{Written, written, replicate-add, zero_field}

pub length-slots_of : (page : List ℕ) (n at : ℕ) → length (slots_of page n at) ≡ n
length-slots_of page zero at = refl
length-slots_of page (suc n) at = ap (λ (k : ℕ). suc k) (length-slots_of page n (at + 4))

pub count_read : (page : List ℕ) (n : ℕ) → n ≡ of16 (take 2 (drop 2 page)) → n ≡ length (read page).items
unfolding read
count_read page n e = e ∙ sym (length-slots_of page (of16 (take 2 (drop 2 page))) 16)

slot_within : (page : List ℕ) (n at k : ℕ) → k < n → item_at (slots_of page n at) k ≡ slot_of page (at + 4 * k)
slot_within page zero at k l = absurd (omega arith)
slot_within page (suc n) at zero l = let e : at + 4 * 0 ≡ at = omega arith in ap (λ (x : ℕ). slot_of page x) (sym e)
slot_within page (suc n) at (suc k) l =
    let e : at + 4 + 4 * k ≡ at + 4 * suc k = omega arith in
    slot_within page n (at + 4) k (omega arith) ∙ ap (λ (x : ℕ). slot_of page x) e

pub item_past : (items : List (Option (List ℕ))) (k : ℕ) → length items ≤ k → item_at items k ≡ None
item_past [] k l = refl
item_past (x ∷ xs) zero l = absurd (omega arith)
item_past (x ∷ xs) (suc k) l = item_past xs k (omega arith)

pub item_read : (page : List ℕ) (k : ℕ) → k < length (read page).items → item_at (read page).items k ≡ slot_of page (16 + 4 * k)
unfolding read
item_read page k l =
    let n : ℕ = of16 (take 2 (drop 2 page)) in
    slot_within page n 16 k (omega (arith, length-slots_of page n 16))

pub item_set : (items : List (Option (List ℕ))) (k : ℕ) (x : Option (List ℕ)) → k < length items → item_at (slice_set items k x) k ≡ x
item_set [] k x l = absurd (omega arith)
item_set (y ∷ ys) zero x l = refl
item_set (y ∷ ys) (suc k) x l = item_set ys k x (omega arith)

pub item_kept : (items : List (Option (List ℕ))) (j k : ℕ) (x : Option (List ℕ)) → k ≢ j → item_at (slice_set items j x) k ≡ item_at items k
item_kept [] j k x n = refl
item_kept (y ∷ ys) zero zero x n = absurd (n refl)
item_kept (y ∷ ys) zero (suc k) x n = refl
item_kept (y ∷ ys) (suc j) zero x n = refl
item_kept (y ∷ ys) (suc j) (suc k) x n = item_kept ys j k x (λ e. n (ap (λ (m : ℕ). suc m) e))

pub kind_read : (page : List ℕ) → (read page).kind ≡ slice_index page 0
unfolding read
kind_read page = refl

pub level_read : (page : List ℕ) → (read page).level ≡ slice_index page 1
unfolding read
level_read page = refl

zero_long : le64 0 ≡ 0 ∷ 0 ∷ 0 ∷ 0 ∷ 0 ∷ 0 ∷ 0 ∷ 0 ∷ []
unfolding le64
zero_long = refl

zeros_open : (n m : ℕ) → n ≡ 16 + m → replicate {A = ℕ} n 0 ≡ joined ((0 ∷ 0 ∷ []) ∷ le16 0 ∷ le16 0 ∷ le16 0 ∷ le64 0 ∷ [] ∷ replicate m 0 ∷ [] ∷ [])
zeros_open n m e = ap (λ (k : ℕ). replicate {A = ℕ} k 0) e ∙ replicate-add 16 m ∙ (rw (zero_field, zero_long, append-nil (replicate {A = ℕ} m 0)) refl)

pub begun : (old p1 new : List ℕ) (kind level : ℕ) → old ≡ replicate 8192 0 → kind < 2 ^ 8 → level < 2 ^ 8 → p1 ≡ paste old 0 (kind ∷ level ∷ []) → new ≡ paste p1 4 (le16 8192)
    → Written new (record { kind = kind; level = level; next = 0; items = [] })
begun old p1 new kind level o k l e1 e2 =
    let a0 = o ∙ zeros_open 8192 8176 refl in
    let a1 : p1 ≡ joined ((kind ∷ level ∷ []) ∷ le16 0 ∷ le16 0 ∷ le16 0 ∷ le64 0 ∷ [] ∷ replicate 8176 0 ∷ [] ∷ []) =
    e1 ∙ ap (λ (x : List ℕ). paste x 0 (kind ∷ level ∷ [])) a0
    ∙ paste_part [] (0 ∷ 0 ∷ []) (le16 0 ∷ le16 0 ∷ le16 0 ∷ le64 0 ∷ [] ∷ replicate 8176 0 ∷ [] ∷ []) (kind ∷ level ∷ []) 0 refl refl in
    let a2 : new ≡ joined ((kind ∷ level ∷ []) ∷ le16 0 ∷ le16 8192 ∷ le16 0 ∷ le64 0 ∷ [] ∷ replicate 8176 0 ∷ [] ∷ []) =
    e2 ∙ ap (λ (x : List ℕ). paste x 4 (le16 8192)) a1
    ∙ paste_part ((kind ∷ level ∷ []) ∷ le16 0 ∷ []) (le16 0) (le16 0 ∷ le64 0 ∷ [] ∷ replicate 8176 0 ∷ [] ∷ []) (le16 8192) 4
    (omega (arith, length-le16 0)) (length-le16 0 ∙ sym (length-le16 8192)) in
    written new (record { kind = kind; level = level; next = 0; items = [] }) a2 (record { kind = k; level = l; next = omega arith; room = omega arith })

taken-cons : (x : Option (List ℕ)) (xs : List (Option (List ℕ))) → taken (x ∷ xs) ≡ growth x + taken xs
taken-cons None xs = omega arith
taken-cons (Some b) xs = omega (arith, length-append (packed xs) b)

taken_front : (xs : List (Option (List ℕ))) (k : ℕ) → k < length xs → taken (take k xs) + growth (item_at xs k) ≤ taken xs
taken_front [] k l = absurd (omega arith)
taken_front (x ∷ xs) zero l = omega (arith, taken-cons x xs)
taken_front (x ∷ xs) (suc k) l = let h = taken_front xs k (omega arith) in omega (arith, h, taken-cons x xs, taken-cons x (take k xs))

pub too_much : (xs : List (Option (List ℕ))) (k : ℕ) → k < length xs → 8176 < taken (take k xs) + growth (item_at xs k) → 8176 < taken xs
too_much xs k l h = let f = taken_front xs k l in omega arith

pub one_more : (xs : List (Option (List ℕ))) (k : ℕ) → k < length xs → take k xs ++ item_at xs k ∷ [] ≡ take (k + 1) xs
one_more [] k l = absurd (omega arith)
one_more (x ∷ xs) zero l = refl
one_more (x ∷ xs) (suc k) l = let e : suc k + 1 ≡ suc (k + 1) = omega arith in rw e (ap (λ (ys : List (Option (List ℕ))). x ∷ ys) (one_more xs k (omega arith)))

pub all_of : (xs : List (Option (List ℕ))) (k : ℕ) → length xs ≤ k → take k xs ≡ xs
all_of [] zero l = refl
all_of [] (suc k) l = refl
all_of (x ∷ xs) zero l = absurd (omega arith)
all_of (x ∷ xs) (suc k) l = ap (λ (ys : List (Option (List ℕ))). x ∷ ys) (all_of xs k (omega arith))

pub set_past : (xs : List (Option (List ℕ))) (k : ℕ) (x : Option (List ℕ)) → length xs ≤ k → slice_set xs k x ≡ xs
set_past [] k x l = refl
set_past (y ∷ ys) zero x l = absurd (omega arith)
set_past (y ∷ ys) (suc k) x l = ap (λ (zs : List (Option (List ℕ))). y ∷ zs) (set_past ys k x (omega arith))

pub taken_set : (xs : List (Option (List ℕ))) (k : ℕ) (x : Option (List ℕ)) → k < length xs → taken (slice_set xs k x) + growth (item_at xs k) ≡ taken xs + growth x
taken_set [] k x l = absurd (omega arith)
taken_set (y ∷ ys) zero x l = omega (arith, taken-cons x ys, taken-cons y ys)
taken_set (y ∷ ys) (suc k) x l = let h = taken_set ys k x (omega arith) in omega (arith, h, taken-cons y ys, taken-cons y (slice_set ys k x))

pub there : (xs : List (Option (List ℕ))) (k : ℕ) → IsSome (item_at xs k) → k < length xs
there [] k s = cc
there (x ∷ xs) zero s = omega arith
there (x ∷ xs) (suc k) s = let h = there xs k s in omega arith

grows : (o : Option (List ℕ)) (xs ys len free : ℕ) → IsSome o → ys + growth o ≡ xs + (4 + len) → 8176 < ys → free + xs ≡ 8176 → GrowsBy o len free
grows None xs ys len free s e l f = cc
grows (Some b) xs ys len free s e l f = omega arith

pub refused : (xs : List (Option (List ℕ))) (k free : ℕ) (item : List ℕ) → IsSome (item_at xs k) → 8176 < taken (slice_set xs k (Some item)) → free + taken xs ≡ 8176 → GrowsBy (item_at xs k) (length item) free
refused xs k free item s l f =
    grows (item_at xs k) (taken xs) (taken (slice_set xs k (Some item))) (length item) free s (taken_set xs k (Some item) (there xs k s)) l f

some_growth : (o : Option (List ℕ)) → 4 ≤ growth o
some_growth None = omega arith
some_growth (Some b) = omega arith

pub emptied : (xs : List (Option (List ℕ))) (k : ℕ) → IsSome (item_at xs k) → taken xs ≤ 8176 → 8176 < taken (slice_set xs k None) → ⊥
emptied xs k s r l = absurd (omega (arith, taken_set xs k None (there xs k s), some_growth (item_at xs k)))

-- Why a page isn't a slot page.

pub other_kind : (page : List ℕ) (kind found : ℕ) → found ≡ slice_index page 0 → found ≢ kind → ¬ IsSlotPage page kind
other_kind page kind found e n = λ h.
    let r = is_read page h.0 h.1 h.2 in
    n (e ∙ sym (kind_read page) ∙ ap (λ (s : Slots). s.kind) r ∙ h.3)

pub too_many : (page : List ℕ) (kind : ℕ) → 2044 < length (read page).items → ¬ IsSlotPage page kind
too_many page kind l = λ h.
    let r = is_read page h.0 h.1 h.2 in
    let n = ap (λ (s : Slots). length s.items) r in
    let f = h.2.room in
    absurd (omega arith)

pub err_part : {T E P : Type 0} (r : Result T E) → is_err r ≡ true → OnErr r P → P
err_part (Ok x) e h = cc
err_part (Err x) e h = h

pub ok_part : {T E P : Type 0} (r : Result T E) → is_err r ≡ false → OnOk r P → P
ok_part (Ok x) e h = h
ok_part (Err x) e h = cc

pub begun_is : (page : List ℕ) (r s : Slots) (next : ℕ) → r ≡ record { kind = slice_index page 0; level = slice_index page 1; next = 0; items = [] } → next ≡ (read page).next
    → s ≡ record r { next = next } → s ≡ record (read page) { items = [] }
unfolding read
begun_is page r s next e f g = g ∙ (rw (e, f) refl)

pub refused_at : (xs : List (Option (List ℕ))) (k : ℕ) (base s : Slots) (o : Option (List ℕ)) → k < length xs → s ≡ record base { items = take k xs } → o ≡ item_at xs k
    → 8176 < taken s.items + growth o → 8176 < taken xs
refused_at xs k base s o l e f h = too_much xs k l (rw (e, f) at h)

pub more_at : (xs : List (Option (List ℕ))) (k : ℕ) (base s new : Slots) (o : Option (List ℕ)) → k < length xs → s ≡ record base { items = take k xs } → o ≡ item_at xs k
    → new ≡ with_item s o → new ≡ record base { items = take (k + 1) xs }
more_at xs k base s new o l e f g = g ∙ (rw (e, f) (ap (λ (ys : List (Option (List ℕ))). record base { items = ys }) (one_more xs k l)))

pub emptied_at : (xs ys : List (Option (List ℕ))) (k : ℕ) → xs ≡ ys → IsSome (item_at ys k) → taken xs ≤ 8176 → 8176 < taken (slice_set xs k None) → ⊥
emptied_at xs ys k e s r l = emptied xs k (let P : List (Option (List ℕ)) → Type 0 = λ zs. IsSome (item_at zs k) in subst P (sym e) s) r l

pub refused_in : (xs ys : List (Option (List ℕ))) (k free : ℕ) (item : List ℕ) → xs ≡ ys → IsSome (item_at ys k) → 8176 < taken (slice_set xs k (Some item)) → free + taken ys ≡ 8176 → GrowsBy (item_at ys k) (length item) free
refused_in xs ys k free item e s l f = refused ys k free item s (let P : List (Option (List ℕ)) → Type 0 = λ zs. 8176 < taken (slice_set zs k (Some item)) in subst P e l) f

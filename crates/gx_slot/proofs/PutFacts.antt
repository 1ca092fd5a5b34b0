-- What the writes make of a spelled page.
use Rattle.std.proofs.Common.{◌≡◌, ℕ, ◌+◌, ◌-◌, ◌*◌, ◌^◌, ◌<◌, ◌≤◌, zero, suc, List, [], ◌∷◌, ◌++◌, length, replicate, Option, Some, None, refl, sym, ◌∙◌, ap, append_assoc, length-append, arith}
use Rattle.std.proofs.lemmas.List.{append-nil, length-replicate}
use Rattle.gx_bytes.specs.Fields.{le16, le64, paste, length-le16, length-le64}
use Rattle.gx_slot.specs.Slots.{Slots, packed, entries, taken, joined, parts, spelling, Fits, read, IsSpelled, with_item, growth}
use Rattle.gx_slot.proofs.PartFacts.{paste_part}
use Rattle.gx_slot.proofs.SlotFacts.{is_read, is_spelled, length-entries}

-- both facts on a page that was written
pub record Written (page : List ℕ) (s : Slots) : Type 0 where
  pub reads : read page ≡ s
  pub spelled : IsSpelled page

pub written : (page : List ℕ) (s : Slots) → page ≡ joined (parts s) → Fits s → Written page s
unfolding spelling
written page s e f = record { reads = is_read page s e f; spelled = is_spelled page s e f }

pub put_next : (page new : List ℕ) (next : ℕ) → IsSpelled page → next < 2 ^ 64 → new ≡ paste page 8 (le64 next) → Written new (record (read page) { next = next })
unfolding spelling
put_next page new next h l e =
    let s : Slots = read page in
    let head : List ℕ = s.kind ∷ s.level ∷ [] in
    let c : List ℕ = le16 (length s.items) in
    let st : List ℕ = le16 (8192 - length (packed s.items)) in
    let p : new ≡ joined (parts (record s { next = next })) =
    e ∙ ap (λ (x : List ℕ). paste x 8 (le64 next)) h.is
    ∙ paste_part (head ∷ c ∷ st ∷ le16 0 ∷ []) (le64 s.next) (entries 8192 s.items ∷ replicate (8176 - taken s.items) 0 ∷ packed s.items ∷ []) (le64 next) 8
    (omega (arith, length-le16 (length s.items), length-le16 (8192 - length (packed s.items)), length-le16 0)) (length-le64 s.next ∙ sym (length-le64 next)) in
    let f = h.fits in
    written new (record s { next = next }) p (record { kind = f.kind; level = f.level; next = l; room = f.room })

pub replicate-add : (a b : ℕ) → replicate {A = ℕ} (a + b) 0 ≡ replicate {A = ℕ} a 0 ++ replicate {A = ℕ} b 0
replicate-add zero b = let e : 0 + b ≡ b = omega arith in rw e refl
replicate-add (suc a) b = let e : suc a + b ≡ suc (a + b) = omega arith in rw e (ap (λ (xs : List ℕ). 0 ∷ xs) (replicate-add a b))

entries-append : (end : ℕ) (xs : List (Option (List ℕ))) (x : Option (List ℕ)) → entries end (xs ++ x ∷ []) ≡ entries end xs ++ entries (end - length (packed xs)) (x ∷ [])
entries-append end [] x = let e : end - 0 ≡ end = omega arith in ap (λ (n : ℕ). entries n (x ∷ [])) (sym e)
entries-append end (None ∷ xs) x = rw (entries-append end xs x) (simp append_assoc)
entries-append end (Some b ∷ xs) x =
    let e : end - length b - length (packed xs) ≡ end - length (packed xs ++ b) = omega (arith, length-append (packed xs) b) in
    rw (entries-append (end - length b) xs x, e) (simp append_assoc)

packed-append : (xs : List (Option (List ℕ))) (x : Option (List ℕ)) → packed (xs ++ x ∷ []) ≡ packed (x ∷ []) ++ packed xs
packed-append [] x = sym (append-nil (packed (x ∷ [])))
packed-append (None ∷ xs) x = packed-append xs x
packed-append (Some b ∷ xs) x = rw (packed-append xs x) (append_assoc (packed (x ∷ [])) (packed xs) b)

one_taken : (x : Option (List ℕ)) → growth x ≡ 4 + length (packed (x ∷ []))
one_taken None = refl
one_taken (Some b) = refl

more_taken : (xs : List (Option (List ℕ))) (x : Option (List ℕ)) → taken (xs ++ x ∷ []) ≡ taken xs + growth x
more_taken xs x =
    let p : length (packed (xs ++ x ∷ [])) ≡ length (packed (x ∷ [])) + length (packed xs) =
    ap (λ (b : List ℕ). length b) (packed-append xs x) ∙ length-append (packed (x ∷ [])) (packed xs) in
    omega (arith, p, one_taken x, length-append xs (x ∷ []))

-- the parts of a page with one more slot
abbrev pub parts_more : Slots → Option (List ℕ) → ℕ → List (List ℕ)
parts_more s x gap =
    (s.kind ∷ s.level ∷ []) ∷ le16 (length s.items + 1) ∷ le16 (8192 - length (packed s.items) - length (packed (x ∷ []))) ∷ le16 0 ∷ le64 s.next
    ∷ entries 8192 s.items ∷ entries (8192 - length (packed s.items)) (x ∷ []) ∷ replicate gap 0 ∷ packed (x ∷ []) ∷ packed s.items ∷ []

spelled_more : (s : Slots) (x : Option (List ℕ)) (gap : ℕ) → taken s.items + growth x + gap ≡ 8176 → joined (parts (with_item s x)) ≡ joined (parts_more s x gap)
spelled_more s x gap e =
    let n : length (s.items ++ x ∷ []) ≡ length s.items + 1 = length-append s.items (x ∷ []) in
    let g : 8176 - taken (s.items ++ x ∷ []) ≡ gap = omega (arith, more_taken s.items x) in
    let p : packed (s.items ++ x ∷ []) ≡ packed (x ∷ []) ++ packed s.items = packed-append s.items x in
    let w : 8192 - length (packed (s.items ++ x ∷ [])) ≡ 8192 - length (packed s.items) - length (packed (x ∷ [])) =
    let q = ap (λ (b : List ℕ). length b) p in omega (arith, q, length-append (packed (x ∷ [])) (packed s.items)) in
    same_joined (s.kind ∷ s.level ∷ []) (le16 (length (s.items ++ x ∷ []))) (le16 (length s.items + 1))
    (le16 (8192 - length (packed (s.items ++ x ∷ [])))) (le16 (8192 - length (packed s.items) - length (packed (x ∷ [])))) (le16 0) (le64 s.next)
    (entries 8192 (s.items ++ x ∷ [])) (entries 8192 s.items) (entries (8192 - length (packed s.items)) (x ∷ []))
    (replicate (8176 - taken (s.items ++ x ∷ [])) 0) (replicate gap 0) (packed (s.items ++ x ∷ [])) (packed (x ∷ [])) (packed s.items)
    (ap (λ (k : ℕ). le16 k) n) (ap (λ (k : ℕ). le16 k) w) (entries-append 8192 s.items x) (ap (λ (k : ℕ). replicate k 0) g) p
  where
    same_joined : (h c c' t t' z n e e1 e2 g g' p p1 p2 : List ℕ) → c ≡ c' → t ≡ t' → e ≡ e1 ++ e2 → g ≡ g' → p ≡ p1 ++ p2
        → joined (h ∷ c ∷ t ∷ z ∷ n ∷ e ∷ g ∷ p ∷ []) ≡ joined (h ∷ c' ∷ t' ∷ z ∷ n ∷ e1 ∷ e2 ∷ g' ∷ p1 ∷ p2 ∷ [])
    same_joined h c c' t t' z n e e1 e2 g g' p p1 p2 a b d f k = rw (a, b, d, f, k) (simp append_assoc)

fits_more : (s : Slots) (x : Option (List ℕ)) (gap : ℕ) → Fits s → taken s.items + growth x + gap ≡ 8176 → Fits (with_item s x)
fits_more s x gap f e =
    record { kind = f.kind; level = f.level; next = f.next; room = omega (arith, more_taken s.items x) }

pub zero_field : le16 0 ≡ 0 ∷ 0 ∷ []
unfolding le16
zero_field = refl

pub add_empty : (page new : List ℕ) (count : ℕ) → IsSpelled page → count ≡ length (read page).items → taken (read page).items + 4 ≤ 8176
    → new ≡ paste page 2 (le16 (count + 1)) → Written new (with_item (read page) None)
unfolding spelling
add_empty page new count h c l e =
    let s : Slots = read page in
    let gap : ℕ = 8176 - taken s.items - 4 in
    let k : taken s.items + 4 + gap ≡ 8176 = omega arith in
    let z : replicate (8176 - taken s.items) 0 ≡ le16 0 ++ (le16 0 ++ replicate gap 0) =
    let n : 8176 - taken s.items ≡ 4 + gap = omega arith in
    ap (λ (m : ℕ). replicate m 0) n ∙ replicate-add 4 gap ∙ (rw zero_field refl) in
    let w : 8192 - length (packed s.items) ≡ 8192 - length (packed s.items) - length (packed (None ∷ [])) = omega arith in
    let p : new ≡ joined (parts_more s None gap) =
    e ∙ ap (λ (x : List ℕ). paste x 2 (le16 (count + 1))) h.is
    ∙ paste_part ((s.kind ∷ s.level ∷ []) ∷ []) (le16 (length s.items))
    (le16 (8192 - length (packed s.items)) ∷ le16 0 ∷ le64 s.next ∷ entries 8192 s.items ∷ replicate (8176 - taken s.items) 0 ∷ packed s.items ∷ [])
    (le16 (count + 1)) 2 refl (length-le16 (length s.items) ∙ sym (length-le16 (count + 1)))
    ∙ regroup (s.kind ∷ s.level ∷ []) (le16 (count + 1)) (le16 (length s.items + 1)) (le16 (8192 - length (packed s.items))) (le16 (8192 - length (packed s.items) - length (packed (None ∷ [])))) (le16 0) (le64 s.next)
    (entries 8192 s.items) (replicate (8176 - taken s.items) 0) (replicate gap 0) (packed s.items)
    (ap (λ (m : ℕ). le16 (m + 1)) c) (ap (λ (m : ℕ). le16 m) w) z in
    written new (with_item s None) (p ∙ sym (spelled_more s None gap k)) (fits_more s None gap h.fits k)
  where
    regroup : (h c c' t t' o n e z g p : List ℕ) → c ≡ c' → t ≡ t' → z ≡ o ++ (o ++ g)
        → joined (h ∷ c ∷ t ∷ o ∷ n ∷ e ∷ z ∷ p ∷ []) ≡ joined (h ∷ c' ∷ t' ∷ o ∷ n ∷ e ∷ (o ++ (o ++ [])) ∷ g ∷ [] ∷ p ∷ [])
    regroup h c c' t t' o n e z g p a b d = rw (a, b, d) (simp append_assoc)

pub add_item : (page bytes p1 p2 p3 p4 new : List ℕ) (count place : ℕ) → IsSpelled page → count ≡ length (read page).items
    → taken (read page).items + (4 + length bytes) ≤ 8176 → place + length bytes + length (packed (read page).items) ≡ 8192
    → p1 ≡ paste page place bytes → p2 ≡ paste p1 (16 + 4 * count) (le16 place) → p3 ≡ paste p2 (16 + 4 * count + 2) (le16 (length bytes))
    → p4 ≡ paste p3 4 (le16 place) → new ≡ paste p4 2 (le16 (count + 1)) → Written new (with_item (read page) (Some bytes))
unfolding spelling
add_item page bytes p1 p2 p3 p4 new count place h c l q e1 e2 e3 e4 e5 =
    let s : Slots = read page in
    let gap : ℕ = 8176 - taken s.items - 4 - length bytes in
    let k : taken s.items + (4 + length bytes) + gap ≡ 8176 = omega arith in
    let head : List ℕ = s.kind ∷ s.level ∷ [] in
    let n : List ℕ = le16 (length s.items) in
    let st : List ℕ = le16 (8192 - length (packed s.items)) in
    let e : List ℕ = entries 8192 s.items in
    let g : List ℕ = replicate gap 0 in
    let b0 : List ℕ = replicate (length bytes) 0 in
    let z : replicate (8176 - taken s.items) 0 ≡ le16 0 ++ (le16 0 ++ (g ++ b0)) =
    let m : 8176 - taken s.items ≡ 4 + (gap + length bytes) = omega arith in
    ap (λ (x : ℕ). replicate x 0) m ∙ replicate-add 4 (gap + length bytes) ∙ ap (λ (x : List ℕ). replicate 4 0 ++ x) (replicate-add gap (length bytes)) ∙ (rw zero_field refl) in
    let le : length e ≡ 4 * length s.items = length-entries 8192 s.items in
    let lg : length g ≡ gap = length-replicate gap 0 in
    let lb : length b0 ≡ length bytes = length-replicate (length bytes) 0 in
    let o : page ≡ joined (head ∷ n ∷ st ∷ le16 0 ∷ le64 s.next ∷ e ∷ le16 0 ∷ le16 0 ∷ g ∷ b0 ∷ packed s.items ∷ []) =
    h.is ∙ opened head n st (le16 0) (le64 s.next) e (replicate (8176 - taken s.items) 0) g b0 (packed s.items) z in
    let a1 : p1 ≡ joined (head ∷ n ∷ st ∷ le16 0 ∷ le64 s.next ∷ e ∷ le16 0 ∷ le16 0 ∷ g ∷ bytes ∷ packed s.items ∷ []) =
    e1 ∙ ap (λ (x : List ℕ). paste x place bytes) o
    ∙ paste_part (head ∷ n ∷ st ∷ le16 0 ∷ le64 s.next ∷ e ∷ le16 0 ∷ le16 0 ∷ g ∷ []) b0 (packed s.items ∷ []) bytes place
    (omega (arith, length-le16 (length s.items), length-le16 (8192 - length (packed s.items)), length-le16 0, length-le64 s.next, le, lg)) lb in
    let a2 : p2 ≡ joined (head ∷ n ∷ st ∷ le16 0 ∷ le64 s.next ∷ e ∷ le16 place ∷ le16 0 ∷ g ∷ bytes ∷ packed s.items ∷ []) =
    e2 ∙ ap (λ (x : List ℕ). paste x (16 + 4 * count) (le16 place)) a1
    ∙ paste_part (head ∷ n ∷ st ∷ le16 0 ∷ le64 s.next ∷ e ∷ []) (le16 0) (le16 0 ∷ g ∷ bytes ∷ packed s.items ∷ []) (le16 place) (16 + 4 * count)
    (omega (arith, length-le16 (length s.items), length-le16 (8192 - length (packed s.items)), length-le16 0, length-le64 s.next, le)) (length-le16 0 ∙ sym (length-le16 place)) in
    let a3 : p3 ≡ joined (head ∷ n ∷ st ∷ le16 0 ∷ le64 s.next ∷ e ∷ le16 place ∷ le16 (length bytes) ∷ g ∷ bytes ∷ packed s.items ∷ []) =
    e3 ∙ ap (λ (x : List ℕ). paste x (16 + 4 * count + 2) (le16 (length bytes))) a2
    ∙ paste_part (head ∷ n ∷ st ∷ le16 0 ∷ le64 s.next ∷ e ∷ le16 place ∷ []) (le16 0) (g ∷ bytes ∷ packed s.items ∷ []) (le16 (length bytes)) (16 + 4 * count + 2)
    (omega (arith, length-le16 (length s.items), length-le16 (8192 - length (packed s.items)), length-le16 0, length-le64 s.next, le, length-le16 place)) (length-le16 0 ∙ sym (length-le16 (length bytes))) in
    let a4 : p4 ≡ joined (head ∷ n ∷ le16 place ∷ le16 0 ∷ le64 s.next ∷ e ∷ le16 place ∷ le16 (length bytes) ∷ g ∷ bytes ∷ packed s.items ∷ []) =
    e4 ∙ ap (λ (x : List ℕ). paste x 4 (le16 place)) a3
    ∙ paste_part (head ∷ n ∷ []) st (le16 0 ∷ le64 s.next ∷ e ∷ le16 place ∷ le16 (length bytes) ∷ g ∷ bytes ∷ packed s.items ∷ []) (le16 place) 4
    (omega (arith, length-le16 (length s.items))) (length-le16 (8192 - length (packed s.items)) ∙ sym (length-le16 place)) in
    let a5 : new ≡ joined (head ∷ le16 (count + 1) ∷ le16 place ∷ le16 0 ∷ le64 s.next ∷ e ∷ le16 place ∷ le16 (length bytes) ∷ g ∷ bytes ∷ packed s.items ∷ []) =
    e5 ∙ ap (λ (x : List ℕ). paste x 2 (le16 (count + 1))) a4
    ∙ paste_part (head ∷ []) n (le16 place ∷ le16 0 ∷ le64 s.next ∷ e ∷ le16 place ∷ le16 (length bytes) ∷ g ∷ bytes ∷ packed s.items ∷ []) (le16 (count + 1)) 2
    refl (length-le16 (length s.items) ∙ sym (length-le16 (count + 1))) in
    let w : place ≡ 8192 - length (packed s.items) - length bytes = omega arith in
    let p : new ≡ joined (parts_more s (Some bytes) gap) =
    a5 ∙ closed head (le16 (count + 1)) (le16 (length s.items + 1)) (le16 place) (le16 (8192 - length (packed s.items) - length bytes)) (le16 0) (le64 s.next) e (le16 (length bytes)) g bytes (packed s.items)
    (ap (λ (m : ℕ). le16 (m + 1)) c) (ap (λ (m : ℕ). le16 m) w) in
    written new (with_item s (Some bytes)) (p ∙ sym (spelled_more s (Some bytes) gap k)) (fits_more s (Some bytes) gap h.fits k)
  where
    opened : (h n t o x e z g b p : List ℕ) → z ≡ o ++ (o ++ (g ++ b))
        → joined (h ∷ n ∷ t ∷ o ∷ x ∷ e ∷ z ∷ p ∷ []) ≡ joined (h ∷ n ∷ t ∷ o ∷ x ∷ e ∷ o ∷ o ∷ g ∷ b ∷ p ∷ [])
    opened h n t o x e z g b p d = rw d (simp append_assoc)

    closed : (h c c' t t' o x e m g b p : List ℕ) → c ≡ c' → t ≡ t'
        → joined (h ∷ c ∷ t ∷ o ∷ x ∷ e ∷ t ∷ m ∷ g ∷ b ∷ p ∷ []) ≡ joined (h ∷ c' ∷ t' ∷ o ∷ x ∷ e ∷ (t' ++ (m ++ [])) ∷ g ∷ b ∷ p ∷ [])
    closed h c c' t t' o x e m g b p a d = rw (a, d) (simp append_assoc)

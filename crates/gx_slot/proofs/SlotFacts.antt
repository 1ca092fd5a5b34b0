-- A page that is spelled is read as what it spells.
use Rattle.std.proofs.Common.{◌≡◌, ℕ, ◌+◌, ◌-◌, ◌*◌, ◌^◌, ◌<◌, ◌==◌, false, List, [], ◌∷◌, ◌++◌, length, take, drop, replicate, slice_index, Option, Some, None, refl, sym, ◌∙◌, ap, subst, append_assoc, length-append, lit<, arith}
use Rattle.std.proofs.lemmas.List.{length-replicate}
use Rattle.std.proofs.lemmas.Bool.Decides.{nat_tests}
use Rattle.gx_bytes.specs.Fields.{le16, le64, of16, of64, length-le16, length-le64, of16-le16, of64-le64}
use Rattle.gx_slot.specs.Slots.{Slots, packed, entries, taken, joined, parts, spelling, Fits, slot_of, slots_of, read, IsSpelled}
use Rattle.gx_slot.proofs.PartFacts.{read_mid, read_part}

-- a field of two bytes behind others
field : (page xs zs : List ℕ) (n at : ℕ) → page ≡ xs ++ (le16 n ++ zs) → length xs ≡ at → n < 2 ^ 16 → of16 (take 2 (drop at page)) ≡ n
field page xs zs n at e l f =
    ap (λ (p : List ℕ). of16 (take 2 (drop at p))) e ∙ ap (λ (b : List ℕ). of16 b) (read_mid xs (le16 n) zs at 2 l (length-le16 n)) ∙ of16-le16 n f

pub empty_slot : (page : List ℕ) (at from : ℕ) → of16 (take 2 (drop at page)) ≡ from → from ≡ 0 → slot_of page at ≡ None
empty_slot page at from e z = let f : of16 (take 2 (drop at page)) ≡ 0 = e ∙ z in rw f refl

pub full_slot : (page bytes : List ℕ) (at from n : ℕ) → of16 (take 2 (drop at page)) ≡ from → of16 (take 2 (drop (at + 2) page)) ≡ n → 0 < from → take n (drop from page) ≡ bytes → slot_of page at ≡ Some bytes
full_slot page bytes at from n e f l b =
    let z : (from == 0) ≡ false = grind (arith, nat_tests) in
    rw (e, f, z, b) refl

pub length-entries : (end : ℕ) (items : List (Option (List ℕ))) → length (entries end items) ≡ 4 * length items
length-entries end [] = refl
length-entries end (None ∷ items) =
    let h = length-entries end items in
    omega (arith, length-append (le16 0) (le16 0 ++ entries end items), length-append (le16 0) (entries end items), length-le16 0, h)
length-entries end (Some b ∷ items) =
    let h = length-entries (end - length b) items in
    omega (arith, length-append (le16 (end - length b)) (le16 (length b) ++ entries (end - length b) items), length-append (le16 (length b)) (entries (end - length b) items), length-le16 (end - length b), length-le16 (length b), h)

pub slots_back : (items : List (Option (List ℕ))) (page before mid behind : List ℕ) (at end : ℕ)
    → page ≡ before ++ (entries end items ++ (mid ++ (packed items ++ behind)))
    → length before ≡ at → at + (4 * length items + (length mid + length (packed items))) ≡ end → end < 2 ^ 16 → 0 < at
    → slots_of page (length items) at ≡ items
slots_back [] page before mid behind at end e l s f z = refl
slots_back (None ∷ items) page before mid behind at end e l s f z =
    let rest : List ℕ = mid ++ (packed items ++ behind) in
    let two : List ℕ = le16 0 ++ le16 0 in
    let p : page ≡ before ++ (le16 0 ++ (le16 0 ++ (entries end items ++ rest))) = e ∙ (simp append_assoc) in
    let q : page ≡ (before ++ two) ++ (entries end items ++ rest) = p ∙ (simp append_assoc) in
    let k : length (before ++ two) ≡ at + 4 = omega (arith, length-append before two, length-append (le16 0) (le16 0), length-le16 0) in
    let h = slots_back items page (before ++ two) mid behind (at + 4) end q k (omega arith) f (omega arith) in
    let o = empty_slot page at 0 (field page before (le16 0 ++ (entries end items ++ rest)) 0 at p l (lit< tt)) refl in
    rw (o, h) refl
slots_back (Some b ∷ items) page before mid behind at end e l s f z =
    let v : length (packed items ++ b) ≡ length (packed items) + length b = length-append (packed items) b in
    let from : ℕ = end - length b in
    let t : List ℕ = entries from items in
    let rest : List ℕ = mid ++ (packed items ++ (b ++ behind)) in
    let two : List ℕ = le16 from ++ le16 (length b) in
    let p : page ≡ before ++ (le16 from ++ (le16 (length b) ++ (t ++ rest))) = e ∙ (simp append_assoc) in
    let q : page ≡ (before ++ two) ++ (t ++ rest) = p ∙ (simp append_assoc) in
    let p2 : page ≡ (before ++ le16 from) ++ (le16 (length b) ++ (t ++ rest)) = p ∙ (simp append_assoc) in
    let k2 : length (before ++ le16 from) ≡ at + 2 = omega (arith, length-append before (le16 from), length-le16 from) in
    let k : length (before ++ two) ≡ at + 4 = omega (arith, length-append before two, length-append (le16 from) (le16 (length b)), length-le16 from, length-le16 (length b)) in
    let h = slots_back items page (before ++ two) mid (b ++ behind) (at + 4) from q k (omega arith) (omega arith) (omega arith) in
    let front : List ℕ = (before ++ two) ++ (t ++ (mid ++ packed items)) in
    let p3 : page ≡ front ++ (b ++ behind) = q ∙ (simp append_assoc) in
    let k3 : length front ≡ from =
    omega (arith, k, length-append (before ++ two) (t ++ (mid ++ packed items)), length-append t (mid ++ packed items), length-append mid (packed items), length-entries from items) in
    let item : take (length b) (drop from page) ≡ b = ap (λ (x : List ℕ). take (length b) (drop from x)) p3 ∙ read_mid front b behind from (length b) k3 refl in
    let o = full_slot page b at from (length b)
    (field page before (le16 (length b) ++ (t ++ rest)) from at p l (omega arith))
    (field page (before ++ le16 from) (t ++ rest) (length b) (at + 2) p2 k2 (omega arith)) (omega arith) item in
    rw (o, h) refl

-- a record of slots by its fields
same_slots : (s : Slots) (kind level next count : ℕ) (items : List (Option (List ℕ))) → kind ≡ s.kind → level ≡ s.level → next ≡ s.next → items ≡ s.items
    → record { kind = kind; level = level; next = next; items = items } ≡ s
same_slots s kind level next count items a b c d = rw (a, b, c, d) refl

pub count_field : (s : Slots) → take 2 (drop 2 (joined (parts s))) ≡ le16 (length s.items)
count_field s =
    read_part ((s.kind ∷ s.level ∷ []) ∷ []) (le16 (length s.items))
    (le16 (8192 - length (packed s.items)) ∷ le16 0 ∷ le64 s.next ∷ entries 8192 s.items ∷ replicate (8176 - taken s.items) 0 ∷ packed s.items ∷ [])
    2 2 refl (length-le16 (length s.items))

pub start_field : (s : Slots) → take 2 (drop 4 (joined (parts s))) ≡ le16 (8192 - length (packed s.items))
start_field s =
    read_part ((s.kind ∷ s.level ∷ []) ∷ le16 (length s.items) ∷ []) (le16 (8192 - length (packed s.items)))
    (le16 0 ∷ le64 s.next ∷ entries 8192 s.items ∷ replicate (8176 - taken s.items) 0 ∷ packed s.items ∷ [])
    4 2 (omega (arith, length-le16 (length s.items))) (length-le16 (8192 - length (packed s.items)))

pub next_field : (s : Slots) → take 8 (drop 8 (joined (parts s))) ≡ le64 s.next
next_field s =
    read_part ((s.kind ∷ s.level ∷ []) ∷ le16 (length s.items) ∷ le16 (8192 - length (packed s.items)) ∷ le16 0 ∷ []) (le64 s.next)
    (entries 8192 s.items ∷ replicate (8176 - taken s.items) 0 ∷ packed s.items ∷ [])
    8 8 (omega (arith, length-le16 (length s.items), length-le16 (8192 - length (packed s.items)), length-le16 0)) (length-le64 s.next)

pub few : (s : Slots) → Fits s → length s.items < 2 ^ 16
few s f = let r = f.room in omega arith

all_slots : (page : List ℕ) (s : Slots) → page ≡ joined (parts s) → Fits s → slots_of page (length s.items) 16 ≡ s.items
all_slots page s e f =
    let head : List ℕ = s.kind ∷ s.level ∷ [] in
    let c : List ℕ = le16 (length s.items) in
    let st : List ℕ = le16 (8192 - length (packed s.items)) in
    let before : List ℕ = head ++ (c ++ (st ++ (le16 0 ++ le64 s.next))) in
    let gap : List ℕ = replicate (8176 - taken s.items) 0 in
    let r = f.room in
    let p : page ≡ before ++ (entries 8192 s.items ++ (gap ++ (packed s.items ++ []))) = e ∙ (simp append_assoc) in
    let l : length before ≡ 16 =
    omega (
      arith,
      length-append c (st ++ (le16 0 ++ le64 s.next)),
      length-append st (le16 0 ++ le64 s.next),
      length-append (le16 0) (le64 s.next),
      length-le16 (length s.items),
      length-le16 (8192 - length (packed s.items)),
      length-le16 0,
      length-le64 s.next,
    ) in
    let g : length gap ≡ 8176 - taken s.items = length-replicate (8176 - taken s.items) 0 in
    slots_back s.items page before gap [] 16 8192 p l (omega arith) (lit< tt) (lit< tt)

pub is_read : (page : List ℕ) (s : Slots) → page ≡ spelling s → Fits s → read page ≡ s
unfolding spelling read
is_read page s e f =
    let n : of16 (take 2 (drop 2 page)) ≡ length s.items =
    ap (λ (p : List ℕ). of16 (take 2 (drop 2 p))) e ∙ ap (λ (b : List ℕ). of16 b) (count_field s) ∙ of16-le16 (length s.items) (few s f) in
    let x : of64 (take 8 (drop 8 page)) ≡ s.next =
    ap (λ (p : List ℕ). of64 (take 8 (drop 8 p))) e ∙ ap (λ (b : List ℕ). of64 b) (next_field s) ∙ of64-le64 s.next f.next in
    let i : slots_of page (of16 (take 2 (drop 2 page))) 16 ≡ s.items =
    ap (λ (k : ℕ). slots_of page k 16) n ∙ all_slots page s e f in
    same_slots s (slice_index page 0) (slice_index page 1) (of64 (take 8 (drop 8 page))) 0 (slots_of page (of16 (take 2 (drop 2 page))) 16)
    (ap (λ (p : List ℕ). slice_index p 0) e) (ap (λ (p : List ℕ). slice_index p 1) e) x i

pub is_spelled : (page : List ℕ) (s : Slots) → page ≡ spelling s → Fits s → IsSpelled page
is_spelled page s e f =
    let r = is_read page s e f in
    record { is = e ∙ ap (λ (x : Slots). spelling x) (sym r); fits = (let P : Slots → Type 0 = λ x. Fits x in subst P (sym r) f) }

-- what is read of a field
pub read16 : (bytes : List ℕ) (n : ℕ) → bytes ≡ le16 n → n < 2 ^ 16 → n ≡ of16 bytes
read16 bytes n e l = sym (ap (λ (b : List ℕ). of16 b) e ∙ of16-le16 n l)

pub read64 : (bytes : List ℕ) (n : ℕ) → bytes ≡ le64 n → n < 2 ^ 64 → n ≡ of64 bytes
read64 bytes n e l = sym (ap (λ (b : List ℕ). of64 b) e ∙ of64-le64 n l)

pub count_is : (page : List ℕ) → IsSpelled page → of16 (take 2 (drop 2 page)) ≡ length (read page).items
unfolding spelling
count_is page h =
    ap (λ (p : List ℕ). of16 (take 2 (drop 2 p))) h.is ∙ ap (λ (b : List ℕ). of16 b) (count_field (read page)) ∙ of16-le16 (length (read page).items) (few (read page) h.fits)

pub start_is : (page : List ℕ) → IsSpelled page → of16 (take 2 (drop 4 page)) ≡ 8192 - length (packed (read page).items)
unfolding spelling
start_is page h =
    ap (λ (p : List ℕ). of16 (take 2 (drop 4 p))) h.is ∙ ap (λ (b : List ℕ). of16 b) (start_field (read page)) ∙ of16-le16 (8192 - length (packed (read page).items)) (omega arith)

pub next_is : (page : List ℕ) → of64 (take 8 (drop 8 page)) ≡ (read page).next
unfolding read
next_is page = refl

-- The table of a slot page, slot by slot.
use Rattle.std.proofs.Common.{◌≡◌, ◌≢◌, ℕ, ◌+◌, ◌-◌, ◌*◌, ◌^◌, ◌<◌, ◌≤◌, min, zero, suc, List, [], ◌∷◌, ◌++◌, length, take, drop, replicate, slice_index, slice_range, Option, Some, None, refl, sym, ◌∙◌, ap, append_assoc, length-append, arith}
use Rattle.std.proofs.lemmas.List.{append-nil, drop-drop, drop_at, take_at, length-take, length-drop, length-replicate}
use Rattle.std.proofs.lemmas.List.Folds.{drop_split}
use Rattle.std.proofs.Math.Seq.{take-add}
use Rattle.gx_bytes.specs.Fields.{le16, le64, of16, length-le16, length-le64, le16-same}
use Rattle.gx_slot.specs.Slots.{Slots, packed, entries, taken, joined, spelling, slot_of, slots_of, read, IsSpelled}
use Rattle.gx_slot.specs.Tables.{IsEntry, IsTable}
use Rattle.gx_slot.proofs.PartFacts.{read_mid, read_part}
use Rattle.gx_slot.proofs.SlotFacts.{empty_slot, full_slot, length-entries, start_is}
use Rattle.gx_slot.proofs.ReadFacts.{length-slots_of}

slots_split : (page : List ℕ) (k m at : ℕ) → slots_of page (k + m) at ≡ slots_of page k at ++ slots_of page m (at + 4 * k)
slots_split page zero m at =
    let e : 0 + m ≡ m = omega arith in
    let f : at + 4 * 0 ≡ at = omega arith in
    ap (λ (n : ℕ). slots_of page n at) e ∙ ap (λ (n : ℕ). slots_of page m n) (sym f)
slots_split page (suc k) m at =
    let e : suc k + m ≡ suc (k + m) = omega arith in
    let f : at + 4 + 4 * k ≡ at + 4 * suc k = omega arith in
    ap (λ (n : ℕ). slots_of page n at) e
    ∙ ap (λ (l : List (Option (List ℕ))). slot_of page at ∷ l) (slots_split page k m (at + 4) ∙ ap (λ (n : ℕ). slots_of page k (at + 4) ++ slots_of page m n) f)

entries_split : (end : ℕ) (xs ys : List (Option (List ℕ))) → entries end (xs ++ ys) ≡ entries end xs ++ entries (end - length (packed xs)) ys
entries_split end [] ys = let e : end - 0 ≡ end = omega arith in ap (λ (n : ℕ). entries n ys) (sym e)
entries_split end (None ∷ xs) ys = rw (entries_split end xs ys) (simp append_assoc)
entries_split end (Some b ∷ xs) ys =
    let e : end - length b - length (packed xs) ≡ end - length (packed xs ++ b) = omega (arith, length-append (packed xs) b) in
    rw (entries_split (end - length b) xs ys, e) (simp append_assoc)

packed_split : (xs ys : List (Option (List ℕ))) → packed (xs ++ ys) ≡ packed ys ++ packed xs
packed_split [] ys = sym (append-nil (packed ys))
packed_split (None ∷ xs) ys = packed_split xs ys
packed_split (Some b ∷ xs) ys = rw (packed_split xs ys) (append_assoc (packed ys) (packed xs) b)

-- one slot more
pub table_more : (page : List ℕ) (k end start : ℕ) → IsTable page k end → IsEntry page (16 + 4 * k) end start → IsTable page (k + 1) start
table_more page k end start table entry =
    let xs : List (Option (List ℕ)) = slots_of page k 16 in
    let x : Option (List ℕ) = slot_of page (16 + 4 * k) in
    let more : slots_of page (k + 1) 16 ≡ xs ++ x ∷ [] = slots_split page k 1 16 in
    let size = table.size in
    let here = entry.size in
    let four : 4 * (k + 1) ≡ 4 * k + 4 = omega arith in
    let from : end ≡ 8192 - length (packed xs) = omega arith in
    record {
      table = ap (λ (n : ℕ). take n (drop 16 page)) four ∙ take-add (4 * k) 4 (drop 16 page)
          ∙ ap (λ (l : List ℕ). l ++ take 4 (drop (4 * k) (drop 16 page))) table.table
          ∙ ap (λ (l : List ℕ). entries 8192 xs ++ take 4 l) (drop-drop (4 * k) 16 page)
          ∙ ap (λ (l : List ℕ). entries 8192 xs ++ l) (entry.entry ∙ ap (λ (n : ℕ). entries n (x ∷ [])) from)
          ∙ sym (entries_split 8192 xs (x ∷ [])) ∙ ap (λ (l : List (Option (List ℕ))). entries 8192 l) (sym more);
      size = (let whole = ap (λ (l : List (Option (List ℕ))). length (packed l)) more ∙ ap (λ (l : List ℕ). length l) (packed_split xs (x ∷ [])) in
          omega (arith, whole, size, here, length-append (packed (x ∷ [])) (packed xs)));
      items = drop_split page start end (omega arith) ∙ ap (λ (l : List ℕ). l ++ drop end page) entry.item
          ∙ ap (λ (l : List ℕ). packed (x ∷ []) ++ l) table.items ∙ sym (packed_split xs (x ∷ []))
          ∙ ap (λ (l : List (Option (List ℕ))). packed l) (sym more);
    }

pub table_none : (page : List ℕ) → length page ≡ 8192 → IsTable page 0 8192
table_none page len = record { table = refl; size = omega arith; items = none (drop 8192 page) (omega (arith, length-drop 8192 page)) }
  where
    none : (l : List ℕ) → length l ≡ 0 → l ≡ []
    none [] e = refl
    none (x ∷ l) e = absurd (omega arith)

-- the two fields of an entry
two_fields : (page : List ℕ) (at place len : ℕ) → take 2 (drop at page) ≡ le16 place → take 2 (drop (at + 2) page) ≡ le16 len → take 4 (drop at page) ≡ le16 place ++ (le16 len ++ [])
two_fields page at place len first second =
    take-add 2 2 (drop at page) ∙ ap (λ (l : List ℕ). l ++ take 2 (drop 2 (drop at page))) first ∙ ap (λ (l : List ℕ). le16 place ++ take 2 l) (drop-drop 2 at page)
    ∙ ap (λ (l : List ℕ). le16 place ++ l) (second ∙ sym (append-nil (le16 len)))

first_same : (a b c d : ℕ) → le16 a ++ (le16 b ++ []) ≡ le16 c ++ (le16 d ++ []) → le16 a ≡ le16 c
first_same a b c d same =
    sym (take_at (le16 a) (le16 b ++ []) 2 (length-le16 a)) ∙ ap (λ (l : List ℕ). take 2 l) same ∙ take_at (le16 c) (le16 d ++ []) 2 (length-le16 c)

second_same : (a b c d : ℕ) → le16 a ++ (le16 b ++ []) ≡ le16 c ++ (le16 d ++ []) → le16 b ≡ le16 d
second_same a b c d same =
    sym (append-nil (le16 b)) ∙ sym (drop_at (le16 a) (le16 b ++ []) 2 (length-le16 a)) ∙ ap (λ (l : List ℕ). drop 2 l) same
    ∙ drop_at (le16 c) (le16 d ++ []) 2 (length-le16 c) ∙ append-nil (le16 d)

entry_is : (page : List ℕ) (at end start : ℕ) (x : Option (List ℕ)) → slot_of page at ≡ x → take 4 (drop at page) ≡ entries end (x ∷ []) → start + length (packed (x ∷ [])) ≡ end
    → take (end - start) (drop start page) ≡ packed (x ∷ []) → IsEntry page at end start
entry_is page at end start x is entry size item =
    record {
      entry = entry ∙ ap (λ (o : Option (List ℕ)). entries end (o ∷ [])) (sym is);
      size = ap (λ (o : Option (List ℕ)). start + length (packed (o ∷ []))) is ∙ size;
      item = item ∙ ap (λ (o : Option (List ℕ)). packed (o ∷ [])) (sym is);
    }

module _ (page : List ℕ) (at end place len : ℕ) (whole : length page ≡ 8192) (within : end ≤ 8192) (place_is : place ≡ of16 (take 2 (drop at page))) (len_is : len ≡ of16 (take 2 (drop (at + 2) page)))
    (place_bytes : take 2 (drop at page) ≡ le16 place) (len_bytes : take 2 (drop (at + 2) page) ≡ le16 len) (place_small : place < 2 ^ 16) (len_small : len < 2 ^ 16) where
  both : take 4 (drop at page) ≡ le16 place ++ (le16 len ++ [])
  both = two_fields page at place len place_bytes len_bytes

  pub entry_empty : place ≡ 0 → len ≡ 0 → IsEntry page at end end
  entry_empty none nothing =
      let sizes : end - end ≡ 0 = omega arith in
      entry_is page at end end None (empty_slot page at place (sym place_is) none)
      (both ∙ ap (λ (n : ℕ). le16 n ++ (le16 len ++ [])) none ∙ ap (λ (n : ℕ). le16 0 ++ (le16 n ++ [])) nothing) (omega arith) (ap (λ (n : ℕ). take n (drop end page)) sizes)

  pub no_entry_empty : place ≡ 0 → len ≢ 0 → take 4 (drop at page) ≢ entries end (slot_of page at ∷ [])
  no_entry_empty none some same =
      let is : slot_of page at ≡ None = empty_slot page at place (sym place_is) none in
      let fields : le16 place ++ (le16 len ++ []) ≡ le16 0 ++ (le16 0 ++ []) = sym both ∙ same ∙ ap (λ (o : Option (List ℕ)). entries end (o ∷ [])) is in
      some (le16-same len 0 len_small (omega arith) (second_same place len 0 0 fields))

  module _ (some : place ≢ 0) where
    abbrev item : List ℕ
    item = take len (drop place page)

    is_item : slot_of page at ≡ Some item
    is_item = full_slot page item at place len (sym place_is) (sym len_is) (omega arith) refl

    item_length : length item ≡ min len (8192 - place)
    item_length = omega (arith, length-take len (drop place page), length-drop place page, whole)

    pub entry_full : place + len ≡ end → IsEntry page at end place
    entry_full ends =
        let size : length item ≡ len = omega (arith, item_length, ends, within) in
        let from : place ≡ end - length item = omega (arith, size, ends) in
        let gap : end - place ≡ len = omega (arith, ends) in
        entry_is page at end place (Some item) is_item
        (both ∙ ap (λ (n : ℕ). le16 n ++ (le16 len ++ [])) from ∙ ap (λ (n : ℕ). le16 (end - length item) ++ (le16 n ++ [])) (sym size)) (omega (arith, size, ends))
        (ap (λ (n : ℕ). take n (drop place page)) gap)

    pub no_entry_full : place + len ≢ end → take 4 (drop at page) ≢ entries end (slot_of page at ∷ [])
    no_entry_full differ same =
        let fields : le16 place ++ (le16 len ++ []) ≡ le16 (end - length item) ++ (le16 (length item) ++ []) =
        sym both ∙ same ∙ ap (λ (o : Option (List ℕ)). entries end (o ∷ [])) is_item in
        let one : place ≡ end - length item = le16-same place (end - length item) place_small (omega (arith, within)) (first_same place len (end - length item) (length item) fields) in
        let two : len ≡ length item = le16-same len (length item) len_small (omega (arith, item_length)) (second_same place len (end - length item) (length item) fields) in
        absurd (omega (arith, one, two, differ, some))

-- each entry of a spelled page stands as it has to
pub items_read : (page : List ℕ) → (read page).items ≡ slots_of page (length (read page).items) 16
unfolding read
items_read page = let n : ℕ = of16 (take 2 (drop 2 page)) in ap (λ (k : ℕ). slots_of page k 16) (sym (length-slots_of page n 16))

abbrev header : Slots → List ℕ
header s = (s.kind ∷ s.level ∷ []) ++ (le16 (length s.items) ++ (le16 (8192 - length (packed s.items)) ++ (le16 0 ++ le64 s.next)))

length-header : (s : Slots) → length (header s) ≡ 16
length-header s =
    omega (
      arith,
      length-append (le16 (length s.items)) (le16 (8192 - length (packed s.items)) ++ (le16 0 ++ le64 s.next)),
      length-append (le16 (8192 - length (packed s.items))) (le16 0 ++ le64 s.next),
      length-append (le16 0) (le64 s.next),
      length-le16 (length s.items),
      length-le16 (8192 - length (packed s.items)),
      length-le16 0,
      length-le64 s.next,
    )

opened : (page : List ℕ) → IsSpelled page → page ≡ header (read page) ++ (entries 8192 (read page).items ++ (replicate (8176 - taken (read page).items) 0 ++ (packed (read page).items ++ [])))
unfolding spelling
opened page spelled = spelled.is ∙ (simp append_assoc)

pub entry_spelled : (page : List ℕ) (k end : ℕ) → IsSpelled page → k < length (read page).items → IsTable page k end → take 4 (drop (16 + 4 * k) page) ≡ entries end (slot_of page (16 + 4 * k) ∷ [])
entry_spelled page k end spelled below table =
    let n : ℕ = length (read page).items in
    let m : ℕ = n - k - 1 in
    let xs : List (Option (List ℕ)) = slots_of page k 16 in
    let x : Option (List ℕ) = slot_of page (16 + 4 * k) in
    let ys : List (Option (List ℕ)) = slots_of page m (16 + 4 * k + 4) in
    let count : n ≡ k + suc m = omega arith in
    let items : (read page).items ≡ xs ++ (x ∷ ys) = items_read page ∙ ap (λ (i : ℕ). slots_of page i 16) count ∙ slots_split page k (suc m) 16 in
    let size = table.size in
    let from : 8192 - length (packed xs) ≡ end = omega arith in
    let rest : List ℕ = replicate (8176 - taken (read page).items) 0 ++ (packed (read page).items ++ []) in
    let cut : entries 8192 (read page).items ≡ entries 8192 xs ++ (entries end (x ∷ []) ++ entries (end - length (packed (x ∷ []))) ys) =
    ap (λ (l : List (Option (List ℕ))). entries 8192 l) items ∙ entries_split 8192 xs (x ∷ ys)
    ∙ ap (λ (i : ℕ). entries 8192 xs ++ entries i (x ∷ ys)) from ∙ ap (λ (l : List ℕ). entries 8192 xs ++ l) (entries_split end (x ∷ []) ys) in
    let before : List ℕ = header (read page) ++ entries 8192 xs in
    let here : List ℕ = entries end (x ∷ []) in
    let behind : List ℕ = entries (end - length (packed (x ∷ []))) ys in
    let is : page ≡ before ++ (here ++ (behind ++ rest)) =
    opened page spelled ∙ ap (λ (l : List ℕ). header (read page) ++ (l ++ rest)) cut ∙ (simp append_assoc) in
    ap (λ (l : List ℕ). take 4 (drop (16 + 4 * k) l)) is
    ∙ read_mid before here (behind ++ rest) (16 + 4 * k) 4
    (omega (arith, length-append (header (read page)) (entries 8192 xs), length-header (read page), length-entries 8192 xs, length-slots_of page k 16))
    (length-entries end (x ∷ []))

-- A page whose parts are as they have to be is spelled.
parts_joined : (a b c d e f g h a' b' c' d' e' f' g' h' : List ℕ) → a ≡ a' → b ≡ b' → c ≡ c' → d ≡ d' → e ≡ e' → f ≡ f' → g ≡ g' → h ≡ h'
    → a ++ (b ++ (c ++ (d ++ (e ++ (f ++ (g ++ h)))))) ≡ joined (a' ∷ b' ∷ c' ∷ d' ∷ e' ∷ f' ∷ g' ∷ h' ∷ [])
parts_joined a b c d e f g h a' b' c' d' e' f' g' h' p q r s t u v w = rw (p, q, r, s, t, u, v, w, append-nil h') refl

cut_up : (page : List ℕ) (a b c d e f g : ℕ) → a ≤ b → b ≤ c → c ≤ d → d ≤ e → e ≤ f → f ≤ g
    → page ≡ take a page ++ (slice_range page a b ++ (slice_range page b c ++ (slice_range page c d ++ (slice_range page d e ++ (slice_range page e f ++ (slice_range page f g ++ drop g page))))))
cut_up page a b c d e f g ab bc cd de ef fg =
    whole page a
    ∙ ap (λ (l : List ℕ). take a page ++ l)
    (drop_split page a b ab ∙ ap (λ (l : List ℕ). slice_range page a b ++ l)
    (drop_split page b c bc ∙ ap (λ (l : List ℕ). slice_range page b c ++ l)
    (drop_split page c d cd ∙ ap (λ (l : List ℕ). slice_range page c d ++ l)
    (drop_split page d e de ∙ ap (λ (l : List ℕ). slice_range page d e ++ l)
    (drop_split page e f ef ∙ ap (λ (l : List ℕ). slice_range page e f ++ l) (drop_split page f g fg))))))
  where
    whole : (l : List ℕ) (n : ℕ) → l ≡ take n l ++ drop n l
    whole [] zero = refl
    whole [] (suc n) = refl
    whole (x ∷ l) zero = refl
    whole (x ∷ l) (suc n) = ap (λ (m : List ℕ). x ∷ m) (whole l n)

two_bytes : (l : List ℕ) → 2 ≤ length l → take 2 l ≡ slice_index l 0 ∷ slice_index l 1 ∷ []
two_bytes [] few = absurd (omega arith)
two_bytes (a ∷ []) few = absurd (omega arith)
two_bytes (a ∷ b ∷ l) few = refl

module _ (page : List ℕ) (count start : ℕ) (whole : length page ≡ 8192) (is_count : count ≡ length (read page).items) (table : IsTable page count start) where
  same_items : slots_of page count 16 ≡ (read page).items
  same_items = ap (λ (n : ℕ). slots_of page n 16) is_count ∙ sym (items_read page)

  start_at : start ≡ 8192 - length (packed (read page).items)
  start_at = let size = table.size in let same = ap (λ (l : List (Option (List ℕ))). length (packed l)) same_items in omega (arith, size, same)

  start_within : start + length (packed (read page).items) ≡ 8192
  start_within = let size = table.size in let same = ap (λ (l : List (Option (List ℕ))). length (packed l)) same_items in omega (arith, size, same)

  gap_size : 16 + 4 * count ≤ start → 8176 - taken (read page).items ≡ start - (16 + 4 * count)
  gap_size room = omega (arith, start_within, is_count)

  pub spelled_from : (field zero_field : ℕ) → take 2 (drop 2 page) ≡ le16 count → take 2 (drop 4 page) ≡ le16 field → field ≡ start → take 2 (drop 6 page) ≡ le16 zero_field → zero_field ≡ 0
      → take 8 (drop 8 page) ≡ le64 (read page).next → (read page).next < 2 ^ 64 → 16 + 4 * count ≤ start
      → take (start - (16 + 4 * count)) (drop (16 + 4 * count) page) ≡ replicate (start - (16 + 4 * count)) 0
      → slice_index page 0 < 2 ^ 8 → slice_index page 1 < 2 ^ 8 → IsSpelled page
  unfolding spelling read
  spelled_from field none counts starts field_is zeros none_is nexts next_small room gap kind level = record {
    is = cut_up page 2 4 6 8 16 (16 + 4 * count) start (omega arith) (omega arith) (omega arith) (omega arith) (omega arith) room
        ∙ parts_joined _ _ _ _ _ _ _ _ _ _ _ _ _ _ _ _
        (two_bytes page (omega (arith, whole)))
        (counts ∙ ap (λ (n : ℕ). le16 n) is_count)
        (starts ∙ ap (λ (n : ℕ). le16 n) (field_is ∙ start_at))
        (zeros ∙ ap (λ (n : ℕ). le16 n) none_is)
        nexts
        (ap (λ (n : ℕ). take n (drop 16 page)) (sized count) ∙ table.table ∙ ap (λ (l : List (Option (List ℕ))). entries 8192 l) same_items)
        (gap ∙ ap (λ (n : ℕ). replicate n 0) (sym (gap_size room)))
        (table.items ∙ ap (λ (l : List (Option (List ℕ))). packed l) same_items);
    fits = record { kind = kind; level = level; next = next_small; room = omega (arith, start_within, is_count, room) };
  }
    where
      sized : (n : ℕ) → 16 + 4 * n - 16 ≡ 4 * n
      sized n = omega arith

  -- and each of these holds of a spelled page
  pub room_spelled : IsSpelled page → start < 16 + 4 * count → ⊥
  room_spelled spelled less = let room = spelled.fits.room in omega (arith, room, start_within, is_count, less)

  pub start_spelled : (field : ℕ) → IsSpelled page → field ≡ of16 (take 2 (drop 4 page)) → field ≢ start → ⊥
  start_spelled field spelled is differ = differ (is ∙ start_is page spelled ∙ sym start_at)

  pub zero_spelled : (field : ℕ) → IsSpelled page → field < 2 ^ 16 → take 2 (drop 6 page) ≡ le16 field → field ≢ 0 → ⊥
  unfolding spelling
  zero_spelled field spelled small is differ =
      let s : Slots = read page in
      let there : take 2 (drop 6 page) ≡ le16 0 =
      ap (λ (l : List ℕ). take 2 (drop 6 l)) spelled.is
      ∙ read_part ((s.kind ∷ s.level ∷ []) ∷ le16 (length s.items) ∷ le16 (8192 - length (packed s.items)) ∷ []) (le16 0)
      (le64 s.next ∷ entries 8192 s.items ∷ replicate (8176 - taken s.items) 0 ∷ packed s.items ∷ []) 6 2
      (omega (arith, length-le16 (length s.items), length-le16 (8192 - length (packed s.items)))) (length-le16 0) in
      differ (le16-same field 0 small (omega arith) (sym is ∙ there))

  pub gap_spelled : IsSpelled page → 16 + 4 * count ≤ start → take (start - (16 + 4 * count)) (drop (16 + 4 * count) page) ≡ replicate (start - (16 + 4 * count)) 0
  gap_spelled spelled room =
      let s : Slots = read page in
      let g : List ℕ = replicate (8176 - taken s.items) 0 in
      let before : List ℕ = header s ++ entries 8192 s.items in
      let is : page ≡ before ++ (g ++ (packed s.items ++ [])) = opened page spelled ∙ (simp append_assoc) in
      ap (λ (l : List ℕ). take (start - (16 + 4 * count)) (drop (16 + 4 * count) l)) is
      ∙ read_mid before g (packed s.items ++ []) (16 + 4 * count) (start - (16 + 4 * count))
      (omega (arith, length-append (header s) (entries 8192 s.items), length-header s, length-entries 8192 s.items, is_count))
      (length-replicate (8176 - taken s.items) 0 ∙ gap_size room)
      ∙ ap (λ (n : ℕ). replicate n 0) (gap_size room)

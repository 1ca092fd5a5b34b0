-- Rows that are taken out of pages of level 0.
use Rattle.std.proofs.Common.{◌≡◌, ◌⊎◌, inl, inr, ⊎_elim, ℕ, zero, suc, ◌+◌, ◌≤◌, Bool, true, false, List, [], ◌∷◌, ◌++◌, length, map, take, drop, slice_set, Option, Some, None, All, if◌then◌else◌, refl, sym, ◌∙◌, ap, subst, append_assoc, append-nil, arith}
use Rattle.std.specs.Prelude.{IfSome, IsTrue, ◌↔◌}
use Rattle.std.specs.Option.{option_map}
use Rattle.std.proofs.lemmas.Bool.Decides.{eqb_tells}
use Rattle.std.proofs.lemmas.List.{map-append}
use Rattle.std.proofs.lemmas.List.Elements.{All-head, All-tail, All-nil, All-cons}
use Rattle.gx_words.specs.PageMap.{PageMap, with_page}
use Rattle.gx_pages.specs.declared.row.RowRef.{RowRef}
use Rattle.gx_pages.specs.Footprints.{ChangesOnly}
use Rattle.gx_pages.specs.Rows.{HasNumber}
use Rattle.gx_pages.proofs.Footprints as feet
use Rattle.gx_gist.specs.declared.class.GistClass.{Ghosts}
use Rattle.gx_slot.specs.Slots.{Slots, Fits, item_at, spelling}
use Rattle.gx_gist_tree.specs.Trees.{Node, Entry, kept_slot, pages_of, stripped}
use Rattle.gx_gist_tree.specs.OnPages.{FitsFields, IsRead, Stands, is_in, leaf_item, slots_of}
use Rattle.gx_gist_tree.proofs.Places.{At, item_mid, set_mid, take_whole}

tells : (rows : List RowRef) (n : ℕ) → ((is_in rows n ≡ true) × HasNumber rows n) ⊎ ((is_in rows n ≡ false) × (HasNumber rows n → ⊥))
tells [] n = inr (refl, λ h. h)
tells (row ∷ rows) n =
    ⊎_elim
    (λ same. inl ((let h = same.0 in rw h refl), inl same.1))
    (λ other. ⊎_elim
    (λ there. inl ((let h = other.0 in rw h there.0), inr there.1))
    (λ none. inr ((let h = other.0 in rw h none.0), λ has. ⊎_elim other.1 none.1 has))
    (tells rows n))
    (eqb_tells row.number n)

-- what the test of a number says
pub has_is : (rows : List RowRef) (n : ℕ) (b : Bool) → IsTrue b ↔ HasNumber rows n → b ≡ is_in rows n
has_is rows n true iff = ⊎_elim (λ there. sym there.0) (λ none. absurd (none.1 (iff.0 refl))) (tells rows n)
has_is rows n false iff = ⊎_elim (λ there. (let no = iff.1 there.1 in cc)) (λ none. sym none.0) (tells rows n)

abbrev pub raw_item : Entry (List ℕ) → List ℕ
raw_item e = leaf_item (λ bytes. bytes) e

abbrev pub raw_slots : List (Option (Entry (List ℕ))) → List (Option (List ℕ))
raw_slots entries = map (option_map raw_item) entries

-- the slots while the first of them were looked at
abbrev pub half : (Entry (List ℕ) → Bool) → List (Option (Entry (List ℕ))) → ℕ → List (Option (List ℕ))
half gone entries k = raw_slots (map (kept_slot gone) (take k entries) ++ drop k entries)

length_mapped : {X Y : Type 0} (f : X → Y) (xs : List X) → length (map f xs) ≡ length xs
length_mapped f [] = refl
length_mapped f (x ∷ xs) = let rest = length_mapped f xs in omega arith

module _ (gone : Entry (List ℕ) → Bool) (entries : List (Option (Entry (List ℕ)))) (k : ℕ) (a : At entries k) where
  abbrev front : List (Option (List ℕ))
  front = raw_slots (map (kept_slot gone) (take k entries))

  front_len : length front ≡ k
  front_len = length_mapped (option_map raw_item) (map (kept_slot gone) (take k entries)) ∙ length_mapped (kept_slot gone) (take k entries) ∙ a.len

  now : half gone entries k ≡ front ++ option_map raw_item a.item ∷ raw_slots a.back
  now = ap (λ (l : List (Option (Entry (List ℕ)))). raw_slots (map (kept_slot gone) (take k entries) ++ l)) a.rest ∙ map-append (option_map raw_item) (map (kept_slot gone) (take k entries)) (a.item ∷ a.back)

  later : half gone entries (k + 1) ≡ front ++ option_map raw_item (kept_slot gone a.item) ∷ raw_slots a.back
  later =
      ap (λ (l : List (Option (Entry (List ℕ)))). raw_slots (map (kept_slot gone) l ++ drop (k + 1) entries)) a.more
      ∙ ap (λ (l : List (Option (Entry (List ℕ)))). raw_slots (map (kept_slot gone) (take k entries ++ a.item ∷ []) ++ l)) a.next
      ∙ ap (λ (l : List (Option (Entry (List ℕ)))). raw_slots (l ++ a.back)) (map-append (kept_slot gone) (take k entries) (a.item ∷ []))
      ∙ ap (λ (l : List (Option (Entry (List ℕ)))). raw_slots l) (append_assoc (map (kept_slot gone) (take k entries)) (kept_slot gone a.item ∷ []) a.back)
      ∙ map-append (option_map raw_item) (map (kept_slot gone) (take k entries)) (kept_slot gone a.item ∷ a.back)

  pub half_at : (items : List (Option (List ℕ))) → items ≡ half gone entries k → item_at items k ≡ option_map raw_item a.item
  half_at items is = ap (λ (l : List (Option (List ℕ))). item_at l k) (is ∙ now) ∙ item_mid front (option_map raw_item a.item) (raw_slots a.back) k front_len

  -- the slot is emptied, or stays
  pub half_emptied : (items new : List (Option (List ℕ))) → items ≡ half gone entries k → kept_slot gone a.item ≡ None → new ≡ slice_set items k None → new ≡ half gone entries (k + 1)
  half_emptied items new is keeps made =
      made ∙ ap (λ (l : List (Option (List ℕ))). slice_set l k None) (is ∙ now) ∙ set_mid front (option_map raw_item a.item) None (raw_slots a.back) k front_len
      ∙ ap (λ (o : Option (Entry (List ℕ))). front ++ option_map raw_item o ∷ raw_slots a.back) (sym keeps) ∙ sym later

  pub half_stays : (items new : List (Option (List ℕ))) → items ≡ half gone entries k → kept_slot gone a.item ≡ a.item → new ≡ items → new ≡ half gone entries (k + 1)
  half_stays items new is keeps same = same ∙ is ∙ now ∙ ap (λ (o : Option (Entry (List ℕ))). front ++ option_map raw_item o ∷ raw_slots a.back) (sym keeps) ∙ sym later

drop_whole : {X : Type 0} (xs : List X) (k : ℕ) → length xs ≤ k → drop k xs ≡ []
drop_whole [] zero h = refl
drop_whole [] (suc k) h = refl
drop_whole (x ∷ xs) zero h = absurd (omega (arith, h))
drop_whole (x ∷ xs) (suc k) h = drop_whole xs k (omega (arith, h))

-- all of them were looked at
pub half_full : (gone : Entry (List ℕ) → Bool) (entries : List (Option (Entry (List ℕ)))) (k : ℕ) → length entries ≤ k → half gone entries k ≡ raw_slots (map (kept_slot gone) entries)
half_full gone entries k h =
    ap (λ (l : List (Option (Entry (List ℕ)))). raw_slots (map (kept_slot gone) l ++ drop k entries)) (take_whole entries k h)
    ∙ ap (λ (l : List (Option (Entry (List ℕ)))). raw_slots (map (kept_slot gone) entries ++ l)) (drop_whole entries k h)
    ∙ ap (λ (l : List (Option (Entry (List ℕ)))). raw_slots l) (append-nil (map (kept_slot gone) entries))

-- a slot by what the test of it said
pub slot_gone : (rows : List RowRef) (items : List (Option (List ℕ))) (slot : ℕ) (is : Option (Entry (List ℕ))) (gone : Bool) → IfSome is (λ e. FitsFields e.0) → item_at items slot ≡ option_map raw_item is
    → (item_at items slot ≡ None → gone ≡ false)
    → ((row : RowRef) (key : List ℕ) → FitsFields row → item_at items slot ≡ Some (leaf_item (λ bytes. bytes) (row, key)) → gone ≡ is_in rows row.number)
    → kept_slot (λ e. is_in rows e.0.number) is ≡ (if gone then None else is)
slot_gone rows items slot None gone fits at none some = let no = none at in rw no refl
slot_gone rows items slot (Some e) gone fits at none some = let is = some e.0 e.1 fits at in rw (← is) refl

pub slot_never : (items : List (Option (List ℕ))) (slot : ℕ) (is : Option (Entry (List ℕ))) → item_at items slot ≡ option_map raw_item is → (item_at items slot ≡ None → ⊥)
    → ((row : RowRef) (key : List ℕ) → item_at items slot ≡ Some (leaf_item (λ bytes. bytes) (row, key)) → ⊥) → ⊥
slot_never items slot None at none some = none at
slot_never items slot (Some e) at none some = some e.0 e.1 at

-- entries with the bytes of their keys
abbrev pub raw : {K : Type 0} → (K → List ℕ) → List (Option (Entry K)) → List (Option (Entry (List ℕ)))
raw bytes entries = map (option_map (λ e. (e.0, bytes e.1))) entries

pub raw_items : {K : Type 0} (bytes : K → List ℕ) (entries : List (Option (Entry K))) → map (option_map (leaf_item bytes)) entries ≡ raw_slots (raw bytes entries)
raw_items bytes [] = refl
raw_items bytes (None ∷ entries) = ap (λ (l : List (Option (List ℕ))). None ∷ l) (raw_items bytes entries)
raw_items bytes (Some e ∷ entries) = ap (λ (l : List (Option (List ℕ))). Some (leaf_item bytes e) ∷ l) (raw_items bytes entries)

pub raw_fits : {K : Type 0} (valid : K → Type 0) (bytes : K → List ℕ) (entries : List (Option (Entry K))) → All (λ slot. IfSome slot (λ e. valid e.1 × FitsFields e.0)) entries
    → All (λ slot. IfSome slot (λ e. FitsFields e.0)) (raw bytes entries)
raw_fits valid bytes [] all = All-nil (λ (slot : Option (Entry (List ℕ))). IfSome slot (λ e. FitsFields e.0))
raw_fits {K} valid bytes (None ∷ entries) all =
    All-cons (λ (slot : Option (Entry (List ℕ))). IfSome slot (λ e. FitsFields e.0)) None (raw bytes entries) tt
    (raw_fits valid bytes entries (All-tail (λ (slot : Option (Entry K)). IfSome slot (λ e. valid e.1 × FitsFields e.0)) None entries all))
raw_fits {K} valid bytes (Some e ∷ entries) all =
    All-cons (λ (slot : Option (Entry (List ℕ))). IfSome slot (λ x. FitsFields x.0)) (Some (e.0, bytes e.1)) (raw bytes entries)
    (All-head (λ (slot : Option (Entry K)). IfSome slot (λ x. valid x.1 × FitsFields x.0)) (Some e) entries all).1
    (raw_fits valid bytes entries (All-tail (λ (slot : Option (Entry K)). IfSome slot (λ x. valid x.1 × FitsFields x.0)) (Some e) entries all))

raw_slot : {K : Type 0} (bytes : K → List ℕ) (rows : List RowRef) (e : Entry K) (b : Bool)
    → (if b then None else Some (leaf_item bytes e)) ≡ option_map (leaf_item bytes) (if b then None else Some e)
raw_slot bytes rows e true = refl
raw_slot bytes rows e false = refl

raw_kept : {K : Type 0} (bytes : K → List ℕ) (rows : List RowRef) (entries : List (Option (Entry K)))
    → raw_slots (map (kept_slot (λ e. is_in rows e.0.number)) (raw bytes entries)) ≡ map (option_map (leaf_item bytes)) (map (kept_slot (λ e. is_in rows e.0.number)) entries)
raw_kept bytes rows [] = refl
raw_kept bytes rows (None ∷ entries) = ap (λ (l : List (Option (List ℕ))). None ∷ l) (raw_kept bytes rows entries)
raw_kept {K} bytes rows (Some e ∷ entries) =
    let rest = raw_kept bytes rows entries in
    elim (is_in rows e.0.number) as (λ b. option_map raw_item (if b then None else Some (e.0, bytes e.1)) ∷ raw_slots (map (kept_slot (λ x. is_in rows x.0.number)) (raw bytes entries))
    ≡ option_map (leaf_item bytes) (if b then None else Some e) ∷ map (option_map (leaf_item bytes)) (map (kept_slot (λ x. is_in rows x.0.number)) entries))
    [ true ↦ ap (λ (l : List (Option (List ℕ))). None ∷ l) rest | false ↦ ap (λ (l : List (Option (List ℕ))). Some (leaf_item bytes e) ∷ l) rest ]

module _ {C V Q K : Type 0} (g : Ghosts C V Q K) (class : C) (pages : PageMap) (count : ℕ) (rows : List RowRef) (node : Node K 0) (old new : Slots) (page : ℕ) (read : IsRead g class pages count 0 node old page)
    (emptied : (entries : List (Option (Entry (List ℕ)))) → All (λ slot. IfSome slot (λ e. FitsFields e.0)) entries → old.items ≡ raw_slots entries
    → new.items ≡ raw_slots (map (kept_slot (λ e. is_in rows e.0.number)) entries))
    (rest : new ≡ record old { items = new.items }) where
  pub items_raw : old.items ≡ raw_slots (raw (g.spelling class) node.1)
  items_raw = ap (λ (s : Slots). s.items) read.is ∙ raw_items (g.spelling class) node.1

  pub fits_raw : All (λ slot. IfSome slot (λ e. FitsFields e.0)) (raw (g.spelling class) node.1)
  fits_raw = raw_fits (g.valid_key class) (g.spelling class) node.1 read.sound.1

  abbrev kept : Node K 0
  kept = stripped (λ e. is_in rows e.0.number) 0 node

  pub slots_kept : new ≡ slots_of (g.spelling class) 0 kept
  slots_kept =
      let items : new.items ≡ map (option_map (leaf_item (g.spelling class))) kept.1 = emptied (raw (g.spelling class) node.1) fits_raw items_raw ∙ raw_kept (g.spelling class) rows node.1 in
      rest ∙ ap (λ (s : Slots). record s { items = new.items }) read.is ∙ ap (λ (l : List (Option (List ℕ))). record { kind = 4; level = 0; next = 0; items = l }) items

  -- it is put, or was as it is
  pub put_kept : (map : PageMap) (bytes : List ℕ) → map ≡ with_page pages page bytes → bytes ≡ spelling new → Fits new
      → Stands map (g.spelling class) 0 kept × ChangesOnly pages map (pages_of K 0 node)
  put_kept map bytes put spelled fits = (
    record {
      some = read.sound.0.some;
      is = ap (λ (m : PageMap). m node.0) put ∙ ap (λ (n : ℕ). with_page pages page bytes n) (sym read.at) ∙ feet.with_same pages page bytes ∙ ap (λ (l : List ℕ). Some l) (spelled ∙ ap (λ (s : Slots). spelling s) slots_kept);
      fits = subst (λ (s : Slots). Fits s) slots_kept fits;
    },
    λ n some outside. ap (λ (m : PageMap). m n) put ∙ feet.with_other pages page bytes n (λ same. outside.0 (same ∙ read.at)),
  )

  pub same_kept : (map : PageMap) → map ≡ pages → new ≡ old → Stands map (g.spelling class) 0 kept × ChangesOnly pages map (pages_of K 0 node)
  same_kept map is same =
      let slots : slots_of (g.spelling class) 0 node ≡ slots_of (g.spelling class) 0 kept = sym read.is ∙ sym same ∙ slots_kept in (
        record {
          some = read.sound.0.some;
          is = ap (λ (m : PageMap). m node.0) is ∙ read.sound.0.is ∙ ap (λ (s : Slots). Some (spelling s)) slots;
          fits = subst (λ (s : Slots). Fits s) slots read.sound.0.fits;
        },
        λ n some outside. ap (λ (m : PageMap). m n) is,
      )

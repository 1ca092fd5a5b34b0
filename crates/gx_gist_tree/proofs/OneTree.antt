-- A map holds at most one tree below a root page.
use Rattle.std.proofs.Common.{◌≡◌, ℕ, zero, suc, ◌^◌, ◌<◌, ◌≤◌, List, [], ◌∷◌, map, take, drop, Option, Some, None, All, refl, sym, ◌∙◌, ap, subst, arith}
use Rattle.std.specs.Prelude.{IfSome}
use Rattle.std.specs.Option.{option_map}
use Rattle.std.proofs.lemmas.List.Elements.{All-head, All-tail}
use Rattle.gx_bytes.specs.Fields.{le16-same, le64-same}
use Rattle.gx_words.specs.PageMap.{PageMap}
use Rattle.gx_gist.specs.declared.class.GistClass.{Ghosts}
use Rattle.gx_slot.specs.Slots.{Slots, Fits, spelling}
use Rattle.gx_slot.proofs.SlotFacts.{is_read}
use Rattle.gx_gist_tree.specs.Trees.{Node, Entry, page_of}
use Rattle.gx_gist_tree.specs.OnPages.{Whole, Holds, IsSound, FitsFields, leaf_item, inner_item, slots_of}
use Rattle.gx_gist_tree.proofs.ItemFacts.{leaf_number, leaf_page, leaf_slot, leaf_key, inner_page, inner_key}
use Rattle.gx_gist_tree.proofs.VisitFacts.{is_on, flat_level}
use Rattle.gx_gist_tree.proofs.HeldFacts.{held_sound}

one_spelled : (p : Option (List ℕ)) (a b : Slots) → p ≡ Some (spelling a) → p ≡ Some (spelling b) → Fits a → Fits b → a ≡ b
one_spelled p a b first second fits other =
    let e : Some (spelling a) ≡ Some (spelling b) = sym first ∙ second in
    let same : spelling a ≡ spelling b = cc in
    sym (is_read (spelling a) a refl fits) ∙ is_read (spelling a) b same other

module _ {C V Q K : Type 0} (g : Ghosts C V Q K) (class : C) (one : (a b : K) → g.valid_key class a → g.valid_key class b → g.spelling class a ≡ g.spelling class b → a ≡ b)
    (leaf_valid : (v : V) → g.valid_value class v → g.valid_key class (g.leaf_of class v)) (pages : PageMap) (count : ℕ) (few : count ≤ 2 ^ 50) where
  abbrev bytes : K → List ℕ
  bytes = g.spelling class

  abbrev Right : Option (Entry K) → Type 0
  Right slot = IfSome slot (λ e. g.valid_key class e.1 × FitsFields e.0)

  one_entry : (a b : Entry K) → g.valid_key class a.1 × FitsFields a.0 → g.valid_key class b.1 × FitsFields b.0 → leaf_item bytes a ≡ leaf_item bytes b → a ≡ b
  one_entry a b va vb same =
      let n : a.0.number ≡ b.0.number = le64-same a.0.number b.0.number va.1.0 vb.1.0 (sym (leaf_number bytes a) ∙ ap (λ (l : List ℕ). take 8 l) same ∙ leaf_number bytes b) in
      let p : a.0.page ≡ b.0.page = le64-same a.0.page b.0.page va.1.1 vb.1.1 (sym (leaf_page bytes a) ∙ ap (λ (l : List ℕ). take 8 (drop 8 l)) same ∙ leaf_page bytes b) in
      let s : a.0.slot ≡ b.0.slot = le16-same a.0.slot b.0.slot va.1.2 vb.1.2 (sym (leaf_slot bytes a) ∙ ap (λ (l : List ℕ). take 2 (drop 16 l)) same ∙ leaf_slot bytes b) in
      let k : a.1 ≡ b.1 = one a.1 b.1 va.0 vb.0 (sym (leaf_key bytes a) ∙ ap (λ (l : List ℕ). drop 18 l) same ∙ leaf_key bytes b) in
      λ i. (record { number = n i; page = p i; slot = s i }, k i)

  one_slot : (a b : Option (Entry K)) → Right a → Right b → option_map (leaf_item bytes) a ≡ option_map (leaf_item bytes) b → a ≡ b
  one_slot None None ra rb same = refl
  one_slot None (Some b) ra rb same = cc
  one_slot (Some a) None ra rb same = cc
  one_slot (Some a) (Some b) ra rb same = let e : leaf_item bytes a ≡ leaf_item bytes b = cc in ap (λ (x : Entry K). Some x) (one_entry a b ra rb e)

  one_slots : (xs ys : List (Option (Entry K))) → All Right xs → All Right ys → map (option_map (leaf_item bytes)) xs ≡ map (option_map (leaf_item bytes)) ys → xs ≡ ys
  one_slots [] [] ax ay same = refl
  one_slots [] (y ∷ ys) ax ay same = cc
  one_slots (x ∷ xs) [] ax ay same = cc
  one_slots (x ∷ xs) (y ∷ ys) ax ay same =
      let head : option_map (leaf_item bytes) x ≡ option_map (leaf_item bytes) y = cc in
      let tail : map (option_map (leaf_item bytes)) xs ≡ map (option_map (leaf_item bytes)) ys = cc in
      let first = one_slot x y (All-head Right x xs ax) (All-head Right y ys ay) head in
      let rest = one_slots xs ys (All-tail Right x xs ax) (All-tail Right y ys ay) tail in
      λ i. first i ∷ rest i

  abbrev Kept : (level : ℕ) → K × Node K level → Type 0
  Kept level item = g.valid_key class item.0 × (page_of K level item.1 < count) × IsSound g class pages count level item.1

  abbrev item_of : (level : ℕ) → K × Node K level → Option (List ℕ)
  item_of level item = Some (inner_item bytes (page_of K level item.1) item.0)

  one_item : (level : ℕ) → ((a b : Node K level) → IsSound g class pages count level a → IsSound g class pages count level b → page_of K level a ≡ page_of K level b → a ≡ b)
      → (a b : K × Node K level) → Kept level a → Kept level b → item_of level a ≡ item_of level b → a ≡ b
  one_item level step a b ka kb same =
      let e : inner_item bytes (page_of K level a.1) a.0 ≡ inner_item bytes (page_of K level b.1) b.0 = cc in
      let la = ka.1 in
      let lb = kb.1 in
      let page : page_of K level a.1 ≡ page_of K level b.1 = le64-same (page_of K level a.1) (page_of K level b.1) (omega (arith, la, few)) (omega (arith, lb, few))
      (sym (inner_page bytes (page_of K level a.1) a.0) ∙ ap (λ (l : List ℕ). take 8 l) e ∙ inner_page bytes (page_of K level b.1) b.0) in
      let key : a.0 ≡ b.0 = one a.0 b.0 ka.0 kb.0 (sym (inner_key bytes (page_of K level a.1) a.0) ∙ ap (λ (l : List ℕ). drop 8 l) e ∙ inner_key bytes (page_of K level b.1) b.0) in
      let node = step a.1 b.1 ka.2 kb.2 page in
      λ i. (key i, node i)

  one_items : (level : ℕ) → ((a b : Node K level) → IsSound g class pages count level a → IsSound g class pages count level b → page_of K level a ≡ page_of K level b → a ≡ b)
      → (xs ys : List (K × Node K level)) → All (Kept level) xs → All (Kept level) ys → map (item_of level) xs ≡ map (item_of level) ys → xs ≡ ys
  one_items level step [] [] ax ay same = refl
  one_items level step [] (y ∷ ys) ax ay same = cc
  one_items level step (x ∷ xs) [] ax ay same = cc
  one_items level step (x ∷ xs) (y ∷ ys) ax ay same =
      let head : item_of level x ≡ item_of level y = cc in
      let tail : map (item_of level) xs ≡ map (item_of level) ys = cc in
      let first = one_item level step x y (All-head (Kept level) x xs ax) (All-head (Kept level) y ys ay) head in
      let rest = one_items level step xs ys (All-tail (Kept level) x xs ax) (All-tail (Kept level) y ys ay) tail in
      λ i. first i ∷ rest i

  slots_equal : (level other : ℕ) (a : Node K level) (b : Node K other) → IsSound g class pages count level a → IsSound g class pages count other b → page_of K level a ≡ page_of K other b
      → slots_of bytes level a ≡ slots_of bytes other b
  slots_equal level other a b sa sb same =
      let first = is_on g class pages count level a sa in
      let second = is_on g class pages count other b sb in
      one_spelled (pages (page_of K level a)) (slots_of bytes level a) (slots_of bytes other b) first.is (ap (λ (n : ℕ). pages n) same ∙ second.is) first.fits second.fits

  one_node : (level : ℕ) (a b : Node K level) → IsSound g class pages count level a → IsSound g class pages count level b → page_of K level a ≡ page_of K level b → a ≡ b
  one_node zero a b sa sb same =
      let slots = one_slots a.1 b.1 sa.1 sb.1 (ap (λ (s : Slots). s.items) (slots_equal zero zero a b sa sb same)) in
      λ i. (same i, slots i)
  one_node (suc level) a b sa sb same =
      let items = one_items level (one_node level) a.1 b.1 sa.1 sb.1 (ap (λ (s : Slots). s.items) (slots_equal (suc level) (suc level) a b sa sb same)) in
      λ i. (same i, items i)

  pub one_whole : (root : ℕ) (tree other : Whole K) → Holds g class pages count root tree → Holds g class pages count root other → tree ≡ other
  one_whole root tree other held also =
      let sa = held_sound g class leaf_valid pages count root tree held in
      let sb = held_sound g class leaf_valid pages count root other also in
      let page : page_of K tree.0 tree.1 ≡ page_of K other.0 other.1 = held.begins ∙ sym also.begins in
      let level : tree.0 ≡ other.0 =
      sym (flat_level g class pages count tree.0 tree.1) ∙ ap (λ (s : Slots). s.level) (slots_equal tree.0 other.0 tree.1 other.1 sa sb page) ∙ flat_level g class pages count other.0 other.1 in
      let whole : (n : ℕ) → Node K n → Whole K = λ n x. (n, x) in
      subst (λ (n : ℕ). (b : Node K n) → IsSound g class pages count n b → page_of K tree.0 tree.1 ≡ page_of K n b → whole tree.0 tree.1 ≡ whole n b) level
      (λ b s p. ap (λ (x : Node K tree.0). whole tree.0 x) (one_node tree.0 tree.1 b sa s p)) other.1 sb page

-- A map holds one tree at most below a page.
use Rattle.std.proofs.Common.{◌≡◌, ◌≢◌, ℕ, zero, suc, ◌+◌, ◌^◌, ◌<◌, ◌≤◌, List, [], ◌∷◌, ◌++◌, length, map, take, drop, Option, Some, None, refl, sym, ◌∙◌, ap, ap₂, subst, length-append, arith}
use Rattle.std.specs.List.{AllByRecursion, flat_map}
use Rattle.std.proofs.lemmas.List.{drop_at, map-append, take_at}
use Rattle.gx_bytes.specs.Fields.{le64, le64-same, length-le64}
use Rattle.gx_words.specs.PageMap.{PageMap}
use Rattle.gx_pages.proofs.Footprints as feet_of
use Rattle.gx_slot.specs.Slots.{Fits, Slots, spelling}
use Rattle.gx_slot.proofs.SlotFacts.{is_read}
use Rattle.gx_tree.specs.Trees.{Holds, IsOn, Node, Stand, Tree, children, entries, entries_of, footprint, link, named, page_of, pages_of, slots_of}
use Rattle.gx_tree.proofs.Lists.{all_map, all_unmap, map_map}
use Rattle.gx_tree.proofs.Nodes.{pages_suc, root_on, row_all, slots_level}

-- lists of which the first parts are as long
fronts_same : (a b c d : List ℕ) → length a ≡ length c → a ++ b ≡ c ++ d → (a ≡ c) × (b ≡ d)
fronts_same a b c d long same = (
  sym (take_at a b (length a) refl) ∙ ap (λ (l : List ℕ). take (length a) l) same ∙ take_at c d (length a) (sym long),
  sym (drop_at a b (length a) refl) ∙ ap (λ (l : List ℕ). drop (length a) l) same ∙ drop_at c d (length a) (sym long),
)

abbrev Small : ℕ → Type 0
Small n = n < 2 ^ 64

items_once : (xs ys : List (List ℕ)) → map (λ item. Some item) xs ≡ map (λ item. Some item) ys → xs ≡ ys
items_once [] [] same = refl
items_once [] (y ∷ ys) same = absurd (let e = ap (λ (l : List (Option (List ℕ))). length l) same in omega (arith, e))
items_once (x ∷ xs) [] same = absurd (let e = ap (λ (l : List (Option (List ℕ))). length l) same in omega (arith, e))
items_once (x ∷ xs) (y ∷ ys) same =
    let head : x ≡ y = cc in
    let tail : map (λ item. Some item) xs ≡ map (λ item. Some item) ys = cc in
    ap₂ (λ (i : List ℕ) (l : List (List ℕ)). i ∷ l) head (items_once xs ys tail)

link_once : (x y : List ℕ × ℕ) → Small x.1 → Small y.1 → x.0 ++ le64 x.1 ≡ y.0 ++ le64 y.1 → x ≡ y
link_once x y short small same =
    let size = ap (λ (l : List ℕ). length l) same in
    let parts = fronts_same x.0 (le64 x.1) y.0 (le64 y.1) (omega (arith, size, length-append x.0 (le64 x.1), length-append y.0 (le64 y.1), length-le64 x.1, length-le64 y.1)) same in
    ap₂ (λ (l : List ℕ) (n : ℕ). (l, n)) parts.0 (le64-same x.1 y.1 short small parts.1)

links_once : (xs ys : List (List ℕ × ℕ)) → AllByRecursion (λ x. Small x.1) xs → AllByRecursion (λ x. Small x.1) ys → map link xs ≡ map link ys → xs ≡ ys
links_once [] [] short small same = refl
links_once [] (y ∷ ys) short small same = absurd (let e = ap (λ (l : List (Option (List ℕ))). length l) same in omega (arith, e))
links_once (x ∷ xs) [] short small same = absurd (let e = ap (λ (l : List (Option (List ℕ))). length l) same in omega (arith, e))
links_once (x ∷ xs) (y ∷ ys) short small same =
    let head : x.0 ++ le64 x.1 ≡ y.0 ++ le64 y.1 = cc in
    let tail : map link xs ≡ map link ys = cc in
    ap₂ (λ (i : List ℕ × ℕ) (l : List (List ℕ × ℕ)). i ∷ l) (link_once x y short.0 small.0 head) (links_once xs ys short.1 small.1 tail)

abbrev names : (level : ℕ) → List (Node (suc level)) → List (List (List ℕ × ℕ))
names level nodes = map (λ node. named level node.1) nodes

pages_children : (level : ℕ) (nodes : List (Node (suc level))) → map (page_of level) (children level nodes) ≡ flat_map (λ (l : List (List ℕ × ℕ)). map (λ p. p.1) l) (names level nodes)
pages_children level [] = refl
pages_children level (x ∷ nodes) =
    map-append (page_of level) (map (λ (i : List ℕ × Node level). i.1) x.1) (children level nodes)
    ∙ ap₂ (λ (a b : List ℕ). a ++ b)
    (map_map (λ (i : List ℕ × Node level). i.1) (page_of level) x.1 ∙ sym (map_map (λ (i : List ℕ × Node level). (i.0, page_of level i.1)) (λ (p : List ℕ × ℕ). p.1) x.1))
    (pages_children level nodes)

small_named : (level : ℕ) (x : Node (suc level)) (nodes : List (Node (suc level))) → AllByRecursion Small (map (page_of level) (children level (x ∷ nodes)))
    → AllByRecursion (λ p. Small p.1) (named level x.1) × AllByRecursion Small (map (page_of level) (children level nodes))
small_named level x nodes all =
    let cut = subst (λ (l : List ℕ). AllByRecursion Small l) (map-append (page_of level) (map (λ (i : List ℕ × Node level). i.1) x.1) (children level nodes)) all in
    let here = feet_of.all_left Small (map (page_of level) (map (λ (i : List ℕ × Node level). i.1) x.1)) (map (page_of level) (children level nodes)) cut in
    let one = subst (λ (l : List ℕ). AllByRecursion Small l) (map_map (λ (i : List ℕ × Node level). i.1) (page_of level) x.1) here in (
      all_map (λ (i : List ℕ × Node level). (i.0, page_of level i.1)) (λ (p : List ℕ × ℕ). Small p.1) x.1 (all_unmap (λ (i : List ℕ × Node level). page_of level i.1) Small x.1 one),
      feet_of.all_right Small (map (page_of level) (map (λ (i : List ℕ × Node level). i.1) x.1)) (map (page_of level) (children level nodes)) cut,
    )

split_named : (level : ℕ) (xs ys : List (List ℕ × Node level)) (r s : List (Node level)) → named level xs ≡ named level ys → map (λ i. i.1) xs ++ r ≡ map (λ i. i.1) ys ++ s → (xs ≡ ys) × (r ≡ s)
split_named level [] [] r s same flat = (refl, flat)
split_named level [] (y ∷ ys) r s same flat = absurd (let e = ap (λ (l : List (List ℕ × ℕ)). length l) same in omega (arith, e))
split_named level (x ∷ xs) [] r s same flat = absurd (let e = ap (λ (l : List (List ℕ × ℕ)). length l) same in omega (arith, e))
split_named level (x ∷ xs) (y ∷ ys) r s same flat =
    let head : (x.0, page_of level x.1) ≡ (y.0, page_of level y.1) = cc in
    let tail : named level xs ≡ named level ys = cc in
    let node : x.1 ≡ y.1 = cc in
    let rest : map (λ i. i.1) xs ++ r ≡ map (λ i. i.1) ys ++ s = cc in
    let more = split_named level xs ys r s tail rest in
    (ap₂ (λ (i : List ℕ × Node level) (l : List (List ℕ × Node level)). i ∷ l) (ap₂ (λ (k : List ℕ) (n : Node level). (k, n)) (ap (λ (p : List ℕ × ℕ). p.0) head) node) more.0, more.1)

rebuild : (level : ℕ) (a b : List (Node (suc level))) → map (λ node. node.0) a ≡ map (λ node. node.0) b → names level a ≡ names level b → children level a ≡ children level b → a ≡ b
rebuild level [] [] pages are kids = refl
rebuild level [] (y ∷ b) pages are kids = absurd (let e = ap (λ (l : List ℕ). length l) pages in omega (arith, e))
rebuild level (x ∷ a) [] pages are kids = absurd (let e = ap (λ (l : List ℕ). length l) pages in omega (arith, e))
rebuild level (x ∷ a) (y ∷ b) pages are kids =
    let page : x.0 ≡ y.0 = cc in
    let others : map (λ node. node.0) a ≡ map (λ node. node.0) b = cc in
    let head : named level x.1 ≡ named level y.1 = cc in
    let tail : names level a ≡ names level b = cc in
    let both = split_named level x.1 y.1 (children level a) (children level b) head kids in
    ap₂ (λ (n : Node (suc level)) (l : List (Node (suc level))). n ∷ l) (ap₂ (λ (n : ℕ) (l : List (List ℕ × Node level)). (n, l)) page both.0) (rebuild level a b others tail both.1)

module _ (now : PageMap) (kind : ℕ) where
  slots_once : (k l : ℕ) (x : Node k) (y : Node l) → page_of k x ≡ page_of l y → IsOn now kind k x → IsOn now kind l y → slots_of kind k x ≡ slots_of kind l y
  slots_once k l x y same first second =
      let both : Some (spelling (slots_of kind k x)) ≡ Some (spelling (slots_of kind l y)) = sym first.is ∙ ap (λ (n : ℕ). now n) same ∙ second.is in
      let bytes : spelling (slots_of kind k x) ≡ spelling (slots_of kind l y) = cc in
      sym (is_read (spelling (slots_of kind k x)) (slots_of kind k x) refl first.fits) ∙ is_read (spelling (slots_of kind k x)) (slots_of kind l y) bytes second.fits

  leaves_once : (a b : List (Node 0)) → map (page_of 0) a ≡ map (page_of 0) b → AllByRecursion (IsOn now kind 0) a → AllByRecursion (IsOn now kind 0) b → a ≡ b
  leaves_once [] [] same first second = refl
  leaves_once [] (y ∷ b) same first second = absurd (let e = ap (λ (l : List ℕ). length l) same in omega (arith, e))
  leaves_once (x ∷ a) [] same first second = absurd (let e = ap (λ (l : List ℕ). length l) same in omega (arith, e))
  leaves_once (x ∷ a) (y ∷ b) same first second =
      let page : x.0 ≡ y.0 = cc in
      let others : map (page_of 0) a ≡ map (page_of 0) b = cc in
      let items = items_once x.1 y.1 (ap (λ (s : Slots). s.items) (slots_once 0 0 x y page first.0 second.0)) in
      ap₂ (λ (n : Node 0) (l : List (Node 0)). n ∷ l) (ap₂ (λ (n : ℕ) (l : List (List ℕ)). (n, l)) page items) (leaves_once a b others first.1 second.1)

  names_once : (level : ℕ) (a b : List (Node (suc level))) → map (λ node. node.0) a ≡ map (λ node. node.0) b → AllByRecursion (IsOn now kind (suc level)) a → AllByRecursion (IsOn now kind (suc level)) b
      → AllByRecursion Small (map (page_of level) (children level a)) → AllByRecursion Small (map (page_of level) (children level b)) → names level a ≡ names level b
  names_once level [] [] same first second short small = refl
  names_once level [] (y ∷ b) same first second short small = absurd (let e = ap (λ (l : List ℕ). length l) same in omega (arith, e))
  names_once level (x ∷ a) [] same first second short small = absurd (let e = ap (λ (l : List ℕ). length l) same in omega (arith, e))
  names_once level (x ∷ a) (y ∷ b) same first second short small =
      let page : x.0 ≡ y.0 = cc in
      let others : map (λ node. node.0) a ≡ map (λ node. node.0) b = cc in
      let one = small_named level x a short in
      let other = small_named level y b small in
      let items = links_once (named level x.1) (named level y.1) one.0 other.0 (ap (λ (s : Slots). s.items) (slots_once (suc level) (suc level) x y page first.0 second.0)) in
      ap₂ (λ (n : List (List ℕ × ℕ)) (l : List (List (List ℕ × ℕ))). n ∷ l) items (names_once level a b others first.1 second.1 one.1 other.1)

  nodes_once : (level : ℕ) (a b : List (Node level)) → map (page_of level) a ≡ map (page_of level) b → Stand now kind level a → Stand now kind level b → AllByRecursion Small (pages_of level a) → AllByRecursion Small (pages_of level b) → a ≡ b
  nodes_once zero a b same first second short small = leaves_once a b same first second
  nodes_once (suc level) a b same first second short small =
      let below = feet_of.all_right Small (map (λ (node : Node (suc level)). node.0) a) (pages_of level (children level a)) (subst (λ (l : List ℕ). AllByRecursion Small l) (pages_suc level a) short) in
      let under = feet_of.all_right Small (map (λ (node : Node (suc level)). node.0) b) (pages_of level (children level b)) (subst (λ (l : List ℕ). AllByRecursion Small l) (pages_suc level b) small) in
      let are = names_once level a b same first.0 second.0 (row_all Small level (children level a) below) (row_all Small level (children level b) under) in
      let kids : map (page_of level) (children level a) ≡ map (page_of level) (children level b) =
      pages_children level a ∙ ap (λ (l : List (List (List ℕ × ℕ))). flat_map (λ (k : List (List ℕ × ℕ)). map (λ p. p.1) k) l) are ∙ sym (pages_children level b) in
      rebuild level a b same are (nodes_once level (children level a) (children level b) kids first.1 second.1 below under)

  module _ (count root : ℕ) (bound : count ≤ 2 ^ 64) where
    all_small : (list : List ℕ) → AllByRecursion (λ page. page < count) list → AllByRecursion Small list
    all_small list below = feet_of.all_weaker (λ (n : ℕ). n < count) Small list (λ n low. omega (arith, low, bound)) below

    pub tree_once : (s t : Tree) → Holds now count kind root s → Holds now count kind root t → (entries s ≡ entries t) × (footprint s ≡ footprint t)
    tree_once s t first second =
        let slots = slots_once s.0 t.0 s.1 t.1 (first.begins ∙ sym second.begins) (root_on now kind s.0 s.1 first.stand) (root_on now kind t.0 t.1 second.stand) in
        let level : s.0 ≡ t.0 = sym (slots_level kind s.0 s.1) ∙ ap (λ (p : Slots). p.level) slots ∙ slots_level kind t.0 t.1 in
        let P : ℕ → Type 0 = λ (l : ℕ). (node : Node l) → page_of l node ≡ root → Stand now kind l (node ∷ []) → AllByRecursion Small (pages_of l (node ∷ []))
        → (entries_of s.0 (s.1 ∷ []) ≡ entries_of l (node ∷ [])) × (pages_of s.0 (s.1 ∷ []) ≡ pages_of l (node ∷ [])) in
        let here : P s.0 = λ node begins stand small.
        (let same = nodes_once s.0 (s.1 ∷ []) (node ∷ []) (ap (λ (n : ℕ). n ∷ []) (first.begins ∙ sym begins)) first.stand stand (all_small (footprint s) first.below) small in
        (ap (λ (l : List (Node s.0)). entries_of s.0 l) same, ap (λ (l : List (Node s.0)). pages_of s.0 l) same)) in
        subst P level here t.1 second.begins second.stand (all_small (footprint t) second.below)

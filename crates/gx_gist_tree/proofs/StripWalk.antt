-- A walk that takes rows out, page by page.
use Rattle.std.proofs.Common.{◌≡◌, ◌≢◌, ℕ, zero, suc, ◌+◌, Bool, List, [], ◌∷◌, ◌++◌, map, take, Option, Some, All, refl, sym, ◌∙◌, ap, subst, append_assoc}
use Rattle.std.specs.List.{AllByRecursion, flat_map}
use Rattle.std.proofs.lemmas.List.Elements.{All-nil, All-cons}
use Rattle.gx_words.specs.PageMap.{PageMap}
use Rattle.gx_pages.specs.Frees.{IsApart}
use Rattle.gx_pages.specs.Footprints.{IsOutside, ChangesOnly}
use Rattle.gx_pages.proofs.Footprints as feet
use Rattle.gx_gist.specs.declared.class.GistClass.{Ghosts}
use Rattle.gx_slot.specs.Slots.{Slots, Fits, spelling}
use Rattle.gx_gist_tree.specs.Trees.{Node, Entry, page_of, pages_of, stripped}
use Rattle.gx_gist_tree.specs.OnPages.{Stands, IsRead, IsBelow, inner_item, slots_of}
use Rattle.gx_gist_tree.proofs.Places.{At, flat_more, flat_split}
use Rattle.gx_gist_tree.proofs.VisitFacts.{below_pages, is_below}
use Rattle.gx_gist_tree.proofs.StayFacts.{apart_swap, stands_same, stands_some, sound_stands, sound_same, unchanged}

-- the pages stay the same ones
pub page_stripped : {K : Type 0} (gone : Entry K → Bool) (level : ℕ) (node : Node K level) → page_of K level (stripped gone level node) ≡ page_of K level node
page_stripped gone zero node = refl
page_stripped gone (suc level) node = refl

pages_items : {K : Type 0} (gone : Entry K → Bool) (level : ℕ) → ((node : Node K level) → pages_of K level (stripped gone level node) ≡ pages_of K level node)
    → (items : List (K × Node K level)) → flat_map (λ (item : K × Node K level). pages_of K level item.1) (map (λ (item : K × Node K level). (item.0, stripped gone level item.1)) items)
    ≡ flat_map (λ (item : K × Node K level). pages_of K level item.1) items
pages_items gone level step [] = refl
pages_items {K} gone level step (item ∷ items) =
    ap (λ (l : List ℕ). l ++ flat_map (λ (i : K × Node K level). pages_of K level i.1) (map (λ (i : K × Node K level). (i.0, stripped gone level i.1)) items)) (step item.1)
    ∙ ap (λ (l : List ℕ). pages_of K level item.1 ++ l) (pages_items gone level step items)

pub pages_stripped : {K : Type 0} (gone : Entry K → Bool) (level : ℕ) (node : Node K level) → pages_of K level (stripped gone level node) ≡ pages_of K level node
pages_stripped gone zero node = refl
pages_stripped gone (suc level) node = ap (λ (l : List ℕ). node.0 ∷ l) (pages_items gone level (pages_stripped gone level) node.1)

items_same : {K : Type 0} (bytes : K → List ℕ) (gone : Entry K → Bool) (level : ℕ) (items : List (K × Node K level))
    → map (λ (item : K × Node K level). Some (inner_item bytes (page_of K level item.1) item.0)) (map (λ (item : K × Node K level). (item.0, stripped gone level item.1)) items)
    ≡ map (λ (item : K × Node K level). Some (inner_item bytes (page_of K level item.1) item.0)) items
items_same bytes gone level [] = refl
items_same {K} bytes gone level (item ∷ items) =
    ap (λ (n : ℕ). Some (inner_item bytes n item.0) ∷ map (λ (i : K × Node K level). Some (inner_item bytes (page_of K level i.1) i.0)) (map (λ (i : K × Node K level). (i.0, stripped gone level i.1)) items)) (page_stripped gone level item.1)
    ∙ ap (λ (l : List (Option (List ℕ))). Some (inner_item bytes (page_of K level item.1) item.0) ∷ l) (items_same bytes gone level items)

module _ {C V Q K : Type 0} (g : Ghosts C V Q K) (class : C) (old : PageMap) (count : ℕ) (below : ℕ) (node : Node K (suc below)) (slots : Slots) (page : ℕ)
    (read : IsRead g class old count (suc below) node slots page) (apart : IsApart (pages_of K (suc below) node)) where
  some : AllByRecursion (λ n. n ≢ 0) (pages_of K (suc below) node)
  some = stands_some old (g.spelling class) (suc below) node (sound_stands g class count old (suc below) node read.sound)

  module _ (k : ℕ) (a : At node.1 k) where
    abbrev done : List ℕ
    done = flat_map (below_pages K below) (take k node.1)

    abbrev here : List ℕ
    here = pages_of K below a.item.1

    abbrev rest : List ℕ
    rest = flat_map (below_pages K below) a.back

    cut : pages_of K (suc below) node ≡ (node.0 ∷ done) ++ (here ++ rest)
    cut = ap (λ (l : List ℕ). node.0 ∷ l) (flat_split (below_pages K below) node.1 k a)

    apart_cut : IsApart (done ++ (here ++ rest))
    apart_cut = (subst (λ (l : List ℕ). IsApart l) cut apart).1

    pub apart_here : IsApart here
    apart_here = feet.apart_left here rest (feet.apart_right done (here ++ rest) apart_cut)

    apart_both : IsApart (done ++ here)
    apart_both = feet.apart_left (done ++ here) rest (subst (λ (l : List ℕ). IsApart l) (sym (append_assoc done here rest)) apart_cut)

    outside_done : AllByRecursion (λ n. IsOutside n done) here
    outside_done = feet.apart_each done here apart_both

    outside_here : AllByRecursion (λ n. IsOutside n here) done
    outside_here = feet.apart_each here done (apart_swap done here apart_both)

    some_done : AllByRecursion (λ n. n ≢ 0) done
    some_done = feet.all_left (λ (n : ℕ). n ≢ 0) done (here ++ rest) (subst (λ (l : List ℕ). AllByRecursion (λ (n : ℕ). n ≢ 0) l) cut some).1

    -- an item that wasn't come to is there still
    pub item_now : (now : PageMap) → ChangesOnly old now done → IsBelow g class now count below a.item.0 a.item.1 slots k
    item_now now only =
        let was = is_below g class old count below node slots page read k a in
        record {
          valid = was.valid;
          below = was.below;
          sound = sound_same g class count old now below a.item.1 (unchanged g class count old now done below a.item.1 only was.sound outside_done) was.sound;
          is = was.is;
        }

    pub only_more : (now new : PageMap) → ChangesOnly old now done → ChangesOnly now new here → ChangesOnly old new (flat_map (below_pages K below) (take (k + 1) node.1))
    only_more now new first second n nonzero outside =
        let parts : IsOutside n (done ++ here) = subst (λ (l : List ℕ). IsOutside n l) (flat_more (below_pages K below) node.1 k a) outside in
        second n nonzero (feet.all_right (λ (m : ℕ). n ≢ m) done here parts) ∙ first n nonzero (feet.all_left (λ (m : ℕ). n ≢ m) done here parts)

    -- what was done stays
    module _ (gone : Entry K → Bool) (now new : PageMap) (only : ChangesOnly now new here) where
      stay_all : (items : List (K × Node K below)) → AllByRecursion (λ n. new n ≡ now n) (flat_map (below_pages K below) items)
          → AllByRecursion (λ item. Stands now (g.spelling class) below (stripped gone below item.1)) items → AllByRecursion (λ item. Stands new (g.spelling class) below (stripped gone below item.1)) items
      stay_all [] same all = tt
      stay_all (item ∷ items) same all = (
        stands_same now new (g.spelling class) below (stripped gone below item.1)
            (subst (λ (l : List ℕ). AllByRecursion (λ (n : ℕ). new n ≡ now n) l) (sym (pages_stripped gone below item.1))
            (feet.all_left (λ (n : ℕ). new n ≡ now n) (pages_of K below item.1) (flat_map (below_pages K below) items) same)) all.0,
        stay_all items (feet.all_right (λ (n : ℕ). new n ≡ now n) (pages_of K below item.1) (flat_map (below_pages K below) items) same) all.1,
      )

      pub done_more : AllByRecursion (λ item. Stands now (g.spelling class) below (stripped gone below item.1)) (take k node.1) → Stands new (g.spelling class) below (stripped gone below a.item.1)
          → AllByRecursion (λ item. Stands new (g.spelling class) below (stripped gone below item.1)) (take (k + 1) node.1)
      done_more before one =
          subst (λ (l : List (K × Node K below)). AllByRecursion (λ item. Stands new (g.spelling class) below (stripped gone below item.1)) l) (sym a.more)
          (feet.all_join (λ (item : K × Node K below). Stands new (g.spelling class) below (stripped gone below item.1)) (take k node.1) (a.item ∷ [])
          (stay_all (take k node.1) (feet.all_same now new here done only some_done outside_here) before) (one, tt))

  -- all items are done
  module _ (gone : Entry K → Bool) (now : PageMap) (only : ChangesOnly old now (flat_map (below_pages K below) node.1)) where
    all_items : (items : List (K × Node K below)) → AllByRecursion (λ item. Stands now (g.spelling class) below (stripped gone below item.1)) items
        → All (λ (item : K × Node K below). Stands now (g.spelling class) below item.1) (map (λ (item : K × Node K below). (item.0, stripped gone below item.1)) items)
    all_items [] all = All-nil (λ (item : K × Node K below). Stands now (g.spelling class) below item.1)
    all_items (item ∷ items) all =
        All-cons (λ (i : K × Node K below). Stands now (g.spelling class) below i.1) (item.0, stripped gone below item.1)
        (map (λ (i : K × Node K below). (i.0, stripped gone below i.1)) items) all.0 (all_items items all.1)

    slots_same : slots_of (g.spelling class) (suc below) node ≡ slots_of (g.spelling class) (suc below) (stripped gone (suc below) node)
    slots_same = ap (λ (l : List (Option (List ℕ))). record { kind = 4; level = suc below; next = 0; items = l }) (sym (items_same (g.spelling class) gone below node.1))

    pub all_done : AllByRecursion (λ item. Stands now (g.spelling class) below (stripped gone below item.1)) node.1
        → Stands now (g.spelling class) (suc below) (stripped gone (suc below) node) × ChangesOnly old now (pages_of K (suc below) node)
    all_done all = (
      (
        record {
          some = read.sound.0.some;
          is = only node.0 read.sound.0.some apart.0 ∙ read.sound.0.is ∙ ap (λ (s : Slots). Some (spelling s)) slots_same;
          fits = subst (λ (s : Slots). Fits s) slots_same read.sound.0.fits;
        },
        all_items node.1 all,
      ),
      λ n nonzero outside. only n nonzero outside.1,
    )

-- A step of a walk over a row of pages.
use Rattle.std.proofs.Common.{◌≡◌, ◌≢◌, ⊎_elim, ℕ, zero, suc, ◌+◌, ◌-◌, ◌^◌, ◌<◌, ◌≤◌, ◌==◌, Bool, true, false, List, [], ◌∷◌, ◌++◌, length, map, take, drop, get_or, Option, Some, None, refl, sym, ◌∙◌, ap, subst, append_assoc, append-nil, length-append, arith}
use Rattle.std.specs.List.{AllByRecursion, flat_map, list_any}
use Rattle.std.proofs.lemmas.List.{map-append, length-map, take-map}
use Rattle.std.proofs.lemmas.Bool.Decides.{eqb_tells}
use Rattle.gx_words.specs.PageMap.{PageMap}
use Rattle.gx_pages.specs.Frees.{IsApart}
use Rattle.gx_pages.specs.Footprints.{IsOutside}
use Rattle.gx_pages.proofs.Footprints as feet
use Rattle.gx_slot.specs.Slots.{Slots, Fits, spelling}
use Rattle.gx_chain.proofs.Links.{one_spelled}
use Rattle.gx_tree.specs.Trees.{Node, Leaf, IsOn, Stand, Row, children, leaves_of, uppers_of, numbers, page_of, pages_of, named, link, slots_of, Holds, LacksPage}
use Rattle.gx_tree.proofs.Lists.{At, at_place, get_at, all_place, map_map, all_map, all_unmap}
use Rattle.gx_tree.proofs.Nodes.{children_append, pages_suc, row_all}

-- a page that is seen stands among those seen
pub not_seen : (page : ℕ) (pages : List ℕ) → IsOutside page pages → list_any (λ other. other == page) pages ≡ false
not_seen page [] out = refl
not_seen page (other ∷ pages) out =
    ⊎_elim (λ same. absurd (out.0 (sym same.1))) (λ differ. rw (differ.0) (not_seen page pages out.1)) (eqb_tells other page)

module _ (now : PageMap) (count kind level : ℕ) (seen row : List ℕ) (nodes : List (Node (suc level))) (is_row : Row now count kind seen row (suc level) nodes) where
  all_pages : IsApart (seen ++ (map (λ node. node.0) nodes ++ pages_of level (children level nodes)))
  all_pages = subst (λ (l : List ℕ). IsApart (seen ++ l)) (pages_suc level nodes) is_row.apart

  all_below : AllByRecursion (λ page. page < count) (map (λ node. node.0) nodes ++ pages_of level (children level nodes))
  all_below = subst (λ (l : List ℕ). AllByRecursion (λ (page : ℕ). page < count) l) (pages_suc level nodes) is_row.below

  -- the row below
  pub row_next : (next : List ℕ) → next ≡ map (page_of level) (children level nodes) → Row now count kind (seen ++ row) next level (children level nodes)
  row_next next is = record {
    stand = is_row.stand.1;
    apart = subst (λ (l : List ℕ). IsApart l) (sym (append_assoc seen (map (λ (node : Node (suc level)). node.0) nodes) (pages_of level (children level nodes)))
        ∙ ap (λ (l : List ℕ). seen ++ l ++ pages_of level (children level nodes)) (sym is_row.are)) all_pages;
    below = feet.all_right (λ (page : ℕ). page < count) (map (λ (node : Node (suc level)). node.0) nodes) (pages_of level (children level nodes)) all_below;
    are = is;
  }

  pub len : length nodes ≡ length row
  len = sym (length-map nodes (λ (node : Node (suc level)). node.0)) ∙ ap (λ (l : List ℕ). length l) (sym is_row.are)

  module _ (i page : ℕ) (below : i < length row) (at : get_or row i page ≡ page) where
    abbrev here : i < length nodes
    here = omega (arith, below, len)

    abbrev node : Node (suc level)
    node = (at_place nodes i (omega (arith, below, len))).item

    is_page : node.0 ≡ page
    is_page =
        let read : get_or (map (λ (x : Node (suc level)). x.0) nodes) i page ≡ node.0 = get_at (λ (x : Node (suc level)). x.0) nodes i (omega (arith, below, len)) page in
        sym read ∙ ap (λ (l : List ℕ). get_or l i page) (sym is_row.are) ∙ at

    on : IsOn now kind (suc level) node
    on = all_place (λ (x : Node (suc level)). IsOn now kind (suc level) x) nodes i (omega (arith, below, len)) is_row.stand.0

    on_page : now page ≡ Some (spelling (slots_of kind (suc level) node))
    on_page = ap (λ (n : ℕ). now n) (sym is_page) ∙ on.is

    page_below : page < count
    page_below =
        let mine : AllByRecursion (λ (x : Node (suc level)). x.0 < count) nodes =
        all_unmap (λ (x : Node (suc level)). x.0) (λ (p : ℕ). p < count) nodes (feet.all_left (λ (p : ℕ). p < count) (map (λ (x : Node (suc level)). x.0) nodes) (pages_of level (children level nodes)) all_below) in
        subst (λ (n : ℕ). n < count) is_page (all_place (λ (x : Node (suc level)). x.0 < count) nodes i (omega (arith, below, len)) mine)

    pub row_sound : (up : ℕ) → up ≡ level + 1 → LacksPage now count page kind up → ⊥
    row_sound up is lacks = lacks (slots_of kind (suc level) node) on_page on.fits refl (omega (arith, is)) (λ none. on.some (is_page ∙ none)) page_below

    pub row_found : (found : Slots) → ((s : Slots) → now page ≡ Some (spelling s) → Fits s → found ≡ s) → found ≡ slots_of kind (suc level) node
    row_found found one = one (slots_of kind (suc level) node) on_page on.fits

    cut_row : row ≡ take i row ++ page ∷ drop (i + 1) row
    cut_row = let place = at_place row i below in place.cut ∙ ap (λ (n : ℕ). take i row ++ n ∷ drop (i + 1) row) (sym (place.is page) ∙ at)

    pub row_unseen : (uppers : List ℕ) → uppers ≡ seen ++ take i row → list_any (λ other. other == page) uppers ≡ false
    row_unseen uppers is =
        let rest = pages_of level (children level nodes) in
        let all : IsApart (seen ++ (row ++ rest)) = subst (λ (l : List ℕ). IsApart (seen ++ (l ++ rest))) (sym is_row.are) all_pages in
        let cut : seen ++ (row ++ rest) ≡ (seen ++ take i row) ++ page ∷ (drop (i + 1) row ++ rest) =
        ap (λ (l : List ℕ). seen ++ (l ++ rest)) cut_row ∙ ap (λ (l : List ℕ). seen ++ l) (append_assoc (take i row) (page ∷ drop (i + 1) row) rest) ∙ sym (append_assoc seen (take i row) (page ∷ (drop (i + 1) row ++ rest))) in
        subst (λ (l : List ℕ). list_any (λ (other : ℕ). other == page) l ≡ false) (sym is)
        (not_seen page (seen ++ take i row) (feet.apart_before (seen ++ take i row) page (drop (i + 1) row ++ rest) (subst (λ (l : List ℕ). IsApart l) cut all)))

    kids : List (Node level)
    kids = map (λ (item : List ℕ × Node level). item.1) node.1

    children_cut : children level nodes ≡ children level (take i nodes) ++ children level (node ∷ drop (i + 1) nodes)
    children_cut = ap (λ (l : List (Node (suc level))). children level l) (at_place nodes i (omega (arith, below, len))).cut ∙ children_append level (take i nodes) (node ∷ drop (i + 1) nodes)

    kids_fit : count ≤ 2 ^ 50 → AllByRecursion (λ item. item.1 < 2 ^ 64) (named level node.1)
    kids_fit bound =
        let all : AllByRecursion (λ (x : Node level). page_of level x < count) (children level nodes) =
        all_unmap (page_of level) (λ (p : ℕ). p < count) (children level nodes)
        (row_all (λ (p : ℕ). p < count) level (children level nodes) (feet.all_right (λ (p : ℕ). p < count) (map (λ (x : Node (suc level)). x.0) nodes) (pages_of level (children level nodes)) all_below)) in
        let mine : AllByRecursion (λ (x : Node level). page_of level x < count) (children level (node ∷ drop (i + 1) nodes)) =
        feet.all_right (λ (x : Node level). page_of level x < count) (children level (take i nodes)) (children level (node ∷ drop (i + 1) nodes))
        (subst (λ (l : List (Node level)). AllByRecursion (λ (x : Node level). page_of level x < count) l) children_cut all) in
        let these : AllByRecursion (λ (x : Node level). page_of level x < count) (map (λ (item : List ℕ × Node level). item.1) node.1) =
        feet.all_left (λ (x : Node level). page_of level x < count) (map (λ (item : List ℕ × Node level). item.1) node.1) (children level (drop (i + 1) nodes)) mine in
        all_map (λ (item : List ℕ × Node level). (item.0, page_of level item.1)) (λ (item : List ℕ × ℕ). item.1 < 2 ^ 64) node.1
        (feet.all_weaker (λ (item : List ℕ × Node level). page_of level item.1 < count) (λ (item : List ℕ × Node level). page_of level item.1 < 2 ^ 64) node.1 (λ item few. omega (arith, few, bound))
        (all_unmap (λ (item : List ℕ × Node level). item.1) (λ (x : Node level). page_of level x < count) node.1 these))

    pub row_links : (found : Slots) → found ≡ slots_of kind (suc level) node → count ≤ 2 ^ 50
        → ((items : List (List ℕ × ℕ)) → found.items ≡ map link items → AllByRecursion (λ item. item.1 < 2 ^ 64) items → ⊥) → ⊥
    row_links found is bound refused = refused (named level node.1) (ap (λ (s : Slots). s.items) is) (kids_fit bound)

    pub row_push : (found : Slots) → found ≡ slots_of kind (suc level) node → count ≤ 2 ^ 50 → (to pushed : List ℕ)
        → ((items : List (List ℕ × ℕ)) → found.items ≡ map link items → AllByRecursion (λ item. item.1 < 2 ^ 64) items → pushed ≡ to ++ map (λ item. item.1) items)
        → to ≡ map (page_of level) (children level (take i nodes)) → pushed ≡ map (page_of level) (children level (take (i + 1) nodes))
    row_push found is bound to pushed pushes so_far =
        let these : map (λ (item : List ℕ × ℕ). item.1) (named level node.1) ≡ map (page_of level) (map (λ (item : List ℕ × Node level). item.1) node.1) =
        map_map (λ (item : List ℕ × Node level). (item.0, page_of level item.1)) (λ (item : List ℕ × ℕ). item.1) node.1
        ∙ sym (map_map (λ (item : List ℕ × Node level). item.1) (page_of level) node.1) in
        pushes (named level node.1) (ap (λ (s : Slots). s.items) is) (kids_fit bound)
        ∙ ap (λ (l : List ℕ). l ++ map (λ (item : List ℕ × ℕ). item.1) (named level node.1)) so_far
        ∙ ap (λ (l : List ℕ). map (page_of level) (children level (take i nodes)) ++ l) these
        ∙ sym (map-append (page_of level) (children level (take i nodes)) (map (λ (item : List ℕ × Node level). item.1) node.1))
        ∙ ap (λ (l : List (Node level)). map (page_of level) l) (
        ap (λ (l : List (Node level)). children level (take i nodes) ++ l) (sym (append-nil (map (λ (item : List ℕ × Node level). item.1) node.1)))
        ∙ sym (children_append level (take i nodes) (node ∷ []))
        ∙ ap (λ (l : List (Node (suc level))). children level l) (sym (at_place nodes i (omega (arith, below, len))).more)
        )

-- the row at level 0, and a row above it
pub row_leaves : (now : PageMap) (count kind : ℕ) (seen row : List ℕ) (level : ℕ) → level ≡ 0 → (nodes : List (Node level)) → Row now count kind seen row level nodes
    → (row ≡ numbers (leaves_of level nodes)) × (seen ≡ seen ++ uppers_of level nodes)
row_leaves now count kind seen row zero is nodes is_row = (is_row.are, sym (append-nil seen))
row_leaves now count kind seen row (suc level) is nodes is_row = absurd (omega (arith, is))

pub row_above : (now : PageMap) (count kind : ℕ) (seen row : List ℕ) (level d : ℕ) → d ≡ level - 1 → level ≢ 0 → ((nodes : List (Node (suc d))) → Row now count kind seen row (suc d) nodes → ⊥)
    → (nodes : List (Node level)) → Row now count kind seen row level nodes → ⊥
row_above now count kind seen row zero d is some refused nodes is_row = some refl
row_above now count kind seen row (suc level) d is some refused nodes is_row =
    let e : d ≡ level = omega (arith, is) in
    subst (λ (k : ℕ). (ns : List (Node (suc k))) → Row now count kind seen row (suc k) ns → ⊥) e refused nodes is_row

module _ (now : PageMap) (count kind : ℕ) (seen row mid next : List ℕ) where
  abbrev Descends : ℕ → Type 0
  Descends d = (nodes : List (Node (suc d))) → Row now count kind seen row (suc d) nodes → (next ≡ map (page_of d) (children d nodes)) × (mid ≡ seen ++ row)

  below_row : (level : ℕ) → Descends level → (nodes : List (Node (suc level))) → Row now count kind seen row (suc level) nodes → Row now count kind mid next level (children level nodes)
  below_row level goes nodes is_row =
      let both = goes nodes is_row in
      subst (λ (l : List ℕ). Row now count kind l next level (children level nodes)) (sym both.1) (row_next now count kind level seen row nodes is_row next both.0)

  pub row_refused : (level d : ℕ) → d ≡ level - 1 → level ≢ 0 → Descends d → ((nodes : List (Node d)) → Row now count kind mid next d nodes → ⊥)
      → (nodes : List (Node level)) → Row now count kind seen row level nodes → ⊥
  row_refused zero d is some goes refused nodes is_row = some refl
  row_refused (suc level) d is some goes refused nodes is_row =
      let e : d ≡ level = omega (arith, is) in
      subst (λ (k : ℕ). (ns : List (Node k)) → Row now count kind mid next k ns → ⊥) e refused (children level nodes)
      (below_row level (subst (λ (k : ℕ). Descends k) e goes) nodes is_row)

  pub row_ends : (leaves last : List ℕ) (level d : ℕ) → d ≡ level - 1 → level ≢ 0 → Descends d
      → ((nodes : List (Node d)) → Row now count kind mid next d nodes → (leaves ≡ numbers (leaves_of d nodes)) × (last ≡ mid ++ uppers_of d nodes))
      → (nodes : List (Node level)) → Row now count kind seen row level nodes → (leaves ≡ numbers (leaves_of level nodes)) × (last ≡ seen ++ uppers_of level nodes)
  row_ends leaves last zero d is some goes ends nodes is_row = absurd (some refl)
  row_ends leaves last (suc level) d is some goes ends nodes is_row =
      let e : d ≡ level = omega (arith, is) in
      let goes_here = subst (λ (k : ℕ). Descends k) e goes in
      let both = subst (λ (k : ℕ). (ns : List (Node k)) → Row now count kind mid next k ns → (leaves ≡ numbers (leaves_of k ns)) × (last ≡ mid ++ uppers_of k ns)) e ends (children level nodes)
      (below_row level goes_here nodes is_row) in (
        both.0,
        both.1 ∙ ap (λ (l : List ℕ). l ++ uppers_of level (children level nodes)) ((goes_here nodes is_row).1 ∙ ap (λ (l : List ℕ). seen ++ l) is_row.are)
            ∙ append_assoc seen (map (λ (x : Node (suc level)). x.0) nodes) (uppers_of level (children level nodes)),
      )

-- the root's row
pub root_row : (now : PageMap) (count kind root level : ℕ) (node : Node level) → Holds now count kind root (level, node) → Row now count kind [] (root ∷ []) level (node ∷ [])
root_row now count kind root level top held = record { stand = held.stand; apart = held.apart; below = held.below; are = ap (λ (n : ℕ). n ∷ []) (sym held.begins) }

module _ (now : PageMap) (count kind root level : ℕ) (top : Node (suc level)) (held : Holds now count kind root (suc level, top)) (bound : count ≤ 2 ^ 50) (found : Slots) (is : found ≡ slots_of kind (suc level) top) where
  first : Row now count kind [] (root ∷ []) (suc level) (top ∷ [])
  first = root_row now count kind root (suc level) top held

  some : 0 < length (root ∷ [])
  some = omega arith

  one_top : (s : Slots) → now root ≡ Some (spelling s) → Fits s → found ≡ s
  one_top s at fits = is ∙ one_spelled (now root) (slots_of kind (suc level) top) s (ap (λ (n : ℕ). now n) (sym held.begins) ∙ held.stand.0.0.is) held.stand.0.0.fits at fits

  pub root_links : ((items : List (List ℕ × ℕ)) → found.items ≡ map link items → AllByRecursion (λ item. item.1 < 2 ^ 64) items → ⊥) → ⊥
  root_links refused =
      row_links now count kind level [] (root ∷ []) (top ∷ []) first 0 root some refl found (row_found now count kind level [] (root ∷ []) (top ∷ []) first 0 root some refl found one_top) bound refused

  module _ (row : List ℕ) (pushes : (items : List (List ℕ × ℕ)) → found.items ≡ map link items → AllByRecursion (λ item. item.1 < 2 ^ 64) items → row ≡ [] ++ map (λ item. item.1) items) where
    row_is : row ≡ map (page_of level) (children level (top ∷ []))
    row_is = row_push now count kind level [] (root ∷ []) (top ∷ []) first 0 root some refl found (row_found now count kind level [] (root ∷ []) (top ∷ []) first 0 root some refl found one_top) bound [] row pushes refl

    next_row : Row now count kind (root ∷ []) row level (children level (top ∷ []))
    next_row = row_next now count kind level [] (root ∷ []) (top ∷ []) first row row_is

    module _ (d : ℕ) (at : d ≡ found.level - 1) where
      d_is : d ≡ level
      d_is = let same = ap (λ (s : Slots). s.level) is in omega (arith, at, same)

      pub root_refused : ((nodes : List (Node d)) → Row now count kind (root ∷ []) row d nodes → ⊥) → ⊥
      root_refused refused = subst (λ (k : ℕ). (ns : List (Node k)) → Row now count kind (root ∷ []) row k ns → ⊥) d_is refused (children level (top ∷ [])) next_row

      pub root_ends : (leaves last : List ℕ) → ((nodes : List (Node d)) → Row now count kind (root ∷ []) row d nodes → (leaves ≡ numbers (leaves_of d nodes)) × (last ≡ (root ∷ []) ++ uppers_of d nodes))
          → (last ≡ uppers_of (suc level) (top ∷ [])) × (leaves ≡ numbers (leaves_of (suc level) (top ∷ [])))
      root_ends leaves last ends =
          let both = subst (λ (k : ℕ). (ns : List (Node k)) → Row now count kind (root ∷ []) row k ns → (leaves ≡ numbers (leaves_of k ns)) × (last ≡ (root ∷ []) ++ uppers_of k ns)) d_is ends (children level (top ∷ [])) next_row in
          (both.1 ∙ ap (λ (n : ℕ). n ∷ uppers_of level (children level (top ∷ []))) (sym held.begins), both.0)

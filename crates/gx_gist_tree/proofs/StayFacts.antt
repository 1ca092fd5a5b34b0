-- A tree depends on its own pages alone.
use Rattle.std.proofs.Common.{◌≡◌, ◌≢◌, ℕ, zero, suc, ◌<◌, List, [], ◌∷◌, ◌++◌, All, ◌∙◌, arith}
use Rattle.std.specs.List.{AllByRecursion, flat_map}
use Rattle.std.proofs.lemmas.List.Elements.{All-head, All-tail, All-nil, All-cons}
use Rattle.gx_words.specs.PageMap.{PageMap}
use Rattle.gx_pages.specs.Frees.{IsApart}
use Rattle.gx_pages.specs.Footprints.{IsOutside, ChangesOnly}
use Rattle.gx_pages.proofs.Footprints as feet
use Rattle.gx_gist.specs.declared.class.GistClass.{Ghosts}
use Rattle.gx_gist_tree.specs.Trees.{Node, page_of, pages_of}
use Rattle.gx_gist_tree.specs.OnPages.{IsOn, Stands, IsSound}

pub apart_swap : (xs ys : List ℕ) → IsApart (xs ++ ys) → IsApart (ys ++ xs)
apart_swap xs ys apart = feet.once_apart (ys ++ xs) (λ n. omega (arith, feet.times-append n xs ys, feet.times-append n ys xs, feet.apart_once (xs ++ ys) apart n))

module _ {K : Type 0} (old new : PageMap) (bytes : K → List ℕ) where
  on_same : (level : ℕ) (node : Node K level) → new (page_of K level node) ≡ old (page_of K level node) → IsOn old bytes level node → IsOn new bytes level node
  on_same level node same on = record { some = on.some; is = same ∙ on.is; fits = on.fits }

  stands_items : (level : ℕ) → ((node : Node K level) → AllByRecursion (λ n. new n ≡ old n) (pages_of K level node) → Stands old bytes level node → Stands new bytes level node)
      → (items : List (K × Node K level)) → AllByRecursion (λ n. new n ≡ old n) (flat_map (λ item. pages_of K level item.1) items) → All (λ item. Stands old bytes level item.1) items
      → All (λ item. Stands new bytes level item.1) items
  stands_items level step [] same all = All-nil (λ (item : K × Node K level). Stands new bytes level item.1)
  stands_items level step (item ∷ items) same all =
      let here = feet.all_left (λ (n : ℕ). new n ≡ old n) (pages_of K level item.1) (flat_map (λ (i : K × Node K level). pages_of K level i.1) items) same in
      let rest = feet.all_right (λ (n : ℕ). new n ≡ old n) (pages_of K level item.1) (flat_map (λ (i : K × Node K level). pages_of K level i.1) items) same in
      All-cons (λ (i : K × Node K level). Stands new bytes level i.1) item items
      (step item.1 here (All-head (λ (i : K × Node K level). Stands old bytes level i.1) item items all))
      (stands_items level step items rest (All-tail (λ (i : K × Node K level). Stands old bytes level i.1) item items all))

  pub stands_same : (level : ℕ) (node : Node K level) → AllByRecursion (λ n. new n ≡ old n) (pages_of K level node) → Stands old bytes level node → Stands new bytes level node
  stands_same zero node same stands = on_same zero node same.0 stands
  stands_same (suc level) node same stands = (on_same (suc level) node same.0 stands.0, stands_items level (stands_same level) node.1 same.1 stands.1)

some_items : {K : Type 0} (old : PageMap) (bytes : K → List ℕ) (level : ℕ) → ((node : Node K level) → Stands old bytes level node → AllByRecursion (λ page. page ≢ 0) (pages_of K level node))
    → (items : List (K × Node K level)) → All (λ item. Stands old bytes level item.1) items → AllByRecursion (λ page. page ≢ 0) (flat_map (λ item. pages_of K level item.1) items)
some_items old bytes level step [] all = tt
some_items {K} old bytes level step (item ∷ items) all =
    feet.all_join (λ (page : ℕ). page ≢ 0) (pages_of K level item.1) (flat_map (λ (i : K × Node K level). pages_of K level i.1) items)
    (step item.1 (All-head (λ (i : K × Node K level). Stands old bytes level i.1) item items all))
    (some_items old bytes level step items (All-tail (λ (i : K × Node K level). Stands old bytes level i.1) item items all))

-- none of its pages is page 0
pub stands_some : {K : Type 0} (old : PageMap) (bytes : K → List ℕ) (level : ℕ) (node : Node K level) → Stands old bytes level node → AllByRecursion (λ page. page ≢ 0) (pages_of K level node)
stands_some old bytes zero node stands = (stands.some, tt)
stands_some old bytes (suc level) node stands = (stands.0.some, some_items old bytes level (stands_some old bytes level) node.1 stands.1)

module _ {C V Q K : Type 0} (g : Ghosts C V Q K) (class : C) (count : ℕ) where
  stands_in : (map : PageMap) (level : ℕ) → ((node : Node K level) → IsSound g class map count level node → Stands map (g.spelling class) level node)
      → (items : List (K × Node K level)) → All (λ item. g.valid_key class item.0 × (page_of K level item.1 < count) × IsSound g class map count level item.1) items → All (λ item. Stands map (g.spelling class) level item.1) items
  stands_in map level step [] all = All-nil (λ (item : K × Node K level). Stands map (g.spelling class) level item.1)
  stands_in map level step (item ∷ items) all =
      All-cons (λ (i : K × Node K level). Stands map (g.spelling class) level i.1) item items
      (step item.1 (All-head (λ (i : K × Node K level). g.valid_key class i.0 × (page_of K level i.1 < count) × IsSound g class map count level i.1) item items all).2)
      (stands_in map level step items (All-tail (λ (i : K × Node K level). g.valid_key class i.0 × (page_of K level i.1 < count) × IsSound g class map count level i.1) item items all))

  pub sound_stands : (map : PageMap) (level : ℕ) (node : Node K level) → IsSound g class map count level node → Stands map (g.spelling class) level node
  sound_stands map zero node sound = sound.0
  sound_stands map (suc level) node sound = (sound.0, stands_in map level (sound_stands map level) node.1 sound.1)

  module _ (old new : PageMap) where
    sound_items : (level : ℕ) → ((node : Node K level) → AllByRecursion (λ n. new n ≡ old n) (pages_of K level node) → IsSound g class old count level node → IsSound g class new count level node)
        → (items : List (K × Node K level)) → AllByRecursion (λ n. new n ≡ old n) (flat_map (λ item. pages_of K level item.1) items)
        → All (λ item. g.valid_key class item.0 × (page_of K level item.1 < count) × IsSound g class old count level item.1) items
        → All (λ item. g.valid_key class item.0 × (page_of K level item.1 < count) × IsSound g class new count level item.1) items
    sound_items level step [] same all = All-nil (λ (item : K × Node K level). g.valid_key class item.0 × (page_of K level item.1 < count) × IsSound g class new count level item.1)
    sound_items level step (item ∷ items) same all =
        let here = feet.all_left (λ (n : ℕ). new n ≡ old n) (pages_of K level item.1) (flat_map (λ (i : K × Node K level). pages_of K level i.1) items) same in
        let rest = feet.all_right (λ (n : ℕ). new n ≡ old n) (pages_of K level item.1) (flat_map (λ (i : K × Node K level). pages_of K level i.1) items) same in
        let first = All-head (λ (i : K × Node K level). g.valid_key class i.0 × (page_of K level i.1 < count) × IsSound g class old count level i.1) item items all in
        All-cons (λ (i : K × Node K level). g.valid_key class i.0 × (page_of K level i.1 < count) × IsSound g class new count level i.1) item items
        (first.0, first.1, step item.1 here first.2)
        (sound_items level step items rest (All-tail (λ (i : K × Node K level). g.valid_key class i.0 × (page_of K level i.1 < count) × IsSound g class old count level i.1) item items all))

    pub sound_same : (level : ℕ) (node : Node K level) → AllByRecursion (λ n. new n ≡ old n) (pages_of K level node) → IsSound g class old count level node → IsSound g class new count level node
    sound_same zero node same sound = (record { some = sound.0.some; is = same.0 ∙ sound.0.is; fits = sound.0.fits }, sound.1)
    sound_same (suc level) node same sound =
        (record { some = sound.0.some; is = same.0 ∙ sound.0.is; fits = sound.0.fits }, sound_items level (sound_same level) node.1 same.1 sound.1)

  -- pages outside of those that changed
  pub unchanged : (old new : PageMap) (changed : List ℕ) (level : ℕ) (node : Node K level) → ChangesOnly old new changed → IsSound g class old count level node
      → AllByRecursion (λ page. IsOutside page changed) (pages_of K level node) → AllByRecursion (λ n. new n ≡ old n) (pages_of K level node)
  unchanged old new changed level node only sound outside =
      feet.all_same old new changed (pages_of K level node) only (stands_some old (g.spelling class) level node (sound_stands old level node sound)) outside

-- A walk below a page that was read.
use Rattle.std.proofs.Common.{◌≡◌, ◌≢◌, ℕ, zero, suc, ◌+◌, ◌-◌, ◌<◌, ◌≤◌, ◌⊎◌, inl, inr, Bool, true, false, List, [], ◌∷◌, ◌++◌, length, map, take, Option, Some, None, if◌then◌else◌, refl, sym, ◌∙◌, ap, subst, append_assoc, arith}
use Rattle.std.specs.List.{AllByRecursion, flat_map}
use Rattle.std.proofs.lemmas.List.{map-append}
use Rattle.gx_words.specs.PageMap.{PageMap}
use Rattle.gx_pages.specs.declared.row.RowRef.{RowRef}
use Rattle.gx_pages.specs.declared.error.PageError.{PageError}
use Rattle.gx_pages.specs.declared.error.PageError.TheVariants.{Broken, Memory}
use Rattle.gx_pages.specs.Pages.{HasCause}
use Rattle.gx_pages.specs.Frees.{IsApart}
use Rattle.gx_pages.specs.Footprints.{IsOutside}
use Rattle.gx_pages.proofs.Footprints as feet
use Rattle.gx_gist.specs.declared.test.Test.{Test}
use Rattle.gx_gist.specs.declared.class.GistClass.{Ghosts}
use Rattle.gx_slot.specs.Slots.{Slots, Fits, item_at, spelling}
use Rattle.gx_gist_tree.specs.Trees.{Node, Entry, entries, found, passes, page_of, pages_of, visits}
use Rattle.gx_gist_tree.specs.OnPages.{IsOn, IsSound, IsRead, IsBelow, AreFresh, inner_item, slots_of}
use Rattle.gx_gist_tree.proofs.Places.{At, at, all_at, flat_more, flat_split, length_mapped}

-- what is found, and looked at, below an item
abbrev pub found_in : {K : Type 0} → (K → Test) → (K → Test) → (level : ℕ) → K × Node K level → List (Entry K)
found_in leaf inner level item = if passes (inner item.0) then found leaf inner level item.1 else []

abbrev pub visits_in : {K : Type 0} → (K → Test) → (level : ℕ) → K × Node K level → ℕ
visits_in inner level item = if passes (inner item.0) then visits inner level item.1 else 0

abbrev pub below_pages : (K : Type 0) → (level : ℕ) → K × Node K level → List ℕ
below_pages K level item = pages_of K level item.1

both : (Q R : ℕ → Type 0) (xs : List ℕ) → AllByRecursion Q xs → AllByRecursion R xs → AllByRecursion (λ n. Q n × R n) xs
both Q R [] q r = tt
both Q R (x ∷ xs) q r = ((q.0, r.0), both Q R xs q.1 r.1)

module _ {C V Q K : Type 0} (g : Ghosts C V Q K) (class : C) (pages : PageMap) (count : ℕ) where
  -- the page of a sound node
  pub is_on : (level : ℕ) (node : Node K level) → IsSound g class pages count level node → IsOn pages (g.spelling class) level node
  is_on zero node sound = sound.0
  is_on (suc level) node sound = sound.0

  pub flat_level : (level : ℕ) (node : Node K level) → (slots_of (g.spelling class) level node).level ≡ level
  flat_level zero node = refl
  flat_level (suc level) node = refl

  pub flat_kind : (level : ℕ) (node : Node K level) → (slots_of (g.spelling class) level node).kind ≡ 4
  flat_kind zero node = refl
  flat_kind (suc level) node = refl

  -- The page of a sound node isn't refused, and is read as it has to be.
  pub not_refused : (level : ℕ) (node : Node K level) (page : ℕ) → page ≡ page_of K level node → page_of K level node < count → IsSound g class pages count level node
      → (page ≢ 0 → page < count → (slots : Slots) → pages page ≡ Some (spelling slots) → Fits slots → slots.kind ≡ 4 → slots.level ≡ level → ⊥) → ⊥
  not_refused level node page at below sound broken =
      let on = is_on level node sound in
      broken (λ none. on.some (sym at ∙ none)) (omega (arith, at, below)) (slots_of (g.spelling class) level node) (ap (λ (n : ℕ). pages n) at ∙ on.is) on.fits
      (flat_kind level node) (flat_level level node)

  pub read_well : (level : ℕ) (node : Node K level) (page : ℕ) (slots : Slots) → page ≡ page_of K level node → IsSound g class pages count level node
      → ((s : Slots) → pages page ≡ Some (spelling s) → Fits s → slots ≡ s) → IsRead g class pages count level node slots page
  read_well level node page slots at sound one =
      let on = is_on level node sound in
      record { sound = sound; is = one (slots_of (g.spelling class) level node) (ap (λ (n : ℕ). pages n) at ∙ on.is) on.fits; at = at }

  -- an item of a page that was read
  module _ (below : ℕ) (node : Node K (suc below)) (slots : Slots) (page : ℕ) (read : IsRead g class pages count (suc below) node slots page) where
    abbrev bytes_of : K × Node K below → Option (List ℕ)
    bytes_of item = Some (inner_item (g.spelling class) (page_of K below item.1) item.0)

    pub items_are : slots.items ≡ map bytes_of node.1
    items_are = ap (λ (s : Slots). s.items) read.is

    pub many : length slots.items ≡ length node.1
    many = ap (λ (l : List (Option (List ℕ))). length l) items_are ∙ length_mapped bytes_of node.1

    pub place : (k : ℕ) → k < length slots.items → At node.1 k
    place k h = at node.1 k (omega (arith, h, many))

    pub is_below : (k : ℕ) (a : At node.1 k) → IsBelow g class pages count below a.item.0 a.item.1 slots k
    is_below k a =
        let has = all_at (λ (item : K × Node K below). g.valid_key class item.0 × (page_of K below item.1 < count) × IsSound g class pages count below item.1) node.1 (take k node.1) a.item a.back a.split read.sound.1 in
        record { valid = has.0; below = has.1; sound = has.2; is = ap (λ (l : List (Option (List ℕ))). item_at l k) items_are ∙ a.mapped bytes_of }

    -- the pages below it are fresh still
    pub still_fresh : (k : ℕ) (a : At node.1 k) (seen now : List ℕ) → AreFresh seen (pages_of K (suc below) node)
        → ((n : ℕ) → IsOutside n seen → n ≢ page → IsOutside n (flat_map (below_pages K below) (take k node.1)) → IsOutside n now)
        → AreFresh now (pages_of K below a.item.1)
    still_fresh k a seen now fresh step =
        let here = pages_of K below a.item.1 in
        let done = flat_map (below_pages K below) (take k node.1) in
        let rest = flat_map (below_pages K below) a.back in
        let cut : pages_of K (suc below) node ≡ (page ∷ done) ++ (here ++ rest) = ap (λ (l : List ℕ). node.0 ∷ l) (flat_split (below_pages K below) node.1 k a) ∙ ap (λ (n : ℕ). n ∷ (done ++ (here ++ rest))) (sym read.at) in
        let apart : IsApart ((page ∷ done) ++ (here ++ rest)) = subst (λ (l : List ℕ). IsApart l) cut fresh.1 in
        let new : AllByRecursion (λ n. IsOutside n seen) ((page ∷ done) ++ (here ++ rest)) = subst (λ (l : List ℕ). AllByRecursion (λ (n : ℕ). IsOutside n seen) l) cut fresh.0 in
        let each = feet.all_left (λ (n : ℕ). IsOutside n (page ∷ done)) here rest (feet.apart_each (page ∷ done) (here ++ rest) apart) in
        let unseen = feet.all_left (λ (n : ℕ). IsOutside n seen) here rest (feet.all_right (λ (n : ℕ). IsOutside n seen) (page ∷ done) (here ++ rest) new) in (
          feet.all_weaker (λ (n : ℕ). IsOutside n seen × IsOutside n (page ∷ done)) (λ (n : ℕ). IsOutside n now) here (λ n has. step n has.0 has.1.0 has.1.1)
              (both (λ (n : ℕ). IsOutside n seen) (λ (n : ℕ). IsOutside n (page ∷ done)) here unseen each),
          feet.apart_left here rest (feet.apart_right (page ∷ done) (here ++ rest) apart),
        )

    -- the page itself was not seen
    pub unseen_page : (seen : List ℕ) → AreFresh seen (pages_of K (suc below) node) → IsOutside page seen
    unseen_page seen fresh = subst (λ (n : ℕ). IsOutside n seen) (sym read.at) fresh.0.0

  -- the same at an equal map and count
  pub read_same : (map : PageMap) (total : ℕ) → map ≡ pages → total ≡ count → (level : ℕ) (node : Node K level) (slots : Slots) (page : ℕ) → IsRead g class pages count level node slots page
      → IsRead g class map total level node slots page
  read_same map total same equal level node slots page read =
      subst (λ (m : PageMap). IsRead g class m total level node slots page) (sym same) (subst (λ (n : ℕ). IsRead g class pages n level node slots page) (sym equal) read)

  pub below_same : (map : PageMap) (total : ℕ) → map ≡ pages → total ≡ count → (level : ℕ) (key : K) (node : Node K level) (slots : Slots) (slot : ℕ) → IsBelow g class pages count level key node slots slot
      → IsBelow g class map total level key node slots slot
  below_same map total same equal level key node slots slot read =
      subst (λ (m : PageMap). IsBelow g class m total level key node slots slot) (sym same) (subst (λ (n : ℕ). IsBelow g class pages n level key node slots slot) (sym equal) read)

-- a page is read where its key passes
pub some_if : (t : Test) (c d : ℕ) → ◌≡◌ {A = Option ℕ} (Some d) (if passes t then Some c else None) → (passes t ≡ true) × (d ≡ c)
some_if t c d e = here (passes t) refl e
  where
    here : (b : Bool) → passes t ≡ b → ◌≡◌ {A = Option ℕ} (Some d) (if b then Some c else None) → (passes t ≡ true) × (d ≡ c)
    here true h e = (h, cc)
    here false h e = cc

pub visits_some : {K : Type 0} (inner : K → Test) (level : ℕ) (node : Node K level) → 1 ≤ visits inner level node
visits_some inner zero node = omega arith
visits_some inner (suc level) node = omega arith

pub rows_next : {K X : Type 0} (f : X → List (Entry K)) (xs : List X) (k : ℕ) (a : At xs k) (base before later : List RowRef) → later ≡ before ++ map (λ e. e.0) (f a.item)
    → before ≡ base ++ map (λ e. e.0) (flat_map f (take k xs)) → later ≡ base ++ map (λ e. e.0) (flat_map f (take (k + 1) xs))
rows_next {K} f xs k a base before later is was =
    let rows : List (Entry K) → List RowRef = λ l. map (λ e. e.0) l in
    is ∙ ap (λ (l : List RowRef). l ++ rows (f a.item)) was ∙ append_assoc base (rows (flat_map f (take k xs))) (rows (f a.item))
    ∙ ap (λ (l : List RowRef). base ++ l) (sym (map-append (λ (e : Entry K). e.0) (flat_map f (take k xs)) (f a.item)) ∙ ap (λ (l : List (Entry K)). rows l) (sym (flat_more f xs k a)))

-- an error with its name
pub named_cause : (e : PageError) (page a b : ℕ) (X : Type 0) (B : ℕ → ℕ → ℕ → Type 0) (S : ℕ → Type 0) → (e ≡ Memory) ⊎ ((e ≡ Broken page 1 0) × X) → (X → B page 1 0) → HasCause a b B S (Unit {0}) e
named_cause e page a b X B S (inl memory) has = subst (λ (x : PageError). HasCause a b B S (Unit {0}) x) (sym memory) tt
named_cause e page a b X B S (inr broken) has = subst (λ (x : PageError). HasCause a b B S (Unit {0}) x) (sym broken.0) ((λ same. omega (arith, same)), has broken.1)

pub sum_all : (new loop old s v all : ℕ) → new ≤ loop + v → loop ≤ old + s → s + v ≤ all → new + 1 ≤ old + (1 + all)
sum_all new loop old s v all x y z = omega arith

pub sum_next : (new loop old s v all : ℕ) → new ≤ loop + v → loop ≤ old + s → all ≡ s + v → new ≤ old + all
sum_next new loop old s v all x y z = omega arith

-- a level that isn't 0 is one above another
pub level_up : (level : ℕ) → level ≢ 0 → level ≡ suc (level - 1)
level_up zero some = absurd (some refl)
level_up (suc level) some = let e : suc level - 1 ≡ level = omega arith in ap (λ (n : ℕ). suc n) (sym e)

-- what a page below an item adds
pub visit_sum : (t : Test) (new mid old v : ℕ) → passes t ≡ true → new + 1 ≤ mid + v → mid ≤ old + 1 → new ≤ old + (if passes t then v else 0)
visit_sum t new mid old v passed x y = rw passed (omega (arith, x, y))

pub visit_one : (t : Test) (mid old v : ℕ) → passes t ≡ true → mid ≤ old + 1 → 1 ≤ v → mid ≤ old + (if passes t then v else 0)
visit_one t mid old v passed x y = rw passed (omega (arith, x, y))

pub rows_where : {K : Type 0} (t : Test) (entries : List (Entry K)) (old new : List RowRef) → passes t ≡ true → new ≡ old ++ map (λ e. e.0) entries
    → new ≡ old ++ map (λ e. e.0) (if passes t then entries else [])
rows_where t entries old new passed is = rw passed is

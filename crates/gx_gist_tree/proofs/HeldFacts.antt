-- What a walk may rely on where the pages hold a tree.
use Rattle.std.proofs.Common.{◌≡◌, ◌≢◌, ℕ, zero, suc, ◌+◌, ◌*◌, ◌^◌, ◌<◌, ◌≤◌, Bool, true, false, List, [], ◌∷◌, ◌++◌, length, map, filter, Option, Some, None, Err, All, if◌then◌else◌, refl, sym, ◌∙◌, ap, subst, length-append, lit<, arith}
use Rattle.std.specs.Prelude.{IfSome}
use Rattle.std.specs.List.{AllByRecursion, flat_map, filter_map}
use Rattle.std.proofs.lemmas.List.Sorted.{IsPermutation-map}
use Rattle.std.proofs.lemmas.List.Elements.{All-head, All-tail, All-nil, All-cons}
use Rattle.std.proofs.Math.Nat.{pow-suc, pow-le-pow_right, mul-suc, suc-mul, mul-le-mul_right}
use Rattle.gx_words.specs.PageMap.{PageMap}
use Rattle.gx_pages.specs.declared.row.RowRef.{RowRef}
use Rattle.gx_pages.specs.declared.error.PageError.{PageError}
use Rattle.gx_pages.specs.declared.error.PageError.TheVariants.{DiskFault, Broken, PageSpace, Memory}
use Rattle.gx_pages.specs.Frees.{IsApart}
use Rattle.gx_pages.specs.Footprints.{IsOutside}
use Rattle.gx_pages.specs.Pages.{HasCause}
use Rattle.gx_pages.specs.Rows.{HasTwice}
use Rattle.gx_pages.proofs.Footprints as feet
use Rattle.gx_gist.specs.declared.class.GistClass.{Ghosts}
use Rattle.gx_slot.specs.Slots.{Slots, Fits, IsSlotPage, spelling}
use Rattle.gx_chain.specs.Chains.{IsSound as IsUnbroken}
use Rattle.gx_gist_tree.specs.Trees.{Node, Entry, entries, page_of, pages_of, IsTree, IsLeafKey, HasTwoItems}
use Rattle.gx_gist_tree.specs.OnPages.{Whole, Stands, Holds, IsSound, IsRead, FitsFields, AreFresh, slots_of}
use Rattle.gx_gist_tree.proofs.VisitFacts.{is_on, flat_kind, flat_level}

all_front : {X : Type 0} (P : X → Type 0) (xs ys : List X) → All P (xs ++ ys) → All P xs
all_front P [] ys all = All-nil P
all_front P (x ∷ xs) ys all = All-cons P x xs (All-head P x (xs ++ ys) all) (all_front P xs ys (All-tail P x (xs ++ ys) all))

all_back : {X : Type 0} (P : X → Type 0) (xs ys : List X) → All P (xs ++ ys) → All P ys
all_back P [] ys all = all
all_back P (x ∷ xs) ys all = all_back P xs ys (All-tail P x (xs ++ ys) all)

page_below : (K : Type 0) (count level : ℕ) (node : Node K level) → AllByRecursion (λ page. page < count) (pages_of K level node) → page_of K level node < count
page_below K count zero node below = below.0
page_below K count (suc level) node below = below.0

module _ {C V Q K : Type 0} (g : Ghosts C V Q K) (class : C) (leaf_valid : (v : V) → g.valid_value class v → g.valid_key class (g.leaf_of class v)) (pages : PageMap) (count : ℕ) where
  Sound : (level : ℕ) → K × Node K level → Type 0
  Sound level item = IsSound g class pages count level item.1

  slots_sound : (slots : List (Option (Entry K))) → All (λ e. IsLeafKey (g.valid_value class) (g.leaf_of class) e.1) (filter_map (λ slot. slot) slots) → All (λ e. FitsFields e.0) (filter_map (λ slot. slot) slots)
      → All (λ slot. IfSome slot (λ e. g.valid_key class e.1 × FitsFields e.0)) slots
  slots_sound [] keys rows = All-nil (λ (slot : Option (Entry K)). IfSome slot (λ e. g.valid_key class e.1 × FitsFields e.0))
  slots_sound (None ∷ slots) keys rows = All-cons (λ (slot : Option (Entry K)). IfSome slot (λ e. g.valid_key class e.1 × FitsFields e.0)) None slots tt (slots_sound slots keys rows)
  slots_sound (Some e ∷ slots) keys rows =
      let leaf = All-head (λ (x : Entry K). IsLeafKey (g.valid_value class) (g.leaf_of class) x.1) e (filter_map (λ slot. slot) slots) keys in
      All-cons (λ (slot : Option (Entry K)). IfSome slot (λ x. g.valid_key class x.1 × FitsFields x.0)) (Some e) slots
      (subst (g.valid_key class) (sym leaf.2) (leaf_valid leaf.0 leaf.1), All-head (λ (x : Entry K). FitsFields x.0) e (filter_map (λ slot. slot) slots) rows)
      (slots_sound slots (All-tail (λ (x : Entry K). IsLeafKey (g.valid_value class) (g.leaf_of class) x.1) e (filter_map (λ slot. slot) slots) keys)
      (All-tail (λ (x : Entry K). FitsFields x.0) e (filter_map (λ slot. slot) slots) rows))

  abbrev Kept : (level : ℕ) → K × Node K level → Type 0
  Kept level item = g.valid_key class item.0 × (page_of K level item.1 < count) × IsSound g class pages count level item.1

  mutual_items : (level : ℕ) → ((node : Node K level) → Stands pages (g.spelling class) level node → IsTree (g.valid_value class) (g.valid_key class) (g.leaf_of class) (g.over class) level node
      → All (λ e. FitsFields e.0) (entries level node) → AllByRecursion (λ page. page < count) (pages_of K level node) → IsSound g class pages count level node)
      → (items : List (K × Node K level)) → All (λ item. Stands pages (g.spelling class) level item.1) items
      → All (λ item. g.valid_key class item.0 × All (λ e. g.over class item.0 e.1) (entries level item.1) × IsTree (g.valid_value class) (g.valid_key class) (g.leaf_of class) (g.over class) level item.1) items
      → All (λ e. FitsFields e.0) (flat_map (λ item. entries level item.1) items) → AllByRecursion (λ page. page < count) (flat_map (λ item. pages_of K level item.1) items) → All (Kept level) items
  mutual_items level step [] stands keys rows below = All-nil (Kept level)
  mutual_items level step (item ∷ items) stands keys rows below =
      let key = All-head (λ (i : K × Node K level). g.valid_key class i.0 × All (λ e. g.over class i.0 e.1) (entries level i.1) × IsTree (g.valid_value class) (g.valid_key class) (g.leaf_of class) (g.over class) level i.1) item items keys in
      let here = feet.all_left (λ (page : ℕ). page < count) (pages_of K level item.1) (flat_map (λ (i : K × Node K level). pages_of K level i.1) items) below in
      All-cons (Kept level) item items (
        key.0,
        page_below K count level item.1 here,
        step item.1 (All-head (λ (i : K × Node K level). Stands pages (g.spelling class) level i.1) item items stands) key.2
            (all_front (λ (e : Entry K). FitsFields e.0) (entries level item.1) (flat_map (λ (i : K × Node K level). entries level i.1) items) rows) here,
      )
      (mutual_items level step items (All-tail (λ (i : K × Node K level). Stands pages (g.spelling class) level i.1) item items stands)
      (All-tail (λ (i : K × Node K level). g.valid_key class i.0 × All (λ e. g.over class i.0 e.1) (entries level i.1) × IsTree (g.valid_value class) (g.valid_key class) (g.leaf_of class) (g.over class) level i.1) item items keys)
      (all_back (λ (e : Entry K). FitsFields e.0) (entries level item.1) (flat_map (λ (i : K × Node K level). entries level i.1) items) rows)
      (feet.all_right (λ (page : ℕ). page < count) (pages_of K level item.1) (flat_map (λ (i : K × Node K level). pages_of K level i.1) items) below))

  pub sound_of : (level : ℕ) (node : Node K level) → Stands pages (g.spelling class) level node → IsTree (g.valid_value class) (g.valid_key class) (g.leaf_of class) (g.over class) level node
      → All (λ e. FitsFields e.0) (entries level node) → AllByRecursion (λ page. page < count) (pages_of K level node) → IsSound g class pages count level node
  sound_of zero node stands keys rows below = (stands, slots_sound node.1 keys rows)
  sound_of (suc level) node stands keys rows below = (stands.0, mutual_items level (sound_of level) node.1 stands.1 keys rows below.1)

  module _ (root : ℕ) (tree : Whole K) (held : Holds g class pages count root tree) where
    pub held_sound : IsSound g class pages count tree.0 tree.1
    held_sound = sound_of tree.0 tree.1 held.stands held.keys held.rows held.below

    -- its root is read
    pub root_there : (root ≢ 0 → root < count → (bytes : List ℕ) → pages root ≡ Some bytes → ¬ IsSlotPage bytes 4) → ⊥
    root_there broken =
        let on = is_on g class pages count tree.0 tree.1 held_sound in
        let low = page_below K count tree.0 tree.1 held.below in
        let slots = slots_of (g.spelling class) tree.0 tree.1 in
        broken (λ none. on.some (held.begins ∙ none)) (subst (λ (n : ℕ). n < count) held.begins low) (spelling slots) (ap (λ (n : ℕ). pages n) (sym held.begins) ∙ on.is)
        (slots, refl, on.fits, flat_kind g class pages count tree.0 tree.1)

    pub root_read : (slots : Slots) → ((s : Slots) → pages root ≡ Some (spelling s) → Fits s → slots ≡ s) → IsRead g class pages count tree.0 tree.1 slots root
    root_read slots one =
        let on = is_on g class pages count tree.0 tree.1 held_sound in
        record { sound = held_sound; is = one (slots_of (g.spelling class) tree.0 tree.1) (ap (λ (n : ℕ). pages n) (sym held.begins) ∙ on.is) on.fits; at = sym held.begins }

    pub root_flat : (slots : Slots) → ((s : Slots) → pages root ≡ Some (spelling s) → Fits s → slots ≡ s) → slots.level ≡ tree.0
    root_flat slots one = ap (λ (s : Slots). s.level) (root_read slots one).is ∙ flat_level g class pages count tree.0 tree.1

-- how many pages there are below a page, with itself
pages_all : (K : Type 0) (level : ℕ) → ((node : Node K level) → HasTwoItems K level node → 2 ^ suc level ≤ length (pages_of K level node) + 1)
    → (items : List (K × Node K level)) → All (λ item. HasTwoItems K level item.1) items → length items * (2 ^ suc level) ≤ length (flat_map (λ item. pages_of K level item.1) items) + length items
pages_all K level step [] all = omega arith
pages_all K level step (item ∷ items) all =
    let here = step item.1 (All-head (λ (i : K × Node K level). HasTwoItems K level i.1) item items all) in
    let rest = pages_all K level step items (All-tail (λ (i : K × Node K level). HasTwoItems K level i.1) item items all) in
    let len = length-append (pages_of K level item.1) (flat_map (λ (i : K × Node K level). pages_of K level i.1) items) in
    let more : suc (length items) * (2 ^ suc level) ≡ length items * (2 ^ suc level) + 2 ^ suc level = suc-mul (length items) (2 ^ suc level) in
    omega (arith, here, rest, len, more)

two_more : (n m f : ℕ) → 2 ≤ n → n * suc m ≤ f + n → 2 * suc m ≤ f + 2
two_more n m f two all =
    let cut : n * suc m ≡ n * m + n = mul-suc n m in
    let least : 2 * m ≤ n * m = mul-le-mul_right m two in
    omega (arith, cut, least, all)

two_at : (n p f : ℕ) → 1 ≤ p → 2 ≤ n → n * p ≤ f + n → 2 * p ≤ f + 2
two_at n zero f some two all = absurd (omega (arith, some))
two_at n (suc m) f some two all = two_more n m f two all

pow_some : (level : ℕ) → 1 ≤ 2 ^ level
pow_some zero = omega arith
pow_some (suc level) = let rest = pow_some level in let e : 2 ^ suc level ≡ 2 ^ level * 2 = pow-suc 2 level in omega (arith, rest, e)

pub many_pages : (K : Type 0) (level : ℕ) (node : Node K level) → HasTwoItems K level node → 2 ^ suc level ≤ length (pages_of K level node) + 1
many_pages K zero node two = omega arith
many_pages K (suc level) node two =
    let all = pages_all K level (many_pages K level) node.1 two.1 in
    let some = two_at (length node.1) (2 ^ suc level) (length (flat_map (λ (i : K × Node K level). pages_of K level i.1) node.1)) (pow_some (suc level)) two.0 all in
    let e : 2 ^ suc (suc level) ≡ 2 ^ suc level * 2 = pow-suc 2 (suc level) in
    omega (arith, some, e)

pow_grows : (m n : ℕ) → m ≤ n → 2 ^ m ≤ 2 ^ n
pow_grows m n le = pow-le-pow_right (lit< tt) le

-- levels are below 50 in a tree on at most 2^50 pages
pub low_level : (K : Type 0) (level : ℕ) (node : Node K level) (count : ℕ) → HasTwoItems K level node → IsApart (pages_of K level node) → AllByRecursion (λ page. page < count) (pages_of K level node)
    → count ≤ 2 ^ 50 → 50 ≤ level → ⊥
low_level K level node count two apart below most high =
    let few = feet.apart_few count (pages_of K level node) apart below in
    let many = many_pages K level node two in
    let big : 2 ^ 51 ≤ 2 ^ suc level = pow_grows 51 (suc level) (omega (arith, high)) in
    omega (arith, few, many, big, most)

-- before a walk no page was seen
pub fresh_none : (pages : List ℕ) → IsApart pages → AreFresh [] pages
fresh_none pages apart = (none pages, apart)
  where
    none : (xs : List ℕ) → AllByRecursion (λ page. IsOutside page []) xs
    none [] = tt
    none (x ∷ xs) = (tt, none xs)

-- Rows with numbers that lie apart aren't there twice.
times_some : {K : Type 0} (n : ℕ) (p : Entry K → Bool) (es : List (Entry K)) → feet.times n (map (λ row. row.number) (map (λ e. e.0) (filter p es))) ≤ feet.times n (map (λ e. e.0.number) es)
times_some n p [] = omega arith
times_some {K} n p (e ∷ es) =
    let rest = times_some n p es in
    elim (p e) as (λ b. feet.times n (map (λ (row : RowRef). row.number) (map (λ (x : Entry K). x.0) (if b then e ∷ filter p es else filter p es))) ≤ feet.times n (map (λ (x : Entry K). x.0.number) (e ∷ es)))
    [ true ↦ omega (arith, rest) | false ↦ omega (arith, rest) ]

pub twice_none : {K : Type 0} (p : Entry K → Bool) (es : List (Entry K)) → IsApart (map (λ e. e.0.number) es) → HasTwice (map (λ e. e.0) (filter p es)) → ⊥
twice_none {K} p es apart twice =
    let n = twice.one.number in
    let numbers : List RowRef → List ℕ = λ rows. map (λ row. row.number) rows in
    let there = feet.times-permutation n (numbers (map (λ (e : Entry K). e.0) (filter p es))) (numbers (twice.one ∷ twice.other ∷ twice.rest))
    (IsPermutation-map (λ (row : RowRef). row.number) (map (λ (e : Entry K). e.0) (filter p es)) (twice.one ∷ twice.other ∷ twice.rest) twice.among) in
    let first = feet.times_one n (twice.other.number ∷ numbers twice.rest) in
    let second : feet.times n (twice.other.number ∷ numbers twice.rest) ≡ 1 + feet.times n (numbers twice.rest) =
    ap (λ (m : ℕ). feet.times n (m ∷ numbers twice.rest)) (sym twice.same) ∙ feet.times_one n (numbers twice.rest) in
    omega (arith, there, first, second, times_some n p es, feet.apart_once (map (λ (e : Entry K). e.0.number) es) apart n)

-- a count that changes only where a page was found broken, and none can be
pub kept_by_cause : (T : Type 0) (e : PageError) (a b : ℕ) (B : ℕ → ℕ → ℕ → Type 0) (S : ℕ → Type 0) (M : Type 0) (X : Type 0) → HasCause a b B S M e → ((at x y : ℕ) → B at x y → ⊥)
    → (IsUnbroken {T = T} (Err e) → X) → X
kept_by_cause T DiskFault a b B S M X cause none stays = stays tt
kept_by_cause T (Broken at x y) a b B S M X cause none stays = absurd (none at x y cause.1)
kept_by_cause T (PageSpace pages) a b B S M X cause none stays = stays tt
kept_by_cause T Memory a b B S M X cause none stays = stays tt

-- a level that is too high
pub level_cause : (e : PageError) (page level a b : ℕ) (B : ℕ → ℕ → ℕ → Type 0) (S : ℕ → Type 0) → (e ≡ Broken page 49 level) × (50 ≤ level) → (50 ≤ level → B page 49 level) → HasCause a b B S (Unit {0}) e
level_cause e page level a b B S high has =
    let h = high.1 in
    subst (λ (x : PageError). HasCause a b B S (Unit {0}) x) (sym high.0) ((λ same. omega (arith, same, h)), has h)

-- The page below an item, as it is fetched, and a page above level 0 before an insert.
use Rattle.std.proofs.Common.{◌≡◌, ⊎_elim, ℕ, zero, suc, ◌<◌, List, [], ◌∷◌, ◌++◌, length, map, Some, All, refl, sym, ◌∙◌, ap, subst, arith}
use Rattle.std.specs.List.{AllByRecursion}
use Rattle.std.proofs.lemmas.List.Elements.{All-map, All-weaker}
use Rattle.gx_pages.specs.declared.row.RowRef.{RowRef}
use Rattle.gx_pages.specs.declared.store.Pages.{Ghosts as PageGhosts}
use Rattle.gx_pages.proofs.Footprints as feet
use Rattle.gx_slot.specs.Slots.{Slots, Fits, spelling}
use Rattle.gx_gist.specs.declared.class.GistClass.{Ghosts}
use Rattle.gx_gist_tree.specs.declared.change.Change.{Change}
use Rattle.gx_gist_tree.specs.declared.change.Change.TheVariants.{Within, Split}
use Rattle.gx_gist_tree.specs.declared.change.Arranged.{Arranged}
use Rattle.gx_gist_tree.specs.declared.change.Arranged.TheVariants.{Same}
use Rattle.gx_gist_tree.specs.Trees.{Node, page_of, pages_of}
use Rattle.gx_gist_tree.specs.OnPages.{IsRead, IsSound, inner_item, slots_of}
use Rattle.gx_gist_tree.specs.Insertion.{AreKeys, IsInserted, IsLaid, IsReady, IsReplaced, head_len, items_but, inner_items, pages_now}
use Rattle.gx_gist_tree.proofs.Places.{length_mapped}
use Rattle.gx_gist_tree.proofs.VisitFacts.{is_on, read_same}

map_twice : {X Y Z : Type 0} (f : X → Y) (g : Y → Z) (xs : List X) → map g (map f xs) ≡ map (λ x. g (f x)) xs
map_twice f g [] = refl
map_twice {X} {Y} {Z} f g (x ∷ xs) = ap (λ (l : List Z). g (f x) ∷ l) (map_twice f g xs)

page_low : (K : Type 0) (count level : ℕ) (node : Node K level) → AllByRecursion (λ page. page < count) (pages_of K level node) → page_of K level node < count
page_low K count zero node below = below.0
page_low K count (suc level) node below = below.0

module _ {P C V Q K : Type 0} (p : PageGhosts P) (g : Ghosts C V Q K) (class : C) (old : P) (level : ℕ) (node : Node K level) (slots : Slots) (page : ℕ) (free : List ℕ)
    (ready : IsReady p g class old level node slots page free) where
  pub ready_low : page_of K level node < p.count old
  ready_low = page_low K (p.count old) level node ready.below

  -- what is read from its page
  pub ready_slots : (read : Slots) → ((s : Slots) → p.map old page ≡ Some (spelling s) → Fits s → read ≡ s) → read ≡ slots_of (g.spelling class) level node
  ready_slots read one =
      let on = is_on g class (p.map old) (p.count old) level node ready.read.sound in
      one (slots_of (g.spelling class) level node) (ap (λ (n : ℕ). p.map old n) ready.read.at ∙ on.is) on.fits

  -- the same where the map and the count are, at equal slots
  pub ready_same : (mid : P) → p.map mid ≡ p.map old → p.count mid ≡ p.count old → (new : Slots) → new ≡ slots → IsReady p g class mid level node new page free
  ready_same mid map count new is = record {
    read = read_same g class (p.map old) (p.count old) (p.map mid) (p.count mid) map count level node new page
        (subst (λ (s : Slots). IsRead g class (p.map old) (p.count old) level node s page) (sym is) ready.read);
    two = ready.two;
    below = subst (λ (n : ℕ). AllByRecursion (λ m. m < n) (pages_of K level node)) (sym count) ready.below;
    frees = feet.free_list_at (p.map mid) (p.map old) (p.count mid) (p.count old) free map count ready.frees;
    apart = ready.apart;
  }

pub ready_at : {P C V Q K : Type 0} (p : PageGhosts P) (g : Ghosts C V Q K) (class : C) (old : P) (level : ℕ) (node : Node K level) (slots : Slots) (page other : ℕ) (free : List ℕ) → other ≡ page
    → IsReady p g class old level node slots page free → IsReady p g class old level node slots other free
ready_at p g class old level node slots page other free same ready = subst (λ (n : ℕ). IsReady p g class old level node slots n free) (sym same) ready

-- nothing was changed before an insert
pub inserted_same : {P C V Q K : Type 0} (p : PageGhosts P) (g : Ghosts C V Q K) (class : C) (old mid new : P) (row : RowRef) (key : K) (level : ℕ) (node : Node K level) (free : List ℕ) (slots : Slots) (change : Change K)
    → p.map mid ≡ p.map old → p.count mid ≡ p.count old → IsInserted p g class mid new row key level node free slots change → IsInserted p g class old new row key level node free slots change
inserted_same {P} {C} {V} {Q} {K} p g class old mid new row key level node free slots change map count ins = record {
  out = ins.out;
  rest = ins.rest;
  inserts = ins.inserts;
  stands = ins.stands;
  two = ins.two;
  kept = ins.kept;
  stays = ins.stays;
  is = ins.is;
  describes = ins.describes;
  pages = feet.keeps_from p old mid new (pages_of K level node) free (pages_now K level ins.out) ins.rest map count ins.pages;
}

-- A page above level 0: its items as pairs of a page and a key.
module _ {P C V Q K : Type 0} (p : PageGhosts P) (g : Ghosts C V Q K) (class : C) (old : P) (below : ℕ) (node : Node K (suc below)) (before : Slots) (page : ℕ) (free : List ℕ)
    (ready : IsReady p g class old (suc below) node before page free) where
  abbrev pub pairs : List (ℕ × K)
  pairs = map (λ item. (page_of K below item.1, item.0)) node.1

  pub pairs_some : 0 < length pairs
  pairs_some =
      let two = ready.two.0 in
      let many : length pairs ≡ length node.1 = length_mapped (λ (item : K × Node K below). (page_of K below item.1, item.0)) node.1 in
      omega (arith, two, many)

  pub pairs_valid : All (λ pair. g.valid_key class pair.1) pairs
  pairs_valid =
      All-map (λ (pair : ℕ × K). g.valid_key class pair.1) (λ (item : K × Node K below). (page_of K below item.1, item.0)) node.1
      (All-weaker (λ (i : K × Node K below). g.valid_key class i.0 × (page_of K below i.1 < p.count old) × IsSound g class (p.map old) (p.count old) below i.1) (λ (i : K × Node K below). g.valid_key class i.0) (λ i has. has.0) node.1 ready.read.sound.1)

  pub pairs_are : before.items ≡ map (λ pair. Some (inner_item (g.spelling class) pair.0 pair.1)) pairs
  pairs_are =
      ap (λ (s : Slots). s.items) ready.read.is
      ∙ sym (map_twice (λ (item : K × Node K below). (page_of K below item.1, item.0)) (λ (pair : ℕ × K). Some (inner_item (g.spelling class) pair.0 pair.1)) node.1)

  pub many_slots : length before.items ≡ length node.1
  many_slots =
      ap (λ (s : Slots). length s.items) ready.read.is
      ∙ length_mapped (λ (item : K × Node K below). Some (inner_item (g.spelling class) (page_of K below item.1) item.0)) node.1

-- An item that stays the same leaves the slots.
pub same_slots : {K : Type 0} (valid : K → Type 0) (union : K → K → K) (bytes : K → List ℕ) (old : Slots) (slot child : ℕ) (key united : K) (change : Change K) (new : Slots) (now : Arranged K)
    → IsReplaced valid union bytes old slot child key united change new now → now ≡ Same → new ≡ old
same_slots {K} valid union bytes old slot child key united Within new now replaced is =
    ⊎_elim
    (λ same. same.2)
    (λ more. ⊎_elim
    (λ here. (let e = here.0 in cc))
    (λ laid. absurd (subst (λ (x : Arranged K). IsLaid valid union bytes old.level (items_but old.items slot ++ inner_items bytes child united Within) new x) is laid))
    more)
    replaced
same_slots {K} valid union bytes old slot child key united (Split l page r) new now replaced is =
    absurd (subst (λ (x : Arranged K). IsLaid valid union bytes old.level (items_but old.items slot ++ inner_items bytes child united (Split l page r)) new x) is replaced)

-- keys that are refused, at an equal child and key
pub refused_at : {K : Type 0} (valid : K → Type 0) (union : K → K → K) (bytes : K → List ℕ) (before : Slots) (slot child page : ℕ) (at key added : K) (change : Change K) → child ≡ page → at ≡ key
    → ((keys : List K) → AreKeys valid bytes (head_len before.level) (items_but before.items slot ++ inner_items bytes child (union at added) change) keys → ⊥)
    → (keys : List K) → AreKeys valid bytes (head_len before.level) (items_but before.items slot ++ inner_items bytes page (union key added) change) keys → ⊥
refused_at {K} valid union bytes before slot child page at key added change same_page same_key refused =
    subst (λ (n : ℕ). (keys : List K) → AreKeys valid bytes (head_len before.level) (items_but before.items slot ++ inner_items bytes n (union key added) change) keys → ⊥) same_page
    (subst (λ (x : K). (keys : List K) → AreKeys valid bytes (head_len before.level) (items_but before.items slot ++ inner_items bytes child (union x added) change) keys → ⊥) same_key refused)

-- A page of a chain is put with another item in a slot, or with none there.
use Rattle.std.proofs.Common.{◌≡◌, ◌≢◌, ℕ, ◌+◌, ◌-◌, ◌<◌, ◌≤◌, List, [], ◌∷◌, ◌++◌, length, Option, Some, None, Bor, slice_set, refl, sym, ◌∙◌, ap, subst, append_assoc, length-append, arith, is_some, false}
use Rattle.std.specs.Option.{option_map}
use Rattle.std.specs.List.{AllByRecursion}
use Rattle.gx_words.specs.PageMap.{PageMap}
use Rattle.gx_pages.specs.declared.store.Pages.{Ghosts}
use Rattle.gx_pages.specs.Frees.{IsApart}
use Rattle.gx_pages.specs.Footprints.{KeepsPages}
use Rattle.gx_pages.proofs.Footprints as feet
use Rattle.gx_slot.specs.Slots.{Slots, GrowsBy, IsSlotPage, item_at, with_slot}
use Rattle.gx_chain.specs.declared.chain.Chain.{Chain}
use Rattle.gx_chain.specs.declared.entry.Entry.{Entry}
use Rattle.gx_chain.specs.Chains.{Link, AreLinked, Holds, HoldsBeside, IsBehind, entries_at, entries_of, first_of, last_to, pages_of, slots}
use Rattle.gx_chain.proofs.Entries.{entries_append}
use Rattle.gx_chain.proofs.Links.{held_same, last_mid, linked_mid, mid_sound, pages_mid}
use Rattle.gx_chain.proofs.Spots.{spot_of}

-- the page of an item is read as it is
pub spot_read : (map : PageMap) (count kind : ℕ) (chain : Chain) (links : List Link) (front back : List Entry) (page slot : ℕ) (item : List ℕ) (found : Slots)
    → ((before behind : List Link) (items : List (Option (List ℕ))) → AreLinked map kind (before ++ (page, items) ∷ behind) → found ≡ slots kind (first_of behind) items)
    → Holds map count kind chain links → entries_of links ≡ front ++ record { page = page; slot = slot; item = item } ∷ back → item_at found.items slot ≡ Some item
spot_read map count kind chain links front back page slot item found link held same =
    let s = spot_of links front back page slot item same in
    ap (λ (f : Slots). item_at f.items slot) (link s.before s.behind s.items (subst (λ (l : List Link). AreLinked map kind l) s.cut held.linked)) ∙ s.is

-- it isn't broken
pub spot_sound : (map : PageMap) (count kind : ℕ) (chain : Chain) (links : List Link) (front back : List Entry) (page slot : ℕ) (item : List ℕ)
    → (page ≢ 0 → page < count → (bytes : List ℕ) → map page ≡ Some bytes → ¬ IsSlotPage bytes kind)
    → Holds map count kind chain links → entries_of links ≢ front ++ record { page = page; slot = slot; item = item } ∷ back
spot_sound map count kind chain links front back page slot item broken held same =
    let s = spot_of links front back page slot item same in
    mid_sound map count kind chain s.before page s.items s.behind (subst (λ (l : List Link). Holds map count kind chain l) s.cut held) broken

-- an item that is there isn't missed
pub none_item : (found : Option (Bor (List ℕ))) (there : Option (List ℕ)) (item : List ℕ) → option_map (λ (i : Bor (List ℕ)). i.now) found ≡ there → there ≡ Some item → is_some found ≡ false → ⊥
none_item None there item same is none = let never : None ≡ Some item = same ∙ is in cc
none_item (Some i) there item same is none = cc

-- one of the same length fits
pub grows_none : (there : Option (List ℕ)) (item : List ℕ) (len free : ℕ) → there ≡ Some item → GrowsBy there len free → length item ≢ len
grows_none there item len free is grows same =
    let more : length item + free < len = subst (λ (o : Option (List ℕ)). GrowsBy o len free) is grows in
    omega (arith, more, same)

pub record Changed {P : Type 0} (g : Ghosts P) (old new : P) (kind : ℕ) (chain : Chain) (links : List Link) (free : List ℕ) (page slot : ℕ) (from : Slots) (front back : List Entry) (x : Option (List ℕ)) : Type 0 where
  pub before : List Link
  pub behind : List Link
  pub items : List (Option (List ℕ))
  pub cut : links ≡ before ++ (page, items) ∷ behind
  pub held : HoldsBeside g new kind chain (before ++ (page, from.items) ∷ behind) free
  pub next : from.next ≡ first_of behind
  pub entries : entries_of (before ++ (page, from.items) ∷ behind) ≡ front ++ (entries_at page slot (x ∷ []) ++ back)
  pub stand : pages_of (before ++ (page, from.items) ∷ behind) ≡ pages_of links
  pub keeps : KeepsPages g old new (pages_of links) free (pages_of links) free

pub changed : {P : Type 0} (g : Ghosts P) (old mid new : P) (kind page slot : ℕ) (found from : Slots) (x : Option (List ℕ)) → g.map mid ≡ g.map old → g.count mid ≡ g.count old
    → ((before behind : List Link) (items : List (Option (List ℕ))) → AreLinked (g.map old) kind (before ++ (page, items) ∷ behind) → found ≡ slots kind (first_of behind) items)
    → from ≡ with_slot found slot x
    → ((chain : Chain) (before behind : List Link) (items : List (Option (List ℕ))) (free : List ℕ) → HoldsBeside g mid from.kind chain (before ++ (page, items) ∷ behind) free
    → from ≡ slots from.kind (first_of behind) from.items
    → HoldsBeside g new from.kind chain (before ++ (page, from.items) ∷ behind) free
    × KeepsPages g mid new (pages_of (before ++ (page, items) ∷ behind)) free (pages_of (before ++ (page, from.items) ∷ behind)) free)
    → (chain : Chain) (links : List Link) (free : List ℕ) (front back : List Entry) (item : List ℕ) → HoldsBeside g old kind chain links free
    → entries_of links ≡ front ++ record { page = page; slot = slot; item = item } ∷ back → Changed g old new kind chain links free page slot from front back x
changed g old mid new kind page slot found from x map count link is put chain links free front back item held same =
    let s = spot_of links front back page slot item same in
    let there = subst (λ (l : List Link). HoldsBeside g old kind chain l free) s.cut held in
    let was : List Link = s.before ++ (page, s.items) ∷ s.behind in
    let now : List Link = s.before ++ (page, from.items) ∷ s.behind in
    let found_is = link s.before s.behind s.items there.held.linked in
    let from_is : from ≡ slots kind (first_of s.behind) (slice_set s.items slot x) = is ∙ ap (λ (f : Slots). with_slot f slot x) found_is in
    let kind_is : from.kind ≡ kind = ap (λ (f : Slots). f.kind) from_is in
    let whole : from ≡ slots from.kind (first_of s.behind) from.items = subst (λ (f : Slots). f ≡ slots f.kind (first_of s.behind) f.items) (sym from_is) refl in
    let mid_held = held_same g old mid kind chain was free map count there in
    let done = put chain s.before s.behind s.items free (subst (λ (k : ℕ). HoldsBeside g mid k chain was free) (sym kind_is) mid_held) whole in
    let stand : pages_of now ≡ pages_of links =
    pages_mid s.before (page, from.items) s.behind ∙ sym (pages_mid s.before (page, s.items) s.behind) ∙ ap (λ (l : List Link). pages_of l) (sym s.cut) in
    record {
      before = s.before;
      behind = s.behind;
      items = s.items;
      cut = s.cut;
      held = subst (λ (k : ℕ). HoldsBeside g new k chain now free) kind_is done.0;
      next = ap (λ (f : Slots). f.next) from_is;
      entries = ap (λ (f : Slots). entries_of (s.before ++ (page, f.items) ∷ s.behind)) from_is ∙ s.gives x;
      stand = stand;
      keeps = feet.keeps_from g old mid new (pages_of links) free (pages_of links) free map count
          (subst (λ (l : List ℕ). KeepsPages g mid new l free (pages_of links) free) (ap (λ (l : List Link). pages_of l) (sym s.cut))
          (subst (λ (l : List ℕ). KeepsPages g mid new (pages_of was) free l free) stand done.1));
    }

-- with other items on a page the chain has the same pages
pub kept_feet : (before behind : List Link) (page : ℕ) (items now : List (Option (List ℕ))) (links : List Link) → links ≡ before ++ (page, items) ∷ behind
    → (pages_of (before ++ (page, now) ∷ behind) ≡ pages_of links) × (length links ≡ length (before ++ (page, now) ∷ behind))
kept_feet before behind page items now links cut = (
  pages_mid before (page, now) behind ∙ sym (pages_mid before (page, items) behind) ∙ ap (λ (l : List Link). pages_of l) (sym cut),
  (let all = ap (λ (l : List Link). length l) cut in omega (arith, all, length-append before ((page, items) ∷ behind), length-append before ((page, now) ∷ behind))),
)

-- one place of a page among pages that stand once
pub cut_same : (zs ws xs ys : List ℕ) (page : ℕ) → IsApart (zs ++ page ∷ ws) → zs ++ page ∷ ws ≡ xs ++ page ∷ ys → zs ≡ xs
cut_same [] ws [] ys page apart same = refl
cut_same [] ws (x ∷ xs) ys page apart same =
    let tail : ws ≡ xs ++ page ∷ ys = cc in
    absurd ((feet.all_right (λ (n : ℕ). page ≢ n) xs (page ∷ ys) (subst (λ (l : List ℕ). AllByRecursion (λ (n : ℕ). page ≢ n) l) tail apart.0)).0 refl)
cut_same (z ∷ zs) ws [] ys page apart same =
    let head : z ≡ page = cc in
    absurd ((feet.all_right (λ (n : ℕ). z ≢ n) zs (page ∷ ws) apart.0).0 head)
cut_same (z ∷ zs) ws (x ∷ xs) ys page apart same =
    let head : z ≡ x = cc in
    let tail : zs ++ page ∷ ws ≡ xs ++ page ∷ ys = cc in
    ap (λ (n : ℕ). n ∷ zs) head ∙ ap (λ (l : List ℕ). x ∷ l) (cut_same zs ws xs ys page apart.1 tail)

-- the last link of a chain's front
pub record LastLink (links : List Link) (page : ℕ) : Type 0 where
  pub front : List Link
  pub items : List (Option (List ℕ))
  pub cut : links ≡ front ++ (page, items) ∷ []

none_more : (links : List Link) → pages_of links ≡ [] → links ≡ []
none_more [] none = refl
none_more (link ∷ links) none = cc

pub last_link : (links : List Link) (xs : List ℕ) (page : ℕ) → pages_of links ≡ xs ++ page ∷ [] → LastLink links page
last_link [] [] page same = cc
last_link [] (x ∷ xs) page same = cc
last_link (link ∷ links) [] page same =
    let head : link.0 ≡ page = cc in
    let tail : pages_of links ≡ [] = cc in
    record { front = []; items = link.1; cut = (λ i. (head i, link.1) ∷ links) ∙ ap (λ (l : List Link). (page, link.1) ∷ l) (none_more links tail) }
last_link (link ∷ links) (x ∷ xs) page same =
    let tail : pages_of links ≡ xs ++ page ∷ [] = cc in
    let rest = last_link links xs page tail in
    record { front = link ∷ rest.front; items = rest.items; cut = ap (λ (l : List Link). link ∷ l) rest.cut }

-- the page before that of an item
pub behind_link : (links before behind : List Link) (page last : ℕ) (items : List (Option (List ℕ))) → links ≡ before ++ (page, items) ∷ behind → IsApart (pages_of links) → last ≢ 0
    → IsBehind last page (pages_of links) → LastLink before last
behind_link links before behind page last items cut apart some is =
    let there = is some in
    let mid : pages_of links ≡ pages_of before ++ page ∷ pages_of behind = ap (λ (l : List Link). pages_of l) cut ∙ pages_mid before (page, items) behind in
    last_link before there.0 last
    (cut_same (pages_of before) (pages_of behind) (there.0 ++ last ∷ []) there.1 page (subst (λ (l : List ℕ). IsApart l) mid apart)
    (sym mid ∙ there.2 ∙ sym (feet_append there.0 last page there.1)))
  where
    feet_append : (xs : List ℕ) (last page : ℕ) (ys : List ℕ) → (xs ++ last ∷ []) ++ page ∷ ys ≡ xs ++ last ∷ page ∷ ys
    feet_append [] last page ys = refl
    feet_append (x ∷ xs) last page ys = ap (λ (l : List ℕ). x ∷ l) (feet_append xs last page ys)

-- a page without items adds none
pub entries_without : (front : List Link) (page : ℕ) (items : List (Option (List ℕ))) (back : List Link) → entries_at page 0 items ≡ []
    → entries_of (front ++ (page, items) ∷ back) ≡ entries_of (front ++ back)
entries_without front page items back none =
    entries_append front ((page, items) ∷ back) ∙ ap (λ (l : List Entry). entries_of front ++ (l ++ entries_of back)) none ∙ sym (entries_append front back)

-- The page before that of an item, and those before it.
pub front_cut : (before : List Link) (front : List Link) (last page : ℕ) (others items : List (Option (List ℕ))) (behind : List Link) → before ≡ front ++ (last, others) ∷ []
    → before ++ (page, items) ∷ behind ≡ front ++ (last, others) ∷ (page, items) ∷ behind
front_cut before front last page others items behind cut =
    ap (λ (l : List Link). l ++ (page, items) ∷ behind) cut ∙ append_assoc front ((last, others) ∷ []) ((page, items) ∷ behind)

pub front_left : (before : List Link) (front : List Link) (last : ℕ) (others : List (Option (List ℕ))) (behind : List Link) → before ≡ front ++ (last, others) ∷ []
    → before ++ behind ≡ front ++ (last, others) ∷ behind
front_left before front last others behind cut = ap (λ (l : List Link). l ++ behind) cut ∙ append_assoc front ((last, others) ∷ []) behind

-- a page without items is taken out of the chain
module _ {P : Type 0} (g : Ghosts P) (old mid new : P) (kind last page next : ℕ) (chain ends : Chain) (now : List (Option (List ℕ))) (links before behind : List Link)
    (items : List (Option (List ℕ))) (free : List ℕ) (front back : List Entry) (some : last ≢ 0) (none : entries_at page 0 now ≡ []) (at : next ≡ first_of behind)
    (held : HoldsBeside g old kind chain links free) (is_behind : IsBehind last page (pages_of links)) (cut : links ≡ before ++ (page, items) ∷ behind)
    (there : HoldsBeside g mid kind chain (before ++ (page, now) ∷ behind) free) where
  abbrev ll : LastLink before last
  ll = behind_link links before behind page last items cut held.held.apart some is_behind

  abbrev was : List Link
  was = ll.front ++ (last, ll.items) ∷ (page, now) ∷ behind

  abbrev later : List Link
  later = ll.front ++ (last, ll.items) ∷ behind

  pub was_held : HoldsBeside g mid kind chain was free
  was_held = subst (λ (l : List Link). HoldsBeside g mid kind chain l free) (front_cut before ll.front last page ll.items now behind ll.cut) there

  module _ (entries : entries_of (before ++ (page, now) ∷ behind) ≡ front ++ back) (keeps : KeepsPages g old mid (pages_of links) free (pages_of links) free)
      (shorter : (ends : Chain) (front back : List Link) (others items : List (Option (List ℕ))) (free : List ℕ)
      → HoldsBeside g mid kind chain (front ++ (last, others) ∷ (page, items) ∷ back) free → next ≡ first_of back
      → ends.first ≡ chain.first → ends.last ≡ last_to last back → length (front ++ (last, others) ∷ back) ≤ ends.pages
      → HoldsBeside g new kind ends (front ++ (last, others) ∷ back) (page ∷ free)
      × KeepsPages g mid new (pages_of (front ++ (last, others) ∷ (page, items) ∷ back)) free (pages_of (front ++ (last, others) ∷ back)) (page ∷ free))
      (first_is : ends.first ≡ chain.first) (pages_is : ends.pages ≡ chain.pages - 1) (at_end : next ≡ 0 → ends.last ≡ last) (goes_on : next ≢ 0 → ends.last ≡ chain.last) where
    last_is : (b : List Link) → AreLinked (g.map mid) kind b → next ≡ first_of b → chain.last ≡ last_to page b → ends.last ≡ last_to last b
    last_is [] linked is end = at_end is
    last_is (l ∷ b) linked is end = goes_on (λ zero_next. linked.0.some (sym is ∙ zero_next)) ∙ end

    behind_linked : AreLinked (g.map mid) kind behind
    behind_linked = (linked_mid (g.map mid) kind before (page, now) behind there.held.linked).1

    same_pages : pages_of links ≡ pages_of was
    same_pages = ap (λ (l : List Link). pages_of l) cut ∙ pages_mid before (page, items) behind ∙ sym (pages_mid before (page, now) behind)
        ∙ ap (λ (l : List Link). pages_of l) (front_cut before ll.front last page ll.items now behind ll.cut)

    long : length later + 1 ≡ length links
    long =
        let all = ap (λ (l : List Link). length l) cut in
        let left = ap (λ (l : List Link). length l) (front_left before ll.front last ll.items behind ll.cut) in
        omega (arith, all, left, length-append before ((page, items) ∷ behind), length-append before behind)

    done : HoldsBeside g new kind ends later (page ∷ free) × KeepsPages g mid new (pages_of was) free (pages_of later) (page ∷ free)
    done = shorter ends ll.front behind ll.items now free was_held at first_is
        (last_is behind behind_linked at (there.held.last ∙ last_mid 0 before (page, now) behind))
        (let bound = held.held.bound in omega (arith, bound, long, pages_is))

    pub removed_page : (later : List Link) × (rest : List ℕ) × HoldsBeside g new kind ends later rest × (entries_of later ≡ front ++ back)
        × KeepsPages g old new (pages_of links) free (pages_of later) rest × (chain.pages ≡ length links → ends.pages ≡ length later)
    removed_page = (
      later,
      page ∷ free,
      done.0,
      ap (λ (l : List Link). entries_of l) (sym (front_left before ll.front last ll.items behind ll.cut)) ∙ sym (entries_without before page now behind none) ∙ entries,
      feet.keeps_join g old mid new (pages_of links) free (pages_of links) free (pages_of later) (page ∷ free) keeps
          (subst (λ (l : List ℕ). KeepsPages g mid new l free (pages_of later) (page ∷ free)) (sym same_pages) done.1),
      λ exact. omega (arith, exact, long, pages_is),
    )
